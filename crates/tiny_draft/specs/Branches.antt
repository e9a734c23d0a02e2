-- The trees of the blocks of an `if`.
use Rattle.std.specs.Prelude.{Option}
use Rattle.std.specs.Option.{option_map}
use Rattle.tiny_draft.specs.declared.tree.Block.{Block}
use Rattle.tiny_draft.specs.declared.tree.Branches.{Branches, fold-Branches}
use Rattle.tiny_draft.specs.Tree as tree
use Rattle.tiny_draft.specs.Tree.{else_of}
use Rattle.tiny_draft.specs.View.{block_level, block_tree, branches_level, statement_level}

-- what follows `else`, which may be missing
abbrev pub else_tree : Option Block → tree.Else
else_tree b = else_of (option_map block_tree b)

abbrev pub branches_tree : Branches → tree.Statements × tree.Else
branches_tree = fold-Branches tree.Statement tree.Statements (tree.Statements × tree.Else) statement_level block_level branches_level
