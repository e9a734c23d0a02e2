-- The code of blocks, statement by statement.
use Rattle.tiny_emit.proofs.Common.{◌≡◌, ◌<◌, ◌≤◌, ℕ, ◌+◌, List, length, map, drop, get_or, sym, subst, drop_all, Statement, statements_of, statement_tree}
use Rattle.tiny_emit.proofs.Common.{drop_item, Places, statement_code, statements_code, statement_lines, statements_lines, statement_lined, Text, AddsCode}
use Rattle.tiny_emit.proofs.Common.{no_code}
use Rattle.tiny_tree.specs.Tree as tree
use Rattle.tiny_emit.proofs.Sides.{then_code}

module _ (p : Places) (local : ℕ) where
  abbrev trees : List Statement → tree.Statements
  trees ss = statements_of (map statement_tree ss)

  abbrev Added : Text → Text → List Statement → Type 0
  Added a b ss = AddsCode a b (statements_code p local (trees ss)) (statements_lines (trees ss))

  -- one more statement
  pub statement_added : (a b end : Text) (ss : List Statement) (i : ℕ) (s : Statement) → i < length ss → s ≡ get_or ss i s →
      AddsCode a b (statement_code p local (statement_tree s)) (statement_lines (statement_tree s)) →
      Added b end (drop (i + 1) ss) → Added a end (drop i ss)
  statement_added a b end ss i s lt is h k =
      subst (Added a end) (sym (drop_item ss i s lt is))
      (then_code a b end (statement_code p local (statement_tree s)) (statements_code p local (trees (drop (i + 1) ss)))
      (statement_lines (statement_tree s)) (statements_lines (trees (drop (i + 1) ss))) (statement_lined p local (statement_tree s)) h k)

  -- no further statement
  pub statements_done : (a : Text) (ss : List Statement) (i : ℕ) → length ss ≤ i → Added a a (drop i ss)
  statements_done a ss i h = subst (Added a a) (sym (drop_all i ss h)) (no_code a)
