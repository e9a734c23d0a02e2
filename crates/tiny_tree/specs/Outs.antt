-- The tree of an expression and of a step by the trees of its parts, and a list from one of its items on.
use Rattle.std.proofs.Common.{◌≡◌, ◌<◌, ℕ, suc, ◌+◌, List, ◌∷◌, length, map, drop, drop-cons, get_or, add-one, sym, ap, ◌∙◌}
use Rattle.tiny_tree.specs.declared.tree.Operator.{Operator}
use Rattle.tiny_tree.specs.declared.tree.Term.TheFolds.{fold_out-Expr, fold_out-Step}
use Rattle.tiny_tree.specs.declared.tree.Expr.{Expr, out-Expr}
use Rattle.tiny_tree.specs.declared.tree.Step.{Step, out-Step}
use Rattle.tiny_tree.specs.Tree as tree
use Rattle.tiny_tree.specs.Tree.{steps_of}
use Rattle.tiny_tree.specs.View.{expr_level, expr_tree, step_level, step_tree, term_level, term_tree}

pub expr_tree_out : (e : Expr) → expr_tree e ≡ tree.Sum (term_tree (out-Expr e).first) (steps_of (map step_tree (out-Expr e).rest))
expr_tree_out e = fold_out-Expr tree.Term tree.Expr (Operator × tree.Term) term_level expr_level step_level e

pub step_tree_out : (s : Step) → step_tree s ≡ ((out-Step s).operator, term_tree (out-Step s).term)
step_tree_out s = fold_out-Step tree.Term tree.Expr (Operator × tree.Term) term_level expr_level step_level s

pub drop_item : {A : Type 0} (xs : List A) (i : ℕ) (x : A) → i < length xs → x ≡ get_or xs i x → drop i xs ≡ x ∷ drop (i + 1) xs
drop_item xs i x lt is = rw add-one (drop-cons xs i x lt ∙ ap (λ y. y ∷ drop (suc i) xs) (sym is))
