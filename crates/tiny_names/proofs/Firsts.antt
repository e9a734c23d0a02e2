-- Lists of faults, one after the other.
use Rattle.tiny_names.proofs.Common.{◌≡◌, ℕ, ◌+◌, ◌<◌, [], ◌∷◌, ◌++◌, List, length, get_or, drop, map, refl, ap, ◌∙◌, arith, Option, Some, None, Expr, Step}
use Rattle.tiny_names.proofs.Common.{out-Step, fold_out-Step, Operator, drop_item, Fault, Signature, count, first, step_faults, term_faults}
use Rattle.tiny_draft.specs.Prelude.{arguments_of, steps_of, call_level, expr_level, expr_tree, step_level, step_tree, sum_level, term_level, term_tree}
use Rattle.tiny_draft.specs.Tree as tree

pub first_some : (a b : List Fault) (f : Fault) → Some f ≡ first a → Some f ≡ first (a ++ b)
first_some [] b f h = absurd (cc)
first_some (x ∷ a) b f h = h

pub first_none : (a b : List Fault) → None ≡ first a → first (a ++ b) ≡ first b
first_none [] b h = refl
first_none (x ∷ a) b h = absurd (cc)

pub count_arguments : (es : List Expr) → count (arguments_of (map expr_tree es)) ≡ length es
count_arguments [] = refl
count_arguments (e ∷ es) = let r = count_arguments es in omega (arith, r)

step_tree_out : (s : Step) → step_tree s ≡ ((out-Step s).operator, term_tree (out-Step s).term)
step_tree_out s = fold_out-Step tree.Expr tree.Term tree.Term (Operator × tree.Term) tree.Expr expr_level term_level call_level step_level sum_level s

pub steps_at : (known : ℕ → Option Signature) (seen : List ℕ) (ss : List Step) (i : ℕ) (s : Step) → i < length ss → s ≡ get_or ss i s
    → step_faults known seen (steps_of (map step_tree (drop i ss)))
    ≡ term_faults known seen (term_tree (out-Step s).term) ++ step_faults known seen (steps_of (map step_tree (drop (i + 1) ss)))
steps_at known seen ss i s lt is = ap (λ l. step_faults known seen (steps_of (map step_tree l))) (drop_item ss i s lt is)
    ∙ ap (λ (x : Operator × tree.Term). term_faults known seen x.1 ++ step_faults known seen (steps_of (map step_tree (drop (i + 1) ss)))) (step_tree_out s)
