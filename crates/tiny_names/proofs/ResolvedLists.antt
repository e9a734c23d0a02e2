-- Resolved lists.
use Rattle.tiny_names.proofs.Common.{◌≡◌, ℕ, ◌≤◌, [], ◌∷◌, List, length, take, map, refl, ap, sym, ◌∙◌, Option, Operator, take_all, Block, out-Block, Statement}
use Rattle.tiny_names.proofs.Common.{fold_out-Block, Signature, arguments, expr, statement, statements, steps, term}
use Rattle.tiny_draft.specs.Tree as draft
use Rattle.tiny_draft.specs.Prelude.{block_level, block_tree, branches_level, statement_level, statement_tree}
use Rattle.tiny_tree.specs.Tree as tree

module _ (known : ℕ → Option Signature) (names : List ℕ) where
  abbrev pub step_of : Operator × draft.Term → Operator × tree.Term
  step_of s = (s.0, term known names s.1)

  pub steps_of_map : (ss : List (Operator × draft.Term)) → steps known names (draft.steps_of ss) ≡ tree.steps_of (map step_of ss)
  steps_of_map [] = refl
  steps_of_map (s ∷ ss) = ap (tree.step s.0 (term known names s.1)) (steps_of_map ss)

  pub arguments_of_map : (es : List draft.Expr) → arguments known names (draft.arguments_of es) ≡ tree.arguments_of (map (expr known names) es)
  arguments_of_map [] = refl
  arguments_of_map (e ∷ es) = ap (tree.argument (expr known names e)) (arguments_of_map es)

  pub statements_of_map : (ss : List draft.Statement) → statements known names (draft.statements_of ss) ≡ tree.statements_of (map (statement known names) ss)
  statements_of_map [] = refl
  statements_of_map (s ∷ ss) = ap (tree.statement (statement known names s)) (statements_of_map ss)

block_out : (b : Block) → block_tree b ≡ draft.statements_of (map statement_tree (out-Block b).statements)
block_out b = fold_out-Block draft.Statement draft.Statements (draft.Statements × draft.Else) statement_level block_level branches_level b

module _ (known : ℕ → Option Signature) (names : List ℕ) where
  pub block_resolved : (b : Block) (items : List Statement) (i : ℕ) (found : List tree.Statement) → items ≡ (out-Block b).statements → length items ≤ i
      → found ≡ map (statement known names) (map statement_tree (take i items))
      → tree.statements_of found ≡ statements known names (block_tree b)
  block_resolved b items i found is all more =
      ap tree.statements_of (more ∙ ap (λ l. map (statement known names) (map statement_tree l)) (take_all i items all ∙ is))
      ∙ (sym (statements_of_map known names (map statement_tree (out-Block b).statements)) ∙ ap (statements known names) (sym (block_out b)))
