-- Bytes that are appended, part by part.
use Rattle.tiny_emit.proofs.Common.{◌≡◌, ◌<◌, ◌≤◌, ℕ, ◌+◌, List, [], ◌∷◌, ◌++◌, length, map, drop, get_or, refl, sym, ap, ◌∙◌, append_assoc, append-nil}
use Rattle.tiny_emit.proofs.Common.{drop_all, Instr, LdcW, Invokevirtual, Operator, Step, out-Step, arguments_of, steps_of, expr_tree, step_tree, term_tree}
use Rattle.tiny_emit.proofs.Common.{drop_item, expr_tree_out, step_tree_out, joined, none, code_bytes, Places, arguments_code, expr_code, operator_code}
use Rattle.tiny_emit.proofs.Common.{steps_code, term_code}
use Rattle.tiny_tree.specs.declared.tree.Expr.{Expr, out-Expr}
use Rattle.tiny_tree.specs.Tree as tree

pub then_bytes : (old mid new : List ℕ) (a b : List Instr) → mid ≡ old ++ code_bytes a → new ≡ mid ++ code_bytes b →
    new ≡ old ++ code_bytes (a ++ b)
then_bytes old mid new a b h k =
    k ∙ ap (λ (x : List ℕ). x ++ code_bytes b) h ∙ append_assoc old (code_bytes a) (code_bytes b)
    ∙ ap (λ (x : List ℕ). old ++ x) (sym (joined a b))

module _ (p : Places) (local : ℕ) where
  pub expr_bytes : (old mid new : List ℕ) (e : Expr) (items : List Step) → items ≡ (out-Expr e).rest →
      mid ≡ old ++ code_bytes (term_code p local (term_tree (out-Expr e).first)) →
      new ≡ mid ++ code_bytes (steps_code p local (steps_of (map step_tree items))) → new ≡ old ++ code_bytes (expr_code p local (expr_tree e))
  expr_bytes old mid new e items is first rest =
      then_bytes old mid new (term_code p local (term_tree (out-Expr e).first))
      (steps_code p local (steps_of (map step_tree (out-Expr e).rest))) first
      (rest ∙ ap (λ (l : List Step). mid ++ code_bytes (steps_code p local (steps_of (map step_tree l)))) is)
      ∙ ap (λ (t : tree.Expr). old ++ code_bytes (expr_code p local t)) (sym (expr_tree_out e))

  pub call_bytes : (old a b new : List ℕ) (f : ℕ) (args : tree.Arguments) (i : Instr) → i ≡ Invokevirtual (p.entry f) →
      a ≡ old ++ code_bytes (LdcW 0 ∷ []) → b ≡ a ++ code_bytes (arguments_code p local args) → new ≡ b ++ code_bytes (i ∷ []) →
      new ≡ old ++ code_bytes (term_code p local (tree.Called f args))
  call_bytes old a b new f args i is first inner last =
      let code : List Instr = arguments_code p local args in
      let last' : new ≡ b ++ code_bytes (Invokevirtual (p.entry f) ∷ []) = last ∙ ap (λ (x : Instr). b ++ code_bytes (x ∷ [])) is in
      then_bytes old a new (LdcW 0 ∷ []) (code ++ Invokevirtual (p.entry f) ∷ []) first
      (then_bytes a b new code (Invokevirtual (p.entry f) ∷ []) inner last')

  -- one more step
  pub step_bytes : (old a b new : List ℕ) (ss : List Step) (i : ℕ) (s : Step) → i < length ss → s ≡ get_or ss i s →
      old ≡ a ++ code_bytes (steps_code p local (steps_of (map step_tree (drop i ss)))) →
      b ≡ a ++ code_bytes (term_code p local (term_tree (out-Step s).term)) → new ≡ b ++ code_bytes (operator_code (out-Step s).operator ∷ []) →
      old ≡ new ++ code_bytes (steps_code p local (steps_of (map step_tree (drop (i + 1) ss))))
  step_bytes old a b new ss i s lt is all first last =
      let t : List Instr = term_code p local (term_tree (out-Step s).term) in
      let o : List Instr = operator_code (out-Step s).operator ∷ [] in
      let rest : List Instr = steps_code p local (steps_of (map step_tree (drop (i + 1) ss))) in
      all
      ∙ ap (λ (l : List Step). a ++ code_bytes (steps_code p local (steps_of (map step_tree l)))) (drop_item ss i s lt is)
      ∙ ap (λ (x : Operator × tree.Term). a ++ code_bytes (term_code p local x.1 ++ (operator_code x.0 ∷ rest))) (step_tree_out s)
      ∙ sym (then_bytes a b (new ++ code_bytes rest) t (o ++ rest) first (then_bytes b new (new ++ code_bytes rest) o rest last refl))

  -- one more argument
  pub argument_bytes : (old a new : List ℕ) (es : List Expr) (i : ℕ) (e : Expr) → i < length es → e ≡ get_or es i e →
      old ≡ a ++ code_bytes (arguments_code p local (arguments_of (map expr_tree (drop i es)))) →
      new ≡ a ++ code_bytes (expr_code p local (expr_tree e)) →
      old ≡ new ++ code_bytes (arguments_code p local (arguments_of (map expr_tree (drop (i + 1) es))))
  argument_bytes old a new es i e lt is all first =
      let rest : List Instr = arguments_code p local (arguments_of (map expr_tree (drop (i + 1) es))) in
      all
      ∙ ap (λ (l : List Expr). a ++ code_bytes (arguments_code p local (arguments_of (map expr_tree l)))) (drop_item es i e lt is)
      ∙ sym (then_bytes a new (new ++ code_bytes rest) (expr_code p local (expr_tree e)) rest first refl)

  -- no further step
  pub steps_done : (whole new : List ℕ) (ss : List Step) (i : ℕ) → length ss ≤ i →
      whole ≡ new ++ code_bytes (steps_code p local (steps_of (map step_tree (drop i ss)))) → new ≡ whole
  steps_done whole new ss i h all =
      sym (all ∙ ap (λ (l : List Step). new ++ code_bytes (steps_code p local (steps_of (map step_tree l)))) (drop_all i ss h)
      ∙ ap (λ (x : List ℕ). new ++ x) none ∙ append-nil new)

  -- no further argument
  pub arguments_done : (whole new : List ℕ) (es : List Expr) (i : ℕ) → length es ≤ i →
      whole ≡ new ++ code_bytes (arguments_code p local (arguments_of (map expr_tree (drop i es)))) → new ≡ whole
  arguments_done whole new es i h all =
      sym (all ∙ ap (λ (l : List Expr). new ++ code_bytes (arguments_code p local (arguments_of (map expr_tree l)))) (drop_all i es h)
      ∙ ap (λ (x : List ℕ). new ++ x) none ∙ append-nil new)
