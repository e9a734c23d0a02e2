-- A list of tokens spells at most one tree.
use Rattle.tiny_grammar.proofs.Common.{◌≡◌, ℕ, false, List, [], ◌∷◌, ◌++◌, refl, ap, ap₂, sym, ◌∙◌, append_assoc, Some, None, ◌==◌, option_map, eqb-false}
use Rattle.tiny_grammar.proofs.Common.{Operator, Comparison, Word, Function, Term, Number, Variable, Called, Get, Group, Expr, Sum, no_steps, step}
use Rattle.tiny_grammar.proofs.Common.{no_arguments, argument, Cond, Statement, Var, Assign, Calls, If, While, Return, Put, Halt, Else, no_else, else_block}
use Rattle.tiny_grammar.proofs.Common.{no_statements, statement, Kind, Sign, Token}
use Rattle.tiny_tree.specs.declared.tree.Operator.TheVariants as operators
use Rattle.tiny_draft.specs.declared.tree.Comparison.TheVariants as comparisons
use Rattle.tiny_draft.specs.Tree as tree
use Rattle.tiny_draft.specs.declared.token.Kind.TheVariants as kinds
use Rattle.tiny_draft.specs.declared.token.Sign.TheVariants as signs
use Rattle.tiny_grammar.specs.Prelude.{first_kind, rank, bare, comparison, end, operator, sign, sign_at, word, spell_arguments, spell_block, spell_cond, spell_else, spell_expr, spell_function, spell_functions, spell_more, spell_more_parameters, spell_parameters, spell_statement, spell_statements, spell_steps, spell_term, ATerm, Steps, begins_call, begins_else, begins_steps, comparison_of, operator_of}

-- such tokens may stand after a term, an expression and a statement
abbrev AfterTerm : List Token → Type 0
AfterTerm x = begins_call (first_kind x) ≡ None

abbrev AfterExpr : List Token → Type 0
AfterExpr x = begins_steps (first_kind x) ≡ None

abbrev AfterStatement : List Token → Type 0
AfterStatement x = begins_else (first_kind x) ≡ None

-- both are the same, and so is what stands after them
abbrev Same : {T : Type 0} → T → T → List Token → List Token → Type 0
Same t u x y = (t ≡ u) × (x ≡ y)

abbrev tag_of : Kind → ℕ
tag_of (kinds.Name n) = 100
tag_of (kinds.Number n) = 101
tag_of (kinds.Of s) = rank s
tag_of kinds.Bad = 102
tag_of kinds.Unread = 103

abbrev tag : List Token → ℕ
tag ts = tag_of (first_kind ts)

clash : (a b : List Token) → (tag a == tag b) ≡ false → a ≡ b → ⊥
clash a b n h = eqb-false (tag a) (tag b) n (ap tag h)

no_call : (x r : List Token) → AfterTerm x → x ≡ sign signs.Open ∷ r → ⊥
no_call x r p e = let z = sym p ∙ ap (λ a. begins_call (first_kind a)) e in absurd (cc)

operator_back : (o : Operator) → operator_of (operator o).kind ≡ Some o
operator_back operators.Plus = refl
operator_back _ = refl

same_operator : (o p : Operator) → operator o ≡ operator p → o ≡ p
same_operator o p h = let z : Some o ≡ Some p = sym (operator_back o) ∙ (ap (λ t. operator_of t.kind) h ∙ operator_back p) in cc

no_step : (o : Operator) (x r : List Token) → AfterExpr x → x ≡ operator o ∷ r → ⊥
no_step o x r p e =
    let a : begins_steps (operator o).kind ≡ Some (ATerm ∷ Steps ∷ []) = ap (option_map (λ o. ATerm ∷ Steps ∷ [])) (operator_back o) in
    let z : None ≡ Some (ATerm ∷ Steps ∷ []) = sym p ∙ (ap (λ a. begins_steps (first_kind a)) e ∙ a) in
    absurd (cc)

comparison_back : (c : Comparison) → comparison_of (comparison c).kind ≡ Some c
comparison_back comparisons.Equal = refl
comparison_back _ = refl

same_comparison : (c d : Comparison) → comparison c ≡ comparison d → c ≡ d
same_comparison c d h = let z : Some c ≡ Some d = sym (comparison_back c) ∙ (ap (λ t. comparison_of t.kind) h ∙ comparison_back d) in cc

after_comparison : (c : Comparison) (x : List Token) → AfterTerm (comparison c ∷ x) × AfterExpr (comparison c ∷ x)
after_comparison comparisons.Equal x = (refl, refl)
after_comparison _ x = (refl, refl)

no_else_here : (x r : List Token) → AfterStatement x → x ≡ sign signs.Else ∷ r → ⊥
no_else_here x r p e = let z = sym p ∙ ap (λ a. begins_else (first_kind a)) e in absurd (cc)

same_word : (v w : Word) → word v ≡ word w → v ≡ w
same_word v w h = let k : kinds.Name v.name ≡ kinds.Name w.name = ap (λ t. t.kind) h in let n : v.name ≡ w.name = cc in let l : v.line ≡ w.line = ap (λ t. t.line) h in ap₂ (λ n l. record { name = n; line = l }) n l

after_operator : (o : Operator) (x : List Token) → AfterTerm (operator o ∷ x)
after_operator operators.Plus x = refl
after_operator _ x = refl

after_step : (ss : tree.Steps) (x : List Token) → AfterTerm x → AfterTerm (spell_steps ss ++ x)
after_step no_steps x q = q
after_step (step o t ss) x q = after_operator o ((spell_term t ++ spell_steps ss) ++ x)

after_more : (es : tree.Arguments) (x : List Token) → AfterTerm (spell_more es ++ x) × AfterExpr (spell_more es ++ x)
after_more no_arguments x = (refl, refl)
after_more (argument e es) x = (refl, refl)

split2 : (a b x : List Token) (c d y : List Token) → (a ++ b) ++ x ≡ (c ++ d) ++ y → a ++ (b ++ x) ≡ c ++ (d ++ y)
split2 a b x c d y h = sym (append_assoc a b x) ∙ (h ∙ append_assoc c d y)

mutual
  one_term : (t u : Term) (x y : List Token) → AfterTerm x → AfterTerm y → spell_term t ++ x ≡ spell_term u ++ y → Same t u x y
  one_term (Number n) (Number m) x y p q h = (let b : bare (kinds.Number n) ≡ bare (kinds.Number m) = cc in let k : kinds.Number n ≡ kinds.Number m = ap (λ t. t.kind) b in let e : n ≡ m = cc in ap Number e, cc)
  one_term (Variable v) (Variable w) x y p q h = (let e : word v ≡ word w = cc in ap Variable (same_word v w e), cc)
  one_term (Variable v) (Called w es) x y p q h = let e : x ≡ sign signs.Open ∷ (spell_arguments es ++ y) = cc in absurd (no_call x (spell_arguments es ++ y) p e)
  one_term (Called w es) (Variable v) x y p q h = let e : sign signs.Open ∷ (spell_arguments es ++ x) ≡ y = cc in absurd (no_call y (spell_arguments es ++ x) q (sym e))
  one_term (Called v es) (Called w fs) x y p q h =
      let e : word v ≡ word w = cc in
      let more : spell_arguments es ++ x ≡ spell_arguments fs ++ y = cc in
      let r = one_arguments es fs x y more in
      (ap₂ Called (same_word v w e) r.0, r.1)
  one_term Get Get x y p q h = (refl, cc)
  one_term (Group d) (Group e) x y p q h =
      let more : (spell_expr d ++ (sign signs.Close ∷ [])) ++ x ≡ (spell_expr e ++ (sign signs.Close ∷ [])) ++ y = cc in
      let r = one_expr d e (sign signs.Close ∷ x) (sign signs.Close ∷ y) refl refl refl refl (split2 (spell_expr d) (sign signs.Close ∷ []) x (spell_expr e) (sign signs.Close ∷ []) y more) in
      let s = r.1 in
      (ap Group r.0, cc)
  one_term _ _ x y p q h = absurd (clash _ _ refl h)

  one_expr : (d e : Expr) (x y : List Token) → AfterTerm x → AfterTerm y → AfterExpr x → AfterExpr y → spell_expr d ++ x ≡ spell_expr e ++ y → Same d e x y
  one_expr (Sum t ss) (Sum u rs) x y p q v w h =
      let r = one_term t u (spell_steps ss ++ x) (spell_steps rs ++ y) (after_step ss x p) (after_step rs y q) (split2 (spell_term t) (spell_steps ss) x (spell_term u) (spell_steps rs) y h) in
      let s = one_steps ss rs x y p q v w r.1 in
      (ap₂ Sum r.0 s.0, s.1)

  one_steps : (ss rs : tree.Steps) (x y : List Token) → AfterTerm x → AfterTerm y → AfterExpr x → AfterExpr y → spell_steps ss ++ x ≡ spell_steps rs ++ y → Same ss rs x y
  one_steps no_steps no_steps x y p q v w h = (refl, h)
  one_steps no_steps (step o u rs) x y p q v w h = absurd (no_step o x ((spell_term u ++ spell_steps rs) ++ y) v h)
  one_steps (step o t ss) no_steps x y p q v w h = absurd (no_step o y ((spell_term t ++ spell_steps ss) ++ x) w (sym h))
  one_steps (step o t ss) (step n u rs) x y p q v w h =
      let e : operator o ≡ operator n = cc in
      let more : (spell_term t ++ spell_steps ss) ++ x ≡ (spell_term u ++ spell_steps rs) ++ y = cc in
      let r = one_term t u (spell_steps ss ++ x) (spell_steps rs ++ y) (after_step ss x p) (after_step rs y q) (split2 (spell_term t) (spell_steps ss) x (spell_term u) (spell_steps rs) y more) in
      let s = one_steps ss rs x y p q v w r.1 in
      (ap (λ i. step i t ss) (same_operator o n e) ∙ ap₂ (step n) r.0 s.0, s.1)

  one_arguments : (es fs : tree.Arguments) (x y : List Token) → spell_arguments es ++ x ≡ spell_arguments fs ++ y → Same es fs x y
  one_arguments no_arguments no_arguments x y h = (refl, cc)
  one_arguments no_arguments (argument (Sum (Number n) ss) fs) x y h = absurd (clash _ _ refl h)
  one_arguments no_arguments (argument (Sum _ ss) fs) x y h = absurd (clash _ _ refl h)
  one_arguments (argument (Sum (Number n) ss) fs) no_arguments x y h = absurd (clash _ _ refl h)
  one_arguments (argument (Sum _ ss) fs) no_arguments x y h = absurd (clash _ _ refl h)
  one_arguments (argument d es) (argument e fs) x y h =
      let m = after_more es x in
      let n = after_more fs y in
      let r = one_expr d e (spell_more es ++ x) (spell_more fs ++ y) m.0 n.0 m.1 n.1 (split2 (spell_expr d) (spell_more es) x (spell_expr e) (spell_more fs) y h) in
      let s = one_more es fs x y r.1 in
      (ap₂ argument r.0 s.0, s.1)

  one_more : (es fs : tree.Arguments) (x y : List Token) → spell_more es ++ x ≡ spell_more fs ++ y → Same es fs x y
  one_more no_arguments no_arguments x y h = (refl, cc)
  one_more no_arguments (argument e fs) x y h = absurd (clash _ _ refl h)
  one_more (argument e fs) no_arguments x y h = absurd (clash _ _ refl h)
  one_more (argument d es) (argument e fs) x y h =
      let more : (spell_expr d ++ spell_more es) ++ x ≡ (spell_expr e ++ spell_more fs) ++ y = cc in
      let m = after_more es x in
      let n = after_more fs y in
      let r = one_expr d e (spell_more es ++ x) (spell_more fs ++ y) m.0 n.0 m.1 n.1 (split2 (spell_expr d) (spell_more es) x (spell_expr e) (spell_more fs) y more) in
      let s = one_more es fs x y r.1 in
      (ap₂ argument r.0 s.0, s.1)

one_cond : (c d : Cond) (x y : List Token) → AfterTerm x → AfterTerm y → AfterExpr x → AfterExpr y → spell_cond c ++ x ≡ spell_cond d ++ y → Same c d x y
one_cond (tree.Compare c a b) (tree.Compare d e f) x y p q v w h =
    let m = after_comparison c (spell_expr b ++ x) in
    let n = after_comparison d (spell_expr f ++ y) in
    let r = one_expr a e (comparison c ∷ (spell_expr b ++ x)) (comparison d ∷ (spell_expr f ++ y)) m.0 n.0 m.1 n.1
    (split2 (spell_expr a) (comparison c ∷ spell_expr b) x (spell_expr e) (comparison d ∷ spell_expr f) y h) in
    let k = r.1 in
    let same : comparison c ≡ comparison d = cc in
    let more : spell_expr b ++ x ≡ spell_expr f ++ y = cc in
    let s = one_expr b f x y p q v w more in
    (ap (λ i. tree.Compare i a b) (same_comparison c d same) ∙ ap₂ (tree.Compare d) r.0 s.0, s.1)

-- `e ;`
one_value : (d e : Expr) (x y : List Token) → (spell_expr d ++ end) ++ x ≡ (spell_expr e ++ end) ++ y → Same d e x y
one_value d e x y h =
    let r = one_expr d e (sign signs.Semicolon ∷ x) (sign signs.Semicolon ∷ y) refl refl refl refl (split2 (spell_expr d) end x (spell_expr e) end y h) in
    let m = r.1 in
    (r.0, cc)

-- `( .. ) ;`
one_call : (es fs : tree.Arguments) (x y : List Token) → (spell_arguments es ++ end) ++ x ≡ (spell_arguments fs ++ end) ++ y → Same es fs x y
one_call es fs x y h =
    let r = one_arguments es fs (sign signs.Semicolon ∷ x) (sign signs.Semicolon ∷ y) (split2 (spell_arguments es) end x (spell_arguments fs) end y h) in
    let m = r.1 in
    (r.0, cc)

abbrev close : List Token
close = sign signs.End ∷ []

after_statement : (ss : tree.Statements) (x : List Token) → AfterStatement (spell_statements ss ++ (sign signs.End ∷ x))
after_statement no_statements x = refl
after_statement (statement (Var w e) ss) x = refl
after_statement (statement _ ss) x = refl

abbrev OneList : tree.Statements → tree.Statements → Type 0
OneList a b = (x y : List Token) → spell_statements a ++ (sign signs.End ∷ x) ≡ spell_statements b ++ (sign signs.End ∷ y) → Same a b x y

one_body : (a b : tree.Statements) → OneList a b → (x y : List Token) → spell_block a ++ x ≡ spell_block b ++ y → Same a b x y
one_body a b rec x y h =
    let inner : (spell_statements a ++ close) ++ x ≡ (spell_statements b ++ close) ++ y = cc in
    rec x y (split2 (spell_statements a) close x (spell_statements b) close y inner)

-- a line, a condition and a block
one_test : (s : Sign) (l m : ℕ) (c d : Cond) (a b : tree.Statements) → OneList a b → (x y : List Token)
    → sign_at s l ∷ (spell_cond c ++ (spell_block a ++ x)) ≡ sign_at s m ∷ (spell_cond d ++ (spell_block b ++ y)) → (l ≡ m) × (c ≡ d) × (a ≡ b) × (x ≡ y)
one_test s l m c d a b rec x y h =
    let at : sign_at s l ≡ sign_at s m = cc in
    let more : spell_cond c ++ (spell_block a ++ x) ≡ spell_cond d ++ (spell_block b ++ y) = cc in
    let r = one_cond c d (spell_block a ++ x) (spell_block b ++ y) refl refl refl refl more in
    let t = one_body a b rec x y r.1 in
    (ap (λ t. t.line) at, r.0, t.0, t.1)

one_return : (l m : ℕ) (d e : Expr) (x y : List Token) → sign_at signs.Return l ∷ ((spell_expr d ++ end) ++ x) ≡ sign_at signs.Return m ∷ ((spell_expr e ++ end) ++ y)
    → (l ≡ m) × (d ≡ e) × (x ≡ y)
one_return l m d e x y h =
    let at : sign_at signs.Return l ≡ sign_at signs.Return m = cc in
    let more : (spell_expr d ++ end) ++ x ≡ (spell_expr e ++ end) ++ y = cc in
    let r = one_value d e x y more in
    (ap (λ t. t.line) at, r.0, r.1)

far : (a b c x : List Token) → (a ++ (b ++ c)) ++ x ≡ a ++ (b ++ (c ++ x))
far a b c x = append_assoc a (b ++ c) x ∙ ap (λ z. a ++ z) (append_assoc b c x)

mutual
  one_statement : (s r : Statement) (x y : List Token) → AfterStatement x → AfterStatement y → spell_statement s ++ x ≡ spell_statement r ++ y → Same s r x y
  one_statement (Var v d) (Var w e) x y p q h =
      let n : word v ≡ word w = cc in
      let more : (spell_expr d ++ end) ++ x ≡ (spell_expr e ++ end) ++ y = cc in
      let r = one_value d e x y more in
      (ap₂ Var (same_word v w n) r.0, r.1)
  one_statement (Assign v d) (Assign w e) x y p q h =
      let n : word v ≡ word w = cc in
      let more : (spell_expr d ++ end) ++ x ≡ (spell_expr e ++ end) ++ y = cc in
      let r = one_value d e x y more in
      (ap₂ Assign (same_word v w n) r.0, r.1)
  one_statement (Calls v es) (Calls w fs) x y p q h =
      let n : word v ≡ word w = cc in
      let more : (spell_arguments es ++ end) ++ x ≡ (spell_arguments fs ++ end) ++ y = cc in
      let r = one_call es fs x y more in
      (ap₂ Calls (same_word v w n) r.0, r.1)
  one_statement (Assign v d) (Calls w es) x y p q h =
      let more : sign signs.Assign ∷ ((spell_expr d ++ end) ++ x) ≡ sign signs.Open ∷ ((spell_arguments es ++ end) ++ y) = cc in absurd (clash _ _ refl more)
  one_statement (Calls w es) (Assign v d) x y p q h =
      let more : sign signs.Open ∷ ((spell_arguments es ++ end) ++ x) ≡ sign signs.Assign ∷ ((spell_expr d ++ end) ++ y) = cc in absurd (clash _ _ refl more)
  one_statement (If l c a o) (If m d b n) x y p q h =
      let e = ap (λ z. sign_at signs.If l ∷ z) (sym (far (spell_cond c) (spell_block a) (spell_else o) x)) ∙ (h ∙ ap (λ z. sign_at signs.If m ∷ z) (far (spell_cond d) (spell_block b) (spell_else n) y)) in
      let r = one_test signs.If l m c d a b (one_statements a b) (spell_else o ++ x) (spell_else n ++ y) e in
      let s = one_else o n x y p q r.3 in
      (ap (λ i. If i c a o) r.0 ∙ (ap₂ (λ i z. If m i z o) r.1 r.2 ∙ ap (If m d b) s.0), s.1)
  one_statement (While l c a) (While m d b) x y p q h =
      let e = ap (λ z. sign_at signs.While l ∷ z) (sym (append_assoc (spell_cond c) (spell_block a) x)) ∙ (h ∙ ap (λ z. sign_at signs.While m ∷ z) (append_assoc (spell_cond d) (spell_block b) y)) in
      let r = one_test signs.While l m c d a b (one_statements a b) x y e in
      (ap (λ i. While i c a) r.0 ∙ ap₂ (λ i z. While m i z) r.1 r.2, r.3)
  one_statement (Return l d) (Return m e) x y p q h =
      let r = one_return l m d e x y h in
      (ap (λ i. Return i d) r.0 ∙ ap (Return m) r.1, r.2)
  one_statement (Put d) (Put e) x y p q h =
      let more : (spell_expr d ++ end) ++ x ≡ (spell_expr e ++ end) ++ y = cc in
      let r = one_value d e x y more in
      (ap Put r.0, r.1)
  one_statement Halt Halt x y p q h = (refl, cc)
  one_statement _ _ x y p q h = absurd (clash _ _ refl h)

  one_else : (o n : Else) (x y : List Token) → AfterStatement x → AfterStatement y → spell_else o ++ x ≡ spell_else n ++ y → Same o n x y
  one_else no_else no_else x y p q h = (refl, h)
  one_else no_else (else_block b) x y p q h = absurd (no_else_here x (spell_block b ++ y) p h)
  one_else (else_block a) no_else x y p q h = absurd (no_else_here y (spell_block a ++ x) q (sym h))
  one_else (else_block a) (else_block b) x y p q h =
      let more : spell_block a ++ x ≡ spell_block b ++ y = cc in
      let r = one_body a b (one_statements a b) x y more in
      (ap else_block r.0, r.1)

  -- up to the brace that ends the block
  one_statements : (ss rs : tree.Statements) (x y : List Token) → spell_statements ss ++ (sign signs.End ∷ x) ≡ spell_statements rs ++ (sign signs.End ∷ y) → Same ss rs x y
  one_statements no_statements no_statements x y h = (refl, cc)
  one_statements no_statements (statement (Var v d) rs) x y h = absurd (clash _ _ refl h)
  one_statements no_statements (statement _ rs) x y h = absurd (clash _ _ refl h)
  one_statements (statement (Var v d) ss) no_statements x y h = absurd (clash _ _ refl h)
  one_statements (statement _ ss) no_statements x y h = absurd (clash _ _ refl h)
  one_statements (statement s ss) (statement r rs) x y h =
      let a = one_statement s r (spell_statements ss ++ (sign signs.End ∷ x)) (spell_statements rs ++ (sign signs.End ∷ y)) (after_statement ss x) (after_statement rs y)
      (split2 (spell_statement s) (spell_statements ss) (sign signs.End ∷ x) (spell_statement r) (spell_statements rs) (sign signs.End ∷ y) h) in
      let b = one_statements ss rs x y a.1 in
      (ap₂ statement a.0 b.0, b.1)

-- ---- functions

one_more_parameters : (ws vs : List Word) (x y : List Token) → spell_more_parameters ws ++ x ≡ spell_more_parameters vs ++ y → Same ws vs x y
one_more_parameters [] [] x y h = (refl, cc)
one_more_parameters [] (v ∷ vs) x y h = absurd (clash _ _ refl h)
one_more_parameters (w ∷ ws) [] x y h = absurd (clash _ _ refl h)
one_more_parameters (w ∷ ws) (v ∷ vs) x y h =
    let n : word w ≡ word v = cc in
    let more : spell_more_parameters ws ++ x ≡ spell_more_parameters vs ++ y = cc in
    let r = one_more_parameters ws vs x y more in
    (ap₂ (λ a b. a ∷ b) (same_word w v n) r.0, r.1)

one_parameters : (ws vs : List Word) (x y : List Token) → spell_parameters ws ++ x ≡ spell_parameters vs ++ y → Same ws vs x y
one_parameters [] [] x y h = (refl, cc)
one_parameters [] (v ∷ vs) x y h = absurd (clash _ _ refl h)
one_parameters (w ∷ ws) [] x y h = absurd (clash _ _ refl h)
one_parameters (w ∷ ws) (v ∷ vs) x y h =
    let n : word w ≡ word v = cc in
    let more : spell_more_parameters ws ++ x ≡ spell_more_parameters vs ++ y = cc in
    let r = one_more_parameters ws vs x y more in
    (ap₂ (λ a b. a ∷ b) (same_word w v n) r.0, r.1)

one_function : (f g : Function) (x y : List Token) → spell_function f ++ x ≡ spell_function g ++ y → Same f g x y
one_function f g x y h =
    let n : word f.name ≡ word g.name = cc in
    let more : (spell_parameters f.parameters ++ spell_block f.body) ++ x ≡ (spell_parameters g.parameters ++ spell_block g.body) ++ y = cc in
    let r = one_parameters f.parameters g.parameters (spell_block f.body ++ x) (spell_block g.body ++ y)
    (split2 (spell_parameters f.parameters) (spell_block f.body) x (spell_parameters g.parameters) (spell_block g.body) y more) in
    let s = one_body f.body g.body (one_statements f.body g.body) x y r.1 in (
      ap (λ i. record { name = i; parameters = f.parameters; body = f.body }) (same_word f.name g.name n)
          ∙ ap₂ (λ i z. record { name = g.name; parameters = i; body = z }) r.0 s.0,
      s.1,
    )

pub one_program : (fs gs : List Function) → spell_functions fs ≡ spell_functions gs → fs ≡ gs
one_program [] [] h = refl
one_program [] (g ∷ gs) h = absurd (cc)
one_program (f ∷ fs) [] h = absurd (cc)
one_program (f ∷ fs) (g ∷ gs) h =
    let r = one_function f g (spell_functions fs) (spell_functions gs) h in
    ap₂ (λ a b. a ∷ b) r.0 (one_program fs gs r.1)
