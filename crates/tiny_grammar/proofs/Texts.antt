-- What the machine has taken can be completed: each part has a text, and a token before the texts of what it leaves to come is a text of the part.
use Rattle.tiny_grammar.proofs.Common.{◌≡◌, ℕ, Bool, true, false, List, [], ◌∷◌, ◌++◌, map, cond, inl, inr, refl, ap, sym, subst, ◌∙◌, append_assoc, Option}
use Rattle.tiny_grammar.proofs.Common.{Some, None, ◌⊎◌, ◌==◌, ◌&&◌, option_and_then, option_map, append-nil, Operator, Comparison, Word, Kind, Sign, Token}
use Rattle.tiny_draft.specs.declared.tree.Comparison.TheVariants as comparisons
use Rattle.tiny_draft.specs.Tree as tree
use Rattle.tiny_draft.specs.declared.token.Kind.TheVariants as kinds
use Rattle.tiny_draft.specs.declared.token.Sign.TheVariants as signs
use Rattle.tiny_grammar.specs.Prelude.{rank, comparison, end, kept, kept_line, operator, sign, sign_at, word, spell_arguments, spell_block, spell_cond, spell_else, spell_expr, spell_functions, spell_more, spell_more_parameters, spell_parameters, spell_statement, spell_statements, spell_steps, spell_term, ABlock, ACond, AfterName, AName, AnExpr, Arguments, AStatement, ATerm, Compare, Functions, MaybeCall, MaybeElse, MoreArguments, MoreParameters, Parameters, Part, Statements, Steps, Want, before, begins, begins_after_name, begins_arguments, begins_block, begins_call, begins_compare, begins_else, begins_functions, begins_more, begins_more_parameters, begins_parameters, begins_statement, begins_steps, begins_term, comparison_of, follow, is_optional, is_sign, operator_of, or_skip, spent, value, Begins}
use Rattle.tiny_grammar.proofs.Exprs.{comparison_kept, operator_kept}
use Rattle.tiny_grammar.proofs.Ranks.{same_sign}
use Rattle.tiny_grammar.proofs.Runs.{steps}

abbrev pub at : Kind → ℕ → Token
at k line = record { kind = k; line = kept_line k line }

abbrev pub TextOf : Part → List Token → Type 0
TextOf (Want s) a = (line : ℕ) × (a ≡ at (kinds.Of s) line ∷ [])
TextOf AName a = (w : Word) × (a ≡ word w ∷ [])
TextOf ATerm a = (t : tree.Term) × (a ≡ spell_term t)
TextOf AnExpr a = (e : tree.Expr) × (a ≡ spell_expr e)
TextOf Steps a = (ss : tree.Steps) × (a ≡ spell_steps ss)
TextOf MaybeCall a = (a ≡ []) ⊎ ((es : tree.Arguments) × (a ≡ sign signs.Open ∷ spell_arguments es))
TextOf Arguments a = (es : tree.Arguments) × (a ≡ spell_arguments es)
TextOf MoreArguments a = (es : tree.Arguments) × (a ≡ spell_more es)
TextOf ACond a = (c : tree.Cond) × (a ≡ spell_cond c)
TextOf Compare a = (c : Comparison) × (e : tree.Expr) × (a ≡ comparison c ∷ spell_expr e)
TextOf AStatement a = (s : tree.Statement) × (a ≡ spell_statement s)
TextOf AfterName a = ((e : tree.Expr) × (a ≡ sign signs.Assign ∷ (spell_expr e ++ end))) ⊎ ((es : tree.Arguments) × (a ≡ sign signs.Open ∷ (spell_arguments es ++ end)))
TextOf MaybeElse a = (other : tree.Else) × (a ≡ spell_else other)
TextOf Statements a = (ss : tree.Statements) × (a ≡ spell_statements ss)
TextOf ABlock a = (b : tree.Statements) × (a ≡ spell_block b)
TextOf Parameters a = (ws : List Word) × (a ≡ spell_parameters ws)
TextOf MoreParameters a = (ws : List Word) × (a ≡ spell_more_parameters ws)
TextOf Functions a = (fs : List tree.Function) × (a ≡ spell_functions fs)

abbrev pub Texts : List Part → List Token → Type 0
Texts [] ts = ts ≡ []
Texts (p ∷ ps) ts = (a : List Token) × (b : List Token) × (ts ≡ a ++ b) × TextOf p a × Texts ps b

abbrev pub TextsIf : Option (List Part) → List Token → Type 0
TextsIf None a = ⊥
TextsIf (Some ps) a = Texts ps a

-- ---- lists of parts

abbrev pub Cut : List Part → List Part → List Token → Type 0
Cut qs ps ts = (a : List Token) × (b : List Token) × (ts ≡ a ++ b) × Texts qs a × Texts ps b

cut : (qs ps : List Part) (ts : List Token) → Texts (qs ++ ps) ts → Cut qs ps ts
cut [] ps ts x = ([], ts, refl, refl, x)
cut (q ∷ qs) ps ts (a, b, e, t, more) =
    let r = cut qs ps b more in
    (a ++ r.0, r.1, e ∙ (ap (λ x. a ++ x) r.2 ∙ sym (append_assoc a r.0 r.1)), (a, r.0, refl, t, r.3), r.4)

abbrev pub CutIf : Option (List Part) → List Part → List Token → Type 0
CutIf r more ts = (a : List Token) × (b : List Token) × (ts ≡ a ++ b) × TextsIf r a × Texts more b

cut_before : (r : Option (List Part)) (more : List Part) (ts : List Token) → TextsIf (before more r) ts → CutIf r more ts
cut_before None more ts x = absurd x
cut_before (Some qs) more ts x = cut qs more ts x

only : (p : Part) (a : List Token) → Texts (p ∷ []) a → TextOf p a
only p a (b, c, e, t, n) = subst (TextOf p) (sym (e ∙ (ap (λ x. b ++ x) n ∙ append-nil b))) t

alone : (p : Part) (a : List Token) → TextOf p a → Texts (p ∷ []) a
alone p a t = (a, [], sym (append-nil a), t, refl)

joined : (a b c x y : List Token) → a ≡ b ++ c → b ≡ x → c ≡ y → a ≡ x ++ y
joined a b c x y e f g = e ∙ (ap (λ z. z ++ c) f ∙ ap (λ z. x ++ z) g)

-- ---- one token before the texts of what it leaves to come

head_term : (k : Kind) (line : ℕ) (a : List Token) → TextsIf (begins_term k) a → (t : tree.Term) × (at k line ∷ a ≡ spell_term t)
head_term (kinds.Number n) line a x = (tree.Number n, ap (λ y. at (kinds.Number n) line ∷ y) x)
head_term (kinds.Name n) line a x = go (only MaybeCall a x)
  where
    go : TextOf MaybeCall a → (t : tree.Term) × (at (kinds.Name n) line ∷ a ≡ spell_term t)
    go (inl e) = (tree.Variable (record { name = n; line = line }), ap (λ y. at (kinds.Name n) line ∷ y) e)
    go (inr (es, e)) = (tree.Called (record { name = n; line = line }) es, ap (λ y. at (kinds.Name n) line ∷ y) e)
head_term (kinds.Of signs.Get) line a x = (tree.Get, ap (λ y. sign signs.Get ∷ y) x)
head_term (kinds.Of signs.Open) line a (b, c, e, (i, bi), more) =
    let close = only (Want signs.Close) c more in
    (tree.Group i, ap (λ y. sign signs.Open ∷ y) (joined a b c _ _ e bi close.1))
head_term _ line a x = absurd x

head_expr : (k : Kind) (line : ℕ) (a : List Token) → TextsIf (before (Steps ∷ []) (begins_term k)) a → (e : tree.Expr) × (at k line ∷ a ≡ spell_expr e)
head_expr k line a x =
    let r = cut_before (begins_term k) (Steps ∷ []) a x in
    let t = head_term k line r.0 r.3 in
    let s = only Steps r.1 r.4 in
    (tree.Sum t.0 s.0, ap (λ y. at k line ∷ y) r.2 ∙ (ap (λ y. y ++ r.1) t.1 ∙ ap (λ y. spell_term t.0 ++ y) s.1))

head_steps : (k : Kind) (line : ℕ) (a : List Token) → TextsIf (begins_steps k) a → (ss : tree.Steps) × (at k line ∷ a ≡ spell_steps ss)
head_steps k line a x = go (operator_of k) refl x
  where
    go : (r : Option Operator) → operator_of k ≡ r → TextsIf (option_map (λ o. ATerm ∷ Steps ∷ []) r) a → (ss : tree.Steps) × (at k line ∷ a ≡ spell_steps ss)
    go (Some o) h (b, c, e, (t, bt), more) =
        let s = only Steps c more in
        (tree.step o t s.0, ap (λ y. y ∷ a) (operator_kept k line o h) ∙ ap (λ y. operator o ∷ y) (joined a b c _ _ e bt s.1))
    go None h x = absurd x

head_call : (k : Kind) (line : ℕ) (a : List Token) → TextsIf (begins_call k) a → (es : tree.Arguments) × (at k line ∷ a ≡ sign signs.Open ∷ spell_arguments es)
head_call (kinds.Of signs.Open) line a x = let r = only Arguments a x in (r.0, ap (λ y. sign signs.Open ∷ y) r.1)
head_call _ line a x = absurd x

head_argument : (k : Kind) (line : ℕ) (a : List Token) → TextsIf (before (Steps ∷ MoreArguments ∷ []) (begins_term k)) a → (es : tree.Arguments) × (at k line ∷ a ≡ spell_arguments es)
head_argument k line a x =
    let r = cut_before (begins_term k) (Steps ∷ MoreArguments ∷ []) a x in
    let t = head_term k line r.0 r.3 in
    let q = cut (Steps ∷ []) (MoreArguments ∷ []) r.1 r.4 in
    let s = only Steps q.0 q.3 in
    let more = only MoreArguments q.1 q.4 in (
      tree.argument (tree.Sum t.0 s.0) more.0,
      ap (λ y. at k line ∷ y) r.2 ∙ (ap (λ y. y ++ r.1) t.1 ∙ (ap (λ y. spell_term t.0 ++ y) (joined r.1 q.0 q.1 _ _ q.2 s.1 more.1) ∙ sym (append_assoc (spell_term t.0) (spell_steps s.0) (spell_more more.0)))),
    )

head_arguments : (k : Kind) (line : ℕ) (a : List Token) → TextsIf (begins_arguments k) a → (es : tree.Arguments) × (at k line ∷ a ≡ spell_arguments es)
head_arguments (kinds.Of signs.Close) line a x = (tree.no_arguments, ap (λ y. sign signs.Close ∷ y) x)
head_arguments k line a x = head_argument k line a x

head_more : (k : Kind) (line : ℕ) (a : List Token) → TextsIf (begins_more k) a → (es : tree.Arguments) × (at k line ∷ a ≡ spell_more es)
head_more (kinds.Of signs.Close) line a x = (tree.no_arguments, ap (λ y. sign signs.Close ∷ y) x)
head_more (kinds.Of signs.Comma) line a (b, c, e, (i, bi), more) =
    let s = only MoreArguments c more in
    (tree.argument i s.0, ap (λ y. sign signs.Comma ∷ y) (joined a b c _ _ e bi s.1))
head_more _ line a x = absurd x

head_compare : (k : Kind) (line : ℕ) (a : List Token) → TextsIf (begins_compare k) a → TextOf Compare (at k line ∷ a)
head_compare k line a x = go (comparison_of k) refl x
  where
    go : (r : Option Comparison) → comparison_of k ≡ r → TextsIf (option_map (λ c. AnExpr ∷ []) r) a → TextOf Compare (at k line ∷ a)
    go (Some c) h x = let e = only AnExpr a x in (c, e.0, ap (λ y. y ∷ a) (comparison_kept k line c h) ∙ ap (λ y. comparison c ∷ y) e.1)
    go None h x = absurd x

head_cond : (k : Kind) (line : ℕ) (a : List Token) → TextsIf (before (Steps ∷ Compare ∷ []) (begins_term k)) a → (c : tree.Cond) × (at k line ∷ a ≡ spell_cond c)
head_cond k line a x =
    let r = cut_before (begins_term k) (Steps ∷ Compare ∷ []) a x in
    let t = head_term k line r.0 r.3 in
    let q = cut (Steps ∷ []) (Compare ∷ []) r.1 r.4 in
    let s = only Steps q.0 q.3 in
    let m = only Compare q.1 q.4 in (
      tree.Compare m.0 (tree.Sum t.0 s.0) m.1,
      ap (λ y. at k line ∷ y) r.2 ∙ (ap (λ y. y ++ r.1) t.1 ∙ (ap (λ y. spell_term t.0 ++ y) (joined r.1 q.0 q.1 _ _ q.2 s.1 m.2)
          ∙ sym (append_assoc (spell_term t.0) (spell_steps s.0) (comparison m.0 ∷ spell_expr m.1)))),
    )

head_block : (k : Kind) (line : ℕ) (a : List Token) → TextsIf (begins_block k) a → (b : tree.Statements) × (at k line ∷ a ≡ spell_block b)
head_block (kinds.Of signs.Begin) line a (b, c, e, (ss, bs), more) =
    let close = only (Want signs.End) c more in
    (ss, ap (λ y. sign signs.Begin ∷ y) (joined a b c _ _ e bs close.1))
head_block _ line a x = absurd x

-- `e ;`
valued : (a : List Token) → Texts value a → (e : tree.Expr) × (a ≡ spell_expr e ++ end)
valued a (b, c, e, (i, bi), more) =
    let close = only (Want signs.Semicolon) c more in
    (i, joined a b c _ _ e bi close.1)

-- `= e ;`
assigned : (a : List Token) → Texts (Want signs.Assign ∷ value) a → (e : tree.Expr) × (a ≡ sign signs.Assign ∷ (spell_expr e ++ end))
assigned a (b, c, e, (l, s), more) =
    let v = valued c more in
    (v.0, joined a b c _ _ e s v.1)

head_after_name : (k : Kind) (line : ℕ) (a : List Token) → TextsIf (begins_after_name k) a → TextOf AfterName (at k line ∷ a)
head_after_name (kinds.Of signs.Assign) line a x = let v = valued a x in inl (v.0, ap (λ y. sign signs.Assign ∷ y) v.1)
head_after_name (kinds.Of signs.Open) line a (b, c, e, (es, bs), more) =
    let close = only (Want signs.Semicolon) c more in
    inr (es, ap (λ y. sign signs.Open ∷ y) (joined a b c _ _ e bs close.1))
head_after_name _ line a x = absurd x

head_else : (k : Kind) (line : ℕ) (a : List Token) → TextsIf (begins_else k) a → (other : tree.Else) × (at k line ∷ a ≡ spell_else other)
head_else (kinds.Of signs.Else) line a x = let b = only ABlock a x in (tree.else_block b.0, ap (λ y. sign signs.Else ∷ y) b.1)
head_else _ line a x = absurd x

head_statement : (k : Kind) (line : ℕ) (a : List Token) → TextsIf (begins_statement k) a → (s : tree.Statement) × (at k line ∷ a ≡ spell_statement s)
head_statement (kinds.Name n) line a x = go (only AfterName a x)
  where
    go : TextOf AfterName a → (s : tree.Statement) × (at (kinds.Name n) line ∷ a ≡ spell_statement s)
    go (inl (v, e)) = (tree.Assign (record { name = n; line = line }) v, ap (λ y. at (kinds.Name n) line ∷ y) e)
    go (inr (es, e)) = (tree.Calls (record { name = n; line = line }) es, ap (λ y. at (kinds.Name n) line ∷ y) e)
head_statement (kinds.Of signs.Var) line a (b, c, e, (w, bw), more) =
    let v = assigned c more in
    (tree.Var w v.0, ap (λ y. sign signs.Var ∷ y) (joined a b c _ _ e bw v.1))
head_statement (kinds.Of signs.If) line a (b, c, e, (i, bi), (d, f, g, (s, bs), more)) =
    let other = only MaybeElse f more in
    (tree.If line i s other.0, ap (λ y. sign_at signs.If line ∷ y) (joined a b c _ _ e bi (joined c d f _ _ g bs other.1)))
head_statement (kinds.Of signs.While) line a (b, c, e, (i, bi), more) =
    let s = only ABlock c more in
    (tree.While line i s.0, ap (λ y. sign_at signs.While line ∷ y) (joined a b c _ _ e bi s.1))
head_statement (kinds.Of signs.Return) line a x = let v = valued a x in (tree.Return line v.0, ap (λ y. sign_at signs.Return line ∷ y) v.1)
head_statement (kinds.Of signs.Put) line a x = let v = valued a x in (tree.Put v.0, ap (λ y. sign signs.Put ∷ y) v.1)
head_statement (kinds.Of signs.Halt) line a x = let close = only (Want signs.Semicolon) a x in (tree.Halt, ap (λ y. sign signs.Halt ∷ y) close.1)
head_statement _ line a x = absurd x

head_statements : (k : Kind) (line : ℕ) (a : List Token) → TextsIf (before (Statements ∷ []) (begins_statement k)) a → (ss : tree.Statements) × (at k line ∷ a ≡ spell_statements ss)
head_statements k line a x =
    let r = cut_before (begins_statement k) (Statements ∷ []) a x in
    let t = head_statement k line r.0 r.3 in
    let s = only Statements r.1 r.4 in
    (tree.statement t.0 s.0, ap (λ y. at k line ∷ y) r.2 ∙ (ap (λ y. y ++ r.1) t.1 ∙ ap (λ y. spell_statement t.0 ++ y) s.1))

-- ---- functions

head_parameters : (k : Kind) (line : ℕ) (a : List Token) → TextsIf (begins_parameters k) a → (ws : List Word) × (at k line ∷ a ≡ spell_parameters ws)
head_parameters (kinds.Of signs.Close) line a x = ([], ap (λ y. sign signs.Close ∷ y) x)
head_parameters (kinds.Name n) line a x = let m = only MoreParameters a x in (record { name = n; line = line } ∷ m.0, ap (λ y. at (kinds.Name n) line ∷ y) m.1)
head_parameters _ line a x = absurd x

head_more_parameters : (k : Kind) (line : ℕ) (a : List Token) → TextsIf (begins_more_parameters k) a → (ws : List Word) × (at k line ∷ a ≡ spell_more_parameters ws)
head_more_parameters (kinds.Of signs.Close) line a x = ([], ap (λ y. sign signs.Close ∷ y) x)
head_more_parameters (kinds.Of signs.Comma) line a (b, c, e, (w, bw), more) =
    let m = only MoreParameters c more in
    (w ∷ m.0, ap (λ y. sign signs.Comma ∷ y) (joined a b c _ _ e bw m.1))
head_more_parameters _ line a x = absurd x

head_functions : (k : Kind) (line : ℕ) (a : List Token) → TextsIf (begins_functions k) a → (fs : List tree.Function) × (at k line ∷ a ≡ spell_functions fs)
head_functions (kinds.Of signs.Fn) line a (b, c, e, (w, bw), (d, f, g, (l, o), (h, i, j, (ws, p), (m, n, q, (s, r), more)))) =
    let others = only Functions n more in
    let one : tree.Function = record { name = w; parameters = ws; body = s } in (
      one ∷ others.0,
      ap (λ y. sign signs.Fn ∷ y) (joined a b c _ _ e bw (joined c d f _ _ g o (joined f h i _ _ j p (joined i m n _ _ q r others.1)
          ∙ sym (append_assoc (spell_parameters ws) (spell_block s) (spell_functions others.0))))),
    )
head_functions _ line a x = absurd x

head_sign : (s : Sign) (k : Kind) (line : ℕ) (a : List Token) → TextsIf (is_sign s k) a → TextOf (Want s) (at k line ∷ a)
head_sign s (kinds.Of t) line a x = go (rank t == rank s) refl x
  where
    go : (w : Bool) → (rank t == rank s) ≡ w → TextsIf (cond w (Some []) None) a → TextOf (Want s) (at (kinds.Of t) line ∷ a)
    go true h x = (line, ap (λ u. at (kinds.Of u) line ∷ a) (same_sign s t h) ∙ ap (λ y. at (kinds.Of s) line ∷ y) x)
    go false h x = absurd x
head_sign s _ line a x = absurd x

head : (p : Part) (k : Kind) (line : ℕ) (a : List Token) → TextsIf (begins p k) a → TextOf p (at k line ∷ a)
head (Want s) k line a x = head_sign s k line a x
head AName (kinds.Name n) line a x = (record { name = n; line = line }, ap (λ y. at (kinds.Name n) line ∷ y) x)
head AName _ line a x = absurd x
head ATerm k line a x = head_term k line a x
head AnExpr k line a x = head_expr k line a x
head Steps k line a x = head_steps k line a x
head MaybeCall k line a x = inr (head_call k line a x)
head Arguments k line a x = head_arguments k line a x
head MoreArguments k line a x = head_more k line a x
head ACond k line a x = head_cond k line a x
head Compare k line a x = head_compare k line a x
head AStatement k line a x = head_statement k line a x
head AfterName k line a x = head_after_name k line a x
head MaybeElse k line a x = head_else k line a x
head Statements k line a x = head_statements k line a x
head ABlock k line a x = head_block k line a x
head Parameters k line a x = head_parameters k line a x
head MoreParameters k line a x = head_more_parameters k line a x
head Functions k line a x = head_functions k line a x

-- ---- many tokens

absent : (p : Part) → is_optional p ≡ true → TextOf p []
absent Steps o = (tree.no_steps, refl)
absent MaybeCall o = inl refl
absent MaybeElse o = (tree.no_else, refl)
absent Statements o = (tree.no_statements, refl)
absent Functions o = ([], refl)
absent _ o = absurd (cc)

grow_one : (ps : List Part) (t : Token) (c : List Token) → TextsIf (follow ps t.kind) c → Texts ps (kept t ∷ c)
grow_one [] t c x = absurd x
grow_one (p ∷ ps) t c x = go (begins p t.kind) (is_optional p) (grow_one ps t c) refl refl x
  where
    go : (r : Option (List Part)) (o : Bool) → (TextsIf (follow ps t.kind) c → Texts ps (kept t ∷ c)) → begins p t.kind ≡ r → is_optional p ≡ o → TextsIf (or_skip r o ps (follow ps t.kind)) c → Texts (p ∷ ps) (kept t ∷ c)
    go (Some qs) o rec h i x =
        let r = cut qs ps c x in
        (kept t ∷ r.0, r.1, ap (λ y. kept t ∷ y) r.2, head p t.kind t.line r.0 (subst (λ z. TextsIf z r.0) (sym h) r.3), r.4)
    go None true rec h i x = ([], kept t ∷ c, refl, absent p i, rec x)
    go None false rec h i x = absurd x

pub grow : (ts : List Token) (ps qs : List Part) (c : List Token) → steps ps ts ≡ Some qs → Texts qs c → Texts ps (map kept ts ++ c)
grow [] ps qs c h x = let e : ps ≡ qs = cc in subst (λ z. Texts z c) (sym e) x
grow (t ∷ ts) ps qs c h x = go (follow ps t.kind) (λ rs k. grow ts rs qs c k x) refl h
  where
    go : (r : Option (List Part)) → ((rs : List Part) → steps rs ts ≡ Some qs → Texts rs (map kept ts ++ c)) → follow ps t.kind ≡ r → option_and_then (λ rs. steps rs ts) r ≡ Some qs → Texts ps (map kept (t ∷ ts) ++ c)
    go None rec f h = absurd (cc)
    go (Some rs) rec f h = grow_one ps t (map kept ts ++ c) (subst (λ z. TextsIf z (map kept ts ++ c)) (sym f) (rec rs h))

-- ---- completions

term : tree.Term
term = tree.Get

expr : tree.Expr
expr = tree.Sum term tree.no_steps

least : (p : Part) → (a : List Token) × TextOf p a
least (Want s) = (at (kinds.Of s) 0 ∷ [], (0, refl))
least AName = let w : Word = record { name = 0; line = 0 } in (word w ∷ [], (w, refl))
least ATerm = (spell_term term, (term, refl))
least AnExpr = (spell_expr expr, (expr, refl))
least Steps = ([], (tree.no_steps, refl))
least MaybeCall = ([], inl refl)
least Arguments = (spell_arguments tree.no_arguments, (tree.no_arguments, refl))
least MoreArguments = (spell_more tree.no_arguments, (tree.no_arguments, refl))
least ACond = let c : tree.Cond = tree.Compare comparisons.Equal expr expr in (spell_cond c, (c, refl))
least Compare = (comparison comparisons.Equal ∷ spell_expr expr, (comparisons.Equal, expr, refl))
least AStatement = (spell_statement (tree.Put expr), (tree.Put expr, refl))
least AfterName = (sign signs.Assign ∷ (spell_expr expr ++ end), inl (expr, refl))
least MaybeElse = ([], (tree.no_else, refl))
least Statements = ([], (tree.no_statements, refl))
least ABlock = (spell_block tree.no_statements, (tree.no_statements, refl))
least Parameters = (spell_parameters [], ([], refl))
least MoreParameters = (spell_more_parameters [], ([], refl))
least Functions = ([], ([], refl))

completed : (ps : List Part) → (c : List Token) × Texts ps c
completed [] = ([], refl)
completed (p ∷ ps) = let a = least p in let b = completed ps in (a.0 ++ b.0, (a.0, b.0, refl, a.1, b.1))

abbrev pub start : List Part
start = Functions ∷ []

-- what the machine has taken begins a program
pub taken_begins : (ts : List Token) (qs : List Part) → steps start ts ≡ Some qs → Begins ts
taken_begins ts qs h =
    let c = completed qs in
    let f = only Functions (map kept ts ++ c.0) (grow ts start qs c.0 h c.1) in
    (c.0, f.0, f.1)

absent_all : (qs : List Part) → spent qs ≡ true → Texts qs []
absent_all [] s = refl
absent_all (q ∷ qs) s = go (is_optional q) refl s (absent_all qs)
  where
    go : (o : Bool) → is_optional q ≡ o → (o && spent qs) ≡ true → (spent qs ≡ true → Texts qs []) → Texts (q ∷ qs) []
    go true o s rec = ([], [], refl, absent q o, rec s)
    go false o s rec = absurd (cc)

-- where nothing has to come any more, it is a program
pub taken_whole : (ts : List Token) (qs : List Part) → steps start ts ≡ Some qs → spent qs ≡ true → (fs : List tree.Function) × (map kept ts ≡ spell_functions fs)
taken_whole ts qs h s =
    let f = only Functions (map kept ts ++ []) (grow ts start qs [] h (absent_all qs s)) in
    (f.0, sym (append-nil (map kept ts)) ∙ f.1)
