-- What a line says is read exactly where it is spelled.
use Rattle.mal_line.proofs.Common.{◌≡◌, ℕ, Bool, true, false, List, [], ◌∷◌, Option, Some, None, refl, sym, ap, subst, ◌∙◌, inl, inr, cond, Result, Ok, Err}
use Rattle.mal_line.proofs.Common.{◌≢◌, ◌⊎◌, option_map, option_and_then, onto_first, Machine, mapped, Token, Tree, Content, Form, LineFault}
use Rattle.mal_tokens.specs.declared.sign.Sign.TheVariants as signs
use Rattle.mal_tokens.specs.declared.token.Token.TheVariants as tokens
use Rattle.mal_line.specs.declared.piece.Piece.TheVariants as found
use Rattle.mal_line.specs.declared.line.Form.TheVariants as forms
use Rattle.mal_line.specs.declared.line.LineFault.TheVariants as faults
use Rattle.mal_line.specs.Prelude.{is_semicolon, pieces, add, adds, chain_at, dest_of, empty, piece_of, tree_of, content_of, IsForm, IsRefused, names_foreign, SpellsLine, after_colon, fix_of, form_of, labelled, line_from, said, said_by}
use Rattle.mal_line.proofs.Parting.{tree_again, tree_is}

-- ---- what is read has the form

fix_is : (rest : List Token) (f : Form) → fix_of rest ≡ Some f → (l : List ℕ) × (v : _) × (f ≡ forms.Fix l v) × (rest ≡ tokens.Name l ∷ tokens.Number v ∷ [])
fix_is (tokens.Name l ∷ tokens.Number v ∷ []) f h = (l, v, cc, refl)
fix_is _ f h = absurd (cc)

colon : (rest : List Token) → (rest ≡ after_colon rest) ⊎ (rest ≡ tokens.Sign signs.Colon ∷ after_colon rest)
colon (tokens.Sign signs.Colon ∷ rest) = inr refl
colon _ = inl refl

fix_form : (m : Machine) (rest : List Token) (f : Form) → fix_of rest ≡ Some f → IsForm m (tokens.Sign signs.Label ∷ rest) f
fix_form m rest f h =
    let q = fix_is rest f h in
    subst (IsForm m (tokens.Sign signs.Label ∷ rest)) (sym q.2) (ap (λ r. tokens.Sign signs.Label ∷ r) q.3)

fallback_form : (m : Machine) (rest : List Token) (f : Form) → option_map (λ tree. forms.Fallback tree) (tree_of m rest) ≡ Some f → IsForm m (tokens.Sign signs.Default ∷ rest) f
fallback_form m rest f h =
    let q = mapped (λ tree. forms.Fallback tree) (tree_of m rest) f h in
    subst (IsForm m (tokens.Sign signs.Default ∷ rest)) q.2 (rest, refl, tree_is m rest q.0 q.1)

label_form : (m : Machine) (l : List ℕ) (rest : List Token) (f : Form) → labelled m (Some l) (after_colon rest) ≡ Some f → IsForm m (tokens.Name l ∷ rest) f
label_form m l rest f h =
    let q = mapped (λ tree. forms.Statement (Some l) tree) (tree_of m (after_colon rest)) f h in
    subst (IsForm m (tokens.Name l ∷ rest)) q.2 (after_colon rest, spelled (colon rest), tree_is m (after_colon rest) q.0 q.1)
  where
    spelled : (rest ≡ after_colon rest) ⊎ (rest ≡ tokens.Sign signs.Colon ∷ after_colon rest) → (tokens.Name l ∷ rest ≡ tokens.Name l ∷ after_colon rest) ⊎ (tokens.Name l ∷ rest ≡ tokens.Name l ∷ tokens.Sign signs.Colon ∷ after_colon rest)
    spelled (inl e) = inl (ap (λ r. tokens.Name l ∷ r) e)
    spelled (inr e) = inr (ap (λ r. tokens.Name l ∷ r) e)

plain_form : (m : Machine) (t : Token) (rest : List Token) (f : Form) → labelled m None (t ∷ rest) ≡ Some f → IsForm m (t ∷ rest) f
plain_form m t rest f h =
    let q = mapped (λ tree. forms.Statement None tree) (tree_of m (t ∷ rest)) f h in
    subst (IsForm m (t ∷ rest)) q.2 ((λ e. cc), tree_is m (t ∷ rest) q.0 q.1)

form_is : (m : Machine) (ts : List Token) (f : Form) → form_of m ts ≡ Some f → IsForm m ts f
form_is m [] f h = let e : forms.Nothing ≡ f = cc in subst (IsForm m []) e refl
form_is m (tokens.Sign signs.Label ∷ rest) f h = fix_form m rest f h
form_is m (tokens.Sign signs.Default ∷ rest) f h = fallback_form m rest f h
form_is m (tokens.Name l ∷ rest) f h = label_form m l rest f h
form_is m (t ∷ rest) f h = plain_form m t rest f h

-- ---- what has the form is read

no_chain : (m : Machine) (t : Token) (rest : List Token) → ((u : Token) → dest_of t u ≡ None) → chain_at m false 0 (t ∷ rest) ≡ None
unfolding chain_at
no_chain m t [] d = refl
no_chain m t (u ∷ rest) d = let k = d u in rw k refl

-- what begins with such a token is no statement
no_tree : (m : Machine) (t : Token) (rest : List Token) → is_semicolon t ≡ false
    → ((p : List Token) → piece_of m (t ∷ p) ≡ option_map (λ a. found.Assign a) (chain_at m false 0 (t ∷ p)))
    → ((u : Token) → dest_of t u ≡ None) → tree_of m (t ∷ rest) ≡ None
unfolding adds
no_tree m t rest s h d = rw s (go (pieces rest))
  where
    none : (p : List Token) → piece_of m (t ∷ p) ≡ None
    none p = h p ∙ ap (option_map _) (no_chain m t p d)

    go : (ps : List (List Token)) → adds m (record { tree = empty; waiting = None }) (onto_first t ps) ≡ None
    go [] = ap (λ o. option_and_then (λ u. adds m u []) (option_and_then (add (record { tree = empty; waiting = None })) o)) (none [])
    go (p ∷ ps) = ap (λ o. option_and_then (λ u. adds m u ps) (option_and_then (add (record { tree = empty; waiting = None })) o)) (none p)

no_colon : (m : Machine) (rest : List Token) (tree : Tree) → tree_of m rest ≡ Some tree → after_colon rest ≡ rest
no_colon m (tokens.Sign signs.Colon ∷ rest) tree h = absurd (let k = no_tree m (tokens.Sign signs.Colon) rest refl (λ p. refl) (λ u. refl) in cc)
no_colon m _ tree h = refl

plain_again : (m : Machine) (ts : List Token) (tree : Tree) → ts ≢ [] → tree_of m ts ≡ Some tree → form_of m ts ≡ Some (forms.Statement None tree)
plain_again m [] tree ne h = absurd (ne refl)
plain_again m (tokens.Sign signs.Label ∷ rest) tree ne h = absurd (let k = no_tree m (tokens.Sign signs.Label) rest refl (λ p. refl) (λ u. refl) in cc)
plain_again m (tokens.Sign signs.Default ∷ rest) tree ne h = absurd (let k = no_tree m (tokens.Sign signs.Default) rest refl (λ p. refl) (λ u. refl) in cc)
plain_again m (tokens.Name l ∷ rest) tree ne h = absurd (let k = no_tree m (tokens.Name l) rest refl (λ p. refl) (λ u. refl) in cc)
plain_again m (t ∷ rest) tree ne h = ap (option_map (λ tree. forms.Statement None tree)) h

label_again : (m : Machine) (ts : List Token) (l : List ℕ) (rest : List Token) (tree : Tree) → (ts ≡ tokens.Name l ∷ rest) ⊎ (ts ≡ tokens.Name l ∷ tokens.Sign signs.Colon ∷ rest) → tree_of m rest ≡ Some tree → form_of m ts ≡ Some (forms.Statement (Some l) tree)
label_again m ts l rest tree (inl e) h =
    ap (form_of m) e ∙ (ap (λ r. labelled m (Some l) r) (no_colon m rest tree h) ∙ ap (option_map (λ tree. forms.Statement (Some l) tree)) h)
label_again m ts l rest tree (inr e) h = ap (form_of m) e ∙ ap (option_map (λ tree. forms.Statement (Some l) tree)) h

pub form_again : (m : Machine) (ts : List Token) (f : Form) → IsForm m ts f → form_of m ts ≡ Some f
form_again m ts forms.Nothing is = ap (form_of m) is
form_again m ts (forms.Fix l v) is = ap (form_of m) is
form_again m ts (forms.Fallback tree) (rest, e, a) = ap (form_of m) e ∙ ap (option_map (λ tree. forms.Fallback tree)) (tree_again m rest tree a)
form_again m ts (forms.Statement None tree) (ne, a) = plain_again m ts tree ne (tree_again m ts tree a)
form_again m ts (forms.Statement (Some l) tree) (rest, e, a) = label_again m ts l rest tree e (tree_again m rest tree a)

-- ---- the line

-- what the outcome says
Says : Machine → List Token → Result Content LineFault → Type 0
Says m ts (Ok c) = SpellsLine m ts c
Says m ts (Err e) = IsRefused m ts e

line_says : (m : Machine) (ts : List Token) → Says m ts (line_from m ts)
unfolding Says line_from
line_says m ts = by_form (form_of m ts) refl
  where
    by_content : (f : Form) (c : Option Content) → IsForm m ts f → names_foreign m ts ≡ false → content_of f ≡ c → Says m ts (said c)
    by_content f (Some c) is w e = record { form = f; has = is; own = w; says = e }
    by_content f None is w e = (f, is, w, e)

    by_machine : (f : Form) (b : Bool) → IsForm m ts f → names_foreign m ts ≡ b → Says m ts (cond b (Err faults.WrongMachine) (said (content_of f)))
    by_machine f true is w = (f, is, w)
    by_machine f false is w = by_content f (content_of f) is w refl

    by_form : (o : Option Form) → form_of m ts ≡ o → Says m ts (said_by m ts o)
    by_form None e = λ f is. absurd (let k = form_again m ts f is in cc)
    by_form (Some f) e = by_machine f (names_foreign m ts) (form_is m ts f e) refl

pub line_spells : (m : Machine) (ts : List Token) (c : Content) → line_from m ts ≡ Ok c → SpellsLine m ts c
unfolding Says
line_spells m ts c h = subst (Says m ts) h (line_says m ts)

pub line_refused : (m : Machine) (ts : List Token) (e : LineFault) → line_from m ts ≡ Err e → IsRefused m ts e
unfolding Says
line_refused m ts e h = subst (Says m ts) h (line_says m ts)

pub spells_line : (m : Machine) (ts : List Token) (c : Content) → SpellsLine m ts c → line_from m ts ≡ Ok c
unfolding line_from
spells_line m ts c s =
    let w = s.own in
    let e = s.says in
    ap (said_by m ts) (form_again m ts s.form s.has) ∙ rw (w, e) refl

pub refused_line : (m : Machine) (ts : List Token) (e : LineFault) → IsRefused m ts e → line_from m ts ≡ Err e
unfolding line_from
refused_line m ts faults.BadStatement r = by_form (form_of m ts) refl
  where
    by_form : (o : Option Form) → form_of m ts ≡ o → said_by m ts o ≡ Err faults.BadStatement
    by_form None e = refl
    by_form (Some f) e = absurd (r f (form_is m ts f e))
refused_line m ts faults.WrongMachine (f, is, w) = ap (said_by m ts) (form_again m ts f is) ∙ rw w refl
refused_line m ts faults.NoSuchOperation (f, is, w, e) = ap (said_by m ts) (form_again m ts f is) ∙ rw (w, e) refl
