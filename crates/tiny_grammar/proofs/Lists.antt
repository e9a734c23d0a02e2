-- Lists of terms and of arguments that grow at their ends.
use Rattle.tiny_grammar.proofs.Common.{◌≡◌, List, [], ◌∷◌, ◌++◌, refl, ap, sym, ◌∙◌, append_assoc, append-nil, Operator, Function, Term, Expr, steps_of}
use Rattle.tiny_grammar.proofs.Common.{arguments_of, Word, Token}
use Rattle.tiny_draft.specs.declared.token.Sign.TheVariants as signs
use Rattle.tiny_grammar.specs.Prelude.{operator, sign, word, spell_term, spell_expr, spell_steps, spell_arguments, spell_function, spell_functions, spell_parameters}

-- arguments with a comma after each
abbrev pub with_commas : List Expr → List Token
with_commas [] = []
with_commas (e ∷ es) = spell_expr e ++ (sign signs.Comma ∷ with_commas es)

abbrev pub close : List Token
close = sign signs.Close ∷ []

pub commas_more : (es : List Expr) (e : Expr) → with_commas es ++ (spell_expr e ++ (sign signs.Comma ∷ [])) ≡ with_commas (es ++ e ∷ [])
commas_more [] e = refl
commas_more (x ∷ es) e = append_assoc (spell_expr x) (sign signs.Comma ∷ with_commas es) (spell_expr e ++ (sign signs.Comma ∷ [])) ∙ ap (λ y. spell_expr x ++ (sign signs.Comma ∷ y)) (commas_more es e)

more_end : (es : List Expr) (e : Expr) → with_commas es ++ (spell_expr e ++ close) ≡ spell_arguments (arguments_of (es ++ e ∷ []))
more_end [] e = refl
more_end (x ∷ []) e = append_assoc (spell_expr x) (sign signs.Comma ∷ []) (spell_expr e ++ close)
more_end (x ∷ y ∷ es) e = append_assoc (spell_expr x) (sign signs.Comma ∷ with_commas (y ∷ es)) (spell_expr e ++ close) ∙ ap (λ z. spell_expr x ++ (sign signs.Comma ∷ z)) (more_end (y ∷ es) e)

pub arguments_end : (es : List Expr) (e : Expr) → with_commas es ++ (spell_expr e ++ close) ≡ spell_arguments (arguments_of (es ++ e ∷ []))
arguments_end = more_end

pub steps_more : (ss : List (Operator × Term)) (s : Operator × Term) → spell_steps (steps_of ss) ++ (operator s.0 ∷ spell_term s.1) ≡ spell_steps (steps_of (ss ++ s ∷ []))
steps_more [] s = ap (λ x. operator s.0 ∷ x) (sym (append-nil (spell_term s.1)))
steps_more (x ∷ ss) s = ap (λ y. operator x.0 ∷ y) (append_assoc (spell_term x.1) (spell_steps (steps_of ss)) (operator s.0 ∷ spell_term s.1) ∙ ap (λ y. spell_term x.1 ++ y) (steps_more ss s))

-- ---- parameters

-- parameters with a comma after each
abbrev pub words_with_commas : List Word → List Token
words_with_commas [] = []
words_with_commas (w ∷ ws) = word w ∷ (sign signs.Comma ∷ words_with_commas ws)

pub words_more : (ws : List Word) (w : Word) → words_with_commas ws ++ (word w ∷ (sign signs.Comma ∷ [])) ≡ words_with_commas (ws ++ w ∷ [])
words_more [] w = refl
words_more (v ∷ ws) w = ap (λ y. word v ∷ (sign signs.Comma ∷ y)) (words_more ws w)

pub words_end : (ws : List Word) (w : Word) → words_with_commas ws ++ (word w ∷ close) ≡ spell_parameters (ws ++ w ∷ [])
words_end [] w = refl
words_end (v ∷ []) w = refl
words_end (v ∷ u ∷ ws) w = ap (λ y. word v ∷ (sign signs.Comma ∷ y)) (words_end (u ∷ ws) w)

pub functions_more : (fs : List Function) (f : Function) → spell_functions fs ++ spell_function f ≡ spell_functions (fs ++ f ∷ [])
functions_more [] f = sym (append-nil (spell_function f))
functions_more (g ∷ fs) f = append_assoc (spell_function g) (spell_functions fs) (spell_function f) ∙ ap (λ y. spell_function g ++ y) (functions_more fs f)
