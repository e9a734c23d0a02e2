-- Names that have no fault: of expressions and statements.
use Rattle.std.proofs.Common.{◌≡◌, ℕ, ◌+◌, ◌<◌, ◌≤◌, ◌==◌, Bool, true, false, not, cond, ◌||◌, ◌⊎◌, inl, inr, [], ◌∷◌, ◌++◌, List, length, refl, ap, sym, subst, ◌∙◌, append_assoc, length-append, arith}
use Rattle.std.specs.Prelude.{Option, Some, None, if◌then◌else◌, nat_lt, nat_le, unwrap_or}
use Rattle.std.specs.List.{list_any, position_or_len}
use Rattle.std.proofs.lemmas.List.Folds.{list_any-append}
use Rattle.tiny_draft.specs.declared.tree.Comparison.TheVariants as comparisons
use Rattle.tiny_draft.specs.declared.tree.Word.{Word}
use Rattle.tiny_draft.specs.Tree as draft
use Rattle.tiny_tree.specs.Prelude.{Program, AreNamed, AreNamedArguments, AreNamedSteps, IsCallable, IsNamedCond, IsNamedElse, IsNamedExpr, IsNamedStatement, IsNamedTerm, Seen, arguments_count, seen_after, seen_with, vars_in, vars_of, vars_of_else}
use Rattle.tiny_names.specs.declared.fault.Fault.{Fault}
use Rattle.tiny_names.specs.declared.functions.Signature.{Signature}
use Rattle.tiny_names.specs.Prelude.{argument_faults, block_faults, call_faults, cond_faults, count, declare_faults, else_faults, expr_faults, return_faults, statement_faults, step_faults, term_faults, all_names, else_names, has, shows, arguments, expr, function_place, otherwise, place_in, statement, statements, steps, term}
use Rattle.tiny_names.specs.Names.{names as declares}
use Rattle.tiny_names.specs.Resolved.{cond as resolved_cond}
use Rattle.tiny_parser.proofs.Words.{WordsArguments, WordsCond, WordsElse, WordsExpr, WordsStatement, WordsStatements, WordsSteps, WordsTerm}

-- ---- lists of faults, and tests

pub halves : (a b : List Fault) → a ++ b ≡ [] → (a ≡ []) × (b ≡ [])
halves [] b h = (refl, h)
halves (x ∷ a) b h = absurd (cc)

pub if_empty : (b : Bool) (f : Fault) → (if b then [] else f ∷ []) ≡ [] → b ≡ true
if_empty true f h = refl
if_empty false f h = absurd (cc)

pub not_if : (b : Bool) (f : Fault) (r : List Fault) → (if b then f ∷ [] else r) ≡ [] → (b ≡ false) × (r ≡ [])
not_if true f r h = absurd (cc)
not_if false f r h = (refl, h)

or_cases : (a b : Bool) → (a || b) ≡ true → (a ≡ true) ⊎ (b ≡ true)
or_cases true b h = inl refl
or_cases false b h = inr h

or_left : (a b : Bool) → a ≡ true → (a || b) ≡ true
or_left true b h = refl
or_left false b h = absurd (cc)

or_right : (a b : Bool) → b ≡ true → (a || b) ≡ true
or_right true b h = refl
or_right false b h = h

-- ---- membership and places

in_left : (a b : List ℕ) (name : ℕ) → has a name ≡ true → has (a ++ b) name ≡ true
in_left a b name h = list_any-append (λ n. n == name) a b ∙ or_left (has a name) (has b name) h

pub in_right : (a b : List ℕ) (name : ℕ) → has b name ≡ true → has (a ++ b) name ≡ true
in_right a b name h = list_any-append (λ n. n == name) a b ∙ or_right (has a name) (has b name) h

in_cases : (a b : List ℕ) (name : ℕ) → has (a ++ b) name ≡ true → (has a name ≡ true) ⊎ (has b name ≡ true)
in_cases a b name h = or_cases (has a name) (has b name) (sym (list_any-append (λ n. n == name) a b) ∙ h)

same : (n : ℕ) → (n == n) ≡ true
same n = grind arith

has_one : (n : ℕ) → has (n ∷ []) n ≡ true
has_one n = or_left (n == n) false (same n)

one_is : (n name : ℕ) → has (n ∷ []) name ≡ true → n ≡ name
one_is n name h = grind arith

front_step : (b : Bool) (k n : ℕ) (tail : Bool) → (b || tail) ≡ true → (tail ≡ true → k < n) → cond (not b) (1 + k) 0 < 1 + n
front_step true k n tail h f = omega arith
front_step false k n tail h f = let g : k < n = f h in omega arith

front_lt : (p : ℕ → Bool) (a b : List ℕ) → list_any p a ≡ true → position_or_len p (a ++ b) < length a
front_lt p [] b h = absurd (cc)
front_lt p (x ∷ a) b h = let r = front_step (p x) (position_or_len p (a ++ b)) (length a) (list_any p a) h (λ t. front_lt p a b t) in omega (arith, r)

at_place : (b : Bool) (k : ℕ) → b ≡ true → unwrap_or (cond b (Some k) None) 0 ≡ k
at_place true k h = refl
at_place false k h = absurd (cc)

pub below : (k n : ℕ) → k < n → nat_lt k n ≡ true
below k n h = grind arith

pub place_front : (a b : List ℕ) (name : ℕ) → has a name ≡ true → place_in (a ++ b) name < length a
place_front a b name h =
    let k = position_or_len (λ n. n == name) (a ++ b) in
    let lt : k < length a = front_lt (λ n. n == name) a b h in
    let all : k < length (a ++ b) = omega (arith, length-append a b) in
    let is : place_in (a ++ b) name ≡ k = at_place (nat_lt k (length (a ++ b))) k (below k (length (a ++ b)) all) in
    omega arith

pub place_lt : (a : List ℕ) (name : ℕ) → has a name ≡ true → place_in a name < length a
place_lt a name h = subst (λ (l : List ℕ). place_in l name < length a) (append_nil a) (place_front a [] name h)
  where
    append_nil : (l : List ℕ) → l ++ [] ≡ l
    append_nil [] = refl
    append_nil (x ∷ l) = ap (λ t. x ∷ t) (append_nil l)

-- ---- expressions

-- the names that are seen are seen at their places
abbrev pub IsSeen : List ℕ → List ℕ → Seen → Type 0
IsSeen names seen s = (name : ℕ) → has seen name ≡ true → (s (place_in names name) ≡ true) × (place_in names name < length names)

module _ (p : Program) (known : ℕ → Option Signature)
    (callable : (w : Word) (n : ℕ) → call_faults known w n ≡ [] → IsCallable p (function_place (known w.name)) n) (names : List ℕ) where
  count_arguments : (es : draft.Arguments) → arguments_count (arguments known names es) ≡ count es
  count_arguments draft.no_arguments = refl
  count_arguments (draft.argument e es) = ap (λ n. n + 1) (count_arguments es)

  called : (w : Word) (es : draft.Arguments) → call_faults known w (count es) ≡ [] → IsCallable p (function_place (known w.name)) (arguments_count (arguments known names es))
  called w es h = subst (λ (n : ℕ). IsCallable p (function_place (known w.name)) n) (sym (count_arguments es)) (callable w (count es) h)

  module _ (seen : List ℕ) (s : Seen) (inv : IsSeen names seen s) where
    mutual
      term_named : (t : draft.Term) → term_faults known seen t ≡ [] → WordsTerm t → IsNamedTerm p (length names) s (term known names t)
      term_named (draft.Number n) h w = w
      term_named (draft.Variable v) h w = inv v.name (if_empty (has seen v.name) _ h)
      term_named (draft.Called v es) h w = (called v es (halves _ _ h).0, arguments_named es (halves _ _ h).1 w)
      term_named draft.Get h w = tt
      term_named (draft.Group e) h w = expr_named e h w

      expr_named : (e : draft.Expr) → expr_faults known seen e ≡ [] → WordsExpr e → IsNamedExpr p (length names) s (expr known names e)
      expr_named (draft.Sum t ss) h w = (term_named t (halves _ _ h).0 w.0, steps_named ss (halves _ _ h).1 w.1)

      steps_named : (ss : draft.Steps) → step_faults known seen ss ≡ [] → WordsSteps ss → AreNamedSteps p (length names) s (steps known names ss)
      steps_named draft.no_steps h w = tt
      steps_named (draft.step o t ss) h w = (term_named t (halves _ _ h).0 w.0, steps_named ss (halves _ _ h).1 w.1)

      arguments_named : (es : draft.Arguments) → argument_faults known seen es ≡ [] → WordsArguments es → AreNamedArguments p (length names) s (arguments known names es)
      arguments_named draft.no_arguments h w = tt
      arguments_named (draft.argument e es) h w = (expr_named e (halves _ _ h).0 w.0, arguments_named es (halves _ _ h).1 w.1)

    cond_named : (c : draft.Cond) → cond_faults known seen c ≡ [] → WordsCond c → IsNamedCond p (length names) s (resolved_cond known names c)
    cond_named (draft.Compare comparisons.Equal a b) h w = (expr_named a (halves _ _ h).0 w.0, expr_named b (halves _ _ h).1 w.1)
    cond_named (draft.Compare _ a b) h w = (expr_named a (halves _ _ h).0 w.0, expr_named b (halves _ _ h).1 w.1)

  -- ---- statements

  abbrev Within : List ℕ → Type 0
  Within l = (name : ℕ) → has l name ≡ true → has names name ≡ true

  with_old : (b c : Bool) → c ≡ true → (if b then true else c) ≡ true
  with_old true c h = refl
  with_old false c h = h

  with_same : (b c : Bool) → b ≡ true → (if b then true else c) ≡ true
  with_same true c h = refl
  with_same false c h = absurd (cc)

  nothing_more : (seen : List ℕ) (s : Seen) → IsSeen names seen s → IsSeen names (seen ++ []) s
  nothing_more seen s inv = λ name h. inv name (before name (in_cases seen [] name h))
    where
      before : (name : ℕ) → (has seen name ≡ true) ⊎ (has [] name ≡ true) → has seen name ≡ true
      before name (inl a) = a
      before name (inr b) = absurd (cc)

  var_shown : (w : Word) (seen : List ℕ) (s : Seen) → IsSeen names seen s → Within (w.name ∷ [])
      → IsSeen names (seen ++ w.name ∷ []) (seen_with s (place_in names w.name))
  var_shown w seen s inv inside = λ name h. either name (in_cases seen (w.name ∷ []) name h)
    where
      either : (name : ℕ) → (has seen name ≡ true) ⊎ (has (w.name ∷ []) name ≡ true)
          → (seen_with s (place_in names w.name) (place_in names name) ≡ true) × (place_in names name < length names)
      either name (inl a) = let q = inv name a in (with_old (place_in names name == place_in names w.name) _ q.0, q.1)
      either name (inr b) = let is : w.name ≡ name = one_is w.name name b in (
        with_same (place_in names name == place_in names w.name) _
            (subst (λ (n : ℕ). (place_in names n == place_in names w.name) ≡ true) is (same (place_in names w.name))),
        place_lt names name (inside name b),
      )

  shown : (st : draft.Statement) (seen : List ℕ) (s : Seen) → IsSeen names seen s → Within (declares st)
      → IsSeen names (seen ++ shows st) (seen_after (statement known names st) s)
  shown (draft.Var w e) seen s inv inside = var_shown w seen s inv inside
  shown _ seen s inv inside = nothing_more seen s inv

  no_return : (main : Bool) (line : ℕ) → return_faults main line ≡ [] → main ≡ false
  no_return true line h = absurd (cc)
  no_return false line h = refl

  module _ (main main' : Bool) (agrees : main ≡ false → main' ≡ false) where
    mutual
      statement_named : (st : draft.Statement) (declared seen : List ℕ) (s : Seen) → IsSeen names seen s → Within (declares st)
          → statement_faults known main declared seen st ≡ [] → WordsStatement st → IsNamedStatement p main' (length names) (statement known names st) s
      statement_named (draft.Var v e) declared seen s inv inside h w = (
        expr_named seen s inv e (halves _ _ h).1 w,
        place_lt names v.name (inside v.name (has_one v.name)),
      )
      statement_named (draft.Assign v e) declared seen s inv inside h w =
          let at = inv v.name (if_empty (has seen v.name) _ (halves _ _ h).0) in
          (expr_named seen s inv e (halves _ _ h).1 w, at.0, at.1)
      statement_named (draft.Calls v es) declared seen s inv inside h w = (called v es (halves _ _ h).0, arguments_named seen s inv es (halves _ _ h).1 w)
      statement_named (draft.If l c b other) declared seen s inv inside h w =
          let later = (halves _ _ h).1 in (
            cond_named seen s inv c (halves _ _ h).0 w.0,
            statements_named b declared seen s inv (λ name m. inside name (in_left (all_names b) (else_names other) name m)) (halves _ _ later).0 w.1,
            else_named other (declared ++ all_names b) seen s inv (λ name m. inside name (in_right (all_names b) (else_names other) name m))
                (halves _ _ later).1 w.2,
          )
      statement_named (draft.While l c b) declared seen s inv inside h w = (
        cond_named seen s inv c (halves _ _ h).0 w.0,
        statements_named b declared seen s inv inside (halves _ _ h).1 w.1,
      )
      statement_named (draft.Return l e) declared seen s inv inside h w = (
        expr_named seen s inv e (halves _ _ h).1 w,
        agrees (no_return main l (halves _ _ h).0),
      )
      statement_named (draft.Put e) declared seen s inv inside h w = expr_named seen s inv e h w
      statement_named draft.Halt declared seen s inv inside h w = tt

      pub statements_named : (ss : draft.Statements) (declared seen : List ℕ) (s : Seen) → IsSeen names seen s → Within (all_names ss)
          → block_faults known main declared seen ss ≡ [] → WordsStatements ss → AreNamed p main' (length names) (statements known names ss) s
      statements_named draft.no_statements declared seen s inv inside h w = tt
      statements_named (draft.statement st ss) declared seen s inv inside h w =
          let here : Within (declares st) = λ name m. inside name (in_left (declares st) (all_names ss) name m) in (
            statement_named st declared seen s inv here (halves _ _ h).0 w.0,
            statements_named ss (declared ++ declares st) (seen ++ shows st) (seen_after (statement known names st) s) (shown st seen s inv here)
                (λ name m. inside name (in_right (declares st) (all_names ss) name m)) (halves _ _ h).1 w.1,
          )

      else_named : (other : draft.Else) (declared seen : List ℕ) (s : Seen) → IsSeen names seen s → Within (else_names other)
          → else_faults known main declared seen other ≡ [] → WordsElse other → IsNamedElse p main' (length names) (otherwise known names other) s
      else_named draft.no_else declared seen s inv inside h w = tt
      else_named (draft.else_block b) declared seen s inv inside h w = statements_named b declared seen s inv inside h w

-- ---- how many names there are

module _ (known : ℕ → Option Signature) (names : List ℕ) where
  mutual
    vars_in_is : (st : draft.Statement) → vars_in (statement known names st) ≡ length (declares st)
    vars_in_is (draft.If l c b other) = let x = vars_of_is b in let y = vars_of_else_is other in omega (arith, x, y, length-append (all_names b) (else_names other))
    vars_in_is (draft.While l c b) = vars_of_is b
    vars_in_is _ = refl

    pub vars_of_is : (ss : draft.Statements) → vars_of (statements known names ss) ≡ length (all_names ss)
    vars_of_is draft.no_statements = refl
    vars_of_is (draft.statement st ss) = let x = vars_in_is st in let y = vars_of_is ss in omega (arith, x, y, length-append (declares st) (all_names ss))

    vars_of_else_is : (other : draft.Else) → vars_of_else (otherwise known names other) ≡ length (else_names other)
    vars_of_else_is draft.no_else = refl
    vars_of_else_is (draft.else_block b) = vars_of_is b

pub declare_few : (declared : List ℕ) (w : Word) → declare_faults declared w ≡ [] → length (declared ++ w.name ∷ []) ≤ 255
declare_few declared w h =
    let b = not_if (nat_le 255 (length declared)) _ [] (not_if (has declared w.name) _ _ h).1 in
    let lt : length declared < 255 = above (length declared) b.0 in
    omega (arith, length-append declared (w.name ∷ []))
  where
    above : (n : ℕ) → nat_le 255 n ≡ false → n < 255
    above n e = grind arith

same_few : (declared : List ℕ) → length declared ≤ 255 → length (declared ++ []) ≤ 255
same_few declared h = let nil : List ℕ = [] in omega (arith, length-append declared nil)

module _ (known : ℕ → Option Signature) (main : Bool) where
  mutual
    statement_few : (st : draft.Statement) (declared seen : List ℕ) → statement_faults known main declared seen st ≡ [] → length declared ≤ 255
        → length (declared ++ declares st) ≤ 255
    statement_few (draft.Var v e) declared seen h few = declare_few declared v (halves _ _ h).0
    statement_few (draft.Assign v e) declared seen h few = same_few declared few
    statement_few (draft.Calls v es) declared seen h few = same_few declared few
    statement_few (draft.If l c b other) declared seen h few =
        let later = (halves _ _ h).1 in
        subst (λ (l : List ℕ). length l ≤ 255) (append_assoc declared (all_names b) (else_names other))
        (else_few other (declared ++ all_names b) seen (halves _ _ later).1 (block_few b declared seen (halves _ _ later).0 few))
    statement_few (draft.While l c b) declared seen h few = block_few b declared seen (halves _ _ h).1 few
    statement_few (draft.Return l e) declared seen h few = same_few declared few
    statement_few _ declared seen h few = same_few declared few

    pub block_few : (ss : draft.Statements) (declared seen : List ℕ) → block_faults known main declared seen ss ≡ [] → length declared ≤ 255
        → length (declared ++ all_names ss) ≤ 255
    block_few draft.no_statements declared seen h few = same_few declared few
    block_few (draft.statement st ss) declared seen h few =
        subst (λ (l : List ℕ). length l ≤ 255) (append_assoc declared (declares st) (all_names ss)) (block_few ss (declared ++ declares st) (seen ++ shows st)
        (halves _ _ h).1 (statement_few st declared seen (halves _ _ h).0 few))

    else_few : (other : draft.Else) (declared seen : List ℕ) → else_faults known main declared seen other ≡ [] → length declared ≤ 255
        → length (declared ++ else_names other) ≤ 255
    else_few draft.no_else declared seen h few = same_few declared few
    else_few (draft.else_block b) declared seen h few = block_few b declared seen h few
