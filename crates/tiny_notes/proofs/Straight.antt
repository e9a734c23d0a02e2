-- Code without jumps: the code of expressions.
use Rattle.tiny_notes.proofs.Common.{◌≡◌, ◌<◌, ℕ, pos, ◌+◌, Bool, true, false, if◌then◌else◌, List, [], ◌∷◌, ◌++◌, length, Some, ◌∙◌, subst, arith, refl}
use Rattle.tiny_notes.proofs.Common.{nat_le, slice_get, All, All-head, Instr, Bipush, LdcW, Iload, Invokevirtual, Operator, Plus}
use Rattle.tiny_notes.proofs.Common.{IsSimple, Runs, begun, in_pool, joined, next_depth, none, plain}
use Rattle.tiny_tree.specs.Prelude.{Term, Number, Variable, Called, Get, Group, Expr, Sum, Steps, no_steps, step, Arguments, no_arguments, argument, Seen, arguments_count, IsNamedTerm, IsNamedExpr, AreNamedSteps, AreNamedArguments}
use Rattle.tiny_code.specs.Prelude.{operator_code, term_code, expr_code, steps_code, arguments_code, term_numbers, expr_numbers, steps_numbers, arguments_numbers, HasNumbers, all_back, all_front}
use Rattle.tiny_notes.proofs.Scenes.{Place, CallFinds, set_of, set_first}

pub both : {X : Type 0} (P : X → Type 0) (xs ys : List X) → All P (xs ++ ys) → All P xs × All P ys
both P xs ys h = (all_front P xs ys h, all_back P xs ys h)

module _ (t : Place) (seen : Seen) where
  -- the pool has this number at its place
  abbrev IsKnown : ℕ → Type 0
  IsKnown n = slice_get t.scene.frame.image.pool (t.places.constant n) ≡ Some n

  abbrev Has : List ℕ → Type 0
  Has ns = HasNumbers t.scene.frame.image t.places ns

  abbrev pub Simple : Instr → ℕ → Type 0
  Simple = IsSimple t.scene (set_of t.scene.frame.first seen)

  -- code without jumps from a depth to another
  abbrev pub Goes : List Instr → ℕ → ℕ → Type 0
  Goes = Runs t.scene (set_of t.scene.frame.first seen)

  pub begin_with : {i : Instr} {is : List Instr} {d m e : ℕ} → Simple i d → next_depth t.scene.frame.image i d ≡ m → Goes is m e → Goes (i ∷ is) d e
  begin_with = begun t.scene (set_of t.scene.frame.first seen)

  pub join : {a b : List Instr} {d m e : ℕ} → Goes a d m → Goes b m e → Goes (a ++ b) d e
  join = joined t.scene (set_of t.scene.frame.first seen)

  pub done : (d : ℕ) → Goes [] d d
  done = none t.scene (set_of t.scene.frame.first seen)

  constant_simple : (k d : ℕ) → k < length t.scene.frame.image.pool → Simple (LdcW k) d
  constant_simple k d h = record { finds = (h, tt, tt, tt, tt, tt); enough = omega arith; no_jump = refl }

  number_runs : (b : Bool) (n d : ℕ) → Has (if b then [] else n ∷ []) → Goes ((if b then Bipush (pos n) else LdcW (t.places.constant n)) ∷ []) d (d + 1)
  number_runs true n d known = begin_with (record { finds = plain; enough = omega arith; no_jump = refl }) (omega arith) (done (d + 1))
  number_runs false n d known = begin_with (constant_simple _ d (in_pool _ _ n (All-head IsKnown n [] known))) (omega arith) (done (d + 1))

  -- two operands become one
  operator_runs : (op : Operator) (is : List Instr) (d e : ℕ) → Goes is (d + 1) e → Goes (operator_code op ∷ is) (d + 1 + 1) e
  operator_runs Plus is d e k = begin_with {m = d + 1} (record { finds = plain; enough = omega arith; no_jump = refl }) (omega arith) k
  operator_runs _ is d e k = begin_with {m = d + 1} (record { finds = plain; enough = omega arith; no_jump = refl }) (omega arith) k

  variable_simple : (x d : ℕ) → (seen x ≡ true) × (x < t.scene.many) → Simple (Iload (t.scene.frame.first + x)) d
  variable_simple x d h = record {
    finds = (tt, tt, tt, set_first t.scene.frame.first x seen ∙ h.0, (omega arith, omega (arith, h.1)), tt);
    enough = omega arith;
    no_jump = refl;
  }

  mutual
    pub term_runs : (x : Term) (d : ℕ) → Has (term_numbers x) → IsNamedTerm t.program t.scene.many seen x
        → Goes (term_code t.places t.scene.frame.first x) d (d + 1)
    term_runs (Number n) d known named = number_runs (nat_le n 127) n d known
    term_runs (Variable x) d known named = begin_with (variable_simple x d named) (omega arith) (done (d + 1))
    term_runs (Called g args) d known named =
        let m : ℕ = arguments_count args in
        let c : CallFinds t.scene (t.places.entry g) m = t.finds g m named.0 in
        let simple : Simple (Invokevirtual (t.places.entry g)) (d + 1 + m) =
        record { finds = (in_pool _ _ _ c.0.constant, c.0, tt, tt, tt, tt); enough = omega (arith, c.1); no_jump = refl } in
        let call : Goes (Invokevirtual (t.places.entry g) ∷ []) (d + 1 + m) (d + 1) = begin_with simple (omega (arith, c.1)) (done (d + 1)) in
        begin_with {m = d + 1} (constant_simple 0 d t.object) (omega arith) (join (arguments_run args _ known named.1) call)
    term_runs Get d known named = begin_with (record { finds = plain; enough = omega arith; no_jump = refl }) (omega arith) (done (d + 1))
    term_runs (Group e) d known named = expr_runs e d known named

    pub expr_runs : (e : Expr) (d : ℕ) → Has (expr_numbers e) → IsNamedExpr t.program t.scene.many seen e
        → Goes (expr_code t.places t.scene.frame.first e) d (d + 1)
    expr_runs (Sum first rest) d known named =
        let has : Has (term_numbers first) × Has (steps_numbers rest) = both IsKnown _ _ known in
        join (term_runs first d has.0 named.0) (steps_run rest d has.1 named.1)

    pub steps_run : (rest : Steps) (d : ℕ) → Has (steps_numbers rest) → AreNamedSteps t.program t.scene.many seen rest
        → Goes (steps_code t.places t.scene.frame.first rest) (d + 1) (d + 1)
    steps_run no_steps d known named = done (d + 1)
    steps_run (step op x rest) d known named =
        let has : Has (term_numbers x) × Has (steps_numbers rest) = both IsKnown _ _ known in
        join (term_runs x _ has.0 named.0) (operator_runs op _ d _ (steps_run rest d has.1 named.1))

    pub arguments_run : (args : Arguments) (d : ℕ) → Has (arguments_numbers args) → AreNamedArguments t.program t.scene.many seen args
        → Goes (arguments_code t.places t.scene.frame.first args) d (d + arguments_count args)
    arguments_run no_arguments d known named = record { simple = tt; depth = omega arith }
    arguments_run (argument e rest) d known named =
        let m : ℕ = arguments_count rest in
        let ends : d + 1 + m ≡ d + (m + 1) = omega arith in
        let has : Has (expr_numbers e) × Has (arguments_numbers rest) = both IsKnown _ _ known in
        join (expr_runs e d has.0 named.0)
        (subst (λ (x : ℕ). Goes (arguments_code t.places t.scene.frame.first rest) (d + 1) x) ends (arguments_run rest _ has.1 named.1))
