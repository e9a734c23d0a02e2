-- The methods of a program, and where they are laid out.
use Rattle.std.proofs.Common.{◌≡◌, ◌≢◌, ◌<◌, ⊎_elim, ℕ, zero, suc, ◌+◌, Bool, true, false, List, [], ◌∷◌, length, Some, refl, sym, ap, ◌∙◌, subst, arith}
use Rattle.std.specs.Prelude.{not, ◌==◌, slice_get, slice_index_or, cond, All}
use Rattle.std.specs.List.{Contains, filter, flat_map, enumerate_from}
use Rattle.std.proofs.lemmas.Option.{same_Some}
use Rattle.std.proofs.lemmas.Bool.{eq-eqb}
use Rattle.std.proofs.lemmas.Bool.Decides.{eqb_tells}
use Rattle.std.proofs.lemmas.List.Elements.{All-nil, All-cons, All-contains, Contains-append_right}
use Rattle.ijvm_image.specs.Prelude.{ImageView}
use Rattle.tiny_tree.specs.Prelude.{Function, Program}
use Rattle.tiny_code.specs.Prelude.{Places, code_size, main_code, method_size, methods, function_numbers, IsMethodAt, AreMethodsAt, IsLaidOut, Holds, all_back, all_front}

-- ---- the functions but main

abbrev Methods : ℕ → ℕ → List Function → List (ℕ × Function)
Methods main n gs = filter (λ m. not (m.0 == main)) (enumerate_from n gs)

kept : {X : Type 0} (b : Bool) (x : X) (xs : List X) → b ≡ true → Contains (cond b (x ∷ xs) xs) x
kept true x xs e = (0, omega arith, refl)
kept false x xs e = cc

passed : {X : Type 0} (b : Bool) (x y : X) (xs : List X) → Contains xs y → Contains (cond b (x ∷ xs) xs) y
passed true x y xs h = Contains-append_right (x ∷ []) xs y h
passed false x y xs h = h

differs : (n main : ℕ) → n ≢ main → not (n == main) ≡ true
differs n main other = ⊎_elim (λ e. absurd (other e.1)) (λ e. ap not e.0) (eqb_tells n main)

complete_from : (main n : ℕ) (gs : List Function) (f : ℕ) (g : Function) →
    slice_get gs f ≡ Some g → n + f ≢ main → Contains (Methods main n gs) (n + f, g)
complete_from main n [] f g h other = cc
complete_from main n (x ∷ gs) zero g h other =
    let e : (n, x) ≡ (n + 0, g) = ap (λ (k : ℕ). (k, x)) (omega arith) ∙ ap (λ (y : Function). (n + 0, y)) (same_Some x g h) in
    subst (Contains (Methods main n (x ∷ gs))) e
    (kept (not (n == main)) (n, x) (Methods main (n + 1) gs) (differs n main (λ (k : n ≡ main). other (omega (arith, k)))))
complete_from main n (x ∷ gs) (suc f) g h other =
    let e : (n + 1 + f, g) ≡ (n + suc f, g) = ap (λ (k : ℕ). (k, g)) (omega arith) in
    subst (Contains (Methods main n (x ∷ gs))) e
    (passed (not (n == main)) (n, x) (n + 1 + f, g) (Methods main (n + 1) gs)
    (complete_from main (n + 1) gs f g h (λ (k : n + 1 + f ≡ main). other (omega (arith, k)))))

pub complete : (program : Program) (f : ℕ) (g : Function) → slice_get program.functions f ≡ Some g → f ≢ program.main →
    Contains (methods program) (f, g)
complete program f g h other =
    let e : 0 + f ≡ f = omega arith in
    subst (λ (k : ℕ). Contains (methods program) (k, g)) e (complete_from program.main 0 program.functions f g h (λ (k : 0 + f ≡ program.main). other (omega (arith, k))))

abbrev IsOther : List Function → ℕ → ℕ × Function → Type 0
IsOther functions main m = (slice_get functions m.0 ≡ Some m.1) × (m.0 ≢ main)

sound_one : (b : Bool) (P : ℕ × Function → Type 0) (x : ℕ × Function) (xs : List (ℕ × Function)) → (b ≡ true → P x) →
    All P xs → All P (cond b (x ∷ xs) xs)
sound_one true P x xs h k = All-cons P x xs (h refl) k
sound_one false P x xs h k = k

not_main : (n main : ℕ) → not (n == main) ≡ true → n ≢ main
not_main n main h e = let same : (n == main) ≡ true = eq-eqb n main e in let bad : false ≡ true = sym (ap not same) ∙ h in cc

sound_from : (main n : ℕ) (gs all : List Function) → ((k : ℕ) → slice_get all (n + k) ≡ slice_get gs k) →
    All (IsOther all main) (Methods main n gs)
sound_from main n [] all h = All-nil (IsOther all main)
sound_from main n (x ∷ gs) all h =
    sound_one (not (n == main)) (IsOther all main) (n, x) (Methods main (n + 1) gs)
    (λ e. (let z : n + 0 ≡ n = omega arith in subst (λ (k : ℕ). slice_get all k ≡ Some x) z (h 0), not_main n main e))
    (sound_from main (n + 1) gs all (λ k. let z : n + suc k ≡ n + 1 + k = omega arith in
    subst (λ (j : ℕ). slice_get all j ≡ slice_get gs k) z (h (suc k))))

pub sound : (program : Program) (f : ℕ) (g : Function) → Contains (methods program) (f, g) →
    (slice_get program.functions f ≡ Some g) × (f ≢ program.main)
sound program f g h =
    All-contains (IsOther program.functions program.main) (methods program) (f, g)
    (sound_from program.main 0 program.functions program.functions (λ k. let z : 0 + k ≡ k = omega arith in
    ap (λ (j : ℕ). slice_get program.functions j) z)) h

-- ---- what is laid out holds

found : (image : ImageView) (p : Places) (begin : ℕ) (ms : List (ℕ × Function)) (m : ℕ × Function) (k : ℕ) →
    k < length ms → slice_index_or ms k m ≡ m → AreMethodsAt image p begin ms → (b : ℕ) × IsMethodAt image p b m.0 m.1
found image p begin [] m k lt e laid = absurd (omega (arith, lt))
found image p begin (x ∷ ms) m zero lt e laid = (begin, subst (λ (y : ℕ × Function). IsMethodAt image p begin y.0 y.1) e laid.0)
found image p begin (x ∷ ms) m (suc k) lt e laid = found image p (begin + method_size p x.1) ms m k (omega (arith, lt)) e laid.1

numbers_of : (P : ℕ → Type 0) (gs : List Function) (f : ℕ) (g : Function) → slice_get gs f ≡ Some g →
    All P (flat_map function_numbers gs) → All P (function_numbers g)
numbers_of P [] f g h all = cc
numbers_of P (x ∷ gs) zero g h all =
    subst (λ (y : Function). All P (function_numbers y)) (same_Some x g h) (all_front P (function_numbers x) (flat_map function_numbers gs) all)
numbers_of P (x ∷ gs) (suc f) g h all = numbers_of P gs f g h (all_back P (function_numbers x) (flat_map function_numbers gs) all)

pub holds : (image : ImageView) (p : Places) (program : Program) → IsLaidOut image p program → Holds image p program
holds image p program laid =
    record {
      object = laid.object;
      numbers = λ f g h. numbers_of (λ n. slice_get image.pool (p.constant n) ≡ Some n) program.functions f g h laid.numbers;
      main = laid.main;
      main_is = laid.main_is;
      main_at = laid.main_at;
      methods = λ f g h other. let at : Contains (methods program) (f, g) = complete program f g h other in
          found image p (code_size (main_code p laid.main)) (methods program) (f, g) at.0 at.1 at.2 laid.methods;
    }
