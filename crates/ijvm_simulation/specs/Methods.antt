-- The constants and the methods of a verified image in the memory, and the operands of a call.
use Rattle.std.proofs.Common.{◌≡◌, ℕ, zero, suc, ◌+◌, ◌*◌, ◌<◌, Bool, true, false, Some, None, Option, List, [], ◌∷◌, ◌++◌, length, take, drop, replicate, refl, arith, sym, ◌∙◌, ap, ap₂, subst}
use Rattle.std.specs.Prelude.{slice_index, slice_get, nat_lt, if◌then◌else◌}
use Rattle.ijvm_simulation.specs.Common.{nat_tests, length-replicate, slice_get_within, get_or_from_slice_get, same_Some, byte_in, Method, method_at, params}
use Rattle.ijvm_simulation.specs.Common.{others, onto, VerifiedView}
use Rattle.ijvm_simulation.specs.Stands.{Origin}
use Rattle.ijvm_simulation.specs.Verified.{Loads}

-- the operands of a call: the arguments, the last one first, the object reference, and those below
pub record Arguments (n : ℕ) (xs : List ℕ) : Type 0 where
  pub o : ℕ
  pub are : xs ≡ take n xs ++ o ∷ drop (n + 1) xs
  pub long : length (take n xs) ≡ n
  pub depth : length xs ≡ n + suc (length (drop (n + 1) xs))

-- a constant in the memory
pub record IsConstant (o : Origin) (k x : ℕ) : Type 0 where
  pub small : k < 0x4000
  pub there : slice_index o.words (0x4000 + k) ≡ x

-- a method that a constant names, in the memory
pub record IsMethod (v : VerifiedView) (o : Origin) (k : ℕ) (m : Method) : Type 0 where
  pub there : slice_get v.image.pool k ≡ Some m.entry
  pub named : slice_index v.image.pool k ≡ m.entry
  pub whole : m.entry + 4 < 0x10000
  pub params_are : m.params ≡ 256 * byte_in o.words m.entry + byte_in o.words (m.entry + 1)
  pub others_are : m.others ≡ 256 * byte_in o.words (m.entry + 2) + byte_in o.words (m.entry + 3)

pub length-onto : (ps : List ℕ) (xs : List (Option ℕ)) → length (onto ps xs) ≡ length ps + length xs
length-onto [] xs = omega arith
length-onto (p ∷ ps) xs = let e : length (onto ps (Some p ∷ xs)) ≡ length ps + length (Some p ∷ xs) = length-onto ps (Some p ∷ xs) in omega arith

-- the locals of a method after its object reference
pub locals : (ps : List ℕ) (more : ℕ) → length (onto ps (replicate more None)) ≡ length ps + more
locals ps more = length-onto ps (replicate more None) ∙ ap (λ (j : ℕ). length ps + j) (length-replicate {A = Option ℕ} more None)

pub arguments : (n : ℕ) (xs : List ℕ) → n < length xs → Arguments n xs
arguments n [] l = absurd (omega arith)
arguments zero (x ∷ xs) l = record { o = x; are = refl; long = refl; depth = omega arith }
arguments (suc n) (x ∷ xs) l =
    let a : Arguments n xs = arguments n xs (omega arith) in
    let same : suc n + 1 ≡ suc (n + 1) = omega arith in
    let below : length (drop (suc n + 1) (x ∷ xs)) ≡ length (drop (n + 1) xs) = ap (λ (j : ℕ). length (drop j (x ∷ xs))) same in
    record {
      o = a.o;
      are = ap (λ (ys : List ℕ). x ∷ ys) a.are ∙ ap (λ (j : ℕ). take (suc n) (x ∷ xs) ++ a.o ∷ drop j (x ∷ xs)) (sym same);
      long = ap (λ (j : ℕ). suc j) a.long;
      depth = omega (arith, a.depth);
    }

module _ (v : VerifiedView) (o : Origin) (loads : Loads v o) where
  pub constant : (k x : ℕ) → slice_get v.image.pool k ≡ Some x → IsConstant o k x
  constant k x e =
      let l : k < length v.image.pool = slice_get_within v.image.pool k x e in
      record { small = omega (arith, loads.image.limits.pool_fits); there = loads.pool k l ∙ get_or_from_slice_get v.image.pool k x 0 e }

  two_bytes_are : (p q : ℕ) → p < length v.image.text → q < length v.image.text →
      256 * slice_index v.image.text p + slice_index v.image.text q ≡ 256 * byte_in o.words p + byte_in o.words q
  two_bytes_are p q lp lq = sym (ap₂ (λ (a b : ℕ). 256 * a + b) (loads.bytes p lp) (loads.bytes q lq))

  method_named : (k e : ℕ) (m : Method) → slice_get v.image.pool k ≡ Some e → method_at v.image.text (Some e) ≡ Some m → IsMethod v o k m
  unfolding params others
  method_named k e m named is = by_test (nat_lt (e + 4) (length v.image.text)) refl is
    where
      by_test : (t : Bool) → nat_lt (e + 4) (length v.image.text) ≡ t →
          (if t then Some (record { entry = e; params = params v.image.text e; others = others v.image.text e }) else None) ≡ Some m → IsMethod v o k m
      by_test false t is = absurd (cc)
      by_test true t is =
          let l : e + 4 < length v.image.text = grind (arith, nat_tests) in
          subst (IsMethod v o k) (same_Some _ _ is)
          (record {
            there = named;
            named = get_or_from_slice_get v.image.pool k e 0 named;
            whole = omega (arith, loads.image.limits.text_fits);
            params_are = two_bytes_are e (e + 1) (omega arith) (omega arith);
            others_are = two_bytes_are (e + 2) (e + 3) (omega arith) (omega arith);
          })

  pub method : (k : ℕ) (m : Method) → method_at v.image.text (slice_get v.image.pool k) ≡ Some m → IsMethod v o k m
  method k m is = by_constant (slice_get v.image.pool k) refl is
    where
      by_constant : (x : Option ℕ) → slice_get v.image.pool k ≡ x → method_at v.image.text x ≡ Some m → IsMethod v o k m
      by_constant None named is = absurd (cc)
      by_constant (Some e) named is = method_named k e m named is
