-- A verified image in the memory: where it ends, where its jumps come to, and the first state of its run.
use Rattle.std.proofs.Common.{◌≡◌, ℕ, zero, suc, ◌+◌, ◌<◌, ℤ, Option, Some, List, length, replicate, refl, sym, arith, ◌∙◌, ap, inl, inr}
use Rattle.std.specs.Prelude.{slice_get}
use Rattle.ijvm_simulation.specs.Common.{length-replicate, append-nil, All-get_or, plus, signed_pair, byte_in, Instr, word_of, target, State, HasWords}
use Rattle.ijvm_simulation.specs.Common.{start_of, frames_of, VerifiedView}
use Rattle.ijvm_simulation.specs.Stands.{Origin, RegistersStand, IsMemory}
use Rattle.ijvm_simulation.specs.Verified.{Loads, Fine, IsNext}
use Rattle.ijvm_simulation.specs.Accesses.{IsMapEnd}
use Rattle.ijvm_simulation.specs.Words.{plus_comm}

-- the target of the jump whose two bytes follow this address
abbrev pub jump : List ℕ → ℕ → ℕ
jump words at = plus (signed_pair (byte_in words (at + 1)) (byte_in words (at + 2))) at

-- a jump by z comes to an address of the text
pub record Lands (o : Origin) (s : State) (z : ℤ) : Type 0 where
  pub is : jump o.words s.at ≡ target s.at z
  pub inside : jump o.words s.at < 0x10000

pub map : (v : VerifiedView) (o : Origin) → Loads v o → IsMapEnd (length o.words)
map v o loads = elim loads.accepted.map_is [
  | inl e ↦ let long : length o.words ≡ v.map.stack_end = loads.long in record { low = omega (arith, e); high = omega (arith, e); near = omega (arith, e) }
  | inr e ↦ let long : length o.words ≡ v.map.stack_end = loads.long in record { low = omega (arith, e); high = omega (arith, e); near = omega (arith, e) }
]

pub inside : (v : VerifiedView) (o : Origin) (s : State) (i : Instr) → Loads v o → IsNext v o s i → s.at < 0x10000
inside v o s i loads n = omega (arith, n.begins, loads.image.limits.text_fits)

pub lands : (v : VerifiedView) (o : Origin) (s : State) (z : ℤ) → Loads v o → word_of z ≡ signed_pair (byte_in o.words (s.at + 1)) (byte_in o.words (s.at + 2)) → target s.at z < length v.image.text → Lands o s z
lands v o s z loads e l =
    let is : jump o.words s.at ≡ target s.at z = plus_comm (signed_pair (byte_in o.words (s.at + 1)) (byte_in o.words (s.at + 2))) s.at ∙ ap (plus s.at) (sym e) in
    record { is = is; inside = omega (arith, loads.image.limits.text_fits, is) }

pub running : (v : VerifiedView) (s : State) → Fine v s → HasWords s.running
running v s fine = All-get_or HasWords (frames_of s) 0 s.running (omega arith) fine.words.frames

zero_locals : (n k v : ℕ) → slice_get (replicate n (Some 0)) k ≡ Some (Some v) → (k < n) × (0 ≡ v)
zero_locals zero k v e = absurd (cc)
zero_locals (suc n) zero v e = (omega arith, cc)
zero_locals (suc n) (suc k) v e = let h = zero_locals n k v e in (omega (arith, h.0), h.1)

pub first : (v : VerifiedView) (o : Origin) (input : List ℕ) (sp tos : ℕ) → Loads v o → sp + 1 ≡ 0x8000 + v.main_locals →
    RegistersStand o (start_of v.main_locals input) sp 0x8000 0x4000 tos (record { words = o.words; untaken = input; given = o.given })
first v o input sp tos loads e =
    let memory : IsMemory o.words o.words = record { kept = λ a l. refl; long = refl } in
    let len : length (replicate {A = Option ℕ} v.main_locals (Some 0)) ≡ v.main_locals = length-replicate {A = Option ℕ} v.main_locals (Some 0) in
    record {
      sp_is = omega arith;
      lv_is = refl;
      cpp_is = refl;
      tos_is = tt;
      frames = (record { locals = λ k x g. let z = zero_locals v.main_locals k x g in loads.zeros k z.0 ∙ z.1; operands = tt; linked = tt }, tt);
      memory = memory;
      fits = omega (arith, loads.accepted.main_fits, loads.long);
      untaken = refl;
      given = sym (append-nil o.given);
    }
