-- Each instruction that does not end the run is in the list, and more leaves are no harm.
use Rattle.mic1_checks.proofs.Common.{◌≡◌, ◌⊎◌, inl, inr, ℕ, ◌+◌, ◌<◌, List, Some, length, refl, ◌∙◌, subst, arith, slice_index_or, Contains, byte_in, Instr}
use Rattle.mic1_checks.proofs.Common.{Nop, Bipush, LdcW, Iload, Istore, Pop, Dup, Swap, Iadd, Isub, Iand, Iinc, Ifeq, Iflt, IfIcmpeq, Goto, Ireturn, Ior}
use Rattle.mic1_checks.proofs.Common.{Invokevirtual, WideIload, WideIstore, WideIinc, In, Out, Err, Halt, State, Reads, Origin, Instruction, Suits, Counts}
use Rattle.mic1_checks.proofs.Common.{Shape, CarriesInstruction, Onward, CarriesEach, CarriesTakes, instructions, plain, row_number, wide, shape_of}

some_is : (a b : ℕ) → Some a ≡ Some b → a ≡ b
some_is a b e = cc

module _ (o : Origin) (s : State) where
  is_plain : (row opcode : ℕ) → byte_in o.words s.at ≡ opcode → Suits (plain row opcode) o s
  is_plain row opcode is = record { opcode = is; second = λ b h. absurd (cc) }

  is_wide : (row second : ℕ) → byte_in o.words s.at ≡ 0xC4 → byte_in o.words (s.at + 1) ≡ second → Suits (wide row second) o s
  is_wide row second is next = record { opcode = is; second = λ b h. next ∙ some_is second b h }

  -- a place in the list
  pub record Listed (row : ℕ) : Type 0 where
    pub k : ℕ
    pub inside : k < length instructions
    pub its_row : (slice_index_or instructions k (plain 0 0)).row ≡ row
    pub suits : Suits (slice_index_or instructions k (plain 0 0)) o s

  at : (k row : ℕ) → k < 25 → (slice_index_or instructions k (plain 0 0)).row ≡ row → Suits (slice_index_or instructions k (plain 0 0)) o s → Listed row
  at k row h its suits = record { k = k; inside = h; its_row = its; suits = suits }

  pub listed : (c d e f : ℕ) (i : Instr) → Reads (byte_in o.words s.at) (byte_in o.words (s.at + 1)) c d e f i →
      (i ≡ Halt) ⊎ ((i ≡ Err) ⊎ Listed (row_number i))
  listed c d e f Nop r = inr (inr (at 0 0 (omega arith) refl (is_plain 0 0x00 r)))
  listed c d e f (Bipush z) r = inr (inr (at 1 1 (omega arith) refl (is_plain 1 0x10 r.0)))
  listed c d e f (LdcW k) r = inr (inr (at 2 2 (omega arith) refl (is_plain 2 0x13 r.0)))
  listed c d e f (Iload k) r = inr (inr (at 3 3 (omega arith) refl (is_plain 3 0x15 r.0)))
  listed c d e f (Istore k) r = inr (inr (at 4 4 (omega arith) refl (is_plain 4 0x36 r.0)))
  listed c d e f Pop r = inr (inr (at 5 5 (omega arith) refl (is_plain 5 0x57 r)))
  listed c d e f Dup r = inr (inr (at 6 6 (omega arith) refl (is_plain 6 0x59 r)))
  listed c d e f Swap r = inr (inr (at 7 7 (omega arith) refl (is_plain 7 0x5F r)))
  listed c d e f Iadd r = inr (inr (at 8 8 (omega arith) refl (is_plain 8 0x60 r)))
  listed c d e f Isub r = inr (inr (at 9 9 (omega arith) refl (is_plain 9 0x64 r)))
  listed c d e f Iand r = inr (inr (at 10 10 (omega arith) refl (is_plain 10 0x7E r)))
  listed c d e f (Iinc k z) r = inr (inr (at 11 11 (omega arith) refl (is_plain 11 0x84 r.0)))
  listed c d e f (Ifeq z) r = inr (inr (at 12 12 (omega arith) refl (is_plain 12 0x99 r.0)))
  listed c d e f (Iflt z) r = inr (inr (at 13 13 (omega arith) refl (is_plain 13 0x9B r.0)))
  listed c d e f (IfIcmpeq z) r = inr (inr (at 14 14 (omega arith) refl (is_plain 14 0x9F r.0)))
  listed c d e f (Goto z) r = inr (inr (at 15 15 (omega arith) refl (is_plain 15 0xA7 r.0)))
  listed c d e f Ireturn r = inr (inr (at 16 16 (omega arith) refl (is_plain 16 0xAC r)))
  listed c d e f Ior (inl r) = inr (inr (at 17 17 (omega arith) refl (is_plain 17 0xB0 r)))
  listed c d e f Ior (inr r) = inr (inr (at 18 17 (omega arith) refl (is_plain 17 0x80 r)))
  listed c d e f (Invokevirtual k) r = inr (inr (at 19 18 (omega arith) refl (is_plain 18 0xB6 r.0)))
  listed c d e f (WideIload k) r = inr (inr (at 20 19 (omega arith) refl (is_wide 19 0x15 r.0 r.1)))
  listed c d e f (WideIstore k) r = inr (inr (at 21 20 (omega arith) refl (is_wide 20 0x36 r.0 r.1)))
  listed c d e f (WideIinc k z) r = inr (inr (at 22 21 (omega arith) refl (is_wide 21 0x84 r.0 r.1)))
  listed c d e f In r = inr (inr (at 23 22 (omega arith) refl (is_plain 22 0xFC r)))
  listed c d e f Out r = inr (inr (at 24 23 (omega arith) refl (is_plain 23 0xFD r)))
  listed c d e f Err r = inr (inl refl)
  listed c d e f Halt r = inl refl

pub more : (n : Instruction) (shape : Shape) (store store' : List ℕ) (entry entry' : ℕ) (xs ys : List Counts) → ((c : Counts) → Contains xs c → Contains ys c) →
    CarriesInstruction n shape store store' entry entry' xs → CarriesInstruction n shape store store' entry entry' ys
more n shape store store' entry entry' xs ys kept h = λ before timing v o s q i takes stands suits formed.
    let on : Onward xs n.row store' entry' before timing v o s q i = h before timing v o s q i takes stands suits formed in
    record {
      goes = λ to went.
          let by = on.goes to went in
          record { counts = by.counts; is_leaf = kept by.counts by.is_leaf; its_row = by.its_row; carries = by.carries };
      limits = on.limits;
    }

-- what holds of each in the list holds of every one that does not end the run
pub taken : (store store' : List ℕ) (entry entry' : ℕ) (leaves : List Counts) → CarriesEach instructions store store' entry entry' leaves →
    CarriesTakes store store' entry entry' leaves
taken store store' entry entry' leaves each before timing v o s q i takes stands = elim (listed o s _ _ _ _ i stands.next.reads) [
  | inl halt ↦ inl halt
  | inr rest ↦ elim rest [
    | inl err ↦ inr (inl err)
    | inr there ↦
        inr (inr (subst (λ (row : ℕ). Onward leaves row store' entry' before timing v o s q i) there.its_row
        (each there.k there.inside (shape_of q.state) before timing v o s q i takes stands there.suits refl)))
  ]
]
