-- Costs: a constant that is not there reads as 0, and each cost has its bounds, by the table's rows.
use Rattle.ijvm_reference.proofs.Common.{◌≡◌, ◌≤◌, ◌==◌, ◌%◌, ◌&&◌, nat_le, ℕ, zero, suc, Bool, true, false, if◌then◌else◌, List, [], ◌∷◌, Option, Some, None}
use Rattle.ijvm_reference.proofs.Common.{refl, arith, leb-true, slice_get, slice_index, and_parts, Machine, Mic1, Mic2, Instr, Nop, Halt, Cost, Always}
use Rattle.ijvm_reference.proofs.Common.{IfTaken, ByEntry, Row, row_of, instr_at, ImageView}
use Rattle.ijvm_instr.specs.declared.instr.Instr.TheVariants.{Err}
use Rattle.ijvm_meaning.specs.Prelude.{State, Goes, step, step_if_any, step_outcome, timing_of, column, cycles_of, is_taken, entry_of, cost_at, next_cost}

pub index_none : (xs : List ℕ) (i : ℕ) → slice_get xs i ≡ None → slice_index xs i ≡ 0
index_none [] i e = refl
index_none (x ∷ xs) zero e = cc
index_none (x ∷ xs) (suc i) e = index_none xs i e

-- each number of cycles that a cost may come to passes this test
abbrev each : (ℕ → Bool) → Cost → Bool
each test (Always cycles) = test cycles
each test (IfTaken jumps falls) = test jumps && test falls
each test (ByEntry early late) = test late && test early

chosen : (test : ℕ → Bool) (x y : ℕ) (t : Bool) → (test x && test y) ≡ true → test (if t then x else y) ≡ true
chosen test x y true h = (and_parts (test x) (test y) h).0
chosen test x y false h = (and_parts (test x) (test y) h).1

passes : (test : ℕ → Bool) (c : Cost) (taken : Bool) (entry : ℕ) → each test c ≡ true → test (cycles_of c taken entry) ≡ true
passes test (Always cycles) taken entry h = h
passes test (IfTaken jumps falls) taken entry h = chosen test jumps falls taken h
passes test (ByEntry early late) taken entry h = chosen test late early (entry % 4 == 3) h

of_both : (P : Cost → Bool) (machine : Machine) (r : Row) → (P r.mic1 && P r.mic2) ≡ true → P (column machine r) ≡ true
of_both P Mic1 r h = (and_parts (P r.mic1) (P r.mic2) h).0
of_both P Mic2 r h = (and_parts (P r.mic1) (P r.mic2) h).1

abbrev both : (ℕ → Bool) → Instr → Bool
both test i = each test (row_of i).mic1 && each test (row_of i).mic2

passes_at : (test : ℕ → Bool) (image : ImageView) (machine : Machine) (i : Instr) (s : State) → both test i ≡ true →
    test (cost_at image (timing_of machine) s (Some i)) ≡ true
passes_at test image machine i s h =
    passes test (column machine (row_of i)) (is_taken i s.running.operands) (entry_of image.pool i) (of_both (each test) machine (row_of i) h)

-- every instruction that goes on costs at least a cycle
paid : (image : ImageView) (n : ℕ) (i : Instr) (s to : State) → step image n i s ≡ Goes to → both (nat_le 1) i ≡ true
paid image n Err s to e = absurd (cc)
paid image n Halt s to e = absurd (cc)
paid image n _ s to e = refl

-- no instruction costs more than 23 cycles
cheap : (i : Instr) → both (λ k. nat_le k 23) i ≡ true
cheap Nop = refl
cheap _ = refl

least_at : (image : ImageView) (n : ℕ) (machine : Machine) (i : Option Instr) (s to : State) → step_if_any image n s i ≡ Goes to → 1 ≤ cost_at image (timing_of machine) s i
least_at image n machine None s to e = absurd (cc)
least_at image n machine (Some i) s to e = leb-true _ _ (passes_at (nat_le 1) image machine i s (paid image n i s to e))

most_at : (image : ImageView) (machine : Machine) (i : Option Instr) (s : State) → cost_at image (timing_of machine) s i ≤ 23
most_at image machine None s = omega arith
most_at image machine (Some i) s = leb-true _ _ (passes_at (λ k. nat_le k 23) image machine i s (cheap i))

pub next_cost-least : (image : ImageView) (stack_end : ℕ) (machine : Machine) (s to : State) → step_outcome image stack_end s ≡ Goes to → 1 ≤ next_cost image (timing_of machine) s
next_cost-least image stack_end machine s to e = least_at image stack_end machine (instr_at image.text s.at) s to e

pub next_cost_most : (image : ImageView) (machine : Machine) (s : State) → next_cost image (timing_of machine) s ≤ 23
next_cost_most image machine s = most_at image machine (instr_at image.text s.at) s
