-- The code of each part, decoded, is that part again.
use Rattle.micro_word.proofs.Common.{◌≡◌, ℕ, zero, suc, ◌<◌, Bool, true, false, is_some, ◌||◌, ◌==◌, nat_lt, if◌then◌else◌, Option, Some, None, unwrap_or}
use Rattle.micro_word.proofs.Common.{IsTrue, refl, sym, ap, ◌∙◌, subst, arith, nat_tests, Machine, Mic1, Mic2, AluOp, BusSource, Shift, Mem, PlacedNext}
use Rattle.micro_word.proofs.Conditions.{both, equal, below, above, found}
use Rattle.micro_word.proofs.Sums.{fetch_end, a_end}
use Rattle.micro_word.specs.Prelude.{row, operation_of_gates, op_of, operations, shift_bits, shift_of, mem_bits, mem_of, fetch_bit, source_code, sources, is_code, bus_code, source_of, idle_code, a_code, a_of, jam_bits, addr_bits, decoded_next, is_h, may_be_a, may_be_b, fits_side, may_fetch, is_next, is_side, is_side_a, is_target, is_one_at_most}
use Rattle.micro_word.specs.declared.statement.AluOp.TheVariants as ops
use Rattle.micro_word.specs.declared.statement.BusSource.TheVariants as bus
use Rattle.micro_word.specs.declared.statement.Shift.TheVariants as shifts
use Rattle.micro_word.specs.declared.statement.Mem.TheVariants as mems
use Rattle.micro_word.specs.declared.statement.PlacedNext.TheVariants as nexts
use Rattle.micro_word.specs.declared.statement.Test.TheVariants as tests

-- Operations

pub record RowBack (op : AluOp) : Type 0 where
  pub is_found : operation_of_gates (row op).gates ≡ Some op
  pub fits : (row op).gates < 64

pub row_back : (op : AluOp) → RowBack op
row_back ops.A = record { is_found = refl; fits = omega arith }
row_back _ = record { is_found = refl; fits = omega arith }

gates_by : (gates : ℕ) (o : Option AluOp) → operation_of_gates gates ≡ o → IsTrue (is_some o) → (row (op_of gates)).gates ≡ gates
gates_by gates None e h = cc
gates_by gates (Some op) e h =
    let passes : IsTrue (gates == (row op).gates) = found (λ (o : AluOp). gates == (row o).gates) operations op e in
    ap (λ (o : Option AluOp). (row (unwrap_or o ops.MinusOne)).gates) e ∙ sym (equal _ _ passes)

pub gates_back : (gates : ℕ) → IsTrue (is_some (operation_of_gates gates)) → (row (op_of gates)).gates ≡ gates
gates_back gates h = gates_by gates (operation_of_gates gates) refl h

-- The shifter, the memory and the fetch

pub record ShiftBack (s : Shift) : Type 0 where
  pub is_back : shift_of (shift_bits s) ≡ s
  pub fits : shift_bits s < 4
  pub one : IsTrue (is_one_at_most (shift_bits s))

pub shift_back : (s : Shift) → ShiftBack s
shift_back shifts.None = record { is_back = refl; fits = omega arith; one = refl }
shift_back _ = record { is_back = refl; fits = omega arith; one = refl }

pub shift_bits-shift_of : (bits : ℕ) → bits < 4 → IsTrue (is_one_at_most bits) → shift_bits (shift_of bits) ≡ bits
shift_bits-shift_of zero h k = refl
shift_bits-shift_of (suc zero) h k = refl
shift_bits-shift_of (suc (suc zero)) h k = refl
shift_bits-shift_of (suc (suc (suc zero))) h k = cc
shift_bits-shift_of (suc (suc (suc (suc n)))) h k = omega arith

pub record MemBack (m : Mem) : Type 0 where
  pub is_back : mem_of (mem_bits m) ≡ m
  pub fits : mem_bits m < 4
  pub one : IsTrue (is_one_at_most (mem_bits m))

pub mem_back : (m : Mem) → MemBack m
mem_back mems.None = record { is_back = refl; fits = omega arith; one = refl }
mem_back _ = record { is_back = refl; fits = omega arith; one = refl }

pub mem_bits-mem_of : (bits : ℕ) → bits < 4 → IsTrue (is_one_at_most bits) → mem_bits (mem_of bits) ≡ bits
mem_bits-mem_of zero h k = refl
mem_bits-mem_of (suc zero) h k = refl
mem_bits-mem_of (suc (suc zero)) h k = refl
mem_bits-mem_of (suc (suc (suc zero))) h k = cc
mem_bits-mem_of (suc (suc (suc (suc n)))) h k = omega arith

pub fetch_bit-lt : (machine : Machine) (fetch : Bool) → fetch_bit machine fetch < fetch_end machine
fetch_bit-lt Mic1 true = omega arith
fetch_bit-lt Mic1 false = omega arith
fetch_bit-lt Mic2 fetch = omega arith

pub fetch_back : (machine : Machine) (fetch : Bool) → IsTrue (may_fetch machine fetch) → (fetch_bit machine fetch == 1) ≡ fetch
fetch_back Mic1 true h = refl
fetch_back Mic1 false h = refl
fetch_back Mic2 true h = cc
fetch_back Mic2 false h = refl

pub fetch_bit-back : (machine : Machine) (bit : ℕ) → bit < fetch_end machine → fetch_bit machine (bit == 1) ≡ bit
fetch_bit-back Mic1 zero h = refl
fetch_bit-back Mic1 (suc zero) h = refl
fetch_bit-back Mic1 (suc (suc n)) h = omega arith
fetch_bit-back Mic2 bit h = omega arith

pub bit_may_fetch : (machine : Machine) (bit : ℕ) → bit < fetch_end machine → IsTrue (may_fetch machine (bit == 1))
bit_may_fetch Mic1 bit h = refl
bit_may_fetch Mic2 zero h = refl
bit_may_fetch Mic2 (suc n) h = let no : ⊥ = omega arith in absurd no

-- The buses

record CodeBack (machine : Machine) (source : BusSource) : Type 0 where
  is_back : source_of machine (bus_code machine (Some source)) ≡ Some source
  is_below : IsTrue (nat_lt (bus_code machine (Some source)) (idle_code machine))

code_back : (machine : Machine) (source : BusSource) → IsTrue (is_some (source_code machine source)) → CodeBack machine source
code_back Mic1 bus.Mdr h = record { is_back = refl; is_below = refl }
code_back Mic1 bus.Pc h = record { is_back = refl; is_below = refl }
code_back Mic1 bus.Mbr h = record { is_back = refl; is_below = refl }
code_back Mic1 bus.Mbru h = record { is_back = refl; is_below = refl }
code_back Mic1 bus.Sp h = record { is_back = refl; is_below = refl }
code_back Mic1 bus.Lv h = record { is_back = refl; is_below = refl }
code_back Mic1 bus.Cpp h = record { is_back = refl; is_below = refl }
code_back Mic1 bus.Tos h = record { is_back = refl; is_below = refl }
code_back Mic1 bus.Opc h = record { is_back = refl; is_below = refl }
code_back Mic1 bus.Mbr1 h = cc
code_back Mic1 bus.Mbr1u h = cc
code_back Mic1 bus.Mbr2 h = cc
code_back Mic1 bus.Mbr2u h = cc
code_back Mic1 bus.H h = cc
code_back Mic2 bus.Mdr h = record { is_back = refl; is_below = refl }
code_back Mic2 bus.Pc h = record { is_back = refl; is_below = refl }
code_back Mic2 bus.Mbr h = cc
code_back Mic2 bus.Mbru h = cc
code_back Mic2 bus.Sp h = record { is_back = refl; is_below = refl }
code_back Mic2 bus.Lv h = record { is_back = refl; is_below = refl }
code_back Mic2 bus.Cpp h = record { is_back = refl; is_below = refl }
code_back Mic2 bus.Tos h = record { is_back = refl; is_below = refl }
code_back Mic2 bus.Opc h = record { is_back = refl; is_below = refl }
code_back Mic2 bus.Mbr1 h = record { is_back = refl; is_below = refl }
code_back Mic2 bus.Mbr1u h = record { is_back = refl; is_below = refl }
code_back Mic2 bus.Mbr2 h = record { is_back = refl; is_below = refl }
code_back Mic2 bus.Mbr2u h = record { is_back = refl; is_below = refl }
code_back Mic2 bus.H h = record { is_back = refl; is_below = refl }

idle_back : (machine : Machine) → source_of machine (idle_code machine) ≡ None
idle_back Mic1 = refl
idle_back Mic2 = refl

idle_is : (machine : Machine) → IsTrue (idle_code machine == idle_code machine)
idle_is Mic1 = refl
idle_is Mic2 = refl

pub bus_back : (machine : Machine) (used : Bool) (source : Option BusSource) → IsTrue (fits_side used (may_be_b machine) source) →
    source_of machine (bus_code machine source) ≡ source
bus_back machine used None h = idle_back machine
bus_back machine used (Some source) h = (code_back machine source (both used (is_some (source_code machine source)) h).1).is_back

pub bus_side : (machine : Machine) (used : Bool) (source : Option BusSource) → IsTrue (fits_side used (may_be_b machine) source) →
    IsTrue (is_side machine used (bus_code machine source))
bus_side machine true None h = cc
bus_side machine false None h = idle_is machine
bus_side machine true (Some source) h = (code_back machine source h).is_below
bus_side machine false (Some source) h = cc

pub side-lt : (machine : Machine) (used : Bool) (code : ℕ) → IsTrue (is_side machine used code) → code < 16
side-lt Mic1 true code h = grind (arith, nat_tests)
side-lt Mic1 false code h = grind (arith, nat_tests)
side-lt Mic2 true code h = grind (arith, nat_tests)
side-lt Mic2 false code h = grind (arith, nat_tests)

-- each code below the code for nothing is a source's
code_found : (machine : Machine) (code : ℕ) → code < idle_code machine → IsTrue (is_some (source_of machine code))
code_found Mic1 zero h = refl
code_found Mic1 (suc zero) h = refl
code_found Mic1 (suc (suc zero)) h = refl
code_found Mic1 (suc (suc (suc zero))) h = refl
code_found Mic1 (suc (suc (suc (suc zero)))) h = refl
code_found Mic1 (suc (suc (suc (suc (suc zero))))) h = refl
code_found Mic1 (suc (suc (suc (suc (suc (suc zero)))))) h = refl
code_found Mic1 (suc (suc (suc (suc (suc (suc (suc zero))))))) h = refl
code_found Mic1 (suc (suc (suc (suc (suc (suc (suc (suc zero)))))))) h = refl
code_found Mic1 (suc (suc (suc (suc (suc (suc (suc (suc (suc n))))))))) h = let no : ⊥ = omega arith in absurd no
code_found Mic2 zero h = refl
code_found Mic2 (suc zero) h = refl
code_found Mic2 (suc (suc zero)) h = refl
code_found Mic2 (suc (suc (suc zero))) h = refl
code_found Mic2 (suc (suc (suc (suc zero)))) h = refl
code_found Mic2 (suc (suc (suc (suc (suc zero))))) h = refl
code_found Mic2 (suc (suc (suc (suc (suc (suc zero)))))) h = refl
code_found Mic2 (suc (suc (suc (suc (suc (suc (suc zero))))))) h = refl
code_found Mic2 (suc (suc (suc (suc (suc (suc (suc (suc zero)))))))) h = refl
code_found Mic2 (suc (suc (suc (suc (suc (suc (suc (suc (suc zero))))))))) h = refl
code_found Mic2 (suc (suc (suc (suc (suc (suc (suc (suc (suc (suc zero)))))))))) h = refl
code_found Mic2 (suc (suc (suc (suc (suc (suc (suc (suc (suc (suc (suc zero))))))))))) h = refl
code_found Mic2 (suc (suc (suc (suc (suc (suc (suc (suc (suc (suc (suc (suc n)))))))))))) h = let no : ⊥ = omega arith in absurd no

coded_by : (machine : Machine) (code : ℕ) (o : Option ℕ) → IsTrue (is_code code o) → unwrap_or o (idle_code machine) ≡ code
coded_by machine code None h = cc
coded_by machine code (Some other) h = sym (equal _ _ h)

-- what a code below the code for nothing names
record Named (machine : Machine) (code : ℕ) (o : Option BusSource) : Type 0 where
  its_code : bus_code machine o ≡ code
  may_stand : IsTrue (fits_side true (may_be_b machine) o)

may_stand_by : (code : ℕ) (o : Option ℕ) → IsTrue (is_code code o) → IsTrue (is_some o)
may_stand_by code None h = cc
may_stand_by code (Some other) h = refl

names_by : (machine : Machine) (code : ℕ) (o : Option BusSource) → source_of machine code ≡ o → IsTrue (is_some o) → Named machine code o
names_by machine code None e h = cc
names_by machine code (Some source) e h =
    let passes : IsTrue (is_code code (source_code machine source)) = found (λ (s : BusSource). is_code code (source_code machine s)) sources source e in
    record { its_code = coded_by machine code (source_code machine source) passes; may_stand = may_stand_by code (source_code machine source) passes }

names : (machine : Machine) (code : ℕ) → IsTrue (nat_lt code (idle_code machine)) → Named machine code (source_of machine code)
names machine code h = names_by machine code (source_of machine code) refl (code_found machine code (below code (idle_code machine) h))

pub side_fits : (machine : Machine) (used : Bool) (code : ℕ) → IsTrue (is_side machine used code) → IsTrue (fits_side used (may_be_b machine) (source_of machine code))
side_fits machine true code h = (names machine code h).may_stand
side_fits machine false code h =
    subst (λ (c : ℕ). IsTrue (fits_side false (may_be_b machine) (source_of machine c))) (sym (equal code (idle_code machine) h))
    (subst (λ (o : Option BusSource). IsTrue (fits_side false (may_be_b machine) o)) (sym (idle_back machine)) refl)

pub bus_code-back : (machine : Machine) (used : Bool) (code : ℕ) → IsTrue (is_side machine used code) → bus_code machine (source_of machine code) ≡ code
bus_code-back machine true code h = (names machine code h).its_code
bus_code-back machine false code h =
    let idle : code ≡ idle_code machine = equal code (idle_code machine) h in
    ap (λ (c : ℕ). bus_code machine (source_of machine c)) idle ∙ ap (bus_code machine) (idle_back machine) ∙ sym idle

-- The side A

h_is : (source : BusSource) → IsTrue (is_h source) → Some bus.H ≡ Some source
h_is bus.H h = refl
h_is _ h = cc

h_back : (used : Bool) (a : Option BusSource) → IsTrue (fits_side used is_h a) → (if used then Some bus.H else None) ≡ a
h_back true None h = cc
h_back true (Some source) h = h_is source h
h_back false None h = refl
h_back false (Some source) h = cc

h_fits : (used : Bool) → IsTrue (fits_side used is_h (if used then Some bus.H else None))
h_fits true = refl
h_fits false = refl

pub a_back : (machine : Machine) (op : AluOp) (a : Option BusSource) → IsTrue (fits_side (row op).uses_a (may_be_a machine) a) → a_of machine op (a_code machine a) ≡ a
a_back Mic1 op a h = h_back (row op).uses_a a h
a_back Mic2 op a h = bus_back Mic2 (row op).uses_a a h

pub a_side : (machine : Machine) (op : AluOp) (a : Option BusSource) → IsTrue (fits_side (row op).uses_a (may_be_a machine) a) → IsTrue (is_side_a machine (row op).uses_a (a_code machine a))
a_side Mic1 op a h = refl
a_side Mic2 op a h = bus_side Mic2 (row op).uses_a a h

pub a_code-lt : (machine : Machine) (op : AluOp) (a : Option BusSource) → IsTrue (fits_side (row op).uses_a (may_be_a machine) a) → a_code machine a < a_end machine
a_code-lt Mic1 op a h = omega arith
a_code-lt Mic2 op a h = side-lt Mic2 (row op).uses_a (bus_code Mic2 a) (bus_side Mic2 (row op).uses_a a h)

pub side_a_fits : (machine : Machine) (op : AluOp) (code : ℕ) → IsTrue (is_side_a machine (row op).uses_a code) → IsTrue (fits_side (row op).uses_a (may_be_a machine) (a_of machine op code))
side_a_fits Mic1 op code h = h_fits (row op).uses_a
side_a_fits Mic2 op code h = side_fits Mic2 (row op).uses_a code h

pub a_code-back : (machine : Machine) (op : AluOp) (code : ℕ) → code < a_end machine → IsTrue (is_side_a machine (row op).uses_a code) → a_code machine (a_of machine op code) ≡ code
a_code-back Mic1 op code k h = omega arith
a_code-back Mic2 op code k h = bus_code-back Mic2 (row op).uses_a code h

-- The next address

pub record NextBack (n : PlacedNext) : Type 0 where
  pub is_back : decoded_next (jam_bits n) (addr_bits n) ≡ n
  pub in_jam : jam_bits n < 8
  pub in_addr : addr_bits n < 512
  pub target : IsTrue (is_target (jam_bits n) (addr_bits n))

pub next_back : (n : PlacedNext) → IsTrue (is_next n) → NextBack n
next_back (nexts.Goto to) h = record { is_back = refl; in_jam = omega arith; in_addr = below to 512 h; target = refl }
next_back (nexts.Dispatch true) h = record { is_back = refl; in_jam = omega arith; in_addr = omega arith; target = refl }
next_back (nexts.Dispatch false) h = record { is_back = refl; in_jam = omega arith; in_addr = omega arith; target = refl }
next_back (nexts.Branch tests.N low) h = record { is_back = refl; in_jam = omega arith; in_addr = omega (arith, below low 256 h); target = h }
next_back (nexts.Branch tests.Z low) h = record { is_back = refl; in_jam = omega arith; in_addr = omega (arith, below low 256 h); target = h }

-- the fields of the next address and the target that they name
pub record TargetBack (jam addr : ℕ) : Type 0 where
  pub its_jam : jam_bits (decoded_next jam addr) ≡ jam
  pub its_addr : addr_bits (decoded_next jam addr) ≡ addr
  pub valid : IsTrue (is_next (decoded_next jam addr))

dispatched : (addr : ℕ) → IsTrue (addr == 0 || addr == 256 || false) → (if addr == 256 then 256 else 0) ≡ addr
dispatched addr h = grind (arith, nat_tests)

pub target_back : (jam addr : ℕ) → jam < 8 → addr < 512 → IsTrue (is_target jam addr) → TargetBack jam addr
target_back zero addr k l h = record { its_jam = refl; its_addr = refl; valid = above addr 512 l }
target_back (suc zero) addr k l h = record { its_jam = refl; its_addr = refl; valid = h }
target_back (suc (suc zero)) addr k l h = record { its_jam = refl; its_addr = refl; valid = h }
target_back (suc (suc (suc zero))) addr k l h = cc
target_back (suc (suc (suc (suc zero)))) addr k l h = record { its_jam = refl; its_addr = dispatched addr h; valid = refl }
target_back (suc (suc (suc (suc (suc zero))))) addr k l h = cc
target_back (suc (suc (suc (suc (suc (suc zero)))))) addr k l h = cc
target_back (suc (suc (suc (suc (suc (suc (suc zero))))))) addr k l h = cc
target_back (suc (suc (suc (suc (suc (suc (suc (suc n)))))))) addr k l h = let no : ⊥ = omega arith in absurd no
