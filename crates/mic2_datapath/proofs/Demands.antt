-- The bytes that a statement demands, by what stands in its word.
use Rattle.mic2_datapath.proofs.Common.{◌≡◌, ℕ, ◌+◌, ◌-◌, ◌/◌, ◌≤◌, ◌%◌, ◌==◌, ◌||◌, ◌&&◌, ◌≢◌, Bool, true, false, IsTrue, List, Option, Some, None}
use Rattle.mic2_datapath.proofs.Common.{if◌then◌else◌, refl, sym, ap, ◌∙◌, arith, nat_lt, nat_tests, Mic2, Valid, fits_side, is_byte, is_pair, may_be_b}
use Rattle.mic2_datapath.proofs.Common.{jam_bits, mem_bits, row, bytes_shown, bytes_taken, place_on_bus, Mem, BusSource, PlacedNext, next_address, Placed}
use Rattle.mic2_datapath.proofs.Common.{access_by, demand, dispatch_bytes, unit_after, unit_samples, Prefetch, jump}
use Rattle.micro_word.specs.declared.statement.Mem.TheVariants as mems
use Rattle.micro_word.specs.declared.statement.BusSource.TheVariants as sources
use Rattle.micro_word.specs.declared.statement.PlacedNext.TheVariants as nexts
use Rattle.micro_word.specs.declared.statement.Test.TheVariants as tests

pub not_here : (used : Bool) → IsTrue (used && false) → ⊥
not_here true h = absurd (cc)
not_here false h = absurd (cc)

-- the bytes of an operand, by what drives its bus
abbrev pub bytes_named : Option BusSource → ℕ
bytes_named s = if is_pair s then 2 else if is_byte s then 1 else 0

pub place_bytes : (s : Option BusSource) (used : Bool) → IsTrue (fits_side used (may_be_b Mic2) s) → bytes_shown (place_on_bus s) ≡ bytes_named s
place_bytes None used h = refl
place_bytes (Some sources.Mdr) used h = refl
place_bytes (Some sources.Pc) used h = refl
place_bytes (Some sources.Mbr) used h = absurd (not_here used h)
place_bytes (Some sources.Mbru) used h = absurd (not_here used h)
place_bytes (Some sources.Sp) used h = refl
place_bytes (Some sources.Lv) used h = refl
place_bytes (Some sources.Cpp) used h = refl
place_bytes (Some sources.Tos) used h = refl
place_bytes (Some sources.Opc) used h = refl
place_bytes (Some sources.Mbr1) used h = refl
place_bytes (Some sources.Mbr1u) used h = refl
place_bytes (Some sources.Mbr2) used h = refl
place_bytes (Some sources.Mbr2u) used h = refl
place_bytes (Some sources.H) used h = refl

pub dispatch_bits : (n : PlacedNext) → (if jam_bits n == 4 then 1 else 0) ≡ dispatch_bytes n
dispatch_bits (nexts.Goto to) = refl
dispatch_bits (nexts.Dispatch high) = refl
dispatch_bits (nexts.Branch tests.N low) = refl
dispatch_bits (nexts.Branch tests.Z low) = refl

-- the bytes of the operands, by what each side names
abbrev pub bytes_by : Bool → Bool → Bool → Bool → ℕ
bytes_by pair_a pair_b byte_a byte_b = if pair_a || pair_b then 2 else if byte_a || byte_b then 1 else 0

pub byte_a : (pa pb ba bb : Bool) → ba ≡ true → 1 ≤ bytes_by pa pb ba bb
byte_a true pb ba bb is = omega arith
byte_a false true ba bb is = omega arith
byte_a false false true bb is = omega arith
byte_a false false false bb is = absurd (cc)

pub byte_b : (pa pb ba bb : Bool) → bb ≡ true → 1 ≤ bytes_by pa pb ba bb
byte_b true pb ba bb is = omega arith
byte_b false true ba bb is = omega arith
byte_b false false true bb is = omega arith
byte_b false false false true is = omega arith
byte_b false false false false is = absurd (cc)

pub pair_a : (pa pb ba bb : Bool) → pa ≡ true → 2 ≤ bytes_by pa pb ba bb
pair_a true pb ba bb is = omega arith
pair_a false pb ba bb is = absurd (cc)

pub pair_b : (pa pb ba bb : Bool) → pb ≡ true → 2 ≤ bytes_by pa pb ba bb
pair_b true pb ba bb is = omega arith
pair_b false true ba bb is = omega arith
pair_b false false ba bb is = absurd (cc)

-- the greater number of bytes is that of both operands
pub greater_is : (pa pb ba bb : Bool) →
    (if nat_lt (if pa then 2 else if ba then 1 else 0) (if pb then 2 else if bb then 1 else 0)
    then (if pb then 2 else if bb then 1 else 0) else (if pa then 2 else if ba then 1 else 0)) ≡ bytes_by pa pb ba bb
greater_is true true ba bb = refl
greater_is true false ba true = refl
greater_is true false ba false = refl
greater_is false true true bb = refl
greater_is false true false bb = refl
greater_is false false true true = refl
greater_is false false true false = refl
greater_is false false false true = refl
greater_is false false false false = refl

abbrev more : ℕ → ℕ → ℕ
more a b = if nat_lt a b then b else a

-- the bytes that a word takes by its control lines are the demand of its statement
pub takes_are : (s : Placed) (a b jam : ℕ) → Valid Mic2 s → a ≡ place_on_bus s.part.a → b ≡ place_on_bus s.part.b → jam ≡ jam_bits s.next → bytes_taken a b jam ≡ demand s
takes_are s a b jam valid a_is b_is jam_is =
    (λ i. bytes_taken (a_is i) (b_is i) (jam_is i))
    ∙ (λ i. more (place_bytes s.part.a (row s.part.op).uses_a valid.a i) (place_bytes s.part.b (row s.part.op).uses_b valid.b i) + dispatch_bits s.next i)
    ∙ ap (λ (n : ℕ). n + dispatch_bytes s.next) (greater_is (is_pair s.part.a) (is_pair s.part.b) (is_byte s.part.a) (is_byte s.part.b))

pub dispatch_takes : (n : PlacedNext) (operands : ℕ) → jam_bits n ≡ 4 → 1 ≤ operands + dispatch_bytes n
dispatch_takes (nexts.Goto to) operands h = absurd (cc)
dispatch_takes (nexts.Dispatch high) operands h = omega arith
dispatch_takes (nexts.Branch tests.N low) operands h = absurd (cc)
dispatch_takes (nexts.Branch tests.Z low) operands h = absurd (cc)

-- JMPC is the only one of the three that makes 4 or more
pub is_dispatch : (n : PlacedNext) (jam : ℕ) → jam ≡ jam_bits n → 4 ≤ jam → jam_bits n ≡ 4
is_dispatch (nexts.Goto to) jam is some = absurd (omega arith)
is_dispatch (nexts.Dispatch high) jam is some = refl
is_dispatch (nexts.Branch tests.N low) jam is some = absurd (omega arith)
is_dispatch (nexts.Branch tests.Z low) jam is some = absurd (omega arith)

-- the last of the bytes is the one after the operand's, where one is dispatched
pub dispatched_last : (n : PlacedNext) (value x takes operands : ℕ) (bytes : ℕ → ℕ) → jam_bits n ≡ 4 → takes ≡ operands + dispatch_bytes n → x ≡ bytes (takes - 1) →
    next_address n value x ≡ next_address n value (bytes operands)
dispatched_last (nexts.Goto to) value x takes operands bytes h takes_is is = absurd (cc)
dispatched_last (nexts.Dispatch high) value x takes operands bytes h takes_is is =
    let last : takes - 1 ≡ operands = omega (arith, takes_is) in
    ap (λ (y : ℕ). next_address (nexts.Dispatch high) value y) (is ∙ ap bytes last)
dispatched_last (nexts.Branch tests.N low) value x takes operands bytes h takes_is is = absurd (cc)
dispatched_last (nexts.Branch tests.Z low) value x takes operands bytes h takes_is is = absurd (cc)

pub are_there : (have demand takes : ℕ) → nat_lt have demand ≡ false → takes ≡ demand → takes ≤ have
are_there have demand takes h is = let few : demand ≤ have = grind (arith, nat_tests) in omega (arith, few, is)

pub within : (n operands more takes : ℕ) → n ≤ operands → takes ≡ operands + more → n ≤ takes
within n operands more takes h is = omega arith

-- a byte that is put in place of the dispatched one, where nothing is dispatched
pub not_dispatched : (n : PlacedNext) (value x y : ℕ) → jam_bits n ≢ 4 → next_address n value x ≡ next_address n value y
not_dispatched (nexts.Goto to) value x y h = refl
not_dispatched (nexts.Dispatch high) value x y h = absurd (h refl)
not_dispatched (nexts.Branch test low) value x y h = refl

-- a jump goes where PC goes; an edge without one does not look at PC

pub same_sample : (jumps : Bool) (pc pc' taken : ℕ) (u : Prefetch) → (jumps ≡ true → pc ≡ pc') → unit_samples jumps pc taken u ≡ unit_samples jumps pc' taken u
same_sample true pc pc' taken u h = ap (λ (x : ℕ). Some (x / 4)) (h refl)
same_sample false pc pc' taken u h = refl

pub same_unit : (jumps : Bool) (words : List ℕ) (pc pc' taken : ℕ) (u : Prefetch) → (jumps ≡ true → pc ≡ pc') → unit_after jumps words pc taken u ≡ unit_after jumps words pc' taken u
same_unit true words pc pc' taken u h = ap (λ (x : ℕ). jump words x) (h refl)
same_unit false words pc pc' taken u h = refl

-- a canonical word that accesses memory reads, or else writes
pub reads_or_writes : (m : Mem) (bits : ℕ) → bits ≡ mem_bits m → bits ≢ 0 → (reads : Bool) → reads ≡ (bits % 2 == 1) → m ≡ access_by reads
reads_or_writes mems.None bits is some reads its = absurd (some is)
reads_or_writes mems.Read bits is some reads its = sym (ap access_by (its ∙ ap (λ (x : ℕ). x % 2 == 1) is))
reads_or_writes mems.Write bits is some reads its = sym (ap access_by (its ∙ ap (λ (x : ℕ). x % 2 == 1) is))
