-- A valid statement is the one that its word's fields name, and a canonical word is that of the statement that its fields name.
use Rattle.micro_word.proofs.Common.{◌≡◌, ℕ, ◌<◌, Bool, true, false, not, ◌==◌, nat_lt, if◌then◌else◌, Option, Some, None, unwrap_or, is_some, IfSome, IfNone}
use Rattle.micro_word.proofs.Common.{IsTrue, refl, sym, ap, ◌∙◌, subst, Machine, Mic1, Mic2, AluOp, BusSource, Placed, Fields}
use Rattle.micro_word.proofs.Conditions.{both, join, below, above}
use Rattle.micro_word.proofs.Sums.{Fitting, fields-word, fields_fit, word_with-lt, word-fields}
use Rattle.micro_word.proofs.Parts.{row_back, gates_back, shift_back, shift_bits-shift_of, mem_back, mem_bits-mem_of, fetch_bit-lt, fetch_back, fetch_bit-back, bit_may_fetch, bus_back, bus_side, side-lt, side_fits, bus_code-back, a_back, a_side, a_code-lt, side_a_fits, a_code-back, NextBack, next_back, TargetBack, target_back}
use Rattle.micro_word.specs.Prelude.{word_with, fields_of, row, operation_of_gates, op_of, shift_bits, shift_of, mem_bits, mem_of, fetch_bit, bus_code, source_of, a_code, a_of, codes, named, microword_of, statement_of, has_operation, may_be_a, may_be_b, fits_side, is_mixed, is_valid, IsCanonical, is_row, is_side, is_side_a, are_apart, is_target, is_one_at_most, are_canonical, word_end, is_canonical, decoded_as, SpellsWord}
pub use Rattle.micro_word.specs.Words.{Valid}
use Rattle.micro_word.specs.declared.statement.AluOp.TheVariants as ops
use Rattle.micro_word.specs.declared.statement.BusSource.TheVariants as bus

-- a valid statement meets each condition
pub valid : (machine : Machine) (p : Placed) → IsTrue (is_valid machine p) → Valid machine p
valid machine p h =
    let all = both _ _ h in
    let six = both _ _ all.0 in
    let five = both _ _ six.0 in
    let four = both _ _ five.0 in
    let three = both _ _ four.0 in
    let two = both _ _ three.0 in
    record { dests = two.0; op = two.1; a = three.1; b = four.1; apart = five.1; fetch = six.1; next = all.1 }

is_valid_by : (machine : Machine) (p : Placed) → Valid machine p → IsTrue (is_valid machine p)
is_valid_by machine p v = join _ _ (join _ _ (join _ _ (join _ _ (join _ _ (join _ _ v.dests v.op) v.a) v.b) v.apart) v.fetch) v.next

-- the conditions on the fields of a canonical word
record Conditions (machine : Machine) (f : Fields) : Type 0 where
  is_a_row : IsTrue (is_row machine f.gates)
  shift : IsTrue (is_one_at_most f.shift)
  a : IsTrue (is_side_a machine (row (op_of f.gates)).uses_a f.a)
  b : IsTrue (is_side machine (row (op_of f.gates)).uses_b f.b)
  apart : IsTrue (are_apart machine f.a f.b)
  mem : IsTrue (is_one_at_most f.mem)
  target : IsTrue (is_target f.jam f.addr)

conditions : (machine : Machine) (f : Fields) → IsTrue (are_canonical machine f) → Conditions machine f
conditions machine f h =
    let six = both _ _ h in
    let five = both _ _ six.0 in
    let four = both _ _ five.0 in
    let three = both _ _ four.0 in
    let two = both _ _ three.0 in
    let one = both _ _ two.0 in
    record { is_a_row = one.0; shift = one.1; a = two.1; b = three.1; apart = four.1; mem = five.1; target = six.1 }

are_canonical_by : (machine : Machine) (f : Fields) → Conditions machine f → IsTrue (are_canonical machine f)
are_canonical_by machine f c = join _ _ (join _ _ (join _ _ (join _ _ (join _ _ (join _ _ c.is_a_row c.shift) c.a) c.b) c.apart) c.mem) c.target

-- Statements

fitting : (machine : Machine) (p : Placed) → Valid machine p → Fitting machine (codes machine p)
fitting machine p v =
    let n : NextBack p.next = next_back p.next v.next in
    record {
      in_addr = n.in_addr;
      in_jam = n.in_jam;
      in_shift = (shift_back p.part.shift).fits;
      in_gates = (row_back p.part.op).fits;
      in_c = below p.part.dests 512 v.dests;
      in_mem = (mem_back p.part.mem).fits;
      in_fetch = fetch_bit-lt machine p.part.fetch;
      in_a = a_code-lt machine p.part.op p.part.a v.a;
      in_b = side-lt machine (row p.part.op).uses_b _ (bus_side machine (row p.part.op).uses_b p.part.b v.b);
    }

op_back : (op : AluOp) → op_of (row op).gates ≡ op
op_back op = ap (λ (o : Option AluOp). unwrap_or o ops.MinusOne) (row_back op).is_found

row_of_op : (machine : Machine) (op : AluOp) → IsTrue (has_operation machine op) → IsTrue (is_row machine (row op).gates)
row_of_op machine op h =
    join _ _ (subst (λ (o : Option AluOp). IsTrue (is_some o)) (sym (row_back op).is_found) refl)
    (subst (λ (o : AluOp). IsTrue (has_operation machine o)) (sym (op_back op)) h)

apart_codes : (machine : Machine) (used_a used_b : Bool) (a b : Option BusSource) → IsTrue (fits_side used_a (may_be_a machine) a) →
    IsTrue (fits_side used_b (may_be_b machine) b) → IsTrue (not (is_mixed a b)) → IsTrue (are_apart machine (a_code machine a) (bus_code machine b))
apart_codes Mic1 used_a used_b a b h k e = refl
apart_codes Mic2 used_a used_b a b h k e =
    subst (λ (x : Option BusSource). IsTrue (not (is_mixed x (source_of Mic2 (bus_code Mic2 b))))) (sym (bus_back Mic2 used_a a h))
    (subst (λ (y : Option BusSource). IsTrue (not (is_mixed a y))) (sym (bus_back Mic2 used_b b k)) e)

-- the codes of a valid statement meet the conditions
canonical_codes : (machine : Machine) (p : Placed) → Valid machine p → IsTrue (are_canonical machine (codes machine p))
canonical_codes machine p v =
    let op : p.part.op ≡ op_of (row p.part.op).gates = sym (op_back p.part.op) in
    are_canonical_by machine (codes machine p) (record {
      is_a_row = row_of_op machine p.part.op v.op;
      shift = (shift_back p.part.shift).one;
      a = subst (λ (o : AluOp). IsTrue (is_side_a machine (row o).uses_a (a_code machine p.part.a))) op (a_side machine p.part.op p.part.a v.a);
      b = subst (λ (o : AluOp). IsTrue (is_side machine (row o).uses_b (bus_code machine p.part.b))) op (bus_side machine (row p.part.op).uses_b p.part.b v.b);
      apart = apart_codes machine (row p.part.op).uses_a (row p.part.op).uses_b p.part.a p.part.b v.a v.b v.apart;
      mem = (mem_back p.part.mem).one;
      target = (next_back p.next v.next).target;
    })

-- a valid statement is the one that its codes name
named-codes : (machine : Machine) (p : Placed) → Valid machine p → named machine (codes machine p) ≡ p
named-codes machine p v =
    let op : op_of (row p.part.op).gates ≡ p.part.op = op_back p.part.op in
    let a : a_of machine (op_of (row p.part.op).gates) (a_code machine p.part.a) ≡ p.part.a =
    ap (λ (o : AluOp). a_of machine o (a_code machine p.part.a)) op ∙ a_back machine p.part.op p.part.a v.a in
    let b : source_of machine (bus_code machine p.part.b) ≡ p.part.b = bus_back machine (row p.part.op).uses_b p.part.b v.b in
    λ i. record {
      part = record {
        dests = p.part.dests;
        op = op i;
        a = a i;
        b = b i;
        shift = (shift_back p.part.shift).is_back i;
        mem = (mem_back p.part.mem).is_back i;
        fetch = fetch_back machine p.part.fetch v.fetch i;
      };
      next = (next_back p.next v.next).is_back i;
    }

fields-code : (machine : Machine) (p : Placed) → Valid machine p → fields_of machine (microword_of machine p) ≡ codes machine p
fields-code machine p v = fields-word machine (codes machine p) (fitting machine p v)

pub statement-word : (machine : Machine) (p : Placed) → IsTrue (is_valid machine p) → statement_of machine (microword_of machine p) ≡ p
unfolding statement_of
statement-word machine p h = let v : Valid machine p = valid machine p h in ap (named machine) (fields-code machine p v) ∙ named-codes machine p v

-- the word of a valid statement is canonical
pub canonical-word : (machine : Machine) (p : Placed) → IsTrue (is_valid machine p) → IsTrue (is_canonical machine (microword_of machine p))
unfolding is_canonical
canonical-word machine p h =
    let v : Valid machine p = valid machine p h in
    let short : microword_of machine p < word_end machine = word_with-lt machine (codes machine p) (fitting machine p v) in
    join _ _ (above (microword_of machine p) (word_end machine) short)
    (subst (λ (f : Fields). IsTrue (are_canonical machine f)) (sym (fields-code machine p v)) (canonical_codes machine p v))

-- Words

apart_h : (used : Bool) (b : Option BusSource) → IsTrue (not (is_mixed (if used then Some bus.H else None) b))
apart_h true b = refl
apart_h false b = refl

apart_named : (machine : Machine) (op : AluOp) (a b : ℕ) → IsTrue (are_apart machine a b) → IsTrue (not (is_mixed (a_of machine op a) (source_of machine b)))
apart_named Mic1 op a b h = apart_h (row op).uses_a (source_of Mic1 b)
apart_named Mic2 op a b h = h

-- fields that meet the conditions name a valid statement
named_valid : (machine : Machine) (f : Fields) → Fitting machine f → Conditions machine f → IsTrue (is_valid machine (named machine f))
named_valid machine f fit c =
    let op : AluOp = op_of f.gates in
    let found = both (is_some (operation_of_gates f.gates)) (has_operation machine op) c.is_a_row in
    is_valid_by machine (named machine f) (record {
      dests = above f.c 512 fit.in_c;
      op = found.1;
      a = side_a_fits machine op f.a c.a;
      b = side_fits machine (row op).uses_b f.b c.b;
      apart = apart_named machine op f.a f.b c.apart;
      fetch = bit_may_fetch machine f.fetch fit.in_fetch;
      next = (target_back f.jam f.addr fit.in_jam fit.in_addr c.target).valid;
    })

-- such fields are the codes of the statement that they name
codes-named : (machine : Machine) (f : Fields) → Fitting machine f → Conditions machine f → codes machine (named machine f) ≡ f
codes-named machine f fit c =
    let op : AluOp = op_of f.gates in
    let t : TargetBack f.jam f.addr = target_back f.jam f.addr fit.in_jam fit.in_addr c.target in
    let gates : (row op).gates ≡ f.gates = gates_back f.gates (both _ _ c.is_a_row).0 in
    let shift : shift_bits (shift_of f.shift) ≡ f.shift = shift_bits-shift_of f.shift fit.in_shift c.shift in
    let mem : mem_bits (mem_of f.mem) ≡ f.mem = mem_bits-mem_of f.mem fit.in_mem c.mem in
    let fetch : fetch_bit machine (f.fetch == 1) ≡ f.fetch = fetch_bit-back machine f.fetch fit.in_fetch in
    let a : a_code machine (a_of machine op f.a) ≡ f.a = a_code-back machine op f.a fit.in_a c.a in
    let b : bus_code machine (source_of machine f.b) ≡ f.b = bus_code-back machine (row op).uses_b f.b c.b in
    λ i. record { addr = t.its_addr i; jam = t.its_jam i; shift = shift i; gates = gates i; c = f.c; mem = mem i; fetch = fetch i; a = a i; b = b i }

-- a canonical word spells the statement that its fields name
pub spells : (machine : Machine) (word : ℕ) → IsTrue (is_canonical machine word) → SpellsWord machine word (statement_of machine word)
unfolding is_canonical statement_of
spells machine word h =
    let parts = both (nat_lt word (word_end machine)) (are_canonical machine (fields_of machine word)) h in
    let short : word < word_end machine = below word (word_end machine) parts.0 in
    let fit : Fitting machine (fields_of machine word) = fields_fit machine word in
    let c : Conditions machine (fields_of machine word) = conditions machine (fields_of machine word) parts.1 in
    let fields : codes machine (named machine (fields_of machine word)) ≡ fields_of machine word = codes-named machine (fields_of machine word) fit c in
    record {
      valid = named_valid machine (fields_of machine word) fit c;
      whole = ap (word_with machine) fields ∙ word-fields machine word short;
      fields = sym fields;
    }

pub is_the_word : (machine : Machine) (word : ℕ) → IsTrue (is_canonical machine word) → IsCanonical machine word
is_the_word machine word h = let s : SpellsWord machine word (statement_of machine word) = spells machine word h in (statement_of machine word, s.valid, s.whole)

-- Decoding

known_by : (machine : Machine) (w : ℕ) (b : Bool) → is_canonical machine w ≡ b → IfSome (if b then Some (statement_of machine w) else None) (λ p. IsTrue (is_valid machine p) × (microword_of machine p ≡ w))
known_by machine w true e = let s : SpellsWord machine w (statement_of machine w) = spells machine w e in (s.valid, s.whole)
known_by machine w false e = tt

pub known : (machine : Machine) (w : ℕ) → IfSome (decoded_as machine w) (λ p. IsTrue (is_valid machine p) × (microword_of machine p ≡ w))
known machine w = known_by machine w (is_canonical machine w) refl

pub back : (machine : Machine) (w : ℕ) (p : Placed) → IsTrue (is_valid machine p) → microword_of machine p ≡ w → decoded_as machine w ≡ Some p
back machine w p h e =
    let canonical : is_canonical machine w ≡ true = subst (λ (x : ℕ). IsTrue (is_canonical machine x)) e (canonical-word machine p h) in
    let same_one : statement_of machine w ≡ p = ap (statement_of machine) (sym e) ∙ statement-word machine p h in
    ap (λ (b : Bool). if b then Some (statement_of machine w) else None) canonical ∙ ap (λ (q : Placed). Some q) same_one

pub none : (machine : Machine) (w : ℕ) (r : Option Placed) → r ≡ decoded_as machine w → IfNone r (IsCanonical machine w → ⊥)
none machine w None e = λ k. let b : decoded_as machine w ≡ Some k.0 = back machine w k.0 k.1 k.2 in cc
none machine w (Some p) e = tt
