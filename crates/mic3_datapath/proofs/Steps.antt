-- What is asked of the bus for the statement that retires, with its access, is the cycle or its refusal.
use Rattle.mic3_datapath.proofs.Common.{arith, ◌≡◌, ℕ, ◌≤◌, Bool, true, false, if◌then◌else◌, List, Option, Some, None, Ok, length, refl, sym, ap, ap₂, ◌∙◌, ⊤}
use Rattle.mic3_datapath.proofs.Common.{nat_lt, ◌||◌, nat_tests, World, Refusal, ChangesOnly, IsLed, refused_by, BusView, Computed as Values, Drive}
use Rattle.mic3_datapath.proofs.Common.{statement_of, BusSource, Placed, IsEdge, Done, buses_in, refusal_in, IsTransfer, Asks, answered, second_clear}
use Rattle.mic3_datapath.proofs.Common.{first_refusal, memory_refusal, word_under_way, written, sampled, outcome, NineRegisters, ports_given, Ports}
use Rattle.mic3_datapath.proofs.Common.{sample_refusal, access_refusal, demand, next_micro, source, unit_after, unit_refusal, unit_samples, Asked}
use Rattle.mic_words.specs.declared.machine.Machine.TheVariants as machines
use Rattle.mic_datapath.specs.Edges as edges
use Rattle.mic3_datapath.specs.Prelude.{Pipeline, Issued, Computed, begins, clock, computed, computed_in, cycle, cycle_with, dispatched_from, is_held_up, is_jump_coming, issued, issued_by, issued_in, mem_in, mpc_after, refusal, settled, bytes_leaving, waits, word_after, world_after, driven, driven_by, mic3_meaning, step_of_word, values_of, HasMoved, IsAsked, edged, word_held, buses_before, values_by}

abbrev refusal_on : ℕ → Asked → Option Refusal
refusal_on n q = access_refusal n q.mem q.ports.mar q.at

same_refusal : (i : Option Issued) (p : Pipeline) (q : Asked) → IsAsked i p q → (n : ℕ) → refusal n i p ≡ refusal_on n q
same_refusal i p q h n =
    sym
    (ap (λ (r : Option Refusal). first_refusal (memory_refusal n q.mem q.ports.mar) r) (h.samples n)
    ∙ (λ j. first_refusal (memory_refusal n (h.memory j) (h.given j).mar) (unit_refusal (is_jump_coming (computed_in p.result)) n (h.given j).pc (bytes_leaving i) p.micro.unit)))

goes_on : (s : Placed) (i : Option Issued) (p : Pipeline) → issued s p ≡ i → (n : ℕ) (w : World) → length w.words ≡ n → cycle s p w ≡ cycle_with n i p w
goes_on s i p is n w size = ap₂ (λ (k : ℕ) (x : Option Issued). cycle_with k x p w) size is

word_is : (c : Option Computed) (word under : Option ℕ) (n : ℕ) (r : NineRegisters) (v : World) → under ≡ word_under_way n (mem_in c) (ports_given r) v →
    word_after n c word r v ≡ word_held c word under
word_is None word under n r v e = refl
word_is (Some c) word under n r v e = sym e

is_done : (s : Placed) (i : Option Issued) (p : Pipeline) (q : Asked) → issued s p ≡ i → IsAsked i p q → (w v : World) (n : ℕ) → length w.words ≡ n → (word : Option ℕ) (words : List ℕ) →
    refusal_on n q ≡ None → IsTransfer n q.mem q.ports w word v → v.words ≡ words →
    (t : Pipeline) → t ≡ edged i p words word → cycle s p w ≡ Done t v
is_done s i p q is h w v n size word words clear a shown t moves =
    let r : NineRegisters = settled i p in
    let its_word : word ≡ word_under_way n (mem_in p.result) (ports_given r) (written n (mem_in p.result) (ports_given r) w) =
    a.its_word ∙ (λ j. word_under_way n (h.memory j) (h.given j) (written n (h.memory j) (h.given j) w)) in
    let under : word_after n p.result p.micro.word r (written n (mem_in p.result) (ports_given r) w) ≡ word_held p.result p.micro.word word =
    word_is p.result p.micro.word word n r (written n (mem_in p.result) (ports_given r) w) its_word in
    let after : world_after n i p w ≡ v = sym (a.after ∙ (λ j. sampled n (h.memory j) (h.given j) (written n (h.memory j) (h.given j) w))) in
    let over : (written n (mem_in p.result) (ports_given r) w).words ≡ words = sym (a.words ∙ (λ j. (written n (h.memory j) (h.given j) w).words)) ∙ shown in
    goes_on s i p is n w size
    ∙ (ap (λ (x : Option Refusal). outcome x (clock n i p w) (world_after n i p w)) (same_refusal i p q h n ∙ clear)
    ∙ ((λ j. Done
    (record {
      micro = next_micro r (mpc_after i p) (under j) (unit_after (is_jump_coming (computed_in p.result)) (over j) r.pc (bytes_leaving i) p.micro.unit) (begins p.result);
      operand = i;
      result = computed p.operand;
    })
    (after j))
    ∙ ap (λ (x : Pipeline). Done x v) (sym moves)))

-- what retires asks for its access
pub asks : (word : ℕ) (i : Option Issued) (p : Pipeline) (q : Asked) → issued (statement_of machines.Mic2 word) p ≡ i → IsAsked i p q →
    Asks mic3_meaning word p q.ports q.mem (λ n. refusal_on n q)
unfolding step_of_word
asks word i p q is h =
    let s = statement_of machines.Mic2 word in
    record {
      after = λ w. clock (length w.words) i p w;
      refused = λ w.
          let n = length w.words in
          ap refusal_in (goes_on s i p is n w refl)
          ∙ (answered (refusal n i p) (clock n i p w) (world_after n i p w) ∙ ap refused_by (same_refusal i p q h n));
      done = λ w clear.
          let n = length w.words in
          goes_on s i p is n w refl
          ∙ (ap (λ (r : Option Refusal). outcome r (clock n i p w) (world_after n i p w)) (same_refusal i p q h n ∙ clear)
          ∙ sym (λ j. Done (clock n i p w) (sampled n (h.memory j) (h.given j) (written n (h.memory j) (h.given j) w))));
    }

-- an access that is not refused leaves the unit's fetch clear
pub samples_clear : (i : Option Issued) (p : Pipeline) (q : Asked) → IsAsked i p q → (n n' : ℕ) → n' ≡ n → refusal_on n q ≡ None →
    sample_refusal n' (unit_samples (is_jump_coming (computed_in p.result)) q.ports.pc (bytes_leaving i) p.micro.unit) ≡ None
samples_clear i p q h n n' size clear = (λ j. sample_refusal (size j) (sym h.its j)) ∙ second_clear (memory_refusal n q.mem q.ports.mar) (sample_refusal n q.at) clear

-- an edge is what its cycle's accesses come to
module _ (word : ℕ) (i : Option Issued) (p : Pipeline) (q : Asked) (is : issued (statement_of machines.Mic2 word) p ≡ i) (h : IsAsked i p q)
    (left held : Option (List ℕ)) (bus : BusView) where
  abbrev why : ℕ → Option Refusal
  why n = refusal_on n q

  pub edge_done : (left' held' : Option (List ℕ)) (bus' : BusView) (read : Option ℕ) → why (length bus.words) ≡ None →
      IsLed left held bus left' held' bus' (λ w v. IsTransfer (length bus.words) q.mem q.ports w read v) → ChangesOnly q.ports.mar bus.words bus'.words →
      (t : Pipeline) → t ≡ edged i p bus'.words read → IsEdge mic3_meaning word p left held bus {T = ⊤} t left' held' bus' (Ok tt)
  unfolding step_of_word
  edge_done left' held' bus' read clear led others t moves =
      edges.edge_done mic3_meaning word p left held bus q.ports q.mem why (asks word i p q is h) left' held' bus' clear led others t
      (ap (λ (x : Ports). x.mar) h.given ∙ sym (ap (λ (x : Pipeline). x.micro.mar) moves))
      (λ w v shows shown a.
      is_done (statement_of machines.Mic2 word) i p q is h w v _ (edges.size_of mic3_meaning word p left held bus w shows) read bus'.words clear a shown.words t moves)

-- the edge that is done has moved both slots on
pub moved : (i : Option Issued) (p : Pipeline) (words : List ℕ) (read : Option ℕ) (t : Pipeline) → t ≡ edged i p words read → HasMoved i p t
moved i p words read t moves = record { operand = ap (λ (q : Pipeline). q.operand) moves; result = ap (λ (q : Pipeline). q.result) moves }

-- what is in the result slot after that edge shows what left the ALU and the shifter before it
values_moved : (o : Option Issued) (v : Values) (c : Option Computed) → v ≡ values_of o → c ≡ computed o → values_by v.alu.value c ≡ values_of o
values_moved None v c v_is c_is = λ j. values_by (v_is j).alu.value (c_is j)
values_moved (Some i) v c v_is c_is = λ j. values_by (v_is j).alu.value (c_is j)

-- what was on the buses in a cycle that is done, by what the slots hold after it
pub seen_after : (word : ℕ) (p t : Pipeline) (i : Option Issued) (d : Drive) (v : Values) → i ≡ issued (statement_of machines.Mic2 word) p →
    d ≡ driven word p → v ≡ values_of p.operand → HasMoved i p t → buses_before d.stalled v.alu.value t ≡ buses_in mic3_meaning word p
unfolding driven
seen_after word p t i d v issues drove gives moves =
    (λ j. record {
      drive = record (driven_by ((moves.operand ∙ issues) j)) { stalled = (drove j).stalled };
      computed = values_moved p.operand v t.result gives moves.result j;
    })

-- what issues finds the bytes that it takes

pub enough : (s : Placed) (p : Pipeline) → waits s p ≡ false → demand s ≤ length p.micro.unit.bytes
enough s p goes = by_tests (is_held_up s p.micro.word (issued_in p.operand) (computed_in p.result)) (nat_lt (length p.micro.unit.bytes) (demand s)) refl goes
  where
    by_tests : (a b : Bool) → nat_lt (length p.micro.unit.bytes) (demand s) ≡ b → (a || b) ≡ false → demand s ≤ length p.micro.unit.bytes
    by_tests true b is h = absurd (cc)
    by_tests false true is h = absurd (cc)
    by_tests false false is h = grind (arith, nat_tests)

-- what issues, by whether it waits
abbrev pub issued_if : Placed → Pipeline → Bool → Option Issued
issued_if s p b = if b then None else Some (issued_by s p)

-- what issues, by what was driven
module _ (word : ℕ) (p : Pipeline) (d : Drive) (drove : d ≡ driven word p) where
  abbrev s : Placed
  s = statement_of machines.Mic2 word

  stalls_if : (b : Bool) → (driven_by (issued_if s p b)).stalled ≡ b
  stalls_if true = refl
  stalls_if false = refl

  pub waits_there : d.stalled ≡ waits s p
  unfolding driven
  waits_there = ap (λ (x : Drive). x.stalled) drove ∙ stalls_if (waits s p)

  pub none_issued : d.stalled ≡ true → None ≡ issued s p
  none_issued stalls = sym (ap (issued_if s p) (sym waits_there ∙ stalls))

  pub one_issued : d.stalled ≡ false → (byte : ℕ) → byte ≡ dispatched_from s p.micro.unit → Some (record { statement = s; a = d.a; b = d.b; byte = byte }) ≡ issued s p
  unfolding driven
  one_issued goes byte byte_is =
      let none = sym waits_there ∙ goes in
      let drives : d ≡ driven_by (issued_if s p false) = drove ∙ ap (λ (b : Bool). driven_by (issued_if s p b)) none in
      (λ j. Some (record { statement = s; a = (drives j).a; b = (drives j).b; byte = byte_is j })) ∙ sym (ap (issued_if s p) none)

  -- an operation that does not use its side B finds 0 there
  pub nothing_on_b : d.stalled ≡ false → s.part.b ≡ None → d.b ≡ 0
  unfolding driven
  nothing_on_b goes none =
      ap (λ (x : Drive). x.b) (drove ∙ ap (λ (b : Bool). driven_by (issued_if s p b)) (sym waits_there ∙ goes)) ∙ ap (λ (side : Option BusSource). source side p.micro) none
