-- What is asked of the bus for a statement, with its accesses, is its microstep or its refusal.
use Rattle.mic2_datapath.proofs.Common.{◌≡◌, ℕ, Bool, true, false, if◌then◌else◌, List, Option, Some, None, Result, Ok, Err, length, refl, sym, ap, subst, ◌∙◌}
use Rattle.mic2_datapath.proofs.Common.{arith, ⊤, IfErr, OnErr, OnOk, World, Refusal, ChangesOnly, IsLed, Shows, refused_by, HasFaultCause, IsFault, StillTells}
use Rattle.mic2_datapath.proofs.Common.{StreamsGoOn, BusView, statement_of, mem_of, fields_of, names, shifted, Mem, Placed, IsEdge, Outcome, Done, refusal_in}
use Rattle.mic2_datapath.proofs.Common.{IsTransfer, Asks, answered, led_same, refused_no_fault, second_clear, first_refusal, memory_refusal, word_under_way}
use Rattle.mic2_datapath.proofs.Common.{written, sampled, outcome, loaded, ports_given, Ports, Prefetch, edge_refusal, sample_refusal, access_refusal, advanced}
use Rattle.mic2_datapath.proofs.Common.{clock, demand, is_stalled, jumps, microstep, moved_on, refusal, registers_in, result_of, settled, stalled, step_if}
use Rattle.mic2_datapath.proofs.Common.{unit_after, unit_refusal, unit_samples, world_after, HasComputed, mic2_meaning, step_of_word, Micro}
use Rattle.console_port.specs.declared.fault.BusFault.{BusFault}
use Rattle.console_port.specs.declared.fault.BusFault.TheVariants as faults
use Rattle.mic_words.specs.declared.machine.Machine.TheVariants as machines
use Rattle.mic_datapath.specs.Edges as edges
use Rattle.mic2_datapath.proofs.Demands.{same_sample, same_unit}

-- what a cycle asks of the bus: an access, and the word that the fetch unit samples
pub record Asked : Type 0 where
  pub ports : Ports
  pub mem : Mem
  pub at : Option ℕ

-- what a cycle asks is what the statement does, in a cycle that does not stall
pub record IsAsked (s : Placed) (m : Micro) (p : Asked) : Type 0 where
  pub goes : is_stalled s m ≡ false
  pub given : p.ports ≡ ports_given (settled s m)
  pub memory : p.mem ≡ s.part.mem
  pub samples : (n : ℕ) → sample_refusal n p.at ≡ unit_refusal (jumps s.part) n p.ports.pc (demand s) m.unit
  pub its : p.at ≡ unit_samples (jumps s.part) p.ports.pc (demand s) m.unit

-- what is asked is asked for the statement of the word that was set up
pub is_asked : (word : ℕ) (m : Micro) (stalled : Bool) (value c dests taken : ℕ) (jump : Bool) (ports : Ports) (mem : Mem) (at : Option ℕ) →
    let s = statement_of machines.Mic2 word in
    HasComputed s m stalled value c → stalled ≡ false → dests ≡ (fields_of machines.Mic2 word).c → taken ≡ demand s → jump ≡ names dests 2 →
    ports ≡ ports_given (loaded dests c m.word (record (registers_in m) { pc = advanced taken m.pc })) →
    mem ≡ mem_of (fields_of machines.Mic2 word).mem →
    ((n : ℕ) → sample_refusal n at ≡ unit_refusal jump n ports.pc taken m.unit) → at ≡ unit_samples jump ports.pc taken m.unit → IsAsked s m (record { ports = ports; mem = mem; at = at })
unfolding statement_of
is_asked word m stalled value c dests taken jump ports mem at computed goes dests_are taken_is jump_is ports_are mem_is samples its =
    let s = statement_of machines.Mic2 word in
    let v : c ≡ shifted s.part.shift (result_of s.part m) = computed.shifter goes ∙ ap (λ (x : ℕ). shifted s.part.shift x) (computed.alu goes) in
    let jump : jump ≡ jumps s.part = jump_is ∙ ap (λ (d : ℕ). names d 2) dests_are in
    record {
      goes = sym computed.waits ∙ goes;
      given = ports_are ∙ (λ i. ports_given (loaded (dests_are i) (v i) m.word (record (registers_in m) { pc = advanced (taken_is i) m.pc })));
      memory = mem_is;
      samples = λ n. samples n ∙ (λ i. unit_refusal (jump i) n ports.pc (taken_is i) m.unit);
      its = its ∙ (λ i. unit_samples (jump i) ports.pc (taken_is i) m.unit);
    }

-- the address that the word port is given
pub mar_there : (word : ℕ) (m : Micro) (stalled : Bool) (value c dests : ℕ) →
    let s = statement_of machines.Mic2 word in
    HasComputed s m stalled value c → stalled ≡ false → dests ≡ (fields_of machines.Mic2 word).c → (loaded dests c m.word (registers_in m)).mar ≡ (settled s m).mar
unfolding statement_of
mar_there word m stalled value c dests computed goes dests_are =
    let s = statement_of machines.Mic2 word in
    let v : c ≡ shifted s.part.shift (result_of s.part m) = computed.shifter goes ∙ ap (λ (x : ℕ). shifted s.part.shift x) (computed.alu goes) in
    λ i. (loaded (dests_are i) (v i) m.word (registers_in m)).mar

-- the word that the word port is given
pub mdr_there : (word : ℕ) (m : Micro) (stalled : Bool) (value c dests : ℕ) →
    let s = statement_of machines.Mic2 word in
    HasComputed s m stalled value c → stalled ≡ false → dests ≡ (fields_of machines.Mic2 word).c → (loaded dests c m.word (registers_in m)).mdr ≡ (settled s m).mdr
unfolding statement_of
mdr_there word m stalled value c dests computed goes dests_are =
    let s = statement_of machines.Mic2 word in
    let v : c ≡ shifted s.part.shift (result_of s.part m) = computed.shifter goes ∙ ap (λ (x : ℕ). shifted s.part.shift x) (computed.alu goes) in
    λ i. (loaded (dests_are i) (v i) m.word (registers_in m)).mdr

-- what the fetch unit samples, by the bits of the word and what is on the C bus
pub sampled_there : (s : Placed) (m : Micro) (c taken : ℕ) (named : Bool) → named ≡ jumps s.part → taken ≡ demand s → c ≡ shifted s.part.shift (result_of s.part m) →
    unit_samples named c taken m.unit ≡ unit_samples (jumps s.part) (settled s m).pc (demand s) m.unit
sampled_there s m c taken named named_is taken_is c_is =
    let there = λ (is : jumps s.part ≡ true). c_is ∙ sym (ap (λ (b : Bool). if b then shifted s.part.shift (result_of s.part m) else advanced (demand s) m.pc) is) in
    (λ i. unit_samples (named_is i) c (taken_is i) m.unit) ∙ same_sample (jumps s.part) c (settled s m).pc (demand s) m.unit there

-- where the fetch unit stands after the edge, by the bits of the word and what is on the C bus
pub unit_there : (s : Placed) (m : Micro) (words : List ℕ) (c taken : ℕ) (named : Bool) → named ≡ jumps s.part → taken ≡ demand s → c ≡ shifted s.part.shift (result_of s.part m) →
    unit_after named words c taken m.unit ≡ unit_after (jumps s.part) words (settled s m).pc (demand s) m.unit
unit_there s m words c taken named named_is taken_is c_is =
    let there = λ (is : jumps s.part ≡ true). c_is ∙ sym (ap (λ (b : Bool). if b then shifted s.part.shift (result_of s.part m) else advanced (demand s) m.pc) is) in
    (λ i. unit_after (named_is i) words c (taken_is i) m.unit) ∙ same_unit (jumps s.part) words c (settled s m).pc (demand s) m.unit there

refused_there : (j : Bool) (n pc taken : ℕ) (u : Prefetch) → sample_refusal n (unit_samples j pc taken u) ≡ unit_refusal j n pc taken u
unfolding edge_refusal
refused_there true n pc taken u = refl
refused_there false n pc taken u = refl

-- what a cycle asks whose statement accesses memory so
abbrev pub asked_for : Placed → Micro → Mem → Asked
asked_for s m mem = record { ports = ports_given (settled s m); mem = mem; at = unit_samples (jumps s.part) (settled s m).pc (demand s) m.unit }

pub is_for : (s : Placed) (m : Micro) (mem : Mem) → is_stalled s m ≡ false → mem ≡ s.part.mem → IsAsked s m (asked_for s m mem)
is_for s m mem goes memory =
    record {
      goes = goes;
      given = refl;
      memory = memory;
      samples = λ n. refused_there (jumps s.part) n (settled s m).pc (demand s) m.unit;
      its = refl;
    }

abbrev refusal_on : ℕ → Asked → Option Refusal
refusal_on n p = access_refusal n p.mem p.ports.mar p.at

same_refusal : (s : Placed) (m : Micro) (p : Asked) → IsAsked s m p → (n : ℕ) → refusal n s m ≡ refusal_on n p
same_refusal s m p h n =
    sym
    (ap (λ (r : Option Refusal). first_refusal (memory_refusal n p.mem p.ports.mar) r) (h.samples n)
    ∙ (λ i. first_refusal (memory_refusal n (h.memory i) (h.given i).mar) (unit_refusal (jumps s.part) n (h.given i).pc (demand s) m.unit)))

-- where the write or the read is not refused, only the unit's fetch may be
pub refusal_left : (n : ℕ) (p : Asked) → memory_refusal n p.mem p.ports.mar ≡ None → refusal_on n p ≡ sample_refusal n p.at
refusal_left n p clear = ap (λ (r : Option Refusal). first_refusal r (sample_refusal n p.at)) clear

abbrev step_on : ℕ → Placed → Micro → World → Outcome Micro
step_on n s m w = outcome (refusal n s m) (clock n s m w) (world_after n s m w)

goes_on : (s : Placed) (m : Micro) (p : Asked) → IsAsked s m p → (n : ℕ) (w : World) → length w.words ≡ n → microstep s m w ≡ step_on n s m w
goes_on s m p h n w size = (λ i. step_if (h.goes i) (size i) s m w)

is_done : (s : Placed) (m : Micro) (p : Asked) → IsAsked s m p → (w v : World) (n : ℕ) → length w.words ≡ n → (word : Option ℕ) (words : List ℕ) →
    refusal_on n p ≡ None → IsTransfer n p.mem p.ports w word v → v.words ≡ words →
    (t : Micro) → t ≡ moved_on s m (result_of s.part m) words word → microstep s m w ≡ Done t v
is_done s m p h w v n size word words clear a shown t moves =
    let its_word : word_under_way n s.part.mem (ports_given (settled s m)) (written n s.part.mem (ports_given (settled s m)) w) ≡ word =
    sym (a.its_word ∙ (λ i. word_under_way n (h.memory i) (h.given i) (written n (h.memory i) (h.given i) w))) in
    let after : world_after n s m w ≡ v =
    sym (a.after ∙ (λ i. sampled n (h.memory i) (h.given i) (written n (h.memory i) (h.given i) w))) in
    let over : (written n s.part.mem (ports_given (settled s m)) w).words ≡ words =
    sym (a.words ∙ (λ i. (written n (h.memory i) (h.given i) w).words)) ∙ shown in
    goes_on s m p h n w size
    ∙ ap (λ (r : Option Refusal). outcome r (clock n s m w) (world_after n s m w)) (same_refusal s m p h n ∙ clear)
    ∙ (λ i. Done (moved_on s m (result_of s.part m) (over i) (its_word i)) (after i))
    ∙ ap (λ (x : Micro). Done x v) (sym moves)

-- a statement asks for its accesses, in a cycle that does not stall
pub asks : (word : ℕ) (m : Micro) (p : Asked) → IsAsked (statement_of machines.Mic2 word) m p → Asks mic2_meaning word m p.ports p.mem (λ n. refusal_on n p)
unfolding step_of_word
asks word m p h =
    let s = statement_of machines.Mic2 word in
    record {
      after = λ w. clock (length w.words) s m w;
      refused = λ w.
          let n = length w.words in
          ap refusal_in (goes_on s m p h n w refl)
          ∙ answered (refusal n s m) (clock n s m w) (world_after n s m w) ∙ ap refused_by (same_refusal s m p h n);
      done = λ w clear.
          let n = length w.words in
          goes_on s m p h n w refl
          ∙ (ap (λ (r : Option Refusal). outcome r (clock n s m w) (world_after n s m w)) (same_refusal s m p h n ∙ clear)
          ∙ sym (λ i. Done (clock n s m w) (sampled n (h.memory i) (h.given i) (written n (h.memory i) (h.given i) w))));
    }

-- a refusal has no cause in the source or the sink
no_cause : (why : Option Refusal) (source sink : ℕ) (r : Result ⊤ BusFault) → IfErr r (λ e. refused_by why ≡ Some e) → HasFaultCause source source sink sink r
no_cause why source sink r fails =
    record {
      source_later = omega arith;
      sink_later = omega arith;
      read = λ is. absurd (never faults.ReadFault is tt);
      write = λ is. absurd (never faults.WriteFault is tt);
      source_same = λ is. refl;
      sink_same = λ is. refl;
    }
  where
    never : (e : BusFault) → r ≡ Err e → IsFault e → ⊥
    never e is = refused_no_fault why e (subst (λ (x : Result ⊤ BusFault). IfErr x (λ f. refused_by why ≡ Some f)) is fails)

-- a call that reaches no console, and fails only as it is refused, leaves the source and the sink
pub streams_stay : {S K : Type 0} (left : S → Option (List ℕ)) (source_faults : S → ℕ) (held passed : K → Option (List ℕ)) (sink_faults : K → ℕ)
    (source : S) (sink : K) (bus bus' : BusView) → bus'.console.ended ≡ bus.console.ended → (why : Option Refusal) (r : Result ⊤ BusFault) →
    IfErr r (λ e. refused_by why ≡ Some e) → StreamsGoOn left source_faults held passed sink_faults bus source sink bus' source sink r
streams_stay left source_faults held passed sink_faults source sink bus bus' same why r fails =
    record {
      source_goes_on = record {
        asked_no_more = λ ended. (same ∙ ended, refl);
        tells_left = subst (λ (ended : Bool). StillTells (left source) bus.console.ended (left source) ended) (sym same) (λ tells. tells);
      };
      sink_goes_on = record { keeps = λ front holds. holds; tells = λ known. known; flushed = λ goes flushed. flushed };
      cause = no_cause why (source_faults source) (sink_faults sink) r fails;
    }

-- what is refused here is a read, because anything else was tested before
pub it_reads : (reads : Bool) (r : Option Refusal) (e : BusFault) → (reads ≡ false → r ≡ None) → refused_by r ≡ Some e → reads ≡ true
it_reads true r e clear fails = refl
it_reads false r e clear fails = let none : None ≡ Some e = sym (ap refused_by (clear refl)) ∙ fails in absurd (cc)

pub on_each_err : {P : Type 0} (r : Result ⊤ BusFault) (Q : BusFault → Type 0) → IfErr r Q → ((e : BusFault) → Q e → P) → OnErr r P
on_each_err (Ok done) Q fails f = tt
on_each_err (Err e) Q fails f = f e fails

-- an access that is not refused leaves the unit's fetch clear
pub samples_clear : (s : Placed) (m : Micro) (p : Asked) → IsAsked s m p → (n n' : ℕ) → n' ≡ n → refusal_on n p ≡ None →
    sample_refusal n' (unit_samples (jumps s.part) (settled s m).pc (demand s) m.unit) ≡ None
samples_clear s m p h n n' size clear =
    let its : p.at ≡ unit_samples (jumps s.part) (settled s m).pc (demand s) m.unit =
    h.its ∙ ap (λ (q : Ports). unit_samples (jumps s.part) q.pc (demand s) m.unit) h.given in
    (λ i. sample_refusal (size i) (sym its i)) ∙ second_clear (memory_refusal n p.mem p.ports.mar) (sample_refusal n p.at) clear

-- a cycle that stalls

waits_on : (s : Placed) (m : Micro) (w : World) (n : ℕ) → is_stalled s m ≡ true → length w.words ≡ n →
    microstep s m w ≡ outcome (edge_refusal n 0 m.unit) (stalled w.words m) w
waits_on s m w n waits size = λ i. step_if (waits i) (size i) s m w

stall_done : (s : Placed) (m : Micro) (w : World) (n : ℕ) → is_stalled s m ≡ true → length w.words ≡ n → edge_refusal n 0 m.unit ≡ None →
    (words : List ℕ) → w.words ≡ words → (t : Micro) → t ≡ stalled words m → microstep s m w ≡ Done t w
stall_done s m w n waits size clear words shown t moves =
    waits_on s m w n waits size
    ∙ (λ i. outcome (clear i) (stalled (shown i) m) w)
    ∙ ap (λ (x : Micro). Done x w) (sym moves)

stall_refusal : (s : Placed) (m : Micro) (w : World) (n : ℕ) → is_stalled s m ≡ true → length w.words ≡ n →
    refusal_in (microstep s m w) ≡ refused_by (edge_refusal n 0 m.unit)
stall_refusal s m w n waits size = ap refusal_in (waits_on s m w n waits size) ∙ answered (edge_refusal n 0 m.unit) (stalled w.words m) w

-- an edge is what its step's accesses come to

module _ (word : ℕ) (m : Micro) (left held : Option (List ℕ)) (bus : BusView) where
  abbrev Edges : Micro → Option (List ℕ) → Option (List ℕ) → BusView → Result ⊤ BusFault → Type 0
  Edges t left' held' bus' result = IsEdge mic2_meaning word m left held bus {T = ⊤} t left' held' bus' result

  size : (w : World) → Shows left held bus w → length w.words ≡ length bus.words
  size = edges.size_of mic2_meaning word m left held bus

  -- an edge of a cycle that stalls
  module _ (waits : is_stalled (statement_of machines.Mic2 word) m ≡ true) where
    stall_refused : (w : World) → Shows left held bus w → refusal_in (step_of_word word m w) ≡ refused_by (edge_refusal (length bus.words) 0 m.unit)
    unfolding step_of_word
    stall_refused w shows = stall_refusal (statement_of machines.Mic2 word) m w _ waits (size w shows)

    stall_goes : edge_refusal (length bus.words) 0 m.unit ≡ None → (t : Micro) → t ≡ stalled bus.words m → Edges t left held bus (Ok tt)
    unfolding step_of_word
    stall_goes clear t moves =
        record {
          ok = led_same left held bus _ (λ w shows. stall_done (statement_of machines.Mic2 word) m w _ waits (size w shows) clear _ shows.words t moves);
          others = (refl, λ a other. refl);
          refusal = λ w e shows refused. let none = sym refused ∙ stall_refused w shows ∙ ap refused_by clear in absurd (cc);
          err = tt;
          state = tt;
          stands = tt;
        }

    pub stall_edge : (t : Micro) (r : Result ⊤ BusFault) → OnOk r (t ≡ stalled bus.words m) → OnOk r (edge_refusal (length bus.words) 0 m.unit ≡ None) →
        OnErr r (t ≡ m) → IfErr r (λ e. refused_by (edge_refusal (length bus.words) 0 m.unit) ≡ Some e) → Edges t left held bus r
    stall_edge t (Ok done) moves clear stays fails = stall_goes clear t moves
    stall_edge t (Err e) moves clear stays fails =
        edges.refused_edge mic2_meaning word m left held bus (edge_refusal (length bus.words) 0 m.unit) stall_refused bus refl t stays e fails

  -- an edge of any other cycle
  module _ (p : Asked) (h : IsAsked (statement_of machines.Mic2 word) m p) where
    abbrev why : ℕ → Option Refusal
    why n = refusal_on n p

    pub edge_done : (left' held' : Option (List ℕ)) (bus' : BusView) (read : Option ℕ) → why (length bus.words) ≡ None →
        IsLed left held bus left' held' bus' (λ w v. IsTransfer (length bus.words) p.mem p.ports w read v) → ChangesOnly p.ports.mar bus.words bus'.words →
        (t : Micro) → t ≡ moved_on (statement_of machines.Mic2 word) m (result_of (statement_of machines.Mic2 word).part m) bus'.words read →
        Edges t left' held' bus' (Ok tt)
    unfolding step_of_word
    edge_done left' held' bus' read clear led others t moves =
        edges.edge_done mic2_meaning word m left held bus p.ports p.mem why (asks word m p h) left' held' bus' clear led others t
        (ap (λ (q : Ports). q.mar) h.given ∙ sym (ap (λ (n : Micro). n.mar) moves))
        (λ w v shows shown a. is_done (statement_of machines.Mic2 word) m p h w v _ (size w shows) read bus'.words clear a shown.words t moves)

    -- an edge without a fault: it is done with what is sampled, or refused
    pub edge_either : (bus' : BusView) (read : Option ℕ) (t : Micro) (r : Result ⊤ BusFault) →
        IsLed left held bus left held bus' (λ w v. IsTransfer (length bus.words) p.mem p.ports w read v) → ChangesOnly p.ports.mar bus.words bus'.words →
        OnOk r (why (length bus.words) ≡ None) → OnOk r (t ≡ moved_on (statement_of machines.Mic2 word) m (result_of (statement_of machines.Mic2 word).part m) bus'.words read) →
        OnErr r (bus' ≡ bus) → OnErr r (t ≡ m) → IfErr r (λ e. refused_by (why (length bus.words)) ≡ Some e) → Edges t left held bus' r
    edge_either bus' read t (Ok done) led others clear moves same stays fails = edge_done left held bus' read clear led others t moves
    edge_either bus' read t (Err e) led others clear moves same stays fails =
        edges.edge_refused mic2_meaning word m left held bus p.ports p.mem why (asks word m p h) bus' same t stays e fails
