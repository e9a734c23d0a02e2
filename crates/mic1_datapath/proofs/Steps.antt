-- What is asked of the bus for a statement, with its accesses, is its microstep or its refusal.
use Rattle.mic1_datapath.proofs.Common.{◌≡◌, ℕ, ◌==◌, Bool, List, Option, None, Ok, length, sym, ap, ◌∙◌, ⊤, World, Refusal, ChangesOnly, IsLed, refused_by}
use Rattle.mic1_datapath.proofs.Common.{BusView, statement_of, mem_of, fields_of, shifted, Mem, Placed, IsEdge, Outcome, Done, access_refusal, word_under_way}
use Rattle.mic1_datapath.proofs.Common.{byte_under_way, written, sampled, outcome, IsAccess, Asks, answered, ports_at, ports_of, result_of, settled, next_micro}
use Rattle.mic1_datapath.proofs.Common.{refusal, clock, world_after, microstep, step_of_word, mic1_meaning, Micro, Ports}
use Rattle.mic_words.specs.declared.machine.Machine.TheVariants as machines
use Rattle.mic_datapath.specs.Edges as edges

-- what a cycle asks of the bus
pub record Asked : Type 0 where
  pub ports : Ports
  pub mem : Mem
  pub fetch : Bool

-- the accesses of a statement, and what the ports are given for them
pub record IsAsked (s : Placed) (m : Micro) (p : Asked) : Type 0 where
  pub given : p.ports ≡ ports_of (settled s.part m)
  pub memory : p.mem ≡ s.part.mem
  pub fetched : p.fetch ≡ s.part.fetch

-- what is asked is asked for the statement of the word that was set up
pub is_asked : (word : ℕ) (m : Micro) (value c : ℕ) (ports : Ports) (mem : Mem) (fetch : Bool) →
    value ≡ result_of (statement_of machines.Mic1 word).part m → c ≡ shifted (statement_of machines.Mic1 word).part.shift value →
    ports ≡ ports_at word c m →
    mem ≡ mem_of (fields_of machines.Mic1 word).mem → fetch ≡ ((fields_of machines.Mic1 word).fetch == 1) →
    IsAsked (statement_of machines.Mic1 word) m (record { ports = ports; mem = mem; fetch = fetch })
unfolding statement_of
is_asked word m value c ports mem fetch value_is c_is ports_are mem_is fetch_is =
    let v = c_is ∙ ap (λ (x : ℕ). shifted (statement_of machines.Mic1 word).part.shift x) value_is in
    record {
      given = ports_are ∙ ap (λ (x : ℕ). ports_at word x m) v;
      memory = mem_is;
      fetched = fetch_is;
    }

same_refusal : (s : Placed) (m : Micro) (p : Asked) → IsAsked s m p → (n : ℕ) → refusal n s m ≡ access_refusal n p.mem p.fetch p.ports
same_refusal s m p h n = sym (λ i. access_refusal n (h.memory i) (h.fetched i) (h.given i))

abbrev step_on : ℕ → Placed → Micro → World → Outcome Micro
step_on n s m w = outcome (refusal n s m) (clock n s m w) (world_after n s m w)

abbrev moved_on : Placed → Micro → Option ℕ → Option ℕ → Micro
moved_on s m word byte = next_micro s.next (result_of s.part m) (settled s.part m) word byte

is_done : (s : Placed) (m : Micro) (p : Asked) → IsAsked s m p → (w v : World) (n : ℕ) → length w.words ≡ n → (word byte : Option ℕ) →
    access_refusal n p.mem p.fetch p.ports ≡ None → IsAccess n p.mem p.fetch p.ports w word byte v →
    (t : Micro) → t ≡ moved_on s m word byte → microstep s m w ≡ Done t v
is_done s m p h w v n size word byte clear a t moves =
    let its_word : word_under_way n s.part.mem (ports_of (settled s.part m)) (written n s.part.mem (ports_of (settled s.part m)) w) ≡ word =
    sym (a.its_word ∙ (λ i. word_under_way n (h.memory i) (h.given i) (written n (h.memory i) (h.given i) w))) in
    let its_byte : byte_under_way s.part.fetch (ports_of (settled s.part m)) (written n s.part.mem (ports_of (settled s.part m)) w) ≡ byte =
    sym (a.its_byte ∙ (λ i. byte_under_way (h.fetched i) (h.given i) (written n (h.memory i) (h.given i) w))) in
    let after : world_after n s m w ≡ v =
    sym (a.after ∙ (λ i. sampled n (h.memory i) (h.given i) (written n (h.memory i) (h.given i) w))) in
    ap (λ (k : ℕ). step_on k s m w) size
    ∙ ap (λ (r : Option Refusal). outcome r (clock n s m w) (world_after n s m w)) (same_refusal s m p h n ∙ clear)
    ∙ (λ i. Done (moved_on s m (its_word i) (its_byte i)) (after i))
    ∙ ap (λ (x : Micro). Done x v) (sym moves)

-- a statement asks for its accesses
pub asks : (word : ℕ) (m : Micro) (p : Asked) → IsAsked (statement_of machines.Mic1 word) m p →
    Asks mic1_meaning word m p.ports p.mem (λ n. access_refusal n p.mem p.fetch p.ports)
unfolding step_of_word
asks word m p h =
    let s = statement_of machines.Mic1 word in
    record {
      after = λ w. clock (length w.words) s m w;
      refused = λ w.
          answered (refusal (length w.words) s m) (clock (length w.words) s m w) (world_after (length w.words) s m w)
          ∙ ap refused_by (same_refusal s m p h (length w.words));
      done = λ w clear.
          let n = length w.words in
          ap (λ (r : Option Refusal). outcome r (clock n s m w) (world_after n s m w)) (same_refusal s m p h n ∙ clear)
          ∙ sym (λ i. Done (clock n s m w) (sampled n (h.memory i) (h.given i) (written n (h.memory i) (h.given i) w)));
    }

-- what the accesses of a word come to is what its edge does
module _ (word : ℕ) (m : Micro) (p : Asked) (h : IsAsked (statement_of machines.Mic1 word) m p) (left held : Option (List ℕ)) (bus : BusView) where
  abbrev why : ℕ → Option Refusal
  why n = access_refusal n p.mem p.fetch p.ports

  module _ (left' held' : Option (List ℕ)) (bus' : BusView) where
    pub edge_done : (read byte : Option ℕ) → why (length bus.words) ≡ None →
        IsLed left held bus left' held' bus' (λ w v. IsAccess (length bus.words) p.mem p.fetch p.ports w read byte v) →
        ChangesOnly p.ports.mar bus.words bus'.words → (t : Micro) → t ≡ moved_on (statement_of machines.Mic1 word) m read byte →
        IsEdge mic1_meaning word m left held bus {T = ⊤} t left' held' bus' (Ok tt)
    unfolding step_of_word
    edge_done read byte clear led others t moves =
        edges.edge_done mic1_meaning word m left held bus p.ports p.mem why (asks word m p h) left' held' bus' clear led others t
        (ap (λ (q : Ports). q.mar) h.given ∙ sym (ap (λ (n : Micro). n.mar) moves))
        (λ w v shows shown a.
        is_done (statement_of machines.Mic1 word) m p h w v _ (edges.size_of mic1_meaning word m left held bus w shows) read byte clear a t moves)
