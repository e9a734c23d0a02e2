-- Symbolic runs of Mic-3 over the shipped microprogram: a run along a plan of what issues and of guessed next addresses, and what makes it the machine's.
use Rattle.mic3_interpreter.proofs.Common.{ap, ap₂, ◌∙◌, ◌≡◌, ℕ, zero, suc, ◌+◌, ◌*◌, ◌<◌, ◌≤◌, Option, Some, None, Bool, true, false, List, [], ◌∷◌, length}
use Rattle.mic3_interpreter.proofs.Common.{arith, refl, sym, subst, add-zero, nat_lt, if◌then◌else◌, ◌||◌, nat_tests, wrap, signed_byte, signed_pair, World}
use Rattle.mic3_interpreter.proofs.Common.{Refusal, is_byte, is_pair, BusSource, Mem, Write, Placed, PlacedNext, Dispatch, Branch, Done, Refused, number_of}
use Rattle.mic3_interpreter.proofs.Common.{Ports, NineRegisters, on_bus, ports_given, written, sampled, memory_refusal, first_refusal, outcome, Micro}
use Rattle.mic3_interpreter.proofs.Common.{operand_bytes, demand, registers_in, byte_at, fetched, source, advanced, unit_after, unit_refusal, next_micro}
use Rattle.mic3_interpreter.proofs.Common.{Pipeline, Issued, Computed, issued_in, computed_in, is_held_up, is_jump_coming, waits, dispatched, issued, issued_by}
use Rattle.mic3_interpreter.proofs.Common.{bytes_leaving, retired, settled, mem_in, word_after, computed, from_retired, from_computed, from_issued, begins}
use Rattle.mic3_interpreter.proofs.Common.{clock, world_after, refusal, cycle_with, cycle, mic3_meaning, step_of_word, driven, driven_by, memory_set, unit_at}
use Rattle.mic3_interpreter.proofs.Common.{have_after, text_from, QueueLaw, Held, Jumped, IsHeld, is_enough, held_after, Lack, IsWait, held_waited}
use Rattle.micro_word.specs.declared.statement.BusSource.TheVariants as sources
use Rattle.ijvm_simulation.specs.Prelude.{IsMemory, Moment, is_inside, outcome_at, stalls_at, last, pass, pass_on}
use Rattle.mic3_interpreter.proofs.Store.{shipped, Known}

-- A symbolic state: what the machine has except its unit, and what is known of the queue there.
pub record Short : Type 0 where
  pub state : Pipeline
  pub queue : Held
  pub world : World
  pub stalls : ℕ

-- In a cycle of a plan the statement at MPC issues, or is held up by those in the slots, or waits for bytes.
pub data Turn : Type 0 where
  Issues : Turn
  HeldUp : Turn
  Lacks : Lack → Turn

-- the machine whose unit stands at PC
abbrev pub standing : List ℕ → Pipeline → ℕ → Pipeline
standing origin p have = record p { micro = record p.micro { unit = unit_at origin p.micro.pc have } }

abbrev pub moment_of : List ℕ → Short → ℕ → Moment Pipeline
moment_of origin t have = record { state = standing origin t.state have; world = t.world; stalls = t.stalls }

-- what a side of the ALU is given, where the queue's bytes are these
abbrev pub source_of : (ℕ → ℕ) → Option BusSource → Micro → ℕ
source_of bytes side m = on_bus (registers_in m) (fetched bytes) side

-- the number of bytes that it names
abbrev wants : Option BusSource → ℕ
wants side = if is_pair side then 2 else if is_byte side then 1 else 0

source_same : (f g : ℕ → ℕ) (side : Option BusSource) (m : Micro) → ((k : ℕ) → k < wants side → f k ≡ g k) → source_of f side m ≡ source_of g side m
source_same f g (Some sources.Mbr1) m h = ap signed_byte (h 0 (omega arith))
source_same f g (Some sources.Mbr1u) m h = h 0 (omega arith)
source_same f g (Some sources.Mbr2) m h = ap₂ signed_pair (h 0 (omega arith)) (h 1 (omega arith))
source_same f g (Some sources.Mbr2u) m h = ap₂ (λ (i : ℕ) (j : ℕ). 256 * i + j) (h 0 (omega arith)) (h 1 (omega arith))
source_same f g _ m h = refl

-- Guesses: the byte of a dispatch, taken when it issues, and the address that a branch goes to, taken when it computes.

abbrev pub guessed : PlacedNext → List ℕ → ℕ
guessed (Dispatch high) (g ∷ gs) = g
guessed _ gs = 0

abbrev pub left_issued : PlacedNext → List ℕ → List ℕ
left_issued (Dispatch high) (g ∷ gs) = gs
left_issued _ gs = gs

abbrev pub turned_by : PlacedNext → List ℕ → ℕ → ℕ
turned_by (Branch test low) (g ∷ gs) mpc = g
turned_by _ gs mpc = mpc

abbrev pub left_turned_by : PlacedNext → List ℕ → List ℕ
left_turned_by (Branch test low) (g ∷ gs) = gs
left_turned_by _ gs = gs

abbrev pub turned : Option Issued → List ℕ → ℕ → ℕ
turned None gs mpc = mpc
turned (Some i) gs mpc = turned_by i.statement.next gs mpc

abbrev pub left_turned : Option Issued → List ℕ → List ℕ
left_turned None gs = gs
left_turned (Some i) gs = left_turned_by i.statement.next gs

-- what issues, where the unit stands at PC
abbrev pub issue_by : List ℕ → Placed → List ℕ → Pipeline → Issued
issue_by origin s gs p =
    record {
      statement = s;
      a = source_of (text_from origin p.micro.pc) s.part.a p.micro;
      b = source_of (text_from origin p.micro.pc) s.part.b p.micro;
      byte = guessed s.next gs;
    }

abbrev pub issue_of : List ℕ → Turn → Placed → List ℕ → Pipeline → Option Issued
issue_of origin Issues s gs p = Some (issue_by origin s gs p)
issue_of origin _ s gs p = None

-- what is known of the queue after an edge
abbrev pub queue_by : Turn → ℕ → Held → Held
queue_by Issues t q = held_after t q
queue_by HeldUp t q = held_after 0 q
queue_by (Lacks b) t q = held_waited b

abbrev pub queue_after : Bool → Turn → ℕ → Held → Held
queue_after true k t q = Jumped
queue_after false k t q = queue_by k t q

abbrev pub have_following : Bool → ℕ → ℕ → ℕ → ℕ
have_following true pc t have = 0
have_following false pc t have = have_after pc have t

-- the registers after an edge, where this retires
abbrev pub settled_by : Option Computed → Option Issued → Pipeline → NineRegisters
settled_by c i p = retired c p.micro.word (record (registers_in p.micro) { pc = advanced (bytes_leaving i) p.micro.pc })

-- a write does not reach below the stack
abbrev pub IsAbove : Mem → ℕ → Type 0
IsAbove Write at = 0x8000 ≤ at
IsAbove _ at = Unit {0}

abbrev pub left_of : Turn → Placed → Option Issued → List ℕ → List ℕ
left_of Issues s o gs = left_turned o (left_issued s.next gs)
left_of _ s o gs = left_turned o gs

abbrev pub stalls_by : Turn → ℕ → ℕ
stalls_by Issues k = k
stalls_by _ k = k + 1

-- `origin` has the memory's words when the run began.
module _ (origin : List ℕ) where
  -- the end of the memory
  abbrev pub top : ℕ
  top = length origin

  abbrev pub stepped : Turn → Placed → List ℕ → Short → Short
  stepped k s gs t =
      let p = t.state in
      let i = issue_of origin k s gs p in
      let r = settled i p in
      record {
        state = record {
          micro = next_micro r (from_issued i (turned p.operand gs (from_retired p.result p.micro.mpc)))
              (word_after top p.result p.micro.word r (written top (mem_in p.result) (ports_given r) t.world)) p.micro.unit (begins p.result);
          operand = i;
          result = computed p.operand;
        };
        queue = queue_after (is_jump_coming (computed_in p.result)) k (bytes_leaving i) t.queue;
        world = world_after top i p t.world;
        stalls = stalls_by k t.stalls;
      }

  -- why a statement issues or does not
  abbrev pub IsTurn : Turn → Placed → List ℕ → Short → Type 0
  IsTurn Issues s gs t =
      (is_held_up s t.state.micro.word (issued_in t.state.operand) (computed_in t.state.result) ≡ false)
      × (is_enough (demand s) t.queue ≡ true)
      × (dispatched s.next (text_from origin t.state.micro.pc (operand_bytes s.part)) ≡ guessed s.next gs)
  IsTurn HeldUp s gs t = is_held_up s t.state.micro.word (issued_in t.state.operand) (computed_in t.state.result) ≡ true
  IsTurn (Lacks b) s gs t = IsWait b t.queue t.state.micro.pc (demand s)

  -- the refusal of the memory access of the statement that retires
  abbrev pub refusal_of : Turn → Placed → List ℕ → Short → Option Refusal
  refusal_of k s gs t = memory_refusal top (mem_in t.state.result) (settled (issue_of origin k s gs t.state) t.state).mar

  -- no access of the edge is refused, it leaves the memory below the stack, and the guess is right
  abbrev pub IsRight : Turn → Placed → List ℕ → Short → Type 0
  IsRight k s gs t =
      let p = t.state in
      let r = settled (issue_of origin k s gs p) p in
      IsTurn k s gs t
      × (memory_refusal top (mem_in p.result) r.mar ≡ None)
      × (from_computed p.operand (from_retired p.result p.micro.mpc) ≡ turned p.operand gs (from_retired p.result p.micro.mpc))
      × IsAbove (mem_in p.result) r.mar
      × (p.micro.pc < 0x1FF00)
      × (r.pc < 0x1FF00)
      × (nat_lt p.micro.mpc 512 ≡ true)

  -- the moment after the steps of a plan along the guesses
  abbrev pub clocked : List Turn → List ℕ → Short → Short
  clocked [] gs t = t
  clocked (k ∷ ks) gs t = let s = shipped t.state.micro.mpc in clocked ks (left_of k s t.state.operand gs) (stepped k s gs t)

  -- no step of the plan is refused, none but the last comes to a boundary or an end, and the plan and the guesses are right
  abbrev pub IsSmooth : List Turn → List ℕ → Short → Type 0
  IsSmooth [] gs t = ⊥
  IsSmooth (k ∷ []) gs t = IsRight k (shipped t.state.micro.mpc) gs t
  IsSmooth (k ∷ l ∷ ks) gs t =
      let s = shipped t.state.micro.mpc in
      IsRight k s gs t × (is_inside mic3_meaning (stepped k s gs t).state ≡ true) × IsSmooth (l ∷ ks) (left_of k s t.state.operand gs) (stepped k s gs t)

  advanced_is : (d pc : ℕ) → pc + d < 4294967296 → advanced d pc ≡ pc + d
  unfolding wrap
  advanced_is zero pc h = omega arith
  advanced_is (suc d) pc h = omega arith

  -- PC after an edge that does not load it
  pc_on : (c : Option Computed) (i : Option Issued) (p : Pipeline) → is_jump_coming (computed_in c) ≡ false → p.micro.pc + bytes_leaving i < 4294967296 →
      (settled_by c i p).pc ≡ p.micro.pc + bytes_leaving i
  pc_on None i p e l = advanced_is (bytes_leaving i) p.micro.pc l
  pc_on (Some c) i p e l = ap (λ (b : Bool). if b then c.value else advanced (bytes_leaving i) p.micro.pc) e ∙ advanced_is (bytes_leaving i) p.micro.pc l

  module _ (queue : QueueLaw) where
    unit_is : (c : Option Computed) (i : Option Issued) (p : Pipeline) (have : ℕ) (words : List ℕ) (b : Bool) → is_jump_coming (computed_in c) ≡ b →
        bytes_leaving i ≤ have → have ≤ 6 → IsMemory origin words →
        p.micro.pc < 0x1FF00 → (settled_by c i p).pc < 0x1FF00 →
        unit_after b words (settled_by c i p).pc (bytes_leaving i) (unit_at origin p.micro.pc have) ≡ unit_at origin (settled_by c i p).pc
        (have_following b p.micro.pc (bytes_leaving i) have)
    unit_is c i p have words true e h few ms l l2 = queue.jump_stands origin words (settled_by c i p).pc ms.kept l2
    unit_is c i p have words false e h few ms l l2 =
        let pc : (settled_by c i p).pc ≡ p.micro.pc + bytes_leaving i = pc_on c i p e (omega arith) in
        queue.edge_stands origin words p.micro.pc have (bytes_leaving i) h few ms.kept l
        ∙ ap (λ (k : ℕ). unit_at origin k (have_after p.micro.pc have (bytes_leaving i))) (sym pc)

    unit_allowed : (c : Option Computed) (i : Option Issued) (p : Pipeline) (have : ℕ) (b : Bool) → 0x8000 ≤ top → bytes_leaving i ≤ have → have ≤ 6 →
        p.micro.pc < 0x1FF00 → (settled_by c i p).pc < 0x1FF00 →
        unit_refusal b top (settled_by c i p).pc (bytes_leaving i) (unit_at origin p.micro.pc have) ≡ None
    unit_allowed c i p have true map h few l l2 = queue.jump_allowed top (settled_by c i p).pc map l2
    unit_allowed c i p have false map h few l l2 = queue.edge_allowed top origin p.micro.pc have (bytes_leaving i) map h few l

    written-memory : (mem : Mem) (p : Ports) (w : World) → IsAbove mem p.mar → IsMemory origin w.words → IsMemory origin (written top mem p w).words
    written-memory Write p w above h = memory_set origin w.words p.mar p.mdr above h
    written-memory _ p w above h = h

    sampled-memory : (mem : Mem) (p : Ports) (w : World) → IsMemory origin w.words → IsMemory origin (sampled top mem p w).words
    sampled-memory Write p w h = h
    sampled-memory _ p w h = h

    -- What issues.

    waits_by : (s : Placed) (p : Pipeline) (have : ℕ) (b c : Bool) → is_held_up s p.micro.word (issued_in p.operand) (computed_in p.result) ≡ b →
        nat_lt have (demand s) ≡ c → waits s (standing origin p have) ≡ (b || c)
    waits_by s p have b c h l = ap₂ (λ (x : Bool) (y : Bool). x || y) h (ap (λ (n : ℕ). nat_lt n (demand s)) (queue.many origin p.micro.pc have) ∙ l)

    some_issued : (s : Placed) (gs : List ℕ) (t : Short) (have : ℕ) → IsHeld t.queue t.state.micro.pc have → IsTurn Issues s gs t →
        issued s (standing origin t.state have) ≡ Some (issue_by origin s gs t.state)
    some_issued s gs t have held c =
        let p : Pipeline = t.state in
        let m : Micro = p.micro in
        let les : demand s ≤ have = queue.enough (demand s) t.queue m.pc have c.1 held in
        let l : nat_lt have (demand s) ≡ false = grind (arith, nat_tests) in
        let both = queue.wants (is_pair s.part.a) (is_pair s.part.b) (is_byte s.part.a) (is_byte s.part.b) in
        let la : wants s.part.a ≤ operand_bytes s.part = both.0 in
        let lb : wants s.part.b ≤ operand_bytes s.part = both.1 in
        let a : source s.part.a (standing origin p have).micro ≡ source_of (text_from origin m.pc) s.part.a m =
        source_same (byte_at (unit_at origin m.pc have)) (text_from origin m.pc) s.part.a m (λ k le. queue.front origin m.pc have k (omega arith)) in
        let b : source s.part.b (standing origin p have).micro ≡ source_of (text_from origin m.pc) s.part.b m =
        source_same (byte_at (unit_at origin m.pc have)) (text_from origin m.pc) s.part.b m (λ k le. queue.front origin m.pc have k (omega arith)) in
        let byte : dispatched s.next (byte_at (unit_at origin m.pc have) (operand_bytes s.part)) ≡ guessed s.next gs = byte_is s.next les ∙ c.2 in
        ap (λ (x : Bool). if x then None else Some (issued_by s (standing origin p have))) (waits_by s p have false false c.0 l)
        ∙ (λ j. Some (record { statement = s; a = a j; b = b j; byte = byte j }))
      where
        byte_is : (n : PlacedNext) → demand (record s { next = n }) ≤ have →
            dispatched n (byte_at (unit_at origin t.state.micro.pc have) (operand_bytes s.part)) ≡ dispatched n
            (text_from origin t.state.micro.pc (operand_bytes s.part))
        byte_is (Dispatch high) le = queue.front origin t.state.micro.pc have (operand_bytes s.part) (omega arith)
        byte_is _ le = refl

    none_by : (s : Placed) (p : Pipeline) (have : ℕ) → waits s (standing origin p have) ≡ true → issued s (standing origin p have) ≡ None
    none_by s p have e = ap (λ (x : Bool). if x then None else Some (issued_by s (standing origin p have))) e

    or_true : (b : Bool) → (b || true) ≡ true
    or_true true = refl
    or_true false = refl

    issued_is : (k : Turn) (s : Placed) (gs : List ℕ) (t : Short) (have : ℕ) → IsHeld t.queue t.state.micro.pc have → IsTurn k s gs t →
        issued s (standing origin t.state have) ≡ issue_of origin k s gs t.state
    issued_is Issues s gs t have held c = some_issued s gs t have held c
    issued_is HeldUp s gs t have held c = none_by s t.state have (waits_by s t.state have true (nat_lt have (demand s)) c refl)
    issued_is (Lacks b) s gs t have held c =
        let short : have < demand s = queue.short b t.queue t.state.micro.pc (demand s) have c held in
        let l : nat_lt have (demand s) ≡ true = grind (arith, nat_tests) in
        let held_up : Bool = is_held_up s t.state.micro.word (issued_in t.state.operand) (computed_in t.state.result) in
        none_by s t.state have (waits_by s t.state have held_up true refl l ∙ or_true held_up)

    taken_there : (k : Turn) (s : Placed) (gs : List ℕ) (t : Short) (have : ℕ) → IsHeld t.queue t.state.micro.pc have → IsTurn k s gs t →
        bytes_leaving (issue_of origin k s gs t.state) ≤ have
    taken_there Issues s gs t have held c = queue.enough (demand s) t.queue t.state.micro.pc have c.1 held
    taken_there _ s gs t have held c = omega arith

    -- The edge.

    step-clear : (k : Turn) (s : Placed) (gs : List ℕ) (t : Short) (have : ℕ) → 0x8000 ≤ top → IsMemory origin t.world.words →
        IsHeld t.queue t.state.micro.pc have → IsRight k s gs t →
        cycle s (standing origin t.state have) t.world
        ≡ Done (standing origin (stepped k s gs t).state
        (have_following (is_jump_coming (computed_in t.state.result)) t.state.micro.pc (bytes_leaving (issue_of origin k s gs t.state)) have)) (stepped k s gs t).world
    step-clear k s gs t have map ms held c =
        let p : Pipeline = t.state in
        let w : World = t.world in
        let i : Option Issued = issue_of origin k s gs p in
        let r : NineRegisters = settled i p in
        let b : Bool = is_jump_coming (computed_in p.result) in
        let few : have ≤ 6 = queue.few t.queue p.micro.pc have held in
        let les : bytes_leaving i ≤ have = taken_there k s gs t have held c.0 in
        let unit : unit_refusal b top r.pc (bytes_leaving i) (unit_at origin p.micro.pc have) ≡ None = unit_allowed p.result i p have b map les few c.4 c.5 in
        let none : refusal top i (standing origin p have) ≡ None = ap₂ first_refusal c.1 unit in
        let next : from_issued i (from_computed p.operand (from_retired p.result p.micro.mpc)) ≡ from_issued i
        (turned p.operand gs (from_retired p.result p.micro.mpc)) = ap (from_issued i) c.2 in
        let after : unit_after b (written top (mem_in p.result) (ports_given r) w).words r.pc (bytes_leaving i)
        (unit_at origin p.micro.pc have) ≡ unit_at origin r.pc (have_following b p.micro.pc (bytes_leaving i) have) =
        unit_is p.result i p have (written top (mem_in p.result) (ports_given r) w).words b refl les few
        (written-memory (mem_in p.result) (ports_given r) w c.3 ms) c.4 c.5 in
        ap₂ (λ (n : ℕ) (x : Option Issued). cycle_with n x (standing origin p have) w) ms.long (issued_is k s gs t have held c.0)
        ∙ (λ j. outcome (none j)
        (record {
          micro = next_micro r (next j) (word_after top p.result p.micro.word r (written top (mem_in p.result) (ports_given r) w)) (after j) (begins p.result);
          operand = i;
          result = computed p.operand;
        })
        (world_after top i p w))

    held-stepped : (k : Turn) (s : Placed) (gs : List ℕ) (t : Short) (have : ℕ) → IsHeld t.queue t.state.micro.pc have → IsRight k s gs t →
        IsHeld (stepped k s gs t).queue (stepped k s gs t).state.micro.pc
        (have_following (is_jump_coming (computed_in t.state.result)) t.state.micro.pc (bytes_leaving (issue_of origin k s gs t.state)) have)
    held-stepped k s gs t have held c = by_jump (is_jump_coming (computed_in t.state.result)) refl
      where
        by_turn : (l : Turn) → IsTurn l s gs t →
            IsHeld (queue_by l (bytes_leaving (issue_of origin l s gs t.state)) t.queue) (t.state.micro.pc + bytes_leaving (issue_of origin l s gs t.state))
            (have_after t.state.micro.pc have (bytes_leaving (issue_of origin l s gs t.state)))
        by_turn Issues d = queue.after_edge (demand s) t.queue t.state.micro.pc have d.1 held
        by_turn HeldUp d = queue.after_edge 0 t.queue t.state.micro.pc have refl held
        by_turn (Lacks b) d =
            let same : t.state.micro.pc ≡ t.state.micro.pc + 0 = omega arith in
            subst (λ (n : ℕ). IsHeld (held_waited b) n (have_after t.state.micro.pc have 0)) same
            (queue.after_wait b t.queue t.state.micro.pc (demand s) have d held)

        by_jump : (b : Bool) → is_jump_coming (computed_in t.state.result) ≡ b →
            IsHeld (queue_after b k (bytes_leaving (issue_of origin k s gs t.state)) t.queue) (settled (issue_of origin k s gs t.state) t.state).pc
            (have_following b t.state.micro.pc (bytes_leaving (issue_of origin k s gs t.state)) have)
        by_jump true e = refl
        by_jump false e =
            let few : have ≤ 6 = queue.few t.queue t.state.micro.pc have held in
            let les : bytes_leaving (issue_of origin k s gs t.state) ≤ have = taken_there k s gs t have held c.0 in
            let pc : (settled (issue_of origin k s gs t.state) t.state).pc ≡ t.state.micro.pc + bytes_leaving (issue_of origin k s gs t.state) =
            pc_on t.state.result (issue_of origin k s gs t.state) t.state e (omega (arith, few, c.4)) in
            subst (λ (n : ℕ). IsHeld (queue_by k (bytes_leaving (issue_of origin k s gs t.state)) t.queue) n
            (have_after t.state.micro.pc have (bytes_leaving (issue_of origin k s gs t.state)))) (sym pc) (by_turn k c.0)

    step-memory : (k : Turn) (s : Placed) (gs : List ℕ) (t : Short) → IsRight k s gs t → IsMemory origin t.world.words →
        IsMemory origin (stepped k s gs t).world.words
    step-memory k s gs t c ms =
        let p = ports_given (settled (issue_of origin k s gs t.state) t.state) in
        sampled-memory (mem_in t.state.result) p (written top (mem_in t.state.result) p t.world) (written-memory (mem_in t.state.result) p t.world c.3 ms)

    -- the refusal of a cycle, where the memory access of the statement that retires is refused
    pub cycle-refused : (k : Turn) (s : Placed) (gs : List ℕ) (t : Short) (have : ℕ) (why : Refusal) → IsMemory origin t.world.words →
        IsHeld t.queue t.state.micro.pc have → IsTurn k s gs t →
        refusal_of k s gs t ≡ Some why →
        cycle s (standing origin t.state have) t.world ≡ Refused why
    cycle-refused k s gs t have why ms held c h =
        let p : Pipeline = t.state in
        let w : World = t.world in
        let i : Option Issued = issue_of origin k s gs p in
        ap₂ (λ (n : ℕ) (x : Option Issued). cycle_with n x (standing origin p have) w) ms.long (issued_is k s gs t have held c)
        ∙ ap (λ (x : Option Refusal). outcome
        (first_refusal x (unit_refusal (is_jump_coming (computed_in p.result)) top (settled i p).pc (bytes_leaving i) (unit_at origin p.micro.pc have)))
        (clock top i (standing origin p have) w) (world_after top i (standing origin p have) w)) h

-- a run arrives where the symbolic one does, with this many bytes in the queue
pub record Arrives (origin : List ℕ) (run : Option (Moment Pipeline)) (t : Short) : Type 0 where
  pub have : ℕ
  pub is : run ≡ Some (moment_of origin t have)
  pub held : IsHeld t.queue t.state.micro.pc have
  pub memory : IsMemory origin t.world.words

-- a step leads from a moment to where the symbolic one leads
record Steps (program origin : List ℕ) (p : Moment Pipeline) (t : Short) : Type 0 where
  pub have : ℕ
  pub done : outcome_at mic3_meaning program p ≡ Done (standing origin t.state have) t.world
  pub stalls : stalls_at mic3_meaning program p ≡ t.stalls
  pub held : IsHeld t.queue t.state.micro.pc have

-- `program` has the words of a control store that holds the shipped microprogram.
module _ (program : List ℕ) (has : Known program) (origin : List ℕ) (map : 0x8000 ≤ length origin) where
  -- the outcome of the word at MPC is that of the shipped statement
  pub outcome_is : (p : Moment Pipeline) → p.state.micro.mpc < 512 → outcome_at mic3_meaning program p ≡ cycle (shipped p.state.micro.mpc) p.state p.world
  unfolding step_of_word
  outcome_is p l = ap (λ (s : Placed). cycle s p.state p.world) (has.statements p.state.micro.mpc l)

  stalls_are : (p : Moment Pipeline) (i : Option Issued) → p.state.micro.mpc < 512 → issued (shipped p.state.micro.mpc) p.state ≡ i →
      stalls_at mic3_meaning program p ≡ p.stalls + number_of (driven_by i).stalled
  unfolding driven
  stalls_are p i l e =
      ap (λ (s : Placed). p.stalls + number_of (driven_by (issued s p.state)).stalled) (has.statements p.state.micro.mpc l)
      ∙ ap (λ (x : Option Issued). p.stalls + number_of (driven_by x).stalled) e

  counted : (k : Turn) (s : Placed) (gs : List ℕ) (p : Pipeline) (n : ℕ) → n + number_of (driven_by (issue_of origin k s gs p)).stalled ≡ stalls_by k n
  counted Issues s gs p n = add-zero n
  counted _ s gs p n = refl

  steps : (k : Turn) (gs : List ℕ) (t : Short) (have : ℕ) → IsMemory origin t.world.words → IsHeld t.queue t.state.micro.pc have →
      IsRight origin k (shipped t.state.micro.mpc) gs t →
      Steps program origin (moment_of origin t have) (stepped origin k (shipped t.state.micro.mpc) gs t)
  steps k gs t have ms held c =
      let s : Placed = shipped t.state.micro.mpc in
      let clear : nat_lt t.state.micro.mpc 512 ≡ true = c.6 in
      let l : t.state.micro.mpc < 512 = grind (arith, nat_tests) in
      record {
        have = have_following (is_jump_coming (computed_in t.state.result)) t.state.micro.pc (bytes_leaving (issue_of origin k s gs t.state)) have;
        done = outcome_is (moment_of origin t have) l ∙ step-clear origin has.queue k s gs t have map ms held c;
        stalls = stalls_are (moment_of origin t have) (issue_of origin k s gs t.state) l (issued_is origin has.queue k s gs t have held c.0)
            ∙ counted k s gs t.state t.stalls;
        held = held-stepped origin has.queue k s gs t have held c;
      }

  pub pass-clocked : (k : Turn) (ks : List Turn) (gs : List ℕ) (t : Short) (have : ℕ) → IsMemory origin t.world.words →
      IsHeld t.queue t.state.micro.pc have → IsSmooth origin (k ∷ ks) gs t →
      Arrives origin (pass mic3_meaning program (length ks) (moment_of origin t have)) (clocked origin (k ∷ ks) gs t)
  pass-clocked k [] gs t have ms held h =
      let a : Steps program origin (moment_of origin t have) (stepped origin k (shipped t.state.micro.mpc) gs t) = steps k gs t have ms held h in
      record {
        have = a.have;
        is = ap₂ (last mic3_meaning program) a.stalls a.done;
        held = a.held;
        memory = step-memory origin has.queue k
            (shipped t.state.micro.mpc) gs t h ms;
      }
  pass-clocked k (l ∷ ks) gs t have ms held h =
      let s : Placed = shipped t.state.micro.mpc in
      let u : Short = stepped origin k s gs t in
      let gs' : List ℕ = left_of k s t.state.operand gs in
      let a : Steps program origin (moment_of origin t have) u = steps k gs t have ms held h.0 in
      let r : Arrives origin (pass mic3_meaning program (length ks) (moment_of origin u a.have)) (clocked origin (l ∷ ks) gs' u) =
      pass-clocked l ks gs' u a.have (step-memory origin has.queue k s gs t h.0 ms) a.held h.2 in
      record {
        have = r.have;
        is = pass_on mic3_meaning program (length ks) (moment_of origin t have) {q = moment_of origin u a.have} a.stalls a.done h.1 r.is;
        held = r.held;
        memory = r.memory;
      }
