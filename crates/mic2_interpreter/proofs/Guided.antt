-- Symbolic runs of Mic-2 over the shipped microprogram: a run along a plan of stalls and guessed next addresses, and what makes it the machine's.
use Rattle.mic2_interpreter.proofs.Common.{ap, ap₂, ◌∙◌, ◌≡◌, ℕ, zero, suc, ◌+◌, ◌*◌, ◌<◌, ◌≤◌, Option, Some, None, Bool, true, false, List, [], ◌∷◌, length}
use Rattle.mic2_interpreter.proofs.Common.{arith, refl, sym, subst, add-zero, nat_lt, if◌then◌else◌, nat_tests, wrap, signed_byte, signed_pair, World, Refusal}
use Rattle.mic2_interpreter.proofs.Common.{is_byte, is_pair, alu, shifted, BusSource, Mem, Write, Part, Placed, PlacedNext, Dispatch, Ports, Prefetch, edge}
use Rattle.mic2_interpreter.proofs.Common.{edge_refusal, unit_at, have_after, text_from, QueueLaw, Held, Jumped, IsHeld, is_enough, held_after, Lack, IsWait}
use Rattle.mic2_interpreter.proofs.Common.{held_waited, IsMemory, Moment, is_inside, outcome_at, stalls_at, last, pass, pass_on, address_after, left_of}
use Rattle.micro_word.specs.declared.statement.BusSource.TheVariants as sources
use Rattle.mic_clock.specs.Prelude.{Outcome, Done, Refused, number_of}
use Rattle.mic_datapath.specs.Prelude.{NineRegisters, on_bus, loaded, ports_given, written, sampled, word_under_way, memory_refusal, first_refusal, outcome, next_address}
use Rattle.mic2_datapath.specs.Prelude.{Micro, operand_bytes, dispatch_bytes, demand, is_stalled, stalled, registers_in, byte_at, fetched, source, result_of, advanced, jumps, unit_after, unit_refusal, is_to_instruction, next_micro, clock, world_after, step_if, microstep, mic2_meaning, step_of_word, driven, driven_by, stalled_drive}
use Rattle.ijvm_simulation.specs.Writes.{memory_set}
use Rattle.mic2_interpreter.proofs.Store.{shipped, Known}

-- In a step of a plan the word at MPC goes on, or it stalls.
pub data Turn : Type 0 where
  Goes : Turn
  Lacks : Lack → Turn

-- A symbolic state: what the machine has except its unit, and what is known of the queue there.
pub record Short : Type 0 where
  pub state : Micro
  pub queue : Held
  pub world : World
  pub stalls : ℕ

-- the machine whose unit stands at PC
abbrev pub standing : List ℕ → Micro → ℕ → Micro
standing origin m have = record m { unit = unit_at origin m.pc have }

abbrev pub moment_of : List ℕ → Short → ℕ → Moment Micro
moment_of origin t have = record { state = standing origin t.state have; world = t.world; stalls = t.stalls }

-- what a side of the ALU is given, where the queue's bytes are these
abbrev pub source_of : (ℕ → ℕ) → Option BusSource → Micro → ℕ
source_of bytes side m = on_bus (registers_in m) (fetched bytes) side

-- the number of bytes that it names
abbrev wants : Option BusSource → ℕ
wants side = if is_pair side then 2 else if is_byte side then 1 else 0

source_same : (f g : ℕ → ℕ) (side : Option BusSource) (m : Micro) → ((k : ℕ) → k < wants side → f k ≡ g k) → source_of f side m ≡ source_of g side m
source_same f g (Some sources.Mbr1) m h = ap signed_byte (h 0 (omega arith))
source_same f g (Some sources.Mbr1u) m h = h 0 (omega arith)
source_same f g (Some sources.Mbr2) m h = ap₂ signed_pair (h 0 (omega arith)) (h 1 (omega arith))
source_same f g (Some sources.Mbr2u) m h = ap₂ (λ (i : ℕ) (j : ℕ). 256 * i + j) (h 0 (omega arith)) (h 1 (omega arith))
source_same f g _ m h = refl

-- the result where the unit stands at PC
abbrev pub text_result : List ℕ → Part → Micro → ℕ
text_result origin part m = alu part.op (source_of (text_from origin m.pc) part.a m) (source_of (text_from origin m.pc) part.b m)

result_same : (queue : QueueLaw) (origin : List ℕ) (part : Part) (m : Micro) (have : ℕ) → operand_bytes part ≤ have → result_of part (standing origin m have) ≡ text_result origin part m
result_same queue origin part m have h =
    let both = queue.wants (is_pair part.a) (is_pair part.b) (is_byte part.a) (is_byte part.b) in
    let la : wants part.a ≤ operand_bytes part = both.0 in
    let lb : wants part.b ≤ operand_bytes part = both.1 in
    ap₂ (alu part.op)
    (source_same (byte_at (unit_at origin m.pc have)) (text_from origin m.pc) part.a m (λ k l. queue.front origin m.pc have k (omega arith)))
    (source_same (byte_at (unit_at origin m.pc have)) (text_from origin m.pc) part.b m (λ k l. queue.front origin m.pc have k (omega arith)))

target_same : (n : PlacedNext) (x b c : ℕ) → (0 < dispatch_bytes n → b ≡ c) → next_address n x b ≡ next_address n x c
target_same (Dispatch high) x b c h = ap (λ (k : ℕ). if high then k + 256 else k) (h (omega arith))
target_same _ x b c h = refl

-- the registers after the loads, where x is the result
abbrev pub settled_by : Placed → ℕ → Micro → NineRegisters
settled_by s x m = loaded s.part.dests (shifted s.part.shift x) m.word (record (registers_in m) { pc = advanced (demand s) m.pc })

-- the step with the result x, to this address, with this unit after it
abbrev pub clock_by : ℕ → Placed → ℕ → ℕ → Prefetch → Micro → World → Micro
clock_by top s x to unit m w =
    let r = settled_by s x m in
    next_micro r to (word_under_way top s.part.mem (ports_given r) (written top s.part.mem (ports_given r) w)) unit (is_to_instruction s.next)

abbrev pub world_by : ℕ → Placed → ℕ → Micro → World → World
world_by top s x m w = let p = ports_given (settled_by s x m) in sampled top s.part.mem p (written top s.part.mem p w)

abbrev refusal_by : ℕ → Placed → ℕ → Micro → Option Refusal
refusal_by top s x m =
    let r = settled_by s x m in first_refusal (memory_refusal top s.part.mem r.mar) (unit_refusal (jumps s.part) top r.pc (demand s) m.unit)

-- what is known of the queue after a step
abbrev pub queue_after : Bool → ℕ → Held → Held
queue_after true t q = Jumped
queue_after false t q = held_after t q

abbrev have_following : Bool → ℕ → ℕ → ℕ → ℕ
have_following true pc t have = 0
have_following false pc t have = have_after pc have t

-- a write does not reach below the stack
abbrev pub IsAbove : Mem → ℕ → Type 0
IsAbove Write at = 0x8000 ≤ at
IsAbove _ at = Unit {0}

-- `origin` has the memory's words when the run began.
module _ (origin : List ℕ) where
  -- the end of the memory
  abbrev pub top : ℕ
  top = length origin

  abbrev pub guided : Placed → List ℕ → Short → Short
  guided s gs t =
      let x = text_result origin s.part t.state in
      record {
        state = clock_by top s x (address_after s.next gs) t.state.unit t.state t.world;
        queue = queue_after (jumps s.part) (demand s) t.queue;
        world = world_by top s x t.state t.world;
        stalls = t.stalls;
      }

  -- the bytes are available, no access of a step is refused, it leaves the memory below the stack, and the guess is right
  abbrev pub IsClear : Placed → List ℕ → Short → Type 0
  IsClear s gs t =
      let x = text_result origin s.part t.state in
      let r = settled_by s x t.state in
      (is_enough (demand s) t.queue ≡ true)
      × (memory_refusal top s.part.mem r.mar ≡ None)
      × (next_address s.next x (text_from origin t.state.pc (operand_bytes s.part)) ≡ address_after s.next gs)
      × IsAbove s.part.mem r.mar
      × (t.state.pc < 0x1FF00)
      × (r.pc < 0x1FF00)
      × (nat_lt t.state.mpc 512 ≡ true)

  -- the refusal of the memory access of a step
  abbrev pub refusal_of : Placed → Short → Option Refusal
  refusal_of s t = memory_refusal top s.part.mem (settled_by s (text_result origin s.part t.state) t.state).mar

  abbrev pub waited : Lack → Short → Short
  waited b t = record { state = record t.state { begins = false }; queue = held_waited b; world = t.world; stalls = t.stalls + 1 }

  abbrev pub IsStall : Lack → Placed → Short → Type 0
  IsStall b s t = IsWait b t.queue t.state.pc (demand s) × (t.state.pc < 0x1FF00) × (nat_lt t.state.mpc 512 ≡ true)

  abbrev pub step_of : Turn → Placed → List ℕ → Short → Short
  step_of Goes s gs t = guided s gs t
  step_of (Lacks b) s gs t = waited b t

  abbrev pub IsRight : Turn → Placed → List ℕ → Short → Type 0
  IsRight Goes s gs t = IsClear s gs t
  IsRight (Lacks b) s gs t = IsStall b s t

  abbrev pub guesses_of : Turn → Placed → List ℕ → List ℕ
  guesses_of Goes s gs = left_of s.next gs
  guesses_of (Lacks b) s gs = gs

  -- the moment after the steps of a plan along the guesses
  abbrev pub clocked : List Turn → List ℕ → Short → Short
  clocked [] gs t = t
  clocked (b ∷ bs) gs t = let s = shipped t.state.mpc in clocked bs (guesses_of b s gs) (step_of b s gs t)

  -- no step of the plan is refused, none but the last comes to a boundary or an end, and the plan and the guesses are right
  abbrev pub IsSmooth : List Turn → List ℕ → Short → Type 0
  IsSmooth [] gs t = ⊥
  IsSmooth (b ∷ []) gs t = IsRight b (shipped t.state.mpc) gs t
  IsSmooth (b ∷ c ∷ bs) gs t =
      let s = shipped t.state.mpc in
      IsRight b s gs t × (is_inside mic2_meaning (step_of b s gs t).state ≡ true) × IsSmooth (c ∷ bs) (guesses_of b s gs) (step_of b s gs t)

  advanced_is : (d pc : ℕ) → pc + d < 4294967296 → advanced d pc ≡ pc + d
  unfolding wrap
  advanced_is zero pc h = omega arith
  advanced_is (suc d) pc h = omega arith

  -- PC after a step that does not load it
  pc_on : (s : Placed) (x : ℕ) (m : Micro) → jumps s.part ≡ false → m.pc + demand s < 4294967296 → (settled_by s x m).pc ≡ m.pc + demand s
  pc_on s x m e l = ap (λ (b : Bool). if b then shifted s.part.shift x else advanced (demand s) m.pc) e ∙ advanced_is (demand s) m.pc l

  module _ (queue : QueueLaw) where
    unit_is : (s : Placed) (m : Micro) (have x : ℕ) (words : List ℕ) (b : Bool) → jumps s.part ≡ b → demand s ≤ have → have ≤ 6 → IsMemory origin words →
        m.pc < 0x1FF00 → (settled_by s x m).pc < 0x1FF00 →
        unit_after b words (settled_by s x m).pc (demand s) (unit_at origin m.pc have) ≡ unit_at origin (settled_by s x m).pc (have_following b m.pc (demand s) have)
    unit_is s m have x words true e h few ms l l2 = queue.jump_stands origin words (settled_by s x m).pc ms.kept l2
    unit_is s m have x words false e h few ms l l2 =
        let pc : (settled_by s x m).pc ≡ m.pc + demand s = pc_on s x m e (omega arith) in
        queue.edge_stands origin words m.pc have (demand s) h few ms.kept l ∙ ap (λ (k : ℕ). unit_at origin k (have_after m.pc have (demand s))) (sym pc)

    unit_allowed : (s : Placed) (m : Micro) (have x : ℕ) (b : Bool) → 0x8000 ≤ top → demand s ≤ have → have ≤ 6 → m.pc < 0x1FF00 → (settled_by s x m).pc < 0x1FF00 →
        unit_refusal b top (settled_by s x m).pc (demand s) (unit_at origin m.pc have) ≡ None
    unit_allowed s m have x true map h few l l2 = queue.jump_allowed top (settled_by s x m).pc map l2
    unit_allowed s m have x false map h few l l2 = queue.edge_allowed top origin m.pc have (demand s) map h few l

    not_stalled : (s : Placed) (m : Micro) (have : ℕ) → demand s ≤ have → is_stalled s (standing origin m have) ≡ false
    not_stalled s m have h = let e : length (unit_at origin m.pc have).bytes ≡ have = queue.many origin m.pc have in rw e (grind (arith, nat_tests))

    is_short : (s : Placed) (m : Micro) (have : ℕ) → have < demand s → is_stalled s (standing origin m have) ≡ true
    is_short s m have h = let e : length (unit_at origin m.pc have).bytes ≡ have = queue.many origin m.pc have in rw e (grind (arith, nat_tests))

    -- the machine after a step that does not stall
    abbrev there_of : Placed → List ℕ → Short → ℕ → Moment Micro
    there_of s gs t have = moment_of origin (guided s gs t) (have_following (jumps s.part) t.state.pc (demand s) have)

    written-memory : (mem : Mem) (p : Ports) (w : World) → IsAbove mem p.mar → IsMemory origin w.words → IsMemory origin (written top mem p w).words
    written-memory Write p w above h = memory_set origin w.words p.mar p.mdr above h
    written-memory _ p w above h = h

    sampled-memory : (mem : Mem) (p : Ports) (w : World) → IsMemory origin w.words → IsMemory origin (sampled top mem p w).words
    sampled-memory Write p w h = h
    sampled-memory _ p w h = h

    step-clear : (s : Placed) (gs : List ℕ) (t : Short) (have : ℕ) → 0x8000 ≤ top → IsMemory origin t.world.words → IsHeld t.queue t.state.pc have → IsClear s gs t →
        microstep s (standing origin t.state have) t.world ≡ Done (there_of s gs t have).state (there_of s gs t have).world
    step-clear s gs t have map ms held c =
        let m : Micro = t.state in
        let w : World = t.world in
        let x : ℕ = text_result origin s.part m in
        let few : have ≤ 6 = queue.few t.queue m.pc have held in
        let les : demand s ≤ have = queue.enough (demand s) t.queue m.pc have c.0 held in
        let same : result_of s.part (standing origin m have) ≡ x = result_same queue origin s.part m have (omega arith) in
        let unit : unit_refusal (jumps s.part) top (settled_by s x m).pc (demand s) (unit_at origin m.pc have) ≡ None = unit_allowed s m have x (jumps s.part) map les few c.4 c.5 in
        let none : refusal_by top s x (standing origin m have) ≡ None = ap₂ first_refusal c.1 unit in
        let byte : (0 < dispatch_bytes s.next → byte_at (unit_at origin m.pc have) (operand_bytes s.part) ≡ text_from origin m.pc (operand_bytes s.part)) =
        λ l. queue.front origin m.pc have (operand_bytes s.part) (omega arith) in
        let next : next_address s.next x (byte_at (unit_at origin m.pc have) (operand_bytes s.part)) ≡ address_after s.next gs = target_same s.next x _ _ byte ∙ c.2 in
        let after : unit_after (jumps s.part) (written top s.part.mem (ports_given (settled_by s x m)) w).words (settled_by s x m).pc (demand s) (unit_at origin m.pc have)
        ≡ unit_at origin (settled_by s x m).pc (have_following (jumps s.part) m.pc (demand s) have) =
        unit_is s m have x (written top s.part.mem (ports_given (settled_by s x m)) w).words (jumps s.part) refl les few
        (written-memory s.part.mem (ports_given (settled_by s x m)) w c.3 ms) c.4 c.5 in
        let stepped : (top' x' : ℕ) → Outcome Micro =
        λ top' x'. outcome (refusal_by top' s x' (standing origin m have))
        (clock_by top' s x' (next_address s.next x' (byte_at (unit_at origin m.pc have) (operand_bytes s.part)))
        (unit_after (jumps s.part) (written top' s.part.mem (ports_given (settled_by s x' m)) w).words (settled_by s x' m).pc (demand s) (unit_at origin m.pc have)) m w)
        (world_by top' s x' m w) in
        ap (λ (b : Bool). step_if b (length w.words) s (standing origin m have) w) (not_stalled s m have les)
        ∙ (ap₂ stepped ms.long same
        ∙ (λ i. outcome (none i) (clock_by top s x (next i) (after i) m w) (world_by top s x m w)))

    step-waits : (s : Placed) (b : Lack) (t : Short) (have : ℕ) → 0x8000 ≤ top → IsMemory origin t.world.words → IsHeld t.queue t.state.pc have → IsStall b s t →
        microstep s (standing origin t.state have) t.world ≡ Done (moment_of origin (waited b t) (have_after t.state.pc have 0)).state t.world
    step-waits s b t have map ms held c =
        let m : Micro = t.state in
        let few : have ≤ 6 = queue.few t.queue m.pc have held in
        let short : have < demand s = queue.short b t.queue m.pc (demand s) have c.0 held in
        let none : edge_refusal top 0 (unit_at origin m.pc have) ≡ None = queue.edge_allowed top origin m.pc have 0 map (omega arith) few c.1 in
        let same : m.pc + 0 ≡ m.pc = omega arith in
        let unit : edge t.world.words 0 (unit_at origin m.pc have) ≡ unit_at origin m.pc (have_after m.pc have 0) =
        queue.edge_stands origin t.world.words m.pc have 0 (omega arith) few ms.kept c.1 ∙ ap (λ (p : ℕ). unit_at origin p (have_after m.pc have 0)) same in
        ap (λ (k : Bool). step_if k (length t.world.words) s (standing origin m have) t.world) (is_short s m have short)
        ∙ (ap (λ (n : ℕ). outcome (edge_refusal n 0 (unit_at origin m.pc have)) (stalled t.world.words (standing origin m have)) t.world) ms.long
        ∙ (λ i. outcome (none i) (record m { unit = unit i; begins = false }) t.world))

    held-guided : (s : Placed) (gs : List ℕ) (t : Short) (have : ℕ) → IsHeld t.queue t.state.pc have → IsClear s gs t →
        IsHeld (guided s gs t).queue (guided s gs t).state.pc (have_following (jumps s.part) t.state.pc (demand s) have)
    held-guided s gs t have held c = by_jump (jumps s.part) refl
      where
        by_jump : (b : Bool) → jumps s.part ≡ b →
            IsHeld (queue_after b (demand s) t.queue) (settled_by s (text_result origin s.part t.state) t.state).pc (have_following b t.state.pc (demand s) have)
        by_jump true e = refl
        by_jump false e =
            let few : have ≤ 6 = queue.few t.queue t.state.pc have held in
            let les : demand s ≤ have = queue.enough (demand s) t.queue t.state.pc have c.0 held in
            let pc : (settled_by s (text_result origin s.part t.state) t.state).pc ≡ t.state.pc + demand s = pc_on s (text_result origin s.part t.state) t.state e (omega (arith, few, c.4)) in
            subst (λ (p : ℕ). IsHeld (held_after (demand s) t.queue) p (have_after t.state.pc have (demand s))) (sym pc)
            (queue.after_edge (demand s) t.queue t.state.pc have c.0 held)

    step-memory : (b : Turn) (s : Placed) (gs : List ℕ) (t : Short) → IsRight b s gs t → IsMemory origin t.world.words → IsMemory origin (step_of b s gs t).world.words
    step-memory Goes s gs t c ms =
        let p = ports_given (settled_by s (text_result origin s.part t.state) t.state) in
        sampled-memory s.part.mem p (written top s.part.mem p t.world) (written-memory s.part.mem p t.world c.3 ms)
    step-memory (Lacks b) s gs t c ms = ms

    -- the refusal of a step that does not stall, where its memory access is refused
    pub step-refused : (s : Placed) (t : Short) (have : ℕ) (why : Refusal) → IsMemory origin t.world.words → IsHeld t.queue t.state.pc have → is_enough (demand s) t.queue ≡ true →
        refusal_of s t ≡ Some why →
        microstep s (standing origin t.state have) t.world ≡ Refused why
    step-refused s t have why ms held enough h =
        let m : Micro = t.state in
        let w : World = t.world in
        let x : ℕ = text_result origin s.part m in
        let les : demand s ≤ have = queue.enough (demand s) t.queue m.pc have enough held in
        let same : result_of s.part (standing origin m have) ≡ x = result_same queue origin s.part m have (omega arith) in
        let refused : (top' x' : ℕ) → Outcome Micro =
        λ top' x'. outcome (refusal_by top' s x' (standing origin m have)) (clock top' s (standing origin m have) w) (world_after top' s (standing origin m have) w) in
        ap (λ (b : Bool). step_if b (length w.words) s (standing origin m have) w) (not_stalled s m have les)
        ∙ (ap₂ refused ms.long same
        ∙ ap (λ (r : Option Refusal). outcome (first_refusal r (unit_refusal (jumps s.part) top (settled_by s x m).pc (demand s) (unit_at origin m.pc have)))
        (clock top s (standing origin m have) w) (world_after top s (standing origin m have) w)) h)

-- a run arrives where the symbolic one does, with this many bytes in the queue
pub record Arrives (origin : List ℕ) (run : Option (Moment Micro)) (t : Short) : Type 0 where
  pub have : ℕ
  pub is : run ≡ Some (moment_of origin t have)
  pub held : IsHeld t.queue t.state.pc have
  pub memory : IsMemory origin t.world.words

-- a step leads from a moment to where the symbolic one leads
record Steps (program origin : List ℕ) (p : Moment Micro) (t : Short) : Type 0 where
  pub have : ℕ
  pub done : outcome_at mic2_meaning program p ≡ Done (standing origin t.state have) t.world
  pub stalls : stalls_at mic2_meaning program p ≡ t.stalls
  pub held : IsHeld t.queue t.state.pc have

-- `program` has the words of a control store that holds the shipped microprogram.
module _ (program : List ℕ) (has : Known program) (origin : List ℕ) (map : 0x8000 ≤ length origin) where
  -- the outcome of the word at MPC is that of the shipped statement
  pub outcome_is : (p : Moment Micro) → p.state.mpc < 512 → outcome_at mic2_meaning program p ≡ microstep (shipped p.state.mpc) p.state p.world
  unfolding step_of_word
  outcome_is p l = ap (λ (s : Placed). microstep s p.state p.world) (has.statements p.state.mpc l)

  stalls_are : (p : Moment Micro) (b : Bool) → p.state.mpc < 512 → is_stalled (shipped p.state.mpc) p.state ≡ b → stalls_at mic2_meaning program p ≡ p.stalls + number_of b
  unfolding driven
  stalls_are p b l e =
      ap (λ (s : Placed). p.stalls + number_of (driven_by s p.state).stalled) (has.statements p.state.mpc l)
      ∙ (ap (λ (k : Bool). p.stalls + number_of (if k then stalled_drive else record { a = source (shipped p.state.mpc).part.a p.state; b = source (shipped p.state.mpc).part.b p.state; stalled = false }).stalled) e
      ∙ by_stall b)
    where
      by_stall : (k : Bool) → p.stalls + number_of (if k then stalled_drive else record { a = source (shipped p.state.mpc).part.a p.state; b = source (shipped p.state.mpc).part.b p.state; stalled = false }).stalled ≡ p.stalls + number_of k
      by_stall true = refl
      by_stall false = refl

  waits : (b : Lack) (t : Short) (have : ℕ) → IsMemory origin t.world.words → IsHeld t.queue t.state.pc have → IsStall origin b (shipped t.state.mpc) t →
      Steps program origin (moment_of origin t have) (waited origin b t)
  waits b t have ms held c =
      let s : Placed = shipped t.state.mpc in
      let clear : nat_lt t.state.mpc 512 ≡ true = c.2 in
      let l : t.state.mpc < 512 = grind (arith, nat_tests) in
      let short : have < demand s = has.queue.short b t.queue t.state.pc (demand s) have c.0 held in
      record {
        have = have_after t.state.pc have 0;
        done = outcome_is (moment_of origin t have) l ∙ step-waits origin has.queue s b t have map ms held c;
        stalls = stalls_are (moment_of origin t have) true l (is_short origin has.queue s t.state have short);
        held = has.queue.after_wait b t.queue t.state.pc (demand s) have c.0 held;
      }

  steps : (b : Turn) (gs : List ℕ) (t : Short) (have : ℕ) → IsMemory origin t.world.words → IsHeld t.queue t.state.pc have → IsRight origin b (shipped t.state.mpc) gs t →
      Steps program origin (moment_of origin t have) (step_of origin b (shipped t.state.mpc) gs t)
  steps Goes gs t have ms held c =
      let s : Placed = shipped t.state.mpc in
      let clear : nat_lt t.state.mpc 512 ≡ true = c.6 in
      let l : t.state.mpc < 512 = grind (arith, nat_tests) in
      let les : demand s ≤ have = has.queue.enough (demand s) t.queue t.state.pc have c.0 held in
      record {
        have = have_following (jumps s.part) t.state.pc (demand s) have;
        done = outcome_is (moment_of origin t have) l ∙ step-clear origin has.queue s gs t have map ms held c;
        stalls = stalls_are (moment_of origin t have) false l (not_stalled origin has.queue s t.state have les) ∙ add-zero t.stalls;
        held = held-guided origin has.queue s gs t have held c;
      }
  steps (Lacks b) gs t have ms held c = waits b t have ms held c

  pub pass-clocked : (b : Turn) (bs : List Turn) (gs : List ℕ) (t : Short) (have : ℕ) → IsMemory origin t.world.words → IsHeld t.queue t.state.pc have → IsSmooth origin (b ∷ bs) gs t →
      Arrives origin (pass mic2_meaning program (length bs) (moment_of origin t have)) (clocked origin (b ∷ bs) gs t)
  pass-clocked b [] gs t have ms held h =
      let a : Steps program origin (moment_of origin t have) (step_of origin b (shipped t.state.mpc) gs t) = steps b gs t have ms held h in
      record { have = a.have; is = ap₂ (last mic2_meaning program) a.stalls a.done; held = a.held; memory = step-memory origin has.queue b (shipped t.state.mpc) gs t h ms }
  pass-clocked b (c ∷ cs) gs t have ms held h =
      let s : Placed = shipped t.state.mpc in
      let u : Short = step_of origin b s gs t in
      let a : Steps program origin (moment_of origin t have) u = steps b gs t have ms held h.0 in
      let r : Arrives origin (pass mic2_meaning program (length cs) (moment_of origin u a.have)) (clocked origin (c ∷ cs) (guesses_of origin b s gs) u) =
      pass-clocked c cs (guesses_of origin b s gs) u a.have (step-memory origin has.queue b s gs t h.0 ms) a.held h.2 in
      record {
        have = r.have;
        is = pass_on mic2_meaning program (length cs) (moment_of origin t have) {q = moment_of origin u a.have} a.stalls a.done h.1 r.is;
        held = r.held;
        memory = r.memory;
      }
