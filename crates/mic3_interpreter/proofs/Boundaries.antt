-- Mic-3 at instruction boundaries, and its symbolic runs from one to the next.
use Rattle.mic3_interpreter.proofs.Common.{◌++◌, ◌≡◌, ℕ, ◌+◌, ◌<◌, ◌≤◌, true, false, Some, None, List, [], ◌∷◌, length, arith, sym, ◌∙◌, ap, subst, nat_lt}
use Rattle.mic3_interpreter.proofs.Common.{◌==◌, nat_tests, wrap, World, StackLimit, byte_in, Instr, State, cost, VerifiedView, StandsAt, unit_at, QueueLaw}
use Rattle.mic3_interpreter.proofs.Common.{Held, AtLeast, Jumped, One, IsHeld, Bounds, is_enough, Micro, Pipeline, mic3_meaning, Stands, mic3_timing}
use Rattle.mic3_interpreter.proofs.Store.{shipped, Known}
use Rattle.mic3_interpreter.proofs.Guided.{Short, Turn, Issues, HeldUp, standing, moment_of, refusal_of, clocked, IsTurn, IsSmooth, Arrives, pass-clocked, outcome_is, cycle-refused}
use Rattle.ijvm_simulation.specs.Prelude.{Origin, RegistersStand, Moment, is_inside, pass, Loads, Fine, IsNext, Went, Overran, ShowsState, HasWord, Moves, Overruns}
use Rattle.ijvm_simulation.specs.Images as images
use Rattle.ijvm_simulation.specs.Places.{Counts, counts}

-- a statement issues, and the next one is held up until it has retired
abbrev pub alone : List Turn → List Turn
alone ks = Issues ∷ HeldUp ∷ HeldUp ∷ ks

-- the symbolic state at the first word of this opcode, with empty slots and nothing under way
abbrev pub at_opcode : ℕ → Micro → World → ℕ → Short
at_opcode code m w stalls =
    record {
      state = record { micro = record m { mpc = code; word = None; begins = true }; operand = None; result = None };
      queue = AtLeast 3;
      world = w;
      stalls = stalls;
    }

module _ (queue : QueueLaw) (o : Origin) (s : State) (p : Pipeline) (w : World) (stalls : ℕ) (h : Stands o s p w) where
  -- the bytes in the queue
  abbrev many : ℕ
  many = length p.micro.unit.bytes

  unit_is : p.micro.unit ≡ unit_at o.words p.micro.pc many
  unit_is = queue.there o.words (s.at + 1) p.micro.unit h.ready.micro.unit ∙ ap (λ (a : ℕ). unit_at o.words a many) (sym h.ready.micro.pc)

  pub starts : (code : ℕ) → byte_in o.words s.at ≡ code →
      record { state = p; world = w; stalls = stalls } ≡ moment_of o.words (at_opcode code p.micro w stalls) many
  starts code e =
      λ i. record {
        state = record {
          micro = record p.micro { mpc = (h.ready.micro.mpc ∙ e) i; word = h.ready.micro.word i; unit = unit_is i; begins = h.ready.micro.begins i };
          operand = h.ready.operand i;
          result = h.ready.result i;
        };
        world = w;
        stalls = stalls;
      }

  pub starts_held : Bounds 3 p.micro.pc many
  starts_held =
      let b : Bounds 2 p.micro.pc many =
      subst (λ (a : ℕ). Bounds 2 a many) (sym h.ready.micro.pc) (queue.bounds o.words (s.at + 1) p.micro.unit h.ready.micro.unit h.ready.micro.two) in
      record { least = h.ready.three; few = b.few; aligned = b.aligned }

-- a symbolic state at a boundary that stands for this state
pub record IsThere (o : Origin) (s : State) (t : Short) : Type 0 where
  pub holds : RegistersStand o s t.state.micro.sp t.state.micro.lv t.state.micro.cpp t.state.micro.tos t.world
  pub pc : t.state.micro.pc ≡ s.at + 1
  pub near : t.state.micro.pc < 0x1FF00
  pub mpc : t.state.micro.mpc ≡ byte_in o.words s.at
  pub word : t.state.micro.word ≡ None
  pub begins : t.state.micro.begins ≡ true
  pub operand : t.state.operand ≡ None
  pub result : t.state.result ≡ None
  pub three : is_enough 3 t.queue ≡ true

bounds : (q : Held) {p have : ℕ} → is_enough 3 q ≡ true → IsHeld q p have → Bounds 3 p have
bounds (AtLeast n) three held = let l : 3 ≤ n = grind (arith, nat_tests) in record { least = omega (arith, held.least); few = held.few; aligned = held.aligned }
bounds Jumped three held = absurd (cc)
bounds One three held = absurd (cc)

pub stands_at : (queue : QueueLaw) (o : Origin) (s : State) (t : Short) (have : ℕ) → IsThere o s t → IsHeld t.queue t.state.micro.pc have →
    Stands o s (standing o.words t.state have) t.world
stands_at queue o s t have there held =
    let b : Bounds 3 t.state.micro.pc have = bounds t.queue there.three held in
    let two : Bounds 2 t.state.micro.pc have = record { least = omega (arith, b.least); few = b.few; aligned = b.aligned } in
    let long : length (unit_at o.words t.state.micro.pc have).bytes ≡ have = queue.many o.words t.state.micro.pc have in
    record {
      holds = there.holds;
      ready = record {
        micro = record {
          pc = there.pc;
          low = omega (arith, there.near);
          mpc = there.mpc;
          unit = subst (λ (a : ℕ). StandsAt o.words a (unit_at o.words t.state.micro.pc have)) there.pc
              (queue.stands o.words t.state.micro.pc have two);
          two = omega (arith, two.least);
          begins = there.begins;
          word = there.word;
        };
        three = omega (arith, b.least);
        operand = there.operand;
        result = there.result;
      };
    }

-- what a Mic-3 shows at a boundary
pub shows : (program : List ℕ) (o : Origin) (s : State) (p : Pipeline) (w : World) → Stands o s p w →
    ShowsState mic3_meaning program (Stands o) o.given s p w
unfolding wrap
shows program o s p w h =
    record {
      boundary = h.ready.micro.begins;
      address = omega (arith, h.ready.micro.pc, h.ready.micro.low);
      sp = omega (arith, h.holds.sp_is);
      lv = h.holds.lv_is;
      untaken = h.holds.untaken;
      given = h.holds.given;
    }

-- what is known at a boundary where an instruction comes next
pub record At (program : List ℕ) (o : Origin) (v : VerifiedView) (s : State) (q : Moment Pipeline) : Type 0 where
  pub has : Known program
  pub loads : Loads v o
  pub stands : Stands o s q.state q.world
  pub holds : RegistersStand o s q.state.micro.sp q.state.micro.lv q.state.micro.cpp q.state.micro.tos q.world
  pub inside : s.at < 0x10000
  pub counts : Counts o.words s.at q.state.micro.pc

pub at : {program : List ℕ} {o : Origin} {v : VerifiedView} {s : State} {q : Moment Pipeline} (i : Instr) → Known program → Loads v o →
    IsNext v o s i → Stands o s q.state q.world → At program o v s q
at {o = o} {v} {s} {q} i has loads n h =
    let inside : s.at < 0x10000 = images.inside v o s i loads n in
    assumption (counts o.words s.at q.state.micro.pc h.ready.micro.pc inside)

module _ {program : List ℕ} {o : Origin} {v : VerifiedView} {s : State} {q : Moment Pipeline} (a : At program o v s q) where
  -- what the instruction takes where it goes on, and where the stack has no room
  abbrev pub GoesOn : Instr → Type 0
  GoesOn i = (to : State) → Fine v s → IsNext v o s i → Went v.image v.map.stack_end s to i →
      Moves mic3_meaning program (Stands o) o.given q (cost v.image mic3_timing i s) to

  abbrev pub IsCut : Instr → Type 0
  IsCut i = (left : State) → IsNext v o s i → Overran v.image v.map.stack_end s left i → Overruns mic3_meaning program (Stands o) o.given q left

  abbrev start : ℕ → Short
  start code = at_opcode code q.state.micro q.world q.stalls

  abbrev after : ℕ → List Turn → List ℕ → Short
  after code plan gs = clocked o.words plan gs (start code)

  -- The cycles of a plan along these guesses, from an opcode that does not end the run.
  pub record Begins (code : ℕ) (k : Turn) (ks : List Turn) (gs : List ℕ) : Type 0 where
    pub no_halt : (code == 255) ≡ false
    pub no_err : (code == 254) ≡ false
    pub short : nat_lt (length ks) 1023 ≡ true
    pub smooth : IsSmooth o.words (k ∷ ks) gs (start code)

  begins : {code : ℕ} {k : Turn} {ks : List Turn} {gs : List ℕ} → byte_in o.words s.at ≡ code → Begins code k ks gs → HasWord mic3_meaning q.state
  begins {code} is h =
      let e : q.state.micro.mpc ≡ code = a.stands.ready.micro.mpc ∙ is in
      record { no_halt = ap (λ (j : ℕ). j == 255) e ∙ h.no_halt; no_err = ap (λ (j : ℕ). j == 254) e ∙ h.no_err }

  arrived : {code : ℕ} {k : Turn} {ks : List Turn} {gs : List ℕ} → byte_in o.words s.at ≡ code → Begins code k ks gs →
      Arrives o.words (pass mic3_meaning program (length ks) q) (after code (k ∷ ks) gs)
  arrived {code} {k} {ks} {gs} is h =
      let x = pass-clocked program a.has o.words (images.map v o a.loads).low k ks gs (start code) (length q.state.micro.unit.bytes) a.holds.memory
      (starts_held a.has.queue o s q.state q.world q.stalls a.stands) h.smooth in
      record {
        have = x.have;
        is = ap (pass mic3_meaning program (length ks)) (starts a.has.queue o s q.state q.world q.stalls a.stands code is) ∙ x.is;
        held = x.held;
        memory = x.memory;
      }

  -- they come to a boundary that stands for the state t, in the cycles of the instruction
  pub record Reaches (i : Instr) (code : ℕ) (k : Turn) (ks : List Turn) (gs : List ℕ) (t : State) : Type 0 where
    pub steps : Begins code k ks gs
    pub spent : cost v.image mic3_timing i s ≡ length ks + 1
    pub there : IsThere o t (after code (k ∷ ks) gs)

  pub arrives : {t to : State} (i : Instr) (code : ℕ) (k : Turn) (ks : List Turn) (gs : List ℕ) → byte_in o.words s.at ≡ code → t ≡ to →
      Reaches i code k ks gs t → Moves mic3_meaning program (Stands o) o.given q (cost v.image mic3_timing i s) to
  arrives {t} i code k ks gs is same h =
      let x = arrived is h.steps in
      let short : nat_lt (length ks) 1023 ≡ true = h.steps.short in
      let to : Moment Pipeline = moment_of o.words (after code (k ∷ ks) gs) x.have in
      record {
        n = length ks;
        spent_is = h.spent;
        short = grind (arith, nat_tests);
        begins = begins is h.steps;
        there = to;
        passes = x.is;
        stands = subst (λ (y : State). Stands o y to.state to.world) same (stands_at a.has.queue o t (after code (k ∷ ks) gs) x.have h.there x.held);
      }

  -- they come to a write at x that is refused
  pub record Meets (left : State) (code x : ℕ) (k : Turn) (ks : List Turn) (gs : List ℕ) (l : Turn) : Type 0 where
    pub steps : Begins code k ks gs
    pub inside : is_inside mic3_meaning (after code (k ∷ ks) gs).state ≡ true
    pub low : nat_lt (after code (k ∷ ks) gs).state.micro.mpc 512 ≡ true
    pub turn : IsTurn o.words l (shipped (after code (k ∷ ks) gs).state.micro.mpc) [] (after code (k ∷ ks) gs)
    pub refused : refusal_of o.words l (shipped (after code (k ∷ ks) gs).state.micro.mpc) [] (after code (k ∷ ks) gs) ≡ Some (StackLimit x)
    pub untaken : (after code (k ∷ ks) gs).world.untaken ≡ left.untaken
    pub given : (after code (k ∷ ks) gs).world.given ≡ o.given ++ left.given

  pub overruns : (left : State) (code x : ℕ) (k : Turn) (ks : List Turn) (gs : List ℕ) (l : Turn) → byte_in o.words s.at ≡ code →
      Meets left code x k ks gs l → Overruns mic3_meaning program (Stands o) o.given q left
  overruns left code x k ks gs l is h =
      let t : Short = after code (k ∷ ks) gs in
      let y = arrived is h.steps in
      let short : nat_lt (length ks) 1023 ≡ true = h.steps.short in
      let low : nat_lt t.state.micro.mpc 512 ≡ true = h.low in
      record {
        n = length ks;
        short = grind (arith, nat_tests);
        begins = begins is h.steps;
        there = moment_of o.words t y.have;
        passes = y.is;
        inside = h.inside;
        at = x;
        refused = outcome_is program a.has o.words (images.map v o a.loads).low (moment_of o.words t y.have) (grind (arith, nat_tests))
            ∙ cycle-refused o.words a.has.queue l (shipped t.state.micro.mpc) [] t y.have (StackLimit x) y.memory y.held h.turn h.refused;
        untaken = h.untaken;
        given = h.given;
      }
