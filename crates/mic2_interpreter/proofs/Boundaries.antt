-- Mic-2 between two boundaries: what it knows at the one, and when a symbolic run comes to the next.
use Rattle.mic2_interpreter.proofs.Common.{◌≡◌, ℕ, zero, suc, ◌+◌, ◌<◌, ◌≤◌, ◌++◌, Some, None, true, false, List, [], ◌∷◌, length, arith, ◌∙◌, ap, sym, subst}
use Rattle.mic2_interpreter.proofs.Common.{add-zero, nat_lt, ◌==◌, nat_tests, World, StackLimit, byte_in, wrap, Mic2, Instr, State, timing_of, cost}
use Rattle.mic2_interpreter.proofs.Common.{VerifiedView, StandsAt, unit_at, QueueLaw, Held, AtLeast, Jumped, One, IsHeld, Bounds, is_enough, Stands}
use Rattle.mic2_interpreter.proofs.Common.{MovesWithStalls, OverrunsWithStalls, stalls_of, Origin, RegistersStand, Moment, is_inside, pass, Loads, Fine, IsNext}
use Rattle.mic2_interpreter.proofs.Common.{Went, Overran, ShowsState, HasWord, Counts, counts}
use Rattle.mic2_datapath.specs.Prelude.{Micro, demand, mic2_meaning}
use Rattle.mic2_interpreter.proofs.Store.{shipped, Known}
use Rattle.mic2_interpreter.proofs.Guided.{Turn, Goes, Short, standing, moment_of, refusal_of, clocked, IsSmooth, Arrives, pass-clocked, outcome_is, step-refused}
use Rattle.ijvm_simulation.specs.Images as images

-- this many steps, none of which stalls
abbrev pub steps : ℕ → List Turn
steps zero = []
steps (suc n) = Goes ∷ steps n

-- the symbolic state at the first word of this opcode, with nothing under way
abbrev pub at_opcode : ℕ → Micro → World → ℕ → Short
at_opcode code m w stalls = record { state = record m { mpc = code; word = None; begins = true }; queue = AtLeast 2; world = w; stalls = stalls }

module _ (queue : QueueLaw) (o : Origin) (s : State) (m : Micro) (w : World) (stalls : ℕ) (h : Stands o s m w) where
  -- the bytes in the queue
  abbrev many : ℕ
  many = length m.unit.bytes

  unit_is : m.unit ≡ unit_at o.words m.pc many
  unit_is = queue.there o.words (s.at + 1) m.unit h.ready.unit ∙ ap (λ (p : ℕ). unit_at o.words p many) (sym h.ready.pc)

  pub starts : (code : ℕ) → byte_in o.words s.at ≡ code → record { state = m; world = w; stalls = stalls } ≡ moment_of o.words (at_opcode code m w stalls) many
  starts code e =
      λ i. record {
        state = record m { mpc = (h.ready.mpc ∙ e) i; word = h.ready.word i; unit = unit_is i; begins = h.ready.begins i };
        world =
            w;
        stalls = stalls;
      }

  pub starts_held : Bounds 2 m.pc many
  starts_held = subst (λ (p : ℕ). Bounds 2 p many) (sym h.ready.pc) (queue.bounds o.words (s.at + 1) m.unit h.ready.unit h.ready.two)

-- a symbolic state at a boundary that stands for this state
pub record IsThere (o : Origin) (s : State) (t : Short) : Type 0 where
  pub holds : RegistersStand o s t.state.sp t.state.lv t.state.cpp t.state.tos t.world
  pub pc : t.state.pc ≡ s.at + 1
  pub near : t.state.pc < 0x1FF00
  pub mpc : t.state.mpc ≡ byte_in o.words s.at
  pub word : t.state.word ≡ None
  pub begins : t.state.begins ≡ true
  pub two : is_enough 2 t.queue ≡ true

bounds : (q : Held) {p have : ℕ} → is_enough 2 q ≡ true → IsHeld q p have → Bounds 2 p have
bounds (AtLeast n) two held = let l : 2 ≤ n = grind (arith, nat_tests) in record { least = omega (arith, held.least); few = held.few; aligned = held.aligned }
bounds Jumped two held = absurd (cc)
bounds One two held = absurd (cc)

pub stands_at : (queue : QueueLaw) (o : Origin) (s : State) (t : Short) (have : ℕ) → IsThere o s t → IsHeld t.queue t.state.pc have →
    Stands o s (standing o.words t.state have) t.world
stands_at queue o s t have there held =
    let two : Bounds 2 t.state.pc have = bounds t.queue there.two held in
    let long : length (unit_at o.words t.state.pc have).bytes ≡ have = queue.many o.words t.state.pc have in
    record {
      holds = there.holds;
      ready = record {
        pc = there.pc;
        low = omega (arith, there.near);
        mpc = there.mpc;
        unit = subst (λ (p : ℕ). StandsAt o.words p (unit_at o.words t.state.pc have)) there.pc (queue.stands o.words t.state.pc have two);
        two = omega (arith, two.least);
        begins = there.begins;
        word = there.word;
      };
    }

-- what a Mic-2 shows at a boundary
pub shows : (program : List ℕ) (o : Origin) (s : State) (m : Micro) (w : World) → Stands o s m w →
    ShowsState mic2_meaning program (Stands o) o.given s m w
unfolding wrap
shows program o s m w h =
    record {
      boundary = h.ready.begins;
      address = omega (arith, h.ready.pc, h.ready.low);
      sp = omega (arith, h.holds.sp_is);
      lv = h.holds.lv_is;
      untaken = h.holds.untaken;
      given = h.holds.given;
    }

-- what is known at a boundary where an instruction comes next
pub record At (program : List ℕ) (o : Origin) (v : VerifiedView) (s : State) (q : Moment Micro) : Type 0 where
  pub has : Known program
  pub loads : Loads v o
  pub stands : Stands o s q.state q.world
  pub holds : RegistersStand o s q.state.sp q.state.lv q.state.cpp q.state.tos q.world
  pub inside : s.at < 0x10000
  pub counts : Counts o.words s.at q.state.pc
  pub none : q.stalls ≡ q.stalls + 0

pub at : {program : List ℕ} {o : Origin} {v : VerifiedView} {s : State} {q : Moment Micro} (i : Instr) → Known program → Loads v o → IsNext v o s i →
    Stands o s q.state q.world → At program o v s q
at {o = o} {v} {s} {q} i has loads n h =
    let inside : s.at < 0x10000 = images.inside v o s i loads n in
    assumption (counts o.words s.at q.state.pc h.ready.pc inside, sym (add-zero q.stalls))

module _ {program : List ℕ} {o : Origin} {v : VerifiedView} {s : State} {q : Moment Micro} (a : At program o v s q) where
  -- what the instruction takes where it goes on, and where the stack has no room
  abbrev pub GoesOn : Instr → Type 0
  GoesOn i = (to : State) → Fine v s → IsNext v o s i → Went v.image v.map.stack_end s to i →
      MovesWithStalls program o q (cost v.image (timing_of Mic2) i s) (stalls_of v.image i) to

  abbrev pub IsCut : Instr → Type 0
  IsCut i = (left : State) → IsNext v o s i → Overran v.image v.map.stack_end s left i → OverrunsWithStalls program o q (stalls_of v.image i) left

  abbrev start : ℕ → Short
  start code = at_opcode code q.state q.world q.stalls

  abbrev after : ℕ → List Turn → List ℕ → Short
  after code plan gs = clocked o.words plan gs (start code)

  -- The steps of a plan along these guesses, from an opcode that does not end the run.
  pub record Begins (code : ℕ) (b : Turn) (bs : List Turn) (gs : List ℕ) : Type 0 where
    pub no_halt : (code == 255) ≡ false
    pub no_err : (code == 254) ≡ false
    pub short : nat_lt (length bs) 1023 ≡ true
    pub smooth : IsSmooth o.words (b ∷ bs) gs (start code)

  begins : {code : ℕ} {b : Turn} {bs : List Turn} {gs : List ℕ} → byte_in o.words s.at ≡ code → Begins code b bs gs → HasWord mic2_meaning q.state
  begins {code} is h =
      let e : q.state.mpc ≡ code = a.stands.ready.mpc ∙ is in
      record { no_halt = ap (λ (k : ℕ). k == 255) e ∙ h.no_halt; no_err = ap (λ (k : ℕ). k == 254) e ∙ h.no_err }

  arrived : {code : ℕ} {b : Turn} {bs : List Turn} {gs : List ℕ} → byte_in o.words s.at ≡ code → Begins code b bs gs →
      Arrives o.words (pass mic2_meaning program (length bs) q) (after code (b ∷ bs) gs)
  arrived {code} {b} {bs} {gs} is h =
      let x = pass-clocked program a.has o.words (images.map v o a.loads).low b bs gs (start code) (length q.state.unit.bytes) a.holds.memory
      (starts_held a.has.queue o s q.state q.world q.stalls a.stands) h.smooth in
      record {
        have = x.have;
        is = ap (pass mic2_meaning program (length bs)) (starts a.has.queue o s q.state q.world q.stalls a.stands code is) ∙ x.is;
        held = x.held;
        memory = x.memory;
      }

  -- they come to a boundary that stands for the state t, in the cycles of the instruction and with its stalls
  pub record Reaches (i : Instr) (code : ℕ) (b : Turn) (bs : List Turn) (gs : List ℕ) (t : State) : Type 0 where
    pub steps : Begins code b bs gs
    pub spent : cost v.image (timing_of Mic2) i s ≡ length bs + 1
    pub there : IsThere o t (after code (b ∷ bs) gs)
    pub stalls : (after code (b ∷ bs) gs).stalls ≡ q.stalls + stalls_of v.image i

  pub arrives : {t to : State} (i : Instr) (code : ℕ) (b : Turn) (bs : List Turn) (gs : List ℕ) → byte_in o.words s.at ≡ code → t ≡ to →
      Reaches i code b bs gs t → MovesWithStalls program o q (cost v.image (timing_of Mic2) i s) (stalls_of v.image i) to
  arrives {t} i code b bs gs is same h =
      let x = arrived is h.steps in
      let short : nat_lt (length bs) 1023 ≡ true = h.steps.short in
      let to : Moment Micro = moment_of o.words (after code (b ∷ bs) gs) x.have in
      record {
        moves = record {
          n = length bs;
          spent_is = h.spent;
          short = grind (arith, nat_tests);
          begins = begins is h.steps;
          there = to;
          passes = x.is;
          stands = subst (λ (y : State). Stands o y to.state to.world) same (stands_at a.has.queue o t (after code (b ∷ bs) gs) x.have h.there x.held);
        };
        stalled = h.stalls;
      }

  -- they come to a write at x that is refused
  pub record Meets (i : Instr) (left : State) (code x : ℕ) (b : Turn) (bs : List Turn) (gs : List ℕ) : Type 0 where
    pub steps : Begins code b bs gs
    pub inside : is_inside mic2_meaning (after code (b ∷ bs) gs).state ≡ true
    pub low : nat_lt (after code (b ∷ bs) gs).state.mpc 512 ≡ true
    pub enough : is_enough (demand (shipped (after code (b ∷ bs) gs).state.mpc)) (after code (b ∷ bs) gs).queue ≡ true
    pub refused : refusal_of o.words (shipped (after code (b ∷ bs) gs).state.mpc) (after code (b ∷ bs) gs) ≡ Some (StackLimit x)
    pub untaken : (after code (b ∷ bs) gs).world.untaken ≡ left.untaken
    pub given : (after code (b ∷ bs) gs).world.given ≡ o.given ++ left.given
    pub stalls : (after code (b ∷ bs) gs).stalls ≡ q.stalls + stalls_of v.image i

  pub overruns : (left : State) (i : Instr) (code x : ℕ) (b : Turn) (bs : List Turn) (gs : List ℕ) → byte_in o.words s.at ≡ code →
      Meets i left code x b bs gs → OverrunsWithStalls program o q (stalls_of v.image i) left
  overruns left i code x b bs gs is h =
      let t : Short = after code (b ∷ bs) gs in
      let y = arrived is h.steps in
      let short : nat_lt (length bs) 1023 ≡ true = h.steps.short in
      let low : nat_lt t.state.mpc 512 ≡ true = h.low in
      record {
        overruns = record {
          n = length bs;
          short = grind (arith, nat_tests);
          begins = begins is h.steps;
          there = moment_of o.words t y.have;
          passes = y.is;
          inside = h.inside;
          at = x;
          refused = outcome_is program a.has o.words (images.map v o a.loads).low (moment_of o.words t y.have) (grind (arith, nat_tests))
              ∙ step-refused o.words a.has.queue (shipped t.state.mpc) t y.have (StackLimit x) y.memory y.held h.enough h.refused;
          untaken = h.untaken;
          given = h.given;
        };
        stalled = omega (arith, h.stalls);
      }
