-- Mic-1 between two boundaries: what it knows at the one, and when a symbolic run comes to the next.
use Rattle.mic1_interpreter.proofs.Common.{◌≡◌, ℕ, ◌+◌, ◌<◌, ◌++◌, Option, Some, None, true, List, length, arith, refl, ◌∙◌, ap, subst, nat_lt, ◌==◌, nat_tests}
use Rattle.mic1_interpreter.proofs.Common.{World, Refusal, StackLimit, byte_in, fetch_refusal, Placed, memory_refusal, byte_refusal, first_refusal, next, State}
use Rattle.mic1_interpreter.proofs.Common.{timing_of, cost, Micro, mic1_meaning, settled, Mic1, Instr, VerifiedView, Stands, Origin, RegistersStand, Moment}
use Rattle.mic1_interpreter.proofs.Common.{is_inside, pass, Loads, Fine, IsNext, Went, Overran, ShowsState, HasWord, Moves, Overruns, next_is, byte_kept}
use Rattle.mic1_interpreter.proofs.Common.{fetch_ok}
use Rattle.mic1_interpreter.proofs.Store.{shipped, HasStatements}
use Rattle.mic1_interpreter.proofs.Guided.{clocked, clocked-long, IsSmooth, pass-clocked, outcome_is, step-refused}
use Rattle.ijvm_simulation.specs.Images as images

-- the moment at Main1, with nothing under way
abbrev pub at_main : Micro → World → ℕ → Moment Micro
at_main m w stalls = record { state = record m { mpc = 2; word = None; byte = None; entry = 2; clocked = true }; world = w; stalls = stalls }

starts : (o : Origin) (s : State) (m : Micro) (w : World) (stalls : ℕ) → Stands o s m w →
    record { state = m; world = w; stalls = stalls } ≡ at_main m w stalls
starts o s m w stalls h =
    λ i. record {
      state = record m {
        mpc = (h.ready.mpc ∙ h.ready.entry) i;
        word = h.ready.word i;
        byte = h.ready.byte i;
        entry = h.ready.entry i;
        clocked = h.ready.clocked i;
      };
      world = w;
      stalls = stalls;
    }

-- an address of the text, where a byte is fetched
pub record Place (o : Origin) (w : World) (x a : ℕ) : Type 0 where
  pub is : x ≡ a
  pub fetch : fetch_refusal (length o.words) x ≡ None
  pub byte : byte_in w.words x ≡ byte_in o.words a

module _ {o : Origin} {v : VerifiedView} {s : State} {sp lv cpp tos : ℕ} {w : World} (loads : Loads v o) (h : RegistersStand o s sp lv cpp tos w) where
  pub place : {x a : ℕ} → x ≡ a → a < 0x20000 → Place o w x a
  place is low = record { is = is; fetch = fetch_ok (length o.words) (images.map v o loads) is low; byte = byte_kept w.words o.words h.memory.kept is low }

  -- the next one
  pub place_on : {x a b : ℕ} → Place o w x a → a + 1 ≡ b → b < 0x20000 → Place o w (next x) b
  place_on {x} {b = b} p on low = place (next_is x b (omega (arith, p.is)) (omega arith)) low

-- what a Mic-1 shows at a boundary
pub shows : (program : List ℕ) (o : Origin) (s : State) (m : Micro) (w : World) → Stands o s m w →
    ShowsState mic1_meaning program (Stands o) o.given s m w
shows program o s m w h =
    record {
      boundary = let e : m.mpc ≡ m.entry = h.ready.mpc in let on : m.clocked ≡ true = h.ready.clocked in rw on (grind (arith, nat_tests));
      address = h.ready.pc;
      sp = omega (arith, h.holds.sp_is);
      lv = h.holds.lv_is;
      untaken = h.holds.untaken;
      given = h.holds.given;
    }

-- what is known at a boundary where an instruction comes next, and the addresses after its own
pub record At (program : List ℕ) (o : Origin) (v : VerifiedView) (s : State) (q : Moment Micro) : Type 0 where
  pub has : HasStatements program
  pub loads : Loads v o
  pub stands : Stands o s q.state q.world
  pub holds : RegistersStand o s q.state.sp q.state.lv q.state.cpp q.state.tos q.world
  pub inside : s.at < 0x10000
  pub first : Place o q.world (next q.state.pc) (s.at + 1)
  pub second : Place o q.world (next (next q.state.pc)) (s.at + 2)
  pub third : Place o q.world (next (next (next q.state.pc))) (s.at + 3)
  pub fourth : Place o q.world (next (next (next (next q.state.pc)))) (s.at + 4)
  pub fifth : Place o q.world (next (next (next (next (next q.state.pc))))) (s.at + 5)
  pub sixth : Place o q.world (next (next (next (next (next (next q.state.pc)))))) (s.at + 6)

pub at : {program : List ℕ} {o : Origin} {v : VerifiedView} {s : State} {q : Moment Micro} (i : Instr) → HasStatements program → Loads v o →
    IsNext v o s i → Stands o s q.state q.world → At program o v s q
at {o = o} {v} {s} {q} i has loads n h =
    let inside : s.at < 0x10000 = images.inside v o s i loads n in
    let first = place_on loads h.holds {b = s.at + 1} (place loads h.holds h.ready.pc (omega arith)) refl (omega arith) in
    let second = place_on loads h.holds {b = s.at + 2} first (omega arith) (omega arith) in
    let third = place_on loads h.holds {b = s.at + 3} second (omega arith) (omega arith) in
    let fourth = place_on loads h.holds {b = s.at + 4} third (omega arith) (omega arith) in
    let fifth = place_on loads h.holds {b = s.at + 5} fourth (omega arith) (omega arith) in
    let sixth = place_on loads h.holds {b = s.at + 6} fifth (omega arith) (omega arith) in
    assumption

module _ {program : List ℕ} {o : Origin} {v : VerifiedView} {s : State} {q : Moment Micro} (a : At program o v s q) where
  -- what the instruction takes where it goes on, and where the stack has no room
  abbrev pub GoesOn : Instr → Type 0
  GoesOn i = (to : State) → Fine v s → IsNext v o s i → Went v.image v.map.stack_end s to i →
      Moves mic1_meaning program (Stands o) o.given q (cost v.image (timing_of Mic1) i s) to

  abbrev pub IsCut : Instr → Type 0
  IsCut i = (left : State) → IsNext v o s i → Overran v.image v.map.stack_end s left i → Overruns mic1_meaning program (Stands o) o.given q left

  pub begins : HasWord mic1_meaning q.state
  begins =
      let e : q.state.mpc ≡ 2 = a.stands.ready.mpc ∙ a.stands.ready.entry in
      record { no_halt = ap (λ (k : ℕ). k == 255) e; no_err = ap (λ (k : ℕ). k == 254) e }

  -- the byte at PC
  pub opcode : {code : ℕ} → byte_in o.words s.at ≡ code → q.state.mbr ≡ code
  opcode is = a.stands.ready.mbr ∙ is

  -- n + 1 microsteps along these guesses
  abbrev pub after : ℕ → List ℕ → Moment Micro
  after n gs = clocked (length o.words) gs n (at_main q.state q.world q.stalls)

  pub passes : (n : ℕ) (gs : List ℕ) → IsSmooth (length o.words) gs n (at_main q.state q.world q.stalls) → pass mic1_meaning program n q ≡ Some (after n gs)
  passes n gs smooth =
      ap (pass mic1_meaning program n) (starts o s q.state q.world q.stalls a.stands)
      ∙ pass-clocked program a.has (length o.words) gs n (at_main q.state q.world q.stalls) a.holds.memory.long smooth

  -- they come to a boundary that stands for the state t, in the cycles of the instruction
  abbrev pub Arrives : Instr → ℕ → List ℕ → State → Type 0
  Arrives i n gs t =
      (cost v.image (timing_of Mic1) i s ≡ n + 1) × (nat_lt n 1024 ≡ true) × IsSmooth (length o.words) gs n (at_main q.state q.world q.stalls)
      × Stands o t (after n gs).state (after n gs).world

  pub arrives : {t to : State} (i : Instr) (n : ℕ) (gs : List ℕ) → t ≡ to → Arrives i n gs t →
      Moves mic1_meaning program (Stands o) o.given q (cost v.image (timing_of Mic1) i s) to
  arrives i n gs same h =
      let short : nat_lt n 1024 ≡ true = h.1 in
      record {
        n = n;
        spent_is = h.0;
        short = grind (arith, nat_tests);
        begins = begins;
        there = after n gs;
        passes = passes n gs h.2;
        stands = subst (λ (x : State). Stands o x (after n gs).state (after n gs).world) same h.3;
      }

  -- they come to a write at x that is refused
  abbrev pub Meets : State → ℕ → ℕ → List ℕ → Type 0
  Meets left n x gs =
      let there = after n gs in
      let part = (shipped there.state.mpc).part in
      (nat_lt n 1023 ≡ true) × IsSmooth (length o.words) gs n (at_main q.state q.world q.stalls) × (is_inside mic1_meaning there.state ≡ true)
      × (nat_lt there.state.mpc 512 ≡ true)
      × (memory_refusal (length o.words) part.mem (settled part there.state).mar ≡ Some (StackLimit x))
      × (there.world.untaken ≡ left.untaken) × (there.world.given ≡ o.given ++ left.given)

  pub overruns : (left : State) (n x : ℕ) (gs : List ℕ) → Meets left n x gs → Overruns mic1_meaning program (Stands o) o.given q left
  overruns left n x gs h =
      let there : Moment Micro = after n gs in
      let p : Placed = shipped there.state.mpc in
      let short : nat_lt n 1023 ≡ true = h.0 in
      let low : nat_lt there.state.mpc 512 ≡ true = h.3 in
      record {
        n = n;
        short = grind (arith, nat_tests);
        begins = begins;
        there = there;
        passes = passes n gs h.1;
        inside = h.2;
        at = x;
        refused = outcome_is program a.has (length o.words) there (grind (arith, nat_tests))
            ∙ step-refused (length o.words) p there.state there.world (StackLimit x)
            (clocked-long (length o.words) gs n (at_main q.state q.world q.stalls) ∙ a.holds.memory.long)
            (ap (λ (r : Option Refusal). first_refusal r (byte_refusal (length o.words) p.part.fetch (settled p.part there.state).pc)) h.4);
        untaken = h.5;
        given = h.6;
      }
