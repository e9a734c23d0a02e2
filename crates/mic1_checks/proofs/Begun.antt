-- The environment in which a symbolic run stands for a machine's.
use Rattle.mic1_checks.proofs.Common.{◌≡◌, ◌<◌, ℕ, true, List, sym, ◌∙◌, subst, slice_index, World, Instr, State, VerifiedView, arrived, Micro, mic1_meaning}
use Rattle.mic1_checks.proofs.Common.{IsReady, Origin, IsAt, Went, Moment, Node, Environment, Fits, AreOrdered, HasEnvironments, Symbols, HasSigns, micro_of}
use Rattle.mic1_checks.proofs.Common.{Instruction, Shape, shape_of, StandsBefore, StartsBefore, Suits, IsStart, HasRegisters, shaped_symbols, start_moment}
use Rattle.mic1_checks.proofs.Starts.{Started, started, twin, twin_stands, stand, stand_shaped, signs, signs_shaped}

-- the settled symbols stand for the machine's twin at any entry, and those of its shape for the machine itself
pub record Begun (table : List Node) (n : Instruction) (shape : Shape) (x : Symbols) (entry' : ℕ) (v : VerifiedView) (s : State) (q : Moment Micro)
    (i : Instr) : Type 0 where
  pub e : Environment
  pub fits : Fits e table
  pub starts : StartsBefore e n x i
  pub went : (to : State) → Went v.image v.map.stack_end s to i → Went starts.v.image starts.v.map.stack_end starts.s to i
  pub from : (entry : ℕ) → start_moment e q.stalls entry x ≡ record { state = twin entry q.state; world = q.world; stalls = q.stalls }
  pub own : start_moment e q.stalls entry' (shaped_symbols shape x) ≡ q
  pub signs : HasSigns e.word x
  pub signs_shaped : HasSigns e.word (shaped_symbols shape x)

pub begun : HasEnvironments → (table : List Node) → AreOrdered table → HasRegisters table → (n : Instruction) (shape : Shape) (x : Symbols) (entry' : ℕ)
    (v : VerifiedView) (o : Origin) (s : State) (q : Moment Micro) (i : Instr) → StandsBefore entry' v o s q i → Suits n o s → shape_of q.state ≡ shape →
    ((e : Environment) → Fits e table → IsStart e n.opcode x) → Begun table n shape x entry' v s q i
begun exist table ordered registers n shape x entry' v o s q i b suits formed starting =
    let t : Started table q.state q.world = started exist table ordered registers q.state q.world b.words in
    let e = t.e in
    let start : IsStart e n.opcode x = starting e t.fits in
    let code : arrived q.state.byte q.state.mbr ≡ n.opcode = b.at.ready.opcode ∙ suits.opcode in
    let stands : (k : ℕ) → micro_of e.word k true (record x { mpc = k }) ≡ twin k q.state =
    stand table q.state q.world t n.opcode x start b.at.holds.cpp_is code b.at.ready.clocked in
    let moment : (k : ℕ) → start_moment e q.stalls k x ≡ record { state = twin k q.state; world = q.world; stalls = q.stalls } =
    λ k j. record { state = stands k j; world = t.starts j; stalls = q.stalls } in
    let itself : micro_of e.word entry' true (record (shaped_symbols shape x) { mpc = entry' }) ≡ q.state =
    stand_shaped table q.state q.world t n.opcode x start b.at.holds.cpp_is code b.at.ready.clocked shape formed entry'
    (b.at.ready.mpc ∙ b.at.ready.entry) b.at.ready.entry in
    let at0 : IsAt mic1_meaning IsReady 0 o s (start_moment e q.stalls 0 x).state (start_moment e q.stalls 0 x).world =
    subst (λ (p : Moment Micro). IsAt mic1_meaning IsReady 0 o s p.state p.world) (sym (moment 0)) (twin_stands o 0 entry' s q.state q.world b.at) in
    let words : (k : ℕ) → slice_index e.start.words k < 4294967296 =
    subst (λ (w : World). (k : ℕ) → slice_index w.words k < 4294967296) (sym t.starts) b.words.memory in
    record {
      e = e;
      fits = t.fits;
      starts = record {
        start = start;
        v = v;
        o = o;
        loads = b.loads;
        s = s;
        next = b.next;
        suits = suits;
        pc = at0.ready.pc;
        holds = at0.holds;
        words = words;
      };
      went = λ to h. h;
      from = moment;
      own = λ j. record { state = itself j; world = t.starts j; stalls = q.stalls };
      signs = signs e n.opcode x start;
      signs_shaped = signs_shaped table q.state q.world t n.opcode x start b.at.holds.cpp_is code b.at.ready.clocked shape;
    }
