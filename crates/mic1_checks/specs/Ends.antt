-- Where HALT and ERR lead in a control store.
use Rattle.std.specs.Prelude.{◌≡◌, ◌≢◌, ◌+◌, ◌<◌, ℕ, List, length}
use Rattle.mic1_checks.specs.Common.{byte_in, Instr, State, VerifiedView, Micro, mic1_meaning, Origin, IsAt, Moment, StopsAfter, Path, Followed}
use Rattle.ijvm_instr.specs.declared.instr.Instr.TheVariants.{Err, Halt}
use Rattle.mic1_passes.specs.declared.run.Followed.TheVariants as ends
use Rattle.mic1_checks.specs.declared.ends.Ends.{Ends}
use Rattle.mic1_checks.specs.declared.shape.Shape.{Shape}
use Rattle.mic1_checks.specs.Ready.{IsReadyOrArriving, shape_of}
use Rattle.mic1_checks.specs.Situation.{StandsBefore}
use Rattle.mic1_checks.specs.Transfer.{IsNoEnd}

-- a path is at this address, and has neither written, taken nor given
pub record HasEnded (p : Path) (mpc : ℕ) : Type 0 where
  pub at : p.symbols.mpc ≡ mpc
  pub taken : p.taken ≡ 0
  pub writes : length p.writes.items ≡ 0
  pub given : length p.given.items ≡ 0

-- a path has come to this end of a run after n + 1 cycles, and its boundaries are at no end
pub record HasEndedAfter (b : Followed) (n mpc entry : ℕ) (p : Path) : Type 0 where
  pub end : b ≡ ends.End n
  pub short : n < 1023
  pub ended : HasEnded p mpc
  pub off : mpc ≢ entry
  pub no_end : IsNoEnd entry

-- a machine of this shape comes from a boundary with this opcode to this address, after so many cycles and one
abbrev pub EndsAfter : ℕ → ℕ → Shape → List ℕ → ℕ → ℕ → Type 0
EndsAfter opcode mpc shape store entry cycles =
    (before : List ℕ) (v : VerifiedView) (o : Origin) (s : State) (q : Moment Micro) (i : Instr) →
    StandsBefore entry v o s q i → byte_in o.words s.at ≡ opcode → shape_of q.state ≡ shape →
    StopsAfter mic1_meaning store (IsAt mic1_meaning IsReadyOrArriving entry o) before q (cycles + 1) mpc

-- the store takes HALT and ERR to the ends of the run
pub record TakesEnds (store : List ℕ) (entry : ℕ) (ends : Ends) : Type 0 where
  pub halts : (before : List ℕ) (v : VerifiedView) (o : Origin) (s : State) (q : Moment Micro) → StandsBefore entry v o s q Halt →
      StopsAfter mic1_meaning store (IsAt mic1_meaning IsReadyOrArriving entry o) before q (ends.halt + 1) 0x0FF
  pub errs : (before : List ℕ) (v : VerifiedView) (o : Origin) (s : State) (q : Moment Micro) → StandsBefore entry v o s q Err →
      StopsAfter mic1_meaning store (IsAt mic1_meaning IsReadyOrArriving entry o) before q (ends.err + 1) 0x0FE
