-- What a second control store takes of an instruction, if a first one takes it.
use Rattle.std.specs.Prelude.{◌≡◌, ◌<◌, ℕ, List}
use Rattle.mic1_checks.specs.Common.{Contains, Micro, mic1_meaning, IsReady, Instr, Timing, cost, State, VerifiedView, Origin, IsAt, Moment, Moves, Overruns}
use Rattle.mic1_checks.specs.Common.{Takes, Went, Overran, Environment, Path, Answer, Symbols, AreAnswered, HasSigns, Followed}
use Rattle.mic1_passes.specs.declared.run.Followed.TheVariants as ends
use Rattle.mic1_checks.specs.declared.instruction.Instruction.{Instruction}
use Rattle.mic1_checks.specs.declared.leaf.Counts.{Counts}
use Rattle.mic1_checks.specs.declared.left.Operands.{Operands}
use Rattle.mic1_checks.specs.declared.shape.Shape.{Shape}
use Rattle.mic1_checks.specs.declared.start.Start.{Start}
use Rattle.mic1_checks.specs.Left.{AreLeft}
use Rattle.mic1_checks.specs.Ready.{IsReadyOrArriving, shape_of}
use Rattle.mic1_checks.specs.Situation.{IsKnown, StandsBefore, Suits}
use Rattle.mic1_checks.specs.Start.{start_moment}
use Rattle.mic1_checks.specs.Transfer.{AreAlike, Carries}

-- the first path is at a boundary after n + 1 cycles, and the second at one alike
pub record AreAtBoundary (e : Environment) (entry entry' row : ℕ) (operands : Operands) (n : ℕ) (b : Followed) (c : Counts) (p q : Path) : Type 0 where
  pub its_row : c.row ≡ row
  pub first : n ≡ c.first
  pub second : b ≡ ends.Boundary c.second
  pub alike : AreAlike e entry entry' operands p q
  pub short : c.second < 1024

-- the second path meets the stack's end too, with the same console
pub record AreAtLimit (b : Followed) (p q : Path) : Type 0 where
  pub n : ℕ
  pub second : b ≡ ends.Limit n
  pub taken : p.taken ≡ q.taken
  pub given : p.given.items ≡ q.given.items
  pub short : n < 1023

-- the second store moves too, with the counts of one of the leaves of this row
pub record CarriedBy (leaves : List Counts) (row : ℕ) (store' before : List ℕ) (o : Origin) (entry' spent : ℕ) (q' : Moment Micro) (to : State) : Type 0 where
  pub counts : Counts
  pub is_leaf : Contains leaves counts
  pub its_row : counts.row ≡ row
  pub carries : Carries store' before o entry' counts.first counts.second spent q' to

-- where the first store moves from its start, to a state of whose operands this is true, the second does from its own, and where the first
-- meets the stack's end, the second does
pub record CarriesOver (e : Environment) (s s' : Symbols) (store store' : List ℕ) (entry entry' row : ℕ) (operands : Operands)
    (leaves : List Counts) : Type 0 where
  pub moves : (before : List ℕ) (o : Origin) (stalls spent : ℕ) (to : State) → AreLeft e operands to →
      Moves mic1_meaning store (IsAt mic1_meaning IsReady entry o) before (start_moment e stalls entry s) spent to →
      CarriedBy leaves row store' before o entry' spent (start_moment e stalls entry' s') to
  pub limits : (before : List ℕ) (o : Origin) (stalls : ℕ) (left : State) →
      Overruns mic1_meaning store (IsAt mic1_meaning IsReady entry o) before (start_moment e stalls entry s) left →
      Overruns mic1_meaning store' (IsAt mic1_meaning IsReadyOrArriving entry' o) before (start_moment e stalls entry' s') left

-- in this environment, what the first store takes from where both start carries over, under these answers
abbrev pub CarriesFrom : Start → List Answer → List ℕ → List ℕ → ℕ → ℕ → List Counts → Environment → Type 0
CarriesFrom b answers store store' entry entry' leaves e =
    IsKnown e b.known → HasSigns e.word b.first → HasSigns e.word b.second → AreAnswered e answers →
    CarriesOver e b.first b.second store store' entry entry' b.row b.operands leaves

-- both ends of an instruction in the second store: the next boundary of the definition, or the stack's end
pub record Onward (leaves : List Counts) (row : ℕ) (store' : List ℕ) (entry' : ℕ) (before : List ℕ) (timing : Timing) (v : VerifiedView) (o : Origin)
    (s : State) (q : Moment Micro) (i : Instr) : Type 0 where
  pub goes : (to : State) → Went v.image v.map.stack_end s to i → CarriedBy leaves row store' before o entry' (cost v.image timing i s) q to
  pub limits : (left : State) → Overran v.image v.map.stack_end s left i →
      Overruns mic1_meaning store' (IsAt mic1_meaning IsReadyOrArriving entry' o) before q left

-- If the first store takes what every instruction takes of a machine, the second takes what those of this kind take, where a
-- machine of this shape stands.
abbrev pub CarriesInstruction : Instruction → Shape → List ℕ → List ℕ → ℕ → ℕ → List Counts → Type 0
CarriesInstruction n shape store store' entry entry' leaves =
    (before : List ℕ) (timing : Timing) (v : VerifiedView) (o : Origin) (s : State) (q : Moment Micro) (i : Instr) →
    Takes mic1_meaning store (IsAt mic1_meaning IsReady entry o) before timing v o (λ i. Unit {0}) →
    StandsBefore entry' v o s q i → Suits n o s → shape_of q.state ≡ shape → Onward leaves n.row store' entry' before timing v o s q i
