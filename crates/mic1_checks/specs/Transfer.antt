-- When the passes of two control stores end alike, and what then carries over from the first store to the second.
use Rattle.std.specs.Prelude.{◌≡◌, ℕ, ◌+◌, ◌<◌, ◌==◌, false, List, Some, unwrap_or}
use Rattle.mic1_checks.specs.Common.{Micro, mic1_meaning, IsReady, State, Origin, IsAt, Moment, pass, Moves, Overruns, Environment, written_by, Path, Stop}
use Rattle.mic1_checks.specs.Common.{Limit, OutOfMap, Write, moment, StopsAt}
use Rattle.mic1_checks.specs.declared.left.Operands.{Operands}
use Rattle.mic1_checks.specs.Left.{AreLeft, HasTop}
use Rattle.mic1_checks.specs.Ready.{IsReadyOrArriving}
use Rattle.mic1_checks.specs.Words.{HasWords}

-- these writes leave the same memory
abbrev pub LeaveAlike : Environment → List Write → List Write → Type 0
LeaveAlike e ws ws' = (words : List ℕ) → written_by e.word ws words ≡ written_by e.word ws' words

-- two paths have come to boundaries, each of its own entry, and have the same numbers and the same memory there, and the same TOS where it
-- has to be an operand; of the second, the opcode may be under way
pub record AreAlike (e : Environment) (entry entry' : ℕ) (operands : Operands) (p p' : Path) : Type 0 where
  pub sp : p.symbols.sp ≡ p'.symbols.sp
  pub lv : p.symbols.lv ≡ p'.symbols.lv
  pub cpp : p.symbols.cpp ≡ p'.symbols.cpp
  pub tos : (to : State) → HasTop e operands p to → e.word p.symbols.tos ≡ e.word p'.symbols.tos
  pub pc : p.symbols.pc ≡ p'.symbols.pc
  pub opcode : p.symbols.mbr.plain ≡ (unwrap_or p'.symbols.byte p'.symbols.mbr).plain
  pub mpc : p.symbols.mpc ≡ entry
  pub mpc' : p'.symbols.mpc ≡ entry'
  pub writes : LeaveAlike e p.writes.items p'.writes.items
  pub taken : p.taken ≡ p'.taken
  pub given : p.given.items ≡ p'.given.items

-- the entry is no end of a run
pub record IsNoEnd (entry : ℕ) : Type 0 where
  pub no_halt : (entry == 0x0FF) ≡ false
  pub no_err : (entry == 0x0FE) ≡ false

-- both stores lead from one boundary to boundaries that are alike
pub record LeadAlike (store store' : List ℕ) (stalls entry entry' n n' : ℕ) (e : Environment) (operands : Operands)
    (first first' last last' : Path) : Type 0 where
  pub begins : IsNoEnd first'.symbols.mpc
  pub passes : pass mic1_meaning store n (moment e stalls entry first) ≡ Some (moment e stalls entry last)
  pub passes' : pass mic1_meaning store' n' (moment e stalls entry' first') ≡ Some (moment e stalls entry' last')
  pub alike : AreAlike e entry entry' operands last last'
  pub words : HasWords (moment e stalls entry' last').state (moment e stalls entry' last').world
  pub short : n' < 1024

-- what the second store takes, if the first one has spent n + 1 cycles; words are left there
pub record Carries (store' before : List ℕ) (o : Origin) (entry' n n' spent : ℕ) (q' : Moment Micro) (to : State) : Type 0 where
  pub spent_is : spent ≡ n + 1
  pub moves : Moves mic1_meaning store' (IsAt mic1_meaning IsReadyOrArriving entry' o) before q' (n' + 1) to
  pub words : HasWords moves.there.state moves.there.world

abbrev pub Transfers : Type 0
Transfers =
    (store store' before : List ℕ) (o : Origin) (stalls entry entry' n n' spent : ℕ) (e : Environment) (operands : Operands)
    (first first' last last' : Path) (to : State) →
    LeadAlike store store' stalls entry entry' n n' e operands first first' last last' → AreLeft e operands to →
    Moves mic1_meaning store (IsAt mic1_meaning IsReady entry o) before (moment e stalls entry first) spent to →
    Carries store' before o entry' n n' spent (moment e stalls entry' first') to

-- both stores lead from one boundary to writes that meet the stack's end, with the same console
pub record LimitAlike (store store' : List ℕ) (stalls entry entry' n n' : ℕ) (e : Environment) (first first' last last' : Path) : Type 0 where
  pub begins : IsNoEnd first'.symbols.mpc
  pub stops : StopsAt e store stalls entry n Limit first last
  pub stops' : StopsAt e store' stalls entry' n' Limit first' last'
  pub taken : last.taken ≡ last'.taken
  pub given : last.given.items ≡ last'.given.items
  pub short : n' < 1023

abbrev pub TransfersLimits : Type 0
TransfersLimits =
    (store store' before : List ℕ) (o : Origin) (stalls entry entry' n n' : ℕ) (e : Environment) (first first' last last' : Path) (left : State) →
    LimitAlike store store' stalls entry entry' n n' e first first' last last' →
    Overruns mic1_meaning store (IsAt mic1_meaning IsReady entry o) before (moment e stalls entry first) left →
    Overruns mic1_meaning store' (IsAt mic1_meaning IsReadyOrArriving entry' o) before (moment e stalls entry' first') left

-- A pass comes to one end alone: what leads to a boundary overruns no stack, and what is refused leads to no boundary.
pub record OneEnd : Type 0 where
  pub no_limit : (store store' before : List ℕ) (o : Origin) (stalls entry entry' n n' : ℕ) (e : Environment) (operands : Operands)
      (first first' last last' : Path) (left : State) →
      LeadAlike store store' stalls entry entry' n n' e operands first first' last last' →
      Overruns mic1_meaning store (IsAt mic1_meaning IsReady entry o) before (moment e stalls entry first) left → ⊥
  pub no_boundary : (store before : List ℕ) (o : Origin) (stalls entry n spent : ℕ) (e : Environment) (why : Stop) (first last : Path) (to : State) →
      StopsAt e store stalls entry n why first last →
      Moves mic1_meaning store (IsAt mic1_meaning IsReady entry o) before (moment e stalls entry first) spent to → ⊥
  pub out_of_map : (store before : List ℕ) (o : Origin) (stalls entry n : ℕ) (e : Environment) (first last : Path) (left : State) →
      StopsAt e store stalls entry n OutOfMap first last →
      Overruns mic1_meaning store (IsAt mic1_meaning IsReady entry o) before (moment e stalls entry first) left → ⊥
