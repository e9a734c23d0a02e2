-- From a reset to the first boundary.
use Rattle.std.specs.Prelude.{◌≡◌, ◌<◌, ℕ, List, None, slice_index}
use Rattle.mic1_checks.specs.Common.{mic1_meaning, IsReady, Timing, State, VerifiedView, Origin, IsAt, Boots, reset_moment, Loads, Environment, Symbols}
use Rattle.mic1_checks.specs.declared.leaf.Counts.{Counts}
use Rattle.mic1_checks.specs.Carried.{CarriedBy}

-- the number of SP, and the words of the other registers
pub record IsReset (e : Environment) (s : Symbols) : Type 0 where
  pub mar : e.word s.mar ≡ 0
  pub mdr : e.word s.mdr ≡ 0
  pub pc : e.word s.pc ≡ 0xFFFFFFFF
  pub sp : s.sp ≡ 3
  pub lv : e.word s.lv ≡ 0x8000
  pub cpp : e.word s.cpp ≡ 0x4000
  pub tos : e.word s.tos ≡ 0
  pub opc : e.word s.opc ≡ 0
  pub h : e.word s.h ≡ 0
  pub plain : e.word s.mbr.plain ≡ 0
  pub signed : e.word s.mbr.signed ≡ 0
  pub word : s.word ≡ None
  pub byte : s.byte ≡ None

-- the row of the boot's leaves, after those of the instructions
abbrev pub BOOT : ℕ
BOOT = 24

-- If the first store comes from its reset to a boundary, the second comes there from its own, over memory that holds words.
abbrev pub CarriesBoot : List ℕ → List ℕ → ℕ → ℕ → List Counts → Type 0
CarriesBoot store store' entry entry' leaves =
    (timing : Timing) (v : VerifiedView) (o : Origin) (input : List ℕ) (first : State) → Loads v o → ((k : ℕ) → slice_index o.words k < 4294967296) →
    Boots mic1_meaning store (IsAt mic1_meaning IsReady entry o) o.given timing (reset_moment mic1_meaning entry v.main_locals o input) first →
    CarriedBy leaves BOOT store' o.given o entry' timing.boot (reset_moment mic1_meaning entry' v.main_locals o input) first
