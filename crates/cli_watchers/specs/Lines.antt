-- The lines that a trace prints of a clocked cycle.
use Rattle.std.specs.Prelude.{◌≡◌, ℕ, List, [], ◌++◌, Bool, true, false, not, ◌&&◌, if◌then◌else◌, Option, Some, None, Result, codes}
use Rattle.cli_watchers.specs.Common.{decimal, hex_text, Puts, ImageView, MalView, Drive, Computed, state_line, Cycle}
use Rattle.cli_watchers.specs.Naming.{IsInstruction, IsWord, labelled_text}

-- `CYCLE MPC LABEL TEXT`
abbrev pub cycle_line : Cycle → List ℕ → List ℕ → List ℕ
cycle_line c label parts =
    decimal c.counts.cycles ++ codes " " ++ hex_text 3 c.mpc ++ codes " " ++ labelled_text c.drive.stalled label parts ++ codes "\n"

abbrev pub digit_of : Bool → List ℕ
digit_of true = codes "1"
digit_of false = codes "0"

abbrev pub flag_text : List ℕ → Bool → List ℕ
flag_text before flag = before ++ digit_of flag

-- `  a X b X alu X c X n D z D`: the ALU's value and its flags are those before the shifter
abbrev pub bus_line : Drive → Computed → List ℕ
bus_line d c =
    codes "  a " ++ hex_text 8 d.a ++ codes " b " ++ hex_text 8 d.b ++ codes " alu " ++ hex_text 8 c.alu.value ++ codes " c " ++ hex_text 8 c.c
    ++ flag_text (codes " n ") c.alu.n ++ flag_text (codes " z ") c.alu.z ++ codes "\n"

-- the buses, where they are asked for and the cycle was no stall, and the registers after the edge
abbrev pub state_lines : Bool → Cycle → List ℕ
state_lines buses c =
    (if buses && not c.drive.stalled then bus_line c.drive c.computed else []) ++ codes "  " ++ state_line c.registers ++ codes "\n"

-- `at ADDRESS INSTRUCTION`
abbrev pub reached_line : ℕ → List ℕ → List ℕ
reached_line at instruction = codes "at " ++ hex_text 8 at ++ codes " " ++ instruction ++ codes "\n"

-- the line of the boundary that a cycle reached, or nothing where it reached none
abbrev pub IsBoundaryLine : ImageView → Option ℕ → List ℕ → Type 0
IsBoundaryLine image None text = text ≡ []
IsBoundaryLine image (Some at) text = (instruction : List ℕ) × IsInstruction image at instruction × (text ≡ reached_line at instruction)

-- a call after another that has put a text puts one of these texts after it
abbrev pub PutsOneAfter : {E : Type 0} → (List ℕ → Type 0) → Result Unit E → Option (List ℕ) → Result Unit E → Option (List ℕ) → Type 0
PutsOneAfter IsOne said old result new =
    (first : Option (List ℕ)) (text : List ℕ) → Puts first text said old → (one : List ℕ) × IsOne one × Puts first (text ++ one) result new

-- a word's label and parts make this text
abbrev pub ShowsWord : MalView → List ℕ → ℕ → (List ℕ → List ℕ → List ℕ) → List ℕ → Type 0
ShowsWord program addresses mpc text_of text =
    (label parts : List ℕ) × IsWord program addresses mpc label parts × (text ≡ text_of label parts)

-- what a trace is of: a microprogram at its addresses, the image that it runs, and whether the buses are asked for
pub record Traced : Type 0 where
  pub program : MalView
  pub addresses : List ℕ
  pub image : ImageView
  pub buses : Bool

-- the lines of a cycle
pub record AreLinesOf (t : Traced) (c : Cycle) (text : List ℕ) : Type 0 where
  pub label : List ℕ
  pub parts : List ℕ
  pub word : IsWord t.program t.addresses c.mpc label parts
  pub reached : List ℕ
  pub boundary : IsBoundaryLine t.image c.boundary reached
  pub is : text ≡ cycle_line c label parts ++ state_lines t.buses c ++ reached
