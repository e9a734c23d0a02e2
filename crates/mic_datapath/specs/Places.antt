-- The places of a datapath: the nine registers by the places of their bits in the field C, after them the fetched bytes, and one that holds 0.
use Rattle.std.specs.Prelude.{ℕ, if◌then◌else◌, List, slice_index}
use Rattle.micro_word.specs.Prelude.{names}
use Rattle.mic_datapath.specs.Registers.{NineRegisters}

abbrev pub registers_at : List ℕ → NineRegisters
registers_at places =
    record {
      mar = slice_index places 0;
      mdr = slice_index places 1;
      pc = slice_index places 2;
      sp = slice_index places 3;
      lv = slice_index places 4;
      cpp = slice_index places 5;
      tos = slice_index places 6;
      opc = slice_index places 7;
      h = slice_index places 8;
    }

-- what is at a place after a value was loaded into the places that a field C names
abbrev pub place_loaded : ℕ → ℕ → List ℕ → ℕ → ℕ
place_loaded c value places k = if names c k then value else slice_index places k
