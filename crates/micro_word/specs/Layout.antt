-- The fields of a microinstruction's word, as chapter 4 of the book draws them, the most significant first.
--
--         Addr  JAM  shift  gates   C   mem  FETCH   A   B
--   Mic-1   9    3     2      6     9    2     1         4     36 bits
--   Mic-2   9    3     2      6     9    2           4   4     39 bits
--
--   JAM    JMPC JAMN JAMZ
--   shift  SLL8 SRA1
--   gates  F0 F1 ENA ENB INVA INC
--   C      H OPC TOS CPP LV SP PC MDR MAR, as Destinations has them bit by bit
--   mem    WRITE READ
use Rattle.std.specs.Prelude.{ℕ, ◌+◌, ◌*◌, ◌/◌, ◌%◌, ◌^◌}
use Rattle.mic_words.specs.declared.machine.Machine.{Machine}
use Rattle.mic_words.specs.declared.machine.Machine.TheVariants.{Mic1, Mic2}
use Rattle.micro_word.specs.declared.layout.Fields.{Fields}

-- the word with these fields
abbrev pub word_with : Machine → Fields → ℕ
word_with Mic1 f =
    f.addr * 2 ^ 27 + f.jam * 2 ^ 24 + f.shift * 2 ^ 22 + f.gates * 2 ^ 16 + f.c * 2 ^ 7 + f.mem * 2 ^ 5 + f.fetch * 2 ^ 4 + f.b
word_with Mic2 f =
    f.addr * 2 ^ 30 + f.jam * 2 ^ 27 + f.shift * 2 ^ 25 + f.gates * 2 ^ 19 + f.c * 2 ^ 10 + f.mem * 2 ^ 8 + f.a * 2 ^ 4 + f.b

-- the fields of a word; a field that the machine's word does not have is 0
abbrev pub fields_of : Machine → ℕ → Fields
fields_of Mic1 word =
    record {
      addr = word / 2 ^ 27 % 512;
      jam = word / 2 ^ 24 % 8;
      shift = word / 2 ^ 22 % 4;
      gates = word / 2 ^ 16 % 64;
      c = word / 2 ^ 7 % 512;
      mem = word / 2 ^ 5 % 4;
      fetch = word / 2 ^ 4 % 2;
      a = 0;
      b = word % 16;
    }
fields_of Mic2 word =
    record {
      addr = word / 2 ^ 30 % 512;
      jam = word / 2 ^ 27 % 8;
      shift = word / 2 ^ 25 % 4;
      gates = word / 2 ^ 19 % 64;
      c = word / 2 ^ 10 % 512;
      mem = word / 2 ^ 8 % 4;
      fetch = 0;
      a = word / 2 ^ 4 % 16;
      b = word % 16;
    }
