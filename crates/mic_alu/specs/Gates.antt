-- The gates of the ALU (chapter 4): the word that they give for six control lines and two words.
use Rattle.std.specs.Prelude.{ℕ, ◌+◌, ◌/◌, ◌%◌, ◌==◌, Bool, if◌then◌else◌, bit_and, bit_or, bit_xor}
use Rattle.mic_words.specs.Prelude.{wrap, complement}
use Rattle.mic_alu.specs.declared.controls.Controls.{Controls}

-- what a side passes on
abbrev pub enabled : Bool → ℕ → ℕ
enabled on x = if on then x else 0

-- F0 and F1 choose among AND, OR, NOT b and the sum with INC
abbrev pub combined : Bool → Bool → Bool → ℕ → ℕ → ℕ
combined f0 f1 inc x y =
    if f0
    then (if f1 then wrap (x + y + enabled inc 1) else complement y)
    else (if f1 then bit_or x y else bit_and x y)

abbrev pub gates : Controls → ℕ → ℕ → ℕ
gates c a b = combined c.f0 c.f1 c.inc (bit_xor (enabled c.ena a) (enabled c.inva 0xFFFFFFFF)) (enabled c.enb b)

-- the lines of six bits, F0 F1 ENA ENB INVA INC
abbrev pub controls_of : ℕ → Controls
controls_of bits =
    record {
      f0 = bits / 32 % 2 == 1;
      f1 = bits / 16 % 2 == 1;
      ena = bits / 8 % 2 == 1;
      enb = bits / 4 % 2 == 1;
      inva = bits / 2 % 2 == 1;
      inc = bits % 2 == 1;
    }
