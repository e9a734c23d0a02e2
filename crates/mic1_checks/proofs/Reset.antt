-- A reset, and that the first cycle after it is that of a machine which has been clocked.
use Rattle.mic1_checks.proofs.Common.{◌≡◌, ◌+◌, ◌-◌, ◌<◌, ℕ, zero, suc, Bool, true, List, Option, [], ◌∷◌, refl, sym, ap, ◌∙◌, subst, arith, slice_index}
use Rattle.mic1_checks.proofs.Common.{All-cons, All-nil, signed_byte, World, State, VerifiedView, Micro, mic1_meaning, driven, initial, step_of_word, Origin}
use Rattle.mic1_checks.proofs.Common.{map, first, Loads, Moment, pass, Moves, reset_moment, Byte, Symbols, micro_of, word_in, HasSigns, IsSignedIn, IsReset}
use Rattle.mic1_checks.proofs.Common.{HasWords, Environment}
use Rattle.mic1_cycles.specs.Prelude.{byte_in}
use Rattle.mic1_checks.proofs.KeptWords.{IsWord, in_front}

-- whether a machine has been clocked before makes no difference to its cycles
abbrev pub with_clocked : Bool → Moment Micro → Moment Micro
with_clocked b q = record q { state = record q.state { clocked = b } }

pub same_pass : (words : List ℕ) (n : ℕ) (q : Moment Micro) (b b' : Bool) →
    pass mic1_meaning words n (with_clocked b q) ≡ pass mic1_meaning words n (with_clocked b' q)
unfolding step_of_word driven
same_pass words zero q b b' = refl
same_pass words (suc n) q b b' = refl

abbrev pub moves_alike : (words : List ℕ) (IsAt : State → Micro → World → Type 0) (before : List ℕ) (q : Moment Micro) (b b' : Bool) (spent : ℕ) (to : State) →
    Moves mic1_meaning words IsAt before (with_clocked b q) spent to → Moves mic1_meaning words IsAt before (with_clocked b' q) spent to
moves_alike words IsAt before q b b' spent to h =
    record {
      n = h.n;
      spent_is = h.spent_is;
      short = h.short;
      begins = record { no_halt = h.begins.no_halt; no_err = h.begins.no_err };
      there = h.there;
      passes = same_pass words h.n q b' b ∙ h.passes;
      stands = h.stands;
    }

module _ (v : VerifiedView) (o : Origin) (input : List ℕ) (loads : Loads v o) where
  -- the SP of a reset
  abbrev pub first_sp : ℕ
  first_sp = 0x8000 + v.main_locals - 1

  pub first_sp_is_word : first_sp < 4294967296
  first_sp_is_word =
      let stands = first v o input first_sp 0 loads (omega arith) in
      omega (arith, stands.sp_is, stands.fits, (map v o loads).near)

  pub reset_has_words : ((k : ℕ) → slice_index o.words k < 4294967296) → (entry : ℕ) →
      HasWords (reset_moment mic1_meaning entry v.main_locals o input).state (reset_moment mic1_meaning entry v.main_locals o input).world
  unfolding signed_byte
  reset_has_words words entry =
      record {
        registers =
            in_front (λ k. 0) (λ k. omega arith) (0 ∷ 0 ∷ []) (0xFFFFFFFF ∷ first_sp ∷ 0x8000 ∷ 0 ∷ 0 ∷ 0 ∷ 0 ∷ 0 ∷ 0 ∷ [])
            (All-cons IsWord 0xFFFFFFFF (first_sp ∷ 0x8000 ∷ 0 ∷ 0 ∷ 0 ∷ 0 ∷ 0 ∷ 0 ∷ []) (omega arith)
            (All-cons IsWord first_sp (0x8000 ∷ 0 ∷ 0 ∷ 0 ∷ 0 ∷ 0 ∷ 0 ∷ []) first_sp_is_word
            (All-cons IsWord 0x8000 (0 ∷ 0 ∷ 0 ∷ 0 ∷ 0 ∷ 0 ∷ []) (omega arith)
            (in_front (λ k. 0) (λ k. omega arith) (0 ∷ 0 ∷ 0 ∷ 0 ∷ 0 ∷ 0 ∷ []) [] (All-nil IsWord)))));
        memory = words;
      }

-- the symbols of a reset stand for a machine that was reset
pub stand_reset : (e : Environment) (x : Symbols) (entry sp first : ℕ) → IsReset e x → e.word 3 ≡ sp →
    micro_of e.word entry true (record x { mpc = entry }) ≡ record (initial (record { entry = entry; sp = sp; first = first })) { clocked = true }
stand_reset e x entry sp first is there =
    λ i. record {
      mar = is.mar i;
      mdr = is.mdr i;
      pc = is.pc i;
      sp = (ap e.word is.sp ∙ there) i;
      lv = is.lv i;
      cpp = is.cpp i;
      tos = is.tos i;
      opc = is.opc i;
      h = is.h i;
      mbr = is.plain i;
      mpc = entry;
      word = ap (word_in e.word) is.word i;
      byte = ap (byte_in e.word) is.byte i;
      entry = entry;
      clocked = true;
    }

pub reset_signs : (e : Environment) (x : Symbols) → IsReset e x → HasSigns e.word x
unfolding signed_byte
reset_signs e x is =
    record {
      mbr = ap signed_byte is.plain ∙ sym is.signed;
      byte = subst (λ (b : Option Byte). IsSignedIn e.word b) (sym is.byte) tt;
    }
