-- What a command asks for by the matches of a parse is what it asks for by the entries of its words.
use Rattle.cli_words.proofs.Common.{◌≡◌, ◌∙◌, ◌≤◌, ◌-◌, ap, arith, refl, sym, List, [], ◌∷◌, length, map, Option, Some, None, Ok, String, codes, drop}
use Rattle.cli_words.proofs.Common.{string_bytes, take, unwrap_or, take_rest, first_value, found_of, ArgMatches, CommandName}
use Rattle.std.proofs.Common.{slice_index_or}
use Rattle.cli_words.specs.declared.table.CommandName.TheVariants as command
use Rattle.cli_words.specs.Prelude.{Entry, Text, reads, text_in, form_for, name_for, HoldsGiven, TakesAs, bytes_of, asked_by, asked_of, is_true, request_of}

-- a flag that is not given reads as one that is `false`
same_flag : (given : Option Text) → is_true (Some (unwrap_or given (codes "false"))) ≡ is_true given
same_flag None = refl
same_flag (Some text) = refl

module _ (given : List Entry) (m : ArgMatches) where
  abbrev AskAlike : CommandName → Type 0
  AskAlike name = asked_by name (first_value (found_of m)) ≡ asked_of name given

  pub asks_alike : (name : CommandName) → HoldsGiven (form_for name) given m → AskAlike name
  asks_alike command.Trace h =
      rw (
        h.texts (codes "FILE") refl,
        h.texts (codes "TARGET") refl,
        h.texts (codes "SEED") refl,
        h.texts (codes "SIZE") refl,
        h.texts (codes "LINES") refl,
        h.texts (codes "machine") refl,
        h.texts (codes "bound") refl,
        h.texts (codes "micro") refl,
        h.texts (codes "input") refl,
        h.texts (codes "depth") refl,
        h.texts (codes "map") refl,
        h.flags (codes "buses") refl,
        same_flag (text_in (codes "buses") given),
      ) refl
  asks_alike _ h =
      rw (
        h.texts (codes "FILE") refl,
        h.texts (codes "TARGET") refl,
        h.texts (codes "SEED") refl,
        h.texts (codes "SIZE") refl,
        h.texts (codes "LINES") refl,
        h.texts (codes "machine") refl,
        h.texts (codes "bound") refl,
        h.texts (codes "micro") refl,
        h.texts (codes "input") refl,
        h.texts (codes "depth") refl,
        h.texts (codes "map") refl,
        h.texts (codes "buses") refl,
      ) refl

-- the words are the text of the first, and the texts of those after it
words_are : {Z : Type 0} (words : List (String Z)) (first : String Z) (text : Text) → 1 ≤ length words → first ≡ slice_index_or words 0 first →
    text ≡ string_bytes first → map string_bytes words ≡ text ∷ bytes_of (take (length words - 1) (drop 1 words))
words_are [] first text some is spelled = absurd (omega (arith, some))
words_are (word ∷ rest) first text some is spelled =
    rw (take_rest (word ∷ rest) 1) (ap (λ (t : Text). t ∷ map string_bytes rest) (ap string_bytes (sym is) ∙ sym spelled))

-- what the words of a command that is named ask for, where those after its name are taken
pub words_ask : {Z : Type 0} (words : List (String Z)) (first : String Z) (text : Text) (name : CommandName) (m : ArgMatches) → 1 ≤ length words →
    first ≡ slice_index_or words 0 first → text ≡ string_bytes first → name_for text ≡ Some name →
    TakesAs (form_for name) (reads (form_for name) (bytes_of (take (length words - 1) (drop 1 words)))) (Ok m) →
    request_of (map string_bytes words) ≡ asked_by name (first_value (found_of m))
words_ask words first text name m some is spelled named taken =
    rw (words_are words first text some is spelled, named, taken.1) (sym (asks_alike taken.0 m name taken.2))
