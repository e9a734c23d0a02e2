-- Worked rows of the definitions, evaluated.
use Rattle.cli_rewind.proofs.Common.{◌≡◌, ℕ, true, Some, Ok, Err, refl, codes, hex_text, number_of, MicroRun, BadCommand, BadNumber, command_in, word_text}
use Rattle.cli_rewind.proofs.Common.{command_of, is_quit, Stand, back, kept}
use Rattle.cli_rewind.specs.declared.table.Verb.TheVariants as verbs

-- ---- how lines are read, over 65,536 memory words

micro_six : command_of 65536 (codes "micro 6") ≡ Ok (Some (record { verb = verbs.Micro; number = 6 }))
unfolding command_in number_of
micro_six = refl

back_once : command_of 65536 (codes "back") ≡ Ok (Some (record { verb = verbs.Back; number = 1 }))
unfolding command_in
back_once = refl

word_there : command_of 65536 (codes "word 0x8000") ≡ Ok (Some (record { verb = verbs.Word; number = 32768 }))
unfolding command_in number_of
word_there = refl

no_word_there : command_of 65536 (codes "word 0x10000") ≡ Err BadNumber
unfolding command_in number_of
no_word_there = refl

none_forward : command_of 65536 (codes "micro 0") ≡ Err BadNumber
unfolding command_in number_of
none_forward = refl

no_command : command_of 65536 (codes "step") ≡ Err BadCommand
unfolding command_in
no_command = refl

quits : is_quit 65536 (codes " quit") ≡ true
unfolding command_in
quits = refl

-- ---- back from a cursor at the board

module _ {State : Type 0} (r : MicroRun State) where
  abbrev at : ℕ → ℕ → Stand State
  at clocked cursor = record { start = r; clocked = clocked; cursor = cursor }

  -- one cycle of six
  five : back 4096 1 (at 6 6) ≡ at 6 5
  five = refl

  -- nine where five are kept: the history ends
  all_five : back 4096 9 (at 6 5) ≡ at 6 0
  all_five = refl

  -- three where two are kept
  two_kept : kept 2 (at 6 6) ≡ 2
  two_kept = refl

  only_two : back 2 3 (at 6 6) ≡ at 6 4
  only_two = refl

-- ---- a printed word

word_row : word_text 0x8000 0x48 ≡ codes "00008000 00000048\n"
unfolding hex_text
word_row = refl
