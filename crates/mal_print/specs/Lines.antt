-- What the lines of a canonical text say.
use Rattle.std.specs.Prelude.{◌≡◌, ℕ, true, List, ◌<◌, Option, IfSome, IsTrue, pos}
use Rattle.std.specs.List.{list_all}
use Rattle.mic_words.specs.declared.machine.Machine.{Machine}
use Rattle.micro_word.specs.Prelude.{is_part}
use Rattle.mal_tokens.specs.declared.token.Token.{Token}
use Rattle.mal_tokens.specs.Prelude.{IsLabelText}
use Rattle.mal_tokens.specs.Tokens as tokens
use Rattle.mal_line.specs.declared.content.Parts.{Parts}
use Rattle.mal_line.specs.declared.content.Content.{Content}
use Rattle.mal_line.specs.declared.content.Content.TheVariants as contents
use Rattle.mal_line.specs.Lines as lines
use Rattle.mal_print.specs.Printed.{printed}
use Rattle.mal_print.specs.StatementText.{HasLabels, fallback, fix, is_plain, labelled, statement}

-- the text is one line without a comment, and spells this on the machine
pub record IsLineOf (machine : Machine) (line : List ℕ) (content : Content) : Type 0 where
  pub sequence : List Token
  pub plain : list_all is_plain line ≡ true
  pub spelled : tokens.SpellsTokens line sequence
  pub means : lines.SpellsLine machine sequence content

-- ---- a canonical line spells what it was printed from

abbrev pub StatementsAreReadBack : Type 0
StatementsAreReadBack = (machine : Machine) (label : Option (List ℕ)) (parts : Parts) →
    IsTrue (is_part machine parts.part) → IfSome label IsLabelText → HasLabels parts.next →
    IsLineOf machine (printed (statement machine label parts.part (labelled parts.next))) (contents.Statement label parts)

-- the line of what unused words hold is read back
abbrev pub FallbacksAreReadBack : Type 0
FallbacksAreReadBack = (machine : Machine) (parts : Parts) → IsTrue (is_part machine parts.part) → HasLabels parts.next →
    IsLineOf machine (printed (fallback machine parts.part (labelled parts.next))) (contents.Fallback parts)

-- the line that fixes a label's address is read back
abbrev pub FixesAreReadBack : Type 0
FixesAreReadBack = (machine : Machine) (label : List ℕ) (address : ℕ) → IsLabelText label → address < 512 →
    IsLineOf machine (printed (fix label address)) (contents.Fix label (pos address))
