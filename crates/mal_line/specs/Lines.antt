-- A line of the microassembly language: what its tokens spell on a machine, and why they are refused.
use Rattle.std.specs.Prelude.{◌≡◌, ◌≢◌, ℕ, IsTrue, Bool, true, false, List, [], ◌∷◌, ◌⊎◌, Option, Some, None, option_map}
use Rattle.mal_line.specs.Common.{list_any, Machine, Mic1, Mic2, Part, idle, is_part, Word, Token}
use Rattle.mal_tokens.specs.declared.word.Word.TheVariants as words
use Rattle.mal_tokens.specs.declared.sign.Sign.TheVariants as signs
use Rattle.mal_tokens.specs.declared.token.Token.TheVariants as tokens
use Rattle.mal_line.specs.declared.chain.Assignment.{Assignment}
use Rattle.mal_line.specs.declared.tree.Tree.{Tree}
use Rattle.mal_line.specs.declared.content.Parts.{Parts}
use Rattle.mal_line.specs.declared.content.Content.{Content}
use Rattle.mal_line.specs.declared.content.Content.TheVariants as contents
use Rattle.mal_line.specs.declared.line.Form.{Form}
use Rattle.mal_line.specs.declared.line.Form.TheVariants as forms
use Rattle.mal_line.specs.declared.line.LineFault.{LineFault}
use Rattle.mal_line.specs.declared.line.LineFault.TheVariants as faults
use Rattle.mal_line.specs.declared.next.Next.{Next}
use Rattle.mal_line.specs.declared.next.Next.TheVariants as nexts
use Rattle.mal_line.specs.Expressions.{part_with}
use Rattle.mal_line.specs.Statements.{AreTree}

-- ---- the forms of a line

-- the tokens follow the grammar in this form; an expression without a coding, and an OR with another number, stand in it as none
abbrev pub IsForm : Machine → List Token → Form → Type 0
IsForm machine ts forms.Nothing = ts ≡ []
IsForm machine ts (forms.Fix label address) = ts ≡ tokens.Sign signs.Label ∷ tokens.Name label ∷ tokens.Number address ∷ []
IsForm machine ts (forms.Fallback tree) = (rest : List Token) × (ts ≡ tokens.Sign signs.Default ∷ rest) × AreTree machine rest tree
IsForm machine ts (forms.Statement None tree) = (ts ≢ []) × AreTree machine ts tree
IsForm machine ts (forms.Statement (Some label) tree) =
    (rest : List Token) × ((ts ≡ tokens.Name label ∷ rest) ⊎ (ts ≡ tokens.Name label ∷ tokens.Sign signs.Colon ∷ rest)) × AreTree machine rest tree

-- ---- what a line of a form says

-- a statement without an assignment computes nothing
abbrev pub part_by : Option Assignment → Option Part
part_by None = Some idle
part_by (Some a) = option_map (λ o. part_with o a.dests) a.operation

abbrev pub with_access : Tree → Part → Part
with_access tree p = record p { mem = tree.mem; fetch = tree.fetch }

abbrev pub part_of : Tree → Option Part
part_of tree = option_map (with_access tree) (part_by tree.assignment)

abbrev pub next_by_jump : Option (Option (Next (List ℕ))) → Option (Next (List ℕ))
next_by_jump None = Some nexts.Following
next_by_jump (Some j) = j

abbrev pub parts_by : Option Part → Option (Next (List ℕ)) → Option Parts
parts_by (Some part) (Some next) = Some (record { part = part; next = next })
parts_by _ _ = None

abbrev pub parts_of : Tree → Option Parts
parts_of tree = parts_by (part_of tree) (next_by_jump tree.next)

-- what it says, where each expression and each OR has a coding
abbrev pub content_of : Form → Option Content
content_of forms.Nothing = Some contents.Nothing
content_of (forms.Fix label address) = Some (contents.Fix label address)
content_of (forms.Fallback tree) = option_map (λ p. contents.Fallback p) (parts_of tree)
content_of (forms.Statement label tree) = option_map (λ p. contents.Statement label p) (parts_of tree)

-- ---- words of the other machine

abbrev pub is_foreign_word : Machine → Word → Bool
is_foreign_word Mic1 words.Mbr1 = true
is_foreign_word Mic1 words.Mbr1u = true
is_foreign_word Mic1 words.Mbr2 = true
is_foreign_word Mic1 words.Mbr2u = true
is_foreign_word Mic2 words.Mbr = true
is_foreign_word Mic2 words.Mbru = true
is_foreign_word Mic2 words.Fetch = true
is_foreign_word machine word = false

abbrev pub is_foreign : Machine → Token → Bool
is_foreign machine (tokens.Word w) = is_foreign_word machine w
is_foreign machine _ = false

abbrev pub names_foreign : Machine → List Token → Bool
names_foreign machine ts = list_any (is_foreign machine) ts

-- ---- what a line spells, and its refusals

-- the tokens have a form that says this, and no word of the other machine
pub record SpellsLine (machine : Machine) (ts : List Token) (content : Content) : Type 0 where
  pub form : Form
  pub has : IsForm machine ts form
  pub own : names_foreign machine ts ≡ false
  pub says : content_of form ≡ Some content

-- each refusal, in the order in which they are looked for
abbrev pub IsRefused : Machine → List Token → LineFault → Type 0
IsRefused machine ts faults.BadStatement = (form : Form) → IsForm machine ts form → ⊥
IsRefused machine ts faults.WrongMachine = (form : Form) × IsForm machine ts form × (names_foreign machine ts ≡ true)
IsRefused machine ts faults.NoSuchOperation = (form : Form) × IsForm machine ts form × (names_foreign machine ts ≡ false) × (content_of form ≡ None)

-- a statement that the line says stands in a word of the machine
abbrev pub HasPart : Machine → Content → Type 0
HasPart machine contents.Nothing = Unit {0}
HasPart machine (contents.Fix label address) = Unit {0}
HasPart machine (contents.Fallback parts) = IsTrue (is_part machine parts.part)
HasPart machine (contents.Statement label parts) = IsTrue (is_part machine parts.part)
