-- A line of an IJVM source: what its tokens spell at its place, and why they are refused.
use Rattle.std.specs.Prelude.{◌≡◌, ℕ, ℤ, List, Option, Some, None, Result, Ok, Err}
use Rattle.ijvm_tokens.specs.declared.token.Token.{Token}
use Rattle.ijvm_line.specs.declared.place.Place.{Place}
use Rattle.ijvm_line.specs.declared.statement.Statement.{Statement}
use Rattle.ijvm_line.specs.declared.form.Form.{Form}
use Rattle.ijvm_line.specs.declared.form.Form.TheVariants as forms
use Rattle.ijvm_line.specs.declared.content.Content.{Content}
use Rattle.ijvm_line.specs.declared.content.Content.TheVariants as contents
use Rattle.ijvm_line.specs.declared.line.LineFault.{LineFault}
use Rattle.ijvm_line.specs.declared.line.LineFault.TheVariants as faults
use Rattle.ijvm_line.specs.Forms.{IsForm}
use Rattle.ijvm_line.specs.Ranges.{instruction_of, made, word}

abbrev pub constant_content : List ℕ → Option ℤ → Result Content LineFault
constant_content name value = made (λ w. contents.Constant name w) (word value)

abbrev pub code_content : Option (List ℕ) → Option Statement → Result Content LineFault
code_content label None = Ok (contents.Code label None)
code_content label (Some statement) = made (λ i. contents.Code label (Some i)) (instruction_of statement)

-- what a line of this form says, or the refusal of its first number with one
abbrev pub content_of : Form → Result Content LineFault
content_of forms.Nothing = Ok contents.Nothing
content_of (forms.Mark mark) = Ok (contents.Mark mark)
content_of (forms.Method name) = Ok (contents.Method name)
content_of (forms.Constant name value) = constant_content name value
content_of (forms.Local name) = Ok (contents.Local name)
content_of (forms.Code label statement) = code_content label statement

-- the tokens have a form that says this
pub record SpellsLine (place : Place) (ts : List Token) (content : Content) : Type 0 where
  pub form : Form
  pub has : IsForm place ts form
  pub says : content_of form ≡ Ok content

-- the tokens have no form at the place, or a number of their form is refused
abbrev pub IsRefused : Place → List Token → LineFault → Type 0
IsRefused place ts faults.BadLine = (form : Form) → IsForm place ts form → ⊥
IsRefused place ts fault = (form : Form) × IsForm place ts form × (content_of form ≡ Err fault)
