-- What a text says: the program that it spells, or its first refusal. The grammar is looked at first, then the names, then whether there is a `main`.
use Rattle.std.specs.Prelude.{◌≡◌, ◌⊎◌, ℕ, List, [], length, max, Some}
use Rattle.std.specs.Str.Lines.{lines}
use Rattle.tiny_draft.specs.declared.token.Token.{Token}
use Rattle.tiny_draft.specs.Tree as draft
use Rattle.tiny_tree.specs.Prelude.{Program}
use Rattle.tiny_tokens.specs.Prelude.{HasTokens}
use Rattle.tiny_grammar.specs.Prelude.{SpellsProgram, IsShallow}
use Rattle.tiny_grammar.specs.Refusals as grammar
use Rattle.tiny_grammar.specs.declared.refusal.Refusal.{Refusal}
use Rattle.tiny_names.specs.Prelude.{all_faults, first, resolved}
use Rattle.tiny_names.specs.declared.fault.Fault.{Fault}
use Rattle.tiny_parser.specs.Errors.{fault_error, grammar_error}
use Rattle.tiny_parser.specs.declared.error.TinyError.{TinyError}

-- the number of a text's last line; 1 where it has no lines
abbrev pub last_line : List ℕ → ℕ
last_line text = max 1 (length (lines text))

-- the text's tokens spell these functions, with at most 64 parentheses, calls and blocks open at once
pub record IsWritten (text : List ℕ) (functions : List draft.Function) : Type 0 where
  pub tokens : List Token
  pub has : HasTokens text tokens
  pub spells : SpellsProgram tokens functions
  pub shallow : IsShallow 64 tokens

-- the text spells this program, in which each name is a position
pub record Spells (text : List ℕ) (p : Program) : Type 0 where
  pub written : List draft.Function
  pub is_written : IsWritten text written
  pub fits : all_faults written ≡ []
  pub is : p ≡ resolved written

-- one of the text's tokens, or its end, is refused
pub record IsUnwritten (text : List ℕ) (e : TinyError) : Type 0 where
  pub tokens : List Token
  pub has : HasTokens text tokens
  pub refusal : Refusal
  pub refused : grammar.IsRefused 64 tokens refusal
  pub is : e ≡ grammar_error (last_line text) refusal

-- the text is written, and this is the first fault of a name
pub record IsMisnamed (text : List ℕ) (e : TinyError) : Type 0 where
  pub written : List draft.Function
  pub is_written : IsWritten text written
  pub fault : Fault
  pub faulty : first (all_faults written) ≡ Some fault
  pub is : e ≡ fault_error fault

abbrev pub IsRefused : List ℕ → TinyError → Type 0
IsRefused text e = IsUnwritten text e ⊎ IsMisnamed text e
