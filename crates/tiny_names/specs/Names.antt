-- Names: which of them stand in a list, what a program's functions are called, and what statements declare.
use Rattle.std.specs.Prelude.{◌≡◌, ℕ, ◌+◌, ◌==◌, Bool, List, [], ◌∷◌, ◌++◌, length, Option, Some, None, if◌then◌else◌}
use Rattle.std.specs.List.{list_any, slice_index_or}
use Rattle.tiny_draft.specs.declared.tree.Word.{Word}
use Rattle.tiny_draft.specs.Prelude.{Function, Statement, Var, Assign, Calls, If, While, Return, Put, Halt, Else, no_else, else_block, Statements, no_statements, statement}
use Rattle.tiny_names.specs.declared.functions.Signature.{Signature}

abbrev pub has : List ℕ → ℕ → Bool
has names name = list_any (λ n. n == name) names

-- `main` is the first name of every text
abbrev pub is_main : ℕ → Bool
is_main name = name == 0

abbrev pub name_of : Word → ℕ
name_of w = w.name

-- ---- functions

-- the first function of this name, where the first of these has this place
abbrev pub called_from : ℕ → List Function → ℕ → Option Signature
called_from place [] name = None
called_from place (f ∷ fs) name = if f.name.name == name then Some (record { place = place; parameters = length f.parameters })
    else called_from (place + 1) fs name

abbrev pub called : List Function → ℕ → Option Signature
called fs name = called_from 0 fs name

-- what a table has at the number of a name
abbrev pub lookup : List (Option Signature) → ℕ → Option Signature
lookup table name = slice_index_or table name None

-- the new table has this signature at the number of this name, and otherwise what the old one has
abbrev pub PutsAt : List (Option Signature) → List (Option Signature) → ℕ → Signature → Type 0
PutsAt old new name signature = (other : ℕ) → lookup new other ≡ (if name == other then Some signature else lookup old other)

-- ---- variables

-- the names that these statements declare, in the order of the text
abbrev mutual
  pub names : Statement → List ℕ
  names (Var w e) = w.name ∷ []
  names (Assign w e) = []
  names (Calls w es) = []
  names (If l c b other) = all_names b ++ else_names other
  names (While l c b) = all_names b
  names (Return l e) = []
  names (Put e) = []
  names Halt = []

  pub else_names : Else → List ℕ
  else_names no_else = []
  else_names (else_block b) = all_names b

  pub all_names : Statements → List ℕ
  all_names no_statements = []
  all_names (statement s ss) = names s ++ all_names ss

-- the names that are seen after the statement and were not before
abbrev pub shows : Statement → List ℕ
shows (Var w e) = w.name ∷ []
shows _ = []
