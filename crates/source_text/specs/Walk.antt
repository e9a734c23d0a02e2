-- Reading a source line by line, up to the first refusal. Each line starts from the state that the lines before it left.
use Rattle.std.specs.Prelude.{◌≡◌, ℕ, ◌+◌, Bool, false, List, [], ◌∷◌, ◌++◌, length, Result, Ok, Err}
use Rattle.source_text.specs.Content.{contents}

-- the state after line `k`, from the state of the lines before it; or its refusal
abbrev pub Step : Type 0 → Type 0 → Type 0
Step S E = ℕ → S → List ℕ → Result S E

abbrev pub go_on : {S E : Type 0} → (S → Result S E) → Result S E → Result S E
go_on next (Ok s) = next s
go_on next (Err e) = Err e

-- the state after the lines from line `k` on, or the first refusal
unfoldable pub walk : {S E : Type 0} → Step S E → ℕ → S → List (List ℕ) → Result S E
walk step k s [] = Ok s
walk step k s (l ∷ ls) = go_on (λ t. walk step (k + 1) t ls) (step k s l)

-- the lines from line `k` on lead from one state to the other, and none is refused
abbrev pub Leads : {S E : Type 0} → Step S E → ℕ → S → List (List ℕ) → S → Type 0
Leads step k s [] t = s ≡ t
Leads {S} step k s (l ∷ ls) t = (u : S) × (step k s l ≡ Ok u) × Leads step (k + 1) u ls t

-- one of the lines is refused so, and those before it lead to the state
pub record StopsAt {S E : Type 0} (step : Step S E) (k : ℕ) (s : S) (ls : List (List ℕ)) (e : E) (t : S) : Type 0 where
  pub front : List (List ℕ)
  pub line : List ℕ
  pub others : List (List ℕ)
  pub split : ls ≡ front ++ line ∷ others
  pub leads : Leads step k s front t
  pub refused : step (k + length front) t line ≡ Err e

-- the outcome is this refusal, unless memory ran out
abbrev pub FailsBy : {A E : Type 0} → (E → Bool) → E → Result A E → Type 0
FailsBy is_memory e outcome = is_memory e ≡ false → outcome ≡ Err e

-- a refusal leaves the old state, unless memory ran out
abbrev pub StaysBy : {A E : Type 0} → (E → Bool) → E → A → A → Type 0
StaysBy is_memory e old new = is_memory e ≡ false → new ≡ old

-- a refusal is that of the text's first refused line, and leaves the state of the lines before it, unless memory ran out
abbrev pub StopsBy : {S E : Type 0} → (E → Bool) → Step S E → S → List ℕ → E → S → Type 0
StopsBy is_memory step old text e new = is_memory e ≡ false → StopsAt step 1 old (contents text) e new

-- one of the lines is refused so, and none before it
abbrev pub FirstRefused : {S E : Type 0} → Step S E → ℕ → S → List (List ℕ) → E → Type 0
FirstRefused {S} step k s ls e = (before : S) × StopsAt step k s ls e before
