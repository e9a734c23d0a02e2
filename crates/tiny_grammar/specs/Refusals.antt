-- Which token is refused first, and why: those before it begin a program, and with this one they do not, or it opens too many levels.
use Rattle.std.specs.Prelude.{◌≡◌, ◌≢◌, ℕ, ◌+◌, ◌-◌, ◌<◌, List, [], ◌∷◌, ◌++◌, map, ⊤}
use Rattle.tiny_draft.specs.Prelude.{Function}
use Rattle.tiny_grammar.specs.Common.{Kind, Token}
use Rattle.tiny_draft.specs.declared.token.Kind.TheVariants as kinds
use Rattle.tiny_draft.specs.declared.token.Sign.TheVariants as signs
use Rattle.tiny_grammar.specs.declared.refusal.Refusal.{Refusal}
use Rattle.tiny_grammar.specs.declared.refusal.Refusal.TheVariants as refusals
use Rattle.tiny_grammar.specs.Grammar.{SpellsProgram, kept, spell_functions}

-- with further tokens these are a program
abbrev pub Begins : List Token → Type 0
Begins ts = (rest : List Token) × (fs : List Function) × (map kept ts ++ rest ≡ spell_functions fs)

-- ---- levels

-- what a token does to the number of open parentheses, calls and blocks
pub data Turn : Type 0 where
  Stays : Turn
  Opens : Turn
  Closes : Turn

abbrev pub turn : Kind → Turn
turn (kinds.Of signs.Open) = Opens
turn (kinds.Of signs.Begin) = Opens
turn (kinds.Of signs.Close) = Closes
turn (kinds.Of signs.End) = Closes
turn _ = Stays

abbrev pub left_by : Turn → ℕ → ℕ
left_by Stays levels = levels
left_by Opens levels = levels - 1
left_by Closes levels = levels + 1

-- how many of these levels are left to open after these tokens
abbrev pub left : ℕ → List Token → ℕ
left levels [] = levels
left levels (t ∷ ts) = left (left_by (turn t.kind) levels) ts

abbrev pub MayTurn : Turn → ℕ → Type 0
MayTurn Opens levels = 0 < levels
MayTurn _ levels = ⊤

-- each token that opens a level finds one left
abbrev pub IsShallow : ℕ → List Token → Type 0
IsShallow levels [] = ⊤
IsShallow levels (t ∷ ts) = MayTurn (turn t.kind) levels × IsShallow (left_by (turn t.kind) levels) ts

-- ---- the first refusal

-- why this token is refused after those, with this many levels left
abbrev pub IsReason : ℕ → List Token → Token → Refusal → Type 0
IsReason levels front t (refusals.BadToken line) = (t.kind ≡ kinds.Bad) × (line ≡ t.line)
IsReason levels front t (refusals.BadNumber line) = (t.kind ≡ kinds.Unread) × (line ≡ t.line)
IsReason levels front t (refusals.BadSyntax line) = (t.kind ≢ kinds.Bad) × (t.kind ≢ kinds.Unread) × (Begins (front ++ t ∷ []) → ⊥) × (line ≡ t.line)
IsReason levels front t (refusals.TooDeep line) = Begins (front ++ t ∷ []) × (turn t.kind ≡ Opens) × (levels ≡ 0) × (line ≡ t.line)
IsReason levels front t _ = ⊥

-- one of the tokens is refused, and none before it
pub record IsRefusedAt (levels : ℕ) (ts : List Token) (e : Refusal) : Type 0 where
  pub front : List Token
  pub token : Token
  pub others : List Token
  pub split : ts ≡ front ++ token ∷ others
  pub before : Begins front
  pub shallow : IsShallow levels front
  pub reason : IsReason (left levels front) front token e

-- none of the tokens is refused, but they end inside the program
pub record IsCutShort (levels : ℕ) (ts : List Token) : Type 0 where
  pub begun : Begins ts
  pub shallow : IsShallow levels ts
  pub never : (fs : List Function) → SpellsProgram ts fs → ⊥

abbrev pub IsRefused : ℕ → List Token → Refusal → Type 0
IsRefused levels ts refusals.Unfinished = IsCutShort levels ts
IsRefused levels ts e = IsRefusedAt levels ts e
