-- What a text says, in a language whose lines each say something: the program that its lines spell together, or the first refusal.
use Rattle.std.specs.Prelude.{◌≡◌, ◌⊎◌, ℕ, ◌+◌, List, [], ◌∷◌, ◌++◌, length, ⊤}
use Rattle.source_text.specs.Content.{contents}
use Rattle.source_text.specs.Table.{Table}
use Rattle.source_text.specs.Tokens.{Spells}

-- the refusals of a line on its own
pub record LineRefusals (F E : Type 0) : Type 0 where
  -- the refusal of line `k`, which spells no tokens
  pub bad_token : ℕ → E
  -- the refusal of line `k`, whose tokens have this fault
  pub at_line : ℕ → F → E

-- a language: its tokens, the faults of a line, what a line says, programs and refusals
pub record Grammar (T F C P E : Type 0) : Type 1 where
  pub table : Table T
  pub refusals : LineRefusals F E
  -- the tokens of a line say this
  pub Says : List T → C → Type 0
  -- after lines that say this, the tokens of a line have this fault
  pub HasFault : List C → List T → F → Type 0
  -- after lines that say this, line `k` may not say that, for this reason
  pub IsMisfit : ℕ → List C → C → E → Type 0
  -- the first lines of a text may say this
  pub Fit : List C → Type 0
  -- all lines of a text say this, and it is this program
  pub IsProgramOf : List C → P → Type 0
  -- all lines of a text say this, and are refused together
  pub AreRefused : List C → E → Type 0

module _ {T F C P E : Type 0} (G : Grammar T F C P E) where
  -- ---- what the lines say

  -- a line says this, by its tokens
  pub record SaysLine (line : List ℕ) (content : C) : Type 0 where
    pub sequence : List T
    pub spelled : Spells G.table line sequence
    pub means : G.Says sequence content

  -- the lines say these, one each
  abbrev pub SayAll : List (List ℕ) → List C → Type 0
  SayAll [] [] = ⊤
  SayAll (l ∷ ls) (c ∷ cs) = SaysLine l c × SayAll ls cs
  SayAll [] (c ∷ cs) = ⊥
  SayAll (l ∷ ls) [] = ⊥

  -- each line says something, and all together they are this program
  pub record SpellsProgram (text : List ℕ) (p : P) : Type 0 where
    pub content : List C
    pub say : SayAll (contents text) content
    pub fit : G.Fit content
    pub program : G.IsProgramOf content p

  -- ---- the first refusal

  -- after lines that say this, line `k` spells no tokens, its tokens have a fault, or what they say does not fit
  abbrev pub IsRefusedAfter : ℕ → List C → List ℕ → E → Type 0
  IsRefusedAfter k before line e = (((ts : List T) → Spells G.table line ts → ⊥) × (e ≡ G.refusals.bad_token k))
      ⊎ ((ts : List T) × Spells G.table line ts × (((fault : F) × G.HasFault before ts fault × (e ≡ G.refusals.at_line k fault))
      ⊎ ((c : C) × G.Says ts c × G.IsMisfit k before c e)))

  -- a line is refused, and none before it is
  pub record IsRefusedAtLine (text : List ℕ) (e : E) : Type 0 where
    pub front : List (List ℕ)
    pub line : List ℕ
    pub others : List (List ℕ)
    pub split : contents text ≡ front ++ line ∷ others
    pub before : List C
    pub say : SayAll front before
    pub fit : G.Fit before
    pub refused : IsRefusedAfter (1 + length front) before line e

  -- no line is refused, but all together are
  pub record IsRefusedAtEnd (text : List ℕ) (e : E) : Type 0 where
    pub content : List C
    pub say : SayAll (contents text) content
    pub fit : G.Fit content
    pub refused : G.AreRefused content e

  -- the first refusal of a text
  abbrev pub IsRefused : List ℕ → E → Type 0
  IsRefused text e = IsRefusedAtLine text e ⊎ IsRefusedAtEnd text e

  -- ---- what a text says is one thing

  -- a text spells at most one program
  abbrev pub AtMostOneProgram : Type 0
  AtMostOneProgram = (text : List ℕ) (p q : P) → SpellsProgram text p → SpellsProgram text q → p ≡ q

  -- a text has at most one first refusal
  abbrev pub AtMostOneRefusal : Type 0
  AtMostOneRefusal = (text : List ℕ) (e f : E) → IsRefused text e → IsRefused text f → e ≡ f

  -- no text spells a program and has a refusal
  abbrev pub NeverBoth : Type 0
  NeverBoth = (text : List ℕ) (p : P) (e : E) → SpellsProgram text p → IsRefused text e → ⊥
