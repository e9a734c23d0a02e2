-- How a text is read: the tokens of each line, what they say after the lines before it, and what that adds; then the whole. `Agrees` states
-- that this is right, and `IsReadAsSpelled` follows from it.
use Rattle.std.specs.Prelude.{◌≡◌, ◌↔◌, ℕ, ◌+◌, List, [], ◌∷◌, length, Option, Some, None, Result, Ok, Err}
use Rattle.source_text.specs.Content.{contents}
use Rattle.source_text.specs.Tokens.{Spells}
use Rattle.source_text.specs.Text.{Grammar, IsRefused, LineRefusals, SayAll, SpellsProgram, AtMostOneProgram, AtMostOneRefusal, NeverBoth}
use Rattle.source_text.specs.Walk.{Leads, StopsAt}

pub record Parser (T F C P E S : Type 0) : Type 1 where
  pub tokens : List ℕ → Option (List T)
  -- what tokens say after lines that left this state
  pub said : S → List T → Result C F
  -- after such lines a line may say this
  pub Stands : S → C → Type 0
  -- the state after line `k`, which says this; or its refusal
  pub add : ℕ → S → C → Result S E
  -- the program of the state after all lines, or the refusal of all lines together
  pub whole : S → Result P E

module _ {T F C P E S : Type 0} (refusals : LineRefusals F E) (X : Parser T F C P E S) where
  abbrev pub add_said : ℕ → S → Result C F → Result S E
  add_said k s (Ok c) = X.add k s c
  add_said k s (Err fault) = Err (refusals.at_line k fault)

  abbrev pub add_read : ℕ → S → Option (List T) → Result S E
  add_read k s None = Err (refusals.bad_token k)
  add_read k s (Some ts) = add_said k s (X.said s ts)

  -- the state after line `k`, from the state of the lines before it; or its refusal
  abbrev pub step : ℕ → S → List ℕ → Result S E
  step k s line = add_read k s (X.tokens line)

-- lines that say this, from line `k` on, lead from one state to the other
abbrev pub Makes : {T F C P E S : Type 0} → Parser T F C P E S → ℕ → S → List C → S → Type 0
Makes X k s [] t = s ≡ t
Makes {T} {F} {C} {P} {E} {S} X k s (c ∷ cs) t = (u : S) × X.Stands s c × (X.add k s c ≡ Ok u) × Makes X (k + 1) u cs t

-- what is spelled is read, and what is read is spelled
pub record Agrees {T F C P E S : Type 0} (G : Grammar T F C P E) (X : Parser T F C P E S) (start : S) : Type 0 where
  pub tokens : (line : List ℕ) (ts : List T) → (X.tokens line ≡ Some ts) ↔ Spells G.table line ts
  pub fit : (cs : List C) (s : S) → Makes X 1 start cs s → G.Fit cs
  pub made : (cs : List C) → G.Fit cs → (s : S) × Makes X 1 start cs s
  pub said : (cs : List C) (s : S) → Makes X 1 start cs s → (ts : List T) (c : C) → (X.said s ts ≡ Ok c) ↔ (G.Says ts c × X.Stands s c)
  pub fault : (cs : List C) (s : S) → Makes X 1 start cs s → (ts : List T) (f : F) → (X.said s ts ≡ Err f) ↔ G.HasFault cs ts f
  pub misfit : (cs : List C) (s : S) → Makes X 1 start cs s → (c : C) (e : E) →
      (X.Stands s c × (X.add (1 + length cs) s c ≡ Err e)) ↔ G.IsMisfit (1 + length cs) cs c e
  pub program : (ls : List (List ℕ)) (cs : List C) (s : S) → SayAll G ls cs → Makes X 1 start cs s → (p : P) → (X.whole s ≡ Ok p) ↔ G.IsProgramOf cs p
  pub refused : (ls : List (List ℕ)) (cs : List C) (s : S) → SayAll G ls cs → Makes X 1 start cs s → (e : E) → (X.whole s ≡ Err e) ↔ G.AreRefused cs e

-- a text says one thing, and what is read from it is what it says
pub record IsReadAsSpelled {T F C P E S : Type 0} (G : Grammar T F C P E) (X : Parser T F C P E S) (start : S) : Type 0 where
  pub one_program : AtMostOneProgram G
  pub one_refusal : AtMostOneRefusal G
  pub not_both : NeverBoth G
  -- a line is read as the tokens that it spells, and refused where it spells none
  pub read : (line : List ℕ) (ts : List T) → Spells G.table line ts → X.tokens line ≡ Some ts
  pub unspelled : (k : ℕ) (s : S) (line : List ℕ) → ((ts : List T) → Spells G.table line ts → ⊥) →
      step G.refusals X k s line ≡ Err (G.refusals.bad_token k)
  -- what the lines say, where none is refused
  pub says : (text : List ℕ) (s : S) → Leads (step G.refusals X) 1 start (contents text) s →
      (cs : List C) × SayAll G (contents text) cs × Makes X 1 start cs s
  -- the program, where all lines together are not refused either
  pub spelled : (text : List ℕ) (s : S) (p : P) → Leads (step G.refusals X) 1 start (contents text) s → X.whole s ≡ Ok p → SpellsProgram G text p
  -- else the first refusal
  pub ended : (text : List ℕ) (s : S) (e : E) → Leads (step G.refusals X) 1 start (contents text) s → X.whole s ≡ Err e → IsRefused G text e
  pub stopped : (text : List ℕ) (s : S) (e : E) → StopsAt (step G.refusals X) 1 start (contents text) e s → IsRefused G text e
