-- Whose a shipped microprogram is, and what a sink has that got nothing.
use Rattle.cli_clocked.proofs.Common.{◌≡◌, ◌∙◌, ℕ, List, [], ◌∷◌, ◌++◌, take, Some, refl, ap, Machine, Mic1, Mic2, Cycle, PrintsOf, Profile, Silent}
use Rattle.cli_clocked.proofs.Common.{profile_after, Got, GotInPart, take-nil, append-nil, Option, None, option_map, MalView}
use Rattle.mal_shipped.specs.Prelude.{program1, program2, listed_program}

-- each shipped microprogram is its machine's
pub shipped_machine : (machine : Machine) (p : MalView) → p ≡ listed_program machine → p.machine ≡ machine
unfolding program1 program2
shipped_machine machine p e = ap (λ (q : MalView). q.machine) e ∙ of_machine machine
  where
    of_machine : (machine : Machine) → (listed_program machine).machine ≡ machine
    of_machine Mic1 = refl
    of_machine Mic2 = refl

-- nothing was printed of any cycle
pub silent_says : (p : Profile) (cs : List Cycle) (text : List ℕ) → PrintsOf profile_after Silent p cs text → text ≡ []
silent_says p [] text h = h
silent_says p (c ∷ cs) text h = h.4 ∙ (λ i. h.2 i ++ silent_says (profile_after p c) cs h.1 h.3 i)

-- a sink that got nothing is as it was
pub nothing_put : (old new : Option (List ℕ)) (text : List ℕ) → text ≡ [] → new ≡ option_map (λ held. held ++ text) old → new ≡ old
nothing_put None new text none put = put
nothing_put (Some held) new text none put = put ∙ ap (λ (t : List ℕ). Some (held ++ t)) none ∙ ap Some (append-nil held)

-- a sink that got a part of an empty text got nothing
pub nothing_put_of : (old new : Option (List ℕ)) (text : List ℕ) → text ≡ [] → GotInPart old text new → Got old [] new
nothing_put_of old new text none h =
    h.1 ∙ ap (λ (t : List ℕ). option_map (λ (held : List ℕ). held ++ t) old) (ap (take h.0) none ∙ take-nil h.0)
