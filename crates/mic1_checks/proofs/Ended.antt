-- A path that has ended with the world as it was.
use Rattle.mic1_checks.proofs.Common.{◌≡◌, ◌≢◌, ◌==◌, ◌++◌, ℕ, false, List, [], ◌∷◌, length, refl, ap, ◌∙◌, arith, drop, Environment, Path, trail_of, given_by}
use Rattle.mic1_checks.proofs.Common.{world_of, written_by, HasEnded}

none_in : {X : Type 0} (xs : List X) → length xs ≡ 0 → xs ≡ []
none_in [] h = refl
none_in (x ∷ xs) h = absurd (omega (arith, h))

nothing_given : (xs : List ℕ) → xs ++ [] ≡ xs
nothing_given [] = refl
nothing_given (x ∷ xs) = ap (λ (ys : List ℕ). x ∷ ys) (nothing_given xs)

pub unchanged : (e : Environment) (p : Path) (mpc : ℕ) → HasEnded p mpc → world_of e.word e.start (trail_of p) ≡ e.start
unchanged e p mpc h =
    (λ i. record {
      words = written_by e.word (none_in p.writes.items h.writes i) e.start.words;
      untaken = drop (h.taken i) e.start.untaken;
      given = e.start.given ++ given_by e.word (none_in p.given.items h.given i);
    })
    ∙ (λ i. record e.start { given = nothing_given e.start.given i })

-- an end is no boundary
pub at_end : (at mpc entry : ℕ) → at ≡ mpc → mpc ≢ entry → (at == entry) ≡ false
at_end at mpc entry e h = grind (arith, e, h)
