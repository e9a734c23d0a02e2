-- Lemmas on the front of a list, such as a text, whose items pass a test.
use Rattle.std.proofs.Common.{◌≡◌, ℕ, suc, ◌+◌, Bool, true, false, List, [], ◌∷◌, ◌++◌, take, drop, length, refl, arith, cond}
use Rattle.std.specs.Prelude.{◌&&◌}
use Rattle.std.specs.List.{prefix_len, list_all}
use Rattle.std.proofs.lemmas.Bool.{and_parts}
use Rattle.source_text.specs.Runs.{begins_with, ends_with}

module _ {X : Type 0} (p : X → Bool) where
  pub run_all : (text rest : List X) → list_all p text ≡ true → begins_with p rest ≡ false → prefix_len p (text ++ rest) ≡ length text
  run_all [] [] h e = refl
  run_all [] (b ∷ rest) h e = rw e refl
  run_all (b ∷ text) rest h e = go (p b) h (λ k. run_all text rest k e)
    where
      go : (w : Bool) → (w && list_all p text) ≡ true → (list_all p text ≡ true → prefix_len p (text ++ rest) ≡ length text)
          → cond w (1 + prefix_len p (text ++ rest)) 0 ≡ suc (length text)
      go true h rec = let r = rec h in omega (arith, r)
      go false h rec = absurd (cc)

  pub run_passes : (rest : List X) → list_all p (take (prefix_len p rest) rest) ≡ true
  run_passes [] = refl
  run_passes (b ∷ rest) = go (p b) refl (run_passes rest)
    where
      go : (w : Bool) → p b ≡ w → list_all p (take (prefix_len p rest) rest) ≡ true
          → list_all p (take (cond w (1 + prefix_len p rest) 0) (b ∷ rest)) ≡ true
      go true h rec = let k : 1 + prefix_len p rest ≡ suc (prefix_len p rest) = omega arith in rw (k, h) rec
      go false h rec = refl

  pub run_stops : (rest : List X) → begins_with p (drop (prefix_len p rest) rest) ≡ false
  run_stops [] = refl
  run_stops (b ∷ rest) = go (p b) refl (run_stops rest)
    where
      go : (w : Bool) → p b ≡ w → begins_with p (drop (prefix_len p rest) rest) ≡ false
          → begins_with p (drop (cond w (1 + prefix_len p rest) 0) (b ∷ rest)) ≡ false
      go true h rec = let k : 1 + prefix_len p rest ≡ suc (prefix_len p rest) = omega arith in rw k rec
      go false h rec = h

module _ (p : ℕ → Bool) where
  pub ends_all : (b : ℕ) (text : List ℕ) → list_all p (b ∷ text) ≡ true → ends_with p (b ∷ text) ≡ true
  ends_all b [] h = (and_parts (p b) true h).0
  ends_all b (c ∷ text) h = ends_all c text (and_parts (p b) (list_all p (c ∷ text)) h).1
