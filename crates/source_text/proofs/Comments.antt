-- Looking for a comment, place by place.
use Rattle.source_text.proofs.Common.{◌≡◌, ℕ, zero, suc, ◌+◌, ◌-◌, ◌<◌, ◌≤◌, false, List, [], ◌∷◌, ◌++◌, take, drop, length, refl, ap, ◌∙◌, sym, arith}
use Rattle.source_text.proofs.Common.{take_rest, without_comment, begins_comment}

-- no comment begins before this place
abbrev pub IsPassed : List ℕ → ℕ → Type 0
IsPassed line at = without_comment line ≡ take at line ++ without_comment (drop at line)

pub pass : (line : List ℕ) (at : ℕ) → at < length line → begins_comment (take (length line - at) (drop at line)) ≡ false → IsPassed line at → IsPassed line (at + 1)
pass line at lt h so_far = so_far ∙ on line at lt (ap begins_comment (sym (take_rest line at)) ∙ h)
  where
    on : (line : List ℕ) (at : ℕ) → at < length line → begins_comment (drop at line) ≡ false → take at line ++ without_comment (drop at line) ≡ take (at + 1) line ++ without_comment (drop (at + 1) line)
    on [] at lt h = absurd (omega arith)
    on (b ∷ rest) zero lt h = rw h refl
    on (b ∷ rest) (suc at) lt h = let k : suc at + 1 ≡ suc (at + 1) = omega arith in rw k (ap (λ r. b ∷ r) (on rest at (omega arith) h))

pub whole : (line : List ℕ) (at : ℕ) → length line ≤ at → IsPassed line at → line ≡ without_comment line
whole line at le so_far = sym (so_far ∙ all line at le)
  where
    all : (line : List ℕ) (at : ℕ) → length line ≤ at → take at line ++ without_comment (drop at line) ≡ line
    all [] zero le = refl
    all [] (suc at) le = refl
    all (b ∷ rest) zero le = absurd (omega arith)
    all (b ∷ rest) (suc at) le = ap (λ r. b ∷ r) (all rest at (omega arith))
