-- The first number, and the first two numbers, that pass a test.
use Rattle.std.specs.Prelude.{◌≡◌, ◌<◌, ℕ, Bool, true, false, List, Option, MatchOption}
use Rattle.std.specs.List.{range_with_len}

-- the numbers below n, in order
unfoldable pub below : ℕ → List ℕ
below n = range_with_len 0 n

-- no number below n passes
abbrev pub Never : (ℕ → Bool) → ℕ → Type 0
Never test n = (s : ℕ) → s < n → test s ≡ false

-- s is the lowest number below n that passes
pub record IsFirst (test : ℕ → Bool) (n s : ℕ) : Type 0 where
  pub inside : s < n
  pub passes : test s ≡ true
  pub lowest : Never test s

-- the lowest number below n that passes is found, or none is and none passes
abbrev pub FindsFirst : (ℕ → Bool) → ℕ → Option ℕ → Type 0
FindsFirst test n found = MatchOption found (Never test n) (IsFirst test n)

-- no number from s + 1 up to n passes with s
abbrev pub NeverWith : (ℕ → ℕ → Bool) → ℕ → ℕ → Type 0
NeverWith test n s = (t : ℕ) → s < t → t < n → test s t ≡ false

-- t is the lowest number after s that passes with it
pub record IsFirstWith (test : ℕ → ℕ → Bool) (n s t : ℕ) : Type 0 where
  pub ordered : s < t
  pub inside : t < n
  pub passes : test s t ≡ true
  pub lowest : NeverWith test t s

abbrev pub FindsFirstWith : (ℕ → ℕ → Bool) → ℕ → ℕ → Option ℕ → Type 0
FindsFirstWith test n s found = MatchOption found (NeverWith test n s) (IsFirstWith test n s)

-- no two numbers below n pass
abbrev pub NeverTwo : (ℕ → ℕ → Bool) → ℕ → Type 0
NeverTwo test n = (s : ℕ) → NeverWith test n s

-- s is the lowest number that passes with a later one, and t the lowest such later one
pub record IsFirstTwo (test : ℕ → ℕ → Bool) (n s t : ℕ) : Type 0 where
  pub first : IsFirstWith test n s t
  pub lowest : (u : ℕ) → u < s → NeverWith test n u

abbrev pub FindsFirstTwo : (ℕ → ℕ → Bool) → ℕ → Option (ℕ × ℕ) → Type 0
FindsFirstTwo test n found = MatchOption found (NeverTwo test n) (λ x. IsFirstTwo test n x.0 x.1)
