-- Which numbers a table of constants has, and where the pool has them.
use Rattle.std.specs.Prelude.{◌≡◌, ℕ, ◌+◌, ◌==◌, List, [], ◌∷◌, ◌++◌, length, Option, Some, None, if◌then◌else◌}
use Rattle.std.specs.Ordering.{nat_cmp}
use Rattle.std.specs.BTreeMap.{get}
use Rattle.tiny_pool.specs.declared.constants.Constants.{Constants}
use Rattle.tiny_code.specs.Prelude.{once}

abbrev pub or_else : ℕ → Option ℕ → ℕ
or_else other None = other
or_else other (Some k) = k

-- the place of a number, where the first of these has this place
abbrev pub place_from : ℕ → List ℕ → ℕ → Option ℕ
place_from place [] n = None
place_from place (m ∷ ms) n = if m == n then Some place else place_from (place + 1) ms n

-- the constants are these numbers, each once, from this place on
pub record HasSeen (constants : Constants) (first : ℕ) (ns : List ℕ) : Type 0 where
  pub numbers : constants.numbers.items ≡ once ns
  pub end : constants.end ≡ first + length (once ns)
  pub places : (n : ℕ) → get nat_cmp constants.places n ≡ place_from first (once ns) n

-- after what was seen before, these numbers are seen
pub record Adds (old new : Constants) (ns : List ℕ) : Type 0 where
  pub seen : (first : ℕ) (before : List ℕ) → HasSeen old first before → HasSeen new first (before ++ ns)
