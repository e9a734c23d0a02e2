-- When words lie in ranges, and a sum read over the whole numbers, where a coefficient of 2^31 and more takes away.
use Rattle.std.specs.Prelude.{ℕ, ◌+◌, ◌-◌, ◌*◌, ◌≤◌, ◌&&◌, Bool, true, false, if◌then◌else◌, nat_lt, List, Option, Some, slice_get, slice_index_or}
use Rattle.std.specs.List.{sum_by}
use Rattle.mic_words.specs.Arithmetic.{wrap}
use Rattle.micro_terms.specs.Meaning.{is_byte}
use Rattle.micro_terms.specs.declared.node.Node.{Node}
use Rattle.micro_terms.specs.declared.node.Node.TheVariants.{Other}
use Rattle.micro_terms.specs.declared.range.Range.{Range}
use Rattle.micro_terms.specs.declared.term.Term.{Term}

-- the word lies in the range
abbrev pub IsWithin : Range → ℕ → Type 0
IsWithin r word = (r.low ≤ word) × (word ≤ r.high)

-- the least or the greatest word of a number: any word past the end of the list
unfoldable pub end_of : List Range → Bool → ℕ → ℕ
end_of ranges greatest n =
    let r = slice_index_or ranges n (record { low = 0; high = 4294967295 }) in
    if greatest then r.high else r.low

-- each number's word lies in its range
abbrev pub IsIn : (ℕ → ℕ) → List Range → Type 0
IsIn env ranges = (n : ℕ) → (end_of ranges false n ≤ env n) × (env n ≤ end_of ranges true n)

abbrev pub is_byte_node : Option Node → Bool
is_byte_node (Some (Other kind)) = is_byte kind
is_byte_node _ = false

-- whether a number's node says that its word is a byte
abbrev pub is_byte_at : List Node → ℕ → Bool
is_byte_at table n = is_byte_node (slice_get table n)

-- the least or the greatest word of a number, by its range and by its node
unfoldable pub limit_of : List Node → List Range → Bool → ℕ → ℕ
limit_of table ranges greatest n = if greatest && is_byte_at table n then 255 else end_of ranges greatest n

-- each number's word lies between these
abbrev pub IsLimited : (ℕ → ℕ) → List Node → List Range → Type 0
IsLimited env table ranges = (n : ℕ) → (limit_of table ranges false n ≤ env n) × (env n ≤ limit_of table ranges true n)

-- what a coefficient adds, or takes away
unfoldable pub share : Bool → ℕ → ℕ
share added c = if nat_lt (wrap c) 2147483648 then (if added then wrap c else 0) else (if added then 0 else 4294967296 - wrap c)

-- what a sum adds, or takes away, in all
unfoldable pub side : Bool → (ℕ → ℕ) → Term → ℕ
side added env t = share added t.constant + sum_by (λ p. share added p.coefficient * env p.number) t.parts.items
