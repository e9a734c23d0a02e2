-- The value of a sum, where each number stands for a word.
use Rattle.std.specs.Prelude.{ℕ, ◌+◌, ◌*◌, List}
use Rattle.std.specs.List.{sum_by}
use Rattle.mic_words.specs.Arithmetic.{wrap}
use Rattle.micro_terms.specs.declared.part.Part.{Part}
use Rattle.micro_terms.specs.declared.term.Term.{Term}

-- the multiples added up, over the whole numbers
abbrev pub weight : (ℕ → ℕ) → List Part → ℕ
weight env parts = sum_by (λ p. p.coefficient * env p.number) parts

-- the word
unfoldable pub value : (ℕ → ℕ) → Term → ℕ
value env t = wrap (t.constant + weight env t.parts.items)
