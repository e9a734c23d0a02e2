-- An environment, built number by number.
use Rattle.micro_terms.proofs.Common.{◌≡◌, ◌+◌, ◌-◌, [], ◌∷◌, ◌<◌, ◌≤◌, ◌==◌, ◌%◌, ◌/◌, ℕ, zero, suc, Bool, true, false, if◌then◌else◌, List, Some, length}
use Rattle.micro_terms.proofs.Common.{get_or, refl, sym, ap, ◌∙◌, arith, slice_get, slice_index, bit_and, drop, slice_get_within, get_or_from_slice_get}
use Rattle.micro_terms.proofs.Common.{and_le_l, half, signed_byte, value, Environment, Fits, IsNode, word_of_kind, Kind, Node, Free, Sum, Other, NamesKindBelow}
use Rattle.micro_terms.proofs.Common.{NamesBelow, AreOrdered, HasEnvironments}
use Rattle.console_port.specs.World.{World, byte_in, byte_of, next_byte}
use Rattle.micro_terms.specs.declared.node.Kind.TheVariants as kinds
use Rattle.micro_terms.proofs.Agreement.{Agree, values_agree}
use Rattle.micro_terms.proofs.Weights.{value_lt}

node_word : Environment → ℕ → Node → ℕ
node_word e x Free = x
node_word e x (Sum term) = value e.word term
node_word e x (Other kind) = word_of_kind e kind

-- a byte, a signed byte and half of a word are words
byte_lt : (words : List ℕ) (at : ℕ) → byte_in words at < 256
unfolding byte_in
byte_lt words at = omega arith

signed_lt : (x : ℕ) → x < 256 → signed_byte x < 4294967296
unfolding signed_byte
signed_lt x h = grind arith

piece_lt : (x at : ℕ) → byte_of x (at % 4) < 256
piece_lt x at = omega arith

quarter_lt : (x : ℕ) → x < 4294967296 → x / 4 < 4294967296
quarter_lt x h = omega arith

half_lt : (x : ℕ) → x < 4294967296 → half x < 4294967296
unfolding half
half_lt x h = grind arith

next_lt : (xs : List ℕ) → next_byte xs < 4294967296
next_lt [] = omega arith
next_lt (x ∷ xs) = omega arith

either_lt : (b : Bool) (x y : ℕ) → x < 4294967296 → y < 4294967296 → (if b then x else y) < 4294967296
either_lt true x y h k = h
either_lt false x y h k = k

module _ (start : World) (words_lt : (i : ℕ) → slice_index start.words i < 4294967296) where
  abbrev with_words : (ℕ → ℕ) → Environment
  with_words word = record { start = start; word = word }

  kind_lt : (word : ℕ → ℕ) → ((i : ℕ) → word i < 4294967296) → (k : Kind) → word_of_kind (with_words word) k < 4294967296
  kind_lt word h (kinds.And left right) = let l = and_le_l (word left) (word right) in let w = h left in omega (arith, l, w)
  kind_lt word h (kinds.Half x) = half_lt (word x) (h x)
  kind_lt word h (kinds.Word at) = words_lt (word at)
  kind_lt word h (kinds.Byte at) = let l = byte_lt start.words (word at) in omega (arith, l)
  kind_lt word h (kinds.SignedByte at) = signed_lt (byte_in start.words (word at)) (byte_lt start.words (word at))
  kind_lt word h (kinds.Input before) = next_lt (drop before start.untaken)
  kind_lt word h (kinds.Quarter x) = quarter_lt (word x) (h x)
  kind_lt word h (kinds.Piece x at) = let l = piece_lt (word x) (word at) in omega (arith, l)
  kind_lt word h (kinds.SignedPiece x at) = signed_lt (byte_of (word x) (word at % 4)) (piece_lt (word x) (word at))
  kind_lt word h (kinds.Choice left right same other) = either_lt (word left == word right) (word same) (word other) (h same) (h other)

  kind_same : (n : ℕ) (word word' : ℕ → ℕ) → Agree n word word' → (k : Kind) → NamesKindBelow n k → word_of_kind (with_words word) k ≡ word_of_kind (with_words word') k
  kind_same n word word' same (kinds.And left right) h = λ i. bit_and (same left h.0 i) (same right h.1 i)
  kind_same n word word' same (kinds.Half x) h = ap half (same x h)
  kind_same n word word' same (kinds.Word at) h = ap (λ (a : ℕ). slice_index start.words a) (same at h)
  kind_same n word word' same (kinds.Byte at) h = ap (λ (a : ℕ). byte_in start.words a) (same at h)
  kind_same n word word' same (kinds.SignedByte at) h = ap (λ (a : ℕ). signed_byte (byte_in start.words a)) (same at h)
  kind_same n word word' same (kinds.Input before) h = refl
  kind_same n word word' same (kinds.Quarter x) h = ap (λ (a : ℕ). a / 4) (same x h)
  kind_same n word word' same (kinds.Piece x at) h = λ i. byte_of (same x h.0 i) (same at h.1 i % 4)
  kind_same n word word' same (kinds.SignedPiece x at) h = λ i. signed_byte (byte_of (same x h.0 i) (same at h.1 i % 4))
  kind_same n word word' same (kinds.Choice left right one other) h = λ i. if same left h.0 i == same right h.1 i then same one h.2 i else same other h.3 i

  node_lt : (word : ℕ → ℕ) (x : ℕ) → ((i : ℕ) → word i < 4294967296) → x < 4294967296 → (node : Node) → node_word (with_words word) x node < 4294967296
  unfolding node_word
  node_lt word x h k Free = k
  node_lt word x h k (Sum term) = value_lt word term
  node_lt word x h k (Other kind) = kind_lt word h kind

  is_node : (n : ℕ) (word word' : ℕ → ℕ) (x y : ℕ) → Agree n word word' → (node : Node) → NamesBelow n node →
      y ≡ node_word (with_words word) x node → IsNode (with_words word') y node
  unfolding node_word
  is_node n word word' x y same Free h e = tt
  is_node n word word' x y same (Sum term) h e = e ∙ values_agree n word word' term h same
  is_node n word word' x y same (Other kind) h e = e ∙ kind_same n word word' same kind h

  module _ (free : ℕ → ℕ) (free_lt : (i : ℕ) → free i < 4294967296) (table : List Node) where
    built : ℕ → ℕ → ℕ
    built zero i = free i
    built (suc n) i = if i == n then node_word (with_words (built n)) (free n) (get_or table n Free) else built n i

    built_lt : (n i : ℕ) → built n i < 4294967296
    unfolding built
    built_lt zero i = free_lt i
    built_lt (suc n) i =
        either_lt (i == n) (node_word (with_words (built n)) (free n) (get_or table n Free)) (built n i)
        (node_lt (built n) (free n) (built_lt n) (free_lt n) (get_or table n Free)) (built_lt n i)

    off : (i n : ℕ) → i < n → (i == n) ≡ false
    off i n h = grind (arith, h)

    on : (n : ℕ) → (n == n) ≡ true
    on n = grind arith

    one_more : (n i : ℕ) → i < n → built (suc n) i ≡ built n i
    unfolding built
    one_more n i h = ap (λ (b : Bool). if b then node_word (with_words (built n)) (free n) (get_or table n Free) else built n i) (off i n h)

    here : (n : ℕ) → built (suc n) n ≡ node_word (with_words (built n)) (free n) (get_or table n Free)
    unfolding built
    here n = ap (λ (b : Bool). if b then node_word (with_words (built n)) (free n) (get_or table n Free) else built n n) (on n)

    later : (d n i : ℕ) → i < n → built (d + n) i ≡ built n i
    later zero n i h = let e : 0 + n ≡ n = omega arith in ap (λ (k : ℕ). built k i) e
    later (suc d) n i h =
        let e : suc d + n ≡ suc (d + n) = omega arith in
        ap (λ (k : ℕ). built k i) e ∙ (one_more (d + n) i (omega (arith, h)) ∙ later d n i h)

    abbrev all : ℕ → ℕ
    all i = built (length table) i

    agree : (n : ℕ) → n ≤ length table → Agree n (built n) all
    agree n h i k = let e : length table ≡ (length table - n) + n = omega (arith, h) in
        sym (ap (λ (m : ℕ). built m i) e ∙ later (length table - n) n i k)

    at_node : (i : ℕ) (node : Node) → slice_get table i ≡ Some node → all i ≡ node_word (with_words (built i)) (free i) node
    at_node i node is =
        let within : i < length table = slice_get_within table i node is in
        sym (agree (suc i) (omega (arith, within)) i (omega arith)) ∙ (here i
        ∙ ap (λ (x : Node). node_word (with_words (built i)) (free i) x) (get_or_from_slice_get table i node Free is))

    fits : AreOrdered table → Fits (with_words all) table
    fits ordered =
        record {
          words = λ i. built_lt (length table) i;
          nodes = λ i node is.
              let within : i < length table = slice_get_within table i node is in
              is_node i (built i) all (free i) (all i) (agree i (omega (arith, within))) node (ordered i node is) (at_node i node is);
        }

    free_words : (i : ℕ) → slice_get table i ≡ Some Free → all i ≡ free i
    unfolding node_word
    free_words i is = at_node i Free is

pub exist : HasEnvironments
exist = λ table start free ordered words_lt free_lt. (
  record { start = start; word = λ i. built start words_lt free free_lt table (length table) i },
  fits start words_lt free free_lt table ordered,
  record { starts = refl; free_words = free_words start words_lt free free_lt table },
)
