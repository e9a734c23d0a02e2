-- Words stay words.
use Rattle.mic1_checks.proofs.Common.{◌<◌, ℕ, zero, suc, List, [], ◌∷◌, Option, Some, None, sym, subst, arith, slice_index, slice_set, unwrap_or, All, All-cons}
use Rattle.mic1_checks.proofs.Common.{All-nil, signed_byte, Node, Environment, Fits, Path, Write, IsPath, word_in, written_by, moment, HasWords}

one : (words : List ℕ) (a v : ℕ) → v < 4294967296 → ((i : ℕ) → slice_index words i < 4294967296) → (i : ℕ) → slice_index (slice_set words a v) i < 4294967296
one [] a v h all i = all i
one (x ∷ xs) zero v h all zero = h
one (x ∷ xs) zero v h all (suc i) = all (suc i)
one (x ∷ xs) (suc a) v h all zero = all zero
one (x ∷ xs) (suc a) v h all (suc i) = one xs a v h (λ j. all (suc j)) i

kept : (word : ℕ → ℕ) → ((i : ℕ) → word i < 4294967296) → (ws : List Write) (words : List ℕ) →
    ((i : ℕ) → slice_index words i < 4294967296) → (i : ℕ) → slice_index (written_by word ws words) i < 4294967296
kept word h [] words all i = all i
kept word h (w ∷ ws) words all i = kept word h ws (slice_set words (word w.at) (word w.value)) (one words (word w.at) (word w.value) (h w.value) all) i

abbrev pub IsWord : ℕ → Type 0
IsWord x = x < 4294967296

-- the words of numbers, in front of others
abbrev pub words_before : (ℕ → ℕ) → List ℕ → List ℕ → List ℕ
words_before word [] ys = ys
words_before word (k ∷ ks) ys = word k ∷ words_before word ks ys

pub in_front : (word : ℕ → ℕ) → ((i : ℕ) → word i < 4294967296) → (ks ys : List ℕ) → All IsWord ys → All IsWord (words_before word ks ys)
in_front word h [] ys all = all
in_front word h (k ∷ ks) ys all = All-cons IsWord (word k) (words_before word ks ys) (h k) (in_front word h ks ys all)

under_way : (word : ℕ → ℕ) → ((i : ℕ) → word i < 4294967296) → (o : Option ℕ) → unwrap_or (word_in word o) 0 < 4294967296
under_way word h None = omega arith
under_way word h (Some n) = h n

-- what a path stands for has words, if the memory where it starts has
pub has_words : (e : Environment) (table : List Node) → Fits e table → ((i : ℕ) → slice_index e.start.words i < 4294967296) →
    (stalls entry : ℕ) (p : Path) → IsPath e p → HasWords (moment e stalls entry p).state (moment e stalls entry p).world
has_words e table fits words stalls entry p path =
    let s = p.symbols in
    record {
      registers =
          in_front e.word fits.words (s.mar ∷ s.mdr ∷ s.pc ∷ s.sp ∷ s.lv ∷ s.tos ∷ s.opc ∷ s.h ∷ s.mbr.plain ∷ [])
          (signed_byte (e.word s.mbr.plain) ∷ unwrap_or (word_in e.word s.word) 0 ∷ [])
          (All-cons IsWord (signed_byte (e.word s.mbr.plain)) (unwrap_or (word_in e.word s.word) 0 ∷ [])
          (subst IsWord (sym path.signs.mbr) (fits.words s.mbr.signed))
          (All-cons IsWord (unwrap_or (word_in e.word s.word) 0) [] (under_way e.word fits.words s.word) (All-nil IsWord)));
      memory = kept e.word fits.words p.writes.items e.start.words words;
    }
