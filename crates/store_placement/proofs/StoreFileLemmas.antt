-- Store files and the words that they hold.
use Rattle.store_placement.proofs.Common.{◌≡◌, ◌≢◌, ℕ, ◌+◌, ◌*◌, ◌/◌, ◌%◌, ◌^◌, ◌<◌, ◌≤◌, true, false, cond, not, List, [], ◌∷◌, ◌++◌, Some, None, length, map}
use Rattle.store_placement.proofs.Common.{take, drop, set, replicate, suc, refl, sym, ap, subst, ◌∙◌, arith, slice_index, IsTrue, nat_eq, flat_map, starts_with}
use Rattle.store_placement.proofs.Common.{range_with_len, ltb-true, and_parts, drop_more, drop_all, ext_get_or, length-append, length-set, length-replicate}
use Rattle.store_placement.proofs.Common.{get_or-set_same, get_or-set_other, take-append-drop, below_more, same_text, length-map-range_with_len}
use Rattle.store_placement.proofs.Common.{get_or-map-range_with_len, Machine, Mic1, Mic2, is_canonical, ControlStore, IsStore, IsFirst, magic, word_bytes}
use Rattle.store_placement.proofs.Common.{store_file, machine_of, number_at, word_at, is_bad, IsReadFrom}

-- the bytes from k on are five and the rest
five_more : (bytes : List ℕ) (k : ℕ) → k + 5 ≤ length bytes →
    drop k bytes ≡ slice_index bytes k ∷ (slice_index bytes (k + 1) ∷ (slice_index bytes (k + 2) ∷ (slice_index bytes (k + 3) ∷ (slice_index bytes (k + 4) ∷ drop (k + 5) bytes))))
five_more bytes k h =
    let one = drop_more bytes k 0 (omega arith) in
    let two = drop_more bytes (k + 1) 0 (omega arith) in
    let three = drop_more bytes (k + 2) 0 (omega arith) in
    let four = drop_more bytes (k + 3) 0 (omega arith) in
    let five = drop_more bytes (k + 4) 0 (omega arith) in
    grind arith

-- five bytes are those of their number
bytes_again : (a b c d e : ℕ) → a < 256 → b < 256 → c < 256 → d < 256 → e < 256 →
    word_bytes (a * 2 ^ 32 + b * 2 ^ 24 + c * 2 ^ 16 + d * 2 ^ 8 + e) ≡ a ∷ (b ∷ (c ∷ (d ∷ (e ∷ []))))
bytes_again a b c d e in_a in_b in_c in_d in_e =
    let n = a * 2 ^ 32 + b * 2 ^ 24 + c * 2 ^ 16 + d * 2 ^ 8 + e in
    let first : n / 2 ^ 32 % 256 ≡ a = omega arith in
    let second : n / 2 ^ 24 % 256 ≡ b = omega arith in
    let third : n / 2 ^ 16 % 256 ≡ c = omega arith in
    let fourth : n / 2 ^ 8 % 256 ≡ d = omega arith in
    let fifth : n % 256 ≡ e = omega arith in
    cc

pub rows : (words bytes : List ℕ) (k : ℕ) → length bytes ≡ k + 5 * length words → ((i : ℕ) → slice_index bytes i < 256) → ((a : ℕ) → a < length words → slice_index words a ≡ number_at bytes (k + 5 * a)) → flat_map word_bytes words ≡ drop k bytes
rows [] bytes k size small are = sym (drop_all k bytes (omega arith))
rows (w ∷ words) bytes k size small are =
    let start : k + 5 * 0 ≡ k = omega arith in
    let here : w ≡ number_at bytes k = are 0 (omega arith) ∙ ap (number_at bytes) start in
    let five = bytes_again (slice_index bytes k) (slice_index bytes (k + 1)) (slice_index bytes (k + 2)) (slice_index bytes (k + 3)) (slice_index bytes (k + 4)) (small k) (small (k + 1)) (small (k + 2)) (small (k + 3)) (small (k + 4)) in
    let rest : flat_map word_bytes words ≡ drop (k + 5) bytes = rows words bytes (k + 5) (omega arith) small (λ a less.
    let place : k + 5 * suc a ≡ k + 5 + 5 * a = omega arith in
    are (suc a) (omega arith) ∙ ap (number_at bytes) place) in
    ap (λ xs. xs ++ flat_map word_bytes words) (ap word_bytes here ∙ five)
    ∙ (ap (λ xs. slice_index bytes k ∷ (slice_index bytes (k + 1) ∷ (slice_index bytes (k + 2) ∷ (slice_index bytes (k + 3) ∷ (slice_index bytes (k + 4) ∷ xs))))) rest
    ∙ sym (five_more bytes k (omega arith)))

one_word : (w v : ℕ) → w < 2 ^ 40 → v < 2 ^ 40 → w / 2 ^ 32 % 256 ≡ v / 2 ^ 32 % 256 → w / 2 ^ 24 % 256 ≡ v / 2 ^ 24 % 256 → w / 2 ^ 16 % 256 ≡ v / 2 ^ 16 % 256 → w / 2 ^ 8 % 256 ≡ v / 2 ^ 8 % 256 → w % 256 ≡ v % 256 → w ≡ v
one_word w v in_w in_v a b c d e = omega arith

-- short words with the same bytes are the same
pub flat_same : (ws vs : List ℕ) → length ws ≡ length vs → ((a : ℕ) → a < length ws → slice_index ws a < 2 ^ 40) → ((a : ℕ) → a < length vs → slice_index vs a < 2 ^ 40) → flat_map word_bytes ws ≡ flat_map word_bytes vs → ws ≡ vs
flat_same [] [] size in_ws in_vs e = refl
flat_same [] (v ∷ vs) size in_ws in_vs e = absurd (omega arith)
flat_same (w ∷ ws) [] size in_ws in_vs e = absurd (omega arith)
flat_same (w ∷ ws) (v ∷ vs) size in_ws in_vs e =
    let first : w / 2 ^ 32 % 256 ≡ v / 2 ^ 32 % 256 = cc in
    let second : w / 2 ^ 24 % 256 ≡ v / 2 ^ 24 % 256 = cc in
    let third : w / 2 ^ 16 % 256 ≡ v / 2 ^ 16 % 256 = cc in
    let fourth : w / 2 ^ 8 % 256 ≡ v / 2 ^ 8 % 256 = cc in
    let fifth : w % 256 ≡ v % 256 = cc in
    let rest : flat_map word_bytes ws ≡ flat_map word_bytes vs = cc in
    let here : w ≡ v = one_word w v (in_ws 0 (omega arith)) (in_vs 0 (omega arith)) first second third fourth fifth in
    ap (λ x. x ∷ ws) here ∙ ap (λ xs. v ∷ xs) (flat_same ws vs (omega arith) (λ a less. in_ws (suc a) (omega arith)) (λ a less. in_vs (suc a) (omega arith)) rest)

length-flat : (ws : List ℕ) → length (flat_map word_bytes ws) ≡ 5 * length ws
length-flat [] = refl
length-flat (w ∷ ws) = let rest = length-flat ws in omega arith

-- a canonical word is short
short_word : (machine : Machine) (word : ℕ) → IsTrue (is_canonical machine word) → word < 2 ^ 40
unfolding is_canonical
short_word Mic1 word h = let less = ltb-true word (2 ^ 36) (and_parts _ _ h).0 in omega arith
short_word Mic2 word h = let less = ltb-true word (2 ^ 39) (and_parts _ _ h).0 in omega arith

pub short_words : (s : ControlStore) → IsStore s → (a : ℕ) → a < length s.words → slice_index s.words a < 2 ^ 40
short_words s is a less = let full = is.full in short_word s.machine (slice_index s.words a) (is.canonical a (omega arith))

-- the magic of a file
machine_of_made : (machine : Machine) (rest : List ℕ) → machine_of (magic machine ++ rest) ≡ Some machine
unfolding machine_of
machine_of_made Mic1 rest = refl
machine_of_made Mic2 rest = refl

pub machine_of_file : (s : ControlStore) → machine_of (store_file s) ≡ Some s.machine
unfolding store_file
machine_of_file s = machine_of_made s.machine (flat_map word_bytes s.words)

magic_is : (machine : Machine) (bytes : List ℕ) → machine_of bytes ≡ Some machine → take 4 bytes ≡ magic machine
unfolding machine_of
magic_is machine bytes h =
    elim (starts_with nat_eq bytes (magic Mic1)) as (λ b. starts_with nat_eq bytes (magic Mic1) ≡ b → cond b (Some Mic1) (cond (starts_with nat_eq bytes (magic Mic2)) (Some Mic2) None) ≡ Some machine → take 4 bytes ≡ magic machine) [
      | true ↦ λ e is. let same : Mic1 ≡ machine = cc in sym (same_text (magic Mic1) (take 4 bytes) (sym e)) ∙ ap magic same
      | false ↦ λ _. elim (starts_with nat_eq bytes (magic Mic2)) as (λ b. starts_with nat_eq bytes (magic Mic2) ≡ b → cond b (Some Mic2) None ≡ Some machine → take 4 bytes ≡ magic machine) [
        | true ↦ λ e is. let same : Mic2 ≡ machine = cc in sym (same_text (magic Mic2) (take 4 bytes) (sym e)) ∙ ap magic same
        | false ↦ λ e is. cc
      ] refl
    ] refl h

pub length-file : (s : ControlStore) → IsStore s → length (store_file s) ≡ 2564
unfolding store_file
length-file s is =
    let flat = length-flat s.words in
    let full = is.full in
    let four : length (magic s.machine) ≡ 4 = elim s.machine as (λ m. length (magic m) ≡ 4) [ Mic1 ↦ refl | Mic2 ↦ refl ] in
    omega (arith, length-append (magic s.machine) (flat_map word_bytes s.words))

-- the words that were read are the file's
pub file_again : (bytes : List ℕ) (machine : Machine) (s : ControlStore) → machine_of bytes ≡ Some machine → length bytes ≡ 2564 → ((i : ℕ) → slice_index bytes i < 256) → IsReadFrom bytes machine 512 s → store_file s ≡ bytes
unfolding store_file word_at
file_again bytes machine s is size small read =
    let full = read.full in
    let flat : flat_map word_bytes s.words ≡ drop 4 bytes = rows s.words bytes 4 (omega arith) small (λ a less. read.words a (omega arith)) in
    ap (λ (m : Machine). magic m ++ flat_map word_bytes s.words) read.machine_is
    ∙ (ap (λ xs. magic machine ++ xs) flat ∙ (ap (λ xs. xs ++ drop 4 bytes) (sym (magic_is machine bytes is)) ∙ take-append-drop 4 bytes))

-- the words of a store's file are the store's
words_of : List ℕ → ℕ → List ℕ
words_of bytes n = map (word_at bytes) (range_with_len 0 n)

small_word : (bytes : List ℕ) (k : ℕ) → ((i : ℕ) → slice_index bytes i < 256) → number_at bytes k < 2 ^ 40
small_word bytes k small =
    let a = small k in let b = small (k + 1) in let c = small (k + 2) in let d = small (k + 3) in let e = small (k + 4) in omega arith

pub file_words : (s : ControlStore) → IsStore s → ((i : ℕ) → slice_index (store_file s) i < 256) → (a : ℕ) → a < 512 → word_at (store_file s) a ≡ slice_index s.words a
unfolding words_of word_at store_file
file_words s is small a inside =
    let bytes = magic s.machine ++ flat_map word_bytes s.words in
    let read = map (λ b. number_at bytes (4 + 5 * b)) (range_with_len 0 (length s.words)) in
    let full = is.full in
    let long : length read ≡ length s.words = length-map-range_with_len (λ b. number_at bytes (4 + 5 * b)) 0 (length s.words) in
    let at : (b : ℕ) → b < length s.words → slice_index read b ≡ number_at bytes (4 + 5 * b) = λ b less. get_or-map-range_with_len (λ c. number_at bytes (4 + 5 * c)) 0 (length s.words) b b 0 less (omega arith) in
    let size : length bytes ≡ 2564 = length-file s is in
    let flat : flat_map word_bytes read ≡ drop 4 bytes = rows read bytes 4 (omega arith) small (λ b less. at b (omega arith)) in
    let after : drop 4 bytes ≡ flat_map word_bytes s.words = elim s.machine as (λ m. drop 4 (magic m ++ flat_map word_bytes s.words) ≡ flat_map word_bytes s.words) [ Mic1 ↦ refl | Mic2 ↦ refl ] in
    let same : read ≡ s.words = flat_same read s.words long (λ b less. let e = at b (omega arith) in let few = small_word bytes (4 + 5 * b) small in omega arith) (short_words s is) (flat ∙ after) in
    sym (at a (omega arith)) ∙ ap (λ ws. slice_index ws a) same

-- one more word is read
pub read_more : (bytes : List ℕ) (machine : Machine) (upto word : ℕ) (s r : ControlStore) → upto < 512 → word ≡ word_at bytes upto → is_bad machine bytes upto ≡ false → r.machine ≡ s.machine → r.words ≡ set s.words upto word → IsReadFrom bytes machine upto s → IsReadFrom bytes machine (upto + 1) r
read_more bytes machine upto word s r inside is good same are h =
    let full = h.full in
    record {
      machine_is = same ∙ h.machine_is;
      full = ap length are ∙ (length-set s.words upto word ∙ h.full);
      words = below_more (λ a. slice_index r.words a ≡ word_at bytes a) upto
          (λ a less. let other : a ≢ upto = omega arith in ap (λ ws. slice_index ws a) are ∙ (get_or-set_other s.words upto a word 0 other ∙ h.words a less))
          (ap (λ ws. slice_index ws upto) are ∙ (get_or-set_same s.words upto word 0 (omega arith) ∙ is));
      good = below_more (λ a. is_bad machine bytes a ≡ false) upto h.good good;
    }

pub none_read : (bytes : List ℕ) (machine : Machine) (s : ControlStore) (word n : ℕ) → n ≡ 512 → s.machine ≡ machine → s.words ≡ replicate n word → IsReadFrom bytes machine 0 s
none_read bytes machine s word n size is are = record {
  machine_is = is;
  full = ap length are ∙ (length-replicate n word ∙ size);
  words = λ a less. absurd (omega arith);
  good = λ a less. absurd (omega arith);
}

-- a store's file has no bad word
pub no_bad : (bytes : List ℕ) (machine : Machine) (s : ControlStore) (address : ℕ) → IsStore s → bytes ≡ store_file s → ((i : ℕ) → slice_index bytes i < 256) → machine_of bytes ≡ Some machine → IsFirst (is_bad machine bytes) 512 address → ⊥
no_bad bytes machine s address is e small of first =
    let P : List ℕ → Type 0 = λ xs. (i : ℕ) → slice_index xs i < 256 in
    let word : word_at bytes address ≡ slice_index s.words address = ap (λ xs. word_at xs address) e ∙ file_words s is (subst P e small) address first.inside in
    let here : Some s.machine ≡ Some machine = sym (machine_of_file s) ∙ (ap machine_of (sym e) ∙ of) in
    let same : s.machine ≡ machine = cc in
    let good : is_canonical machine (word_at bytes address) ≡ true = ap (λ m. is_canonical m (word_at bytes address)) (sym same) ∙ (ap (is_canonical s.machine) word ∙ is.canonical address first.inside) in
    let wrong : false ≡ true = sym (ap not good) ∙ first.passes in
    cc

-- two stores of one file are the same
pub one_store : (bytes : List ℕ) (machine : Machine) (s r : ControlStore) → IsStore s → bytes ≡ store_file s → ((i : ℕ) → slice_index bytes i < 256) → machine_of bytes ≡ Some machine → IsReadFrom bytes machine 512 r → r ≡ s
one_store bytes machine s r is e small of read =
    let P : List ℕ → Type 0 = λ xs. (i : ℕ) → slice_index xs i < 256 in
    let here : Some s.machine ≡ Some machine = sym (machine_of_file s) ∙ (ap machine_of (sym e) ∙ of) in
    let same : s.machine ≡ machine = cc in
    let full = is.full in
    let full_too = read.full in
    let words : r.words ≡ s.words = ext_get_or 0 r.words s.words (omega arith) (λ a less.
    read.words a (omega arith) ∙ (ap (λ xs. word_at xs a) e ∙ file_words s is (subst P e small) a (omega arith))) in
    let made : Machine → List ℕ → ControlStore = λ m ws. record { machine = m; words = ws } in
    ap (λ m. made m r.words) (read.machine_is ∙ sym same) ∙ ap (made s.machine) words
