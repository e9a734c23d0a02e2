-- A generated text is short enough.
use Rattle.std.proofs.Common.{◌≡◌, ℕ, ℤ, pos, zero, suc, ◌+◌, ◌*◌, ◌%◌, ◌<◌, ◌≤◌, List, ◌∷◌, [], ◌++◌, length, refl, ap, ◌∙◌, arith, length-append}
use Rattle.std.specs.List.{flat_map}
use Rattle.std.proofs.lemmas.Grind.{flat_map-append}
use Rattle.ijvm_instr.specs.declared.instr.Instr.TheVariants.{Iload, Halt}
use Rattle.ijvm_instr.specs.Prelude.{spelling}
use Rattle.ijvm_soak.specs.Prelude.{block, block_at, blocks, main_text, method_text}

-- the text before a block
abbrev front_of : ℕ → ℕ → List ℕ
front_of seed i = flat_map spelling (blocks seed i)

-- the bytes of a block of a kind
abbrev size_of_kind : ℕ → ℕ
size_of_kind zero = 7
size_of_kind (suc zero) = 3
size_of_kind (suc (suc zero)) = 7
size_of_kind (suc (suc (suc zero))) = 10
size_of_kind (suc (suc (suc (suc k)))) = 8

block_size : (k : ℕ) (z : ℤ) → k < 5 → length (flat_map spelling (block k z)) ≡ size_of_kind k
block_size zero z h = refl
block_size (suc zero) z h = refl
block_size (suc (suc zero)) z h = refl
block_size (suc (suc (suc zero))) z h = refl
block_size (suc (suc (suc (suc zero)))) z h = refl
block_size (suc (suc (suc (suc (suc k))))) z h = absurd (omega arith)

front_step : (seed i : ℕ) → length (front_of seed (suc i)) ≡ length (front_of seed i) + size_of_kind ((seed + i) % 5)
front_step seed i =
    ap (λ (xs : List ℕ). length xs) (flat_map-append spelling (blocks seed i) (block_at seed i))
    ∙ length-append (front_of seed i) (flat_map spelling (block_at seed i))
    ∙ ap (λ (x : ℕ). length (front_of seed i) + x) (block_size ((seed + i) % 5) (pos ((seed + 3 * i) % 100)) (omega arith))

pub main_long : (seed n : ℕ) → length (main_text seed n) ≡ length (front_of seed n) + 3
main_long seed n =
    ap (λ (xs : List ℕ). length xs) (flat_map-append spelling (blocks seed n) (Iload 0 ∷ Halt ∷ []))
    ∙ length-append (front_of seed n) (flat_map spelling (Iload 0 ∷ Halt ∷ []))

pub text_long : (seed n : ℕ) → length (main_text seed n ++ method_text) ≡ length (main_text seed n) + 10
text_long seed n = length-append (main_text seed n) method_text

-- how many bytes the blocks from one of kind 0 up to one of this kind fall short of seven bytes each
abbrev fewer : ℕ → ℕ
fewer zero = 0
fewer (suc zero) = 0
fewer (suc (suc zero)) = 4
fewer (suc (suc (suc zero))) = 4
fewer (suc (suc (suc (suc k)))) = 1

fewer_few : (k : ℕ) → fewer k ≤ 4
fewer_few zero = omega arith
fewer_few (suc zero) = omega arith
fewer_few (suc (suc zero)) = omega arith
fewer_few (suc (suc (suc zero))) = omega arith
fewer_few (suc (suc (suc (suc k)))) = omega arith

fewer_step : (k : ℕ) → k < 5 → size_of_kind k + fewer ((k + 1) % 5) ≡ 7 + fewer k
fewer_step zero h = refl
fewer_step (suc zero) h = refl
fewer_step (suc (suc zero)) h = refl
fewer_step (suc (suc (suc zero))) h = refl
fewer_step (suc (suc (suc (suc zero)))) h = refl
fewer_step (suc (suc (suc (suc (suc k))))) h = absurd (omega arith)

front_grows : (seed n : ℕ) → length (front_of seed n) + fewer ((seed + n) % 5) ≡ 7 * n + fewer (seed % 5)
front_grows seed zero =
    let same : fewer ((seed + 0) % 5) ≡ fewer (seed % 5) = ap (λ (x : ℕ). fewer (x % 5)) (omega arith) in
    omega arith
front_grows seed (suc n) =
    let before : length (front_of seed n) + fewer ((seed + n) % 5) ≡ 7 * n + fewer (seed % 5) = front_grows seed n in
    let more : length (front_of seed (suc n)) ≡ length (front_of seed n) + size_of_kind ((seed + n) % 5) = front_step seed n in
    let small : (seed + n) % 5 < 5 = omega arith in
    let step : size_of_kind ((seed + n) % 5) + fewer (((seed + n) % 5 + 1) % 5) ≡ 7 + fewer ((seed + n) % 5) = fewer_step ((seed + n) % 5) small in
    let kind : (seed + suc n) % 5 ≡ ((seed + n) % 5 + 1) % 5 = omega arith in
    let same : fewer ((seed + suc n) % 5) ≡ fewer (((seed + n) % 5 + 1) % 5) = ap fewer kind in
    omega arith

pub text_short : (seed n : ℕ) → n ≤ 9000 → length (main_text seed n ++ method_text) ≤ 65536
text_short seed n h = omega (arith, front_grows seed n, fewer_few (seed % 5), main_long seed n, text_long seed n)
