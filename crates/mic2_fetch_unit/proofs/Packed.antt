-- Bytes in a register.
use Rattle.mic2_fetch_unit.proofs.Common.{◌≡◌, ℕ, zero, suc, ◌+◌, ◌-◌, ◌*◌, ◌/◌, ◌%◌, ◌^◌, ◌<◌, ◌≤◌, List, [], ◌∷◌, ◌++◌, length, drop, get_or, bit_or, refl}
use Rattle.mic2_fetch_unit.proofs.Common.{sym, ap, subst, ◌∙◌, arith, or_shifted, or_comm, shl_whole, pow-add, byte_of, bytes_of_word, bytes_in, turned_word}
use Rattle.std.proofs.Math.Nat.{mul-le-mul_right}

pub length-bytes_in : (n bits : ℕ) → length (bytes_in n bits) ≡ n
unfolding bytes_in
length-bytes_in zero bits = refl
length-bytes_in (suc n) bits = ap suc (length-bytes_in n (bits / 256))

-- a register without its lowest bytes
after : ℕ → ℕ → ℕ
after zero bits = bits
after (suc t) bits = after t (bits / 256)

after_is : (t bits : ℕ) → t ≤ 6 → after t bits ≡ bits / 2 ^ (8 * t)
unfolding after
after_is zero bits h = omega arith
after_is (suc zero) bits h = omega arith
after_is (suc (suc zero)) bits h = omega arith
after_is (suc (suc (suc zero))) bits h = omega arith
after_is (suc (suc (suc (suc zero)))) bits h = omega arith
after_is (suc (suc (suc (suc (suc zero))))) bits h = omega arith
after_is (suc (suc (suc (suc (suc (suc zero)))))) bits h = omega arith
after_is (suc (suc (suc (suc (suc (suc (suc t))))))) bits h = absurd (omega arith)

drop_after : (t n m bits : ℕ) → m ≡ t + n → drop t (bytes_in m bits) ≡ bytes_in n (after t bits)
unfolding bytes_in after
drop_after zero n m bits e = let same : m ≡ n = omega arith in ap (λ (k : ℕ). bytes_in k bits) same
drop_after (suc t) n zero bits e = absurd (omega arith)
drop_after (suc t) n (suc m) bits e = drop_after t n m (bits / 256) (omega arith)

pub drop-bytes_in : (t n m bits : ℕ) → t ≤ 6 → m ≡ t + n → drop t (bytes_in m bits) ≡ bytes_in n (bits / 2 ^ (8 * t))
drop-bytes_in t n m bits h e = drop_after t n m bits e ∙ ap (bytes_in n) (after_is t bits h)

byte_after : (n k bits : ℕ) → k < n → get_or (bytes_in n bits) k 0 ≡ after k bits % 256
unfolding bytes_in after
byte_after zero k bits h = absurd (omega arith)
byte_after (suc n) zero bits h = refl
byte_after (suc n) (suc k) bits h = byte_after n k (bits / 256) (omega arith)

pub byte-bytes_in : (n k bits : ℕ) → n ≤ 6 → k < n → get_or (bytes_in n bits) k 0 ≡ bits / 2 ^ (8 * k) % 256
byte-bytes_in n k bits few h = byte_after n k bits h ∙ ap (λ (x : ℕ). x % 256) (after_is k bits (omega arith))

-- one more than the greatest number of this many bytes
room : ℕ → ℕ
room zero = 1
room (suc n) = 256 * room n

room_is : (n : ℕ) → n ≤ 6 → room n ≡ 2 ^ (8 * n)
unfolding room
room_is zero h = refl
room_is (suc zero) h = refl
room_is (suc (suc zero)) h = refl
room_is (suc (suc (suc zero))) h = refl
room_is (suc (suc (suc (suc zero)))) h = refl
room_is (suc (suc (suc (suc (suc zero))))) h = refl
room_is (suc (suc (suc (suc (suc (suc zero)))))) h = refl
room_is (suc (suc (suc (suc (suc (suc (suc n))))))) h = absurd (omega arith)

append_room : (n m k bits more : ℕ) → k ≡ n + m → bits < room n → bytes_in k (bits + more * room n) ≡ bytes_in n bits ++ bytes_in m more
unfolding bytes_in room
append_room zero m k bits more e h =
    let same : k ≡ m = omega arith in
    let all : bits + more * 1 ≡ more = omega arith in
    ap (λ (i : ℕ). bytes_in i (bits + more * 1)) same ∙ ap (bytes_in m) all
append_room (suc n) m zero bits more e h = absurd (omega arith)
append_room (suc n) m (suc k) bits more e h =
    let scaled : more * (256 * room n) ≡ 256 * (more * room n) = omega arith in
    let first : (bits + more * (256 * room n)) % 256 ≡ bits % 256 = omega (arith, scaled) in
    let rest : (bits + more * (256 * room n)) / 256 ≡ bits / 256 + more * room n = omega (arith, scaled) in
    ap (λ (x : ℕ). x ∷ bytes_in k ((bits + more * (256 * room n)) / 256)) first
    ∙ ap (λ (tail : List ℕ). bits % 256 ∷ tail) (ap (bytes_in k) rest ∙ append_room n m k (bits / 256) more (omega arith) (omega arith))

pub append-bytes_in : (n m k bits more : ℕ) → n ≤ 6 → k ≡ n + m → bits < 2 ^ (8 * n) → bytes_in k (bits + more * 2 ^ (8 * n)) ≡ bytes_in n bits ++ bytes_in m more
append-bytes_in n m k bits more few e h =
    ap (λ (r : ℕ). bytes_in k (bits + more * r)) (sym (room_is n few))
    ∙ append_room n m k bits more e (subst (λ r. bits < r) (sym (room_is n few)) h)

bytes_of_turned : (word : ℕ) → bytes_in 4 (turned_word word) ≡ bytes_of_word word
unfolding bytes_in
bytes_of_turned word =
    let a : turned_word word % 256 ≡ byte_of word 0 = omega arith in
    let b : turned_word word / 256 % 256 ≡ byte_of word 1 = omega arith in
    let c : turned_word word / 256 / 256 % 256 ≡ byte_of word 2 = omega arith in
    let d : turned_word word / 256 / 256 / 256 % 256 ≡ byte_of word 3 = omega arith in
    λ i. a i ∷ b i ∷ c i ∷ d i ∷ []

pub word_without : (word skip : ℕ) → skip < 4 → drop skip (bytes_of_word word) ≡ bytes_in (4 - skip) (turned_word word / 2 ^ (8 * skip))
word_without word skip h =
    ap (drop skip) (sym (bytes_of_turned word)) ∙ drop-bytes_in skip (4 - skip) 4 (turned_word word) (omega arith) (omega arith)

-- bytes that enter after others
pub or_after : (bits more n m : ℕ) → bits < 2 ^ (8 * n) → more < 2 ^ (8 * m) → 8 * m + 8 * n ≤ 64 → bit_or bits (more * 2 ^ (8 * n) % 2 ^ 64) ≡ bits + more * 2 ^ (8 * n)
or_after bits more n m h few fits =
    let flip : more * 2 ^ (8 * n) + bits ≡ bits + more * 2 ^ (8 * n) = omega arith in
    ap (bit_or bits) (shl_whole more (8 * m) (8 * n) 64 few fits)
    ∙ (or_comm bits (more * 2 ^ (8 * n)) ∙ (or_shifted more (8 * n) bits h ∙ flip))

pub following-lt : (bits more n m k : ℕ) → bits < 2 ^ (8 * n) → more < 2 ^ (8 * m) → k ≡ n + m → bits + more * 2 ^ (8 * n) < 2 ^ (8 * k)
following-lt bits more n m k h few e =
    let size : 8 * k ≡ 8 * m + 8 * n = omega arith in
    let whole : 2 ^ (8 * k) ≡ 2 ^ (8 * m) * 2 ^ (8 * n) = ap (λ (x : ℕ). 2 ^ x) size ∙ pow-add 2 (8 * m) (8 * n) in
    let more_one : (more + 1) * 2 ^ (8 * n) ≤ 2 ^ (8 * m) * 2 ^ (8 * n) = mul-le-mul_right {m = more + 1} {n = 2 ^ (8 * m)} (2 ^ (8 * n)) (omega arith) in
    let spread : (more + 1) * 2 ^ (8 * n) ≡ more * 2 ^ (8 * n) + 2 ^ (8 * n) = omega arith in
    omega (arith, whole, more_one, spread)
