use Rattle.mic_base.proofs.Common.{◌≡◌, ℕ, zero, suc, ◌<◌, ◌&&◌, Bool, true, false, not, List, [], ◌∷◌, length, refl, arith, nat_le, IsUtf8, IsAscii, list_all}
use Rattle.mic_base.proofs.Common.{IsUtf8-from_ascii, is_name, is_name_byte, begins_digit}

name_byte_small : (b : ℕ) → is_name_byte b ≡ true → b < 128
name_byte_small b h = grind arith

and_parts : (a b : Bool) → (a && b) ≡ true → (a ≡ true) × (b ≡ true)
and_parts true b h = (refl, h)
and_parts false b h = absurd (cc)

is_ascii : (text : List ℕ) → list_all is_name_byte text ≡ true → IsAscii text
is_ascii [] h i = omega arith
is_ascii (b ∷ text) h zero = name_byte_small b (and_parts (is_name_byte b) (list_all is_name_byte text) h).0
is_ascii (b ∷ text) h (suc i) = is_ascii text (and_parts (is_name_byte b) (list_all is_name_byte text) h).1 i

pub record IsName (text : List ℕ) : Type 0 where
  pub some : nat_le 1 (length text) ≡ true
  pub short : nat_le (length text) 64 ≡ true
  pub bytes : list_all is_name_byte text ≡ true
  pub first : not (begins_digit text) ≡ true

pub name_parts : (text : List ℕ) → is_name text ≡ true → IsName text
name_parts text h =
    let p = and_parts (nat_le 1 (length text)) (nat_le (length text) 64 && (list_all is_name_byte text && not (begins_digit text))) h in
    let q = and_parts (nat_le (length text) 64) (list_all is_name_byte text && not (begins_digit text)) p.1 in
    let r = and_parts (list_all is_name_byte text) (not (begins_digit text)) q.1 in
    record { some = p.0; short = q.0; bytes = r.0; first = r.1 }

-- a name is valid UTF-8
pub IsUtf8-name : (text : List ℕ) → is_name text ≡ true → IsUtf8 text
IsUtf8-name text h = IsUtf8-from_ascii text (is_ascii text (name_parts text h).bytes)
