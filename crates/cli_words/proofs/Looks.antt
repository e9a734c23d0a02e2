-- What clap makes of a word of each look.
use Rattle.cli_words.proofs.Common.{◌≡◌, ℕ, sym, subst, refl, arith, Bool, true, false, List, [], ◌∷◌, Option, Some, None, IsUtf8, if◌then◌else◌, ◌==◌}
use Rattle.cli_words.proofs.Common.{slice_get, encode_utf8_all, bytes_eq, chars, eqb-true, long_of, name_and_value, short_of}
use Rattle.std.proofs.lemmas.Str.{IsCharBoundary-after_ascii, IsUtf8-drop, encodes-chars}
use Rattle.cli_words.specs.Prelude.{Look, Text, dashes, long, look, look_after_one, look_after_two, plain, short}

-- clap's tests of a word
pub record Tests (x : Text) (is_dashes : Bool) (l : Option (Text × Option Text)) : Type 0 where
  pub dashes : bytes_eq x (45 ∷ 45 ∷ []) ≡ is_dashes
  pub long : long_of x ≡ l

-- the word begins with a dash, and a character follows
pub record IsShort (x : Text) : Type 0 where
  pub tests : Tests x false None
  pub flag : ℕ
  pub first : ℕ
  pub rest : Text
  pub short : short_of x ≡ Some (flag ∷ rest)
  pub chars : slice_get (chars (flag ∷ rest)) 0 ≡ Some first

pub record IsPlain (x : Text) : Type 0 where
  pub tests : Tests x false None
  pub short : short_of x ≡ None

abbrev pub LooksAs : Text → Look → Type 0
LooksAs x plain = IsPlain x
LooksAs x dashes = bytes_eq x (45 ∷ 45 ∷ []) ≡ true
LooksAs x (long text) = Tests x false (Some (name_and_value text))
LooksAs x short = IsShort x

has_first : (flag : ℕ) (rest : Text) (cs : List ℕ) → encode_utf8_all cs ≡ flag ∷ rest → (first : ℕ) × (slice_get cs 0 ≡ Some first)
has_first flag rest [] h = cc
has_first flag rest (c ∷ cs) h = (c, refl)

utf8_rest : (rest : Text) → IsUtf8 (45 ∷ rest) → IsUtf8 rest
utf8_rest rest h = IsUtf8-drop (45 ∷ rest) 1 h (IsCharBoundary-after_ascii (45 ∷ rest) 0 h (omega arith) (omega arith))

pub looks_as : (x : Text) → IsUtf8 x → LooksAs x (look x)
looks_as [] u = record { tests = record { dashes = refl; long = refl }; short = refl }
looks_as (c ∷ rest) u = one (c == 45) refl
  where
    two : (d : ℕ) (more : Text) (b : Bool) → (d == 45) ≡ b → IsUtf8 (45 ∷ d ∷ more) → LooksAs (45 ∷ d ∷ more) (if b then look_after_two more else short)
    two d more true e u2 = after (eqb-true d 45 e) more
      where
        after : d ≡ 45 → (more : Text) → LooksAs (45 ∷ d ∷ more) (look_after_two more)
        after e [] = rw e refl
        after e (y ∷ ys) = rw e (record { dashes = refl; long = refl })
    two d more false e u2 =
        let first = has_first d more (chars (d ∷ more)) (encodes-chars (d ∷ more) (utf8_rest (d ∷ more) u2)) in
        record { tests = record { dashes = rw e refl; long = rw e refl }; flag = d; first = first.0; rest = more; short = rw e refl; chars = first.1 }

    one_more : (more : Text) → IsUtf8 (45 ∷ more) → LooksAs (45 ∷ more) (look_after_one more)
    one_more [] u2 = record { tests = record { dashes = refl; long = refl }; short = refl }
    one_more (d ∷ more) u2 = two d more (d == 45) refl u2

    one : (b : Bool) → (c == 45) ≡ b → LooksAs (c ∷ rest) (if b then look_after_one rest else plain)
    one true e = let same : c ≡ 45 = eqb-true c 45 e in
        subst (λ z. IsUtf8 (z ∷ rest) → LooksAs (z ∷ rest) (look_after_one rest)) (sym same) (one_more rest) u
    one false e = record { tests = record { dashes = rw e refl; long = rw e refl }; short = rw e refl }
