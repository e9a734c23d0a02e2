-- A line is read byte by byte.
use Rattle.std.proofs.Common.{◌≡◌, ◌<◌, ◌≤◌, ◌+◌, ◌-◌, ◌==◌, ◌++◌, ◌∷◌, ◌∙◌, ℕ, zero, suc, true, false, List, [], length, Option, Some, None, refl, sym, ap, subst, append_assoc, arith}
use Rattle.std.specs.Prelude.{if◌then◌else◌, IfSome, Ok}
use Rattle.std.specs.Option.{option_map}
use Rattle.std.proofs.lemmas.Bool.Decides.{nat_tests}
use Rattle.std.proofs.lemmas.List.{append-nil, length-append}
use Rattle.std.proofs.lemmas.Option.{same_Some}
use Rattle.cli_session.specs.declared.line.Read.TheVariants as reads
use Rattle.cli_session.specs.Prelude.{IsFirstLine, ReadsLine, after_line, line_in}

-- the bytes of the line that were read so far, and those that are left
pub record IsUnderway (told line rest : List ℕ) : Type 0 where
  pub told_is : told ≡ line ++ rest
  pub small : length line ≤ 256
  pub line_is : line_in 256 told ≡ line ++ line_in (256 - length line) rest
  pub after : after_line 256 told ≡ after_line (256 - length line) rest

-- the first byte of what is left goes to the line
line_more : (n b : ℕ) (rest : List ℕ) → (b == 10) ≡ false → line_in (suc n) (b ∷ rest) ≡ b ∷ line_in n rest
line_more n b rest e = rw e refl

after_more : (n b : ℕ) (rest : List ℕ) → (b == 10) ≡ false → after_line (suc n) (b ∷ rest) ≡ after_line n rest
after_more n b rest e = rw e refl

line_end : (n b : ℕ) (rest : List ℕ) → (b == 10) ≡ true → line_in (suc n) (b ∷ rest) ≡ []
line_end n b rest e = rw e refl

after_end : (n b : ℕ) (rest : List ℕ) → (b == 10) ≡ true → after_line (suc n) (b ∷ rest) ≡ rest
after_end n b rest e = rw e refl

room : (n : ℕ) → n < 256 → 256 - n ≡ suc (256 - (n + 1))
room n less = omega (arith, less)

-- one more byte
pub underway_more : (told line : List ℕ) (b : ℕ) (rest : List ℕ) → (b == 10) ≡ false → length line < 256 → IsUnderway told line (b ∷ rest) → IsUnderway told (line ++ b ∷ []) rest
underway_more told line b rest other less u =
    let grown : length (line ++ b ∷ []) ≡ length line + 1 = length-append line (b ∷ []) in
    let left : 256 - length line ≡ suc (256 - length (line ++ b ∷ [])) = room (length line) less ∙ ap (λ (n : ℕ). suc (256 - n)) (sym grown) in
    record {
      told_is = u.told_is ∙ sym (append_assoc line (b ∷ []) rest);
      small = omega (arith, grown, less);
      line_is = u.line_is ∙ ap (λ (n : ℕ). line ++ line_in n (b ∷ rest)) left
          ∙ ap (λ (x : List ℕ). line ++ x) (line_more (256 - length (line ++ b ∷ [])) b rest other)
          ∙ sym (append_assoc line (b ∷ []) (line_in (256 - length (line ++ b ∷ [])) rest));
      after = u.after ∙ ap (λ (n : ℕ). after_line n (b ∷ rest)) left ∙ after_more (256 - length (line ++ b ∷ [])) b rest other;
    }

-- a newline ends the line
pub first_ended : (told line : List ℕ) (b : ℕ) (rest : List ℕ) → (b == 10) ≡ true → length line < 256 → IsUnderway told line (b ∷ rest) → IsFirstLine told line (Some rest)
first_ended told line b rest is less u =
    let n : ℕ = 256 - (length line + 1) in
    record {
      some = subst (λ (t : List ℕ). 0 < length t) (sym u.told_is) (let e = length-append line (b ∷ rest) in omega (arith, e));
      line_is = sym (u.line_is ∙ ap (λ (k : ℕ). line ++ line_in k (b ∷ rest)) (room (length line) less) ∙ ap (λ (x : List ℕ). line ++ x) (line_end n b rest is) ∙ append-nil line);
      rest = ap Some (sym (u.after ∙ ap (λ (k : ℕ). after_line k (b ∷ rest)) (room (length line) less) ∙ after_end n b rest is));
    }

-- the 256th byte ends the line
pub first_full : (told line rest : List ℕ) → 256 ≤ length line → IsUnderway told line rest → IsFirstLine told line (Some rest)
first_full told line rest full u =
    let none : 256 - length line ≡ 0 = omega (arith, full, u.small) in
    record {
      some = subst (λ (t : List ℕ). 0 < length t) (sym u.told_is) (let e = length-append line rest in omega (arith, e, full));
      line_is = sym (u.line_is ∙ ap (λ (k : ℕ). line ++ line_in k rest) none ∙ append-nil line);
      rest = ap Some (sym (u.after ∙ ap (λ (k : ℕ). after_line k rest) none));
    }

line_nothing : (n : ℕ) → line_in n [] ≡ []
line_nothing zero = refl
line_nothing (suc n) = refl

after_nothing : (n : ℕ) → after_line n [] ≡ []
after_nothing zero = refl
after_nothing (suc n) = refl

-- the end of the bytes ends the line, where it has a byte
pub first_last : (told line : List ℕ) → 0 < length line → IsUnderway told line [] → IsFirstLine told line (Some []) × (after_line 256 told ≡ [])
first_last told line some u =
    let over : after_line 256 told ≡ [] = u.after ∙ after_nothing (256 - length line) in (
      record {
        some = subst (λ (t : List ℕ). 0 < length t) (sym (u.told_is ∙ append-nil line)) some;
        line_is = sym (u.line_is ∙ ap (λ (x : List ℕ). line ++ x) (line_nothing (256 - length line)) ∙ append-nil line);
        rest = ap Some (sym over);
      },
      over,
    )

pub none_told : (told line : List ℕ) → line ≡ [] → IsUnderway told line [] → told ≡ []
none_told told line none u = u.told_is ∙ append-nil line ∙ none

-- ---- between a source and what it has left

-- the line was read so far, where the console's bytes are known
abbrev pub Reading : Option (List ℕ) → List ℕ → Option (List ℕ) → Type 0
Reading old line left = IfSome old (λ told. (rest : List ℕ) × (left ≡ Some rest) × IsUnderway told line rest)

-- a byte was taken
taken : (left left' : Option (List ℕ)) (rest : List ℕ) (b : ℕ) → left ≡ Some rest → left ≡ option_map (λ r. b ∷ r) left' → (more : List ℕ) × (left' ≡ Some more) × (rest ≡ b ∷ more)
taken left None rest b e f = absurd (let q : Some rest ≡ None = sym e ∙ f in cc)
taken left (Some more) rest b e f = (more, refl, same_Some rest (b ∷ more) (sym e ∙ f))

pub reading_more : (old left left' : Option (List ℕ)) (line line' : List ℕ) (b : ℕ) → line' ≡ line ++ b ∷ [] → (b == 10) ≡ false → length line < 256 →
    left ≡ option_map (λ r. b ∷ r) left' → Reading old line left → Reading old line' left'
reading_more None left left' line line' b grown other less f r = tt
reading_more (Some told) left left' line line' b grown other less f r =
    let at = taken left left' r.0 b r.1 f in (
      at.0,
      at.1,
      subst (λ (l : List ℕ). IsUnderway told l at.0) (sym grown) (underway_more told line b at.0 other less (subst (λ (x : List ℕ). IsUnderway told line x) at.2 r.2)),
    )

pub read_ended : (old left left' : Option (List ℕ)) (line : List ℕ) (b : ℕ) → (b == 10) ≡ true → length line < 256 →
    left ≡ option_map (λ r. b ∷ r) left' → Reading old line left → IfSome old (λ told. IsFirstLine told line left')
read_ended None left left' line b is less f r = tt
read_ended (Some told) left left' line b is less f r =
    let at = taken left left' r.0 b r.1 f in
    subst (λ (l : Option (List ℕ)). IsFirstLine told line l) (sym at.1) (first_ended told line b at.0 is less (subst (λ (x : List ℕ). IsUnderway told line x) at.2 r.2))

pub read_full : (old left : Option (List ℕ)) (line : List ℕ) → 256 ≤ length line → Reading old line left → IfSome old (λ told. IsFirstLine told line left)
read_full None left line full r = tt
read_full (Some told) left line full r = subst (λ (l : Option (List ℕ)). IsFirstLine told line l) (sym r.1) (first_full told line r.0 full r.2)

nothing_left : (left : Option (List ℕ)) (rest : List ℕ) → left ≡ Some rest → IfSome left (λ l. l ≡ []) → rest ≡ []
nothing_left left rest e none = subst (λ (l : Option (List ℕ)). IfSome l (λ x. x ≡ [])) e none

not_empty : (b : ℕ) (line : List ℕ) → (length (b ∷ line) == 0) ≡ false
not_empty b line = grind (arith, nat_tests)

-- the end was met
pub read_at_end : (E : Type 0) (old left left' : Option (List ℕ)) (line : List ℕ) → left' ≡ left → IfSome left (λ l. l ≡ []) → Reading old line left →
    ReadsLine {E = E} old line (Ok (if length line == 0 then reads.Nothing else reads.Last)) left'
read_at_end E None left left' line same none r = tt
read_at_end E (Some told) left left' [] same none r =
    let empty : r.0 ≡ [] = nothing_left left r.0 r.1 none in
    (none_told told [] refl (subst (λ (x : List ℕ). IsUnderway told [] x) empty r.2), same ∙ r.1 ∙ ap Some empty)
read_at_end E (Some told) left left' (b ∷ line) same none r =
    let empty : r.0 ≡ [] = nothing_left left r.0 r.1 none in
    let last = first_last told (b ∷ line) (omega arith) (subst (λ (x : List ℕ). IsUnderway told (b ∷ line) x) empty r.2) in
    rw (not_empty b line)
    (subst (λ (l : Option (List ℕ)). IsFirstLine told (b ∷ line) l) (sym (same ∙ r.1 ∙ ap Some empty)) last.0, last.1)
