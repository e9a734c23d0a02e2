-- What holds of a part that stands in a word of the machine.
use Rattle.mal_print.proofs.Common.{◌≡◌, Bool, true, List, [], ◌∷◌, refl, not, nat_lt, filter, list_all, and_from, and_parts, cond_both, Machine, Part, row}
use Rattle.mal_print.proofs.Common.{fits_side, has_operation, is_mixed, is_part, may_be_a, may_be_b, may_fetch}

pub filtered : {A : Type 0} (q p : A → Bool) (ws : List A) → list_all q ws ≡ true → list_all q (filter p ws) ≡ true
filtered q p [] h = refl
filtered q p (w ∷ ws) h =
    let t = and_parts _ _ h in
    let all = filtered q p ws t.1 in
    cond_both (p w) (w ∷ filter p ws) (filter p ws) (λ xs. list_all q xs ≡ true) (λ e. and_from _ _ t.0 all) (λ e. all)

pub record Fits (m : Machine) (part : Part) : Type 0 where
  pub dests : nat_lt part.dests 512 ≡ true
  pub op : has_operation m part.op ≡ true
  pub a : fits_side (row part.op).uses_a (may_be_a m) part.a ≡ true
  pub b : fits_side (row part.op).uses_b (may_be_b m) part.b ≡ true
  pub mixed : not (is_mixed part.a part.b) ≡ true
  pub fetch : may_fetch m part.fetch ≡ true

pub part_fits : (m : Machine) (part : Part) → is_part m part ≡ true → Fits m part
part_fits m part h =
    let f = and_parts _ _ h in
    let e = and_parts _ _ f.0 in
    let d = and_parts _ _ e.0 in
    let c = and_parts _ _ d.0 in
    let b = and_parts _ _ c.0 in
    record { dests = b.0; op = b.1; a = c.1; b = d.1; mixed = e.1; fetch = f.1 }
