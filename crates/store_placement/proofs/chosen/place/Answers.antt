use Rattle.store_placement.proofs.Common.{◌≡◌, ℕ, Option, Err, List, slice_index, subst, ap, arith, ◌∙◌, err_from_is_err_and, Pair, PlaceError, IsChosenList}
use Rattle.store_placement.proofs.Common.{AreApart, AreWithin, Demands, Places, demands, Refuses}
use Rattle.store_placement.proofs.NoPlacement.{refused}
use Rattle.store_placement.proofs.OneRefusal.{one_refusal}
use Rattle.store_placement.proofs.chosen.place.Goals as goal

-- the slices are those of the constraints
same_demands : (d : Demands) (fixed f : List (Option ℕ)) (pairs p : List Pair) → f ≡ fixed → p ≡ pairs → demands fixed pairs ≡ d → demands f p ≡ d
same_demands d fixed f pairs p same_f same_p is = ap (λ x. demands x p) same_f ∙ (ap (demands fixed) same_p ∙ is)

within : (d : Demands) (fixed : List (Option ℕ)) (pairs : List Pair) → AreWithin fixed pairs → demands fixed pairs ≡ d → AreWithin d.fixed d.pairs
within d fixed pairs h is = let W : Demands → Type 0 = λ e. AreWithin e.fixed e.pairs in subst W is h

apart : (d : Demands) (addresses : List ℕ) → Places d addresses → AreApart addresses
apart d addresses h s t s_in t_in same = h.places.apart s t (omega (arith, h.count, s_in)) (omega (arith, h.count, t_in)) same

pub of-requires : goal.of-requires
of-requires c = apart _ c.in_ok-addresses.addresses.items c.in_ok-addresses.ensures.ok.places

pub returns-clause-err : goal.returns-clause-err
returns-clause-err c =
    let d = c.args.constraints.now in
    let inside = c.constraints.inside in
    let f : c.deref.result.now ≡ inside.fixed.items = cc in
    let p : c.deref-2.result.now ≡ inside.pairs.items = cc in
    let same = same_demands d inside.fixed.items c.deref.result.now inside.pairs.items c.deref-2.result.now f p c.constraints.view_is in
    let P : Demands → Type 0 = λ e. IsChosenList e c.in_ok-addresses.addresses.items in
    let chosen : IsChosenList d c.in_ok-addresses.addresses.items = subst P same c.in_ok-addresses.ensures.ok in
    λ e. (λ is. cc, λ is. absurd (refused d (within d inside.fixed.items inside.pairs.items c.constraints.invariant c.constraints.view_is) e is (slice_index c.in_ok-addresses.addresses.items, chosen.places.places)))

pub returns-in_err-addresses-clause-ok : goal.returns-in_err-addresses-clause-ok
returns-in_err-addresses-clause-ok c =
    let d = c.args.constraints.now in
    let inside = c.constraints.inside in
    let f : c.deref.result.now ≡ inside.fixed.items = cc in
    let p : c.deref-2.result.now ≡ inside.pairs.items = cc in
    let same = same_demands d inside.fixed.items c.deref.result.now inside.pairs.items c.deref-2.result.now f p c.constraints.view_is in
    let P : Demands → Type 0 = λ e. Refuses e c.in_err-addresses.field-0.0 in
    let left = err_from_is_err_and c.from_residual.result c.from_residual.ensures.1 in
    let failed : c.from_residual.result ≡ Err c.in_err-addresses.field-0.0 = left.1 ∙ ap Err left.2 in
    rw failed (λ is. cc, λ has. absurd (refused d (within d inside.fixed.items inside.pairs.items c.constraints.invariant c.constraints.view_is) c.in_err-addresses.field-0.0 (subst P same c.in_err-addresses.ensures.err) has))

pub returns-in_err-addresses-clause-err : goal.returns-in_err-addresses-clause-err
returns-in_err-addresses-clause-err c =
    let d = c.args.constraints.now in
    let inside = c.constraints.inside in
    let f : c.deref.result.now ≡ inside.fixed.items = cc in
    let p : c.deref-2.result.now ≡ inside.pairs.items = cc in
    let same = same_demands d inside.fixed.items c.deref.result.now inside.pairs.items c.deref-2.result.now f p c.constraints.view_is in
    let P : Demands → Type 0 = λ e. Refuses e c.in_err-addresses.field-0.0 in
    let here : Refuses d c.in_err-addresses.field-0.0 = subst P same c.in_err-addresses.ensures.err in
    let Q : PlaceError → Type 0 = λ e. Refuses d e in
    let left = err_from_is_err_and c.from_residual.result c.from_residual.ensures.1 in
    let failed : c.from_residual.result ≡ Err c.in_err-addresses.field-0.0 = left.1 ∙ ap Err left.2 in
    rw failed (λ e. (λ is. let equal : c.in_err-addresses.field-0.0 ≡ e = cc in subst Q equal here, λ is. ap Err (one_refusal d c.in_err-addresses.field-0.0 e here is)))
