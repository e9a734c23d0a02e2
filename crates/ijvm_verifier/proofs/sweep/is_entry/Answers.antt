use Rattle.ijvm_verifier.proofs.Common.{◌≡◌, ◌<◌, ◌+◌, ◌∙◌, ap, sym, arith, length, Some, None, true, slice_get, ◌==◌, eqb-true, eq-eqb, slice_get-get_or}
use Rattle.ijvm_verifier.proofs.Common.{slice_get_within, same_Some, kept_of}
use Rattle.ijvm_verifier.proofs.Swept.{entry_kept, kept_entry, one_unit}
use Rattle.ijvm_verifier.proofs.sweep.is_entry.Goals as goal

pub returns-then-start-seen-clause-no : goal.returns-then-start-seen-clause-no
returns-then-start-seen-clause-no c = λ none m.
    let is : slice_get c.args.seen.now (c.args.at + 4) ≡ Some (Some (kept_of (Some c.args.at) 0)) = kept_entry c.args.image.now c.args.seen.now c.args.at c.requires m in
    let lt : c.args.at + 4 < length c.args.seen.now = slice_get_within c.args.seen.now (c.args.at + 4) (Some (kept_of (Some c.args.at) 0)) is in
    omega arith

pub returns-in-None-clause-no : goal.returns-in-None-clause-no
returns-in-None-clause-no c = λ none m.
    let is : slice_get c.args.seen.now (c.args.at + 4) ≡ Some (Some (kept_of (Some c.args.at) 0)) = kept_entry c.args.image.now c.args.seen.now c.args.at c.requires m in
    let nothing : slice_get c.args.seen.now (c.args.at + 4) ≡ Some None = slice_get-get_or c.args.seen.now (c.args.at + 4) None c.if-start-seen.false ∙ ap Some c.in-None.is in
    cc

pub returns-in-None-unit-clause-no : goal.returns-in-None-unit-clause-no
returns-in-None-unit-clause-no c = λ none m.
    let is : slice_get c.args.seen.now (c.args.at + 4) ≡ Some (Some (kept_of (Some c.args.at) 0)) = kept_entry c.args.image.now c.args.seen.now c.args.at c.requires m in
    let kept : slice_get c.args.seen.now (c.args.at + 4) ≡ Some (Some c.in-Some.here) = slice_get-get_or c.args.seen.now (c.args.at + 4) None c.if-start-seen.false ∙ ap Some c.in-Some.is in
    let same = one_unit c.args.seen.now (c.args.at + 4) c.in-Some.here (kept_of (Some c.args.at) 0) kept is in
    cc (same, c.in-None-unit.is)

pub returns-in-Some-unit-clause-yes : goal.returns-in-Some-unit-clause-yes
returns-in-Some-unit-clause-yes c = λ test.
    let kept : slice_get c.args.seen.now (c.args.at + 4) ≡ Some (Some c.in-Some.here) = slice_get-get_or c.args.seen.now (c.args.at + 4) None c.if-start-seen.false ∙ ap Some c.in-Some.is in
    entry_kept c.args.image.now c.args.seen.now c.args.at c.in-Some.here c.requires kept (c.in-Some-unit.is ∙ ap Some (eqb-true c.in-Some-unit.entry c.args.at test))

pub returns-in-Some-unit-clause-no : goal.returns-in-Some-unit-clause-no
returns-in-Some-unit-clause-no c = λ test m.
    let is : slice_get c.args.seen.now (c.args.at + 4) ≡ Some (Some (kept_of (Some c.args.at) 0)) = kept_entry c.args.image.now c.args.seen.now c.args.at c.requires m in
    let kept : slice_get c.args.seen.now (c.args.at + 4) ≡ Some (Some c.in-Some.here) = slice_get-get_or c.args.seen.now (c.args.at + 4) None c.if-start-seen.false ∙ ap Some c.in-Some.is in
    let same = one_unit c.args.seen.now (c.args.at + 4) c.in-Some.here (kept_of (Some c.args.at) 0) kept is in
    let entry : c.in-Some-unit.entry ≡ c.args.at = same_Some c.in-Some-unit.entry c.args.at (sym c.in-Some-unit.is ∙ same) in
    let yes_ : (c.in-Some-unit.entry == c.args.at) ≡ true = eq-eqb c.in-Some-unit.entry c.args.at entry in
    cc (test, yes_)
