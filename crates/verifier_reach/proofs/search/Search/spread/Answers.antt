use Rattle.verifier_reach.proofs.Common.{◌≡◌, arith, sym, subst, refl, inl, inr, to_z-of_z, ints, on_ok_weaker, target, Flow, HasNext, HasJump}
use Rattle.verifier_reach.proofs.Keeping.{on_way, grows_on}
use Rattle.verifier_reach.proofs.search.Search.spread.Goals as goal

pub arrive-requires-clause-reached : goal.arrive-requires-clause-reached
arrive-requires-clause-reached c =
    rw c.size.ensures.is (
    on_way c.args.image.now c.args.here c.args.at c.args.found.row c.args.found.need _ _ (c.requires.search.reached c.args.at c.args.here c.requires.kept) c.requires.checked c.in-Next.is (inl (refl, refl))
    (c.requires.checked.next (subst HasNext (sym c.in-Next.is) refl)))

pub arrive-requires-in-Jump-clause-reached : goal.arrive-requires-in-Jump-clause-reached
arrive-requires-in-Jump-clause-reached c =
    let same : c.target_of.result ≡ target c.args.at c.in-Jump.offset = grind (arith, to_z-of_z, c.target_of.ensures) in
    rw same (
    on_way c.args.image.now c.args.here c.args.at c.args.found.row c.args.found.need _ _ (c.requires.search.reached c.args.at c.args.here c.requires.kept) c.requires.checked c.in-Jump.is (inr (c.in-Jump.offset, refl, refl))
    (c.requires.checked.jump c.in-Jump.offset (subst (λ (f : Flow). HasJump f c.in-Jump.offset) (sym c.in-Jump.is) refl)))

pub arrive-requires-in-Branch-clause-reached : goal.arrive-requires-in-Branch-clause-reached
arrive-requires-in-Branch-clause-reached c =
    rw c.size.ensures.is (
    on_way c.args.image.now c.args.here c.args.at c.args.found.row c.args.found.need _ _ (c.requires.search.reached c.args.at c.args.here c.requires.kept) c.requires.checked c.in-Branch.is (inl (refl, refl))
    (c.requires.checked.next (subst HasNext (sym c.in-Branch.is) refl)))

pub arrive-requires-in-Branch-2-clause-reached : goal.arrive-requires-in-Branch-2-clause-reached
arrive-requires-in-Branch-2-clause-reached c =
    let same : c.target_of-in-Branch.result ≡ target c.args.at c.in-Branch.offset = search (arith, ints, to_z-of_z, c.target_of-in-Branch.ensures) in
    rw same (
    on_way c.args.image.now c.args.here c.args.at c.args.found.row c.args.found.need _ _ (c.requires.search.reached c.args.at c.args.here c.requires.kept) c.requires.checked c.in-Branch.is (inr (c.in-Branch.offset, refl, refl))
    (c.requires.checked.jump c.in-Branch.offset (subst (λ (f : Flow). HasJump f c.in-Branch.offset) (sym c.in-Branch.is) refl)))

pub arrive-requires-in-Call-clause-reached : goal.arrive-requires-in-Call-clause-reached
arrive-requires-in-Call-clause-reached c =
    rw c.size.ensures.is (
    on_way c.args.image.now c.args.here c.args.at c.args.found.row c.args.found.need _ _ (c.requires.search.reached c.args.at c.args.here c.requires.kept) c.requires.checked c.in-Call.is (inl (refl, refl))
    (c.requires.checked.next (subst HasNext (sym c.in-Call.is) refl)))

pub returns-in_ok-arrive-in-Branch-clause-grows : goal.returns-in_ok-arrive-in-Branch-clause-grows
returns-in_ok-arrive-in-Branch-clause-grows c =
    on_ok_weaker c.arrive-in-Branch-2.result (λ g. grows_on _ _ _ _ _ _ c.in_ok-arrive-in-Branch.ensures.grows g) c.arrive-in-Branch-2.ensures.grows

pub returns-in_ok-arrive-in-Call-clause-grows : goal.returns-in_ok-arrive-in-Call-clause-grows
returns-in_ok-arrive-in-Call-clause-grows c =
    on_ok_weaker c.enter.result (λ g. grows_on _ _ _ _ _ _ c.in_ok-arrive-in-Call.ensures.grows g) c.enter.ensures.grows
