use Rattle.mic1_checks.proofs.Common.{refl, Result, Ok, sym, ap, ◌∙◌, subst, AllocError, Fits, IsNoEnd, Tried, Stopped, AreAtBoundary, AreAtLimit}
use Rattle.mic1_passes.specs.declared.run.Followed.TheVariants as followed
use Rattle.mic1_checks.proofs.KeptWords.{has_words}
use Rattle.mic1_checks.proofs.Leaves.{alike, limited, refused}
use Rattle.mic1_checks.proofs.leaf.attempt.Goals as goal

tried_in : Result Tried AllocError → Tried
tried_in (Ok t) = t
tried_in _ = Stopped

pub returns-in-Boundary-clause-alike : goal.returns-in-Boundary-clause-alike
unfolding tried_in
returns-in-Boundary-clause-alike c k is e fits known signs signs' answered =
    let s = c.args.start.now.first in
    let t = c.args.start.now.second in
    let row = c.args.start.now.row in
    let operands = c.args.start.now.operands in
    let store = c.args.stores.now.store.now.words in
    let other = c.args.stores.now.other.now.words in
    let entry = c.args.stores.now.entry in
    let entry' = c.args.stores.now.other_entry in
    let first = c.in_ok-first.first in
    let second = c.in_ok-second.second in
    let last = c.follow.new.path in
    let last' = c.follow-2.new.path in
    let mid : Fits e c.follow.new.work.nodes.nodes.items = c.in_ok-b.ensures.grows e fits in
    let ends : AreAtBoundary e entry entry' row operands c.in-Boundary.n c.in_ok-b.b k last last' = c.at_boundary.ensures.alike k is e fits known.knows in
    let path = c.in_ok-first.ensures.path e signs answered in
    let path' = c.in_ok-second.ensures.path e signs' answered in
    let begins : IsNoEnd second.symbols.mpc = subst IsNoEnd (sym c.in_ok-second.ensures.mpc) (c.if-not-is_no_end.ensures refl) in
    alike e s t store other entry entry' row operands c.transfer_law.ensures.one first last (c.in_ok-first.ensures.moment e)
    second last' (c.in_ok-second.ensures.moment e)
    c.transfer_law.ensures.moves k ends.its_row (λ stalls.
    let p1 = c.in_ok-a.ensures.boundary k.first stalls (λ i. Ok ((c.in-Boundary.is ∙ ap followed.Boundary ends.first) i)) e mid known.knows path in
    let p2 = c.in_ok-b.ensures.boundary k.second stalls (λ i. Ok (ends.second i)) e fits known.knows path' in
    record {
      begins = begins;
      passes = p1.1;
      passes' = p2.1;
      alike = ends.alike;
      words = has_words e c.follow-2.new.work.nodes.nodes.items fits known.words stalls entry' last' p2.0;
      short = ends.short;
    })

pub returns-in-Limit-clause-stopped : goal.returns-in-Limit-clause-stopped
unfolding tried_in
returns-in-Limit-clause-stopped c is e fits known signs signs' answered =
    let s = c.args.start.now.first in
    let t = c.args.start.now.second in
    let row = c.args.start.now.row in
    let operands = c.args.start.now.operands in
    let store = c.args.stores.now.store.now.words in
    let other = c.args.stores.now.other.now.words in
    let entry = c.args.stores.now.entry in
    let entry' = c.args.stores.now.other_entry in
    let first = c.in_ok-first.first in
    let second = c.in_ok-second.second in
    let last = c.follow.new.path in
    let last' = c.follow-2.new.path in
    let mid : Fits e c.follow.new.work.nodes.nodes.items = c.in_ok-b.ensures.grows e fits in
    let ends : AreAtLimit c.in_ok-b.b last last' = c.at_limit.ensures.stopped (ap tried_in is) in
    let path = c.in_ok-first.ensures.path e signs answered in
    let path' = c.in_ok-second.ensures.path e signs' answered in
    let begins : IsNoEnd second.symbols.mpc = subst IsNoEnd (sym c.in_ok-second.ensures.mpc) (c.if-not-is_no_end.ensures refl) in
    limited e s t store other entry entry' row operands c.transfer_law.ensures.one first last (c.in_ok-first.ensures.moment e)
    second last' (c.in_ok-second.ensures.moment e)
    c.transfer_law.ensures.limits c.in-Limit.n ends.n (λ stalls.
    record {
      begins = begins;
      stops = c.in_ok-a.ensures.limit c.in-Limit.n stalls (λ i. Ok (c.in-Limit.is i)) e mid known.knows path;
      stops' = c.in_ok-b.ensures.limit ends.n stalls (λ i. Ok (ends.second i)) e fits known.knows path';
      taken = ends.taken;
      given = ends.given;
      short = ends.short;
    })

pub returns-in-OutOfMap-clause-stopped : goal.returns-in-OutOfMap-clause-stopped
returns-in-OutOfMap-clause-stopped c is e fits known signs signs' answered =
    let s = c.args.start.now.first in
    let t = c.args.start.now.second in
    let store = c.args.stores.now.store.now.words in
    let other = c.args.stores.now.other.now.words in
    let entry = c.args.stores.now.entry in
    let entry' = c.args.stores.now.other_entry in
    let first = c.in_ok-first.first in
    let n = c.in-OutOfMap.field-0 in
    refused e s t store other entry entry' c.args.start.now.row c.args.start.now.operands c.transfer_law.ensures.one
    first c.follow.new.path (c.in_ok-first.ensures.moment e)
    n (λ stalls. c.in_ok-a.ensures.out n stalls (λ i. Ok (c.in-OutOfMap.is i)) e fits known.knows (c.in_ok-first.ensures.path e signs answered))
