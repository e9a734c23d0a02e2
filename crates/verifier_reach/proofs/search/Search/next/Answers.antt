use Rattle.verifier_reach.proofs.Common.{◌≡◌, ◌<◌, refl, arith, ap, ◌∙◌, Some, length, slice_get, slice_get_within, slice_get_read}
use Rattle.verifier_reach.proofs.Keeping.{taken_kept}
use Rattle.verifier_reach.proofs.search.Search.next.Goals as goal

pub index-requires : goal.index-requires
index-requires c =
    let t = taken_kept c.args.self.now.seen.items c.args.self.now.todo.items c.pop.new.self.items c.in-Some.at c.requires c.in-Some.ensures.items in
    let lt : c.in-Some.at < length c.args.self.now.seen.items = slice_get_within c.args.self.now.seen.items c.in-Some.at (Some t.0) t.1 in
    omega arith

pub unreachable-requires : goal.unreachable-requires
unreachable-requires c =
    let t = taken_kept c.args.self.now.seen.items c.args.self.now.todo.items c.pop.new.self.items c.in-Some.at c.requires c.in-Some.ensures.items in
    let lt : c.in-Some.at < length c.args.self.now.seen.items = slice_get_within c.args.self.now.seen.items c.in-Some.at (Some t.0) t.1 in
    let read : slice_get c.args.self.now.seen.items c.in-Some.at ≡ Some c.index.result.now =
    slice_get_read c.args.self.now.seen.items (length c.args.self.now.seen.items) c.in-Some.at c.index.result.now refl lt c.index.ensures in
    cc (t.1, read, c.in-None-index.is)

pub returns-in-Some-index-clause-some : goal.returns-in-Some-index-clause-some
returns-in-Some-index-clause-some c =
    let t = taken_kept c.args.self.now.seen.items c.args.self.now.todo.items c.pop.new.self.items c.in-Some.at c.requires c.in-Some.ensures.items in
    let lt : c.in-Some.at < length c.args.self.now.seen.items = slice_get_within c.args.self.now.seen.items c.in-Some.at (Some t.0) t.1 in
    let read : slice_get c.args.self.now.seen.items c.in-Some.at ≡ Some c.index.result.now =
    slice_get_read c.args.self.now.seen.items (length c.args.self.now.seen.items) c.in-Some.at c.index.result.now refl lt c.index.ensures in
    (c.in-Some.ensures.items, read ∙ ap Some c.in-Some-index.is)
