use Rattle.verifier_reach.proofs.Common.{◌≡◌, [], ◌∷◌, ◌++◌, Some, None, slice_get_within, get_set_same}
use Rattle.verifier_reach.proofs.Keeping.{search_set, grows_set}
use Rattle.verifier_reach.proofs.search.Search.keep.Goals as goal

pub returns-clause-search : goal.returns-clause-search
returns-clause-search c =
    let e : c.push.new.self.items ≡ c.args.self.now.todo.items ++ c.args.at ∷ [] = c.in_ok-push.ensures.items in
    rw e (search_set c.args.image.now c.args.self.now.seen.items c.args.self.now.todo.items c.args.at c.args.here c.requires.search c.requires.empty c.requires.reached c.requires.low)

pub returns-clause-grows : goal.returns-clause-grows
returns-clause-grows c =
    let e : c.push.new.self.items ≡ c.args.self.now.todo.items ++ c.args.at ∷ [] = c.in_ok-push.ensures.items in
    rw e (grows_set c.args.self.now.seen.items c.args.self.now.todo.items c.args.at c.args.here c.requires.empty)

pub returns-clause-here : goal.returns-clause-here
returns-clause-here c =
    get_set_same c.args.self.now.seen.items c.args.at (Some c.args.here) (slice_get_within c.args.self.now.seen.items c.args.at None c.requires.empty)
