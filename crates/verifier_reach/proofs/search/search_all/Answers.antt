use Rattle.verifier_reach.proofs.Common.{◌∙◌, None, inr, refl, sym, Start, arrival}
use Rattle.verifier_reach.proofs.Keeping.{search_pop, running_on, closed_from, decided, empty_text}
use Rattle.verifier_reach.proofs.search.search_all.Goals as goal

pub visit-requires-clause-search : goal.visit-requires-clause-search
visit-requires-clause-search c =
    rw c.next.ensures.seen (search_pop c.args.image.now c.loop-here.search.seen.items c.loop-here.search.todo.items c.next.new.self.todo.items c.in-Some.at c.loop-here.invariant.search c.in-Some.ensures.some.0)

pub loop-here-preserved : goal.loop-here-preserved
loop-here-preserved c =
    running_on c.args.image.now c.loop-here.search.seen.items c.visit.new.self.seen.items c.loop-here.search.todo.items c.next.new.self.todo.items c.visit.new.self.todo.items
    c.in-Some.here c.in-Some.at c.loop-here.invariant c.in-Some.ensures.some.0 c.in-Some.ensures.some.1 c.in_ok-visit.ensures.search
    (rw c.next.ensures.seen at c.in_ok-visit.ensures.grows) c.in_ok-visit.ensures.done

pub returns-clause-ok : goal.returns-clause-ok
returns-clause-ok c =
    rw c.next.ensures.seen (closed_from c.args.image.now c.loop-here.search.seen.items c.loop-here.search.todo.items c.loop-here.invariant c.in_default.ensures.none)

pub returns-clause-decided : goal.returns-clause-decided
returns-clause-decided c = λ z e.
    decided c.args.image.now z c.loop-here.search.seen.items
    (closed_from c.args.image.now c.loop-here.search.seen.items c.loop-here.search.todo.items c.loop-here.invariant c.in_default.ensures.none) e

pub returns-then-text_len-eq0-clause-err : goal.returns-then-text_len-eq0-clause-err
returns-then-text_len-eq0-clause-err c = λ z.
    inr (arrival None 0 0 None, Start, (refl, empty_text c.args.image.now.text (sym c.text_len.ensures.is ∙ c.if-text_len-eq0.true)))
