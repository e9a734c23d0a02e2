use Rattle.std.proofs.Common.{rules, ◌≡◌, []}
use Rattle.verifier_locals.proofs.Traces.{tracing_begun, tracing_on, taken_inside, reads_none, reads_unset, ready_again}
use Rattle.verifier_locals.proofs.trace.Trace.trace.Goals as goal

pub loop-at-init : goal.loop-at-init
loop-at-init c =
    tracing_begun c.args.graph.now c.args.search c.args.group c.args.start c.args.locals c.args.self.now.marks.items c.mark.new.self.marks.items c.args.self.now.todo.items c.mark.new.self.todo.items c.requires.ready c.requires.start
    c.in_ok-mark.ensures.more c.in_ok-mark.ensures.here c.in_ok-mark.ensures.only

pub visit-requires-clause-at : goal.visit-requires-clause-at
visit-requires-clause-at c =
    taken_inside c.args.graph.now c.args.search c.args.group c.args.start c.args.locals c.loop-at.self.marks.items c.loop-at.self.todo.items c.pop.new.self.items c.in-Some.at c.loop-at.invariant c.in-Some.ensures.items

pub loop-at-preserved : goal.loop-at-preserved
loop-at-preserved c =
    tracing_on c.args.graph.now c.args.search c.args.group c.args.start c.args.locals c.loop-at.self.marks.items c.visit.new.self.marks.items c.loop-at.self.todo.items c.pop.new.self.items c.visit.new.self.todo.items c.in-Some.at
    c.loop-at.invariant c.in-Some.ensures.items
    (rw c.in_default-2.is at c.in_ok-local.ensures.more) (rw c.in_default-2.is at c.in_ok-local.ensures.done) (rw c.in_default-2.is at c.in_ok-local.ensures.ways)

pub returns-in-Some-2-clause-some : goal.returns-in-Some-2-clause-some
returns-in-Some-2-clause-some c =
    reads_unset c.args.graph.now c.args.search c.args.group c.args.start c.args.locals c.loop-at.self.marks.items c.loop-at.self.todo.items c.in-Some.at c.in-Some-2.local c.loop-at.invariant (rw c.in-Some-2.is at c.in_ok-local.ensures.read)

pub returns-clause-ready : goal.returns-clause-ready
returns-clause-ready c =
    let idle : c.loop-at.self.todo.items ≡ [] = search rules in
    let left : c.pop.new.self.items ≡ [] = search rules in
    rw left (rw idle at (ready_again c.args.graph.now c.args.search c.args.group c.args.start c.args.locals c.loop-at.self.marks.items c.loop-at.self.todo.items c.loop-at.invariant idle))

pub returns-clause-none : goal.returns-clause-none
returns-clause-none c =
    reads_none c.args.graph.now c.args.search c.args.group c.args.start c.args.locals c.loop-at.self.marks.items c.loop-at.self.todo.items c.loop-at.invariant (search rules)
