use Rattle.verifier_locals.proofs.Common.{◌+◌, inr, arith, method_inside}
use Rattle.verifier_locals.proofs.Unsets.{graph_inside, are_set, reads_holds}
use Rattle.verifier_locals.proofs.Shortcuts.{short_inside, short_reads, short_reads_none}
use Rattle.verifier_locals.proofs.unset.check_wanted.Goals as goal

pub overflow_add-wanted : goal.overflow_add-wanted
overflow_add-wanted c =
    omega (arith, method_inside c.args.image.now c.requires.short.seen c.args.wanted.entry c.requires.short.closed c.requires.method, c.requires.long)

pub trace-requires-clause-inside : goal.trace-requires-clause-inside
trace-requires-clause-inside c =
    let s = c.requires.short in short_inside s.once c.args.short.now (short_inside s.graph s.once (graph_inside c.args.image.now s.seen s.graph s.is_graph) s.is_once) s.is_short

pub trace-requires-clause-start : goal.trace-requires-clause-start
trace-requires-clause-start c =
    omega (arith, method_inside c.args.image.now c.requires.short.seen c.args.wanted.entry c.requires.short.closed c.requires.method, c.requires.short.is_short.long, c.requires.short.is_once.long, c.requires.short.is_graph.long)

pub returns-in-Ok-None-clause-set : goal.returns-in-Ok-None-clause-set
returns-in-Ok-None-clause-set c =
    let s = c.requires.short in
    are_set c.args.image.now s.seen s.graph c.args.wanted c.own_locals-locals.result s.closed s.is_graph c.own_locals-locals.ensures
    (short_reads_none s.graph s.once c.args.wanted.group (c.args.wanted.entry + 4) c.own_locals-locals.result s.is_once
    (short_reads_none s.once c.args.short.now c.args.wanted.group (c.args.wanted.entry + 4) c.own_locals-locals.result s.is_short (rw c.in-Ok-None.field-0-is at c.in-Ok-None.ensures.none)))

pub returns-in-Ok-None-clause-ready : goal.returns-in-Ok-None-clause-ready
returns-in-Ok-None-clause-ready c = rw c.in-Ok-None.field-0-is at c.in-Ok-None.ensures.ready

pub returns-in-Ok-Some-clause-err : goal.returns-in-Ok-Some-clause-err
returns-in-Ok-Some-clause-err c = λ z.
    let s = c.requires.short in
    inr (
    reads_holds c.args.image.now z s.seen s.graph c.args.wanted c.own_locals-locals.result c.in-Ok-Some.at c.in-Ok-Some.local s.closed s.is_graph c.requires.method c.own_locals-locals.ensures
    (short_reads s.graph s.once c.args.wanted.group (c.args.wanted.entry + 4) c.own_locals-locals.result c.in-Ok-Some.at c.in-Ok-Some.local s.is_once
    (short_reads s.once c.args.short.now c.args.wanted.group (c.args.wanted.entry + 4) c.own_locals-locals.result c.in-Ok-Some.at c.in-Ok-Some.local s.is_short (rw c.in-Ok-Some.field-0-is at c.in-Ok-Some.ensures.some))))
