use Rattle.verifier_locals.proofs.Common.{◌≡◌, ◌+◌, sym, arith, refl, length, Some, subst, slice_get, slice_get_read, Trace, IsReady}
use Rattle.verifier_locals.proofs.Unsets.{wanted_method, graph_inside, set_next, set_again, set_all, none_unset, ready_later}
use Rattle.verifier_locals.proofs.Shortcuts.{short_inside}
use Rattle.verifier_locals.proofs.unset.check_locals.Goals as goal
use Rattle.verifier_locals.proofs.unset.check_locals.Goals.{then-is_new+in_ok-check_wanted, else-is_new}

pub check_wanted-requires-clause-small : goal.check_wanted-requires-clause-small
check_wanted-requires-clause-small c =
    c.in_ok-wanted.ensures.wanted.small c.index.result.now (c.loop-i.i, omega arith, sym c.index.ensures)

pub check_wanted-requires-clause-short : goal.check_wanted-requires-clause-short
check_wanted-requires-clause-short c =
    rw c.deref-then-is_new.ensures.value (record { seen = c.args.seen.now; closed = c.requires.closed; graph = c.args.graph.now; is_graph = c.requires.graph; once = c.in_ok-once.once.items; is_once = c.in_ok-once.ensures; is_short = rw c.deref.ensures.value at c.in_ok-short.ensures })

pub check_wanted-requires-clause-method : goal.check_wanted-requires-clause-method
check_wanted-requires-clause-method c =
    let w = c.in_ok-wanted.ensures.wanted.only c.index.result.now (c.loop-i.i, omega arith, sym c.index.ensures) in
    wanted_method c.args.image.now c.args.seen.now c.args.graph.now w.0 c.index.result.now c.requires.closed w.1

pub shortened-requires : goal.shortened-requires
shortened-requires c = graph_inside c.args.image.now c.args.seen.now c.args.graph.now c.requires.graph

pub shortened-requires-2 : goal.shortened-requires-2
shortened-requires-2 c =
    rw c.deref.ensures.value (short_inside c.args.graph.now c.in_ok-once.once.items (graph_inside c.args.image.now c.args.seen.now c.args.graph.now c.requires.graph) c.in_ok-once.ensures)

pub loop-i-preserved : goal.loop-i-preserved
loop-i-preserved c =
    elim c.if-is_new.branch [
      | then-is_new+in_ok-check_wanted w ↦
          let is : slice_get c.in_ok-wanted.wanted.items c.loop-i.i ≡ Some w.index.result.now =
          slice_get_read c.in_ok-wanted.wanted.items (length c.in_ok-wanted.wanted.items) c.loop-i.i w.index.result.now refl (omega arith) w.index.ensures in
          record {
            ready = subst (λ (t : Trace). IsReady (c.loop-i.i + 1 + 1) (length c.in_ok-short.short.items) t.marks.items t.todo.items) (sym w.trace-is) (rw w.deref-then-is_new.ensures.value at w.in_ok-check_wanted.ensures.ready);
            set = set_next c.args.image.now c.in_ok-wanted.wanted.items c.loop-i.i w.index.result.now c.loop-i.invariant.set is w.in_ok-check_wanted.ensures.set;
          }
      | else-is_new w ↦
          record {
            ready = subst (λ (t : Trace). IsReady (c.loop-i.i + 1 + 1) (length c.in_ok-short.short.items) t.marks.items t.todo.items) (sym w.trace-is)
                (ready_later (c.loop-i.i + 1) (length c.in_ok-short.short.items) c.loop-i.trace.marks.items c.loop-i.trace.todo.items c.loop-i.invariant.ready);
            set = set_again c.args.image.now c.in_ok-wanted.wanted.items c.loop-i.i c.loop-i.invariant.set (rw c.deref-in-loop-i.ensures.value at (c.is_new.ensures w.if-is_new.false));
          }
    ]

pub returns-clause-ok : goal.returns-clause-ok
returns-clause-ok c =
    none_unset c.args.image.now c.args.seen.now c.args.graph.now c.in_ok-wanted.wanted.items c.requires.closed c.requires.graph c.in_ok-wanted.ensures.wanted
    (set_all c.args.image.now c.in_ok-wanted.wanted.items (λ j w lt is. c.loop-i.invariant.set j w (omega arith) is))
