use Rattle.mic2_interpreter.specs.Prelude.{stalls_of}
use Rattle.mic2_interpreter.proofs.laws.runs_stall_at_calls.Goals as goal

pub returns-clause-boundaries : goal.returns-clause-boundaries
returns-clause-boundaries c = λ store o v input bound has loads.
    c.stalls_add_up.ensures.boundaries 1 stalls_of store o v input bound has loads (c.stalls_law.ensures.boots store o v input has loads) (c.stalls_law.ensures.takes store o v has loads)

pub returns-clause-limit : goal.returns-clause-limit
returns-clause-limit c = λ store o v input bound has loads.
    c.stalls_add_up.ensures.limit 1 stalls_of store o v input bound has loads (c.stalls_law.ensures.boots store o v input has loads) (c.stalls_law.ensures.takes store o v has loads)
