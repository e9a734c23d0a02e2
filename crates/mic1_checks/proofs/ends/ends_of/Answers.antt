use Rattle.mic1_checks.proofs.Common.{refl, Err, Halt, shape_of}
use Rattle.mic1_checks.proofs.ends.ends_of.Goals as goal

pub returns-clause-ends : goal.returns-clause-ends
returns-clause-ends c =
    let halt = rw c.in-Some-halted.is at c.in_ok-halted.ensures.ends in
    let err = rw c.in-Some.is at c.in_ok-erred.ensures.ends in
    record {
      halts = λ before v o s q b. halt (shape_of q.state) before v o s q Halt b b.next.reads refl;
      errs = λ before v o s q b. err (shape_of q.state) before v o s q Err b b.next.reads refl;
    }
