use Rattle.mic1_cycles.proofs.Common.{List, Ok, Some, None, refl, sym, subst, Mem, Write, ports_of, IsTransferred, Answer, trail_of, AreAnswered, Reads}
use Rattle.mic1_cycles.proofs.ReadAccesses.{read_leads}
use Rattle.mic1_cycles.proofs.path.Path.transfer.Goals as goal

pub returns-then-branch-clause-value : goal.returns-then-branch-clause-value
returns-then-branch-clause-value c e fits knows answered =
    subst (λ (m : Mem). IsTransferred e.word e.start m (ports_of e.word e.start c.args.s.now) (trail_of c.args.self.now) None (trail_of c.put.new.self)) (sym c.in-Write.is)
    (c.in_ok-put-in-Write.ensures.value (λ i. Ok (c.if-branch.true i)) c.args.s.now refl refl e fits knows answered)

pub returns-in-Some-clause-value : goal.returns-in-Some-clause-value
returns-in-Some-clause-value c e fits knows answered =
    let s = c.args.s.now in
    let t = trail_of c.args.self.now in
    let r = c.in-Some.read in
    let given : AreAnswered e c.deref-in-Read.result.now = subst (λ (xs : List Answer). AreAnswered e xs) (sym c.deref-in-Read.ensures.value) answered in
    let all = rw c.in-Some.is at c.in_ok-read-in-Read.ensures.value in
    let reads : Reads e s.mar t.writes t.taken r.word r.taken =
    subst (λ (ws : List Write). Reads e s.mar ws t.taken r.word r.taken) c.deref.ensures.value (all e fits knows given) in
    subst (λ (m : Mem). IsTransferred e.word e.start m (ports_of e.word e.start s) t (Some r.word) (record t { taken = r.taken })) (sym c.in-Read.is)
    (read_leads e (c.access_law.ensures e.word e.start) s t r.word r.taken knows.size reads)
