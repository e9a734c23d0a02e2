use Rattle.mic1_cycles.proofs.Common.{◌≡◌, List, Result, Ok, refl, sym, ap, ◌∙◌, subst, next_address, Fits, Symbols, assigned_symbols, moved_symbols}
use Rattle.mic1_cycles.proofs.Common.{IsAccessed, LeadsTo, ports_of, Answer, AllocError, Stop, OutOfMap, Stepped, AreRefused, refusal_of, trail_of, AreAnswered}
use Rattle.mic1_cycles.specs.declared.step.Stepped.TheVariants.{Refused}
use Rattle.mic1_cycles.proofs.path.Path.step.Goals as goal

why_of : Result Stepped AllocError → Stop
why_of (Ok (Refused why)) = why
why_of _ = OutOfMap

pub returns-in-Refused-clause-refused : goal.returns-in-Refused-clause-refused
unfolding why_of
returns-in-Refused-clause-refused c why done e fits knows path =
    let p = c.args.p.now in
    let s = c.args.self.now.symbols in
    let t = trail_of c.args.self.now in
    let r = c.in_ok-values.values in
    let loaded = c.assigned-loaded.result in
    let here : Symbols = assigned_symbols p.part.dests r.v s in
    let is : loaded ≡ here = c.assigned-loaded.ensures in
    let answered : AreAnswered e c.deref.result.now = subst (λ (xs : List Answer). AreAnswered e xs) (sym c.deref.ensures.value) path.answered in
    let refused : AreRefused e p.part.mem p.part.fetch why (ports_of e.word e.start here) =
    subst (λ (l : Symbols). AreRefused e p.part.mem p.part.fetch why (ports_of e.word e.start l)) is
    (subst (λ (w : Stop). AreRefused e p.part.mem p.part.fetch w (ports_of e.word e.start loaded)) (ap why_of done)
    (c.refusal_in.ensures c.in-Refused.why c.in-Refused.is e fits knows answered)) in
    record {
      at = refused.at;
      step = c.refusal_law.ensures.stops e.word e.start p r.zero r.x r.v s t (refusal_of why refused.at) path.signs (c.in_ok-values.ensures.value e fits) refused.is;
    }

pub returns-clause-done : goal.returns-clause-done
returns-clause-done c done e fits knows path =
    let p = c.args.p.now in
    let s = c.args.self.now.symbols in
    let t = trail_of c.args.self.now in
    let t' = trail_of c.transfer.new.self in
    let r = c.in_ok-values.values in
    let word = c.in-Some.word in
    let byte = c.in-Some-2.byte in
    let loaded = c.assigned-loaded.result in
    let here : Symbols = assigned_symbols p.part.dests r.v s in
    let is : loaded ≡ here = c.assigned-loaded.ensures in
    let transferred : Fits e c.transfer.new.nodes.nodes.items = c.in_ok-byte.ensures.grows e fits in
    let before : Fits e c.computed.new.nodes.nodes.items = c.in_ok-word.ensures.grows e transferred in
    let answered : AreAnswered e c.deref-2.result.now = subst (λ (xs : List Answer). AreAnswered e xs) (sym c.deref-2.ensures.value) path.answered in
    let goes : next_address p.next (e.word r.x) (e.word loaded.mbr.plain) ≡ c.in-To.to = c.next_of.ensures c.in-To.to c.in-To.is e before answered in
    let moves = rw c.in-Some.is at c.in_ok-word.ensures.value in
    let moved = moves e transferred knows path.answered in
    let fetches = rw c.in-Some-2.is at c.in_ok-byte.ensures.value in
    let still : AreAnswered e c.deref-4.result.now = subst (λ (xs : List Answer). AreAnswered e xs) (sym (c.deref-4.ensures.value ∙ c.in_ok-word.ensures.answers)) path.answered in
    let fetched = fetches loaded t' refl (sym c.deref-3.ensures.value) e fits knows still in
    let accessed : IsAccessed e.word e.start p.part.mem p.part.fetch (ports_of e.word e.start loaded) t word byte t' =
    (c.access_law.ensures e.word e.start).joined p.part.mem p.part.fetch (ports_of e.word e.start loaded) t t' word byte moved fetched in
    let leads : LeadsTo e.word e.start p s t (moved_symbols c.in-To.to word byte here) t' =
    c.cycle_law.ensures e.word e.start p r.zero r.x r.v c.in-To.to s t t' word byte path.signs (c.in_ok-values.ensures.value e before)
    (subst (λ (l : Symbols). IsAccessed e.word e.start p.part.mem p.part.fetch (ports_of e.word e.start l) t word byte t') is accessed)
    (subst (λ (l : Symbols). next_address p.next (e.word r.x) (e.word l.mbr.plain) ≡ c.in-To.to) is goes) in
    let there : LeadsTo e.word e.start p s t (moved_symbols c.in-To.to word byte loaded) t' =
    subst (λ (l : Symbols). LeadsTo e.word e.start p s t (moved_symbols c.in-To.to word byte l) t') (sym is) leads in
    record {
      leads = there;
      path = record {
        signs = there.signs;
        answered = subst (λ (xs : List Answer). AreAnswered e xs) (sym c.in_ok-word.ensures.answers) path.answered;
      };
    }
