use Rattle.mic1_checks.proofs.Common.{◌≡◌, List, Ok, None, sym, ap, ◌∙◌, subst, All-same, All-nil, cost, Micro, mic1_meaning, IsReady, IsAt, Moment, Moves}
use Rattle.mic1_checks.proofs.Common.{Overruns, Node, Fits, AreOrdered, Answer, Symbols, AreAnswered, truth, HasSigns, Operands, AreLeft, IsReadyOrArriving}
use Rattle.mic1_checks.proofs.Common.{IsKnown, HasRegisters, shaped_symbols, start_moment, CarriedBy, CarriesOver}
use Rattle.mic1_checks.proofs.Begun.{Begun, begun}
use Rattle.mic1_checks.proofs.Starts.{twin, twin_stands}
use Rattle.mic1_checks.proofs.check.instruction_alike.Goals as goal

pub returns-clause-carries : goal.returns-clause-carries
returns-clause-carries c done before timing v o s q i takes b suits formed =
    let n = c.args.n in
    let store = c.args.stores.now.store.now.words in
    let other = c.args.stores.now.other.now.words in
    let entry = c.args.stores.now.entry in
    let entry' = c.args.stores.now.other_entry in
    let table : List Node = c.explore.new.work.nodes.nodes.items in
    let leaves = c.explore.new.leaves.items in
    let spent = cost v.image timing i s in
    let x : Symbols = c.in_ok-s.s in
    let y : Symbols = c.shaped-t.result in
    let shaped : y ≡ shaped_symbols c.args.shape x = c.shaped-t.ensures in
    let shown : c.finding_of.result ≡ None = cc in
    let ordered : AreOrdered table = c.finding_of.ensures.ordered shown in
    let registers : HasRegisters table = c.finding_of.ensures.registers shown in
    let t : Begun table n c.args.shape x entry' v s q i =
    begun c.environments_exist.ensures table ordered registers n c.args.shape x entry' v o s q i b suits formed
    (λ e fits. c.in_ok-s.ensures.value e (c.in_ok-known.ensures.grows e (c.in_ok-operands.ensures.grows e (c.in_ok-unlike.ensures.grows e fits)))) in
    let e = t.e in
    let operands : Operands = c.in_ok-operands.operands in
    let explored : Fits e c.operands_after.new.nodes.nodes.items = c.in_ok-unlike.ensures.grows e t.fits in
    let known : IsKnown e c.in_ok-known.known = c.in_ok-known.ensures.value e (c.in_ok-operands.ensures.grows e explored) i t.starts in
    let none : AreAnswered e c.deref.result.now =
    All-same (λ (a : Answer). truth e a.question (e.word a.number) ≡ a.is) _ _ (c.deref.ensures.value ∙ c.new-answers.ensures.items)
    (All-nil (λ (a : Answer). truth e a.question (e.word a.number) ≡ a.is)) in
    let over : CarriesOver e x y store other entry entry' n.row operands leaves =
    c.in_ok-unlike.ensures.carries (λ j. Ok (c.finding_of.ensures.none shown j)) e t.fits known t.signs
    (subst (HasSigns e.word) (sym shaped) t.signs_shaped) none in
    let own : start_moment e q.stalls entry' y ≡ q = ap (λ (z : Symbols). start_moment e q.stalls entry' z) shaped ∙ t.own in
    let from : Moment Micro = record { state = twin entry q.state; world = q.world; stalls = q.stalls } in
    let at_first : IsAt mic1_meaning IsReady entry o s from.state from.world = twin_stands o entry entry' s q.state q.world b.at in
    record {
      goes = λ to went.
          let moves : Moves mic1_meaning store (IsAt mic1_meaning IsReady entry o) before (start_moment e q.stalls entry x) spent to =
          subst (λ (p : Moment Micro). Moves mic1_meaning store (IsAt mic1_meaning IsReady entry o) before p spent to) (sym (t.from entry))
          (takes.goes s to from i tt b.fine b.next at_first went) in
          let left : AreLeft e operands to = c.in_ok-operands.ensures.value e explored i to t.starts (t.went to went) in
          subst (λ (p : Moment Micro). CarriedBy leaves n.row other before o entry' spent p to) own (over.moves before o q.stalls spent to left moves);
      limits = λ left overran.
          let runs : Overruns mic1_meaning store (IsAt mic1_meaning IsReady entry o) before (start_moment e q.stalls entry x) left =
          subst (λ (p : Moment Micro). Overruns mic1_meaning store (IsAt mic1_meaning IsReady entry o) before p left) (sym (t.from entry))
          (takes.limits s left from i tt b.fine b.next at_first overran) in
          subst (λ (p : Moment Micro). Overruns mic1_meaning other (IsAt mic1_meaning IsReadyOrArriving entry' o) before p left) own
          (over.limits before o q.stalls left runs);
    }
