use Rattle.mic1_checks.proofs.Common.{◌≡◌, ◌==◌, ℕ, List, Ok, None, refl, sym, ap, ◌∙◌, subst, arith, All-same, All-nil, Micro, mic1_meaning, Moment, pass}
use Rattle.mic1_checks.proofs.Common.{Node, AreOrdered, Answer, Symbols, IsPath, AreAnswered, truth, HasSigns, moment, Instruction, After, HasEndedAfter}
use Rattle.mic1_checks.proofs.Common.{IsKnown, Suits, HasRegisters, shaped_symbols, start_moment}
use Rattle.mic1_checks.proofs.Begun.{Begun, begun}
use Rattle.mic1_checks.proofs.Ended.{at_end, unchanged}
use Rattle.mic1_checks.proofs.ends.end_of.Goals as goal

pub returns : goal.returns
returns c cycles is before v o s q i b code formed =
    let n : Instruction = record { row = 25; opcode = c.args.ending.opcode; second = None } in
    let store = c.args.stores.now.other.now.words in
    let entry = c.args.stores.now.other_entry in
    let mpc = c.args.ending.address in
    let table : List Node = c.follow.new.work.nodes.nodes.items in
    let x : Symbols = c.in_ok-s.s in
    let y : Symbols = c.shaped-t.result in
    let shaped : y ≡ shaped_symbols c.args.shape x = c.shaped-t.ensures in
    let first = c.in_ok-path.path in
    let last = c.follow.new.path in
    let after : c.outcome.result ≡ After cycles = cc in
    let ends : HasEndedAfter c.in_ok-end.end cycles mpc entry last = rw (c.outcome.ensures.cycles cycles after) at c.cycles_to-cycles.ensures in
    let suits : Suits n o s = record { opcode = code; second = λ k h. absurd (cc) } in
    let ordered : AreOrdered table = c.outcome.ensures.ordered cycles after in
    let registers : HasRegisters table = c.outcome.ensures.registers cycles after in
    let t : Begun table n c.args.shape x entry v s q i =
    begun c.environments_exist.ensures table ordered registers n c.args.shape x entry v o s q i b suits formed
    (λ e fits. c.in_ok-s.ensures.value e (c.in_ok-known.ensures.grows e (c.in_ok-end.ensures.grows e fits))) in
    let e = t.e in
    let known : IsKnown e c.in_ok-known.known = c.in_ok-known.ensures.value e (c.in_ok-end.ensures.grows e t.fits) i t.starts in
    let none : AreAnswered e c.deref.result.now =
    All-same (λ (a : Answer). truth e a.question (e.word a.number) ≡ a.is) _ _ (c.deref.ensures.value ∙ c.new-answers.ensures.items)
    (All-nil (λ (a : Answer). truth e a.question (e.word a.number) ≡ a.is)) in
    let path : IsPath e first = c.in_ok-path.ensures.path e (subst (HasSigns e.word) (sym shaped) t.signs_shaped) none in
    let came = c.in_ok-end.ensures.end cycles q.stalls (λ j. Ok (ends.end j)) e t.fits known.knows path in
    let own : moment e q.stalls entry first ≡ q =
    c.in_ok-path.ensures.moment e q.stalls ∙ (ap (λ (z : Symbols). start_moment e q.stalls entry z) shaped ∙ t.own) in
    let here : q.state.mpc ≡ entry = b.at.ready.mpc ∙ b.at.ready.entry in
    let starts : e.start ≡ q.world = ap (λ (p : Moment Micro). p.world) t.own in
    record {
      n = cycles;
      spent_is = refl;
      short = omega (arith, ends.short);
      begins = record { no_halt = ap (λ (k : ℕ). k == 0x0FF) here ∙ ends.no_end.no_halt; no_err = ap (λ (k : ℕ). k == 0x0FE) here ∙ ends.no_end.no_err };
      there = moment e q.stalls entry last;
      passes = ap (λ (p : Moment Micro). pass mic1_meaning store cycles p) (sym own) ∙ came.1;
      off = at_end last.symbols.mpc mpc entry ends.ended.at ends.off;
      mpc_is = ends.ended.at;
      world = unchanged e last mpc ends.ended ∙ starts;
    }
