use Rattle.mic1_passes.proofs.Common.{◌≡◌, ◌+◌, ℕ, suc, Result, Ok, Err, ap, ◌∙◌, subst, arith, slice_index, AllocError, Mic1, microword_of, mic1_meaning, pass}
use Rattle.mic1_passes.proofs.Common.{Fits, LeadsOn, MeetsRefusal, Stop, Limit, OutOfMap as Nowhere, moment, Followed, Boundary, End, Unknown}
use Rattle.mic1_passes.proofs.Walks.{Came, arrives, came_to_stop, goes_on, is_within, is_off}
use Rattle.mic1_passes.proofs.run.follow.Goals as goal

count : Result Followed AllocError → ℕ
count (Ok (Boundary n)) = n
count (Ok (End n)) = n
count _ = 0

pub returns-then-to-entry-clause-boundary : goal.returns-then-to-entry-clause-boundary
unfolding count
returns-then-to-entry-clause-boundary c n stalls is e fits knows path =
    let words = c.args.store.now.words in
    let p = c.in-Some.p in
    let before : Fits e c.loop-n.work.nodes.nodes.items = c.in_ok-step.ensures.grows e fits in
    let walked = c.loop-n.invariant.walked e before knows path in
    let on : LeadsOn e p c.loop-n.path c.step.new.self = c.in_ok-step.ensures.done (λ i. Ok (c.in-Done.is i)) e fits knows walked.0 in
    let spelled : microword_of Mic1 p ≡ slice_index words c.loop-n.path.symbols.mpc = c.in-Some.ensures.known.1 ∙ c.word.ensures.value in
    let same : c.loop-n.n ≡ n = ap count is in
    let whole : n ≡ c.loop-n.n + 0 = omega (arith, same) in (
      on.path,
      ap (λ (k : ℕ). pass mic1_meaning words k (moment e stalls c.args.entry c.args.path.now)) whole
          ∙ (walked.1 stalls 0 ∙ arrives c.step_law.ensures words e stalls c.args.entry p c.loop-n.path c.step.new.self c.in-Some.ensures.known.0 spelled on),
    )

pub returns-then-to-eq254-clause-end : goal.returns-then-to-eq254-clause-end
unfolding count
returns-then-to-eq254-clause-end c n stalls is e fits knows path =
    let words = c.args.store.now.words in
    let p = c.in-Some.p in
    let before : Fits e c.loop-n.work.nodes.nodes.items = c.in_ok-step.ensures.grows e fits in
    let walked = c.loop-n.invariant.walked e before knows path in
    let on : LeadsOn e p c.loop-n.path c.step.new.self = c.in_ok-step.ensures.done (λ i. Ok (c.in-Done.is i)) e fits knows walked.0 in
    let spelled : microword_of Mic1 p ≡ slice_index words c.loop-n.path.symbols.mpc = c.in-Some.ensures.known.1 ∙ c.word.ensures.value in
    let same : c.loop-n.n ≡ n = ap count is in
    let whole : n ≡ c.loop-n.n + 0 = omega (arith, same) in (
      on.path,
      ap (λ (k : ℕ). pass mic1_meaning words k (moment e stalls c.args.entry c.args.path.now)) whole
          ∙ (walked.1 stalls 0 ∙ arrives c.step_law.ensures words e stalls c.args.entry p c.loop-n.path c.step.new.self c.in-Some.ensures.known.0 spelled on),
    )

end_of : Result Followed AllocError → Followed
end_of (Ok f) = f
end_of (Err e) = Unknown

pub returns-in-Refused-clause-boundary : goal.returns-in-Refused-clause-boundary
unfolding end_of
returns-in-Refused-clause-boundary c n stalls is = absurd (c.refused.ensures.boundary n (ap end_of is))

pub returns-in-Refused-clause-limit : goal.returns-in-Refused-clause-limit
unfolding end_of
returns-in-Refused-clause-limit c n stalls is e fits knows path =
    let words = c.args.store.now.words in
    let p = c.in-Some.p in
    let old = c.loop-n.path in
    let before : Fits e c.loop-n.work.nodes.nodes.items = c.in_ok-step.ensures.grows e fits in
    let walked = c.loop-n.invariant.walked e before knows path in
    let spelled : microword_of Mic1 p ≡ slice_index words old.symbols.mpc = c.in-Some.ensures.known.1 ∙ c.word.ensures.value in
    let here = c.refused.ensures.limit n (ap end_of is) in
    let meets : MeetsRefusal e p Limit old =
    subst (λ (why : Stop). MeetsRefusal e p why old) here.1 (c.in_ok-step.ensures.refused c.in-Refused.why (λ i. Ok (c.in-Refused.is i)) e fits knows walked.0) in
    let came : Came e words stalls c.args.entry n c.args.path.now old = c.loop-n.invariant.came e before knows path stalls n here.0 in
    came_to_stop c.step_law.ensures words e stalls c.args.entry n p Limit c.args.path.now old c.step.new.self c.in-Some.ensures.known.0 spelled came meets
    (c.in_ok-step.ensures.stays c.in-Refused.why (λ i. Ok (c.in-Refused.is i)))

pub returns-in-Refused-clause-out : goal.returns-in-Refused-clause-out
unfolding end_of
returns-in-Refused-clause-out c n stalls is e fits knows path =
    let words = c.args.store.now.words in
    let p = c.in-Some.p in
    let old = c.loop-n.path in
    let before : Fits e c.loop-n.work.nodes.nodes.items = c.in_ok-step.ensures.grows e fits in
    let walked = c.loop-n.invariant.walked e before knows path in
    let spelled : microword_of Mic1 p ≡ slice_index words old.symbols.mpc = c.in-Some.ensures.known.1 ∙ c.word.ensures.value in
    let here = c.refused.ensures.out n (ap end_of is) in
    let meets : MeetsRefusal e p Nowhere old =
    subst (λ (why : Stop). MeetsRefusal e p why old) here.1 (c.in_ok-step.ensures.refused c.in-Refused.why (λ i. Ok (c.in-Refused.is i)) e fits knows walked.0) in
    let came : Came e words stalls c.args.entry n c.args.path.now old = c.loop-n.invariant.came e before knows path stalls n here.0 in
    came_to_stop c.step_law.ensures words e stalls c.args.entry n p Nowhere c.args.path.now old c.step.new.self c.in-Some.ensures.known.0 spelled came meets
    (c.in_ok-step.ensures.stays c.in-Refused.why (λ i. Ok (c.in-Refused.is i)))

pub loop-n-preserved : goal.loop-n-preserved
loop-n-preserved c =
    let words = c.args.store.now.words in
    let p = c.in-Some.p in
    let new = c.step.new.self in
    let mpc = c.step.new.self.symbols.mpc in
    let spelled : microword_of Mic1 p ≡ slice_index words c.loop-n.path.symbols.mpc = c.in-Some.ensures.known.1 ∙ c.word.ensures.value in
    let inside = is_within mpc c.args.entry (is_off mpc c.args.entry c.if-to-entry.false) (is_off mpc 254 c.if-to-eq254.false) (is_off mpc 255 c.if-to-eq255.false) in
    record {
      walked = λ e fits knows path.
          let before : Fits e c.loop-n.work.nodes.nodes.items = c.in_ok-step.ensures.grows e fits in
          let walked = c.loop-n.invariant.walked e before knows path in
          let on : LeadsOn e p c.loop-n.path new = c.in_ok-step.ensures.done (λ i. Ok (c.in-Done.is i)) e fits knows walked.0 in (
            on.path,
            λ stalls k.
                let whole : c.loop-n.n + 1 + k ≡ c.loop-n.n + suc k = omega arith in
                ap (λ (j : ℕ). pass mic1_meaning words j (moment e stalls c.args.entry c.args.path.now)) whole
                ∙ (walked.1 stalls (suc k) ∙ goes_on c.step_law.ensures words e stalls c.args.entry p c.loop-n.path new c.in-Some.ensures.known.0 spelled on k inside),
          );
      came = λ e fits knows path stalls n is.
          let before : Fits e c.loop-n.work.nodes.nodes.items = c.in_ok-step.ensures.grows e fits in
          let walked = c.loop-n.invariant.walked e before knows path in
          let on : LeadsOn e p c.loop-n.path new = c.in_ok-step.ensures.done (λ i. Ok (c.in-Done.is i)) e fits knows walked.0 in
          let whole : n ≡ c.loop-n.n + 0 = omega (arith, is) in
          record {
            passes = ap (λ (k : ℕ). pass mic1_meaning words k (moment e stalls c.args.entry c.args.path.now)) whole
                ∙ (walked.1 stalls 0 ∙ arrives c.step_law.ensures words e stalls c.args.entry p c.loop-n.path new c.in-Some.ensures.known.0 spelled on);
            inside = inside;
          };
      grows = λ e fits. c.loop-n.invariant.grows e (c.in_ok-step.ensures.grows e fits);
    }
