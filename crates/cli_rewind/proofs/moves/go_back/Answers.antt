use Rattle.cli_rewind.proofs.Common.{◌≡◌, ◌≤◌, ◌<◌, inl, inr, ℕ, refl, sym, subst, ◌∙◌, arith, le-leb, leb_tells, RewindView, Stand, StandsAt, back, kept}
use Rattle.cli_rewind.proofs.Returning.{back_all, back_ended, back_goes, back_more, back_none, back_step, none_kept}
use Rattle.cli_rewind.proofs.moves.go_back.Goals as goal

pub returns-then-not-back-clause-goes : goal.returns-then-not-back-clause-goes
returns-then-not-back-clause-goes g c =
    let state = g.M.Clocked.state in
    let m = g.M.Clocked.meaning in
    let d = c.args.rewind.now.history.depth in
    let made = c.cycles._made in
    let times = c.args.times in
    let less : made < times = c.cycles-test.true in
    let inv = c.cycles.invariant in
    let stayed = c.back.ensures.stayed c.if-not-back.true in
    λ left held s here.
    let at = inv.goes left held s here in
    let s' = back d made s in
    let none : kept d s' ≡ 0 = subst (λ (k : ℕ). kept k s' ≡ 0) inv.depth (none_kept state m left held c.cycles.rewind c.back.new.self s' at.0 stayed.0) in
    let all : made ≡ kept d s = back_ended d made s at.1 none in (
      subst (λ (x : Stand g.M.Clocked.State). StandsAt state m left held c.back.new.self x) (back_all d made times s all (omega (arith, less)))
          (subst (λ (v : RewindView g.row.M.Denot). StandsAt state m left held v s') (sym stayed.1) at.0),
      elim (leb_tells times (kept d s)) [
        | inl p ↦ (let le : times ≤ kept d s = p.1 in absurd (omega (arith, le, all, less)))
        | inr p ↦ (sym p.0)
      ],
    )

pub cycles-init : goal.cycles-init
cycles-init g c =
    record {
      goes = λ left held s here. (
        subst (λ (x : Stand g.M.Clocked.State). StandsAt g.M.Clocked.state g.M.Clocked.meaning left held c.args.rewind.now x) (sym
            (back_none c.args.rewind.now.history.depth s)) here,
        omega arith,
      );
      board = refl;
      depth = refl;
    }

pub cycles-preserved : goal.cycles-preserved
cycles-preserved g c =
    let state = g.M.Clocked.state in
    let m = g.M.Clocked.meaning in
    let d = c.args.rewind.now.history.depth in
    let made = c.cycles._made in
    let inv = c.cycles.invariant in
    let went = c.back.ensures.went c.if-not-back.false in
    record {
      goes = λ left held s here.
          let at = inv.goes left held s here in
          let s' = back d made s in
          let more = back_step state m left held c.cycles.rewind c.back.new.self s' at.0 went.0 went.1 in
          let some : 0 < kept d s' = subst (λ (k : ℕ). 0 < kept k s') inv.depth more.0 in
          let less = back_goes d made s at.1 some in (
            subst (λ (x : Stand g.M.Clocked.State). StandsAt state m left held c.back.new.self x) (back_more d made s less)
                (subst (λ (k : ℕ). StandsAt state m left held c.back.new.self (back k 1 s')) inv.depth more.1),
            omega (arith, less),
          );
      board = went.1 ∙ inv.board;
      depth = went.0.depth ∙ inv.depth;
    }

pub returns-clause-goes : goal.returns-clause-goes
returns-clause-goes g c =
    let state = g.M.Clocked.state in
    let m = g.M.Clocked.meaning in
    let d = c.args.rewind.now.history.depth in
    let made = c.cycles._made in
    let times = c.args.times in
    let over = c.cycles-test.false in
    let most = c.cycles.auto._made-end in
    let all : made ≡ times = omega (arith, over, most) in
    λ left held s here.
    let at = c.cycles.invariant.goes left held s here in
    let le = at.1 in (
      subst (λ (n : ℕ). StandsAt state m left held c.cycles.rewind (back d n s)) all at.0,
      sym (le-leb times (kept d s) (omega (arith, all, le))),
    )
