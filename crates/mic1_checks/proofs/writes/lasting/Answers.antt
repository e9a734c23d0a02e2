use Rattle.mic1_checks.proofs.Common.{◌≡◌, ◌<◌, ◌+◌, [], ◌∷◌, ℕ, List, Vec, Global, length, drop, get_or, refl, sym, ap, ◌∙◌, subst, arith, Any, drop_more}
use Rattle.mic1_checks.proofs.Common.{take_rest, Write, written_by}
use Rattle.mic1_checks.proofs.Orders.{without, written_append}
use Rattle.mic1_checks.proofs.writes.lasting.Goals as goal
use Rattle.mic1_checks.proofs.writes.lasting.Goals.{then-not-have_one_at+in_ok-push, else-not-have_one_at}

pub loop-place-preserved : goal.loop-place-preserved
loop-place-preserved c e words =
    let ws = c.args.writes.now in
    let k = c.loop-place.place in
    let none : Write = record { at = 0; value = 0 } in
    let w : Write = get_or ws k none in
    let rest : List Write = drop (k + 1) ws in
    let within : k < length ws = omega (arith, c.loop-place-test.true) in
    let before : List ℕ = written_by e.word c.loop-place.kept.items words in
    let step : written_by e.word (w ∷ rest) before ≡ written_by e.word ws words =
    ap (λ (xs : List Write). written_by e.word xs before) (sym (drop_more ws k none within)) ∙ c.loop-place.invariant e words in
    elim c.if-not-have_one_at.branch [
      | then-not-have_one_at+in_ok-push t ↦
          ap (λ (v : Vec Write Global). written_by e.word rest (written_by e.word v.items words)) t.kept-is
          ∙ (ap (λ (xs : List Write). written_by e.word rest (written_by e.word xs words)) t.in_ok-push.ensures.items
          ∙ (ap (λ (m : List ℕ). written_by e.word rest m) (written_append e.word c.loop-place.kept.items (w ∷ []) words) ∙ step))
      | else-not-have_one_at t ↦
          let later : Any (λ (x : Write). x.at ≡ w.at) rest =
          subst (λ (xs : List Write). Any (λ (x : Write). x.at ≡ w.at) xs) (take_rest ws (k + 1)) (t.if-not-have_one_at.ensures refl) in
          ap (λ (v : Vec Write Global). written_by e.word rest (written_by e.word v.items words)) t.kept-is
          ∙ (sym (without e.word w.at (e.word w.value) rest later before) ∙ step)
    ]
