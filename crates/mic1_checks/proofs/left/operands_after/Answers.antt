use Rattle.mic1_checks.proofs.Common.{ℕ, sym, ap, ◌∙◌, plus}
use Rattle.mic1_checks.proofs.Leaving.{after_call, after_istore, after_wide_istore}
use Rattle.mic1_checks.proofs.left.operands_after.Goals as goal

pub returns-then-n-eq-ISTORE-clause-value : goal.returns-then-n-eq-ISTORE-clause-value
returns-then-n-eq-ISTORE-clause-value c e fits i to b went =
    let x = c.args.s.now in
    let index = c.in_ok-index.ensures.value e (c.in_ok-local.ensures.grows e fits) in
    after_istore e c.args.n x i to b went c.if-n-eq-ISTORE.true c.in_ok-local.local
    (c.in_ok-local.ensures.value e fits ∙ ap (λ (k : ℕ). plus (e.word x.lv) k) index)

pub returns-then-is_wide_store-clause-value : goal.returns-then-is_wide_store-clause-value
returns-then-is_wide_store-clause-value c e fits i to b went =
    let x = c.args.s.now in
    let index = c.in_ok-index-2.ensures.value e (c.in_ok-local-2.ensures.grows e fits) in
    after_wide_istore e c.args.n x i to b went c.if-n-eq-WIDE.true (sym c.is_wide_store.ensures ∙ c.if-is_wide_store.true)
    c.in_ok-local-2.local
    (c.in_ok-local-2.ensures.value e fits ∙ ap (λ (k : ℕ). plus (e.word x.lv) k) index)

pub returns-then-n-eq-INVOKEVIRTUAL-clause-value : goal.returns-then-n-eq-INVOKEVIRTUAL-clause-value
returns-then-n-eq-INVOKEVIRTUAL-clause-value c e fits i to b went =
    after_call e c.args.n c.args.s.now i to b went c.if-n-eq-INVOKEVIRTUAL.true
