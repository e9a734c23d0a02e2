use Rattle.source_text.proofs.Common.{◌≡◌, ◌∙◌, sym, Some, None, true, false, is_blank, token_of, lex}
use Rattle.source_text.proofs.Lexing.{goes_blank, is_done, is_read, spelled, steps_on}
use Rattle.source_text.proofs.tokens.tokens_of.Goals as goal

pub loop-first-preserved-then-is_blank : goal.loop-first-preserved-then-is_blank
loop-first-preserved-then-is_blank g c =
    let b : is_blank c.in-Some.first.now ≡ true = sym c.is_blank.ensures ∙ c.if-is_blank.true in
    goes_blank g.L.Language.table c.loop-first.tokens.items c.in-Some.first.now c.in-Some.after.now c.loop-first.rest.now (lex g.L.Language.table 0 c.args.line.now) c.in-Some.ensures.cases.0 b c.loop-first.invariant

pub returns-in_default-token-clause-bad : goal.returns-in_default-token-clause-bad
returns-in_default-token-clause-bad g c = λ _ tokens s.
    let b : is_blank c.in-Some.first.now ≡ false = sym c.is_blank.ensures ∙ c.if-is_blank.false in
    let none : token_of g.L.Language.table c.split_at.result.0.now ≡ None = sym c.token.ensures ∙ c.in_default-token.is in
    let unread = steps_on g.L.Language.table c.loop-first.tokens.items c.in-Some.first.now c.in-Some.after.now c.loop-first.rest.now c.extent.result c.split_at.result.0.now c.split_at.result.1.now None (lex g.L.Language.table 0 c.args.line.now)
    c.in-Some.ensures.cases.0 c.extent.ensures.value c.split_at.ensures.front c.split_at.ensures.back b none c.loop-first.invariant in
    let read = is_read g.L.Language.table tokens c.args.line.now s in
    cc

pub loop-first-preserved : goal.loop-first-preserved
loop-first-preserved g c =
    let b : is_blank c.in-Some.first.now ≡ false = sym c.is_blank.ensures ∙ c.if-is_blank.false in
    let found : token_of g.L.Language.table c.split_at.result.0.now ≡ Some c.in-Some-token.token = sym c.token.ensures ∙ c.in-Some-token.is in
    rw c.in_ok-push.ensures.items (steps_on g.L.Language.table c.loop-first.tokens.items c.in-Some.first.now c.in-Some.after.now c.loop-first.rest.now c.extent.result c.split_at.result.0.now c.split_at.result.1.now (Some c.in-Some-token.token) (lex g.L.Language.table 0 c.args.line.now)
    c.in-Some.ensures.cases.0 c.extent.ensures.value c.split_at.ensures.front c.split_at.ensures.back b found c.loop-first.invariant)

pub returns-clause-ok : goal.returns-clause-ok
returns-clause-ok g c =
    spelled g.L.Language.table c.args.line.now c.loop-first.tokens.items
    (is_done g.L.Language.table c.loop-first.tokens.items c.loop-first.rest.now (lex g.L.Language.table 0 c.args.line.now) c.in_default.ensures.cases c.loop-first.invariant)
