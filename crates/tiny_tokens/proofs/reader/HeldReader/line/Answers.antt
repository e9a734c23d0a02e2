use Rattle.std.proofs.Common.{◌≡◌, ◌∙◌, ap, false, None, Ok, Some, subst, sym, true}
use Rattle.source_text.specs.Prelude.{lex, is_blank, token_of}
use Rattle.tiny_lexemes.specs.Prelude.{read, tiny}
use Rattle.tiny_tokens.specs.Prelude.{add_read}
use Rattle.tiny_tokens.proofs.Adding.{line_begins, line_blank, line_end, line_none, line_token}
use Rattle.tiny_tokens.proofs.reader.HeldReader.line.Goals as goal

pub loop-first-init : goal.loop-first-init
loop-first-init c = line_begins c.args.number c.args.self.now c.args.line.now

pub loop-first-preserved-then-is_blank : goal.loop-first-preserved-then-is_blank
loop-first-preserved-then-is_blank c =
    let b : is_blank c.in-Some.first.now ≡ true = sym c.is_blank.ensures ∙ c.if-is_blank.true in
    line_blank c.args.number c.loop-first.self c.in-Some.first.now c.in-Some.after.now c.loop-first.rest.now (add_read c.args.number c.args.self.now (read c.args.line.now))
    c.in-Some.ensures.cases.0 b c.loop-first.invariant

pub loop-first-preserved-in_ok-add : goal.loop-first-preserved-in_ok-add
loop-first-preserved-in_ok-add c =
    let b : is_blank c.in-Some.first.now ≡ false = sym c.is_blank.ensures ∙ c.if-is_blank.false in
    let total = add_read c.args.number c.args.self.now (read c.args.line.now) in
    let found : token_of tiny c.split_at.result.0.now ≡ Some c.in-Some-token.lexeme = sym c.token.ensures ∙ c.in-Some-token.is in
    subst (λ s. add_read c.args.number s (lex tiny 0 c.split_at.result.1.now) ≡ total) (sym c.in_ok-add.ensures)
    (line_token c.lines_have_one_reading.ensures.some c.args.number c.loop-first.self c.in-Some.first.now c.in-Some.after.now c.loop-first.rest.now
    c.extent.result c.split_at.result.0.now c.split_at.result.1.now c.in-Some-token.lexeme total
    c.in-Some.ensures.cases.0 c.extent.ensures.value c.split_at.ensures.front c.split_at.ensures.back b found c.loop-first.invariant)

pub loop-first-preserved : goal.loop-first-preserved
loop-first-preserved c =
    let b : is_blank c.in-Some.first.now ≡ false = sym c.is_blank.ensures ∙ c.if-is_blank.false in
    let none : token_of tiny c.split_at.result.0.now ≡ None = sym c.token.ensures ∙ c.in_default-token.is in
    absurd (line_none c.lines_have_one_reading.ensures.some c.in-Some.first.now c.in-Some.after.now c.loop-first.rest.now c.extent.result c.split_at.result.0.now
    c.in-Some.ensures.cases.0 c.extent.ensures.value c.split_at.ensures.front b none)

pub returns-clause-ok : goal.returns-clause-ok
returns-clause-ok c = ap Ok (line_end c.args.number c.loop-first.self c.loop-first.rest.now (add_read c.args.number c.args.self.now (read c.args.line.now))
    c.in_default.ensures.cases c.loop-first.invariant)
