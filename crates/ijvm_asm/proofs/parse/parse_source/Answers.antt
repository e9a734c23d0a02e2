use Rattle.ijvm_asm.proofs.Common.{◌≡◌, false, subst, err_from_is_err_and, contents, Leads, StopsAt}
use Rattle.ijvm_asm.specs.Prelude.{is_memory, IsRefused, step}
use Rattle.ijvm_asm.proofs.Outcome.{is_refused, is_spelled}
use Rattle.ijvm_asm.proofs.parse.parse_source.Goals as goal

pub whole_program-requires : goal.whole_program-requires
whole_program-requires c = (c.args.text.now, subst (λ s. Leads step 1 s (contents c.args.text.now) c.read_lines.new.reader) c.new-reader.ensures c.in_ok-read_lines.ensures.ok)

pub returns-clause-ok : goal.returns-clause-ok
returns-clause-ok c =
    is_spelled c.reads_texts.ensures c.args.text.now c.read_lines.new.reader
    (subst (λ s. Leads step 1 s (contents c.args.text.now) c.read_lines.new.reader) c.new-reader.ensures c.in_ok-read_lines.ensures.ok) c.whole_program.result c.whole_program.ensures.ok

pub returns-clause-err : goal.returns-clause-err
returns-clause-err c =
    is_refused c.reads_texts.ensures c.args.text.now c.read_lines.new.reader
    (subst (λ s. Leads step 1 s (contents c.args.text.now) c.read_lines.new.reader) c.new-reader.ensures c.in_ok-read_lines.ensures.ok) c.whole_program.result c.whole_program.ensures.err

pub returns-in_err-read_lines-clause-err : goal.returns-in_err-read_lines-clause-err
returns-in_err-read_lines-clause-err c =
    let refusal = c.in_err-read_lines.field-0.0 in
    let refused : is_memory refusal ≡ false → IsRefused c.args.text.now refusal = λ free. c.reads_texts.ensures.stopped c.args.text.now c.read_lines.new.reader refusal
    (subst (λ s. StopsAt step 1 s (contents c.args.text.now) refusal c.read_lines.new.reader) c.new-reader.ensures (c.in_err-read_lines.ensures.err free)) in
    let answer = err_from_is_err_and c.from_residual.result c.from_residual.ensures.1 in
    let same : answer.0 ≡ refusal = answer.2 in
    rw answer.1 (rw same refused)
