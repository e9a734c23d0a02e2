use Rattle.mal_parser.proofs.Common.{◌≡◌, false, subst, err_from_is_err_and, contents, Leads, StopsAt}
use Rattle.mal_parser.specs.Prelude.{IsRefused, is_memory, step}
use Rattle.mal_parser.proofs.Outcome.{is_refused, is_spelled, led_sound}
use Rattle.mal_parser.proofs.parse.read.Goals as goal

pub resolved_program-requires : goal.resolved_program-requires
resolved_program-requires c =
    led_sound c.args.machine (c.reads_texts.ensures c.args.machine) c.args.text.now c.read_lines.new.reader
    (subst (λ s. Leads step 1 s (contents c.args.text.now) c.read_lines.new.reader) c.new-reader.ensures c.in_ok-read_lines.ensures.ok) c.reads_lines.ensures

pub returns-clause-ok : goal.returns-clause-ok
returns-clause-ok c =
    is_spelled c.args.machine (c.reads_texts.ensures c.args.machine) c.args.text.now c.read_lines.new.reader
    (subst (λ s. Leads step 1 s (contents c.args.text.now) c.read_lines.new.reader) c.new-reader.ensures c.in_ok-read_lines.ensures.ok) c.resolved_program.result c.resolved_program.ensures.ok

pub returns-clause-err : goal.returns-clause-err
returns-clause-err c =
    is_refused c.args.machine (c.reads_texts.ensures c.args.machine) c.args.text.now c.read_lines.new.reader
    (subst (λ s. Leads step 1 s (contents c.args.text.now) c.read_lines.new.reader) c.new-reader.ensures c.in_ok-read_lines.ensures.ok) c.resolved_program.result c.resolved_program.ensures.err

pub returns-in_err-read_lines-clause-err : goal.returns-in_err-read_lines-clause-err
returns-in_err-read_lines-clause-err c =
    let refusal = c.in_err-read_lines.field-0.0 in
    let refused : is_memory refusal ≡ false → IsRefused c.args.machine c.args.text.now refusal = λ free.
    (c.reads_texts.ensures c.args.machine).stopped c.args.text.now c.read_lines.new.reader refusal
    (subst (λ s. StopsAt step 1 s (contents c.args.text.now) refusal c.read_lines.new.reader) c.new-reader.ensures (c.in_err-read_lines.ensures.err free)) in
    let answer = err_from_is_err_and c.from_residual.result c.from_residual.ensures.1 in
    let same : answer.0 ≡ refusal = answer.2 in
    rw answer.1 (rw same refused)
