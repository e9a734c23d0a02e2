use Rattle.std.proofs.Common.{◌≡◌, ◌≢◌, refl, rules}
use Rattle.mic_base.specs.declared.source.SourceFailed.{SourceFailed}
use Rattle.cli_session.specs.declared.line.Read.TheVariants as reads
use Rattle.cli_session.proofs.Going.{goes_cut, goes_nowhere, goes_one, goes_wrong, gone_none}
use Rattle.cli_session.proofs.lines.do_line.Goals as goal

pub returns-in-Err-clause-goes : goal.returns-in-Err-clause-goes
returns-in-Err-clause-goes g c = λ n.
    rw (← c.outside.view_is)
    (goes_cut n c.read_line.new.line.items (gone_none refl refl refl refl c.requires.waits) c.in-Err.ensures.cause.failed c.in-Err.ensures.reads)

pub returns-then-eq-clause-goes : goal.returns-then-eq-clause-goes
returns-then-eq-clause-goes g c = λ n.
    let nothing : c.in-Ok.read ≡ reads.Nothing = search rules in
    rw (← c.outside.view_is)
    (goes_nowhere n (gone_none refl refl refl refl c.requires.waits) c.in-Ok.ensures.cause.quiet (rw nothing at c.in-Ok.ensures.reads))

pub returns-in-Ok-answer-clause-lasts : goal.returns-in-Ok-answer-clause-lasts
returns-in-Ok-answer-clause-lasts g c = λ on n lasts. c.in-Ok-answer.ensures.lasts n lasts

pub returns-in-Ok-answer-clause-goes : goal.returns-in-Ok-answer-clause-goes
returns-in-Ok-answer-clause-goes g c = λ n.
    let other : c.in-Ok.read ≢ reads.Nothing = search rules in
    let done = rw c.as_slice.ensures.value at c.in-Ok-answer.ensures.done in
    rw (← c.outside.view_is, c.step_after.ensures)
    (goes_one SourceFailed n c.read_line.new.line.items c.in-Ok.read c.in-Ok-answer.quits
    (rw c.as_slice.ensures.value at c.in-Ok-answer.ensures.quits) other
    (record {
      led = done.led;
      rules = done.rules;
      quits = done.quits;
      waiting = done.waiting;
      flushed_out = done.flushed_out;
      flushed_err = done.flushed_err;
      files = done.files;
      out = done.out;
      err = done.err;
    })
    (rw c.answer.ensures.console c.in-Ok.ensures.cause.quiet) (rw c.answer.ensures.console c.in-Ok.ensures.reads))

pub returns-in-Err-answer-clause-goes : goal.returns-in-Err-answer-clause-goes
returns-in-Err-answer-clause-goes g c = λ n.
    let other : c.in-Ok.read ≢ reads.Nothing = search rules in
    rw (← c.outside.view_is)
    (goes_wrong SourceFailed n c.read_line.new.line.items c.in-Ok.read other (gone_none refl refl refl refl c.requires.waits)
    (rw c.answer.ensures.console c.in-Ok.ensures.cause.quiet) (rw c.answer.ensures.console c.in-Ok.ensures.reads) (rw c.as_slice.ensures.value at c.in-Err-answer.ensures.broken))
