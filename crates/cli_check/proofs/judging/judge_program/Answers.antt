use Rattle.cli_check.proofs.Common.{◌∙◌, ap, Ok, NotShown, Proved, proved_text}
use Rattle.cli_check.proofs.judging.judge_program.Goals as goal

pub returns-in-Ok : goal.returns-in-Ok
returns-in-Ok g c =
    let checked = c.in-Ok-Proved.checked in
    record {
      names = c.print.ensures.names;
      does =
          Proved checked
          (record {
            loaded = c.args.micro.loaded;
            is_loaded = c.args.micro.is_loaded;
            store_is = c.in-Ok-Proved.ensures.store checked (λ i. Ok (c.in-Ok-Proved.field-0-is i));
            entry_is = c.in-Ok-Proved.ensures.entry checked (λ i. Ok (c.in-Ok-Proved.field-0-is i));
            is_checked = c.costs.ensures.checked;
          })
          (rw (c.deref.ensures.value ∙ c.in-Ok.ensures ∙ ap proved_text c.costs.ensures.is) at c.print.ensures.does);
    }

pub returns-in-Ok-not_shown_text : goal.returns-in-Ok-not_shown_text
returns-in-Ok-not_shown_text g c =
    let text = c.in-Ok-not_shown_text.ensures in
    record {
      names = c.print-in-Ok-not_shown_text.ensures.names;
      does =
          NotShown c.deref-in-Ok-not_shown_text.result.now (text.0, c.deref-in-Ok-not_shown_text.ensures.value ∙ text.1)
          c.print-in-Ok-not_shown_text.ensures.does;
    }
