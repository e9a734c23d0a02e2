use Rattle.ijvm_simulation.specs.Prelude.{IsAt}
use Rattle.ijvm_simulation.proofs.Next.{Known}
use Rattle.ijvm_simulation.proofs.Stalls.{stalled_at, cut_at}
use Rattle.ijvm_simulation.proofs.laws.stalls_add_up.Goals as goal

pub returns : goal.returns
returns g c =
    let known : Known = record { sound = c.accepted_images_keep_sound.ensures; start = c.runs_keep_words.ensures.start; goes = c.runs_keep_words.ensures.goes } in
    record {
      boundaries = λ booting stalls_of store o v input bound has loads boots takes.
          stalled_at g.I.Machine.Clocked.meaning store (IsAt g.I.Machine.Clocked.meaning g.I.Machine.Clocked.IsReady g.I.Interpreter.entry o) o v loads known g.I.Interpreter.timing
          (c.law.ensures.law store o v has loads) stalls_of takes bound g.I.Interpreter.entry booting input boots (c.law.ensures.boots store o v input has loads);
      limit = λ booting stalls_of store o v input bound has loads boots takes.
          cut_at g.I.Machine.Clocked.meaning store (IsAt g.I.Machine.Clocked.meaning g.I.Machine.Clocked.IsReady g.I.Interpreter.entry o) o v loads known g.I.Interpreter.timing
          (c.law.ensures.law store o v has loads) stalls_of takes bound g.I.Interpreter.entry booting input boots (c.law.ensures.boots store o v input has loads);
    }
