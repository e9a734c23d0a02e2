use Rattle.cli_outside.specs.Prelude.{did, not_had}
use Rattle.cli_programs.proofs.verify.verify_file.Goals as goal

pub returns-in-Ok : goal.returns-in-Ok
returns-in-Ok g c =
    let printed = rw c.in-Ok.ensures.same at c.print.ensures in
    did c.in-Ok.program c.in-Ok.ensures.had (record {
      names = printed.names;
      does = record { text = c.bytes.result.now; shows = rw c.bytes.ensures.value c.summary_of.ensures; prints = printed.does };
    })

pub returns-in-Err : goal.returns-in-Err
returns-in-Err g c = not_had c.in-Err.ensures.not_had
