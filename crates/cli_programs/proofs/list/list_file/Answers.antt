use Rattle.cli_outside.specs.Prelude.{did, not_had, short}
use Rattle.cli_programs.proofs.list.list_file.Goals as goal

pub returns-in-Err : goal.returns-in-Err
returns-in-Err g c = not_had c.in-Err.ensures.not_had

pub returns-in-Ok-listing_of : goal.returns-in-Ok-listing_of
returns-in-Ok-listing_of g c =
    let printed = rw c.in-Ok.ensures.same at (rw c.deref.ensures.value at c.print.ensures) in
    did c.in-Ok.program c.in-Ok.ensures.had (record {
      names = printed.names;
      does = record { text = c.in-Ok-listing_of.listing.items; shows = c.in-Ok-listing_of.ensures; prints = printed.does };
    })

pub returns : goal.returns
returns g c = not_had (short (rw c.in-Ok.ensures.same at c.no_memory.ensures))
