use Rattle.std.proofs.Common.{rules, ap, Err}
use Rattle.cli_outside.specs.Work.{TooLong}
use Rattle.cli_outside.proofs.Files.{long_is_no_failure, too_long}
use Rattle.cli_outside.proofs.outside.Outside.read.Goals as goal

pub returns-in-Err-TooLong-clause-unread : goal.returns-in-Err-TooLong-clause-unread
returns-in-Err-TooLong-clause-unread g c =
    let long = too_long _ c.args.file.now (c.in-Err-TooLong.ensures.reads.long (ap Err c.in-Err-TooLong.field-0-is)) in
    let same = c.in-Err-TooLong.ensures.cause.quiet (long_is_no_failure (Err c.in-Err-TooLong.field-0) (ap Err c.in-Err-TooLong.field-0-is)) in
    record { names = search rules; does = TooLong long.0 (rw (← c.self.view_is) long.1) long.2 (search rules) }
