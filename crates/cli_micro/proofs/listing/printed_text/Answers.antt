use Rattle.std.proofs.Common.{sym}
use Rattle.cli_micro.proofs.Answering.{known}
use Rattle.cli_micro.proofs.listing.printed_text.Goals as goal

pub listed-requires-clause-store : goal.listed-requires-clause-store
listed-requires-clause-store c = known _ c.in-Some.field-0 c.in-Some.ensures

pub printed-requires-clause-text : goal.printed-requires-clause-text
printed-requires-clause-text c = sym c.in-None.ensures
