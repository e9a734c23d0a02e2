use Rattle.mal_parser.proofs.Printing.{stands_at}
use Rattle.mal_parser.proofs.program.MalProgram.statement.Goals as goal

pub returns-clause-stands : goal.returns-clause-stands
returns-clause-stands c = stands_at c.args.self.now _ c.args.s c.index.result.now c.self.view_is c.self.invariant.statements c.requires c.index.ensures
