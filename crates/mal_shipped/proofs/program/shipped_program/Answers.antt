use Rattle.mal_shipped.proofs.Common.{sym, subst, IsMalProgram, MalView, unlined}
use Rattle.mal_shipped.proofs.Lines.{unlined_is_program}
use Rattle.mal_shipped.proofs.program.shipped_program.Goals as goal

pub unlined-requires : goal.unlined-requires
unlined-requires c = subst (λ (p : MalView). IsMalProgram (unlined p)) (sym c.in_ok-program.ensures) (unlined_is_program c.args.machine)
