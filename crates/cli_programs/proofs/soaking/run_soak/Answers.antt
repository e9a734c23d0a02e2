use Rattle.cli_programs.proofs.Common.{◌≡◌, ◌∙◌, ℕ, List, Some, length, sym, ap, End, Counts, Registers, soak_summary, NoRoom}
use Rattle.cli_programs.proofs.SoakEnding.{ends_by}
use Rattle.cli_programs.proofs.soaking.run_soak.Goals as goal

pub returns-in-Ok : goal.returns-in-Ok
returns-in-Ok g c = λ seed size is.
    let end : End = c.unwrap-end.result in
    let ended : c.in-Ok.board.end ≡ Some end = sym c.ended.ensures ∙ c.unwrap-end.ensures in
    let long : length c.text-size_of_text.result.now ≡ length c.args.program.now.image.text =
    ap (λ (xs : List ℕ). length xs) (c.text-size_of_text.ensures.is ∙ ap (λ image. image.text) c.image.ensures.is) in
    let printed : c.bytes.result.now ≡ soak_summary (length c.args.program.now.image.text) end c.in-Ok.board.counts (g.I.Machine.Clocked.meaning.registers (g.I.Machine.Clocked.state c.in-Ok.board.machine)).tos =
    c.bytes.ensures.value ∙ c.summary-line.ensures
    ∙ (ap (λ (x : ℕ). soak_summary x end c.counts.result c.registers.result.tos) long
    ∙ (ap (λ (k : Counts). soak_summary (length c.args.program.now.image.text) end k c.registers.result.tos) c.counts.ensures
    ∙ ap (λ (r : Registers). soak_summary (length c.args.program.now.image.text) end c.in-Ok.board.counts r.tos) c.registers.ensures.value)) in
    ends_by g.I.Machine.Clocked.state g.I.Machine.Clocked.meaning g.I.Machine.Clocked.IsReady g.I.Interpreter.IsShipped g.I.Interpreter.entry g.I.Interpreter.timing
    seed size c.args.program.now _ _ c.in-Ok.board end _ _ c.print.result.0 is
    (ap (λ (xs : List ℕ). Some xs) (c.new-source.ensures ∙ c.new.ensures.items))
    c.in-Ok.ensures.run c.in-Ok.ensures.cause ended (rw (printed, c.status_of.ensures) at c.print.ensures)

pub returns : goal.returns
returns g c = λ seed size is. record { names = c.no_memory.ensures.names; does = NoRoom c.no_memory.ensures.does }
