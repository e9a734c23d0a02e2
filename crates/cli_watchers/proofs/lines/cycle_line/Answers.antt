use Rattle.std.proofs.Common.{◌≡◌, refl, rules}
use Rattle.cli_watchers.proofs.lines.cycle_line.Goals as goal

pub returns : goal.returns
returns c =
    let w = c.print_word.ensures.text in
    let mpc : c.from.result ≡ c.args.cycle.now.mpc = search rules in
    (w.0, w.1, w.2, rw (c.text-3.ensures.text, w.3, c.text-2.ensures.text, c.hex.ensures.text, mpc, c.text.ensures.text, c.numbered-line.ensures.text) refl)
