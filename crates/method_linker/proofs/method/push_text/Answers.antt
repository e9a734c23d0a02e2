use Rattle.method_linker.proofs.Common.{[], on_ok_weaker, then, code_bytes, header_of, unit_code, unit_jumps}
use Rattle.method_linker.proofs.method.push_text.Goals as goal

pub returns : goal.returns
returns c =
    let lines = c.args.method.now.lines in
    let code = rw c.lines.ensures at c.push_code.ensures in
    on_ok_weaker c.push_code.result
    (λ e. then _ _ _ (header_of c.args.method.now) (code_bytes (unit_code c.args.first lines)) [] (unit_jumps lines) c.in_ok-push_counts.ensures e) code
