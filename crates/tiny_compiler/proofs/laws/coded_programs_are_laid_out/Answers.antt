use Rattle.std.proofs.Common.{◌≤◌, ℕ, List, length, ap, arith}
use Rattle.tiny_compiler.proofs.LaidOut.{laid_out}
use Rattle.tiny_compiler.proofs.laws.coded_programs_are_laid_out.Goals as goal

pub returns : goal.returns
returns c program image named is =
    let short : length image.text ≤ 65536 = (let same = ap (λ (xs : List ℕ). length xs) is.laid.text in omega (arith, same, is.laid.text_fits)) in
    laid_out c.written_code_stands.ensures image program short named is (c.methods_are_the_others.ensures.sound program)
