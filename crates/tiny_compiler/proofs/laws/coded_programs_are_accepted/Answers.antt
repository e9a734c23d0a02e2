use Rattle.tiny_code.specs.Prelude.{places_of}
use Rattle.tiny_compiler.proofs.laws.coded_programs_are_accepted.Goals as goal

pub returns : goal.returns
returns c image end is map =
    c.laid_out_programs_are_accepted.ensures image (places_of is.program) is.program is.named
    (c.coded_programs_are_laid_out.ensures is.program image is.named is.code) end map
