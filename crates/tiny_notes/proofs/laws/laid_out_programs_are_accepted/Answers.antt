use Rattle.tiny_notes.proofs.Units.{program_items, listed}
use Rattle.tiny_notes.proofs.laws.laid_out_programs_are_accepted.Goals as goal

pub returns : goal.returns
returns c image p program named laid end map =
    c.listed_images_are_accepted.ensures image (program_items image p program laid.main) end
    (listed image p program named (c.laid_out_programs_hold.ensures image p program laid)
    (λ f g found other. c.methods_are_the_others.ensures.complete program f g (found, other)) (c.methods_are_the_others.ensures.sound program)
    _ laid.main_is laid.main_at laid.methods) map
