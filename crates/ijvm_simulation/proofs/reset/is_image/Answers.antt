use Rattle.std.proofs.Common.{◌∙◌, ap}
use Rattle.ijvm_image.specs.Prelude.{ImageView}
use Rattle.ijvm_simulation.proofs.Parts.{image_by_parts}
use Rattle.ijvm_simulation.proofs.reset.is_image.Goals as goal

pub returns : goal.returns
returns c =
    image_by_parts c.args.program.now c.text.result.now c.pool.result.now (c.text.ensures.is ∙ ap (λ (x : ImageView). x.text) c.image.ensures.is)
    (c.pool.ensures.is ∙ ap (λ (x : ImageView). x.pool) c.image-2.ensures.is) c.are_parts.ensures
