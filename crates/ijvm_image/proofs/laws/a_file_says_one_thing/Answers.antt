use Rattle.std.proofs.Common.{◌≡◌, Ok}
use Rattle.ijvm_image.specs.Prelude.{image_read}
use Rattle.ijvm_image.proofs.Files.{file-read}
use Rattle.ijvm_image.proofs.Refusals.{not_refused}
use Rattle.ijvm_image.proofs.laws.a_file_says_one_thing.Goals as goal

pub returns-clause-one_image : goal.returns-clause-one_image
returns-clause-one_image c = λ file p q fits fits' is is'.
    let one : image_read file ≡ Ok p = file-read file p fits is in
    let other : image_read file ≡ Ok q = file-read file q fits' is' in
    cc

pub returns-clause-not_both : goal.returns-clause-not_both
returns-clause-not_both c = λ file p e fits is wrong. not_refused file p e (file-read file p fits is) wrong
