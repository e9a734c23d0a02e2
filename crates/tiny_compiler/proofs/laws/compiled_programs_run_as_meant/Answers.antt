use Rattle.tiny_compiler.proofs.Common.{◌≡◌, subst, timing_of}
use Rattle.tiny_code.specs.Prelude.{places_of, IsLaidOut, IsCodeOf}
use Rattle.tiny_tree.specs.Prelude.{IsNamed, Program}
use Rattle.tiny_compiler.proofs.laws.compiled_programs_run_as_meant.Goals as goal

pub returns : goal.returns
returns c text program v machine spelled is =
    let named : IsNamed program = c.programs_are_named.ensures text program spelled in
    let same : is.program ≡ program = c.texts_have_one_reading.ensures.one_program text is.program program is.spelled spelled in
    let code : IsCodeOf program v.image = subst (λ (p : Program). IsCodeOf p v.image) same is.code in
    let laid : IsLaidOut v.image (places_of program) program = c.coded_programs_are_laid_out.ensures program v.image named code in
    c.images_run_as_meant.ensures.as_meant program (places_of program) v.image named laid
    v.map.stack_end v.main_locals (timing_of machine) is.accepted.safe (c.images_run_as_meant.ensures.machines machine)
