use Rattle.cli_call.proofs.TinyCalls.{calls_are_as_meant}
use Rattle.cli_call.proofs.laws.tiny_does_what_is_meant.Goals as goal

pub returns : goal.returns
returns c =
    λ text input program v machine short spells compiled.
    calls_are_as_meant c.texts_compile_to_one_program.ensures.one_program c.texts_compile_to_one_program.ensures.not_both text v short compiled
    c.runs_end_once.ensures.one c.runs_end_once.ensures.last program input machine
    (c.compiled_programs_run_as_meant.ensures text program v machine spells compiled)
