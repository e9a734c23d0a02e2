use Rattle.tiny_code.specs.Prelude.{main_lined, method_lined}
use Rattle.tiny_code.proofs.laws.jumps_have_lines.Goals as goal

pub returns : goal.returns
returns c = record { main = main_lined; method = method_lined }
