use Rattle.std.specs.Prelude.{◌++◌, length}
use Rattle.std.proofs.Common.{refl, inl}
use Rattle.ijvm_instr.specs.Prelude.{spelling}
use Rattle.ijvm_instr.proofs.Spelled.{instr_at-begins, instr_at-ends, instr_at-real, instr_at-spelled, part_stands}
use Rattle.ijvm_instr.proofs.laws.read_instructions_are_whole.Goals as goal

pub returns : goal.returns
returns c = record {
  begins = instr_at-begins;
  ends = instr_at-ends;
  real = instr_at-real;
  written = λ before after i real. instr_at-spelled (before ++ (spelling i ++ after)) (length before) i (spelling i) real (inl refl) (part_stands before (spelling i) after);
}
