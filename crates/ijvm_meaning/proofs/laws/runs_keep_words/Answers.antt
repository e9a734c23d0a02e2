use Rattle.std.proofs.Common.{◌≡◌, ◌<◌, ℕ, Some, length}
use Rattle.ijvm_instr.specs.declared.instr.Instr.{Instr}
use Rattle.ijvm_instr.specs.Prelude.{IsInstr, instr_at}
use Rattle.ijvm_image.specs.Prelude.{ImageView, IsImage}
use Rattle.ijvm_meaning.specs.Prelude.{first_point}
use Rattle.ijvm_meaning.proofs.Words.{goes_words, limits_words, start_words, passed_words}
use Rattle.ijvm_meaning.proofs.laws.runs_keep_words.Goals as goal

pub returns : goal.returns
returns c =
    let reads : (image : ImageView) → IsImage image → (at : ℕ) (i : Instr) → instr_at image.text at ≡ Some i → IsInstr i × (at < length image.text) =
    λ image good at i is. (
      c.read_instructions_are_whole.ensures.real image.text at i good.bytes is,
      c.read_instructions_are_whole.ensures.begins image.text at i is,
    ) in
    record {
      start = start_words;
      goes = λ image n s to good h is. goes_words image n s to good (reads image good) h is;
      limits = λ image n s left good h is. limits_words image n s left good (reads image good) h is;
      passes = λ p bound main_locals good input at passed.
          passed_words p bound (first_point p main_locals input) at good (reads p.image good) (start_words main_locals input) passed;
    }
