use Rattle.mic_base.specs.Memory.{files_contents}
use Rattle.mic_web.proofs.Rows.{IsLaid}
use Rattle.mic_web.proofs.written.put_files.Given as goal

abbrev pub invariant-loop-name : goal.invariant-loop-name
invariant-loop-name l = IsLaid (files_contents l.files) l.written l.table l.count l.end
