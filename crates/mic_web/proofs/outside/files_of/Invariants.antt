use Rattle.std.proofs.Common.{◌≡◌, map, take}
use Rattle.mic_base.specs.Memory.{files_contents, files_faults}
use Rattle.mic_web.specs.Called.{Filled}
use Rattle.mic_web.specs.Given.{file_given}
use Rattle.mic_web.proofs.outside.files_of.Given as goal

abbrev pub invariant-loop-span : goal.invariant-loop-span
invariant-loop-span l = Filled (map (file_given l.given) (take l.span-index l.spans)) (files_contents l.files) × (files_faults l.files ≡ 0)
