use Rattle.std.proofs.Common.{rules}
use Rattle.mic_base.proofs.FileLemmas.{file_is}
use Rattle.mic_base.proofs.memory.files.MemFiles.find.Goals as goal

pub returns-in-Some : goal.returns-in-Some
returns-in-Some c = let same = file_is c.args.self.now c.args.name.now in rw same (search rules)

pub returns-in-None : goal.returns-in-None
returns-in-None c = let same = file_is c.args.self.now c.args.name.now in rw same (search rules)
