use Rattle.mic1_datapath.specs.Prelude.{micro_in}
use Rattle.mic1_datapath.proofs.Handed.{drove_b}
use Rattle.mic1_datapath.proofs.mic1.Mic1Clocked.compute.Goals as goal

pub computed_by-requires-clause-b : goal.computed_by-requires-clause-b
computed_by-requires-clause-b c = drove_b c.args.word (micro_in c.args.self.now.latches) c.args.drive c.requires.drive
