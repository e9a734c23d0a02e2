use Rattle.mic2_datapath.proofs.Common.{◌∙◌, statement_of, micro_in}
use Rattle.mic_words.specs.declared.machine.Machine.TheVariants as machines
use Rattle.mic2_datapath.proofs.Buses.{computed_there, flagged_on, nothing_on, nothing_on_b}
use Rattle.mic2_datapath.proofs.mic2.Mic2Clocked.compute.Goals as goal

pub operate_for-value-requires-clause-b : goal.operate_for-value-requires-clause-b
operate_for-value-requires-clause-b c = nothing_on_b c.args.word (micro_in c.args.self.now.latches) c.args.drive c.requires.drive

pub returns-then-drive : goal.returns-then-drive
returns-then-drive c =
    nothing_on (statement_of machines.Mic2 c.args.word) c.args.drive c.if-drive.true
    ∙ computed_there c.args.word (micro_in c.args.self.now.latches) c.args.drive c.requires.drive

pub returns : goal.returns
returns c =
    c.flagged.ensures
    ∙ flagged_on (statement_of machines.Mic2 c.args.word) c.args.drive c.if-drive.false c.operate_for-value.result c.shift_for.result
    c.operate_for-value.ensures c.shift_for.ensures
    ∙ computed_there c.args.word (micro_in c.args.self.now.latches) c.args.drive c.requires.drive
