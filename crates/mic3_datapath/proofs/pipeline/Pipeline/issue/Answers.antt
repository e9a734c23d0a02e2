use Rattle.mic3_datapath.proofs.Common.{◌∙◌, sym, statement_of}
use Rattle.mic_words.specs.declared.machine.Machine.TheVariants as machines
use Rattle.mic3_datapath.specs.Prelude.{pipeline_in}
use Rattle.mic3_datapath.proofs.Steps.{enough, none_issued, nothing_on_b, one_issued, waits_there}
use Rattle.mic3_datapath.proofs.pipeline.Pipeline.issue.Goals as goal

pub returns-then-drive-clause-value : goal.returns-then-drive-clause-value
returns-then-drive-clause-value c = none_issued c.args.word (pipeline_in c.args.self.now) c.args.drive c.requires.drive c.if-drive.true

pub dispatched-byte-requires : goal.dispatched-byte-requires
dispatched-byte-requires c =
    let word = c.args.word in
    let p = pipeline_in c.args.self.now in
    enough (statement_of machines.Mic2 word) p (sym (waits_there word p c.args.drive c.requires.drive) ∙ c.if-drive.false)

pub invariant_of-result : goal.invariant_of-result
invariant_of-result c = record { unused = nothing_on_b c.args.word (pipeline_in c.args.self.now) c.args.drive c.requires.drive c.if-drive.false }

pub returns-clause-value : goal.returns-clause-value
returns-clause-value c =
    one_issued c.args.word (pipeline_in c.args.self.now) c.args.drive c.requires.drive c.if-drive.false _ c.dispatched-byte.ensures

pub returns-clause-there : goal.returns-clause-there
returns-clause-there c =
    let word = c.args.word in
    let p = pipeline_in c.args.self.now in
    enough (statement_of machines.Mic2 word) p (sym (waits_there word p c.args.drive c.requires.drive) ∙ c.if-drive.false)
