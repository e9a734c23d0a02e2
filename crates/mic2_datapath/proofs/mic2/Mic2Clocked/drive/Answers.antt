use Rattle.mic2_datapath.proofs.Common.{Bool, false, sym, ap, ◌∙◌, statement_of, driven, micro_in}
use Rattle.mic_words.specs.declared.machine.Machine.TheVariants as machines
use Rattle.mic2_datapath.proofs.Buses.{drive_if}
use Rattle.mic2_datapath.proofs.mic2.Mic2Clocked.drive.Goals as goal

pub returns-then-waits-clause-value : goal.returns-then-waits-clause-value
unfolding driven
returns-then-waits-clause-value c =
    sym (ap (λ (b : Bool). drive_if (statement_of machines.Mic2 c.args.word) (micro_in c.args.self.now.latches) b) (sym c.waits.ensures.stalled ∙ c.if-waits.true))

pub returns-clause-value : goal.returns-clause-value
unfolding driven
returns-clause-value c =
    (λ i. record { a = c.operands-a.ensures.a i; b = c.operands-a.ensures.b i; stalled = false })
    ∙ sym (ap (λ (b : Bool). drive_if (statement_of machines.Mic2 c.args.word) (micro_in c.args.self.now.latches) b) (sym c.waits.ensures.stalled ∙ c.if-waits.false))
