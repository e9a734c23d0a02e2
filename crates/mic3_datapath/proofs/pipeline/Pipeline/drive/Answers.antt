use Rattle.mic3_datapath.proofs.Common.{◌≤◌, ℕ, Bool, false, length, subst, sym, ap, ◌∙◌, statement_of}
use Rattle.mic_words.specs.declared.machine.Machine.TheVariants as machines
use Rattle.mic3_datapath.specs.Prelude.{driven, driven_by, pipeline_in}
use Rattle.mic3_datapath.proofs.Steps.{enough, issued_if}
use Rattle.mic3_datapath.proofs.pipeline.Pipeline.drive.Goals as goal

pub returns-then-waits-clause-value : goal.returns-then-waits-clause-value
unfolding driven
returns-then-waits-clause-value c =
    let s = statement_of machines.Mic2 c.args.word in
    let p = pipeline_in c.args.self.now in
    sym (ap (λ (b : Bool). driven_by (issued_if s p b)) (sym c.waits-waits.ensures ∙ c.if-waits.true))

pub operands-a-requires-clause-there : goal.operands-a-requires-clause-there
operands-a-requires-clause-there c =
    let bytes = c.args.self.now.latches.unit.bytes in
    let there = enough (statement_of machines.Mic2 c.args.word) (pipeline_in c.args.self.now) (sym c.waits-waits.ensures ∙ c.if-waits.false) in
    subst (λ (n : ℕ). n ≤ length bytes) (sym c.demand_law.ensures.demands) there

pub returns-clause-value : goal.returns-clause-value
unfolding driven
returns-clause-value c =
    let s = statement_of machines.Mic2 c.args.word in
    let p = pipeline_in c.args.self.now in
    (λ j. record { a = c.operands-a.ensures.a j; b = c.operands-a.ensures.b j; stalled = false })
    ∙ sym (ap (λ (b : Bool). driven_by (issued_if s p b)) (sym c.waits-waits.ensures ∙ c.if-waits.false))
