use Rattle.mic_datapath.proofs.Common.{ℕ, ap, ◌∙◌, arith, arrived}
use Rattle.mic_datapath.proofs.c_bus.settle.Goals as goal

pub returns-clause-registers : goal.returns-clause-registers
returns-clause-registers c =
    let at = c.load.ensures.loaded in
    let kept = c.arrive.ensures.others in
    λ i. record {
      mar = (kept 0 (omega arith) ∙ at 0 (omega arith)) i;
      mdr = (c.arrive.ensures.mdr ∙ ap (λ (x : ℕ). arrived c.args.arriving x) (at 1 (omega arith))) i;
      pc = (kept 2 (omega arith) ∙ at 2 (omega arith)) i;
      sp = (kept 3 (omega arith) ∙ at 3 (omega arith)) i;
      lv = (kept 4 (omega arith) ∙ at 4 (omega arith)) i;
      cpp = (kept 5 (omega arith) ∙ at 5 (omega arith)) i;
      tos = (kept 6 (omega arith) ∙ at 6 (omega arith)) i;
      opc = (kept 7 (omega arith) ∙ at 7 (omega arith)) i;
      h = (kept 8 (omega arith) ∙ at 8 (omega arith)) i;
    }

pub returns-clause-others : goal.returns-clause-others
returns-clause-others c = λ k low high. c.arrive.ensures.others k (omega arith) ∙ c.load.ensures.others k low high
