use Rattle.mic3_datapath.proofs.Common.{◌≡◌, ◌∙◌, registers_at, unit_after}
use Rattle.mic3_datapath.specs.Prelude.{computed_in, is_jump_coming, settled, in_operand, in_result, pipeline_in, retired_in}
use Rattle.mic3_datapath.proofs.pipeline.Pipeline.advance.Goals as goal

pub returns-clause-ok : goal.returns-clause-ok
returns-clause-ok c =
    let old = c.args.self.now in
    let i = in_operand c.args.to_issue in
    let l = old.latches in
    let became : registers_at c.retire.new.places ≡ settled i (pipeline_in old) =
    c.retire.ensures.registers
    ∙ (λ j. retired_in old (c.bytes_leaving-taken.ensures j)) in
    let unit =
    c.in_ok-clock_unit.ensures.ok
    ∙ (λ j. unit_after (is_jump_coming (computed_in (in_result old.result))) c.args.bus.now.words (c.requires.pc j) (c.bytes_leaving-taken.ensures j) l.unit) in
    λ j. record {
      micro = record {
        mar = (became j).mar;
        mdr = (became j).mdr;
        pc = (became j).pc;
        sp = (became j).sp;
        lv = (became j).lv;
        cpp = (became j).cpp;
        tos = (became j).tos;
        opc = (became j).opc;
        h = (became j).h;
        mpc = c.mpc_after-mpc.ensures.value j;
        word = c.held-self.ensures j;
        unit = unit j;
        begins = c.begins-self.ensures j;
      };
      operand = i;
      result = c.moved_on-self.ensures j;
    }
