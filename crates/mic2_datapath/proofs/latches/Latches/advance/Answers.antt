use Rattle.mic2_datapath.proofs.Common.{◌≡◌, ℕ, ap, sym, subst, ◌∙◌, ◌≤◌, Option, length, statement_of, shifted, Fields, registers_at, loaded, sample_refusal}
use Rattle.mic2_datapath.proofs.Common.{advanced, jumps, operand_bytes, registers_in, result_of, settled, micro_in}
use Rattle.mic_words.specs.declared.machine.Machine.TheVariants as machines
use Rattle.mic2_datapath.proofs.Demands.{dispatch_takes, is_dispatch}
use Rattle.mic2_datapath.proofs.Steps.{sampled_there, unit_there}
use Rattle.mic2_datapath.proofs.latches.Latches.advance.Goals as goal

pub goes_on-next-requires-clause-some : goal.goes_on-next-requires-clause-some
unfolding statement_of
goes_on-next-requires-clause-some c =
    let s = statement_of machines.Mic2 c.args.word in
    let spelled = c.word_law.ensures.spells c.args.word c.requires.decoded.canonical in
    let jam = ap (λ (f : Fields). f.jam) spelled.fields in
    λ some. subst (λ (n : ℕ). 1 ≤ n) (sym c.requires.decoded.demands) (dispatch_takes s.next (operand_bytes s.part) (is_dispatch s.next _ jam some))

pub returns-clause-ok : goal.returns-clause-ok
unfolding statement_of
returns-clause-ok c =
    let s = statement_of machines.Mic2 c.args.word in
    let m = micro_in c.args.self.now in
    let spelled = c.word_law.ensures.spells c.args.word c.requires.decoded.canonical in
    let valid = c.statement_law.ensures.conditions s spelled.valid in
    let v : c.args.c ≡ shifted s.part.shift (result_of s.part m) = c.requires.c ∙ ap (λ (x : ℕ). shifted s.part.shift x) c.requires.value in
    let became : registers_at c.load.new.places ≡ settled s m =
    c.load.ensures.registers
    ∙ (λ i. loaded (c.destinations-destinations.ensures.value i) (v i) m.word (record (registers_in m) { pc = advanced (c.requires.decoded.demands i) m.pc })) in
    let jump : c.loads_pc.result ≡ jumps s.part = c.loads_pc.ensures in
    let unit = c.in_ok-go.ensures.ok ∙ unit_there s m c.args.bus.now.words c.args.c c.args.lines.now.takes c.loads_pc.result jump c.requires.decoded.demands v in
    let addr = c.requires.decoded.decoded.addr ∙ ap (λ (f : Fields). f.addr) spelled.fields in
    let jam = ap (λ (f : Fields). f.jam) spelled.fields in
    λ i. record {
      mar = (became i).mar;
      mdr = (became i).mdr;
      pc = (became i).pc;
      sp = (became i).sp;
      lv = (became i).lv;
      cpp = (became i).cpp;
      tos = (became i).tos;
      opc = (became i).opc;
      h = (became i).h;
      mpc = c.goes_on-next.ensures.mpc s.next (operand_bytes s.part) valid.next addr jam c.requires.decoded.demands i;
      word = c.args.sampled;
      unit = unit i;
      begins = c.goes_on-next.ensures.begins s.next jam addr i;
    }

pub returns-clause-allowed : goal.returns-clause-allowed
unfolding statement_of
returns-clause-allowed c =
    let s = statement_of machines.Mic2 c.args.word in
    let m = micro_in c.args.self.now in
    let v : c.args.c ≡ shifted s.part.shift (result_of s.part m) = c.requires.c ∙ ap (λ (x : ℕ). shifted s.part.shift x) c.requires.value in
    let jump : c.loads_pc.result ≡ jumps s.part = c.loads_pc.ensures in
    let same = sampled_there s m c.args.c c.args.lines.now.takes c.loads_pc.result jump c.requires.decoded.demands v in
    ap (λ (at : Option ℕ). sample_refusal (length c.args.bus.now.words) at) (sym same) ∙ c.in_ok-go.ensures.allowed
