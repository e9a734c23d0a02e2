use Rattle.mic2_datapath.proofs.Common.{Bool, sym, subst, ◌∙◌, statement_of, IsTried, HasComputed, micro_in, mic2_meaning}
use Rattle.mic_words.specs.declared.machine.Machine.TheVariants as machines
use Rattle.mic2_datapath.proofs.Buses.{buses_clocked, has_computed, waits_there}
use Rattle.mic2_datapath.proofs.Demands.{are_there}
use Rattle.mic2_datapath.proofs.mic2.Mic2Clocked.edge_inside.Goals as goal

pub edge_inside-requires-clause-there : goal.edge_inside-requires-clause-there
edge_inside-requires-clause-there c =
    are_there _ _ _ (sym (waits_there c.args.word (micro_in c.args.self.now.latches) c.args.drive c.requires.drives) ∙ c.if-drive.false) c.demand_law.ensures.demands

pub edge_inside-requires-clause-computed : goal.edge_inside-requires-clause-computed
edge_inside-requires-clause-computed c =
    let m = micro_in c.args.self.now.latches in
    let v = c.args.computed in
    subst (λ (stalls : Bool). HasComputed (statement_of machines.Mic2 c.args.word) m stalls v.alu.value v.c) c.if-drive.false
    (has_computed c.args.word m c.args.drive c.requires.drives v c.requires.computes)

pub returns-then-not-edge_inside-clause-tried : goal.returns-then-not-edge_inside-clause-tried
returns-then-not-edge_inside-clause-tried c =
    subst (IsTried mic2_meaning c.args.word (micro_in c.args.self.now.latches) c.args.bus.now (micro_in c.edge_inside.new.self) c.edge_inside.new.bus)
    c.if-not-edge_inside.true c.edge_inside.ensures.tried

pub returns-clause-tried : goal.returns-clause-tried
returns-clause-tried c =
    subst (IsTried mic2_meaning c.args.word (micro_in c.args.self.now.latches) c.args.bus.now (micro_in c.edge_inside.new.self) c.edge_inside.new.bus)
    c.if-not-edge_inside.false c.edge_inside.ensures.tried

pub returns-clause-seen : goal.returns-clause-seen
returns-clause-seen c = λ done. buses_clocked c.args.word (micro_in c.args.self.now.latches) c.args.drive c.requires.drives c.if-drive.false
