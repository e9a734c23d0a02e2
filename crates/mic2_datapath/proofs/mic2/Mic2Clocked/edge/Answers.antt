use Rattle.mic2_datapath.proofs.Common.{ℕ, Err, inl, refl, sym, ◌∙◌, ap, ⊤, statement_of, edge_passed, edge_waits, over_fails, unrefused, micro_in}
use Rattle.mic2_datapath.proofs.Common.{mic2_meaning, moved_on}
use Rattle.mic_words.specs.declared.machine.Machine.TheVariants as machines
use Rattle.mic2_datapath.proofs.Buses.{buses_clocked, buses_stalled, has_computed, waits_there}
use Rattle.mic2_datapath.proofs.Demands.{are_there}
use Rattle.mic2_datapath.proofs.Steps.{asks, edge_done, is_asked, samples_clear, stall_edge}
use Rattle.mic2_datapath.proofs.mic2.Mic2Clocked.edge.Goals as goal

-- a cycle that stalls

pub returns-then-drive-clause-seen : goal.returns-then-drive-clause-seen
returns-then-drive-clause-seen g c =
    buses_stalled c.args.word (micro_in c.args.self.now.latches) c.args.drive c.requires.drives c.args.self.now.last_word
    c.args.self.now.last_a c.args.self.now.last_b c.if-drive.true

pub returns-then-drive-clause-edge : goal.returns-then-drive-clause-edge
returns-then-drive-clause-edge g c =
    let m = micro_in c.args.self.now.latches in
    record {
      edge =
          stall_edge c.args.word m _ _ c.args.bus.now (sym (waits_there c.args.word m c.args.drive c.requires.drives) ∙ c.if-drive.true) _ _
          c.in_ok-stall.ensures.ok c.in_ok-stall.ensures.allowed tt tt;
      waits = λ room. inl refl;
    }

pub returns-in_err-stall-clause-edge : goal.returns-in_err-stall-clause-edge
returns-in_err-stall-clause-edge g c =
    let m = micro_in c.args.self.now.latches in
    let e = c.in_err-stall.field-0.0 in
    record {
      edge =
          edge_passed mic2_meaning c.args.word m _ _ c.args.bus.now {T = ⊤} _ _ _ c.args.bus.now e c.from_residual.result c.from_residual.ensures.1
          (stall_edge c.args.word m _ _ c.args.bus.now (sym (waits_there c.args.word m c.args.drive c.requires.drives) ∙ c.if-drive.true)
          (micro_in c.stall.new.self) (Err e) tt tt c.in_err-stall.ensures.state c.in_err-stall.ensures.err);
      waits = λ room. inl refl;
    }

-- any other

pub advance-requires-clause-latches : goal.advance-requires-clause-latches
advance-requires-clause-latches g c =
    let stalls = waits_there c.args.word (micro_in c.args.self.now.latches) c.args.drive c.requires.drives in
    (c.args.self.now.kept, are_there _ _ _ (sym stalls ∙ c.if-drive.false) c.demand_law.ensures.demands)

pub advance-requires-clause-value : goal.advance-requires-clause-value
advance-requires-clause-value g c =
    (has_computed c.args.word (micro_in c.args.self.now.latches) c.args.drive c.requires.drives c.args.computed c.requires.computes).alu c.if-drive.false

pub advance-requires-clause-c : goal.advance-requires-clause-c
advance-requires-clause-c g c =
    (has_computed c.args.word (micro_in c.args.self.now.latches) c.args.drive c.requires.drives c.args.computed c.requires.computes).shifter c.if-drive.false

pub will_fetch-at-requires : goal.will_fetch-at-requires
will_fetch-at-requires g c =
    are_there _ _ _ (sym (waits_there c.args.word (micro_in c.args.self.now.latches) c.args.drive c.requires.drives) ∙ c.if-drive.false) c.demand_law.ensures.demands

pub returns-clause-seen : goal.returns-clause-seen
returns-clause-seen g c = buses_clocked c.args.word (micro_in c.args.self.now.latches) c.args.drive c.requires.drives c.if-drive.false

pub returns-clause-edge : goal.returns-clause-edge
unfolding statement_of
returns-clause-edge g c =
    let s = statement_of machines.Mic2 c.args.word in
    let m = micro_in c.args.self.now.latches in
    let v = c.args.computed in
    let its = has_computed c.args.word m c.args.drive c.requires.drives v c.requires.computes in
    let is = is_asked c.args.word m c.args.drive.stalled v.alu.value v.c _ _ _ _ _ _ its c.if-drive.false
    c.destinations-destinations.ensures.value c.demand_law.ensures.demands c.is_named-jumps.ensures c.ports-ports.ensures c.mem_for.ensures
    c.will_fetch-at.ensures.refusal c.will_fetch-at.ensures.value in
    let a = c.in_ok-sampled.ensures.access in
    let moves = unrefused _ _ c.advance.ensures.err (samples_clear s m _ is _ _ a.others.0 a.allowed) c.advance.ensures.ok in
    record {
      edge =
          edge_done c.args.word m _ _ c.args.bus.now _ is _ _ c.access.new.bus _ a.allowed a.ok a.others _
          (moves ∙ ap (λ (x : ℕ). moved_on s m x c.access.new.bus.words c.in_ok-sampled.sampled) (its.alu c.if-drive.false));
      waits = edge_waits mic2_meaning c.args.word m _ _ c.args.bus.now _ _ _ (asks c.args.word m _ is) c.console_law.ensures _ _ c.in_ok-sampled.ensures.waits;
    }

pub returns-in_err-sampled-clause-edge : goal.returns-in_err-sampled-clause-edge
unfolding statement_of
returns-in_err-sampled-clause-edge g c =
    let m = micro_in c.args.self.now.latches in
    let v = c.args.computed in
    let its = has_computed c.args.word m c.args.drive c.requires.drives v c.requires.computes in
    let is = is_asked c.args.word m c.args.drive.stalled v.alu.value v.c _ _ _ _ _ _ its c.if-drive.false
    c.destinations-destinations.ensures.value c.demand_law.ensures.demands c.is_named-jumps.ensures c.ports-ports.ensures c.mem_for.ensures
    c.will_fetch-at.ensures.refusal c.will_fetch-at.ensures.value in
    over_fails mic2_meaning c.args.word m _ _ _ (asks c.args.word m _ is) c.console_law.ensures g.S.Source.left g.K.Sink.held _ c.args.bus.now c.access.new.bus
    c.args.source.now c.access.new.source c.args.sink.now c.access.new.sink _ c.from_residual-in_err-sampled.result c.from_residual-in_err-sampled.ensures.1
    c.in_err-sampled.ensures.access c.in_err-sampled.ensures.waits
