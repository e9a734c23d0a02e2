use Rattle.mic1_datapath.proofs.Common.{ℕ, Err, ◌∙◌, ap, refl, statement_of, mem_of, edge_waits, over_fails, settled, next_micro, micro_in, mic1_meaning}
use Rattle.mic_words.specs.declared.machine.Machine.TheVariants as machines
use Rattle.mic1_datapath.proofs.Handed.{has_computed}
use Rattle.mic1_datapath.proofs.Passed.{streams_passed}
use Rattle.mic1_datapath.proofs.Seen.{seen_last}
use Rattle.mic1_datapath.proofs.Steps.{asks, edge_done, is_asked}
use Rattle.mic1_datapath.proofs.mic1.Mic1Clocked.edge.Goals as goal

pub advance-requires-clause-value : goal.advance-requires-clause-value
advance-requires-clause-value g c = (has_computed c.args.word (micro_in c.args.self.now.latches) c.args.computed c.requires.computes).value_is

pub advance-requires-clause-c : goal.advance-requires-clause-c
advance-requires-clause-c g c = (has_computed c.args.word (micro_in c.args.self.now.latches) c.args.computed c.requires.computes).c_is

pub returns-clause-seen : goal.returns-clause-seen
returns-clause-seen g c = seen_last (micro_in c.args.self.now.latches) c.args.word c.advance.new.self c.args.drive c.advance.ensures.last c.requires.drives

pub returns-clause-edge : goal.returns-clause-edge
returns-clause-edge g c =
    let s = statement_of machines.Mic1 c.args.word in
    let m = micro_in c.args.self.now.latches in
    let its = has_computed c.args.word m c.args.computed c.requires.computes in
    let is = is_asked c.args.word m c.args.computed.alu.value c.args.computed.c _ _ _ its.value_is its.c_is c.ports-ports.ensures
    (c.of_bits-mem.ensures ∙ ap mem_of c.mem.ensures) c.fetch-fetch.ensures in
    let a = c.in_ok-sampled.ensures.access in
    record {
      edge =
          edge_done c.args.word m _ is _ _ c.args.bus.now _ _ c.access_tested.new.bus _ _ a.allowed a.ok a.others _
          (c.advance.ensures.micro
          ∙ ap (λ (x : ℕ). next_micro s.next x (settled s.part m) c.in_ok-sampled.sampled.word c.in_ok-sampled.sampled.byte) its.value_is);
      waits = edge_waits mic1_meaning c.args.word m _ _ c.args.bus.now _ _ _ (asks c.args.word m _ is) c.console_law.ensures _ _ c.in_ok-sampled.ensures.waits;
    }

pub returns-in_err-sampled-clause-edge : goal.returns-in_err-sampled-clause-edge
returns-in_err-sampled-clause-edge g c =
    let m = micro_in c.args.self.now.latches in
    let its = has_computed c.args.word m c.args.computed c.requires.computes in
    let is = is_asked c.args.word m c.args.computed.alu.value c.args.computed.c _ _ _ its.value_is its.c_is c.ports-ports.ensures
    (c.of_bits-mem.ensures ∙ ap mem_of c.mem.ensures) c.fetch-fetch.ensures in
    over_fails mic1_meaning c.args.word m _ _ _ (asks c.args.word m _ is) c.console_law.ensures g.S.Source.left g.K.Sink.held _ c.args.bus.now c.access_tested.new.bus
    c.args.source.now c.access_tested.new.source c.args.sink.now c.access_tested.new.sink _ c.from_residual.result c.from_residual.ensures.1
    c.in_err-sampled.ensures.access c.in_err-sampled.ensures.waits

pub returns-in_err-sampled-clause-streams : goal.returns-in_err-sampled-clause-streams
returns-in_err-sampled-clause-streams g c =
    streams_passed g.S.Source.left g.S.Source.faults g.K.Sink.held g.K.Sink.passed g.K.Sink.faults c.args.bus.now c.args.source.now c.args.sink.now
    c.access_tested.new.bus c.access_tested.new.source c.access_tested.new.sink _ (Err c.in_err-sampled.field-0.0) c.from_residual.result refl c.from_residual.ensures.1
    c.in_err-sampled.ensures.streams
