use Rattle.mic1_datapath.proofs.Common.{true, ◌∙◌, ap, subst, sym, BusView, ConsoleView, mem_of, IsAtEdge, IsTried, is_done, Latches}
use Rattle.mic1_datapath.proofs.Inside.{led_inside}
use Rattle.mic1_datapath.proofs.Tried.{tried}
use Rattle.mic1_datapath.proofs.edge.edge_inside.Goals as goal

-- what is tried first leaves all as it was, where it does nothing

pub advance-requires-clause-value : goal.advance-requires-clause-value
advance-requires-clause-value c =
    let same = c.edge_of_one.ensures.none (ap is_done c.in-Other.is) in
    (subst (λ (l : Latches). IsAtEdge l c.args.word c.args.lines.now c.args.value c.args.c) (sym same.0) c.requires).computed.value_is

pub returns : goal.returns
returns c =
    let word = c.args.word in
    let same = c.edge_of_one.ensures.none (ap is_done c.in-Other.is) in
    let l = c.edge_of_one.new.latches in
    let l' = c.advance.new.self in
    let bus = c.edge_of_one.new.bus in
    let bus' = c.access_memory-sampled.new.bus in
    let does = c.access_memory-sampled.ensures in
    subst (λ (x : Latches). IsTried word x c.args.bus.now l' bus' true) same.0
    (subst (λ (b : BusView). IsTried word l b l' bus' true) same.1
    (tried word c.args.value c.args.c c.args.lines.now l l' bus bus' c.ports-ports.result c.of_bits-mem.result c.fetch-fetch.result
    c.access_memory-sampled.result.word c.access_memory-sampled.result.byte
    (subst (λ (x : Latches). IsAtEdge x word c.args.lines.now c.args.value c.args.c) (sym same.0) c.requires)
    c.ports-ports.ensures (c.of_bits-mem.ensures ∙ ap mem_of c.mem.ensures) c.fetch-fetch.ensures does.clear
    (λ left held. led_inside left held bus bus' does.console _ (λ w shows. does.access w shows.words)) does.others (ap (λ (k : ConsoleView). k.ended) does.console)
    c.advance.ensures.latches c.advance.ensures.micro c.advance.ensures.last))
