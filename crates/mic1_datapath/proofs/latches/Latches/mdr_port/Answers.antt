use Rattle.mic1_datapath.proofs.Common.{ℕ, ◌∙◌, ap, place_loaded, arrived}
use Rattle.mic1_datapath.proofs.latches.Latches.mdr_port.Goals as goal

pub returns : goal.returns
returns c =
    let there = c.port-there.ensures ∙ ap (λ (dests : ℕ). place_loaded dests c.args.c c.args.self.now.places 1) c.destinations.ensures.value in
    c.arrived.ensures ∙ (λ j. arrived (c.arriving.ensures j) (there j))
