use Rattle.std.proofs.Common.{◌∙◌, rules}
use Rattle.mic_datapath.proofs.Slots.{all_loaded, after_stay}
use Rattle.mic_datapath.proofs.c_bus.load.Goals as goal

pub returns-clause-loaded : goal.returns-clause-loaded
returns-clause-loaded c =
    let l = c.args.lines.now in
    all_loaded c.args.c l.first l.second l.further c.args.value c.args.places.now c.requires (search rules) c.load_further.new.places c.load_further.ensures.loaded c.load_further.ensures.before

pub returns-clause-others : goal.returns-clause-others
returns-clause-others c =
    let l = c.args.lines.now in
    λ k low high. c.load_further.ensures.others k low ∙ after_stay c.args.c l.first l.second l.further c.args.value c.args.places.now c.requires (search rules) k low high
