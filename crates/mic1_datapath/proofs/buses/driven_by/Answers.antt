use Rattle.mic1_datapath.proofs.Common.{◌≡◌, ℕ, false, slice_index, ap, ◌∙◌, statement_of, source, driven, micro_in}
use Rattle.mic_words.specs.declared.machine.Machine.TheVariants as machines
use Rattle.mic1_datapath.proofs.Sources.{at_place}
use Rattle.mic1_datapath.proofs.buses.driven_by.Goals as goal

pub returns : goal.returns
unfolding driven statement_of
returns c =
    let l = c.args.latches.now in
    let s = statement_of machines.Mic1 c.args._word in
    let spelled = c.word_law.ensures.spells c.args._word c.requires.decoded.canonical in
    let valid = c.statement_law.ensures.conditions s spelled.valid in
    let b : slice_index l.places c.args.lines.now.b ≡ source s.part.b (micro_in l) =
    ap (λ (place : ℕ). slice_index l.places place) c.requires.decoded.decoded.b ∙ at_place l c.requires.latches _ s.part.b valid.b in
    λ i. record { a = slice_index l.places 8; b = b i; stalled = false }
