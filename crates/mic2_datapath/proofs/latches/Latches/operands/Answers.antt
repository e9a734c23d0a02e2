use Rattle.mic2_datapath.proofs.Common.{ℕ, ◌≤◌, slice_index, ap, ◌∙◌, is_byte, is_pair, row, statement_of, Micro, operand_bytes, source}
use Rattle.mic_words.specs.declared.machine.Machine.TheVariants as machines
use Rattle.mic2_datapath.proofs.Demands.{byte_a, byte_b, pair_a, pair_b, within}
use Rattle.mic2_datapath.proofs.Sources.{at_place}
use Rattle.mic2_datapath.proofs.latches.Latches.operands.Goals as goal

pub returns-clause-a : goal.returns-clause-a
unfolding statement_of
returns-clause-a c =
    let s = statement_of machines.Mic2 c.args._word in
    let l = c.show_front.new.self in
    let spelled = c.word_law.ensures.spells c.args._word c.requires.decoded.canonical in
    let valid = c.statement_law.ensures.conditions s spelled.valid in
    let named = λ (n : ℕ) (h : n ≤ operand_bytes s.part). within n _ _ _ h c.requires.decoded.demands in
    ap (λ (place : ℕ). slice_index l.places place) c.requires.decoded.decoded.a
    ∙ at_place l c.args.lines.now.takes c.show_front.ensures.latches c.show_front.ensures.front s.part.a (row s.part.op).uses_a valid.a
    (λ is. named 1 (byte_a (is_pair s.part.a) (is_pair s.part.b) (is_byte s.part.a) (is_byte s.part.b) is))
    (λ is. named 2 (pair_a (is_pair s.part.a) (is_pair s.part.b) (is_byte s.part.a) (is_byte s.part.b) is))
    ∙ ap (λ (m : Micro). source s.part.a m) c.show_front.ensures.micro

pub returns-clause-b : goal.returns-clause-b
unfolding statement_of
returns-clause-b c =
    let s = statement_of machines.Mic2 c.args._word in
    let l = c.show_front.new.self in
    let spelled = c.word_law.ensures.spells c.args._word c.requires.decoded.canonical in
    let valid = c.statement_law.ensures.conditions s spelled.valid in
    let named = λ (n : ℕ) (h : n ≤ operand_bytes s.part). within n _ _ _ h c.requires.decoded.demands in
    ap (λ (place : ℕ). slice_index l.places place) c.requires.decoded.decoded.b
    ∙ at_place l c.args.lines.now.takes c.show_front.ensures.latches c.show_front.ensures.front s.part.b (row s.part.op).uses_b valid.b
    (λ is. named 1 (byte_b (is_pair s.part.a) (is_pair s.part.b) (is_byte s.part.a) (is_byte s.part.b) is))
    (λ is. named 2 (pair_b (is_pair s.part.a) (is_pair s.part.b) (is_byte s.part.a) (is_byte s.part.b) is))
    ∙ ap (λ (m : Micro). source s.part.b m) c.show_front.ensures.micro
