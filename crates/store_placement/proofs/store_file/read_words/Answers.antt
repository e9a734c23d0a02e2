use Rattle.store_placement.proofs.Common.{◌≡◌, false, not, refl, sym, ap, ◌∙◌, Machine, microword_of, is_canonical, is_bad}
use Rattle.store_placement.proofs.StoreFileLemmas.{none_read, read_more}
use Rattle.store_placement.proofs.store_file.read_words.Goals as goal

pub loop-address-init : goal.loop-address-init
loop-address-init c = none_read c.args.bytes.now c.args.machine c.filled-store.result (microword_of c.args.machine c.goto_end.result) 512 refl c.filled-store.ensures.machine c.filled-store.ensures.words

pub loop-address-preserved : goal.loop-address-preserved
loop-address-preserved c =
    let s = c.loop-address.store in
    let word = microword_of s.machine c.in-Some.placed in
    let is = ap (λ (m : Machine). microword_of m c.in-Some.placed) c.loop-address.invariant.machine_is ∙ (c.in-Some.ensures.2 ∙ c.word_at.ensures) in
    let good : is_bad c.args.machine c.args.bytes.now c.loop-address.address ≡ false = ap (λ w. not (is_canonical c.args.machine w)) (sym c.word_at.ensures) ∙ ap not c.in-Some.ensures.0 in
    read_more c.args.bytes.now c.args.machine c.loop-address.address word s c.set.new.self c.loop-address-test.true is good c.set.ensures.machine c.set.ensures.words c.loop-address.invariant
