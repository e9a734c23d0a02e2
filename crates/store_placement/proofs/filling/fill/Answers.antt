use Rattle.store_placement.proofs.Common.{◌≡◌, ◌∙◌, ◌+◌, ℕ, List, length, set, ap, subst, sym, refl, slice_index, arith, IsTrue, Machine, Placed, microword_of}
use Rattle.store_placement.proofs.Common.{is_valid, placed_statement}
use Rattle.store_placement.proofs.FillingLemmas.{IsFilledUpTo, placed_count, filled_none, filled_more, filled_all, element_at}
use Rattle.store_placement.proofs.filling.fill.Goals as goal

pub address-requires : goal.address-requires
address-requires c = let count = placed_count c.args.program.now c.args.placement.now c.requires in omega arith

pub loop-s-init : goal.loop-s-init
loop-s-init c =
    let machine = c.filled-store.ensures.machine ∙ c.machine.ensures in (
      machine,
      filled_none c.args.program.now c.args.placement.now c.filled-store.result.words (microword_of c.machine.result c.placed_default.result) 512 refl c.filled-store.ensures.words
          (ap (λ (m : Machine). microword_of m c.placed_default.result) c.machine.ensures ∙ ap (microword_of c.args.program.now.machine) c.placed_default.ensures.value),
    )

pub loop-s-preserved : goal.loop-s-preserved
loop-s-preserved c =
    let p = c.args.program.now in
    let addresses = c.args.placement.now in
    let t = element_at p.statements c.loop-s.s (omega arith) in
    let word = microword_of c.loop-s.store.machine c.placed_statement.result in
    let is : word ≡ microword_of p.machine (placed_statement (slice_index addresses) c.loop-s.s t.0) =
    ap (λ (m : Machine). microword_of m c.placed_statement.result) c.loop-s.invariant.0 ∙ ap (microword_of p.machine) (c.placed_statement.ensures.value t.0 t.1) in
    let words : c.set.new.self.words ≡ set c.loop-s.store.words (slice_index addresses c.loop-s.s) word = c.set.ensures.words ∙ ap (λ a. set c.loop-s.store.words a word) c.address.ensures in
    let P : List ℕ → Type 0 = λ ws. IsFilledUpTo p addresses ws (c.loop-s.s + 1) in (
      c.set.ensures.machine ∙ c.loop-s.invariant.0,
      subst P (sym words) (filled_more p addresses c.loop-s.store.words c.loop-s.s word t.0 c.requires t.1 is c.loop-s.invariant.1),
    )

pub returns-clause-words : goal.returns-clause-words
returns-clause-words c =
    let p = c.args.program.now in
    let addresses = c.args.placement.now in
    let P : Placed → Type 0 = λ d. IsTrue (is_valid p.machine d) in
    let Q : ℕ → Type 0 = λ n. IsFilledUpTo p addresses c.loop-s.store.words n in
    let all : c.loop-s.s ≡ length p.statements = omega arith in
    filled_all p addresses c.loop-s.store.words c.len-count.ensures.program c.requires (subst P c.placed_default.ensures.value c.placed_default.ensures.valid) (subst Q all c.loop-s.invariant.1)
