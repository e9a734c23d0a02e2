use Rattle.mic1_checker.proofs.Common.{ℕ, Ok, subst, timing_of, HasShipped, CarriesAll}
use Rattle.mic_words.specs.declared.machine.Machine.TheVariants.{Mic1}
use Rattle.mic1_checker.proofs.Promised.{promised}
use Rattle.mic1_checker.proofs.checked.check.Goals as goal

pub new-requires : goal.new-requires
new-requires c =
    let shipped = c.in_ok-shipped.shipped.words in
    let store = c.args.store.words in
    let costs = c.in-Shown.costs in
    let all : CarriesAll shipped store 2 c.args.entry costs =
    subst (λ (n : ℕ). CarriesAll shipped store n c.args.entry costs) c.entry.ensures.value
    (c.in_ok-costs.ensures costs (λ j. Ok (c.in-Shown.is j))) in
    record {
      machine = c.requires.machine;
      inside = c.requires.entry;
      interprets =
          promised shipped store 2 c.args.entry costs (timing_of Mic1) (HasShipped Mic1) c.in_ok-shipped.ensures.shipped
          (record { law = c.law.ensures.law; boots = c.law.ensures.boots; grows = c.law.ensures.grows }) all;
    }
