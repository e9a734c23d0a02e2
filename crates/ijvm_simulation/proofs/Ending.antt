-- A run from a reset with the store that ships ends as the definition's run.
use Rattle.ijvm_simulation.proofs.Common.{ℕ, List, Bool, refl, sym, ◌∙◌, ap, subst, same_Some, World, Untaken, Given, Meaning, MicroRun, reset_run}
use Rattle.ijvm_meaning.specs.Prelude.{Timing}
use Rattle.ijvm_simulation.specs.Prelude.{board_end, told_of, Promises, EndsAsDefined}
use Rattle.ijvm_simulation.proofs.Next.{Known}
use Rattle.ijvm_simulation.proofs.Carried.{simulated}
use Rattle.ijvm_simulation.proofs.Boards.{rest_of, rest_fits, given_told}
use Rattle.ijvm_simulation.proofs.Worlds.{same_end}

pub ends_as_defined : {M S : Type 0} (state : M → S) (m : Meaning S) (IsReady : ℕ → List ℕ → ℕ → S → World → Type 0) (IsShipped : List ℕ → Type 0) (entry : ℕ) (timing : Timing) → Promises m IsReady IsShipped entry timing →
    Known → EndsAsDefined state m IsShipped entry timing
ends_as_defined state m IsReady IsShipped entry timing promises known =
    λ v bound left held left' held' first last has s led end ended.
    let l = led (rest_of left' last.bus.console.ended) (rest_fits left' last.bus.console.ended) in
    let input : List ℕ = l.0 in
    let w : World = record { words = first.bus.words; untaken = input; given = told_of held } in
    let sim = simulated v s.image s.accepted first.bus.words s.loaded (told_of held) m IsReady IsShipped entry timing promises known first.store.words has bound input in
    let to = l.2 (reset_run m entry v.main_locals w)
    (s.shows left held w (record { words = refl; untaken = l.1; given = subst (λ (k : List ℕ). Given held k (told_of held)) (sym s.kept) (given_told held) })) refl in
    let come = to.1.here.its_end ∙ ended in
    let stop = sim.ends sim.finishes.0 sim.finishes.1 in
    let same = same_end m first.store.words bound to.0 stop.0 end _ (reset_run m entry v.main_locals w) come stop.1.end in
    record {
      input = input;
      told = subst (λ (e : Bool). Untaken left e input) s.ended l.1;
      finish = sim.finishes.0;
      finishes = sim.finishes.1;
      is = same_Some end (board_end sim.finishes.0.end) (sym come ∙ (ap (λ (r : MicroRun _). r.end) same ∙ stop.1.end));
    }
