use Rattle.mic1_checks.proofs.Common.{◌≡◌, None, List, Ok, sym, ◌∙◌, subst, Contains, Counts, BOOT, CarriesBoot, TakesEnds, CarriesTakes, DecideSeconds}
use Rattle.mic1_checks.proofs.Shown.{shown}
use Rattle.mic1_checks.proofs.Timed.{goes_on, moves_on}
use Rattle.mic1_checks.proofs.judged.judge.Goals as goal

pub returns : goal.returns
returns c costs is =
    let store = c.args.stores.now.store.now.words in
    let other = c.args.stores.now.other.now.words in
    let entry = c.args.stores.now.entry in
    let entry' = c.args.stores.now.other_entry in
    let found = c.verdict_on.ensures in
    let none_noted : c.note.new.self.first ≡ None = found.none costs is in
    let none_ended : c.ends_of.new.search.first ≡ None = c.in_ok-note.ensures.first none_noted in
    let none : c.takes_alike.new.search.first ≡ None = c.in_ok-ends.ensures.first none_ended in
    let rest = c.takes_alike.new.search.leaves.items in
    let boot = c.boot_alike.new.leaves.items in
    let leaves = costs.leaves.items in
    let takes : CarriesTakes store other entry entry' rest = c.in_ok-takes_alike.ensures.takes none in
    let ends : TakesEnds other entry' costs.ends = rw (found.ends costs is) at c.in_ok-ends.ensures.ends in
    let boots : CarriesBoot store other entry entry' boot = c.in_ok-boot.ensures.carries (λ j. Ok (c.in_ok-note.ensures.noted none_noted j)) in
    let decide : DecideSeconds leaves = found.decide costs is in
    let are : leaves ≡ boot = found.leaves costs is ∙ c.in_ok-note.ensures.leaves in
    let first : (x : Counts) → Contains boot x → Contains leaves x = λ x h. subst (λ (xs : List Counts). Contains xs x) (sym are) h in
    let second : (x : Counts) → Contains rest x → Contains leaves x =
    λ x h. first x (c.in_ok-boot.ensures.kept x (subst (λ (xs : List Counts). Contains xs x) (sym c.in_ok-ends.ensures.leaves) h)) in
    record {
      shows = shown other entry';
      boots = λ timing v o input to loads words booted.
          moves_on leaves decide boot first BOOT other o.given o entry' timing.boot _ to (boots timing v o input to loads words booted);
      takes = λ before timing v o s q i laws stands.
          goes_on costs decide rest second other entry' before timing v o s q i (takes before timing v o s q i laws stands);
      halts = λ before timing v o s q stands. ends.halts before v o s q stands;
      errs = λ before timing v o s q stands. ends.errs before v o s q stands;
    }
