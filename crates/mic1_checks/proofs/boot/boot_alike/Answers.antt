use Rattle.mic1_checks.proofs.Common.{◌≡◌, ◌<◌, ◌+◌, ℕ, true, false, List, Ok, None, length, sym, ap, ◌∙◌, subst, arith, slice_index, All-same, All-nil, World}
use Rattle.mic1_checks.proofs.Common.{byte_in, Micro, mic1_meaning, IsReady, IsAt, Moment, Moves, reset_moment, Node, Fits, AreOrdered, KnownByte, KnownWord}
use Rattle.mic1_checks.proofs.Common.{StandsAt, Answer, Symbols, AreAnswered, truth, Unknown, BOOT, IsReset, CarriedBy, CarriesOver, IsReadyOrArriving, IsKnown}
use Rattle.mic1_checks.proofs.Common.{HasRegisters, start_moment}
use Rattle.ijvm_simulation.specs.Images as images
use Rattle.mic1_checks.proofs.Knowledge.{in_none}
use Rattle.mic1_checks.proofs.Reset.{first_sp, moves_alike, reset_has_words, reset_signs, stand_reset, with_clocked}
use Rattle.mic1_checks.proofs.Starts.{Started, started}
use Rattle.mic1_checks.proofs.boot.boot_alike.Goals as goal

pub returns-clause-carries : goal.returns-clause-carries
returns-clause-carries c done timing v o input first loads words boots =
    let store = c.args.stores.now.store.now.words in
    let other = c.args.stores.now.other.now.words in
    let table : List Node = c.explore.new.work.nodes.nodes.items in
    let leaves = c.explore.new.leaves.items in
    let entry = c.args.stores.now.entry in
    let entry' = c.args.stores.now.other_entry in
    let x : Symbols = c.in_ok-s.s in
    let q : Moment Micro = reset_moment mic1_meaning entry v.main_locals o input in
    let q' : Moment Micro = reset_moment mic1_meaning entry' v.main_locals o input in
    let shown : c.finding_of.result ≡ None = cc in
    let ordered : AreOrdered table = c.finding_of.ensures.ordered shown in
    let registers : HasRegisters table = c.finding_of.ensures.registers shown in
    let t : Started table q.state q.world =
    started c.environments_exist.ensures table ordered registers q.state q.world (reset_has_words v o input loads words entry) in
    let e = t.e in
    let before : Fits e c.reset.new.nodes.nodes.items = c.in_ok-unlike.ensures.grows e t.fits in
    let is : IsReset e x = c.in_ok-s.ensures.value e before in
    let long : length e.start.words ≡ length o.words = ap (λ (w : World). length w.words) t.starts in
    let map = images.map v o loads in
    let known : IsKnown e c.nothing_known-known.result =
    record {
      knows = record {
        ranges = in_none e.word t.fits.words c.nothing_known-known.result.ranges.items c.nothing_known-known.ensures.ranges;
        long = omega (arith, long, map.low);
        size = omega (arith, long, map.high);
        bytes = All-same (λ (b : KnownByte). byte_in e.start.words (e.word b.at) ≡ b.byte) _ _ c.nothing_known-known.ensures.bytes
            (All-nil (λ (b : KnownByte). byte_in e.start.words (e.word b.at) ≡ b.byte));
        words = All-same (λ (w : KnownWord). StandsAt e w.at w.number) _ _ c.nothing_known-known.ensures.words
            (All-nil (λ (w : KnownWord). StandsAt e w.at w.number));
      };
      words = subst (λ (w : World). (k : ℕ) → slice_index w.words k < 4294967296) (sym t.starts) words;
    } in
    let none : AreAnswered e c.deref.result.now =
    All-same (λ (a : Answer). truth e a.question (e.word a.number) ≡ a.is) _ _ (c.deref.ensures.value ∙ c.new-answers.ensures.items)
    (All-nil (λ (a : Answer). truth e a.question (e.word a.number) ≡ a.is)) in
    let signs = reset_signs e x is in
    let over : CarriesOver e x x store other entry entry' BOOT Unknown leaves =
    c.in_ok-unlike.ensures.carries (λ j. Ok (c.finding_of.ensures.none shown j)) e t.fits known signs signs none in
    let moment : (k : ℕ) → start_moment e 0 k x ≡ with_clocked true (reset_moment mic1_meaning k v.main_locals o input) =
    λ k j. record { state = stand_reset e x k (first_sp v o input loads) (slice_index o.words 0) is t.sp j; world = t.starts j; stalls = 0 } in
    let moves : Moves mic1_meaning store (IsAt mic1_meaning IsReady entry o) o.given (start_moment e 0 entry x) timing.boot first =
    subst (λ (p : Moment Micro). Moves mic1_meaning store (IsAt mic1_meaning IsReady entry o) o.given p timing.boot first) (sym (moment entry))
    (moves_alike store (IsAt mic1_meaning IsReady entry o) o.given q false true timing.boot first boots.moves) in
    let carried : CarriedBy leaves BOOT other o.given o entry' timing.boot (with_clocked true q') first =
    subst (λ (p : Moment Micro). CarriedBy leaves BOOT other o.given o entry' timing.boot p first) (moment entry')
    (over.moves o.given o 0 timing.boot first tt moves) in
    record {
      counts = carried.counts;
      is_leaf = carried.is_leaf;
      its_row = carried.its_row;
      carries = record {
        spent_is = carried.carries.spent_is;
        moves = moves_alike other (IsAt mic1_meaning IsReadyOrArriving entry' o) o.given q' true false (carried.counts.second + 1) first carried.carries.moves;
        words = carried.carries.words;
      };
    }
