-- Moves one after the other.
use Rattle.cli_rewind.proofs.Common.{◌≡◌, ◌≢◌, ◌<◌, ◌≤◌, ◌+◌, ℕ, suc, true, false, List, Option, Some, None, is_some, refl, sym, ap, subst, ◌∙◌, arith, Rose}
use Rattle.cli_rewind.proofs.Common.{End, Meaning, MicroRun, BoardView, ControlStore, Snapshot, HistoryView, RewindView, SinkState, GoesForward, IsCutForward}
use Rattle.cli_rewind.proofs.Common.{Stand, StandsAt, run_at, state_here, IsShown, Scene, WasCut, scene, Went}
use Rattle.mic_clock.specs.declared.end.End.TheVariants as ends
use Rattle.cli_rewind.proofs.Giving.{cut_whole}

module _ {State : Type 0} (m : Meaning State) (words : List ℕ) where
  same_run : (s t : Stand State) → t.start ≡ s.start → (n : ℕ) → run_at m words s.start n ≡ run_at m words t.start n
  same_run s t e n = ap (λ (r : MicroRun State). run_at m words r n) (sym e)

  pub goes_more : (a b : ℕ) (s t u : Stand State) → GoesForward m words a None s t → GoesForward m words b None t u → GoesForward m words (a + b) None s u
  goes_more a b s t u p q =
      let c = p.cursor in
      let c' = q.cursor in
      let k = p.clocked in
      let k' = q.clocked in
      let n = p.stops in
      let n' = q.stops in
      record {
        start = q.start ∙ p.start;
        made = p.made + q.made;
        cursor = omega (arith, c, c');
        clocked = omega (arith, c, c', k, k');
        running = ap (λ (r : MicroRun State). r.end) (same_run s t p.start u.cursor) ∙ q.running;
        stops = omega (arith, n, n');
      }

  pub goes_to_end : (a n : ℕ) (e : End) (s t u : Stand State) → GoesForward m words a None s t → a < n → GoesForward m words 1 (Some e) t u →
      GoesForward m words n (Some e) s u
  goes_to_end a n e s t u p less q =
      let c = p.cursor in
      let c' = q.cursor in
      let k = p.clocked in
      let k' = q.clocked in
      let made = p.stops in
      let made' = q.stops.0 in
      record {
        start = q.start ∙ p.start;
        made = p.made + q.made;
        cursor = omega (arith, c, c');
        clocked = omega (arith, c, c', k, k');
        running = ap (λ (r : MicroRun State). r.end) (same_run s t p.start u.cursor) ∙ q.running;
        stops = (omega (arith, made, made', less), ap (λ (r : MicroRun State). r.end) (same_run s t p.start (suc u.cursor)) ∙ q.stops.1);
      }

  pub cut_later : (a n : ℕ) (s t : Stand State) (held : Option (List ℕ)) → GoesForward m words a None s t → a < n → IsCutForward m words 1 t held →
      IsCutForward m words n s held
  cut_later a n s t held p less q =
      let few = q.few in
      let gone = goes_more a q.made s t q.mid p q.gone in
      let below : a + q.made < n = omega (arith, few, less) in
      record {
        made = a + q.made;
        mid = q.mid;
        gone = gone;
        few = below;
        uses = q.uses;
        out = q.out;
        whole = cut_whole m words (a + q.made) n s q.mid held gone below q.out;
      }

module _ {M State : Type 0} {state : M → State} {m : Meaning State} where
  pub went_then : (a b n : ℕ) {c d e : Scene M} {P Q R : Stand State → Stand State → Type 0} → Went state m a c d P → Went state m b d e Q → a + b ≤ n →
      ((s t u : Stand State) → P s t → Q t u → R s u) → Went state m n c e R
  went_then a b n p q le f =
      let first = p.moved.cycles in
      let rest = q.moved.cycles in
      record {
        leads = λ s here. let x = p.leads s here in let y = q.leads x.0 x.2 in (y.0, f s x.0 y.0 x.1 y.1, y.2);
        moved = record {
          store = q.moved.store ∙ p.moved.store;
          depth = q.moved.depth ∙ p.moved.depth;
          cycles = omega (arith, first, rest, le);
          well = q.moved.well;
        };
        flushed = λ h. q.flushed (p.flushed h);
        faults = q.faults ∙ p.faults;
        keeps = λ front h. q.keeps front (p.keeps front h);
      }

  pub cut_then : {a : ℕ} {c d e : Scene M} {P : Stand State → Stand State → Type 0} {Q R : Stand State → Option (List ℕ) → Type 0} →
      Went state m a c d P → WasCut state m d e Q →
      ((s t : Stand State) → P s t → Q t e.out.held → R s e.out.held) → WasCut state m c e R
  cut_then {e = e} p q f =
      record {
        cuts = λ s here. let x = p.leads s here in f s x.0 x.1 (q.cuts x.0 x.2);
        keeps = λ front h. q.keeps front (p.keeps front h);
        rose = subst (λ (n : ℕ). Rose n e.out.faults) p.faults q.rose;
      }

  pub went_as : (a n : ℕ) {c d : Scene M} {P R : Stand State → Stand State → Type 0} → Went state m a c d P → a ≤ n →
      ((s t : Stand State) → IsShown state m d t → P s t → R s t) → Went state m n c d R
  went_as a n p le f =
      let cycles = p.moved.cycles in
      record {
        leads = λ s here. let x = p.leads s here in (x.0, f s x.0 x.2 x.1, x.2);
        moved = record { store = p.moved.store; depth = p.moved.depth; cycles = omega (arith, cycles, le); well = p.moved.well };
        flushed = p.flushed;
        faults = p.faults;
        keeps = p.keeps;
      }

  -- a move of the cursor alone
  pub went_still : (n : ℕ) (v v' : RewindView M) (input : List ℕ) (out : SinkState) {P : Stand State → Stand State → Type 0} → v'.board ≡ v.board →
      v'.history.depth ≡ v.history.depth → v.board.end ≢ Some ends.WriteFault →
      ((s : Stand State) → StandsAt state m (Some input) out.held v s → (s' : Stand State) × P s s' × StandsAt state m (Some input) out.held v' s') →
      Went state m n (scene v input out) (scene v' input out) P
  went_still n v v' input out board depth well leads =
      let cycles : v'.board.counts.cycles ≡ v.board.counts.cycles = ap (λ (b : BoardView M). b.counts.cycles) board in
      record {
        leads = leads;
        moved = record {
          store = ap (λ (b : BoardView M). b.store) board;
          depth = depth;
          cycles = omega (arith, cycles);
          well = λ e. well (sym (ap (λ (b : BoardView M). b.end) board) ∙ e);
        };
        flushed = λ h. h;
        faults = refl;
        keeps = λ front h. h;
      }

  -- ---- this many cycles forward, one after the other

  module _ (made n : ℕ) (c d e : Scene M) (end : Option End) (p : Went state m made c d (GoesForward m c.rewind.board.store.words made None)) where
    words_are : d.rewind.board.store.words ≡ c.rewind.board.store.words
    words_are = ap (λ (s : ControlStore). s.words) p.moved.store

    pub goes_next : Went state m 1 d e (GoesForward m d.rewind.board.store.words 1 end) → end ≡ None →
        Went state m (made + 1) c e (GoesForward m c.rewind.board.store.words (made + 1) None)
    goes_next q is =
        went_then made 1 (made + 1) p
        (subst (λ (w : List ℕ). Went state m 1 d e (GoesForward m w 1 None)) words_are (subst (λ (o : Option End). Went state m 1 d e
        (GoesForward m d.rewind.board.store.words 1 o)) is q))
        (omega arith) (λ s t u. goes_more m c.rewind.board.store.words made 1 s t u)

    ends_by : (o : Option End) → is_some o ≡ true → made < n → Went state m 1 d e (GoesForward m d.rewind.board.store.words 1 o) →
        Went state m n c e (GoesForward m c.rewind.board.store.words n o)
    ends_by None is less q = absurd (cc)
    ends_by (Some x) is less q =
        went_then made 1 n p (subst (λ (w : List ℕ). Went state m 1 d e (GoesForward m w 1 (Some x))) words_are q) (omega (arith, less))
        (λ s t u a b. goes_to_end m c.rewind.board.store.words made n x s t u a less b)

    pub goes_end : Went state m 1 d e (GoesForward m d.rewind.board.store.words 1 end) → is_some end ≡ true → made < n →
        Went state m n c e (GoesForward m c.rewind.board.store.words n end)
    goes_end q is less = ends_by end is less q

    pub goes_cut : WasCut state m d e (IsCutForward m d.rewind.board.store.words 1) → made < n →
        WasCut state m c e (IsCutForward m c.rewind.board.store.words n)
    goes_cut q less =
        cut_then p (subst (λ (w : List ℕ). WasCut state m d e (IsCutForward m w 1)) words_are q)
        (λ s t a b. cut_later m c.rewind.board.store.words made n s t e.out.held a less b)

-- an option that is none
pub none_by : (o : Option End) → is_some o ≡ false → o ≡ None
none_by None is = refl
none_by (Some e) is = absurd (cc)

-- the state at the cursor of a stand
pub here_at : {M State : Type 0} (state : M → State) (m : Meaning State) (left held : Option (List ℕ)) (v : RewindView M) (s : Stand State) (words : List ℕ) →
    StandsAt state m left held v s → v.board.store.words ≡ words → v.history.here ≡ state_here m words s
here_at state m left held v s words here is = ap (λ (h : HistoryView). h.here) here.history ∙ ap (λ (w : List ℕ). state_here m w s) is

-- what is printed of the state at the cursor
pub said_here : {M State : Type 0} (state : M → State) (m : Meaning State) (left held : Option (List ℕ)) (v : RewindView M) (s : Stand State) (words : List ℕ)
    (says : Snapshot → List ℕ) (text : List ℕ) → StandsAt state m left held v s → v.board.store.words ≡ words → text ≡ says v.history.here →
    text ≡ says (state_here m words s)
said_here state m left held v s words says text here is said = said ∙ ap says (here_at state m left held v s words here is)

-- the control store that stays has the same words
pub same_words : {M : Type 0} (v v' : RewindView M) → v'.board.store ≡ v.board.store → v'.board.store.words ≡ v.board.store.words
same_words v v' is = ap (λ (s : ControlStore). s.words) is

pub same_board_words : {M : Type 0} (v v' : RewindView M) → v'.board ≡ v.board → v'.board.store.words ≡ v.board.store.words
same_board_words v v' is = ap (λ (b : BoardView _). b.store.words) is
