-- What a store promises that was judged beside one which keeps its promises.
use Rattle.mic1_checker.proofs.Common.{◌≡◌, ℕ, List, inl, inr, refl, sym, subst, World, Instr, Err, Halt, Timing, cost, State, start_of, VerifiedView, Micro}
use Rattle.mic1_checker.proofs.Common.{mic1_meaning, IsReady, Origin, IsAt, Moment, Went, Overran, Loads, Fine, IsNext, Boots, Law, Moves, Overruns, ShowsState}
use Rattle.mic1_checker.proofs.Common.{Stops, StopsAfter, Takes, reset_moment, Promises, Costs, IsReadyOrArriving, StandsBefore, CarriesAll, MovesOn}
use Rattle.mic1_checker.proofs.Common.{timing_by, HasWords, IsReadyInWords}

module _ (store' : List ℕ) (entry' : ℕ) (o : Origin) where
  abbrev Arriving : State → Micro → World → Type 0
  Arriving = IsAt mic1_meaning IsReadyOrArriving entry' o

  abbrev pub InWords : State → Micro → World → Type 0
  InWords = IsAt mic1_meaning IsReadyInWords entry' o

  abbrev in_words : (s : State) (m : Micro) (w : World) → Arriving s m w → HasWords m w → InWords s m w
  in_words s m w at words = record { holds = at.holds; ready = record { ready = at.ready; words_are = words } }

  abbrev arriving : (s : State) (m : Micro) (w : World) → InWords s m w → Arriving s m w
  arriving s m w at = record { holds = at.holds; ready = at.ready.ready }

  pub moves_in_words : (before : List ℕ) (q : Moment Micro) (spent : ℕ) (to : State) → MovesOn store' entry' before o q spent to →
      Moves mic1_meaning store' InWords before q spent to
  moves_in_words before q spent to on =
      let m = on.moves in
      record {
        n = m.n;
        spent_is = m.spent_is;
        short = m.short;
        begins = m.begins;
        there = m.there;
        passes = m.passes;
        stands = in_words to m.there.state m.there.world m.stands on.words;
      }

  pub overruns_in_words : (before : List ℕ) (q : Moment Micro) (left : State) → Overruns mic1_meaning store' Arriving before q left →
      Overruns mic1_meaning store' InWords before q left
  overruns_in_words before q left h =
      record {
        n = h.n;
        short = h.short;
        begins = h.begins;
        there = h.there;
        passes = h.passes;
        inside = h.inside;
        at = h.at;
        refused = h.refused;
        untaken = h.untaken;
        given = h.given;
      }

  pub stops_in_words : (before : List ℕ) (q : Moment Micro) (spent mpc : ℕ) → StopsAfter mic1_meaning store' Arriving before q spent mpc →
      Stops mic1_meaning store' InWords before q spent mpc
  stops_in_words before q spent mpc h =
      inr (record {
        n = h.n;
        spent_is = h.spent_is;
        short = h.short;
        begins = h.begins;
        there = h.there;
        passes = h.passes;
        off = h.off;
        mpc_is = h.mpc_is;
        world = h.world;
      })

  pub shows_in_words : (s : State) (m : Micro) (w : World) → ShowsState mic1_meaning store' Arriving o.given s m w →
      ShowsState mic1_meaning store' InWords o.given s m w
  shows_in_words s m w h = record { boundary = h.boundary; address = h.address; sp = h.sp; lv = h.lv; untaken = h.untaken; given = h.given }

  pub stands_before : (v : VerifiedView) (s : State) (q : Moment Micro) (i : Instr) → Loads v o → Fine v s → IsNext v o s i →
      InWords s q.state q.world → StandsBefore entry' v o s q i
  stands_before v s q i loads fine next at =
      record { loads = loads; fine = fine; next = next; at = arriving s q.state q.world at; words = at.ready.words_are }

-- the first store keeps its promises, in these cycles
module _ (store store' : List ℕ) (entry entry' : ℕ) (costs : Costs) (timing : Timing) (IsShipped : List ℕ → Type 0) (shipped : IsShipped store)
    (first : Promises mic1_meaning IsReady IsShipped entry timing) (all : CarriesAll store store' entry entry' costs) where
  abbrev spent : Timing
  spent = timing_by costs timing

  module _ (o : Origin) (v : VerifiedView) (loads : Loads v o) where
    taken : Takes mic1_meaning store (IsAt mic1_meaning IsReady entry o) o.given timing v o (λ i. Unit {0})
    taken = (first.law store o v shipped loads).takes

    goes : (s to : State) (q : Moment Micro) (i : Instr) → Fine v s → IsNext v o s i → InWords store' entry' o s q.state q.world →
        Went v.image v.map.stack_end s to i → Moves mic1_meaning store' (InWords store' entry' o) o.given q (cost v.image spent i s) to
    goes s to q i fine next at went = elim (all.takes o.given timing v o s q i taken (stands_before store' entry' o v s q i loads fine next at)) [
      | inl halt ↦ absurd (subst (λ (j : Instr). Went v.image v.map.stack_end s to j) halt went)
      | inr rest ↦ elim rest [
        | inl err ↦ absurd (subst (λ (j : Instr). Went v.image v.map.stack_end s to j) err went)
        | inr on ↦ moves_in_words store' entry' o o.given q (cost v.image spent i s) to (on.goes to went)
      ]
    ]

    limits : (s left : State) (q : Moment Micro) (i : Instr) → Fine v s → IsNext v o s i → InWords store' entry' o s q.state q.world →
        Overran v.image v.map.stack_end s left i → Overruns mic1_meaning store' (InWords store' entry' o) o.given q left
    limits s left q i fine next at over = elim (all.takes o.given timing v o s q i taken (stands_before store' entry' o v s q i loads fine next at)) [
      | inl halt ↦ absurd (subst (λ (j : Instr). Overran v.image v.map.stack_end s left j) halt over)
      | inr rest ↦ elim rest [
        | inl err ↦ absurd (subst (λ (j : Instr). Overran v.image v.map.stack_end s left j) err over)
        | inr on ↦ overruns_in_words store' entry' o o.given q left (on.limits left over)
      ]
    ]

    its_law : Law mic1_meaning store' (InWords store' entry' o) o.given spent v o
    its_law =
        record {
          shows = λ s m w at. shows_in_words store' entry' o s m w (all.shows o s m w (record { holds = at.holds; ready = at.ready.ready }));
          takes = record {
            goes = λ s to q i has fine next at went. goes s to q i fine next at went;
            limits = λ s left q i has fine next at over. limits s left q i fine next at over;
          };
          ends = record {
            halts = λ s q fine next at.
                stops_in_words store' entry' o o.given q (cost v.image spent Halt s) 0x0FF
                (all.halts o.given timing v o s q (stands_before store' entry' o v s q Halt loads fine next at));
            errs = λ s q fine next at.
                stops_in_words store' entry' o o.given q (cost v.image spent Err s) 0x0FE
                (all.errs o.given timing v o s q (stands_before store' entry' o v s q Err loads fine next at));
          };
        }

    its_boot : (input : List ℕ) →
        Boots mic1_meaning store' (InWords store' entry' o) o.given spent (reset_moment mic1_meaning entry' v.main_locals o input)
        (start_of v.main_locals input)
    its_boot input =
        let on = all.boots timing v o input (start_of v.main_locals input) loads loads.words (first.boots store o v input shipped loads) in
        record {
          off = refl;
          moves = moves_in_words store' entry' o o.given (reset_moment mic1_meaning entry' v.main_locals o input) spent.boot (start_of v.main_locals input) on;
        }

  -- the judged store keeps its own
  pub promised : Promises mic1_meaning IsReadyInWords (λ words. words ≡ store') entry' spent
  promised =
      record {
        law = λ words o v is loads.
            subst (λ (ws : List ℕ). Law mic1_meaning ws (InWords store' entry' o) o.given spent v o) (sym is) (its_law o v loads);
        boots = λ words o v input is loads.
            subst (λ (ws : List ℕ). Boots mic1_meaning ws (InWords store' entry' o) o.given spent
            (reset_moment mic1_meaning entry' v.main_locals o input) (start_of v.main_locals input)) (sym is) (its_boot o v loads input);
        grows = first.grows;
      }
