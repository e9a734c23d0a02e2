-- What a board that was run over a verified image from its reset shows of the run.
use Rattle.ijvm_simulation.proofs.Common.{◌≡◌, ℕ, List, [], ◌++◌, Option, Some, None, IfSome, Bool, true, false, refl, sym, ◌∙◌, ap, subst, append-nil, Holds}
use Rattle.ijvm_simulation.proofs.Common.{ControlStore, World, Untaken, Given, TellsLeft, StillTells, Meaning, BoardView, MicroRun, turns, ShowsRun, IsLedTo}
use Rattle.ijvm_simulation.proofs.Common.{Leads, End, IsCutByRead as IsReadCut, IsCutByWrite as IsCut, VerifiedView, IsAtReset, reset_run}
use Rattle.ijvm_meaning.specs.Prelude.{Timing}
use Rattle.ijvm_simulation.specs.Prelude.{IsEnd, Grows, Promises, told_of, Leaves, Begins, HasRun, IsCutByRead, IsCutByWrite}
use Rattle.ijvm_simulation.proofs.Next.{Known}
use Rattle.ijvm_simulation.proofs.Carried.{simulated}
use Rattle.ijvm_simulation.proofs.Worlds.{same_end, front_of_end}

-- some bytes that may be untaken
abbrev pub rest_of : Option (List ℕ) → Bool → List ℕ
rest_of left true = []
rest_of left false = told_of left

pub rest_fits : (left : Option (List ℕ)) (ended : Bool) → Untaken left ended (rest_of left ended)
rest_fits left true = refl
rest_fits None false = tt
rest_fits (Some l) false = refl

pub given_told : (held : Option (List ℕ)) → Given held [] (told_of held)
given_told None = tt
given_told (Some h) = sym (append-nil h)

holds_told : (held : Option (List ℕ)) → Holds (told_of held) held
holds_told None = tt
holds_told (Some h) = ([], sym (append-nil h))

-- the bytes that a source may have left are those that it has left, where these are known
still_told : (left : Option (List ℕ)) (ended : Bool) (rest : List ℕ) → TellsLeft left ended → Untaken left ended rest → left ≡ Some rest
still_told left true rest t here = t.tells ∙ ap some (t.none_left refl ∙ sym here)
  where
    some : List ℕ → Option (List ℕ)
    some x = Some x
still_told left false rest t here =
    let same : rest ≡ t.bytes = subst (λ (l : Option (List ℕ)). IfSome l (λ x. rest ≡ x)) t.tells here in
    t.tells ∙ ap some (sym same)
  where
    some : List ℕ → Option (List ℕ)
    some x = Some x

-- what the sink holds, where all that was given was put
all_put : (held : Option (List ℕ)) (kept given given' : List ℕ) → kept ≡ [] → given ≡ given' → Given held kept given → IfSome held (λ h. h ≡ given')
all_put None kept given given' e same g = tt
all_put (Some h) kept given given' e same g = sym (append-nil h) ∙ (ap (λ (k : List ℕ). h ++ k) (sym e) ∙ (sym g ∙ same))

-- where it holds a front of them
front_put : (held : Option (List ℕ)) (before given : List ℕ) → Holds before held → IfSome held (λ h. (more : List ℕ) × (given ≡ h ++ more)) → IfSome held (λ h. Grows before h × Grows h given)
front_put None before given kept front = tt
front_put (Some h) before given kept front = (record { more = kept.0; are = kept.1 }, record { more = front.0; are = front.1 })

module _ {M S : Type 0} (state : M → S) (m : Meaning S) (IsReady : ℕ → List ℕ → ℕ → S → World → Type 0) (IsShipped : List ℕ → Type 0) (entry : ℕ) (timing : Timing) (promises : Promises m IsReady IsShipped entry timing)
    (v : VerifiedView) (known : Known) (bound : ℕ) (left held left' held' : Option (List ℕ)) (board0 board : BoardView M) (s : IsAtReset state m entry v board0) (shipped : IsShipped board0.store.words)
    (store : board0.store ≡ board.store) (tells : StillTells left board0.bus.console.ended left' board.bus.console.ended) where
  abbrev Here : Type 0
  Here = Begins state m IsReady IsShipped entry timing v bound board.store.words left (told_of held)

  has : IsShipped board.store.words
  has = subst (λ (st : ControlStore). IsShipped st.words) store shipped

  -- the bytes that were left when the run began
  untaken_at : (input : List ℕ) → Untaken left board0.bus.console.ended input → Untaken left false input
  untaken_at input h = subst (λ (e : Bool). Untaken left e input) s.ended h

  abbrev begins : (input : List ℕ) → Untaken left false input → Here
  begins input told =
      let sim = simulated v s.image s.accepted board0.bus.words s.loaded (told_of held) m IsReady IsShipped entry timing promises known board.store.words has bound input in
      record { shipped = has; words = board0.bus.words; loaded = s.loaded; text = s.text; input = input; told = told; simulates = sim; finish = sim.finishes.0; finishes = sim.finishes.1 }

  abbrev world : List ℕ → World
  world input = record { words = board0.bus.words; untaken = input; given = told_of held }

  abbrev after : ℕ → List ℕ → MicroRun S
  after n input = turns m board.store.words (Some bound) n (reset_run m entry v.main_locals (world input))

  leaves : (rest : List ℕ) → Untaken left' board.bus.console.ended rest → Leaves left left' rest
  leaves rest here = λ bytes told. still_told left' board.bus.console.ended rest (tells (record { bytes = bytes; tells = told; none_left = λ e. let begun = s.ended in absurd (cc) })) here

  shown : (input : List ℕ) → Untaken left board0.bus.console.ended input → ShowsRun state left held board0 (reset_run m entry v.main_locals (world input))
  shown input h =
      s.shows left held (world input)
      (record { words = refl; untaken = h; given = subst (λ (k : List ℕ). Given held k (told_of held)) (sym s.kept) (given_told held) })

  -- turns over these words lead to the second board, which shows this of the run
  abbrev Led : List ℕ → (MicroRun S → Type 0) → Type 0
  Led words IsShown = IsLedTo state left held board0 left' board (λ r rest. (n : ℕ) × Leads state m words (Some bound) board board0.buses rest n r IsShown)

  -- an input, and the turns after which the run over it is there
  record Comes (IsShown : MicroRun S → Type 0) : Type 0 where
    pub input : List ℕ
    pub told : Untaken left false input
    pub n : ℕ
    pub here : IsShown (after n input)

  comes : (IsShown : List ℕ → MicroRun S → Type 0) → Led board0.store.words (IsShown board0.store.words) → Comes (IsShown board.store.words)
  comes IsShown led =
      let on : Led board.store.words (IsShown board.store.words) = subst (λ (st : ControlStore). Led st.words (IsShown st.words)) store led in
      let l = on (rest_of left' board.bus.console.ended) (rest_fits left' board.bus.console.ended) in
      let to = l.2 (reset_run m entry v.main_locals (world l.0)) (shown l.0 l.1) refl in
      record { input = l.0; told = untaken_at l.0 l.1; n = to.0; here = to.1.here }

  -- what has been given at a moment is a front of the definition's output
  front : (b : Here) (n : ℕ) → Grows (turns m board.store.words (Some bound) n (reset_run m entry v.main_locals (record { words = b.words; untaken = b.input; given = told_of held }))).world.given (told_of held ++ b.finish.left.given)
  front b n =
      let end = b.simulates.ends b.finish b.finishes in
      subst (λ (all : List ℕ). Grows (turns m board.store.words (Some bound) n (reset_run m entry v.main_locals (record { words = b.words; untaken = b.input; given = told_of held }))).world.given all) end.1.given
      (front_of_end m promises.grows board.store.words bound n end.0 _ (reset_run m entry v.main_locals (record { words = b.words; untaken = b.input; given = told_of held })) end.1.end)

  pub has_run : (e : End) → board.end ≡ Some e → board.bus.console.kept ≡ [] → Led board0.store.words (ShowsRun state left' held' board) →
      HasRun state m IsReady IsShipped entry timing v bound left held left' held' board
  has_run e ended kept led =
      let t : Comes (ShowsRun state left' held' board) = comes (λ words. ShowsRun state left' held' board) led in
      let b : Here = begins t.input t.told in
      let end = b.simulates.ends b.finish b.finishes in
      let same : after t.n t.input ≡ after end.0 t.input = same_end m board.store.words bound t.n end.0 e _ (reset_run m entry v.main_locals (world t.input)) (t.here.its_end ∙ ended) end.1.end in
      let agrees : IsEnd (told_of held) b.finish (after t.n t.input) = subst (λ (r : MicroRun S). IsEnd (told_of held) b.finish r) (sym same) end.1 in
      record {
        begins = b;
        n = t.n;
        at = record { its_state = t.here.its_state; memory = t.here.world.words; counts = t.here.counts; untaken = t.here.world.untaken; leaves = leaves (after t.n t.input).world.untaken t.here.world.untaken };
        end = t.here.its_end;
        agrees = agrees;
        untaken = subst (λ (u : List ℕ). Leaves left left' u) agrees.untaken (leaves (after t.n t.input).world.untaken t.here.world.untaken);
        given = all_put held' board.bus.console.kept (after t.n t.input).world.given (told_of held ++ b.finish.left.given) kept agrees.given t.here.world.given;
      }

  pub is_cut_by_read : Led board0.store.words (IsReadCut state m board0.store.words (Some bound) left' held' board) →
      IsCutByRead state m IsReady IsShipped entry timing v bound left held left' held' board
  is_cut_by_read led =
      let t : Comes (IsReadCut state m board.store.words (Some bound) left' held' board) = comes (λ words. IsReadCut state m words (Some bound) left' held' board) led in
      let b : Here = begins t.input t.told in
      record {
        begins = b;
        n = t.n;
        at = record { its_state = t.here.its_state; memory = t.here.world.words; counts = t.here.counts; untaken = t.here.world.untaken; leaves = leaves (after t.n t.input).world.untaken t.here.world.untaken };
        next = t.here.next;
        reads = t.here.reads;
        given = all_put held' board.bus.console.kept (after t.n t.input).world.given (after t.n t.input).world.given t.here.kept refl t.here.world.given;
        front = front b t.n;
      }

  pub is_cut_by_write : ((front : List ℕ) → Holds front held → Holds front held') → Led board0.store.words (IsCut state m board0.store.words (Some bound) left' held' board) →
      IsCutByWrite state m IsReady IsShipped entry timing v bound left held left' held' board
  is_cut_by_write keeps led =
      let t : Comes (IsCut state m board.store.words (Some bound) left' held' board) = comes (λ words. IsCut state m words (Some bound) left' held' board) led in
      let b : Here = begins t.input t.told in
      record {
        begins = b;
        n = t.n;
        at = record { its_state = t.here.its_state; memory = t.here.memory; counts = t.here.counts; untaken = t.here.untaken; leaves = leaves (after t.n t.input).world.untaken t.here.untaken };
        next = t.here.next;
        given = front_put held' (told_of held) (after t.n t.input).world.given (keeps (told_of held) (holds_told held)) t.here.front;
        front = front b t.n;
      }
