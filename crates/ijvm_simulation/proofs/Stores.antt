-- What holds of one store that ships, where it is given with its entry, holds of all that ship.
use Rattle.ijvm_simulation.proofs.Common.{◌≡◌, ℕ, List, Option, sym, subst, Result, Ok, Err, World, Meaning, MicroRun, BoardView, VerifiedView}
use Rattle.ijvm_meaning.specs.Prelude.{Timing}
use Rattle.ijvm_simulation.specs.Prelude.{told_of, Begins, IsAtMoment, HasRun, IsCutByRead, IsCutByWrite, Promises, interpretation, RunsAsDefined, IsCutWhereReadFails, IsCutWhereWriteFails}

module _ {M S : Type 0} (state : M → S) (m : Meaning S) (IsReady : ℕ → List ℕ → ℕ → S → World → Type 0) (IsShipped : List ℕ → Type 0) (entry : ℕ) (timing : Timing)
    (store : List ℕ) (shipped : IsShipped store) (given : ℕ) (same : given ≡ entry) where
  -- the words of the given store
  abbrev pub IsGiven : List ℕ → Type 0
  IsGiven words = words ≡ store

  ships : (words : List ℕ) → IsGiven words → IsShipped words
  ships words is = subst IsShipped (sym is) shipped

  pub promises_of_store : Promises m IsReady IsShipped entry timing → Promises m IsReady IsGiven given timing
  promises_of_store all =
      subst (λ (n : ℕ). Promises m IsReady IsGiven n timing) (sym same)
      (record {
        law = λ words o v is loads. all.law words o v (ships words is) loads;
        boots = λ words o v input is loads. all.boots words o v input (ships words is) loads;
        grows = all.grows;
      })

  module _ (v : VerifiedView) (bound : ℕ) (left held left' held' : Option (List ℕ)) (board : BoardView M) where
    abbrev begins : Begins state m IsReady IsGiven given timing v bound board.store.words left (told_of held) → Begins state m IsReady IsShipped given timing v bound board.store.words left (told_of held)
    begins b =
        record {
          shipped = ships board.store.words b.shipped;
          words = b.words;
          loaded = b.loaded;
          text = b.text;
          input = b.input;
          told = b.told;
          simulates = b.simulates;
          finish = b.finish;
          finishes = b.finishes;
        }

    abbrev at : (r : MicroRun S) → IsAtMoment state m IsReady IsGiven given timing v bound left held left' held' board r → IsAtMoment state m IsReady IsShipped given timing v bound left held left' held' board r
    at r here = record { its_state = here.its_state; memory = here.memory; counts = here.counts; untaken = here.untaken; leaves = here.leaves }

    run_of_store : HasRun state m IsReady IsGiven given timing v bound left held left' held' board → HasRun state m IsReady IsShipped entry timing v bound left held left' held' board
    run_of_store r =
        subst (λ (n : ℕ). HasRun state m IsReady IsShipped n timing v bound left held left' held' board) same
        (record { begins = begins r.begins; n = r.n; at = at _ r.at; end = r.end; agrees = r.agrees; untaken = r.untaken; given = r.given })

    read_of_store : IsCutByRead state m IsReady IsGiven given timing v bound left held left' held' board → IsCutByRead state m IsReady IsShipped entry timing v bound left held left' held' board
    read_of_store r =
        subst (λ (n : ℕ). IsCutByRead state m IsReady IsShipped n timing v bound left held left' held' board) same
        (record { begins = begins r.begins; n = r.n; at = at _ r.at; next = r.next; reads = r.reads; given = r.given; front = r.front })

    write_of_store : IsCutByWrite state m IsReady IsGiven given timing v bound left held left' held' board → IsCutByWrite state m IsReady IsShipped entry timing v bound left held left' held' board
    write_of_store r =
        subst (λ (n : ℕ). IsCutByWrite state m IsReady IsShipped n timing v bound left held left' held' board) same
        (record { begins = begins r.begins; n = r.n; at = at _ r.at; next = r.next; given = r.given; front = r.front })

  module _ {A B E : Type 0} (v : VerifiedView) (bound : ℕ) (left : A → Option (List ℕ)) (held : B → Option (List ℕ)) (source source' : A) (sink sink' : B) where
    pub runs_of_store : (result : Result (BoardView M) E) → RunsAsDefined (interpretation state m IsReady IsGiven given timing) v bound left held source sink source' sink' result →
        RunsAsDefined (interpretation state m IsReady IsShipped entry timing) v bound left held source sink source' sink' result
    runs_of_store (Ok board) has = λ none. run_of_store v bound (left source) (held sink) (left source') (held sink') board (has none)
    runs_of_store (Err e) has = tt

    pub reads_of_store : (result : Result (BoardView M) E) → IsCutWhereReadFails (interpretation state m IsReady IsGiven given timing) v bound left held source sink source' sink' result →
        IsCutWhereReadFails (interpretation state m IsReady IsShipped entry timing) v bound left held source sink source' sink' result
    reads_of_store (Ok board) cut = λ failed. read_of_store v bound (left source) (held sink) (left source') (held sink') board (cut failed)
    reads_of_store (Err e) cut = tt

    pub writes_of_store : (result : Result (BoardView M) E) → IsCutWhereWriteFails (interpretation state m IsReady IsGiven given timing) v bound left held source sink source' sink' result →
        IsCutWhereWriteFails (interpretation state m IsReady IsShipped entry timing) v bound left held source sink source' sink' result
    writes_of_store (Ok board) cut = λ failed. write_of_store v bound (left source) (held sink) (left source') (held sink') board (cut failed)
    writes_of_store (Err e) cut = tt
