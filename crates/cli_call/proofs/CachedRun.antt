-- `cache` makes the run that `run` makes on Mic-1.
use Rattle.cli_call.proofs.Common.{◌≡◌, ◌≢◌, ◌∙◌, ℕ, Bool, true, false, List, [], ◌++◌, Option, Some, None, refl, sym, ap, subst, IfSome, IsSome, replicate}
use Rattle.cli_call.proofs.Common.{same_Some, append-nil, Given, Untaken, World, ControlStore, Mic1, Counts, End, NoFault, ShowsRun, HasOneEnd, MicroRun, turns}
use Rattle.cli_call.proofs.Common.{BoardView, Cycle, IsAtReset, reset_run, Micro, IsReady, mic1_meaning, registers_of, micro_of, Loaded, listed_program}
use Rattle.cli_call.proofs.Common.{IsLoadedFor, HasShipped, VerifiedView, timing_of, board_end, HasRun, told_of, Got, OutsideView, Says, status_of}
use Rattle.cli_call.proofs.Common.{report as report_of, accesses_of, cache_line, counts_of, IsCached, RunsThrough, report_on, NoRoom}
use Rattle.mic_watched.specs.Prelude.{cycles_of}
use Rattle.mic1_datapath.specs.declared.mic1.Mic1.{Mic1 as Datapath}
use Rattle.mic_clock.specs.declared.end.End.TheVariants as ends
use Rattle.cli_clocked.specs.Cached as caching
use Rattle.cli_call.specs.Prelude.{ClockedEnd, CutByRead, CutByWrite, Ran, CountsTheRun, IsQuiet}
use Rattle.cli_call.proofs.Agreeing.{said, told_input}
use Rattle.cli_call.proofs.SameRuns.{same_memory, same_runs}

-- some bytes that may be untaken
abbrev rest_of : Option (List ℕ) → Bool → List ℕ
rest_of left true = []
rest_of left false = told_of left

rest_fits : (left : Option (List ℕ)) (ended : Bool) → Untaken left ended (rest_of left ended)
rest_fits left true = refl
rest_fits None false = tt
rest_fits (Some l) false = refl

given_told : (held : Option (List ℕ)) → Given held [] (told_of held)
given_told None = tt
given_told (Some h) = sym (append-nil h)

-- what the sink holds, where nothing waits
all_held : (held : Option (List ℕ)) (kept given : List ℕ) → kept ≡ [] → Given held kept given → IfSome held (λ h. h ≡ given)
all_held None kept given none is = tt
all_held (Some h) kept given none is = sym (append-nil h) ∙ (ap (λ (k : List ℕ). h ++ k) (sym none) ∙ sym is)

both_held : (held held' : Option (List ℕ)) (x y all : List ℕ) → IfSome held (λ h. h ≡ all) → IfSome held' (λ h. h ≡ all) → held ≡ Some x → held' ≡ Some y → x ≡ y
both_held held held' x y all one other a b =
    subst (λ (k : Option (List ℕ)). IfSome k (λ h. h ≡ all)) a one ∙ sym (subst (λ (k : Option (List ℕ)). IfSome k (λ h. h ≡ all)) b other)

no_fault : (end : End) → (end ≡ ends.ReadFault → ⊥) → (end ≡ ends.WriteFault → ⊥) → NoFault None (Some end)
no_fault ends.ReadFault read write = read refl
no_fault ends.WriteFault read write = write refl
no_fault _ read write = tt

some_end : (e : Option End) (end : End) → e ≡ Some end → IsSome e
some_end e end is = subst IsSome (sym is) refl

same_report : (e e' : End) (c c' : Counts) (s s' : Micro) → e ≡ e' → c ≡ c' → s ≡ s' → report_of e c (registers_of s) ≡ report_of e' c' (registers_of s')
same_report e e' c c' s s' end counts state =
    ap (λ (x : End). report_of x c (registers_of s)) end
    ∙ (ap (λ (x : Counts). report_of e' x (registers_of s)) counts ∙ ap (λ (x : Micro). report_of e' c' (registers_of x)) state)

abbrev Board : Type 0
Board = BoardView Datapath

module _ (one_end : HasOneEnd mic1_meaning) (words : (l : Loaded) → IsLoadedFor Mic1 l → HasShipped Mic1 l.store.words)
    (entry : (l : Loaded) → IsLoadedFor Mic1 l → l.entry ≡ 0x002) (program : VerifiedView) (lines bound : ℕ) (input : List ℕ) (old ran cached : OutsideView)
    (status status' : ℕ) (left : old.console.left ≡ Some input) (quiet : IsQuiet old ran status) (quiet' : IsQuiet old cached status') where
  abbrev HasRun1 : Board → Type 0
  HasRun1 board = HasRun micro_of mic1_meaning IsReady (HasShipped Mic1) 0x002 (timing_of Mic1) program bound old.console.left old.out.held ran.console.left ran.out.held board

  abbrev start : World → MicroRun Micro
  start w = reset_run mic1_meaning 0x002 program.main_locals w

  -- turns of this store come to where the board of `cache` stands, and show these cycles
  record Came (last : Board) (cycles : List Cycle) (world : World) (store : List ℕ) : Type 0 where
    pub n : ℕ
    pub shows : cycles_of mic1_meaning store (Some bound) n (start world) ≡ cycles
    pub here : ShowsRun micro_of cached.console.left cached.out.held last (turns mic1_meaning store (Some bound) n (start world))

  module _ (l : Loaded) (last : Board) (cycles : List Cycle) (end : End)
      (through : RunsThrough micro_of mic1_meaning bound (listed_program Mic1) l program cycles last (Some end) old cached) where
    abbrev world : World
    world = record { words = through.first.bus.words; untaken = input; given = told_of old.out.held }

    not_read : end ≢ ends.ReadFault
    not_read is = quiet'.console (through.left.cause.read refl (ap (λ (e : End). Some e) is))

    not_write : end ≢ ends.WriteFault
    not_write is = quiet'.out (through.left.cause.write refl (ap (λ (e : End). Some e) is))

    came : Came last cycles world l.store.words
    came =
        let first : Board = through.first in
        let led = through.shows.run (no_fault end not_read not_write) (rest_of cached.console.left last.bus.console.ended) (rest_fits cached.console.left last.bus.console.ended) in
        let untaken : led.0 ≡ input =
        told_input old.console.left input led.0 left (subst (λ (e : Bool). Untaken old.console.left e led.0) through.begins.reset.ended led.1) in
        let reset : IsAtReset micro_of mic1_meaning 0x002 program first =
        subst (λ (at : ℕ). IsAtReset micro_of mic1_meaning at program first) (entry l through.begins.loaded) through.begins.reset in
        let shown : ShowsRun micro_of old.console.left old.out.held first (start world) =
        reset.shows old.console.left old.out.held world (record {
          words = refl;
          untaken = subst (λ (u : List ℕ). Untaken old.console.left first.bus.console.ended u) untaken led.1;
          given = subst (λ (k : List ℕ). Given old.out.held k (told_of old.out.held)) (sym reset.kept) (given_told old.out.held);
        }) in
        let to = led.2 (start world) shown (sym untaken) in
        subst (λ (store : ControlStore). Came last cycles world store.words) through.begins.store (record { n = to.0; shows = to.1; here = to.2.here })

    abbrev cached_text : List ℕ
    cached_text = report_on micro_of mic1_meaning end last ++ cache_line lines (counts_of lines program.map.stack_end (accesses_of Mic1 l.store.words cycles))

    counts_run : (board : Board) (run : HasRun1 board) →
        Says old.err ran.err (report_on micro_of mic1_meaning (board_end run.begins.finish.end) board) (status_of (board_end run.begins.finish.end)) status →
        Says old.err cached.err cached_text (status_of end) status' → CountsTheRun input lines bound old ran cached status status'
    counts_run board run says says' =
        let memory : List ℕ = replicate program.map.stack_end 0 in
        let reset = through.begins.reset in
        let same_words : through.first.bus.words ≡ run.begins.words =
        same_memory program.image.text program.image.pool memory through.first.bus.words run.begins.words reset.loaded reset.text run.begins.loaded run.begins.text in
        let same_input : input ≡ run.begins.input = sym (told_input old.console.left input run.begins.input left run.begins.told) in
        let there_world : World = record { words = run.begins.words; untaken = run.begins.input; given = told_of old.out.held } in
        let worlds : world ≡ there_world =
        ap (λ (words : List ℕ). record { words = words; untaken = input; given = told_of old.out.held }) same_words
        ∙ ap (λ (untaken : List ℕ). record { words = run.begins.words; untaken = untaken; given = told_of old.out.held }) same_input in
        let c : Came last cycles world l.store.words = came in
        let r : MicroRun Micro = turns mic1_meaning l.store.words (Some bound) c.n (start world) in
        let q : MicroRun Micro = turns mic1_meaning board.store.words (Some bound) run.n (start world) in
        let there : MicroRun Micro = turns mic1_meaning board.store.words (Some bound) run.n (start there_world) in
        let q_there : q ≡ there = ap (λ (w : World). turns mic1_meaning board.store.words (Some bound) run.n (start w)) worlds in
        let stopped : last.end ≡ Some end = through.ends not_write in
        let r_ended : r.end ≡ Some end = c.here.its_end ∙ stopped in
        let q_ended : q.end ≡ Some (board_end run.begins.finish.end) = ap (λ (x : MicroRun Micro). x.end) q_there ∙ run.agrees.end in
        let r_q : r ≡ q =
        same_runs l.store.words board.store.words (words l through.begins.loaded) run.begins.shipped (Some bound) one_end c.n run.n program.main_locals world
        (some_end r.end end r_ended) (some_end q.end (board_end run.begins.finish.end) q_ended) in
        let r_there : r ≡ there = r_q ∙ q_there in
        let same_end : board_end run.begins.finish.end ≡ end =
        same_Some (board_end run.begins.finish.end) end (sym q_ended ∙ (ap (λ (x : MicroRun Micro). x.end) (sym r_q) ∙ r_ended)) in
        let board_counts : board.counts ≡ r.counts = sym run.at.counts ∙ ap (λ (x : MicroRun Micro). x.counts) (sym r_there) in
        let board_state : micro_of board.machine ≡ r.state = sym run.at.its_state ∙ ap (λ (x : MicroRun Micro). x.state) (sym r_there) in
        let run_said = said old.err ran.err _ _ status quiet.err says in
        let cache_said = said old.err cached.err _ _ status' quiet'.err says' in
        let line : List ℕ = cache_line lines (counts_of lines program.map.stack_end (accesses_of Mic1 l.store.words cycles)) in
        record {
          same_status = run_said.0 ∙ (ap status_of same_end ∙ sym cache_said.0);
          same_out = λ given given'. both_held ran.out.held cached.out.held given given' (told_of old.out.held ++ run.begins.finish.left.given) run.given
              (subst (λ (all : List ℕ). IfSome cached.out.held (λ h. h ≡ all)) (ap (λ (x : MicroRun Micro). x.world.given) r_there ∙ run.agrees.given)
              (all_held cached.out.held last.bus.console.kept r.world.given through.kept c.here.world.given));
          program = program;
          store = l.store.words;
          cycles = cycles;
          last = r;
          runs = record {
            shipped = words l through.begins.loaded;
            world = world;
            loaded = reset.loaded;
            untaken = refl;
            n = c.n;
            shows = c.shows;
            comes = refl;
          };
          end = end;
          ended = r_ended;
          run_says = subst (λ (text : List ℕ). Got old.err.held text ran.err.held)
              (same_report (board_end run.begins.finish.end) end board.counts r.counts (micro_of board.machine) r.state same_end board_counts board_state) run_said.1;
          cache_says = subst (λ (text : List ℕ). Got old.err.held (text ++ line) cached.err.held)
              (same_report end end last.counts r.counts (micro_of last.machine) r.state refl (sym c.here.counts) (sym c.here.its_state)) cache_said.1;
        }

  by_cache : (board : Board) (run : HasRun1 board) →
      Says old.err ran.err (report_on micro_of mic1_meaning (board_end run.begins.finish.end) board) (status_of (board_end run.begins.finish.end)) status →
      IsCached micro_of mic1_meaning lines bound (listed_program Mic1) program old cached status' → CountsTheRun input lines bound old ran cached status status'
  by_cache board run says (caching.NoRoom tells) = absurd (quiet'.memory (said old.err cached.err _ _ status' quiet'.err tells.says).0)
  by_cache board run says (caching.Ran l last cycles end through says') = counts_run l last cycles end through board run says says'

  pub cache_counts : ClockedEnd micro_of mic1_meaning IsReady (HasShipped Mic1) 0x002 (timing_of Mic1) bound program old ran status →
      IsCached micro_of mic1_meaning lines bound (listed_program Mic1) program old cached status' → CountsTheRun input lines bound old ran cached status status'
  cache_counts (NoRoom tells) caches = absurd (quiet.memory (said old.err ran.err _ _ status quiet.err tells.says).0)
  cache_counts (Ran board run files console out flushed says) caches = by_cache board run says caches
  cache_counts (CutByRead board cut files rose out flushed says) caches = absurd (quiet.console rose)
  cache_counts (CutByWrite board cut files console rose says) caches = absurd (quiet.out rose)
