-- Each end of a call is one of its answers.
use Rattle.cli_call.proofs.Common.{◌≡◌, ◌≢◌, ◌∙◌, ◌⊎◌, ℕ, Bool, List, Option, Some, None, refl, sym, ap, subst, arith, inl, inr, MatchOption, Machine, Mic1}
use Rattle.cli_call.proofs.Common.{Mic2, World, End, Meaning, BoardView, HasEndCause, NoFault, IsAtReset, IsReady as IsReady1, mic1_meaning}
use Rattle.cli_call.proofs.Common.{micro_of as micro_of1, mic2_meaning, RunEnd, mic3_meaning, pipeline_of, mic3_timing, Timing, timing_of, VerifiedView}
use Rattle.cli_call.proofs.Common.{IsAccepted, board_end, EndsAsDefined, MalView, PlainReport, Loaded, listed_program, HasShipped, Cycle, ShowsCycles, Rose}
use Rattle.cli_call.proofs.Common.{Processor, Datapath, Mic3, CommandName, Asked, machine_of, out_of_memory, FilesState, OutsideView, PrintsOnOut, Said, Says}
use Rattle.cli_call.proofs.Common.{SinkState, SourceState, TellsOnErr, Unsaid, with_files, Ends, IsNotHad, IsUnread, PrintsTextOf, WritesThenPrints, status_of}
use Rattle.cli_call.proofs.Common.{EndsOver, IsReferenceRun, IsReported, SoakEnds, Job, EndsOwnRun, IsChosenMicroprogram, NoneChosen, EndsPrepared}
use Rattle.cli_call.proofs.Common.{IsUnprepared, IsFirstBoard, RunsThrough, IsCached, IsOwnRun, IsProfiled, IsTraced, IsDebugged, RewindingView, rewinding}
use Rattle.cli_call.proofs.Common.{IsRewound, status_after, Step, Goes, EndsWithInput, IsNoInput, most_lines, AreDone, place}
use Rattle.mic2_datapath.specs.Prelude.{IsReady as IsReady2, micro_of as micro_of2}
use Rattle.mic3_datapath.specs.Prelude.{IsReady as IsReady3}
use Rattle.mal_shipped.specs.Prelude.{IsLoaded}
use Rattle.cli_call.specs.Answers.{Done}
use Rattle.mic_clock.specs.declared.end.End.TheVariants as ends
use Rattle.ijvm_meaning.specs.declared.run.RunEnd.TheVariants as defined
use Rattle.ijvm_reference.specs.Plain as plain
use Rattle.cli_words.specs.declared.table.CommandName.TheVariants as name
use Rattle.cli_outside.specs.Status as exits
use Rattle.cli_outside.specs.Work as work
use Rattle.cli_run_texts.specs.Ends as texts
use Rattle.cli_programs.specs.Reference as reference
use Rattle.cli_clocked.specs.Prepared as preparing
use Rattle.cli_clocked.specs.Cached as cached
use Rattle.cli_clocked.specs.OwnRun as own_run
use Rattle.cli_clocked.specs.Profiled as profiled
use Rattle.cli_clocked.specs.Traced as traced
use Rattle.cli_debug.specs.Debugged as debugging
use Rattle.cli_rewind.specs.Rewound as rewound_by
use Rattle.cli_session.specs.Goes as lines_of
use Rattle.cli_session.specs.Input as inputs
use Rattle.cli_programs.specs.SoakEnds as soaking
use Rattle.cli_call.specs.Prelude.{ClockedEnd, CallEnds, EndsOn, EndsOnMachine, PrintsMicro, job_of, shipped_job_of, Adrift, ConsoleFailed, Ended, FileFailed, HasFileRead, IsAnswer, IsRun, IsFaultless, IsOnlyTold, IsReference, IsUntouched, Misused, NoMemory, OutOfMap, Refused, Runs, RunsOwn, ShortOfMemory, SinkFailed, TakesFile, TooLong}
use Rattle.cli_call.specs.ClockedEnd as clocking
use Rattle.cli_call.specs.CallEnds as calls

-- a sink that failed between these has failed since the one before
either_of : (a a' b b' c d : ℕ) → a ≡ a' → b ≡ b' → Rose a c ⊎ Rose b d → Rose a' c ⊎ Rose b' d
either_of a a' b b' c d out err rose = subst (λ (x : ℕ). Rose x c ⊎ Rose b' d) out (subst (λ (y : ℕ). Rose a c ⊎ Rose y d) err rose)

-- only some microprograms end a run so
abbrev pub IsStray : End → Type 0
IsStray (ends.OutOfMap at) = Unit {0}
IsStray ends.Adrift = Unit {0}
IsStray end = ⊥

-- the definition's run does not end so
not_stray : (d : RunEnd) → IsStray (board_end d) → ⊥
not_stray defined.Halt h = h
not_stray _ h = h

-- such an end is no fault
not_fault : (end : End) → IsStray end → NoFault None (Some end)
not_fault ends.ReadFault h = h
not_fault ends.WriteFault h = h
not_fault _ h = tt

not_write_fault : (end : End) → IsStray end → end ≢ ends.WriteFault
not_write_fault end h e = let s : IsStray ends.WriteFault = subst IsStray e h in s

-- what is known of each shipped microprogram that is loaded
pub record IsListed : Type 0 where
  pub words : (machine : Machine) (l : Loaded) → IsLoaded (listed_program machine) l → HasShipped machine l.store.words
  pub entry : (machine : Machine) (l : Loaded) → IsLoaded (listed_program machine) l → l.entry ≡ 0x002

-- where the microprogram that ships is clocked, no run ends so
module _ {M S : Type 0} (state : M → S) (m : Meaning S) (machine : Machine) (listed : IsListed) (timing : Timing) (law : EndsAsDefined state m (HasShipped machine) 0x002 timing) where
  pub shipped_stays : (micro : MalView) (program : VerifiedView) (bound : ℕ) (left held left' held' : Option (List ℕ)) (l : Loaded) (first last : BoardView M) (cycles : List Cycle) (end : End) →
      micro ≡ listed_program machine → IsFirstBoard state m micro l program first → ShowsCycles state m bound left held first left' held' last cycles (Some end) →
      (end ≢ ends.WriteFault → last.end ≡ Some end) → IsStray end → ⊥
  shipped_stays micro program bound left held left' held' l first last cycles end ships start shows ended stray =
      let loaded : IsLoaded (listed_program machine) l = subst (λ (p : MalView). IsLoaded p l) ships start.loaded in
      let has : HasShipped machine first.store.words = subst (λ store. HasShipped machine store.words) (sym start.store) (listed.words machine l loaded) in
      let so = law program bound left held left' held' first last has
      (subst (λ (entry : ℕ). IsAtReset state m entry program first) (listed.entry machine l loaded) start.reset)
      (λ rest untaken.
      let led = shows.run (not_fault end stray) rest untaken in
      (led.0, led.1, λ r shown same. let here = led.2 r shown same in (here.0, here.2)))
      end (ended (not_write_fault end stray)) in
      not_stray so.finish.end (subst IsStray so.is stray)

-- a run ends out of the map or adrift only by a microprogram of one's own
abbrev pub Stays : Option Asked → OutsideView → OutsideView → {M S : Type 0} → (M → S) → Meaning S → ℕ → MalView → VerifiedView → Type 0
Stays asks old new {M} {S} state m bound micro program =
    (l : Loaded) (last : BoardView M) (cycles : List Cycle) (end : End) → RunsThrough state m bound micro l program cycles last (Some end) old new → IsStray end → RunsOwn asks

module _ (asks : Option Asked) (old new : OutsideView) (status : ℕ) where
  abbrev Answer : Type 0
  Answer = IsAnswer asks old new status

  -- What is printed has its status, or the sink failed.

  on_err : (text : List ℕ) (code : ℕ) → Says old.err new.err text code status → (status ≡ code → Answer) → Answer
  on_err text code (Said is got flushed same) answer = answer is
  on_err text code (Unsaid is front rose) answer = SinkFailed (inr rose) is

  -- where the sink did not fail, its count stays
  on_err_well : (text : List ℕ) (code : ℕ) → Says old.err new.err text code status → (new.err.faults ≡ old.err.faults → status ≡ code → Answer) → Answer
  on_err_well text code (Said is got flushed same) answer = answer same is
  on_err_well text code (Unsaid is front rose) answer = SinkFailed (inr rose) is

  -- after what it holds already
  after_err_well : (err : SinkState) (text : List ℕ) (code : ℕ) → err.faults ≡ old.err.faults → Says err new.err text code status → (new.err.faults ≡ old.err.faults → status ≡ code → Answer) → Answer
  after_err_well err text code quiet (Said is got flushed same) answer = answer (same ∙ quiet) is
  after_err_well err text code quiet (Unsaid is front rose) answer = SinkFailed (inr (subst (λ faults. Rose faults new.err.faults) quiet rose)) is

  after_err : (err : SinkState) (text : List ℕ) (code : ℕ) → err.faults ≡ old.err.faults → Says err new.err text code status → (status ≡ code → Answer) → Answer
  after_err err text code quiet (Said is got flushed same) answer = answer is
  after_err err text code quiet (Unsaid is front rose) answer = SinkFailed (inr (subst (λ faults. Rose faults new.err.faults) quiet rose)) is

  -- a text is printed on `out`, and nothing else is done
  prints_on : (text : List ℕ) (code : ℕ) (files : FilesState) → files.faults ≡ old.files.faults → PrintsOnOut text code (with_files old files) new status →
      (IsFaultless old new → status ≡ code → Answer) → Answer
  prints_on text code files quiet h answer = by h.says
    where
      by : Says old.out new.out text code status → Answer
      by (Said is got flushed same) =
          answer (record {
            files = ap (λ (f : FilesState). f.faults) h.files ∙ quiet;
            console = ap (λ (c : SourceState). c.faults) h.console;
            out = same;
            err = ap (λ (e : SinkState). e.faults) h.err;
          }) is
      by (Unsaid is front rose) = SinkFailed (inl rose) is

  -- all that is done is printed on `err`, except what is done to the files
  told : (text : List ℕ) (code : ℕ) (files : FilesState) → TellsOnErr text code (with_files old files) new status → (IsUntouched old new → status ≡ code → Answer) → Answer
  told text code files h answer = on_err text code h.says (answer (record { console = h.console; out = h.out }))

  only_told : (text : List ℕ) (code : ℕ) → TellsOnErr text code old new status → (IsOnlyTold old new → status ≡ code → Answer) → Answer
  only_told text code h answer = on_err text code h.says (answer (record { files = h.files; untouched = record { console = h.console; out = h.out } }))

  short : TellsOnErr out_of_memory exits.memory old new status → Answer
  short h = only_told _ _ h (λ only. NoMemory only.untouched)

  -- Nothing is read of a file, or this is done over what it holds.

  unread : (file : List ℕ) → HasFileRead asks file → IsUnread file old new status → Answer
  unread file reads (work.Failed same rose h) = told _ _ new.files h (FileFailed rose)
  unread file reads (work.TooLong bytes has long h) = only_told _ _ h (TooLong file bytes reads has long)
  unread file reads (work.NoRoom h) = short h

  not_had : (Refuses : List ℕ → List ℕ → Type 0) (file : List ℕ) → HasFileRead asks file → IsNotHad Refuses file old new status → Answer
  not_had Refuses file reads (work.Unread h) = unread file reads h
  not_had Refuses file reads (work.Refused bytes reason read refuses h) = only_told _ _ h (Refused file bytes reads read)
  not_had Refuses file reads (work.Short h) = short h

  over : {V : Type 0} (Refuses : List ℕ → List ℕ → Type 0) (Is : List ℕ → V → Type 0) (Does : V → OutsideView → OutsideView → ℕ → Type 0) (file : List ℕ) → HasFileRead asks file →
      Ends Refuses Is Does file old new status → ((value : V) → Does value old new status → Answer) → Answer
  over Refuses Is Does file reads (work.NotHad h) does = not_had Refuses file reads h
  over Refuses Is Does file reads (work.Did value had h) does = does value h

  printed : {V : Type 0} (Shows : V → List ℕ → Type 0) (value : V) → PrintsTextOf Shows value old new status → Answer
  printed Shows value h = prints_on _ _ old.files refl h.prints Done

  written : (target bytes text : List ℕ) → WritesThenPrints target bytes text old new status → Answer
  written target bytes text (work.Written has others same h) = prints_on _ _ new.files same h Done
  written target bytes text (work.Unwritten others rose h) = told _ _ new.files h (FileFailed rose)
  written target bytes text (work.HalfWritten others same h) = told _ _ new.files h NoMemory

  -- the status of a run that came to an end of the definition's
  defined_end : (end : RunEnd) → Runs asks → IsFaultless old new → status ≡ status_of (board_end end) → Answer
  defined_end defined.Halt runs well is = Done well is
  defined_end _ runs well is = Ended runs (omega (arith, is)) (omega (arith, is))

  -- the status of a run that came to any end, or was cut
  run_end : (end : End) → Runs asks → (IsStray end → RunsOwn asks) →
      HasEndCause old.console.faults new.console.faults old.out.faults new.out.faults None (Some end) → new.files ≡ old.files →
      new.err.faults ≡ old.err.faults → status ≡ status_of end → Answer
  run_end ends.Halt runs stray cause files err is =
      Done (record { files = ap (λ (f : FilesState). f.faults) files; console = cause.source_same (λ none q. cc); out = cause.sink_same (λ none q. cc); err = err }) is
  run_end ends.ReadFault runs stray cause files err is = ConsoleFailed (cause.read refl refl) is
  run_end ends.WriteFault runs stray cause files err is = SinkFailed (inl (cause.write refl refl)) is
  run_end (ends.OutOfMap at) runs stray cause files err is = OutOfMap (stray tt) is
  run_end ends.Adrift runs stray cause files err is = Adrift (stray tt) is
  run_end _ runs stray cause files err is = Ended runs (omega (arith, is)) (omega (arith, is))

  -- `run` and `soak` with the microprogram that ships
  module _ {M S : Type 0} (state : M → S) (m : Meaning S) (IsReady : ℕ → List ℕ → ℕ → S → World → Type 0) (IsShipped : List ℕ → Type 0) (entry : ℕ) (timing : Timing) (runs : Runs asks) where
    clocked : (bound : ℕ) (program : VerifiedView) → ClockedEnd state m IsReady IsShipped entry timing bound program old new status → Answer
    clocked bound program (clocking.NoRoom h) = short h
    clocked bound program (clocking.Ran board run files console out flushed says) =
        on_err_well _ _ says (λ err. defined_end run.begins.finish.end runs (record { files = ap (λ (f : FilesState). f.faults) files; console = console; out = out; err = err }))
    clocked bound program (clocking.CutByRead board cut files rose same flushed says) = on_err _ _ says (ConsoleFailed rose)
    clocked bound program (clocking.CutByWrite board cut files same rose says) = on_err _ _ says (SinkFailed (inl rose))

    soaked : (seed size : ℕ) → SoakEnds state m IsReady IsShipped entry timing seed size old new status → Answer
    soaked seed size (soaking.NoRoom h) = short h
    soaked seed size (soaking.Ran program is left board run h) = prints_on _ _ old.files refl h (defined_end run.begins.finish.end runs)

  -- the commands that clock any microprogram
  none_chosen : (machine : Machine) (name : Option (List ℕ)) → ((one : List ℕ) → name ≡ Some one → HasFileRead asks one) → NoneChosen machine name old new status → Answer
  none_chosen machine None reads h = short h
  none_chosen machine (Some one) reads h = not_had _ one (reads one refl) h

  unprepared : (machine : Machine) (job : Job (List ℕ)) → HasFileRead asks job.file → ((one : List ℕ) → job.own ≡ Some one → HasFileRead asks one) →
      IsUnprepared machine job old new status → Answer
  unprepared machine job reads owns (preparing.NoProgram h) = not_had _ job.file reads h
  unprepared machine job reads owns (preparing.NoMicroprogram program had h) = none_chosen machine job.own owns h

  prepared : (machine : Machine) (job : Job (List ℕ)) (Ran : MalView → VerifiedView → OutsideView → OutsideView → ℕ → Type 0) →
      HasFileRead asks job.file → ((one : List ℕ) → job.own ≡ Some one → HasFileRead asks one) → EndsPrepared machine job Ran old new status →
      ((micro : MalView) (program : VerifiedView) → IsAccepted program → IsChosenMicroprogram machine job.own old micro → Ran micro program old new status → Answer) → Answer
  prepared machine job Ran reads owns (preparing.Unprepared h) ran = unprepared machine job reads owns h
  prepared machine job Ran reads owns (preparing.Clocked micro program both h) ran = ran micro program both.had.is.accepted both.chosen h

  module _ {M S : Type 0} (state : M → S) (m : Meaning S) (runs : Runs asks) (bound : ℕ) (micro : MalView) (program : VerifiedView) where
    ran_own : RunsOwn asks → IsOwnRun state m bound micro program old new status → Answer
    ran_own owns (own_run.NoRoom h) = short h
    ran_own owns (own_run.Ran l first last end start ended kept run read write left says) = on_err_well _ _ says (run_end end runs (λ stray. owns) left.cause left.files)

    ran_traced : Stays asks old new state m bound micro program → (buses : Bool) → IsTraced state m bound buses micro program old new status → Answer
    ran_traced stays buses (traced.NoRoom h) = short h
    ran_traced stays buses (traced.Whole l last cycles end lines run are says) = on_err_well _ _ says (run_end end runs (stays l last cycles end run) run.left.cause run.left.files)
    ran_traced stays buses (traced.Stopped l last cycles lines run running are front rose is) = SinkFailed (inr rose) is

    ran_cached : Stays asks old new state m bound micro program → (lines : ℕ) → IsCached state m lines bound micro program old new status → Answer
    ran_cached stays lines (cached.NoRoom h) = short h
    ran_cached stays lines (cached.Ran l last cycles end run says) =
        on_err_well _ _ says (run_end end runs (stays l last cycles end run) run.left.cause run.left.files)

    ran_profiled : Stays asks old new state m bound micro program → IsProfiled state m bound micro program old new status → Answer
    ran_profiled stays (profiled.NoRoom h) = short h
    ran_profiled stays (profiled.Whole l last cycles end rows run are says) = on_err_well _ _ says (run_end end runs (stays l last cycles end run) run.left.cause run.left.files)
    ran_profiled stays (profiled.Stopped l last cycles run running got rose is) = SinkFailed (inr rose) is

  -- `debug` and `rewind`
  no_input : (name : Option (List ℕ)) → ((one : List ℕ) → name ≡ Some one → HasFileRead asks one) → IsNoInput name old new status → Answer
  no_input None reads h = absurd h
  no_input (Some one) reads h = unread one (reads one refl) h

  with_input : (Debugs : List ℕ → OutsideView → OutsideView → ℕ → Type 0) (name : Option (List ℕ)) → ((one : List ℕ) → name ≡ Some one → HasFileRead asks one) →
      EndsWithInput Debugs name old new status → ((input : List ℕ) → Debugs input old new status → Answer) → Answer
  with_input Debugs name reads (inputs.NoInput h) debugs = no_input name reads h
  with_input Debugs name reads (inputs.HasInput input is h) debugs = debugs input h

  debugged : {M S : Type 0} (state : M → S) (m : Meaning S) (bound : ℕ) (micro : MalView) (program : VerifiedView) (input : List ℕ) →
      IsDebugged state m bound micro program input old new status → Answer
  debugged state m bound micro program input (debugging.NoRoom h) = short h
  debugged state m bound micro program input (debugging.Left l first lines last start gone all same h) =
      after_err_well last.seen.err _ _ gone.whole.err h.says
      (λ err. Done (record {
        files = ap (λ (f : FilesState). f.faults) (h.files ∙ gone.whole.files);
        console = same;
        out = ap (λ (o : SinkState). o.faults) h.out ∙ gone.whole.out;
        err = err;
      }))
  debugged state m bound micro program input (debugging.Cut l first lines last start gone cut rose h) = after_err last.seen.err _ _ gone.whole.err h.says (ConsoleFailed rose)
  debugged state m bound micro program input (debugging.Stopped l first lines line mid start gone front cut same is) =
      SinkFailed (either_of mid.seen.out.faults old.out.faults mid.seen.err.faults old.err.faults new.out.faults new.err.faults gone.whole.out gone.whole.err cut.rose) is

  -- lines were done whole, and nothing after them
  gone_well : {M S : Type 0} (state : M → S) (m : Meaning S) (first last : RewindingView M) (lines : List (List ℕ)) →
      AreDone (rewinding state m) lines (place first old) (place last new) → new.console.faults ≡ old.console.faults → status ≡ exits.done → Answer
  gone_well state m first last lines gone same =
      Done (record { files = ap (λ (f : FilesState). f.faults) gone.whole.files; console = same; out = gone.whole.out; err = gone.whole.err })

  went : {M S : Type 0} (state : M → S) (m : Meaning S) (first last : RewindingView M) (step : Step) →
      Goes (rewinding state m) most_lines 0 (place first old) (place last new) step → status ≡ status_after step → Answer
  went state m first last _ (lines_of.On lines gone same left) is = gone_well state m first last lines gone same is
  went state m first last _ (lines_of.Over lines gone same left) is = gone_well state m first last lines gone same is
  went state m first last _ (lines_of.ConsoleFailed lines gone rose left) is = ConsoleFailed rose is
  went state m first last _ (lines_of.SinkFailed lines line mid gone same left cut) is =
      SinkFailed (either_of mid.seen.out.faults old.out.faults mid.seen.err.faults old.err.faults new.out.faults new.err.faults gone.whole.out gone.whole.err cut.rose) is

  rewound : {M S : Type 0} (state : M → S) (m : Meaning S) (depth : ℕ) (micro : MalView) (program : VerifiedView) (input : List ℕ) →
      IsRewound state m depth micro program input old new status → Answer
  rewound state m depth micro program input (rewound_by.NoRoom h) = short h
  rewound state m depth micro program input (rewound_by.Went l first last step start is goes left) = went state m first last step goes left

  -- `reference`
  reported : (machine : Machine) (bound : ℕ) (program : VerifiedView) (r : PlainReport) → Runs asks →
      IsReported machine bound program old new r → new.files ≡ old.files → new.err.faults ≡ old.err.faults → status ≡ status_of (texts.clocked_end r.end) → Answer
  reported machine bound program r runs (reference.Ran h console out flushed) files err is =
      defined_end h.run.finish.end runs (record { files = ap (λ (f : FilesState). f.faults) files; console = console; out = out; err = err }) (is ∙ ap (λ e. status_of (texts.clocked_end e)) h.end ∙ same_status h.run.finish.end)
    where
      same_status : (end : RunEnd) → status_of (texts.clocked_end (plain.reported_end end)) ≡ status_of (board_end end)
      same_status defined.Halt = refl
      same_status _ = refl
  reported machine bound program r runs (reference.CutByRead end cut rose same flushed) files err is = ConsoleFailed rose (is ∙ ap (λ e. status_of (texts.clocked_end e)) end)
  reported machine bound program r runs (reference.CutByWrite end cut same rose) files err is = SinkFailed (inl rose) (is ∙ ap (λ e. status_of (texts.clocked_end e)) end)

  defined_run : (machine : Machine) (bound : ℕ) (program : VerifiedView) → Runs asks → IsReference asks → IsReferenceRun machine bound program old new status → Answer
  defined_run machine bound program runs refers (reference.Reported r h files says) = on_err_well _ _ says (reported machine bound program r runs h files)
  defined_run machine bound program runs refers (reference.Short short console out flushed files says) = on_err _ _ says (ShortOfMemory refers)

-- each machine ends a run by the microprogram that ships as the definition does
pub record ShippedEnd : Type 0 where
  pub listed : IsListed
  pub mic1 : EndsAsDefined micro_of1 mic1_meaning (HasShipped Mic1) 0x002 (timing_of Mic1)
  pub mic2 : EndsAsDefined micro_of2 mic2_meaning (HasShipped Mic2) 0x002 (timing_of Mic2)
  pub mic3 : EndsAsDefined pipeline_of mic3_meaning (HasShipped Mic2) 0x002 mic3_timing

-- Without a file of its own, a command clocks the microprogram that ships.
stays : {M S : Type 0} (state : M → S) (m : Meaning S) (listed : IsListed) (timing : Timing) (law : EndsAsDefined state m (HasShipped m.machine) 0x002 timing)
    (asks : Option Asked) (old new : OutsideView) (bound : ℕ) (own : Option (List ℕ)) (micro : MalView) (program : VerifiedView) → IsChosenMicroprogram m.machine own old micro →
    ((name : List ℕ) → own ≡ Some name → RunsOwn asks) → Stays asks old new state m bound micro program
stays state m listed timing law asks old new bound None micro program chosen owns =
    λ l last cycles end run stray.
    absurd (shipped_stays state m m.machine listed timing law micro program bound _ _ _ _ l run.first last cycles end chosen run.begins run.shows run.ends stray)
stays state m listed timing law asks old new bound (Some name) micro program chosen owns = λ l last cycles end run stray. owns name refl

module _ (shipped : ShippedEnd) (a : Asked) (old new : OutsideView) (status : ℕ) where
  -- what a command's words have read, and what it runs

  has_file : (command : CommandName) → a.command ≡ command → TakesFile command → HasFileRead (Some a) a.file
  has_file command is takes = inl (subst TakesFile (sym is) takes, refl)

  runs_by : (command : CommandName) → a.command ≡ command → IsRun command → Runs (Some a)
  runs_by command is runs = subst IsRun (sym is) runs

  owns_by : Runs (Some a) → (name : List ℕ) → a.micro ≡ Some name → RunsOwn (Some a)
  owns_by runs name is = (runs, rw is refl)

  module _ {M S : Type 0} (state : M → S) (m : Meaning S) (IsReady : ℕ → List ℕ → ℕ → S → World → Type 0) (IsShipped : List ℕ → Type 0) (entry : ℕ) (timing : Timing)
      (law : EndsAsDefined state m (HasShipped m.machine) 0x002 timing) where
    ran_by : (own : Option (List ℕ)) → a.micro ≡ own → a.command ≡ name.Run →
        MatchOption own (EndsOver a.map (ClockedEnd state m IsReady IsShipped entry timing a.bound) a.file old new status)
        (λ own. EndsOwnRun state m (job_of a) old new status) → IsAnswer (Some a) old new status
    ran_by None own is h =
        over (Some a) old new status _ _ _ a.file (has_file name.Run is refl) h
        (clocked (Some a) old new status state m IsReady IsShipped entry timing (runs_by name.Run is tt) a.bound)
    ran_by (Some one) own is h =
        let runs = runs_by name.Run is tt in
        prepared (Some a) old new status m.machine (job_of a) _ (has_file name.Run is refl) (λ name same. inr (inl same)) h
        (λ micro program accepted chosen. ran_own (Some a) old new status state m runs a.bound micro program (owns_by runs one own))

    on_machine : (command : CommandName) → a.command ≡ command → EndsOn state m IsReady IsShipped entry timing command a old new status → IsAnswer (Some a) old new status
    on_machine name.Assemble is h = over (Some a) old new status _ _ _ a.file (has_file name.Assemble is refl) h (λ value. written (Some a) old new status _ _ _)
    on_machine name.List is h = over (Some a) old new status _ _ _ a.file (has_file name.List is refl) h (printed (Some a) old new status _)
    on_machine name.Verify is h = over (Some a) old new status _ _ _ a.file (has_file name.Verify is refl) h (printed (Some a) old new status _)
    on_machine name.Run is h = ran_by a.micro refl is h
    on_machine name.Trace is h =
        let runs = runs_by name.Trace is tt in
        prepared (Some a) old new status m.machine (job_of a) _ (has_file name.Trace is refl) (λ one is. inr (inl is)) h
        (λ micro program accepted chosen. ran_traced (Some a) old new status state m runs a.bound micro program
        (stays state m shipped.listed timing law (Some a) old new a.bound a.micro micro program chosen (owns_by runs)) a.buses)
    on_machine name.Profile is h =
        let runs = runs_by name.Profile is tt in
        prepared (Some a) old new status m.machine (job_of a) _ (has_file name.Profile is refl) (λ one is. inr (inl is)) h
        (λ micro program accepted chosen. ran_profiled (Some a) old new status state m runs a.bound micro program
        (stays state m shipped.listed timing law (Some a) old new a.bound a.micro micro program chosen (owns_by runs)))
    on_machine name.Debug is h =
        prepared (Some a) old new status m.machine (job_of a) _ (has_file name.Debug is refl) (λ one is. inr (inl is)) h
        (λ micro program accepted chosen ended. with_input (Some a) old new status _ a.input (λ one is. inr (inr is)) ended
        (debugged (Some a) old new status state m a.bound micro program))
    on_machine name.Reference is h =
        over (Some a) old new status _ _ _ a.file (has_file name.Reference is refl) h
        (λ program. defined_run (Some a) old new status (machine_of a.processor) a.bound program (runs_by name.Reference is tt) is)
    on_machine name.Micro is h = over (Some a) old new status _ _ _ a.file (has_file name.Micro is refl) h (λ value. written (Some a) old new status _ _ _)
    on_machine name.PrintMicro is h = printed_by a.micro refl h
      where
        printed_by : (own : Option (List ℕ)) → a.micro ≡ own → PrintsMicro (machine_of a.processor) own old new status → IsAnswer (Some a) old new status
        printed_by None own h = prints_on (Some a) old new status _ _ old.files refl h Done
        printed_by (Some file) own h =
            over (Some a) old new status _ _ _ file (inr (inl own)) h (λ text h. prints_on (Some a) old new status _ _ old.files refl h Done)
    on_machine name.Soak is h = soaked (Some a) old new status state m IsReady IsShipped entry timing (runs_by name.Soak is tt) a.seed a.size h
    on_machine name.Cache is h =
        prepared (Some a) old new status Mic1 (shipped_job_of a) _ (has_file name.Cache is refl) (λ one is. absurd (let none : None ≡ Some one = is in cc)) h
        (λ micro program accepted chosen. ran_cached (Some a) old new status micro_of1 mic1_meaning (runs_by name.Cache is tt) a.bound micro program
        (stays micro_of1 mic1_meaning shipped.listed (timing_of Mic1) shipped.mic1 (Some a) old new a.bound None micro program chosen
        (λ name is. absurd (let none : None ≡ Some name = is in cc))) a.lines)
    on_machine name.Rewind is h =
        prepared (Some a) old new status m.machine (shipped_job_of a) _ (has_file name.Rewind is refl) (λ one is. absurd (let none : None ≡ Some one = is in cc)) h
        (λ micro program accepted chosen ended. with_input (Some a) old new status _ a.input (λ one is. inr (inr is)) ended
        (rewound (Some a) old new status state m a.depth micro program))
    on_machine name.Compile is h = over (Some a) old new status _ _ _ a.file (has_file name.Compile is refl) h (λ program. written (Some a) old new status _ _ _)
    on_machine name.Tiny is h =
        over (Some a) old new status _ _ _ a.file (has_file name.Tiny is refl) h
        (clocked (Some a) old new status state m IsReady IsShipped entry timing (runs_by name.Tiny is tt) a.bound)

  by_machine : (processor : Processor) → EndsOnMachine processor a.command a old new status → IsAnswer (Some a) old new status
  by_machine (Datapath Mic1) h = on_machine micro_of1 mic1_meaning IsReady1 (HasShipped Mic1) 0x002 (timing_of Mic1) shipped.mic1 a.command refl h
  by_machine (Datapath Mic2) h = on_machine micro_of2 mic2_meaning IsReady2 (HasShipped Mic2) 0x002 (timing_of Mic2) shipped.mic2 a.command refl h
  by_machine Mic3 h = on_machine pipeline_of mic3_meaning IsReady3 (HasShipped Mic2) 0x002 mic3_timing shipped.mic3 a.command refl h

module _ (shipped : ShippedEnd) (old new : OutsideView) (status : ℕ) where
  pub answered : (asks : Option Asked) → CallEnds asks old new status → IsAnswer asks old new status
  answered asks (calls.NoRoom h) = short asks old new status h
  answered None (calls.Done h) = only_told None old new status _ _ h (Misused refl)
  answered (Some a) (calls.Done h) = by_machine shipped a old new status a.processor h
