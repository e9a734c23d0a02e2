-- What the debugger's library says of a line, as the definition has it.
use Rattle.cli_debug.proofs.Common.{◌≡◌, ◌∙◌, ℕ, Bool, true, false, List, [], ◌∷◌, Option, Some, None, Result, Ok, Err, refl, sym, ap, subst, OnOk, IfOk}
use Rattle.cli_debug.proofs.Common.{if◌then◌else◌, append-nil, no_rise, End, Meaning, MicroRun, BoardView, IsLedTo, Until, Reply, Verb, BadCommand, BadNumber}
use Rattle.cli_debug.proofs.Common.{Command, CommandError, OutsideView, source_state}
use Rattle.mic_debugger.specs.declared.until.Until.TheVariants as until
use Rattle.mic_debugger.specs.declared.reply.Reply.TheVariants as replies
use Rattle.mic_debugger.specs.declared.table.Verb.TheVariants as verbs
use Rattle.cli_session.specs.Prelude.{is_quit_in, is_untaken, one_untaken, untaken_of, Gone, place}
use Rattle.mic_debugger.specs.Prelude.{IsBookOf, command_of, KeepsRules, Obeys, plan_in, clocking, is_full_for, plan_by, plan_of, reply_of, watched_now, HasReadCause, ListingView, SessionView, Does, Rules, Stand, StandsAt, rules_of, stand_in, Streams}
use Rattle.cli_debug.specs.Prelude.{is_quit, is_quit_reply, is_quit_verb, debugging, debugging_view}

-- what the debugger's library sees of a call's outside, with what its program's input has left
abbrev pub streams_at : List ℕ → OutsideView → Streams
streams_at left o = record { input = source_state (Some left) 0; out = o.out; err = o.err }

module _ {M State : Type 0} (state : M → State) (left left' : List ℕ) (held : Option (List ℕ)) (v : SessionView M) (board' : BoardView M) (s : Stand State) (here : StandsAt state (Some left) held v s) where
  -- a run that is shown is led on
  pub leads_on : (P : MicroRun State → List ℕ → Type 0) → IsLedTo state (Some left) held v.board (Some left') board' P → (rest : List ℕ) × P s.run rest
  leads_on P led =
      let rest = untaken_of left' board'.bus.console.ended in
      let far = led rest (is_untaken left' board'.bus.console.ended) in
      (rest, far.2 s.run here.run (one_untaken left v.board.bus.console.ended s.run.world.untaken far.0 here.run.world.untaken far.1))

  pub same_stand : stand_in v s.run ≡ s
  same_stand = λ i. record { run = s.run; breaks = sym here.breaks i; watched = sym here.watched i }

-- ---- what a call of the library returns

clocked_quits : (end : Option End) (breaks : List ℕ) (watched : Option ℕ) (memory : List ℕ) (u : Until) (times : ℕ) → is_quit_reply (reply_of (clocking end breaks watched memory u times)) ≡ false
clocked_quits None breaks watched memory u times = refl
clocked_quits (Some e) breaks watched memory u times = refl

full_quits : (full : Bool) → is_quit_reply (if full then replies.TooManyBreaks else replies.Done) ≡ false
full_quits true = refl
full_quits false = refl

verb_quits : (end : Option End) (breaks : List ℕ) (watched : Option ℕ) (memory : List ℕ) (verb : Verb) (n : ℕ) →
    is_quit_reply (reply_of (plan_by end breaks watched memory verb n)) ≡ is_quit_verb verb
verb_quits end breaks watched memory verbs.Micro n = clocked_quits end breaks watched memory until.Cycle n
verb_quits end breaks watched memory verbs.Step n = clocked_quits end breaks watched memory until.Boundary n
verb_quits end breaks watched memory verbs.Go n = clocked_quits end breaks watched memory (until.Cause (watched_now watched memory)) 1
verb_quits end breaks watched memory verbs.Break n = full_quits (is_full_for breaks n)
verb_quits end breaks watched memory _ n = refl

line_quits : (end : Option End) (breaks : List ℕ) (watched : Option ℕ) (memory : List ℕ) (read : Result (Option (Command Verb)) CommandError) →
    is_quit_reply (reply_of (plan_of end breaks watched memory read)) ≡ is_quit_in is_quit_verb read
line_quits end breaks watched memory (Ok None) = refl
line_quits end breaks watched memory (Ok (Some c)) = verb_quits end breaks watched memory c.verb c.number
line_quits end breaks watched memory (Err BadCommand) = refl
line_quits end breaks watched memory (Err BadNumber) = refl

-- a reply is `quit` exactly where the line quits
pub quits_by : {M E : Type 0} (v : SessionView M) (line : List ℕ) (r : Result Reply E) → IfOk r (λ reply. reply ≡ reply_of (plan_in v line)) →
    IfOk r (λ reply. is_quit_reply reply ≡ is_quit v.listing.memory line)
quits_by v line (Ok reply) is = ap is_quit_reply is ∙ line_quits v.board.end v.breaks v.watched v.board.bus.words (command_of v.listing.memory line)
quits_by v line (Err e) is = tt

-- a line that it obeys is done whole
pub done_by : {M State T E : Type 0} (state : M → State) (m : Meaning State) (left left' : List ℕ) (o o' : OutsideView) (v v' : SessionView M) (line : List ℕ) (r : Result T E) →
    OnOk r (Obeys state m line v v' (streams_at left o) (streams_at left' o')) → (v.board.end ≡ None → HasReadCause 0 0 v'.board.end) → KeepsRules v v' → o'.files ≡ o.files →
    OnOk r (Gone (debugging state m) (line ∷ []) (place (debugging_view v left) o) (place (debugging_view v' left') o'))
done_by state m left left' o o' v v' line (Ok reply) obeys input keeps files =
    record {
      led = λ rules goes_by.
          let at = obeys.through.led (λ none read. no_rise ((input none).rose read)) rules.book goes_by.0 in (
            at.0,
            at.1,
            λ s here.
                let next = (leads_on state left left' o.out.held v v'.board s here _ at.2).1 in
                let does : Does m rules line s at.0 next.0 =
                subst (λ (r : Rules). Does m r line s at.0 next.0) (sym goes_by.1) (subst (λ (x : Stand _). Does m (rules_of v rules.book) line x at.0 next.0) (same_stand state left left' o.out.held v v'.board s here) next.1) in
                (next.0, (at.0, [], next.0, does, (refl, refl), sym (append-nil at.0)), next.2),
          );
      rules = λ rules goes_by. (
        subst (λ (l : ListingView). IsBookOf l rules.book) (sym keeps.listing) goes_by.0,
        goes_by.1 ∙ (λ i. record { book = rules.book; words = (sym keeps.store i).words; memory = (sym keeps.listing i).memory; bound = sym keeps.bound i }),
      );
      quits = ap (λ (l : ListingView). is_quit l.memory) keeps.listing;
      waiting = obeys.kept;
      flushed_out = obeys.through.sinks.flushed;
      flushed_err = λ h. obeys.passed;
      files = files;
      out = obeys.through.sinks.out;
      err = obeys.through.sinks.err;
    }
done_by state m left left' o o' v v' line (Err e) obeys input keeps files = tt
