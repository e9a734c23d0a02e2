-- Lines that are done one after the other.
use Rattle.std.proofs.Common.{◌≡◌, ◌≢◌, ◌<◌, ◌≤◌, ◌+◌, ◌-◌, ◌∙◌, ℕ, zero, suc, Bool, true, false, List, [], ◌∷◌, ◌++◌, length, Option, Some, None, refl, sym, ap, subst, append_assoc, arith}
use Rattle.std.specs.Prelude.{if◌then◌else◌, IfSome, Ok}
use Rattle.std.specs.Option.{option_map}
use Rattle.std.proofs.lemmas.List.{append-nil, length-append}
use Rattle.std.proofs.lemmas.List.Elements.{All-append, All-cons}
use Rattle.mic_base.specs.Prelude.{Rose}
use Rattle.cli_outside.specs.Prelude.{Got, SinkState}
use Rattle.cli_session.specs.declared.line.Read.{Read}
use Rattle.cli_session.specs.declared.line.Read.TheVariants as reads
use Rattle.cli_session.specs.declared.lines.Step.{Step}
use Rattle.cli_session.specs.declared.lines.Step.TheVariants as steps
use Rattle.cli_session.specs.Prelude.{IsCutLine, IsFirstLine, ReadsLineOf, after_line, line_in, IsReadOn, IsReadOut, MayGoOn, left_after, lines_of, AreDone, AtOnce, DoesAll, Gone, IsCutShort, Place, SessionMeaning, Then, ConsoleFailed, Goes, On, Over, SinkFailed, step_after}

-- ---- what is printed

prints_none : (held : Option (List ℕ)) → Got held [] held
prints_none None = refl
prints_none (Some h) = ap Some (sym (append-nil h))

prints_more : (held held' held'' : Option (List ℕ)) (a b : List ℕ) → Got held a held' → Got held' b held'' → Got held (a ++ b) held''
prints_more None held' held'' a b p q = q ∙ ap (option_map (λ (h : List ℕ). h ++ b)) p
prints_more (Some h) held' held'' a b p q = q ∙ ap (option_map (λ (x : List ℕ). x ++ b)) p ∙ ap Some (append_assoc h a b)

-- ---- what the lines are

-- the first of some bytes, and then the others, if it does not quit
lines_first : (quits : List ℕ → Bool) (n : ℕ) (told line : List ℕ) → 0 < length told → line ≡ line_in 256 told →
    lines_of quits (suc n) told ≡ line ∷ (if quits line then [] else lines_of quits n (after_line 256 told))
lines_first quits n [] line some e = absurd (omega (arith, some))
lines_first quits n (b ∷ bytes) line some e =
    λ i. sym e i ∷ (if quits (sym e i) then [] else lines_of quits n (after_line 256 (b ∷ bytes)))

-- what is left after the first line of some bytes, and then after the others, if it does not quit
left_first : (quits : List ℕ → Bool) (n : ℕ) (told line : List ℕ) → 0 < length told → line ≡ line_in 256 told →
    left_after quits (suc n) told ≡ (if quits line then after_line 256 told else left_after quits n (after_line 256 told))
left_first quits n [] line some e = absurd (omega (arith, some))
left_first quits n (b ∷ bytes) line some e =
    λ i. if quits (sym e i) then after_line 256 (b ∷ bytes) else left_after quits n (after_line 256 (b ∷ bytes))

none_left : (quits : List ℕ → Bool) (n : ℕ) → left_after quits n [] ≡ []
none_left quits zero = refl
none_left quits (suc n) = refl

no_lines : (quits : List ℕ → Bool) (n : ℕ) → lines_of quits n [] ≡ []
no_lines quits zero = refl
no_lines quits (suc n) = refl

-- ---- how many lines there were, and whether one of them quits

opened : (quits : List ℕ → Bool) (most : ℕ) → MayGoOn quits most most []
opened quits most = record { count = omega arith; unquit = λ k d inside. absurd (omega (arith, inside)) }

opened_by : (quits : List ℕ → Bool) (n : ℕ) (line : List ℕ) → quits line ≡ false → MayGoOn quits (suc n) n (line ∷ [])
opened_by quits n line on = record { count = omega arith; unquit = All-cons (λ l. quits l ≡ false) line [] on (λ k d inside. absurd (omega (arith, inside))) }

open_then : (quits : List ℕ → Bool) (most mid more : ℕ) (lines others : List (List ℕ)) → MayGoOn quits most mid lines → MayGoOn quits mid more others → MayGoOn quits most more (lines ++ others)
open_then quits most mid more lines others p q =
    let sum : length (lines ++ others) ≡ length lines + length others = length-append lines others in
    let one = p.count in
    let two = q.count in
    record { count = omega (arith, sum, one, two); unquit = All-append (λ l. quits l ≡ false) lines others p.unquit q.unquit }

-- what is known of the bytes before and after some lines
then_told : (left mid : Option (List ℕ)) (P : List ℕ → List ℕ → Type 0) (Q R : List ℕ → Type 0) →
    IfSome left (λ bytes. (rest : List ℕ) × (mid ≡ Some rest) × P bytes rest) → IfSome mid Q →
    ((bytes rest : List ℕ) → P bytes rest → Q rest → R bytes) → IfSome left R
then_told None mid P Q R p q f = tt
then_told (Some bytes) mid P Q R p q f = f bytes p.0 p.2 (subst (λ (l : Option (List ℕ)). IfSome l Q) p.1 q)

pub told_as : (left : Option (List ℕ)) (P Q : List ℕ → Type 0) → IfSome left P → ((bytes : List ℕ) → P bytes → Q bytes) → IfSome left Q
told_as None P Q p f = tt
told_as (Some bytes) P Q p f = f bytes p

-- ---- one line of some bytes

module _ (quits : List ℕ → Bool) (n : ℕ) (bytes line : List ℕ) (left : Option (List ℕ)) where
  -- the line quits
  quit_at : quits line ≡ true → IsFirstLine bytes line left → IsReadOut quits (suc n) bytes (line ∷ []) left
  quit_at is first =
      record {
        whole = sym (lines_first quits n bytes line first.some first.line_is
            ∙ ap (λ (q : Bool). line ∷ (if q then [] else lines_of quits n (after_line 256 bytes))) is);
        left_is = first.rest ∙ ap Some (sym (left_first quits n bytes line first.some first.line_is
            ∙ ap (λ (q : Bool). if q then after_line 256 bytes else left_after quits n (after_line 256 bytes)) is));
      }

  -- the line does not quit
  on_at : quits line ≡ false → IsFirstLine bytes line left → IsReadOn quits (suc n) n bytes (line ∷ []) (after_line 256 bytes)
  on_at is first =
      record {
        open_end = opened_by quits n line is;
        whole = lines_first quits n bytes line first.some first.line_is
            ∙ ap (λ (q : Bool). line ∷ (if q then [] else lines_of quits n (after_line 256 bytes))) is;
        rest_is = left_first quits n bytes line first.some first.line_is
            ∙ ap (λ (q : Bool). if q then after_line 256 bytes else left_after quits n (after_line 256 bytes)) is;
      }

  -- nothing follows the line
  last_at : quits line ≡ false → IsFirstLine bytes line left → after_line 256 bytes ≡ [] → IsReadOut quits (suc n) bytes (line ∷ []) left
  last_at is first none =
      let on = on_at is first in
      record {
        whole = sym (on.whole ∙ ap (λ (r : List ℕ). line ∷ lines_of quits n r) none ∙ ap (λ (x : List (List ℕ)). line ∷ x) (no_lines quits n));
        left_is = first.rest ∙ ap Some (none ∙ sym (on.rest_is ∙ ap (left_after quits n) none ∙ none_left quits n));
      }

-- ---- how they lead a session on

module _ {Seen Rules Stand : Type 0} (m : SessionMeaning Seen Rules Stand) where
  does_more : (rules : Rules) (lines more : List (List ℕ)) (s t u : Stand) (a b : List ℕ) →
      DoesAll m rules lines s a t → DoesAll m rules more t b u → DoesAll m rules (lines ++ more) s (a ++ b) u
  does_more rules [] more s t u a b first rest =
      subst (λ (x : Stand). DoesAll m rules more x (a ++ b) u) first.1
      (subst (λ (w : List ℕ). DoesAll m rules more t (w ++ b) u) (sym first.0) rest)
  does_more rules (line ∷ lines) more s t u a b first rest = (
    first.0,
    first.1 ++ b,
    first.2,
    first.3,
    does_more rules lines more first.2 t u first.1 b first.4 rest,
    ap (λ (x : List ℕ). x ++ b) first.5 ∙ append_assoc first.0 first.1 b,
  )

module _ {Seen Rules Stand : Type 0} {m : SessionMeaning Seen Rules Stand} where
  -- before the first line
  pub gone_none : {old new : Place Seen} → new.session ≡ old.session → new.seen.files ≡ old.seen.files → new.seen.out ≡ old.seen.out →
      new.seen.err ≡ old.seen.err → m.waiting old.session ≡ [] → Gone m [] old new
  gone_none {old = old} {new = new} session files out err none =
      record {
        led = λ rules goes_by. (
          [],
          subst (λ (e : SinkState). Got old.seen.err.held [] e.held) (sym err) (prints_none old.seen.err.held),
          λ s here. (
            s,
            (refl, refl),
            subst (λ (v : Seen). m.StandsAt new.seen.out.held v s) (sym session)
                (subst (λ (o : SinkState). m.StandsAt o.held old.session s) (sym out) here),
          ),
        );
        rules = λ rules goes_by. subst (λ (v : Seen). m.GoesBy v rules) (sym session) goes_by;
        quits = ap m.quits session;
        waiting = ap m.waiting session ∙ none;
        flushed_out = λ h. rw out h;
        flushed_err = λ h. rw err h;
        files = files;
        out = ap (λ (o : SinkState). o.faults) out;
        err = ap (λ (e : SinkState). e.faults) err;
      }

  gone_more : (lines more : List (List ℕ)) (old mid new : Place Seen) → Gone m lines old mid → Gone m more mid new → Gone m (lines ++ more) old new
  gone_more lines more old mid new first rest =
      record {
        led = λ rules goes_by.
            let one = first.led rules goes_by in
            let two = rest.led rules (first.rules rules goes_by) in (
              one.0 ++ two.0,
              prints_more old.seen.err.held mid.seen.err.held new.seen.err.held one.0 two.0 one.1 two.1,
              λ s here.
                  let near = one.2 s here in
                  let far = two.2 near.0 near.2 in
                  (far.0, does_more m rules lines more s near.0 far.0 one.0 two.0 near.1 far.1, far.2),
            );
        rules = λ rules goes_by. rest.rules rules (first.rules rules goes_by);
        quits = rest.quits ∙ first.quits;
        waiting = rest.waiting;
        flushed_out = λ h. rest.flushed_out (first.flushed_out h);
        flushed_err = λ h. rest.flushed_err (first.flushed_err h);
        files = rest.files ∙ first.files;
        out = rest.out ∙ first.out;
        err = rest.err ∙ first.err;
      }

  done_more : (lines more : List (List ℕ)) (old mid new : Place Seen) → AreDone m lines old mid → AreDone m more mid new → AreDone m (lines ++ more) old new
  done_more lines more old mid new first rest =
      record { whole = gone_more lines more old mid new first.whole rest.whole; each = Then lines more old mid new first.each rest.each }

  at_once : {lines : List (List ℕ)} {old new : Place Seen} → length lines ≤ 1 → Gone m lines old new → AreDone m lines old new
  at_once {lines = lines} {old = old} {new = new} few done = record { whole = done; each = AtOnce lines old new few done }

  -- ---- how it goes on

  pub goes_start : (most : ℕ) {p : Place Seen} → m.waiting p.session ≡ [] → Goes m most most p p steps.On
  goes_start most {p = p} none = On [] (at_once (omega arith) (gone_none refl refl refl refl none)) refl (here p.seen.console.left)
    where
      here : (left : Option (List ℕ)) → IfSome left (λ bytes. (rest : List ℕ) × (left ≡ Some rest) × IsReadOn (m.quits p.session) most most bytes [] rest)
      here None = tt
      here (Some bytes) = (bytes, refl, record { open_end = opened (m.quits p.session) most; whole = refl; rest_is = refl })

  go_on : (most n : ℕ) (old mid new : Place Seen) (step : Step) (lines : List (List ℕ)) → AreDone m lines old mid → mid.seen.console.faults ≡ old.seen.console.faults →
      IfSome old.seen.console.left (λ bytes. (rest : List ℕ) × (mid.seen.console.left ≡ Some rest) × IsReadOn (m.quits old.session) most (suc n) bytes lines rest) →
      Goes m (suc n) n mid new step → Goes m most n old new step
  go_on most n old mid new step lines done quiet told (On more done' quiet' told') =
      let quits = m.quits old.session in
      let same : m.quits mid.session ≡ quits = done.whole.quits in
      On (lines ++ more) (done_more lines more old mid new done done') (quiet' ∙ quiet)
      (then_told old.seen.console.left mid.seen.console.left (λ bytes rest. IsReadOn quits most (suc n) bytes lines rest) _ _ told told'
      (λ bytes rest e q. (
        q.0,
        q.1,
        let later : IsReadOn quits (suc n) n rest more q.0 = subst (λ (k : List ℕ → Bool). IsReadOn k (suc n) n rest more q.0) same q.2 in
            record {
              open_end = open_then quits most (suc n) n lines more e.open_end later.open_end;
              whole = e.whole ∙ ap (λ (x : List (List ℕ)). lines ++ x) later.whole ∙ sym (append_assoc lines more (lines_of quits n q.0));
              rest_is = e.rest_is ∙ later.rest_is;
            },
      )))
  go_on most n old mid new step lines done quiet told (Over more done' quiet' told') =
      let quits = m.quits old.session in
      let same : m.quits mid.session ≡ quits = done.whole.quits in
      Over (lines ++ more) (done_more lines more old mid new done done') (quiet' ∙ quiet)
      (then_told old.seen.console.left mid.seen.console.left (λ bytes rest. IsReadOn quits most (suc n) bytes lines rest) _ _ told told'
      (λ bytes rest e q.
      let later : IsReadOut quits (suc n) rest more new.seen.console.left = subst (λ (k : List ℕ → Bool). IsReadOut k (suc n) rest more new.seen.console.left) same q in
      record { whole = ap (λ (x : List (List ℕ)). lines ++ x) later.whole ∙ sym e.whole; left_is = later.left_is ∙ ap Some (sym e.rest_is) }))
  go_on most n old mid new step lines done quiet told (ConsoleFailed more done' rose told') =
      let quits = m.quits old.session in
      let same : m.quits mid.session ≡ quits = done.whole.quits in
      ConsoleFailed (lines ++ more) (done_more lines more old mid new done done') (subst (λ (k : ℕ). Rose k new.seen.console.faults) quiet rose)
      (then_told old.seen.console.left mid.seen.console.left (λ bytes rest. IsReadOn quits most (suc n) bytes lines rest) _ _ told told'
      (λ bytes rest e q. record {
        before = q.before;
        some = q.some;
        open_end = open_then quits most (suc n) q.before lines more e.open_end (subst (λ (k : List ℕ → Bool). MayGoOn k (suc n) q.before more) same q.open_end);
        cut = q.cut;
        rest = q.rest;
        left_is = q.left_is;
        short = q.short;
        unended = q.unended;
        whole = e.whole ∙ ap (λ (x : List (List ℕ)). lines ++ x) (subst (λ (k : List ℕ → Bool). lines_of k (suc n) rest ≡ more ++ lines_of k q.before (q.cut ++ q.rest)) same q.whole)
            ∙ sym (append_assoc lines more (lines_of quits q.before (q.cut ++ q.rest)));
      }))
  go_on most n old mid new step lines done quiet told (SinkFailed more line at done' quiet' told' cut) =
      let quits = m.quits old.session in
      let same : m.quits mid.session ≡ quits = done.whole.quits in
      SinkFailed (lines ++ more) line at (done_more lines more old mid at done done') (quiet' ∙ quiet)
      (then_told old.seen.console.left mid.seen.console.left (λ bytes rest. IsReadOn quits most (suc n) bytes lines rest) _ _ told told'
      (λ bytes rest e q. (
        q.0,
        e.whole ∙ ap (λ (x : List (List ℕ)). lines ++ x) (subst (λ (k : List ℕ → Bool). lines_of k (suc n) rest ≡ more ++ line ∷ q.0) same q.1) ∙ sym (append_assoc lines more (line ∷ q.0)),
      )))
      cut

  -- one more line
  pub goes_more : (most n : ℕ) {old mid new : Place Seen} (before step : Step) → before ≡ steps.On → Goes m most (suc n) old mid before →
      Goes m (suc n) n mid new step → Goes m most n old new step
  goes_more most n {old = old} {mid = mid} {new = new} before step e (On lines done quiet told) next = go_on most n old mid new step lines done quiet told next
  goes_more most n {old = old} {mid = mid} {new = new} before step e (Over lines done quiet told) next = absurd (cc)
  goes_more most n {old = old} {mid = mid} {new = new} before step e (ConsoleFailed lines done rose told) next = absurd (cc)
  goes_more most n {old = old} {mid = mid} {new = new} before step e (SinkFailed lines line at done quiet told cut) next = absurd (cc)

  -- ---- one line

  -- the end is met at once
  pub goes_nowhere : (n : ℕ) {old new : Place Seen} → Gone m [] old new → new.seen.console.faults ≡ old.seen.console.faults →
      IfSome old.seen.console.left (λ told. (told ≡ []) × (new.seen.console.left ≡ Some [])) → Goes m (suc n) n old new steps.Over
  goes_nowhere n {old = old} {new = new} done quiet told =
      Over [] (at_once (omega arith) done) quiet
      (told_as old.seen.console.left _ _ told
      (λ bytes e. record {
        whole = ap (lines_of (m.quits old.session) (suc n)) (sym e.0);
        left_is = e.1 ∙ ap (λ (b : List ℕ). Some (left_after (m.quits old.session) (suc n) b)) (sym e.0);
      }))

  -- the console fails
  pub goes_cut : (n : ℕ) {old new : Place Seen} (line : List ℕ) → Gone m [] old new → Rose old.seen.console.faults new.seen.console.faults →
      IfSome old.seen.console.left (λ told. IsCutLine told line new.seen.console.left) → Goes m (suc n) n old new steps.ConsoleFailed
  goes_cut n {old = old} {new = new} line done rose told =
      ConsoleFailed [] (at_once (omega arith) done) rose
      (told_as old.seen.console.left _ _ told
      (λ bytes cut. record {
        before = suc n;
        some = omega arith;
        open_end = opened (m.quits old.session) (suc n);
        cut = line;
        rest = cut.rest;
        left_is = cut.left_is;
        short = cut.short;
        unended = subst (λ (x : List ℕ). line_in 256 x ≡ line ++ line_in (256 - length line) cut.rest) cut.told_is cut.unended;
        whole = ap (lines_of (m.quits old.session) (suc n)) cut.told_is;
      }))

  -- a sink fails
  pub goes_wrong : (E : Type 0) (n : ℕ) {old mid new : Place Seen} (line : List ℕ) (read : Read) → read ≢ reads.Nothing → Gone m [] old mid →
      new.seen.console.faults ≡ old.seen.console.faults → IfSome old.seen.console.left (λ told. ReadsLineOf {E = E} told line (Ok read) new.seen.console.left) →
      IsCutShort m line mid new.seen → Goes m (suc n) n old new steps.SinkFailed
  goes_wrong E n {old = old} {mid = mid} {new = new} line read other done quiet told cut =
      SinkFailed [] line mid (at_once (omega arith) done) quiet (told_as old.seen.console.left _ _ told (λ bytes q. (_, by read other bytes q))) cut
    where
      first_is : (bytes : List ℕ) → IsFirstLine bytes line new.seen.console.left →
          lines_of (m.quits old.session) (suc n) bytes ≡ line ∷ (if m.quits old.session line then [] else lines_of (m.quits old.session) n (after_line 256 bytes))
      first_is bytes first = lines_first (m.quits old.session) n bytes line first.some first.line_is

      by : (one : Read) → one ≢ reads.Nothing → (bytes : List ℕ) → ReadsLineOf {E = E} bytes line (Ok one) new.seen.console.left →
          lines_of (m.quits old.session) (suc n) bytes ≡ line ∷ (if m.quits old.session line then [] else lines_of (m.quits old.session) n (after_line 256 bytes))
      by reads.Line well bytes first = first_is bytes first
      by reads.Last well bytes first = first_is bytes first.0
      by reads.Nothing well bytes none = absurd (well refl)

  -- a line is done
  pub goes_one : (E : Type 0) (n : ℕ) {old new : Place Seen} (line : List ℕ) (read : Read) (stops : Bool) → stops ≡ m.quits old.session line → read ≢ reads.Nothing →
      Gone m (line ∷ []) old new → new.seen.console.faults ≡ old.seen.console.faults →
      IfSome old.seen.console.left (λ told. ReadsLineOf {E = E} told line (Ok read) new.seen.console.left) → Goes m (suc n) n old new (step_after read stops)
  goes_one E n {old = old} {new = new} line reads.Line true is other done quiet told =
      Over (line ∷ []) (at_once (omega arith) done) quiet (told_as old.seen.console.left _ _ told (λ bytes first. quit_at (m.quits old.session) n bytes line new.seen.console.left (sym is) first))
  goes_one E n {old = old} {new = new} line reads.Last true is other done quiet told =
      Over (line ∷ []) (at_once (omega arith) done) quiet (told_as old.seen.console.left _ _ told (λ bytes first. quit_at (m.quits old.session) n bytes line new.seen.console.left (sym is) first.0))
  goes_one E n {old = old} {new = new} line reads.Line false is other done quiet told =
      On (line ∷ []) (at_once (omega arith) done) quiet
      (told_as old.seen.console.left _ _ told
      (λ bytes first. (after_line 256 bytes, first.rest, on_at (m.quits old.session) n bytes line new.seen.console.left (sym is) first)))
  goes_one E n {old = old} {new = new} line reads.Last false is other done quiet told =
      Over (line ∷ []) (at_once (omega arith) done) quiet
      (told_as old.seen.console.left _ _ told (λ bytes first. last_at (m.quits old.session) n bytes line new.seen.console.left (sym is) first.0 first.1))
  goes_one E n {old = old} {new = new} line reads.Nothing stops is other done quiet told = absurd (other refl)

  -- ---- many lines

  -- nothing waits for `out` where a session goes on
  pub kept_on : (most n : ℕ) (old new : Place Seen) (step : Step) → step ≡ steps.On → Goes m most n old new step → m.waiting new.session ≡ []
  kept_on most n old new step e (On lines done quiet told) = done.whole.waiting
  kept_on most n old new step e _ = absurd (cc)

  -- where a session does not go on, it does not matter how many lines might have followed
  pub goes_over : (most n k : ℕ) {old new : Place Seen} (step : Step) → (step ≢ steps.On) → Goes m most n old new step → Goes m most k old new step
  goes_over most n k step other (On lines done quiet told) = absurd (other refl)
  goes_over most n k step other (Over lines done quiet told) = Over lines done quiet told
  goes_over most n k step other (ConsoleFailed lines done rose told) = ConsoleFailed lines done rose told
  goes_over most n k step other (SinkFailed lines line at done quiet told cut) = SinkFailed lines line at done quiet told cut
