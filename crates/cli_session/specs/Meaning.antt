-- What the lines of a session do: where they lead it, one after the other, and what a failing sink leaves.
use Rattle.std.specs.Prelude.{◌≡◌, ◌≤◌, ◌⊎◌, ℕ, suc, Bool, List, [], ◌∷◌, ◌++◌, length, Option, IfSome}
use Rattle.mic_base.specs.Prelude.{Rose, KeepsFront}
use Rattle.console_port.specs.Prelude.{StaysFlushed}
use Rattle.cli_outside.specs.Prelude.{Got, LentView, OutsideView}

-- what a sink holds is a front of these bytes, where that is known
abbrev pub IsFrontOf : Option (List ℕ) → List ℕ → Type 0
IsFrontOf held bytes = IfSome held (λ h. (more : List ℕ) × (bytes ≡ h ++ more))

-- what the lines of a session mean, by what is seen of it
pub record SessionMeaning (Seen Rules Stand : Type 0) : Type 1 where
  -- whether a line ends it
  pub quits : Seen → List ℕ → Bool
  -- the rules that it goes by, which no line changes
  pub GoesBy : Seen → Rules → Type 0
  -- where a session stands, by what `out` holds
  pub StandsAt : Option (List ℕ) → Seen → Stand → Type 0
  -- this many lines may still be done
  pub Lasts : ℕ → Seen → Type 0
  -- what `out` has not got yet of what was given
  pub waiting : Seen → List ℕ
  -- a line leads from one stand to the next, and prints this text
  pub Does : Rules → List ℕ → Stand → List ℕ → Stand → Type 0
  -- a failing sink breaks a line off at a stand: what `out` holds then, and what `err` held before and holds then
  pub IsBrokenOff : Rules → List ℕ → Stand → Option (List ℕ) → Option (List ℕ) → Option (List ℕ) → Type 0

-- a session, and what is seen of the outside
pub record Place (Seen : Type 0) : Type 0 where
  pub session : Seen
  pub seen : OutsideView

abbrev pub place : {Seen : Type 0} → Seen → OutsideView → Place Seen
place session seen = record { session = session; seen = seen }

module _ {Seen Rules Stand : Type 0} (m : SessionMeaning Seen Rules Stand) where
  -- of the lines that may still be done, one is done
  abbrev pub LastsOneLess : Seen → Seen → Type 0
  LastsOneLess old new = (n : ℕ) → m.Lasts (suc n) old → m.Lasts n new

  -- lines one after the other
  abbrev pub DoesAll : Rules → List (List ℕ) → Stand → List ℕ → Stand → Type 0
  DoesAll rules [] s text s' = (text ≡ []) × (s' ≡ s)
  DoesAll rules (line ∷ lines) s text s' =
      (first rest : List ℕ) × (next : Stand) × m.Does rules line s first next × DoesAll rules lines next rest s' × (text ≡ first ++ rest)

  -- these lines lead a session on, and print what `err` has got
  abbrev pub LeadOn : List (List ℕ) → Place Seen → Place Seen → Type 0
  LeadOn lines old new =
      (rules : Rules) → m.GoesBy old.session rules →
      (text : List ℕ) × Got old.seen.err.held text new.seen.err.held ×
      ((s : Stand) → m.StandsAt old.seen.out.held old.session s →
      (s' : Stand) × DoesAll rules lines s text s' × m.StandsAt new.seen.out.held new.session s')

  -- a failing sink breaks a line off, from whichever stand the session has
  abbrev pub BreaksOff : List ℕ → Place Seen → OutsideView → Type 0
  BreaksOff line old new =
      (rules : Rules) → m.GoesBy old.session rules → (s : Stand) → m.StandsAt old.seen.out.held old.session s →
      m.IsBrokenOff rules line s new.out.held old.seen.err.held new.err.held

  -- these lines were done whole: no sink failed, nothing waits for `out`, and both sinks have passed on all that they hold
  pub record Gone (lines : List (List ℕ)) (old new : Place Seen) : Type 0 where
    pub led : LeadOn lines old new
    pub rules : (rules : Rules) → m.GoesBy old.session rules → m.GoesBy new.session rules
    pub quits : m.quits new.session ≡ m.quits old.session
    pub waiting : m.waiting new.session ≡ []
    pub flushed_out : StaysFlushed old.seen.out.held old.seen.out.passed new.seen.out.held new.seen.out.passed
    pub flushed_err : StaysFlushed old.seen.err.held old.seen.err.passed new.seen.err.held new.seen.err.passed
    pub files : new.seen.files ≡ old.seen.files
    pub out : new.seen.out.faults ≡ old.seen.out.faults
    pub err : new.seen.err.faults ≡ old.seen.err.faults

  -- lines one by one: at most one, or some and then the others, so that between any two both sinks have passed on all that they hold
  pub data OneByOne : List (List ℕ) → Place Seen → Place Seen → Type 0 where
    AtOnce : (lines : List (List ℕ)) (old new : Place Seen) → length lines ≤ 1 → Gone lines old new → OneByOne lines old new
    Then : (first others : List (List ℕ)) (old mid new : Place Seen) → OneByOne first old mid → OneByOne others mid new →
        OneByOne (first ++ others) old new

  -- these lines were done
  pub record AreDone (lines : List (List ℕ)) (old new : Place Seen) : Type 0 where
    pub whole : Gone lines old new
    pub each : OneByOne lines old new

  -- `out` or `err` failed in this line: both hold all that they held before it, and then fronts of what it gives and prints
  pub record IsCutShort (line : List ℕ) (old : Place Seen) (new : OutsideView) : Type 0 where
    pub breaks : BreaksOff line old new
    pub keeps_out : KeepsFront old.seen.out.held new.out.held
    pub keeps_err : KeepsFront old.seen.err.held new.err.held
    pub files : new.files ≡ old.seen.files
    pub rose : Rose old.seen.out.faults new.out.faults ⊎ Rose old.seen.err.faults new.err.faults

  -- ---- a session and an outside that is lent, by what is seen of both

  module _ {D : Type 0} (seen : D → Seen) where
    abbrev pub GoneOver : List (List ℕ) → D → LentView → D → LentView → Type 0
    GoneOver lines session outside session' outside' = Gone lines (place (seen session) outside.seen) (place (seen session') outside'.seen)

    abbrev pub IsCutOver : List ℕ → D → LentView → LentView → Type 0
    IsCutOver line session outside outside' = IsCutShort line (place (seen session) outside.seen) outside'.seen
