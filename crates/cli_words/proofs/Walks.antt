-- clap's walk over the words gives what the reading of the words gives.
use Rattle.cli_words.proofs.Common.{◌≡◌, ℕ, ◌∙◌, sym, ap, ap₂, refl, Bool, true, false, List, [], ◌∷◌, ◌++◌, Option, Some, None, inl, inr, ◌||◌, IsUtf8, arith}
use Rattle.cli_words.proofs.Common.{All-drop, All-get_or, if◌then◌else◌, fold, option_map, All, bytes_eq, Kinds, or_else}
use Rattle.clap.specs.Faults.{flags_fault, positional_fault, settle_fault, step_fault, turn_fault, use_fault, walk_fault}
use Rattle.clap.specs.Walk.{Held, Row, Rule, Walk, arg_by_index, arg_by_long, arg_by_short, idle, option, positional_held, pushed, settled, to_positional, used, value, walked}
use Rattle.clap.specs.declared.error.kind.ErrorKind.TheVariants as kind
use Rattle.cli_words.specs.Prelude.{Entry, Form, Look, NextWord, Rest, Text, add, any, dashes, is_in, is_value, long, look, only_plain, option_name, option_value, plain, read, read_any, read_long, read_plain, short}
use Rattle.cli_words.specs.Reading.{value as awaiting}
use Rattle.cli_words.proofs.Rules.{Fits, TakesOne, own_text, flag_rule, long_found, next, option_rule, plain_rule, shape_with}
use Rattle.cli_words.proofs.Looks.{IsShort, LooksAs, Tests, looks_as}
use Rattle.cli_words.proofs.Adding.{Adds, IsFault, IsPending, Next, Pending, add_pending, flag_adds, held, rows, settles, value_adds}

abbrev pub keep : {X : Type 0} → Kinds → Option X → Option X
keep [] o = o
keep (k ∷ ks) o = None

passes : {X : Type 0} (fault : Kinds) (o answer : Option X) → fault ≡ [] → o ≡ answer → keep fault o ≡ answer
passes fault o answer e h = rw e h

stops : {X : Type 0} (fault : Kinds) (o answer : Option X) → IsFault fault → answer ≡ None → keep fault o ≡ answer
stops fault o answer e h = rw (e.2, h) refl

-- what clap's walk gives from w on, where no step fails
abbrev pub rest : Text → List Rule → Walk → List Text → Option (List Row)
rest name c w [] = keep (settle_fault c false w.held) (Some (settled c w.held).rows)
rest name c w (x ∷ xs) = keep (turn_fault (shape_with name c) [] w x) (rest name c (walked c [] w x) xs)

keep_else : {X : Type 0} (a b : Kinds) (o : Option X) → keep (or_else a b) o ≡ keep a (keep b o)
keep_else [] b o = refl
keep_else (k ∷ ks) b o = refl

pub rest_is : (name : Text) (c : List Rule) (w : Walk) (words : List Text)
    → keep (or_else (walk_fault (shape_with name c) [] w words) (settle_fault c false (fold (walked c []) w words).held)) (Some (settled c (fold (walked c []) w words).held).rows)
    ≡ rest name c w words
unfolding walk_fault
rest_is name c w [] = refl
rest_is name c w (x ∷ xs) =
    keep_else (or_else (turn_fault (shape_with name c) [] w x) (walk_fault (shape_with name c) [] (walked c [] w x) xs)) _ _
    ∙ keep_else (turn_fault (shape_with name c) [] w x) (walk_fault (shape_with name c) [] (walked c [] w x) xs) _
    ∙ ap (keep (turn_fault (shape_with name c) [] w x)) (sym (keep_else (walk_fault (shape_with name c) [] (walked c [] w x) xs) _ _) ∙ rest_is name c (walked c [] w x) xs)

-- between two words, where no option waits
abbrev pub walk_at : List Entry → Pending → ℕ → Bool → Walk
walk_at g p i t = record { held = held g p; waiting = idle; position = i; is_trailing = t; stopped = None }

-- where an option waits for its value
abbrev pub wait_at : List Entry → Text → ℕ → Bool → Walk
wait_at g n i t = record { held = record { rows = rows g; pending = Some (n, []); skip = 0 }; waiting = option n; position = i; is_trailing = t; stopped = None }

abbrev pub Known : List Rule → List Text → Type 0
Known c [] = Unit {0}
Known c (n ∷ ns) = TakesOne c n × Known c ns

none_added : (c : List Rule) (p : Pending) (g : List Entry) → IsPending c p → add_pending p g (λ given. None) ≡ None
none_added c p g pend = elim (settles c p g pend) [ inl a ↦ a.3 (λ given. None) | inr b ↦ b.1 (λ given. None) ]

positional_is : (c : List Rule) (required : Bool) (i : ℕ) (n x : Text) (g : List Entry) (p : Pending)
    → (positional_fault c false (plain_rule required i n) (held g p) ≡ settle_fault c false (held g p))
    × (positional_held c (plain_rule required i n) x (held g p) ≡ pushed n x (settled c (held g p)))
positional_is c required i n x g None = (refl, refl)
positional_is c required i n x g (Some q) = go (bytes_eq q.0 n) refl
  where
    go : (b : Bool) → bytes_eq q.0 n ≡ b
        → (positional_fault c false (plain_rule required i n) (held g (Some q)) ≡ settle_fault c false (held g (Some q)))
        × (positional_held c (plain_rule required i n) x (held g (Some q)) ≡ pushed n x (settled c (held g (Some q))))
    go true e = (rw e refl, rw e refl)
    go false e = (rw e refl, rw e refl)

-- a plain word
plain_goes : (name : Text) (c : List Rule) (required : Bool) (x : Text) (xs : List Text) (t : Bool) (place : NextWord) (next_read : Rest)
    → (t || false) ≡ t
    → ((g : List Entry) (p : Pending) (i : ℕ) (left : List Text) → Fits required c i left → Known c left → IsPending c p
    → rest name c (walk_at g p i t) xs ≡ option_map rows (add_pending p g (next_read left place)))
    → (g : List Entry) (p : Pending) (i : ℕ) (left : List Text) → Fits required c i left → Known c left → IsPending c p
    → keep (step_fault (shape_with name c) i (held g p) value) (rest name c (to_positional c (arg_by_index c i) x (walk_at g p i t) (held g p)) xs)
    ≡ option_map rows (add_pending p g (λ given. read_plain x left place given next_read))
plain_goes name c required x xs t place next_read same ih g p i [] fit known pend =
    let bad : IsFault (step_fault (shape_with name c) i (held g p) value) = (kind.UnknownArgument, [], rw fit refl) in
    stops _ _ _ bad (ap (option_map rows) (none_added c p g pend))
plain_goes name c required x xs t place next_read same ih g p i (n ∷ left) fit known pend = elim (settles c p g pend) [
  | inl a ↦
      let fault : step_fault (shape_with name c) i (held g p) value ≡ [] = rw fit.0 ((positional_is c required i n x g p).0 ∙ a.0) in
      let after : to_positional c (arg_by_index c i) x (walk_at g p i t) (held g p) ≡ walk_at a.1 (Some (n, x)) (next i) t =
      rw (fit.0, (positional_is c required i n x g p).1, same) (ap (λ (h : Held). let w : Walk = record { held = pushed n x h; waiting = idle; position = next i; is_trailing = t; stopped = None } in w) a.2) in
      passes _ _ _ fault (ap (λ (w : Walk). rest name c w xs) after ∙ (ih a.1 (Some (n, x)) (next i) left fit.1 known.1 known.0 ∙ sym (ap (option_map rows) (a.3 _))))
  | inr b ↦
      let fault : step_fault (shape_with name c) i (held g p) value ≡ b.0.0 ∷ b.0.1 = rw fit.0 ((positional_is c required i n x g p).0 ∙ b.0.2) in
      stops _ _ _ (b.0.0, b.0.1, fault) (ap (option_map rows) (b.1 _))
]

-- after `--`
pub all_plain : (name : Text) (f : Form) (c : List Rule) (words : List Text) (g : List Entry) (p : Pending) (i : ℕ) (left : List Text)
    → Fits f.is_whole c i left → Known c left → IsPending c p
    → rest name c (walk_at g p i true) words ≡ option_map rows (add_pending p g (read f words left only_plain))
unfolding read walked
all_plain name f c [] g p i left fit known pend = elim (settles c p g pend) [
  | inl a ↦ passes _ _ _ a.0 (ap (λ (h : Held). Some h.rows) a.2 ∙ sym (ap (option_map rows) (a.3 (λ given. Some given))))
  | inr b ↦ stops _ _ _ b.0 (ap (option_map rows) (b.1 (λ given. Some given)))
]
all_plain name f c (x ∷ xs) g p i left fit known pend =
    plain_goes name c f.is_whole x xs true only_plain (read f xs) refl (all_plain name f c xs) g p i left fit known pend

-- where an option waits for its value, only a word that may be one comes to more than a fault
pending_none : (c : List Rule) (n : Text) (g : List Entry) → TakesOne c n
    → settle_fault c false (record { rows = rows g; pending = Some (n, []); skip = 0 }) ≡ kind.InvalidValue ∷ []
pending_none c n g t = rw t.found refl

dead : (name : Text) (f : Form) (c : List Rule) (words : List Text) (g : List Entry) (n : Text) (i : ℕ) (left : List Text)
    → Fits f.is_whole c i left → TakesOne c n → rest name c (wait_at g n i true) words ≡ None
unfolding walked
dead name f c [] g n i left fit t = stops _ _ _ (kind.InvalidValue, [], pending_none c n g t) refl
dead name f c (x ∷ xs) g n i [] fit t =
    let bad : IsFault (turn_fault (shape_with name c) [] (wait_at g n i true) x) = (kind.UnknownArgument, [], rw fit refl) in
    stops _ _ _ bad refl
dead name f c (x ∷ xs) g n i (m ∷ left) fit t = go (bytes_eq n m) refl
  where
    go : (b : Bool) → bytes_eq n m ≡ b → rest name c (wait_at g n i true) (x ∷ xs) ≡ None
    go true e =
        let bad : IsFault (turn_fault (shape_with name c) [] (wait_at g n i true) x) = (kind.InvalidValue, [], rw (fit.0, e, t.found) refl) in
        stops _ _ _ bad refl
    go false e =
        let bad : IsFault (turn_fault (shape_with name c) [] (wait_at g n i true) x) = (kind.InvalidValue, [], rw (fit.0, e, t.found) refl) in
        stops _ _ _ bad refl

-- a word of one dash and more is no argument's
short_fails : (name : Text) (c : List Rule) (x : Text) (g : List Entry) (p : Pending) (i : ℕ) → IsShort x → ((k : ℕ) → arg_by_short c k ≡ None)
    → IsFault (turn_fault (shape_with name c) [] (walk_at g p i false) x)
unfolding flags_fault
short_fails name c x g p i h none = (kind.UnknownArgument, [], rw (h.tests.dashes, h.tests.long, h.short, h.chars, none h.first) refl)

short_is_no_value : (name : Text) (c : List Rule) (x : Text) (g : List Entry) (n : Text) (i : ℕ) → IsShort x → ((k : ℕ) → arg_by_short c k ≡ None)
    → IsFault (turn_fault (shape_with name c) [] (wait_at g n i false) x)
unfolding flags_fault
short_is_no_value name c x g n i h none = (kind.UnknownArgument, [], rw (h.tests.dashes, h.tests.long, h.short, h.chars, none h.first) refl)

abbrev LongIs : Form → List Rule → Type 0
LongIs f c = (n : Text) → arg_by_long c n ≡ long_found f n

-- a word of two dashes and more, where an option waits for its value
long_is_no_value : (name : Text) (f : Form) (c : List Rule) (x : Text) (g : List Entry) (n : Text) (i : ℕ) (m : Text) (v : Option Text) → Tests x false (Some (m, v))
    → LongIs f c → TakesOne c n → IsFault (turn_fault (shape_with name c) [] (wait_at g n i false) x)
long_is_no_value name f c x g n i m v h by_name t = options (is_in m f.options) refl v h
  where
    flags : (b : Bool) → is_in m f.flags ≡ b → is_in m f.options ≡ false → (v : Option Text) → Tests x false (Some (m, v)) → IsFault (turn_fault (shape_with name c) [] (wait_at g n i false) x)
    flags true e absent (Some w) h = (kind.TooManyValues, [], rw (h.dashes, h.long, by_name m, absent, e) refl)
    flags true e absent None h = (kind.InvalidValue, [], rw (h.dashes, h.long, by_name m, absent, e, t.found) refl)
    flags false e absent v h = (kind.UnknownArgument, [], rw (h.dashes, h.long, by_name m, absent, e) refl)

    options : (b : Bool) → is_in m f.options ≡ b → (v : Option Text) → Tests x false (Some (m, v)) → IsFault (turn_fault (shape_with name c) [] (wait_at g n i false) x)
    options true e (Some w) h = (kind.InvalidValue, [], rw (h.dashes, h.long, by_name m, e, t.found) refl)
    options true e None h = (kind.InvalidValue, [], rw (h.dashes, h.long, by_name m, e, t.found) refl)
    options false e v h = flags (is_in m f.flags) refl e v h

abbrev walk_on : ℕ → List Row → Walk
walk_on i r = record { held = record { rows = r; pending = None; skip = 0 }; waiting = idle; position = i; is_trailing = false; stopped = None }

-- an argument is used, with the values that its word has
reacts : (name : Text) (c : List Rule) (xs : List Text) (i : ℕ) (r : Rule) (vs : List Text) (entry : Entry) (next_read : Next)
    → ((g : List Entry) → Adds (use_fault false r vs (rows g)) (used r vs (rows g)) entry g)
    → ((g : List Entry) → rest name c (walk_at g None i false) xs ≡ option_map rows (next_read g))
    → (g : List Entry) (p : Pending) (fault : Kinds) (w : Walk) → IsPending c p
    → fault ≡ or_else (or_else (settle_fault c false (held g p)) (use_fault false r vs (settled c (held g p)).rows)) []
    → w ≡ walk_on i (used r vs (settled c (held g p)).rows)
    → keep fault (rest name c w xs) ≡ option_map rows (add_pending p g (λ given. add entry given next_read))
reacts name c xs i r vs entry next_read adds ih g p fault w pend is_fault is_walk = elim (settles c p g pend) [
  | inl a ↦ after a.1 (is_fault ∙ rw a.0 (ap (λ (h : Held). or_else (use_fault false r vs h.rows) []) a.2))
      (is_walk ∙ ap (λ (h : Held). walk_on i (used r vs h.rows)) a.2) (a.3 _) (adds a.1)
  | inr b ↦
      let bad : IsFault fault = (b.0.0, b.0.1, is_fault ∙ rw b.0.2 refl) in
      stops _ _ _ bad (ap (option_map rows) (b.1 _))
]
  where
    after : (g2 : List Entry) → fault ≡ or_else (use_fault false r vs (rows g2)) [] → w ≡ walk_on i (used r vs (rows g2))
        → add_pending p g (λ given. add entry given next_read) ≡ add entry g2 next_read
        → Adds (use_fault false r vs (rows g2)) (used r vs (rows g2)) entry g2
        → keep fault (rest name c w xs) ≡ option_map rows (add_pending p g (λ given. add entry given next_read))
    after g2 f w2 e (inl b) = passes _ _ _ (f ∙ rw b.0 refl)
        (ap (λ (y : Walk). rest name c y xs) (w2 ∙ ap (walk_on i) b.1) ∙ (ih (g2 ++ entry ∷ []) ∙ sym (ap (option_map rows) (e ∙ b.2 next_read))))
    after g2 f w2 e (inr b) =
        let bad : IsFault fault = (b.0.0, b.0.1, f ∙ rw b.0.2 refl) in
        stops _ _ _ bad (ap (option_map rows) (e ∙ b.1 next_read))

-- `--name`, `--name=value` or `--=value`, where no option waits
long_goes : (name : Text) (f : Form) (c : List Rule) (x : Text) (xs : List Text) (i : ℕ) (left : List Text) (m : Text) (v : Option Text) (next_read : Rest) → Tests x false (Some (m, v)) → LongIs f c
    → ((g : List Entry) → rest name c (walk_at g None i false) xs ≡ option_map rows (next_read left any g))
    → ((g : List Entry) (n : Text) → is_in n f.options ≡ true → rest name c (wait_at g n i false) xs ≡ option_map rows (next_read left (awaiting n) g))
    → (g : List Entry) (p : Pending) → IsPending c p
    → keep (turn_fault (shape_with name c) [] (walk_at g p i false) x) (rest name c (walked c [] (walk_at g p i false) x) xs)
    ≡ option_map rows (add_pending p g (λ given. read_long f m v left given next_read))
unfolding walked
long_goes name f c x xs i left m v next_read h by_name ih wait_ih g p pend = options (is_in m f.options) refl v h
  where
    Goal : Option Text → Type 0
    Goal v = keep (turn_fault (shape_with name c) [] (walk_at g p i false) x) (rest name c (walked c [] (walk_at g p i false) x) xs)
        ≡ option_map rows (add_pending p g (λ given. read_long f m v left given next_read))

    flags : (b : Bool) → is_in m f.flags ≡ b → is_in m f.options ≡ false → (v : Option Text) → Tests x false (Some (m, v)) → Goal v
    flags true e absent (Some w) h =
        let bad : IsFault (turn_fault (shape_with name c) [] (walk_at g p i false) x) = (kind.TooManyValues, [], rw (h.dashes, h.long, by_name m, absent, e) refl) in
        stops _ _ _ bad (rw (absent, e) (ap (option_map rows) (none_added c p g pend)))
    flags true e absent None h =
        reacts name c xs i (flag_rule m) [] (m, None) (next_read left any) (flag_adds m) ih g p _ _ pend
        (rw (h.dashes, h.long, by_name m, absent, e) refl) (rw (h.dashes, h.long, by_name m, absent, e) refl)
        ∙ rw (absent, e) refl
    flags false e absent v h =
        let bad : IsFault (turn_fault (shape_with name c) [] (walk_at g p i false) x) = (kind.UnknownArgument, [], rw (h.dashes, h.long, by_name m, absent, e) refl) in
        stops _ _ _ bad (rw (absent, e) (ap (option_map rows) (none_added c p g pend)))

    options : (b : Bool) → is_in m f.options ≡ b → (v : Option Text) → Tests x false (Some (m, v)) → Goal v
    options true e (Some w) h =
        reacts name c xs i (option_rule m) (w ∷ []) (m, Some w) (next_read left any) (value_adds (Some m) None false m w) ih g p _ _ pend
        (rw (h.dashes, h.long, by_name m, e) refl) (rw (h.dashes, h.long, by_name m, e) refl)
        ∙ rw e refl
    options true e None h = elim (settles c p g pend) [
      | inl a ↦
          let fault : turn_fault (shape_with name c) [] (walk_at g p i false) x ≡ [] = rw (h.dashes, h.long, by_name m, e, a.0) refl in
          let after : walked c [] (walk_at g p i false) x ≡ wait_at a.1 m i false =
          rw (h.dashes, h.long, by_name m, e) (ap (λ (h : Held). let y : Walk = record { held = record h { pending = Some (m, []) }; waiting = option m; position = i; is_trailing = false; stopped = None } in y) a.2) in
          passes _ _ _ fault (ap (λ (y : Walk). rest name c y xs) after ∙ (wait_ih a.1 m e ∙ sym (ap (option_map rows) (a.3 _ ∙ rw e refl))))
      | inr b ↦
          let bad : IsFault (turn_fault (shape_with name c) [] (walk_at g p i false) x) = (b.0.0, b.0.1, rw (h.dashes, h.long, by_name m, e, b.0.2) refl) in
          stops _ _ _ bad (ap (option_map rows) (b.1 _))
    ]
    options false e v h = flags (is_in m f.flags) refl e v h

-- what a row's command gives to the walk
pub record Suits (f : Form) (c : List Rule) : Type 0 where
  pub by_long : (n : Text) → arg_by_long c n ≡ long_found f n
  pub by_short : (k : ℕ) → arg_by_short c k ≡ None
  pub known : (n : Text) → is_in n f.options ≡ true → TakesOne c n

-- from any place before `--` on
abbrev FromAny : Text → Form → List Rule → List Text → Type 0
FromAny name f c words = (g : List Entry) (p : Pending) (i : ℕ) (left : List Text) → Fits f.is_whole c i left → Known c left → IsPending c p
    → rest name c (walk_at g p i false) words ≡ option_map rows (add_pending p g (read f words left any))

abbrev FromValue : Text → Form → List Rule → List Text → Type 0
FromValue name f c words = (g : List Entry) (n : Text) (i : ℕ) (left : List Text) → Fits f.is_whole c i left → Known c left → is_in n f.options ≡ true
    → rest name c (wait_at g n i false) words ≡ option_map rows (read f words left (awaiting n) g)

any_goes : (name : Text) (f : Form) (c : List Rule) → Suits f c → (x : Text) (xs : List Text) → IsUtf8 x → FromAny name f c xs → FromValue name f c xs
    → FromAny name f c (x ∷ xs)
unfolding read walked
any_goes name f c suits x xs utf8 ih_any ih_value g p i left fit known pend = go (look x) (looks_as x utf8)
  where
    go : (l : Look) → LooksAs x l
        → keep (turn_fault (shape_with name c) [] (walk_at g p i false) x) (rest name c (walked c [] (walk_at g p i false) x) xs)
        ≡ option_map rows (add_pending p g (λ given. read_any f l x left given (read f xs)))
    go plain h =
        let fault : turn_fault (shape_with name c) [] (walk_at g p i false) x ≡ step_fault (shape_with name c) i (held g p) value = rw (h.tests.dashes, h.tests.long, h.short) refl in
        let after : walked c [] (walk_at g p i false) x ≡ to_positional c (arg_by_index c i) x (walk_at g p i false) (held g p) = rw (h.tests.dashes, h.tests.long, h.short) refl in
        ap₂ (λ (k : Kinds) (w : Walk). keep k (rest name c w xs)) fault after
        ∙ plain_goes name c f.is_whole x xs false any (read f xs) refl ih_any g p i left fit known pend
    go dashes h =
        let fault : turn_fault (shape_with name c) [] (walk_at g p i false) x ≡ [] = rw h refl in
        let after : walked c [] (walk_at g p i false) x ≡ walk_at g p i true = rw h refl in
        passes _ _ _ fault (ap (λ (w : Walk). rest name c w xs) after ∙ all_plain name f c xs g p i left fit known pend)
    go (long text) h = long_goes name f c x xs i left (option_name text) (option_value text) (read f xs) h suits.by_long
        (λ g2. ih_any g2 None i left fit known tt) (λ g2 n e. ih_value g2 n i left fit known e) g p pend
    go short h = stops _ _ _ (short_fails name c x g p i h suits.by_short) (ap (option_map rows) (none_added c p g pend))

value_goes : (name : Text) (f : Form) (c : List Rule) → Suits f c → (x : Text) (xs : List Text) → IsUtf8 x → FromAny name f c xs
    → FromValue name f c (x ∷ xs)
unfolding read walked
value_goes name f c suits x xs utf8 ih_any g n i left fit known e = go (look x) (looks_as x utf8)
  where
    go : (l : Look) → LooksAs x l
        → keep (turn_fault (shape_with name c) [] (wait_at g n i false) x) (rest name c (walked c [] (wait_at g n i false) x) xs)
        ≡ option_map rows (if is_value l then add (n, Some x) g (read f xs left any) else None)
    go plain h =
        let one = suits.known n e in
        let fault : turn_fault (shape_with name c) [] (wait_at g n i false) x ≡ [] = rw (h.tests.dashes, h.tests.long, h.short) refl in
        let after : walked c [] (wait_at g n i false) x ≡ walk_at g (Some (n, x)) i false = rw (h.tests.dashes, h.tests.long, h.short, one.found, own_text n) refl in
        passes _ _ _ fault (ap (λ (w : Walk). rest name c w xs) after ∙ ih_any g (Some (n, x)) i left fit known one)
    go dashes h =
        let fault : turn_fault (shape_with name c) [] (wait_at g n i false) x ≡ [] = rw h refl in
        let after : walked c [] (wait_at g n i false) x ≡ wait_at g n i true = rw h refl in
        passes _ _ _ fault (ap (λ (w : Walk). rest name c w xs) after ∙ dead name f c xs g n i left fit (suits.known n e))
    go (long text) h = stops _ _ _ (long_is_no_value name f c x g n i (option_name text) (option_value text) h suits.by_long (suits.known n e)) refl
    go short h = stops _ _ _ (short_is_no_value name c x g n i h suits.by_short) refl

pub walks : (name : Text) (f : Form) (c : List Rule) → Suits f c → (words : List Text) → All IsUtf8 words → FromAny name f c words × FromValue name f c words
unfolding read
walks name f c suits [] utf8 = (
  λ g p i left fit known pend. elim (settles c p g pend) [
    | inl a ↦ passes _ _ _ a.0 (ap (λ (h : Held). Some h.rows) a.2 ∙ sym (ap (option_map rows) (a.3 (λ given. Some given))))
    | inr b ↦ stops _ _ _ b.0 (ap (option_map rows) (b.1 (λ given. Some given)))
  ],
  λ g n i left fit known e. stops _ _ _ (kind.InvalidValue, [], pending_none c n g (suits.known n e)) refl,
)
walks name f c suits (x ∷ xs) utf8 =
    let ih = walks name f c suits xs (All-drop IsUtf8 1 (x ∷ xs) utf8) in
    let here : IsUtf8 x = All-get_or IsUtf8 (x ∷ xs) 0 x (omega arith) utf8 in
    (any_goes name f c suits x xs here ih.0 ih.1, value_goes name f c suits x xs here ih.0)
