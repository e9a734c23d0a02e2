-- What clap does after its walk, and the agreement of its result with the reading of the words.
use Rattle.cli_words.proofs.Common.{◌≡◌, ℕ, ◌+◌, ◌≤◌, ◌∙◌, ap, refl, Bool, true, false, not, List, [], ◌∷◌, ◌++◌, length, Option, Some, None, inl, inr, ◌⊎◌}
use Rattle.cli_words.proofs.Common.{◌||◌, ◌&&◌, IsUtf8, if◌then◌else◌, codes, fold, option_map, All, list_all, list_any, bytes_eq, Kinds, check_kinds, or_else}
use Rattle.cli_words.proofs.Common.{usize_max, App, matches_of, names_of as names_of_app, is_given, leaf_fault, AsWritten, DefaultValue}
use Rattle.clap.specs.Faults.{built_fault, check_fault, default_fault, defaults_fault, fault_of, settle_fault, walk_fault}
use Rattle.clap.specs.Walk.{Held, Row, Rule, finished, has_row, more_values, nothing_held, settled, walk, walk_from, with_default}
use Rattle.clap.specs.declared.error.kind.ErrorKind.TheVariants as kind
use Rattle.cli_words.specs.Prelude.{Entry, Form, Text, any, has, is_complete, is_in, read, reads}
use Rattle.cli_words.proofs.Rules.{TakesOne, app_with, by_id_option, by_id_plain, by_long, by_short, built_is, fits, flag_rule, flag_rules, given_rules, next, option_rule, option_rules, plain_rule, valued, own_text, plain_rules, rules_for, shape_with}
use Rattle.cli_words.proofs.Adding.{IsFault, no_row, rows}
use Rattle.cli_words.proofs.Walks.{Known, keep, rest, rest_is, walk_at, walks}

-- ---- defaults

abbrev pub default_row : Text → Row
default_row n = record { id = n; values = codes "false" ∷ []; count = None; source = Some DefaultValue; reading = AsWritten }

-- the flags that were not given read `false`
abbrev pub flagged : List Row → List Text → List Row
flagged r [] = r
flagged r (n ∷ ns) = flagged (if has_row n r then r else r ++ default_row n ∷ []) ns

value_default : (r : List Row) (long : Option Text) (index : Option ℕ) (required : Bool) (n : Text) → with_default r (valued long index required n) ≡ r
value_default r long index required n = go (has_row n r) refl
  where
    go : (b : Bool) → has_row n r ≡ b → with_default r (valued long index required n) ≡ r
    go true e = rw e refl
    go false e = rw e refl

flag_default : (r : List Row) (n : Text) → with_default r (flag_rule n) ≡ (if has_row n r then r else r ++ default_row n ∷ [])
flag_default r n = go (has_row n r) refl
  where
    go : (b : Bool) → has_row n r ≡ b → with_default r (flag_rule n) ≡ (if has_row n r then r else r ++ default_row n ∷ [])
    go true e = rw e refl
    go false e = rw e (no_row n (more_values DefaultValue (codes "false" ∷ [])) (default_row n ∷ []) r e)

value_passes : (r : List Row) (long : Option Text) (index : Option ℕ) (required : Bool) (n : Text) → default_fault r (valued long index required n) ≡ []
value_passes r long index required n = go (has_row n r) refl
  where
    go : (b : Bool) → has_row n r ≡ b → default_fault r (valued long index required n) ≡ []
    go true e = rw e refl
    go false e = rw e refl

flag_passes : (r : List Row) (n : Text) → default_fault r (flag_rule n) ≡ []
flag_passes r n = go (has_row n r) refl
  where
    go : (b : Bool) → has_row n r ≡ b → default_fault r (flag_rule n) ≡ []
    go true e = rw e refl
    go false e = rw e refl

flags_end : (r : List Row) (ns : List Text) → fold with_default r (flag_rules ns) ≡ flagged r ns
flags_end r [] = refl
flags_end r (n ∷ ns) = ap (λ q. fold with_default q (flag_rules ns)) (flag_default r n) ∙ flags_end (if has_row n r then r else r ++ default_row n ∷ []) ns

options_end : (r : List Row) (ns fs : List Text) → fold with_default r (option_rules ns (flag_rules fs)) ≡ flagged r fs
options_end r [] fs = flags_end r fs
options_end r (n ∷ ns) fs = ap (λ q. fold with_default q (option_rules ns (flag_rules fs))) (value_default r (Some n) None false n) ∙ options_end r ns fs

plain_end : (r : List Row) (required : Bool) (i : ℕ) (ns os fs : List Text) → fold with_default r (plain_rules required i ns (option_rules os (flag_rules fs))) ≡ flagged r fs
plain_end r required i [] os fs = options_end r os fs
plain_end r required i (n ∷ ns) os fs =
    ap (λ q. fold with_default q (plain_rules required (next i) ns (option_rules os (flag_rules fs)))) (value_default r None (Some i) required n) ∙ plain_end r required (next i) ns os fs

flags_default : (r : List Row) (ns : List Text) → defaults_fault r (flag_rules ns) ≡ []
unfolding defaults_fault
flags_default r [] = refl
flags_default r (n ∷ ns) = ap (λ k. or_else k (defaults_fault (with_default r (flag_rule n)) (flag_rules ns))) (flag_passes r n) ∙ flags_default (with_default r (flag_rule n)) ns

options_default : (r : List Row) (ns fs : List Text) → defaults_fault r (option_rules ns (flag_rules fs)) ≡ []
unfolding defaults_fault
options_default r [] fs = flags_default r fs
options_default r (n ∷ ns) fs =
    ap (λ k. or_else k (defaults_fault (with_default r (option_rule n)) (option_rules ns (flag_rules fs)))) (value_passes r (Some n) None false n)
    ∙ options_default (with_default r (option_rule n)) ns fs

plain_default : (r : List Row) (required : Bool) (i : ℕ) (ns os fs : List Text) → defaults_fault r (plain_rules required i ns (option_rules os (flag_rules fs))) ≡ []
unfolding defaults_fault
plain_default r required i [] os fs = options_default r os fs
plain_default r required i (n ∷ ns) os fs =
    ap (λ k. or_else k (defaults_fault (with_default r (plain_rule required i n)) (plain_rules required (next i) ns (option_rules os (flag_rules fs))))) (value_passes r None (Some i) required n)
    ∙ plain_default (with_default r (plain_rule required i n)) required (next i) ns os fs

-- ---- what is missing

given_more : (n m : Text) (r : List Row) → is_given n (r ++ default_row m ∷ []) ≡ is_given n r
given_more n m [] = go (bytes_eq m n) refl
  where
    go : (b : Bool) → bytes_eq m n ≡ b → is_given n (default_row m ∷ []) ≡ false
    go true e = rw e refl
    go false e = rw e refl
given_more n m (x ∷ r) = go (bytes_eq x.id n) refl (given_more n m r)
  where
    go : (b : Bool) → bytes_eq x.id n ≡ b → is_given n (r ++ default_row m ∷ []) ≡ is_given n r → is_given n ((x ∷ r) ++ default_row m ∷ []) ≡ is_given n (x ∷ r)
    go true e h = rw e refl
    go false e h = rw e h

given_flagged : (n : Text) (r : List Row) (fs : List Text) → is_given n (flagged r fs) ≡ is_given n r
given_flagged n r [] = refl
given_flagged n r (m ∷ fs) = go (has_row m r) refl (λ r. given_flagged n r fs)
  where
    go : (b : Bool) → has_row m r ≡ b → ((r : List Row) → is_given n (flagged r fs) ≡ is_given n r) → is_given n (flagged r (m ∷ fs)) ≡ is_given n r
    go true e rec = rw e (rec r)
    go false e rec = rw e (rec (r ++ default_row m ∷ []) ∙ given_more n m r)

given_rows : (n : Text) (g : List Entry) → is_given n (rows g) ≡ has n g
given_rows n [] = refl
given_rows n (e ∷ g) = go (bytes_eq e.0 n) refl (given_rows n g)
  where
    go : (b : Bool) → bytes_eq e.0 n ≡ b → is_given n (rows g) ≡ has n g → is_given n (rows (e ∷ g)) ≡ has n (e ∷ g)
    go true t h = rw t refl
    go false t h = rw t h

abbrev is_missing : List Row → Rule → Bool
is_missing r a = a.required && not (is_given a.id r)

flags_missing : (r : List Row) (ns : List Text) → list_any (is_missing r) (flag_rules ns) ≡ false
flags_missing r [] = refl
flags_missing r (n ∷ ns) = flags_missing r ns

options_missing : (r : List Row) (ns fs : List Text) → list_any (is_missing r) (option_rules ns (flag_rules fs)) ≡ false
options_missing r [] fs = flags_missing r fs
options_missing r (n ∷ ns) fs = options_missing r ns fs

plain_missing : (r : List Row) (g : List Entry) → ((n : Text) → is_given n r ≡ has n g) → (required : Bool) (i : ℕ) (ns os fs : List Text)
    → list_any (is_missing r) (plain_rules required i ns (option_rules os (flag_rules fs))) ≡ not (not required || list_all (λ n. has n g) ns)
plain_missing r g same true i [] os fs = options_missing r os fs
plain_missing r g same false i [] os fs = options_missing r os fs
plain_missing r g same false i (n ∷ ns) os fs = plain_missing r g same false (next i) ns os fs
plain_missing r g same true i (n ∷ ns) os fs = go (has n g) refl (plain_missing r g same true (next i) ns os fs)
  where
    go : (b : Bool) → has n g ≡ b → list_any (is_missing r) (plain_rules true (next i) ns (option_rules os (flag_rules fs))) ≡ not (list_all (λ n. has n g) ns)
        → list_any (is_missing r) (plain_rules true i (n ∷ ns) (option_rules os (flag_rules fs))) ≡ not (has n g && list_all (λ n. has n g) ns)
    go true e h = rw (same n, e) h
    go false e h = rw (same n, e) refl

-- ---- the whole parse

-- the fault of what comes after the walk
abbrev late_fault : Text → Form → List Row → Kinds
late_fault name f r = or_else (defaults_fault r (rules_for f)) (check_fault (shape_with name (rules_for f)) (fold with_default r (rules_for f)) false)

late : (name : Text) (f : Form) (g : List Entry) → late_fault name f (rows g) ≡ (if is_complete f g then [] else kind.MissingRequiredArgument ∷ [])
late name f g =
    let none : defaults_fault (rows g) (rules_for f) ≡ [] = plain_default (rows g) f.is_whole 1 f.plain f.options f.flags in
    let ends : fold with_default (rows g) (rules_for f) ≡ flagged (rows g) f.flags = plain_end (rows g) f.is_whole 1 f.plain f.options f.flags in
    let same : (n : Text) → is_given n (flagged (rows g) f.flags) ≡ has n g = λ n. given_flagged n (rows g) f.flags ∙ given_rows n g in
    let missing : list_any (is_missing (flagged (rows g) f.flags)) (rules_for f) ≡ not (is_complete f g) =
    plain_missing (flagged (rows g) f.flags) g same f.is_whole 1 f.plain f.options f.flags in
    rw (none, ends) (ap (check_kinds false false) missing ∙ go (is_complete f g))
  where
    go : (b : Bool) → check_kinds false false (not b) ≡ (if b then [] else kind.MissingRequiredArgument ∷ [])
    go true = refl
    go false = refl

-- the words are taken, with these matches, or refused
abbrev pub Agrees : App → Form → List Text → Type 0
Agrees a f words = ((g : List Entry) × (reads f words ≡ Some g) × (fault_of a words ≡ []) × (matches_of a words ≡ flagged (rows g) f.flags))
    ⊎ ((reads f words ≡ None) × IsFault (fault_of a words))

known_from : (c : List Rule) (ns : List Text) → ((n : Text) → is_in n ns ≡ true → TakesOne c n) → Known c ns
known_from c [] h = tt
known_from c (n ∷ ns) h = (h n (rw (own_text n) refl), known_from c ns (λ m e. h m (deeper m e)))
  where
    deeper : (m : Text) → is_in m ns ≡ true → is_in m (n ∷ ns) ≡ true
    deeper m e = go (bytes_eq n m)
      where
        go : (b : Bool) → (b || is_in m ns) ≡ true
        go true = refl
        go false = e

-- what clap holds at the walk's end
abbrev walk_end : Form → List Text → Held
walk_end f words = (walk (rules_for f) [] nothing_held words).held

abbrev walk_faults : Text → Form → List Text → Kinds
walk_faults name f words = or_else (walk_fault (shape_with name (rules_for f)) [] (walk_from nothing_held) words) (settle_fault (rules_for f) false (walk_end f words))

kept : {X : Type 0} (k : Kinds) (o : Option X) (x : X) → keep k o ≡ Some x → (k ≡ []) × (o ≡ Some x)
kept [] o x h = (refl, h)
kept (k ∷ ks) o x h = cc

dropped : {X : Type 0} (k : Kinds) (x : X) → keep k (Some x) ≡ None → IsFault k
dropped [] x h = cc
dropped (k ∷ ks) x h = (k, ks, refl)

else_nil : (a b c : Kinds) → or_else a (or_else b c) ≡ or_else (or_else a b) c
else_nil [] b c = refl
else_nil (k ∷ ks) b c = refl

fault_first : (a b : Kinds) → IsFault a → IsFault (or_else a b)
fault_first a b h = (h.0, h.1, rw h.2 refl)

fault_is : (name : Text) (f : Form) (words : List Text)
    → fault_of (app_with name (given_rules f)) words ≡ or_else (walk_faults name f words) (late_fault name f (settled (rules_for f) (walk_end f words)).rows)
fault_is name f words =
    ap (λ (a : App). built_fault a nothing_held words) (built_is name f)
    ∙ leaf_fault (record { top = shape_with name (rules_for f); subs = [] }) nothing_held words refl
    ∙ else_nil (walk_fault (shape_with name (rules_for f)) [] (walk_from nothing_held) words) (settle_fault (rules_for f) false (walk_end f words)) _

matches_are : (name : Text) (f : Form) (words : List Text)
    → matches_of (app_with name (given_rules f)) words ≡ fold with_default (settled (rules_for f) (walk_end f words)).rows (rules_for f)
matches_are name f words = ap (λ (a : App). finished a.top.rules (walk a.top.rules (names_of_app a) nothing_held words).held) (built_is name f)

pub agrees_with : (name : Text) (f : Form) (words : List Text) → 1 + length f.plain ≤ usize_max → All IsUtf8 words → Agrees (app_with name (given_rules f)) f words
agrees_with name f words room utf8 = go (read f words f.plain any []) refl
  where
    walked_as : rest name (rules_for f) (walk_at [] None 1 false) words ≡ option_map rows (read f words f.plain any [])
    walked_as = (walks name f (rules_for f) (record { by_long = by_long f; by_short = by_short f; known = by_id_option f }) words utf8).0
        [] None 1 f.plain (fits f room) (known_from (rules_for f) f.plain (by_id_plain f)) tt

    whole : keep (walk_faults name f words) (Some (settled (rules_for f) (walk_end f words)).rows) ≡ option_map rows (read f words f.plain any [])
    whole = rest_is name (rules_for f) (walk_at [] None 1 false) words ∙ walked_as

    complete : (g : List Entry) (b : Bool) → is_complete f g ≡ b → read f words f.plain any [] ≡ Some g → walk_faults name f words ≡ []
        → (settled (rules_for f) (walk_end f words)).rows ≡ rows g → Agrees (app_with name (given_rules f)) f words
    complete g true e is_read no_fault are = inl (
      g,
      rw (is_read, e) refl,
      fault_is name f words ∙ rw no_fault (ap (late_fault name f) are ∙ late name f g ∙ rw e refl),
      matches_are name f words ∙ ap (λ r. fold with_default r (rules_for f)) are ∙ plain_end (rows g) f.is_whole 1 f.plain f.options f.flags,
    )
    complete g false e is_read no_fault are = inr (
      rw (is_read, e) refl,
      (kind.MissingRequiredArgument, [], fault_is name f words ∙ rw no_fault (ap (late_fault name f) are ∙ late name f g ∙ rw e refl)),
    )

    go : (o : Option (List Entry)) → read f words f.plain any [] ≡ o → Agrees (app_with name (given_rules f)) f words
    go None e =
        let bad : IsFault (walk_faults name f words) = dropped (walk_faults name f words) _ (whole ∙ rw e refl) in
        let all = fault_first (walk_faults name f words) (late_fault name f (settled (rules_for f) (walk_end f words)).rows) bad in
        inr (rw e refl, (all.0, all.1, fault_is name f words ∙ all.2))
    go (Some g) e =
        let good = kept (walk_faults name f words) (Some (settled (rules_for f) (walk_end f words)).rows) (rows g) (whole ∙ rw e refl) in
        complete g (is_complete f g) refl e good.0 cc
