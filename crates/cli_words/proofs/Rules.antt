-- The arguments of the command that is built of a row, and how clap finds them.
use Rattle.cli_words.proofs.Common.{◌≡◌, ℕ, ◌+◌, ◌<◌, ◌≤◌, ◌∙◌, sym, ap, refl, arith, Bool, true, false, List, [], ◌∷◌, ◌++◌, length, min, Option, Some, None}
use Rattle.cli_words.proofs.Common.{inl, inr, ◌⊎◌, append_assoc, ◌&&◌, ne_eqb, eq-eqb, if◌then◌else◌, codes, ◌==◌, append-nil, list_all, list_any, bytes_eq}
use Rattle.cli_words.proofs.Common.{bytes_eq-Decides, usize_max, App, Shape, built, filled_from, is_buildable, is_ready, is_ready_leaf, new_shape, on_top}
use Rattle.cli_words.proofs.Common.{with_rule, Set, SetTrue}
use Rattle.clap.specs.Walk.{Rule, arg_by_id, arg_by_index, arg_by_long, arg_by_short, is_early_multiple}
use Rattle.clap.specs.Faults.{is_free_app, is_simple_and_free}
use Rattle.clap.specs.declared.builder.value_parser.ValueParser.TheVariants as vp
use Rattle.cli_words.specs.Prelude.{Form, Text, is_in, app_for, bare, rules_in, with_rules}
use Rattle.cli_words.specs.declared.taking.Kind.TheVariants as kind

-- an argument that takes one value that is not empty
abbrev pub valued : Option Text → Option ℕ → Bool → Text → Rule
valued long index required name = record {
  id = name;
  long = long;
  aliases = [];
  short = None;
  short_aliases = [];
  index = index;
  action = Some Set;
  range = Some (record { start_inclusive = 1; end_inclusive = 1 });
  value_names = 0;
  defaults = [];
  missing = [];
  trailing_var_arg = false;
  parser = Some vp.NonEmptyString;
  ignore_case = false;
  required = required;
  is_simple = true;
  is_free = true;
}

abbrev pub flag_rule : Text → Rule
flag_rule name = record {
  id = name;
  long = Some name;
  aliases = [];
  short = None;
  short_aliases = [];
  index = None;
  action = Some SetTrue;
  range = Some (record { start_inclusive = 0; end_inclusive = 0 });
  value_names = 0;
  defaults = codes "false" ∷ [];
  missing = codes "true" ∷ [];
  trailing_var_arg = false;
  parser = Some vp.Bool;
  ignore_case = false;
  required = false;
  is_simple = true;
  is_free = true;
}

abbrev pub plain_rule : Bool → ℕ → Text → Rule
plain_rule required i name = valued None (Some i) required name

abbrev pub option_rule : Text → Rule
option_rule name = valued (Some name) None false name

abbrev pub next : ℕ → ℕ
next i = min (i + 1) usize_max

abbrev pub plain_rules : Bool → ℕ → List Text → List Rule → List Rule
plain_rules required i [] rest = rest
plain_rules required i (n ∷ ns) rest = plain_rule required i n ∷ plain_rules required (next i) ns rest

abbrev pub option_rules : List Text → List Rule → List Rule
option_rules [] rest = rest
option_rules (n ∷ ns) rest = option_rule n ∷ option_rules ns rest

abbrev pub flag_rules : List Text → List Rule
flag_rules [] = []
flag_rules (n ∷ ns) = flag_rule n ∷ flag_rules ns

-- the arguments of a row's command, once it is built
abbrev pub rules_for : Form → List Rule
rules_for f = plain_rules f.is_whole 1 f.plain (option_rules f.options (flag_rules f.flags))

abbrev pub shape_with : Text → List Rule → Shape
shape_with name rules = record (new_shape name) { no_binary_name = true; disable_help_flag = true; disable_help_subcommand = true; disable_version_flag = true; is_built = true; rules = rules }

-- ---- the command before it is built

with_rules_is : (a : App) (rs : List Rule) → with_rules a rs ≡ on_top (λ s. record s { rules = s.rules ++ rs }) a
with_rules_is a [] = ap (λ rules. on_top (λ s. record s { rules = rules }) a) (sym (append-nil a.top.rules))
with_rules_is a (r ∷ rs) = with_rules_is (with_rule a r) rs ∙ ap (λ rules. on_top (λ s. record s { rules = rules }) a) (append_assoc a.top.rules (r ∷ []) rs)

abbrev pub given_rules : Form → List Rule
given_rules f = rules_in (kind.Plain f.is_whole) f.plain ++ (rules_in kind.Valued f.options ++ rules_in kind.Flag f.flags)

abbrev pub app_with : Text → List Rule → App
app_with name rules = on_top (λ s. record s { rules = rules }) (bare name)

pub app_is : (name : Text) (f : Form) → app_for name f ≡ app_with name (given_rules f)
app_is name f = rw (with_rules_is, with_rules_is, with_rules_is)
    (ap (app_with name) (append_assoc (rules_in (kind.Plain f.is_whole) f.plain) (rules_in kind.Valued f.options) (rules_in kind.Flag f.flags)))

-- ---- the command when it is built

filled_flags : (i : ℕ) (ns : List Text) → filled_from i (rules_in kind.Flag ns) ≡ flag_rules ns
filled_flags i [] = refl
filled_flags i (n ∷ ns) = ap (λ rest. flag_rule n ∷ rest) (filled_flags i ns)

filled_options : (i : ℕ) (ns fs : List Text) → filled_from i (rules_in kind.Valued ns ++ rules_in kind.Flag fs) ≡ option_rules ns (flag_rules fs)
filled_options i [] fs = filled_flags i fs
filled_options i (n ∷ ns) fs = ap (λ rest. option_rule n ∷ rest) (filled_options i ns fs)

filled_plain : (required : Bool) (i : ℕ) (ns os fs : List Text)
    → filled_from i (rules_in (kind.Plain required) ns ++ (rules_in kind.Valued os ++ rules_in kind.Flag fs)) ≡ plain_rules required i ns (option_rules os (flag_rules fs))
filled_plain required i [] os fs = filled_options i os fs
filled_plain required i (n ∷ ns) os fs = ap (λ rest. plain_rule required i n ∷ rest) (filled_plain required (next i) ns os fs)

pub built_is : (name : Text) (f : Form) → built (app_with name (given_rules f)) ≡ record { top = shape_with name (rules_for f); subs = [] }
built_is name f = ap (λ rules. record { top = shape_with name rules; subs = [] }) (filled_plain f.is_whole 1 f.plain f.options f.flags)

-- ---- finding an argument

pub same_text : (a b : Text) → bytes_eq a b ≡ true → a ≡ b
same_text a b e = (bytes_eq-Decides a b).0 e

pub own_text : (a : Text) → bytes_eq a a ≡ true
own_text a = (bytes_eq-Decides a a).1 refl

-- what a long name finds
abbrev pub long_found : Form → Text → Option Rule
long_found f name = if is_in name f.options then Some (option_rule name) else (if is_in name f.flags then Some (flag_rule name) else None)

flags_by_long : (ns : List Text) (name : Text) → arg_by_long (flag_rules ns) name ≡ (if is_in name ns then Some (flag_rule name) else None)
flags_by_long [] name = refl
flags_by_long (n ∷ ns) name = go (bytes_eq n name) refl (flags_by_long ns name)
  where
    go : (b : Bool) → bytes_eq n name ≡ b → arg_by_long (flag_rules ns) name ≡ (if is_in name ns then Some (flag_rule name) else None)
        → arg_by_long (flag_rules (n ∷ ns)) name ≡ (if is_in name (n ∷ ns) then Some (flag_rule name) else None)
    go true e h = rw e (ap (λ t. Some (flag_rule t)) (same_text n name e))
    go false e h = rw e h

options_by_long : (ns fs : List Text) (name : Text)
    → arg_by_long (option_rules ns (flag_rules fs)) name ≡ (if is_in name ns then Some (option_rule name) else (if is_in name fs then Some (flag_rule name) else None))
options_by_long [] fs name = flags_by_long fs name
options_by_long (n ∷ ns) fs name = go (bytes_eq n name) refl (options_by_long ns fs name)
  where
    go : (b : Bool) → bytes_eq n name ≡ b
        → arg_by_long (option_rules ns (flag_rules fs)) name ≡ (if is_in name ns then Some (option_rule name) else (if is_in name fs then Some (flag_rule name) else None))
        → arg_by_long (option_rules (n ∷ ns) (flag_rules fs)) name ≡ (if is_in name (n ∷ ns) then Some (option_rule name) else (if is_in name fs then Some (flag_rule name) else None))
    go true e h = rw e (ap (λ t. Some (option_rule t)) (same_text n name e))
    go false e h = rw e h

plain_by_long : (required : Bool) (i : ℕ) (ns : List Text) (rest : List Rule) (name : Text) → arg_by_long (plain_rules required i ns rest) name ≡ arg_by_long rest name
plain_by_long required i [] rest name = refl
plain_by_long required i (n ∷ ns) rest name = plain_by_long required (next i) ns rest name

pub by_long : (f : Form) (name : Text) → arg_by_long (rules_for f) name ≡ long_found f name
by_long f name = plain_by_long f.is_whole 1 f.plain _ name ∙ options_by_long f.options f.flags name

flags_by_short : (ns : List Text) (x : ℕ) → arg_by_short (flag_rules ns) x ≡ None
flags_by_short [] x = refl
flags_by_short (n ∷ ns) x = flags_by_short ns x

options_by_short : (ns fs : List Text) (x : ℕ) → arg_by_short (option_rules ns (flag_rules fs)) x ≡ None
options_by_short [] fs x = flags_by_short fs x
options_by_short (n ∷ ns) fs x = options_by_short ns fs x

plain_by_short : (required : Bool) (i : ℕ) (ns : List Text) (rest : List Rule) (x : ℕ) → arg_by_short (plain_rules required i ns rest) x ≡ arg_by_short rest x
plain_by_short required i [] rest x = refl
plain_by_short required i (n ∷ ns) rest x = plain_by_short required (next i) ns rest x

pub by_short : (f : Form) (x : ℕ) → arg_by_short (rules_for f) x ≡ None
by_short f x = plain_by_short f.is_whole 1 f.plain _ x ∙ options_by_short f.options f.flags x

-- the argument of this name takes a value
pub record TakesOne (c : List Rule) (name : Text) : Type 0 where
  pub long : Option Text
  pub index : Option ℕ
  pub required : Bool
  pub found : arg_by_id c name ≡ Some (valued long index required name)

options_by_id : (ns fs : List Text) (name : Text) → is_in name ns ≡ true → TakesOne (option_rules ns (flag_rules fs)) name
options_by_id [] fs name h = cc
options_by_id (n ∷ ns) fs name h = go (bytes_eq n name) refl (options_by_id ns fs name) h
  where
    go : (b : Bool) → bytes_eq n name ≡ b → (is_in name ns ≡ true → TakesOne (option_rules ns (flag_rules fs)) name) → is_in name (n ∷ ns) ≡ true
        → TakesOne (option_rules (n ∷ ns) (flag_rules fs)) name
    go true e rec h = record { long = Some name; index = None; required = false; found = rw e (ap (λ t. Some (option_rule t)) (same_text n name e)) }
    go false e rec h =
        let r = rec (rw e at h) in
        record { long = r.long; index = r.index; required = r.required; found = rw e r.found }

plain_by_id : (required : Bool) (i : ℕ) (ns : List Text) (rest : List Rule) (name : Text) → (is_in name ns ≡ true) ⊎ TakesOne rest name → TakesOne (plain_rules required i ns rest) name
plain_by_id required i [] rest name (inl h) = cc
plain_by_id required i [] rest name (inr h) = h
plain_by_id required i (n ∷ ns) rest name h = go (bytes_eq n name) refl (plain_by_id required (next i) ns rest name) h
  where
    go : (b : Bool) → bytes_eq n name ≡ b → ((is_in name ns ≡ true) ⊎ TakesOne rest name → TakesOne (plain_rules required (next i) ns rest) name)
        → (is_in name (n ∷ ns) ≡ true) ⊎ TakesOne rest name → TakesOne (plain_rules required i (n ∷ ns) rest) name
    go true e rec h = record { long = None; index = Some i; required = required; found = rw e (ap (λ t. Some (plain_rule required i t)) (same_text n name e)) }
    go false e rec h =
        let h2 : (is_in name ns ≡ true) ⊎ TakesOne rest name = elim h [ inl x ↦ inl (rw e at x) | inr x ↦ inr x ] in
        let r = rec h2 in
        record { long = r.long; index = r.index; required = r.required; found = rw e r.found }

pub by_id_plain : (f : Form) (name : Text) → is_in name f.plain ≡ true → TakesOne (rules_for f) name
by_id_plain f name h = plain_by_id f.is_whole 1 f.plain _ name (inl h)

pub by_id_option : (f : Form) (name : Text) → is_in name f.options ≡ true → TakesOne (rules_for f) name
by_id_option f name h = plain_by_id f.is_whole 1 f.plain _ name (inr (options_by_id f.options f.flags name h))

-- ---- the argument of a plain word

flags_by_index : (ns : List Text) (i : ℕ) → arg_by_index (flag_rules ns) i ≡ None
flags_by_index [] i = refl
flags_by_index (n ∷ ns) i = flags_by_index ns i

options_by_index : (ns fs : List Text) (i : ℕ) → arg_by_index (option_rules ns (flag_rules fs)) i ≡ None
options_by_index [] fs i = flags_by_index fs i
options_by_index (n ∷ ns) fs i = options_by_index ns fs i

-- from position i on, the plain words go to these names, and then to none
abbrev pub Fits : Bool → List Rule → ℕ → List Text → Type 0
Fits required c i [] = arg_by_index c i ≡ None
Fits required c i (n ∷ ns) = (arg_by_index c i ≡ Some (plain_rule required i n)) × Fits required c (next i) ns

fits_skip : (required : Bool) (c : List Rule) (i : ℕ) (ns : List Text) (k : ℕ) (m : Text) → k < i → i + length ns ≤ usize_max
    → Fits required c i ns → Fits required (plain_rule required k m ∷ c) i ns
fits_skip required c i [] k m lt room h =
    let ne : (k == i) ≡ false = ne_eqb k i (omega arith) in
    rw ne h
fits_skip required c i (n ∷ ns) k m lt room h =
    let ne : (k == i) ≡ false = ne_eqb k i (omega arith) in
    let lt2 : k < next i = omega arith in
    let room2 : next i + length ns ≤ usize_max = omega arith in
    (rw ne h.0, fits_skip required c (next i) ns k m lt2 room2 h.1)

fits_all : (required : Bool) (i : ℕ) (ns : List Text) (rest : List Rule) → i + length ns ≤ usize_max → ((j : ℕ) → arg_by_index rest j ≡ None)
    → Fits required (plain_rules required i ns rest) i ns
fits_all required i [] rest room none = none i
fits_all required i (n ∷ ns) rest room none =
    let lt : i < next i = omega arith in
    let room2 : next i + length ns ≤ usize_max = omega arith in
    let same : (i == i) ≡ true = eq-eqb i i refl in
    (rw same refl, fits_skip required (plain_rules required (next i) ns rest) (next i) ns i n lt room2 (fits_all required (next i) ns rest room2 none))

pub fits : (f : Form) → 1 + length f.plain ≤ usize_max → Fits f.is_whole (rules_for f) 1 f.plain
fits f room = fits_all f.is_whole 1 f.plain _ room (options_by_index f.options f.flags)

-- ---- the command is one of which clap says what a parse returns

simple_flags : (ns : List Text) → list_all (λ (a : Rule). a.is_simple) (flag_rules ns) ≡ true
simple_flags [] = refl
simple_flags (n ∷ ns) = simple_flags ns

simple_options : (ns fs : List Text) → list_all (λ (a : Rule). a.is_simple) (option_rules ns (flag_rules fs)) ≡ true
simple_options [] fs = simple_flags fs
simple_options (n ∷ ns) fs = simple_options ns fs

simple_plain : (required : Bool) (i : ℕ) (ns os fs : List Text) → list_all (λ (a : Rule). a.is_simple) (plain_rules required i ns (option_rules os (flag_rules fs))) ≡ true
simple_plain required i [] os fs = simple_options os fs
simple_plain required i (n ∷ ns) os fs = simple_plain required (next i) ns os fs

given_simple_flags : (ns : List Text) → list_all (λ (a : Rule). a.is_simple) (rules_in kind.Flag ns) ≡ true
given_simple_flags [] = refl
given_simple_flags (n ∷ ns) = given_simple_flags ns

given_simple_options : (ns fs : List Text) → list_all (λ (a : Rule). a.is_simple) (rules_in kind.Valued ns ++ rules_in kind.Flag fs) ≡ true
given_simple_options [] fs = given_simple_flags fs
given_simple_options (n ∷ ns) fs = given_simple_options ns fs

given_simple : (required : Bool) (ns os fs : List Text)
    → list_all (λ (a : Rule). a.is_simple) (rules_in (kind.Plain required) ns ++ (rules_in kind.Valued os ++ rules_in kind.Flag fs)) ≡ true
given_simple required [] os fs = given_simple_options os fs
given_simple required (n ∷ ns) os fs = given_simple required ns os fs

free_flags : (ns : List Text) → list_all (λ (a : Rule). a.is_free) (flag_rules ns) ≡ true
free_flags [] = refl
free_flags (n ∷ ns) = free_flags ns

free_options : (ns fs : List Text) → list_all (λ (a : Rule). a.is_free) (option_rules ns (flag_rules fs)) ≡ true
free_options [] fs = free_flags fs
free_options (n ∷ ns) fs = free_options ns fs

free_plain : (required : Bool) (i : ℕ) (ns os fs : List Text) → list_all (λ (a : Rule). a.is_free) (plain_rules required i ns (option_rules os (flag_rules fs))) ≡ true
free_plain required i [] os fs = free_options os fs
free_plain required i (n ∷ ns) os fs = free_plain required (next i) ns os fs

early_flags : (k : ℕ) (ns : List Text) → list_any (is_early_multiple k) (flag_rules ns) ≡ false
early_flags k [] = refl
early_flags k (n ∷ ns) = early_flags k ns

early_options : (k : ℕ) (ns fs : List Text) → list_any (is_early_multiple k) (option_rules ns (flag_rules fs)) ≡ false
early_options k [] fs = early_flags k fs
early_options k (n ∷ ns) fs = early_options k ns fs

early_plain : (k : ℕ) (required : Bool) (i : ℕ) (ns os fs : List Text) → list_any (is_early_multiple k) (plain_rules required i ns (option_rules os (flag_rules fs))) ≡ false
early_plain k required i [] os fs = early_options k os fs
early_plain k required i (n ∷ ns) os fs = early_plain k required (next i) ns os fs

abbrev tested : App → App → Bool
tested a b = (is_buildable a && (is_ready b.top && list_all is_ready_leaf b.subs)) && is_free_app b

pub free_for : (name : Text) (f : Form) → is_simple_and_free (app_with name (given_rules f)) ≡ true
free_for name f = ap (tested (app_with name (given_rules f))) (built_is name f)
    ∙ rw (
      given_simple f.is_whole f.plain f.options f.flags,
      simple_plain f.is_whole 1 f.plain f.options f.flags,
      early_plain _ f.is_whole 1 f.plain f.options f.flags,
      free_plain f.is_whole 1 f.plain f.options f.flags,
    ) refl
