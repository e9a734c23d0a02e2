-- The command that the parser of the command line is given for a row of the table, and what the parser returns.
use Rattle.std.specs.Prelude.{◌≡◌, true, false, List, [], map, Option, Some, None, Result}
use Rattle.std.specs.Prelude.{Ok, Err, String, string_bytes, fold, unwrap_or, codes}
use Rattle.std.specs.Borrow.{Bor}
use Rattle.clap.specs.Walk.{Rule}
use Rattle.clap.specs.Simple.{App, new_rule, new_shape, with_rule}
use Rattle.clap.specs.Matches.{first_value, found_of}
use Rattle.clap.specs.declared.parser.matches.ArgMatches.{ArgMatches}
use Rattle.clap.specs.declared.builder.action.ArgAction.TheVariants.{Set, SetTrue}
use Rattle.clap.specs.declared.builder.value_parser.ValueParser.TheVariants as vp
use Rattle.cli_words.specs.Reading.{Entry, Form, Text, is_in, text_in}
use Rattle.cli_words.specs.declared.table.Row.{Row}
use Rattle.cli_words.specs.declared.taking.Kind.{Kind}
use Rattle.cli_words.specs.declared.taking.Kind.TheVariants as kind
use Rattle.cli_words.specs.declared.error.WordsError.{WordsError}
use Rattle.cli_words.specs.declared.error.WordsError.TheVariants as error

abbrev pub texts_of : List (Bor Text) → List Text
texts_of = map (λ s. s.now)

abbrev pub bytes_of : {A : Type 0} → List (String A) → List Text
bytes_of = map string_bytes

abbrev pub form_of : Row → Form
form_of r = record {
  plain = texts_of r.plain.now;
  is_whole = r.is_whole;
  options = texts_of r.options.now;
  flags = texts_of r.flags.now;
}

abbrev pub rule_in : Kind → Text → Rule
rule_in (kind.Plain is_required) name = record (new_rule name) { action = Some Set; parser = Some vp.NonEmptyString; required = is_required }
rule_in kind.Valued name = record (new_rule name) { long = Some name; action = Some Set; parser = Some vp.NonEmptyString }
rule_in kind.Flag name = record (new_rule name) { long = Some name; action = Some SetTrue }

abbrev pub with_rules : App → List Rule → App
with_rules a rules = fold with_rule a rules

abbrev pub rules_in : Kind → List Text → List Rule
rules_in k = map (rule_in k)

-- a command without arguments, help or version, whose words begin at once
abbrev pub bare : Text → App
bare name = record { top = record (new_shape name) { no_binary_name = true; disable_help_flag = true; disable_version_flag = true }; subs = [] }

abbrev pub app_for : Text → Form → App
app_for name f = with_rules (with_rules (with_rules (bare name) (rules_in (kind.Plain f.is_whole) f.plain))
    (rules_in kind.Valued f.options)) (rules_in kind.Flag f.flags)

-- each name reads as the text that the words gave it, and a flag that they do not give as `false`
pub record HoldsGiven (f : Form) (given : List Entry) (m : ArgMatches) : Type 0 where
  pub texts : (name : Text) → is_in name f.flags ≡ false → first_value (found_of m) name ≡ text_in name given
  pub flags : (name : Text) → is_in name f.flags ≡ true → first_value (found_of m) name ≡ Some (unwrap_or (text_in name given) (codes "false"))

-- the words are taken with the values that their reading gives, or refused where it gives none
abbrev pub TakesAs : Form → Option (List Entry) → Result ArgMatches WordsError → Type 0
TakesAs f given (Ok m) = (g : List Entry) × (given ≡ Some g) × HoldsGiven f g m
TakesAs f given (Err error.Usage) = given ≡ None
TakesAs f given (Err error.OutOfMemory) = Unit {0}
