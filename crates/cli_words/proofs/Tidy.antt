-- No row of the table has an empty name, or one name for an option and a flag.
use Rattle.cli_words.proofs.Common.{◌≡◌, Bool, true, false, List, [], ◌∷◌, refl, subst, codes, bytes_eq, bytes_eq-Decides, CommandName}
use Rattle.cli_words.specs.declared.table.CommandName.TheVariants as command
use Rattle.cli_words.specs.Prelude.{Form, Text, is_in, form_for}
use Rattle.cli_words.proofs.Taken.{IsTidy}

none : (options : List Text) (name : Text) → is_in name [] ≡ true → is_in name options ≡ false
none options name is = let bad : false ≡ true = is in cc

-- the one flag is none of the options
one : (flag : Text) (options : List Text) → is_in flag options ≡ false → (name : Text) → is_in name (flag ∷ []) ≡ true → is_in name options ≡ false
one flag options apart name is = by (bytes_eq flag name) refl
  where
    by : (b : Bool) → bytes_eq flag name ≡ b → is_in name options ≡ false
    by true e = subst (λ (n : Text). is_in n options ≡ false) ((bytes_eq-Decides flag name).0 e) apart
    by false e = let bad : false ≡ true = rw e at is in cc

no_flags : (f : Form) → is_in [] f.options ≡ false → f.flags ≡ [] → IsTidy f
no_flags f options is = record {
  options = options;
  flags = rw is refl;
  apart = λ name named. none f.options name (subst (λ (fs : List Text). is_in name fs ≡ true) is named);
}

pub tidy : (name : CommandName) → IsTidy (form_for name)
tidy command.Trace = record { options = refl; flags = refl; apart = one (codes "buses") (form_for command.Trace).options refl }
tidy _ = no_flags _ refl refl
