use Rattle.std.proofs.Common.{◌≡◌, drop}
use Rattle.clap.specs.Words.{app_of}
use Rattle.cli_words.specs.Prelude.{rules_in, texts_of, with_rules}
use Rattle.cli_words.proofs.taking.with_each.Given as goal

-- what is left to add to the command so far makes what all the names make of the first one
abbrev pub invariant-loop-name : goal.invariant-loop-name
invariant-loop-name l = with_rules (app_of l.command) (rules_in l.kind (texts_of (drop l.name-index l.names)))
    ≡ with_rules (app_of l.fn.command) (rules_in l.kind (texts_of l.names))
