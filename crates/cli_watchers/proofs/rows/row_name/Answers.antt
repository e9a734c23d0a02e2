use Rattle.cli_watchers.proofs.Common.{codes, ap, ◌∙◌, List, ℕ, Option, unwrap_or, option_map, mnemonic_of}
use Rattle.cli_watchers.proofs.Ordered.{name_at}
use Rattle.cli_watchers.proofs.rows.row_name.Goals as goal

pub returns-in-Some-clause-name : goal.returns-in-Some-clause-name
returns-in-Some-clause-name c =
    c.name.ensures.is ∙ ap (λ (o : Option (List ℕ)). unwrap_or o (codes "?")) (ap (option_map mnemonic_of) c.in-Some.ensures ∙ name_at c.args.row)

pub returns-in-None-clause-name : goal.returns-in-None-clause-name
returns-in-None-clause-name c = ap (λ (o : Option (List ℕ)). unwrap_or o (codes "?")) (ap (option_map mnemonic_of) c.in-None.ensures ∙ name_at c.args.row)
