use Rattle.ijvm_line.proofs.Common.{codes, ap, sym, ◌∙◌, option_and_then, str_eq_ignore_ascii_case, INSTRUCTIONS}
use Rattle.ijvm_line.specs.Prelude.{kind_of, spelled_in}
use Rattle.ijvm_line.proofs.Naming.{kind_else}
use Rattle.ijvm_line.proofs.mnemonic.Kind.find.Goals as goal

pub returns-in-Some : goal.returns-in-Some
returns-in-Some c =
    c.kind_of.ensures ∙ ap (option_and_then kind_of) c.in-Some.ensures
    ∙ kind_else (str_eq_ignore_ascii_case (codes "WIDE") c.args.text.now) (spelled_in INSTRUCTIONS c.args.text.now) (sym c.is_spelled.ensures ∙ c.if-is_spelled.false)

pub returns-in-None : goal.returns-in-None
returns-in-None c =
    ap (option_and_then kind_of) c.in-None.ensures
    ∙ kind_else (str_eq_ignore_ascii_case (codes "WIDE") c.args.text.now) (spelled_in INSTRUCTIONS c.args.text.now) (sym c.is_spelled.ensures ∙ c.if-is_spelled.false)
