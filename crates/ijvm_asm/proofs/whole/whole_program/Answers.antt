use Rattle.std.proofs.Common.{◌≡◌, Some, None, ◌∙◌, subst, sym, rules}
use Rattle.ijvm_asm.specs.Prelude.{Source, missing}
use Rattle.ijvm_asm.proofs.Programs.{parts_are_program}
use Rattle.ijvm_asm.proofs.whole.whole_program.Goals as goal

pub new-requires : goal.new-requires
new-requires c =
    let none : missing c.args.reader.now ≡ None = sym c.missing.ensures ∙ c.in_default.is in
    let at : c.args.reader.now.main ≡ Some c.in-Some-main.draft = subst (λ (s : Source). s.main ≡ Some c.in-Some-main.draft) c.reader.view_is c.in-Some-main.is in
    parts_are_program c.reads_texts.ensures c.args.reader.now c.in-Ok-constants_of.constants.items c.in-Some-main.draft c.in-Ok.main c.in-Ok-units_of.methods.items c.requires none at (search rules) (search rules) (search rules)
