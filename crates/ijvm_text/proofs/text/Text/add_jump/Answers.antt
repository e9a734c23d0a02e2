use Rattle.std.proofs.Common.{◌≡◌, ◌∷◌, ◌++◌, [], ap, ◌∙◌, FitsSigned, rules, w16, w32, to_z, of_z}
use Rattle.std.proofs.lemmas.Int.{to_z-of_z}
use Rattle.std.proofs.lemmas.Result.{on_ok_weaker}
use Rattle.ijvm_instr.specs.declared.instr.Instr.{Instr}
use Rattle.ijvm_program.specs.Prelude.{jump_by}
use Rattle.ijvm_text.specs.declared.text.Text.{Text}
use Rattle.ijvm_text.specs.Prelude.{jump_added, code_bytes}
use Rattle.ijvm_text.proofs.text.Text.add_jump.Goals as goal

pub returns : goal.returns
returns c =
    let new : Text = record { bytes = c.put.new.bytes; far = c.keep_if_far.new.self.far } in
    let same : to_z w32 (of_z w32 c.args.distance) ≡ c.args.distance = to_z-of_z w32 c.args.distance c.ranges.distance in
    let fits : FitsSigned w16 c.offset_of.result = search rules in
    let by : c.jump_by.result ≡ jump_by c.args.jump c.offset_of.result = simp to_z-of_z at c.jump_by.ensures in
    on_ok_weaker c.put.result
    (λ e. jump_added c.args.self.now new c.args.jump c.args.line c.args.distance c.offset_of.result
    (e ∙ ap (λ (i : Instr). c.keep_if_far.new.self.bytes.items ++ code_bytes (i ∷ [])) by
    ∙ ap (λ b. b.items ++ code_bytes (jump_by c.args.jump c.offset_of.result ∷ [])) c.keep_if_far.ensures.bytes)
    (simp same at c.keep_if_far.ensures.far) (simp same at c.offset_of.ensures))
    c.put.ensures
