use Rattle.std.proofs.Common.{◌≡◌, ◌<◌, ◌≤◌, All, ℕ, Some, None, length, take, sym, ◌∙◌, ap, subst}
use Rattle.std.proofs.lemmas.List.Elements.{All-from_get_or}
use Rattle.ijvm_instr.specs.declared.instr.Instr.{Instr}
use Rattle.ijvm_instr.specs.Prelude.{instr_at, row_of, size_of, SpellsInstr}
use Rattle.ijvm_instr.proofs.Spelled.{front-decoded, decoded-front, length-spelled}
use Rattle.ijvm_instr.proofs.decode.decode_instr.Goals as goal

pub returns-in_err-instr-clause-decodes : goal.returns-in_err-instr-clause-decodes
returns-in_err-instr-clause-decodes c = λ i front rest real spells e.
    let found : instr_at c.args.bytes.now 0 ≡ Some i = front-decoded c.args.bytes.now i front rest real spells e in
    let lost : None ≡ instr_at c.args.bytes.now 0 = c.in_err-instr.ensures.is in
    cc

pub returns-clause-spelled : goal.returns-clause-spelled
returns-clause-spelled c =
    let i : Instr = c.in_ok-instr.instr in
    let small : All (λ (b : ℕ). b < 256) c.args.bytes.now = All-from_get_or (λ (b : ℕ). b < 256) c.args.bytes.now 0 (λ k inside. (c.type_inv.bytes k).fits) in
    let read : instr_at c.args.bytes.now 0 ≡ Some i = sym (c.in_ok-instr.ensures.is) in
    let size : c.size.result ≡ size_of (row_of i) = c.size.ensures.is ∙ ap size_of c.row.ensures in
    subst (λ (n : ℕ). SpellsInstr (take n c.args.bytes.now) i × (n ≤ length c.args.bytes.now)) (sym size) (decoded-front c.args.bytes.now i small read)

pub returns-clause-decodes : goal.returns-clause-decodes
returns-clause-decodes c = λ i front rest real spells e.
    let j : Instr = c.in_ok-instr.instr in
    let found : instr_at c.args.bytes.now 0 ≡ Some i = front-decoded c.args.bytes.now i front rest real spells e in
    let read : Some j ≡ instr_at c.args.bytes.now 0 = c.in_ok-instr.ensures.is in
    let same : j ≡ i = cc in
    let size : c.size.result ≡ size_of (row_of i) = c.size.ensures.is ∙ ap size_of c.row.ensures ∙ ap (λ (k : Instr). size_of (row_of k)) same in
    let long : length front ≡ size_of (row_of i) = length-spelled i front spells in
    cc
