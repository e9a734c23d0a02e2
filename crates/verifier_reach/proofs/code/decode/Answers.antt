use Rattle.verifier_reach.proofs.Common.{◌≡◌, ◌∙◌, ℕ, List, Option, Some, None, refl, sym, ap, IfSome, Instr, Row, row_of, instr_at, HasRow, IsWhole}
use Rattle.verifier_reach.proofs.code.decode.Goals as goal

found_whole : (text : List ℕ) (at : ℕ) (found : Option Instr) → ((list : List ℕ) (place : ℕ) (r : Row) → HasRow list place r → IsWhole list place r) → found ≡ instr_at text at → IfSome found (λ i. IsWhole text at (row_of i))
found_whole text at None whole is = tt
found_whole text at (Some i) whole is = whole text at (row_of i) (i, sym is, refl)

pub returns-clause-whole : goal.returns-clause-whole
returns-clause-whole c =
    found_whole c.args.image.now.text c.args.at _ c.instructions_are_whole.ensures
    (c.decode_at.ensures.is ∙ ap (λ (t : List ℕ). instr_at t c.args.at) c.text.ensures.is)
