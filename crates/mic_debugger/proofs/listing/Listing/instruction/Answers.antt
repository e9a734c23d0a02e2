use Rattle.mic_debugger.proofs.Common.{◌≡◌, ℕ, List, ◌++◌, codes, Some, refl, ◌∙◌, ap, subst, append_assoc, rules, hex_text, IsKind, Start}
use Rattle.ijvm_instr.specs.Prelude.{instr_at, instr_text}
use Rattle.mic_debugger.specs.Prelude.{ListingView}
use Rattle.mic_debugger.proofs.listing.Listing.instruction.Goals as goal

pub returns-in-Some : goal.returns-in-Some
returns-in-Some c = λ book is_book.
    let at = c.args.at in
    let line : List ℕ = c.args.line.now in
    let instr = instr_text c.in-Some.instr at in
    let here = c.in-Some.ensures.some c.in-Some.instr refl in
    let start = subst (λ (v : ListingView). IsKind v.image at Start) c.self.view_is here.0 in
    let is = subst (λ (v : ListingView). instr_at v.image.text at ≡ Some c.in-Some.instr) c.self.view_is here.1 in
    let named = is_book.reached at c.in-Some.instr start is in
    let same : c.from.result ≡ at = search rules in
    let printed : c.print_instr.new.line ≡ ((line ++ hex_text 8 at) ++ codes " ") ++ instr =
    c.print_instr.ensures ∙ ap (λ (x : List ℕ). x ++ instr) (c.text.ensures.text ∙ ap (λ (x : List ℕ). x ++ codes " ") (c.hex.ensures.text ∙ ap (λ (v : ℕ). line ++ hex_text 8 v) same)) in
    rw named (printed ∙ simp append_assoc)
