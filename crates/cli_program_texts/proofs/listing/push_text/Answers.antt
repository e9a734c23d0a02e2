use Rattle.std.proofs.Common.{◌∙◌, ◌≡◌, ◌++◌, ℕ, List, [], ◌∷◌, ap, sym, subst, length, arith}
use Rattle.ijvm_image.specs.Prelude.{ImageView}
use Rattle.cli_program_texts.specs.Prelude.{AreListingLines}
use Rattle.std.proofs.lemmas.List.{append-nil}
use Rattle.cli_program_texts.proofs.Lines.{concat_step, more_lines, no_lines}
use Rattle.cli_program_texts.proofs.listing.push_text.Goals as goal

pub loop-at-init : goal.loop-at-init
loop-at-init c = ([], no_lines c.args.program.now.image, sym (append-nil c.args.listing.now.items))

pub loop-at-preserved : goal.loop-at-preserved
loop-at-preserved c =
    let before = c.loop-at.invariant in
    let more = c.in_ok-push_address.ensures in (
      before.0 ++ more.0 ∷ [],
      more_lines c.args.program.now.image c.loop-at.at before.0 more.0 before.1 more.1,
      more.2 ∙ ap (λ (l : List ℕ). l ++ more.0) before.2 ∙ concat_step c.args.listing.now.items before.0 more.0,
    )

pub returns : goal.returns
returns c =
    let is : c.text.result.now ≡ c.args.program.now.image.text = c.text.ensures.is ∙ ap (λ (i : ImageView). i.text) c.image.ensures.is in
    let same : c.loop-at.at ≡ length c.args.program.now.image.text = omega (arith, ap length is) in
    (c.loop-at.invariant.0, subst (λ (n : ℕ). AreListingLines c.args.program.now.image n c.loop-at.invariant.0) same c.loop-at.invariant.1, c.loop-at.invariant.2)
