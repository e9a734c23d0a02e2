use Rattle.verifier_locals.proofs.Common.{◌≡◌, ◌∙◌, ℕ, ap, sym, arith, inl, inr, Some, None, ◌%◌, slice_get, slice_index_or, bit_at, slice_get-get_or, Node}
use Rattle.verifier_locals.proofs.Common.{IsIn}
use Rattle.verifier_locals.proofs.trace.Trace.visit.Goals as goal

abbrev nowhere : Node
nowhere = record { next = None; jump = None; reads = None; stores = None }

pub mark_ways-requires : goal.mark_ways-requires
mark_ways-requires c = λ to leads.
    let is : slice_get c.args.graph.now c.args.at ≡ Some (slice_index_or c.args.graph.now c.args.at nowhere) = slice_get-get_or c.args.graph.now c.args.at nowhere c.requires.at in
    omega (arith, c.requires.inside c.args.at to (slice_index_or c.args.graph.now c.args.at nowhere) is leads)

pub returns-clause-done : goal.returns-clause-done
returns-clause-done c = λ k marked.
    let is : slice_get c.args.graph.now c.args.at ≡ Some (slice_index_or c.args.graph.now c.args.at nowhere) = slice_get-get_or c.args.graph.now c.args.at nowhere c.requires.at in
    let is_in : IsIn c.args.group c.held-held.result k = (marked.0, ap (λ (b : ℕ). bit_at b (k % 64)) c.held-held.ensures ∙ marked.1) in (
      slice_index_or c.args.graph.now c.args.at nowhere,
      is,
      c.in_default.ensures.none k is_in,
      λ ne to leads. (marked.0, c.in_ok-mark_ways.ensures.here to (k % 64) leads (((c.passed.ensures k marked.0).1 (is_in, ne)).1)),
    )

pub returns-clause-ways : goal.returns-clause-ways
returns-clause-ways c = λ to k marked.
    let is : slice_get c.args.graph.now c.args.at ≡ Some (slice_index_or c.args.graph.now c.args.at nowhere) = slice_get-get_or c.args.graph.now c.args.at nowhere c.requires.at in
    elim (c.in_ok-mark_ways.ensures.only to (k % 64) marked.1) [
      | inl old ↦ inl (marked.0, old)
      | inr new ↦ let w = (c.passed.ensures k marked.0).0 (marked.0, new.1) in
          inr (slice_index_or c.args.graph.now c.args.at nowhere, is, w.1, new.0, (marked.0, ap (λ (b : ℕ). bit_at b (k % 64)) (sym c.held-held.ensures) ∙ w.0.1))
    ]
