use Rattle.verifier_locals.proofs.Common.{◌≡◌, ◌∙◌, ◌++◌, ◌∷◌, [], refl, sym, arith, ap, inl, inr, ℕ, bit_at, Mark, held, held_at}
use Rattle.verifier_locals.proofs.Traces.{held_same, marks_set, set_here, set_only}
use Rattle.verifier_locals.proofs.trace.Trace.mark.Goals as goal

pub returns-clause-more : goal.returns-clause-more
returns-clause-more c =
    let m : Mark = record { search = c.args.search; locals = c.joined-joined.result } in
    let e : c.push.new.self.items ≡ c.args.self.now.todo.items ++ c.args.at ∷ [] = c.in_ok-push.ensures.items in
    let now : held c.args.search m ≡ c.joined-joined.result.bits = held_same c.args.search m refl in
    rw e (marks_set c.args.search c.args.self.now.marks.items c.args.self.now.todo.items c.args.at m c.requires refl
    (omega (arith, c.held-held.ensures, c.joined-joined.ensures.above, c.if-joined-held.false))
    (omega arith)
    (λ place is. ap (λ (b : ℕ). bit_at b place) now ∙ (c.joined-joined.ensures.both place).1 (inl (ap (λ (b : ℕ). bit_at b place) c.held-held.ensures ∙ is))))

pub returns-clause-here : goal.returns-clause-here
returns-clause-here c = λ place has.
    let m : Mark = record { search = c.args.search; locals = c.joined-joined.result } in
    let now : held c.args.search m ≡ c.joined-joined.result.bits = held_same c.args.search m refl in
    set_here c.args.search c.args.self.now.marks.items c.args.at m place c.requires (ap (λ (b : ℕ). bit_at b place) now ∙ (c.joined-joined.ensures.both place).1 (inr has))

pub returns-clause-only : goal.returns-clause-only
returns-clause-only c = λ to place is.
    let m : Mark = record { search = c.args.search; locals = c.joined-joined.result } in
    let now : held c.args.search m ≡ c.joined-joined.result.bits = held_same c.args.search m refl in
    elim (set_only c.args.search c.args.self.now.marks.items c.args.at m to place c.requires is) [
      | inl old ↦ inl old
      | inr new ↦ elim ((c.joined-joined.ensures.both place).0 (ap (λ (b : ℕ). bit_at b place) (sym now) ∙ new.1)) [
        | inl was ↦ inl (ap (λ (b : ℕ). bit_at b place) (ap (held_at c.args.search c.args.self.now.marks.items) new.0 ∙ sym c.held-held.ensures) ∙ was)
        | inr has ↦ inr (new.0, has)
      ]
    ]
