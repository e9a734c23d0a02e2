use Rattle.micro_terms.proofs.Common.{◌≡◌, ℕ, Option, Some, None, length, ap, ◌∙◌, sym, refl, slice_get, IfSome, slice_get_read, Environment, IsNode, Holds}
use Rattle.micro_terms.proofs.nodes.Nodes.word_of.Goals as goal

weaker : {T : Type 0} (o : Option T) (P Q : T → Type 0) → ((x : T) → P x → Q x) → IfSome o P → IfSome o Q
weaker (Some x) P Q f h = f x h
weaker None P Q f h = tt

pub returns-in-Some : goal.returns-in-Some
returns-in-Some c =
    let xs = c.deref.result.now in
    let n = c.args.number in
    let look = c.in-Some.ensures.lookup in
    let found : slice_get c.args.self.now.nodes.items n ≡ Some c.in-Some.node.now =
    ap (λ ys. slice_get ys n) (sym c.deref.ensures.value) ∙ slice_get_read xs (length xs) n c.in-Some.node.now refl look.3.0 look.1 in
    weaker c.word_in.result
    (λ (w : ℕ). (e : Environment) → IsNode e (e.word n) c.in-Some.node.now → e.word n ≡ w)
    (λ (w : ℕ). Holds c.args.self.now (λ e. e.word n ≡ w))
    (λ w h e fits. h e (fits.nodes n c.in-Some.node.now found))
    c.word_in.ensures
