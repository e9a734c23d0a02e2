use Rattle.std.proofs.Common.{◌≡◌, ℕ, List, [], ◌∷◌, ◌++◌, ap, ◌∙◌}
use Rattle.ijvm_reference.proofs.Stacks.{swapped_ends}
use Rattle.ijvm_reference.proofs.frame.swap_last.Goals as goal

pub returns : goal.returns
returns c =
    let front : List ℕ = c.pop-2.new.self.items in
    let x : ℕ = c.unwrap-second.result in
    let y : ℕ = c.unwrap-top.result in
    let last : c.args.values.now.items ≡ c.pop.new.self.items ++ y ∷ [] = rw c.unwrap-top.ensures at c.pop.ensures.items in
    let before : c.pop.new.self.items ≡ front ++ x ∷ [] = rw c.unwrap-second.ensures at c.pop-2.ensures.items in
    let first : c.push.new.self.items ≡ front ++ y ∷ [] = rw c.unwrap.ensures at c.push.ensures.items in
    let second : c.push-2.new.self.items ≡ c.push.new.self.items ++ x ∷ [] = rw c.unwrap-2.ensures at c.push-2.ensures.items in
    swapped_ends front c.args.values.now.items c.push-2.new.self.items x y
    (last ∙ ap (λ (xs : List ℕ). xs ++ y ∷ []) before) (second ∙ ap (λ (xs : List ℕ). xs ++ x ∷ []) first)
