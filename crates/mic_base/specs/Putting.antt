-- One text after another to a sink.
use Rattle.std.proofs.Common.{◌≡◌, ℕ, ◌+◌, ◌≤◌, min, refl, List, [], ◌++◌, length, take, ap, sym, ◌∙◌, append_assoc, arith, Result, Ok, Err, Option, Some, None}
use Rattle.std.specs.Option.{option_map}
use Rattle.std.proofs.Math.Seq.{take-append-add, take-length}
use Rattle.std.proofs.lemmas.List.{append-nil, take_min, take-append-le}
use Rattle.mic_base.specs.Streams.{Puts}

-- what is put after a text that was put
pub puts_then : {E : Type 0} (old mid new : Option (List ℕ)) (p q : List ℕ) (result : Result Unit E) →
    mid ≡ option_map (λ held. held ++ p) old → Puts mid q result new → Puts old (p ++ q) result new
puts_then None mid new p q (Ok done) e h = h ∙ ap (option_map (λ (held : List ℕ). held ++ q)) e
puts_then (Some held) mid new p q (Ok done) e h =
    h ∙ ap (option_map (λ (front : List ℕ). front ++ q)) e ∙ ap Some (append_assoc held p q)
puts_then None mid new p q (Err x) e h = (0, h.1 ∙ ap (option_map (λ (front : List ℕ). front ++ take h.0 q)) e)
puts_then (Some held) mid new p q (Err x) e h = (
  length p + h.0,
  h.1 ∙ ap (option_map (λ (front : List ℕ). front ++ take h.0 q)) e ∙ ap Some (append_assoc held p (take h.0 q))
      ∙ ap (λ (more : List ℕ). Some (held ++ more)) (sym (take-append-add p q h.0)),
)

-- a text that was not put whole, before another
pub puts_first : {E : Type 0} (old new : Option (List ℕ)) (p q : List ℕ) (x : E) → Puts old p (Err x) new → Puts old (p ++ q) (Err x) new
puts_first old new p q x h =
    let m : ℕ = min h.0 (length p) in
    let inside : min h.0 (length p) ≤ length p = omega arith in (
      m,
      h.1 ∙ ap (λ (front : List ℕ). option_map (λ (held : List ℕ). held ++ front) old)
          (sym (take-append-le m p q inside ∙ take_min h.0 p)),
    )

-- a text that was put, and then passed on or not
pub puts_passed : {E : Type 0} (old mid new : Option (List ℕ)) (p : List ℕ) (result : Result Unit E) →
    mid ≡ option_map (λ held. held ++ p) old → new ≡ mid → Puts old p result new
puts_passed old mid new p (Ok done) e same = same ∙ e
puts_passed old mid new p (Err x) e same =
    (length p, same ∙ e ∙ ap (λ (front : List ℕ). option_map (λ (held : List ℕ). held ++ front) old) (sym (take-length p)))

-- no text
pub puts_nothing : (old : Option (List ℕ)) → old ≡ option_map (λ held. held ++ []) old
puts_nothing None = refl
puts_nothing (Some held) = ap Some (sym (append-nil held))
