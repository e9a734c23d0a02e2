use Rattle.std.proofs.Common.{◌≡◌, ◌+◌, ◌-◌, ◌++◌, ◌∙◌, ℕ, List, [], ap, arith, cond, rules, take}
use Rattle.std.specs.Prelude.{is_ok}
use Rattle.std.specs.Int.{div_ceil}
use Rattle.console_port.specs.Prelude.{ArePaged, empty_frame}
use Rattle.console_port.proofs.Paging.{zeros, paged_zeros, resized, words_zero}
use Rattle.console_port.proofs.pages.Pages.new.Goals as goal

-- what a list without words has, made a frame long
first_frame : (xs : List ℕ) (len : ℕ) → xs ≡ [] → len ≡ 0 → take 1024 xs ++ zeros (1024 - len) ≡ empty_frame
first_frame xs len none e =
    let longer : 1024 ≡ len + 1024 = omega arith in
    ap (λ (ys : List ℕ). take 1024 ys ++ zeros (1024 - len)) none ∙ resized [] 1024 len e longer

pub invariant_of-result : goal.invariant_of-result
invariant_of-result c =
    let xs : List ℕ = c.in_ok-frames.frames.items in
    let len : ℕ = c.in_ok-frames.frames.len in
    let made : c.resize.new.self.items ≡ empty_frame =
    c.resize.ensures.items ∙ (ap (λ r. cond (is_ok r) (take 1024 xs ++ zeros (1024 - len)) xs) c.in_ok-resize.was ∙ first_frame xs len c.in_ok-frames.ensures.items c.in_ok-frames.ensures.len) in
    let table : c.in_ok-vec.field-0.items ≡ zeros (div_ceil c.args.size 1024) = search rules in
    let paged : ArePaged c.in_ok-vec.field-0.items c.resize.new.self.items c.args.size = rw (table, made) (paged_zeros c.args.size) in
    (paged, omega (arith, c.in_ok-vec.ensures.len, c.in_ok-vec.field-0.ok.0, c.in_ok-frames.ensures.capacity, c.resize.ensures.capacity))

pub returns : goal.returns
returns c =
    let xs : List ℕ = c.in_ok-frames.frames.items in
    let len : ℕ = c.in_ok-frames.frames.len in
    let made : c.resize.new.self.items ≡ empty_frame =
    c.resize.ensures.items ∙ (ap (λ r. cond (is_ok r) (take 1024 xs ++ zeros (1024 - len)) xs) c.in_ok-resize.was ∙ first_frame xs len c.in_ok-frames.ensures.items c.in_ok-frames.ensures.len) in
    rw made (words_zero _ c.args.size)
