use Rattle.std.proofs.Common.{◌≡◌, ◌+◌, ◌-◌, ◌++◌, ◌∙◌, ℕ, List, ap, arith, cond, take}
use Rattle.std.specs.Prelude.{is_ok}
use Rattle.console_port.proofs.Paging.{resized, zeros}
use Rattle.console_port.proofs.pages.add_frame.Goals as goal

pub returns-clause-frames : goal.returns-clause-frames
returns-clause-frames c =
    let xs : List ℕ = c.args.frames.now.items in
    let len : ℕ = c.args.frames.now.len in
    let n : ℕ = c.len-start.result + 1024 in
    let longer : n ≡ len + 1024 = omega arith in
    c.resize.ensures.items ∙ (ap (λ r. cond (is_ok r) (take n xs ++ zeros (n - len)) xs) c.unwrap.ensures ∙ resized xs n len c.args.frames.now.ok.0 longer)
