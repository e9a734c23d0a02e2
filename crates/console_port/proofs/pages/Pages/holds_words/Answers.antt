use Rattle.std.proofs.Common.{◌<◌, ◌^◌, List, ℕ, get_or, subst}
use Rattle.console_port.proofs.Paging.{words_of_frames}
use Rattle.console_port.proofs.pages.Pages.holds_words.Goals as goal

pub returns : goal.returns
returns c = λ at.
    let table : List ℕ = c.self.inside.table.items in
    let frames : List ℕ = c.self.inside.frames.items in
    let small : (i : ℕ) → get_or frames i 0 < 2 ^ 32 = subst (λ (words : List ℕ). (i : ℕ) → get_or words i 0 < 2 ^ 32) c.deref.ensures.value c.are_words.ensures in
    subst (λ (words : List ℕ). get_or words at 0 < 2 ^ 32) c.self.view_is (words_of_frames table frames c.self.inside.size small at)
