use Rattle.std.proofs.Common.{rules, ◌≡◌, [], ◌∷◌, ◌++◌, ℕ, List, Some, arith, sym, subst}
use Rattle.std.proofs.lemmas.Grind.{common_steps}
use Rattle.mic_base.specs.Files.{Contents, file_in, KeepsOthers}
use Rattle.mic_web.specs.Called.{Filled, Empty, Added}
use Rattle.mic_web.proofs.outside.files_of.Goals as goal

pub loop-span-init : goal.loop-span-init
loop-span-init c = (Empty _ c.new-files.ensures.none, c.new-files.ensures.faults)

filled_along : (files more : List (List ℕ × List ℕ)) (file : List ℕ × List ℕ) (old new : Contents) → Filled files old →
    more ≡ files ++ file ∷ [] → file_in new file.0 ≡ Some file.1 → KeepsOthers old file.0 new → Filled more new
filled_along files more file old new filled e added others =
    let P : List (List ℕ × List ℕ) → Type 0 = λ m. Filled m new in subst P (sym e) (Added files file old new filled added others)

pub loop-span-preserved : goal.loop-span-preserved
loop-span-preserved c = (
  filled_along _ _ (c.in_ok-name.name.now, c.in_ok-contents.contents.now) _ _ c.loop-span.invariant.0
      (grind (arith, common_steps))
      (search rules)
      c.add.ensures.others,
  search rules,
)
