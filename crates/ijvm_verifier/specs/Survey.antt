-- What the searches find where nothing is wrong but perhaps the size of main's frame.
use Rattle.std.specs.Prelude.{ℕ, ◌≤◌, List}
use Rattle.ijvm_image.specs.Prelude.{ImageView}
use Rattle.verifier_facts.specs.declared.error.VerifyError.{VerifyError}
use Rattle.verifier_facts.specs.declared.error.VerifyError.TheVariants.{UnsetLocal, Overlap}
use Rattle.verifier_facts.specs.declared.kind.Kind.{Kind}
use Rattle.verifier_facts.specs.Prelude.{IsTrueOf, IsMainCount, IsMethodCount, AreKinds}
use Rattle.verifier_reach.specs.Prelude.{IsDecided}

pub record IsSurvey (image : ImageView) (main_locals methods : ℕ) (kinds : List Kind) : Type 0 where
  pub decided : (stack_end : ℕ) (e : VerifyError) → IsDecided e → IsTrueOf image stack_end e → ⊥
  pub set : (stack_end at k : ℕ) → IsTrueOf image stack_end (UnsetLocal at k) → ⊥
  pub apart : (stack_end byte : ℕ) → IsTrueOf image stack_end (Overlap byte) → ⊥
  pub main : IsMainCount image main_locals
  pub main_few : main_locals ≤ 65536
  pub methods_are : IsMethodCount image methods
  pub kinds_are : AreKinds image kinds
