-- A verified image: acceptance for its memory map, in the type.
use Rattle.std.specs.Prelude.{ℕ, ◌+◌, ◌≤◌, List}
use Rattle.console_port.specs.declared.map.MemoryMap.{MemoryMap}
use Rattle.console_port.specs.Prelude.{IsMap}
use Rattle.ijvm_image.specs.Prelude.{ImageView}
use Rattle.ijvm_meaning.specs.Prelude.{IsSafe}
use Rattle.verifier_facts.specs.declared.kind.Kind.{Kind}
use Rattle.verifier_facts.specs.Facts.{Accepts, IsMainCount, IsMethodCount}
use Rattle.verifier_facts.specs.Kinds.{AreKinds}

pub record VerifiedView : Type 0 where
  pub image : ImageView
  pub main_locals : ℕ
  pub map : MemoryMap

-- accepted for a stack that ends where its map says
pub record IsAccepted (v : VerifiedView) : Type 0 where
  pub map_is : IsMap v.map.stack_end
  pub accepts : Accepts v.image v.map.stack_end
  pub main : IsMainCount v.image v.main_locals
  pub main_fits : 0x8000 + v.main_locals ≤ v.map.stack_end
  -- no run of it gets stuck
  pub safe : IsSafe v.image v.map.stack_end v.main_locals

-- what a verified image keeps besides the image
pub record IsVerified (v : VerifiedView) (methods : ℕ) (found : List Kind) : Type 0 where
  pub accepted : IsAccepted v
  pub methods_are : IsMethodCount v.image methods
  pub kinds_are : AreKinds v.image found
