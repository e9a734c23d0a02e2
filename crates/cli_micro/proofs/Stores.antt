-- A refusal of a store file that has a reason.
use Rattle.cli_micro.proofs.Common.{◌≡◌, ◌⊎◌, ℕ, List, Some, inl, inr, StoreError, RefusesFile, store_reason}
use Rattle.store_placement.specs.declared.store_error.StoreError.TheVariants as store

no_reason : (e : StoreError) (reason : List ℕ) → Some reason ≡ store_reason e → e ≡ store.OutOfMemory → ⊥
no_reason e reason h memory = let none : Some reason ≡ store_reason store.OutOfMemory = rw memory at h in cc

pub refused_file : (bytes : List ℕ) (e : StoreError) (reason : List ℕ) → Some reason ≡ store_reason e → (e ≡ store.OutOfMemory) ⊎ RefusesFile bytes e → RefusesFile bytes e
refused_file bytes e reason h (inl memory) = absurd (no_reason e reason h memory)
refused_file bytes e reason h (inr refused) = refused
