-- What a command returns, from what the layers below it say.
use Rattle.cli_micro.proofs.Common.{◌≡◌, ◌⊎◌, ℕ, List, Option, Some, None, false, IsSome, refl, sym, subst, Machine, Refusal, IsRefusal, refusal_by, by_reason}
use Rattle.cli_micro.proofs.Common.{MalError, MalView, is_memory, IsRefused, PlaceError, StoreError, IsChosenList, Demands, demands_of, machine_of, RefusesFile}
use Rattle.cli_micro.proofs.Common.{IsUnprinted, NoStore, NoText, mal_reason, store_reason, is_refusal}
use Rattle.store_placement.specs.declared.store_error.StoreError.TheVariants as store
use Rattle.store_placement.specs.Refusals as placing
use Rattle.cli_micro.proofs.Stores.{refused_file}

-- what refuses the constraints refuses the program's demands, where the constraints are these
pub refused_by : (program : MalView) (constraints : Demands) (e : PlaceError) → constraints ≡ demands_of program → placing.Refuses constraints e →
    placing.Refuses (demands_of program) e
refused_by program constraints e same h = let P : Demands → Type 0 = λ d. placing.Refuses d e in subst P same h

pub chosen_by : (program : MalView) (constraints : Demands) (addresses : List ℕ) → constraints ≡ demands_of program → IsChosenList constraints addresses →
    IsChosenList (demands_of program) addresses
chosen_by program constraints addresses same h = let P : Demands → Type 0 = λ d. IsChosenList d addresses in subst P same h

pub known : (o : Option Machine) (machine : Machine) → Some machine ≡ o → IsSome o
known (Some other) machine h = refl
known None machine h = cc

-- why a file is not printed
pub no_text : (machine : Machine) (bytes : List ℕ) (e : MalError) (refusal : Refusal) → machine_of bytes ≡ None → (is_memory e ≡ false → IsRefused machine bytes e) →
    refusal ≡ refusal_by (mal_reason e) → IsRefusal (IsUnprinted machine) bytes refusal
no_text machine bytes e refusal none refused is =
    subst (IsRefusal (IsUnprinted machine) bytes) (sym is)
    (by_reason (IsUnprinted machine) bytes (mal_reason e) (λ reason h. NoText e none (refused (is_refusal e reason (sym h))) h))

pub no_store : (machine : Machine) (bytes : List ℕ) (e : StoreError) (refusal : Refusal) → IsSome (machine_of bytes) → (e ≡ store.OutOfMemory) ⊎ RefusesFile bytes e →
    refusal ≡ refusal_by (store_reason e) → IsRefusal (IsUnprinted machine) bytes refusal
no_store machine bytes e refusal some cause is =
    subst (IsRefusal (IsUnprinted machine) bytes) (sym is)
    (by_reason (IsUnprinted machine) bytes (store_reason e) (λ reason h. NoStore e some (refused_file bytes e reason (sym h) cause) h))
