-- What the search for reached addresses keeps.
use Rattle.std.specs.Prelude.{◌≡◌, ◌≢◌, ℕ, ℤ, ◌+◌, ◌*◌, ◌<◌, ◌≤◌, ◌⊎◌, List, [], ◌∷◌, ◌++◌, length, slice_get, Contains, Option, Some, None}
use Rattle.ijvm_instr.specs.declared.row.Flow.TheVariants.{Return}
use Rattle.ijvm_instr.specs.declared.row.Row.{Row}
use Rattle.ijvm_instr.specs.Prelude.{size_of, target}
use Rattle.ijvm_image.specs.Prelude.{ImageView, params, others}
use Rattle.verifier_facts.specs.declared.error.VerifyError.{VerifyError}
use Rattle.verifier_facts.specs.declared.error.VerifyError.TheVariants.{UnsetLocal, Overlap, MainFrame, OutOfMemory}
use Rattle.verifier_reach.specs.declared.kept.Kept.{Kept}
use Rattle.verifier_facts.specs.Prelude.{Arrival, arrival, HasRow, IsWhole, HasConstant, HasNext, HasJump, need_of, Follows, Reached, IsReachedMethod, Names, IsTrueOf}

-- a refusal is true, whatever the stack's end, or memory has run out
abbrev pub States : ImageView → VerifyError → Type 0
States image e = (stack_end : ℕ) → (e ≡ OutOfMemory) ⊎ IsTrueOf image stack_end e

-- the arrival of a kept address
abbrev pub kept_at : Kept → ℕ → Arrival
kept_at k at = arrival k.unit at k.depth None

abbrev pub kept_of : Option ℕ → ℕ → Kept
kept_of unit depth = record { unit = unit; depth = depth }

-- the method has this local, which is not local 0
abbrev pub HasLocal : ImageView → ℕ → ℕ → Type 0
HasLocal image entry k = (0 < k) × (k < params image.text entry + others image.text entry)

-- nothing is wrong at this arrival, if it carries nothing
pub record IsChecked (image : ImageView) (a : Arrival) (r : Row) (need : ℕ) : Type 0 where
  pub has_row : HasRow image.text a.at r
  pub whole : IsWhole image.text a.at r
  -- no other row stands there
  pub alone : (q : Row) → HasRow image.text a.at q → q ≡ r
  pub constant : HasConstant image.pool r.constant
  pub needs : need_of image r.needs r.flow ≡ Some need
  pub enough : need ≤ a.depth
  pub next : HasNext r.flow → a.at + size_of r < length image.text
  pub jump : (o : ℤ) → HasJump r.flow o → target a.at o < length image.text
  pub header : (e : ℕ) → a.unit ≡ Some e → params image.text e ≢ 0
  pub locals : (e k : ℕ) → a.unit ≡ Some e → Names r k → HasLocal image e k
  pub returns : a.unit ≡ None → r.flow ≢ Return

-- how many addresses nothing has reached yet
abbrev pub empties : List (Option Kept) → ℕ
empties [] = 0
empties (None ∷ seen) = empties seen + 1
empties (Some k ∷ seen) = empties seen

-- what an arrival is kept as
abbrev pub IsKept : List (Option Kept) → Arrival → Type 0
IsKept seen b = slice_get seen b.at ≡ Some (Some (kept_of b.unit b.depth))

-- the method's start is kept, with nothing on its stack
abbrev pub IsBegun : List (Option Kept) → ℕ → Type 0
IsBegun seen entry = IsKept seen (arrival (Some entry) (entry + 4) 0 None)

-- each waiting address is kept
abbrev pub AreKept : List (Option Kept) → List ℕ → Type 0
AreKept seen todo = (at : ℕ) → Contains todo at → (k : Kept) × (slice_get seen at ≡ Some (Some k))

-- the last waiting address is taken, and it is kept so
abbrev pub IsTaken : List (Option Kept) → List ℕ → List ℕ → Kept × ℕ → Type 0
IsTaken seen todo rest taken = (todo ≡ rest ++ taken.1 ∷ []) × (slice_get seen taken.1 ≡ Some (Some taken.0))

-- everything that follows from a kept address is kept, whatever it carries
abbrev pub AllFollow : ImageView → List (Option Kept) → Kept → ℕ → Type 0
AllFollow image seen k at = (unset : Option ℕ) (b : Arrival) → Follows image (arrival k.unit at k.depth unset) b → IsKept seen b

-- this address has been visited
abbrev pub IsDone : ImageView → List (Option Kept) → Kept → ℕ → Type 0
IsDone image seen k at = ((r : Row) × (need : ℕ) × IsChecked image (kept_at k at) r need) × AllFollow image seen k at

-- each kept address is reached as it is kept, and each waiting one is kept
pub record IsSearch (image : ImageView) (seen : List (Option Kept)) (todo : List ℕ) : Type 0 where
  pub long : length seen ≡ length image.text
  pub reached : (at : ℕ) (k : Kept) → slice_get seen at ≡ Some (Some k) → Reached image (kept_at k at)
  pub low : (at : ℕ) (k : Kept) → slice_get seen at ≡ Some (Some k) → k.depth + 2 * empties seen ≤ 2 * length image.text
  pub waiting : AreKept seen todo

-- what is kept stays, and what is new is waiting
pub record Grows (seen new : List (Option Kept)) (todo later : List ℕ) : Type 0 where
  pub keeps : (at : ℕ) (k : Kept) → slice_get seen at ≡ Some (Some k) → slice_get new at ≡ Some (Some k)
  pub fresh : (at : ℕ) (k : Kept) → slice_get new at ≡ Some (Some k) → (slice_get seen at ≡ Some (Some k)) ⊎ Contains later at
  pub todo_stays : (at : ℕ) → Contains todo at → Contains later at
  pub fewer : empties new ≤ empties seen
  pub measure : empties new + length later ≡ empties seen + length todo

-- the start is kept, and each kept address is waiting or done
pub record IsRunning (image : ImageView) (seen : List (Option Kept)) (todo : List ℕ) : Type 0 where
  pub search : IsSearch image seen todo
  pub start : slice_get seen 0 ≡ Some (Some (kept_of None 0))
  pub each : (at : ℕ) (k : Kept) → slice_get seen at ≡ Some (Some k) → Contains todo at ⊎ IsDone image seen k at

-- the whole set of reached addresses, each with the unit and the depth of all paths to it, and nothing is wrong there
pub record IsClosed (image : ImageView) (seen : List (Option Kept)) : Type 0 where
  pub long : length seen ≡ length image.text
  pub reached : (at : ℕ) (k : Kept) → slice_get seen at ≡ Some (Some k) → Reached image (kept_at k at)
  pub all : (a : Arrival) → Reached image a → IsKept seen a
  -- each reached method from its start on
  pub starts : (entry : ℕ) → IsReachedMethod image entry → IsBegun seen entry
  pub checked : (at : ℕ) (k : Kept) → slice_get seen at ≡ Some (Some k) → (r : Row) × (need : ℕ) × IsChecked image (kept_at k at) r need

-- the facts that this search decides: all but those of carried locals, of bytes in two instructions, and of main's frame
abbrev pub IsDecided : VerifyError → Type 0
IsDecided (UnsetLocal at k) = ⊥
IsDecided (Overlap byte) = ⊥
IsDecided (MainFrame count) = ⊥
IsDecided e = Unit {0}
