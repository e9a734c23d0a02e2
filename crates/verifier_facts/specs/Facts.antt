-- What each refusal says, and which images are accepted: those of which no refusal is true.
use Rattle.std.specs.Prelude.{◌≡◌, ◌≢◌, ℕ, ℤ, ◌+◌, ◌<◌, ◌≤◌, ◌⊎◌, ◌↔◌, List, length, slice_get, Contains, AllPairs, Option, Some, None}
use Rattle.ijvm_instr.specs.declared.row.Row.{Row}
use Rattle.ijvm_instr.specs.declared.row.Flow.TheVariants.{Call, Return}
use Rattle.ijvm_instr.specs.Prelude.{size_of, instr_at, target}
use Rattle.ijvm_image.specs.Prelude.{ImageView, params, others}
use Rattle.verifier_facts.specs.declared.error.VerifyError.{VerifyError}
use Rattle.verifier_facts.specs.declared.error.VerifyError.TheVariants.{BadCode, FallsOff, BadTarget, Overlap, BadConstant, BadEntry, BadHeader, LinkSlot, BadLocal, UnsetLocal, TooFewArguments, Underflow, DepthDiffers, ReturnInMain, MainFrame, OutOfMemory}
use Rattle.verifier_facts.specs.Paths.{Arrival, HasRow, HasNext, HasJump, IsNoCall, need_of, Reached, IsReachedMethod}

-- the instruction reads or stores this local
abbrev pub Names : Row → ℕ → Type 0
Names r k = (r.reads ≡ Some k) ⊎ (r.stores ≡ Some k)

-- the table of what may be wrong where one path ends
abbrev pub IsWrongAt : ImageView → Arrival → VerifyError → Type 0
IsWrongAt image a (BadCode at) = (at ≡ a.at) × (instr_at image.text a.at ≡ None)
IsWrongAt image a (FallsOff at) = (at ≡ a.at) × (r : Row) × HasRow image.text a.at r × HasNext r.flow × (a.at + size_of r ≡ length image.text)
IsWrongAt image a (BadTarget at) = (at ≡ a.at) × (r : Row) × HasRow image.text a.at r × (o : ℤ) × HasJump r.flow o × (length image.text ≤ target a.at o)
IsWrongAt image a (BadConstant at k) = (at ≡ a.at) × (r : Row) × HasRow image.text a.at r × (r.constant ≡ Some k) × (slice_get image.pool k ≡ None)
IsWrongAt image a (BadEntry k) = (r : Row) × HasRow image.text a.at r × (r.flow ≡ Call k) × (e : ℕ)
    × (slice_get image.pool k ≡ Some e) × (length image.text ≤ e + 4)
IsWrongAt image a (BadHeader e) = (a.unit ≡ Some e) × (params image.text e ≡ 0)
IsWrongAt image a (LinkSlot at) = (at ≡ a.at) × (r : Row) × HasRow image.text a.at r × (e : ℕ) × (a.unit ≡ Some e) × Names r 0
IsWrongAt image a (BadLocal at k) = (at ≡ a.at) × (r : Row) × HasRow image.text a.at r × (e : ℕ) × (a.unit ≡ Some e)
    × Names r k × (params image.text e + others image.text e ≤ k)
IsWrongAt image a (UnsetLocal at k) = (at ≡ a.at) × (r : Row) × HasRow image.text a.at r × (a.unset ≡ Some k) × (r.reads ≡ Some k)
IsWrongAt image a (TooFewArguments at have need) =
    (at ≡ a.at) × (r : Row) × HasRow image.text a.at r × (k : ℕ) × (r.flow ≡ Call k)
    × (need_of image r.needs r.flow ≡ Some need) × (have ≡ a.depth) × (have < need)
IsWrongAt image a (Underflow at) = (at ≡ a.at) × (r : Row) × HasRow image.text a.at r × IsNoCall r.flow × (a.depth < r.needs)
IsWrongAt image a (ReturnInMain at) = (at ≡ a.at) × (r : Row) × HasRow image.text a.at r × (a.unit ≡ None) × (r.flow ≡ Return)
IsWrongAt image a (DepthDiffers at d e) = ⊥
IsWrongAt image a (Overlap byte) = ⊥
IsWrongAt image a (MainFrame count) = ⊥
IsWrongAt image a OutOfMemory = ⊥

-- a path comes to an instruction of main that names this local
abbrev pub MainNames : ImageView → ℕ → Type 0
MainNames image k = (a : Arrival) × (r : Row) × Reached image a × HasRow image.text a.at r × (a.unit ≡ None) × Names r k

-- the number of main's locals: each that main names is below it, and it is 0 or one more than a named one
pub record IsMainCount (image : ImageView) (count : ℕ) : Type 0 where
  pub above : (k : ℕ) → MainNames image k → k < count
  pub least : (count ≡ 0) ⊎ ((k : ℕ) × MainNames image k × (count ≡ k + 1))

-- what takes up bytes of the text: an instruction, once for each unit that reaches it, or a reached method's header
pub data Piece : Type 0 where
  Code : (unit : Option ℕ) (at : ℕ) → Piece
  Header : (entry : ℕ) → Piece

abbrev pub Covers : ImageView → Piece → ℕ → Type 0
Covers image (Code u at) byte = (a : Arrival) × Reached image a × (a.unit ≡ u) × (a.at ≡ at) × (r : Row)
    × HasRow image.text at r × (at ≤ byte) × (byte < at + size_of r)
Covers image (Header e) byte = IsReachedMethod image e × (e ≤ byte) × (byte < e + 4)

-- a refusal is true of an image, for a stack that ends here
abbrev pub IsTrueOf : ImageView → ℕ → VerifyError → Type 0
IsTrueOf image stack_end (Overlap byte) = (p q : Piece) × (p ≢ q) × Covers image p byte × Covers image q byte
IsTrueOf image stack_end (DepthDiffers at d e) = (a b : Arrival) × Reached image a × Reached image b × (a.at ≡ at)
    × (b.at ≡ at) × (a.depth ≡ d) × (b.depth ≡ e) × (d < e)
IsTrueOf image stack_end (MainFrame count) = IsMainCount image count × (stack_end < 0x8000 + count)
IsTrueOf image stack_end e = (a : Arrival) × Reached image a × IsWrongAt image a e

-- accepted: no refusal is true
abbrev pub Accepts : ImageView → ℕ → Type 0
Accepts image stack_end = (e : VerifyError) → IsTrueOf image stack_end e → ⊥

-- the number of reached methods
pub record IsMethodCount (image : ImageView) (count : ℕ) : Type 0 where
  pub entries : List ℕ
  pub apart : AllPairs (λ e f. e ≢ f) entries
  pub members : (e : ℕ) → Contains entries e ↔ IsReachedMethod image e
  pub count_is : count ≡ length entries
