-- What an image's instructions may come to, by the columns of the instruction table: all paths from the start of main.
use Rattle.std.specs.Prelude.{◌≡◌, ℕ, ℤ, Bool, true, false, ◌+◌, ◌<◌, ◌≤◌, ◌⊎◌, if◌then◌else◌, ◌==◌, List, length, slice_get, Option, Some, None}
use Rattle.std.specs.Option.{option_map}
use Rattle.ijvm_instr.specs.declared.instr.Instr.{Instr}
use Rattle.ijvm_instr.specs.declared.row.Row.{Row}
use Rattle.ijvm_instr.specs.declared.row.Flow.{Flow}
use Rattle.ijvm_instr.specs.declared.row.Flow.TheVariants.{Next, Jump, Branch, Call, Return, End}
use Rattle.ijvm_instr.specs.Prelude.{row_of, size_of, instr_at, target}
use Rattle.ijvm_image.specs.declared.method.Method.{Method}
use Rattle.ijvm_image.specs.Prelude.{ImageView, method_at, params, others}

-- A unit is main, which is None, or the method at an entry.
pub record Arrival : Type 0 where
  pub unit : Option ℕ
  -- a byte address
  pub at : ℕ
  -- how many operands there are
  pub depth : ℕ
  -- an own local of the method, which the path carries as unset
  pub unset : Option ℕ

abbrev pub arrival : Option ℕ → ℕ → ℕ → Option ℕ → Arrival
arrival unit at depth unset = record { unit = unit; at = at; depth = depth; unset = unset }

-- a whole instruction with this row stands at the address
abbrev pub HasRow : List ℕ → ℕ → Row → Type 0
HasRow text at r = (i : Instr) × (instr_at text at ≡ Some i) × (r ≡ row_of i)

-- the instruction has a byte, and ends at or before the text's end
abbrev pub IsWhole : List ℕ → ℕ → Row → Type 0
IsWhole text at r = (0 < size_of r) × (at + size_of r ≤ length text)

-- the constant that a row names exists
abbrev pub HasConstant : List ℕ → Option ℕ → Type 0
HasConstant pool None = Unit {0}
HasConstant pool (Some k) = k < length pool

-- the method that a call's constant names, if it exists
abbrev pub callee : ImageView → ℕ → Option Method
callee image k = method_at image.text (slice_get image.pool k)

-- where the flow of an instruction leads: on to the next address, by a jump's offset, and into the method that a constant names
pub record Ways : Type 0 where
  pub next : Bool
  pub jump : Option ℤ
  pub call : Option ℕ

abbrev pub ways_of : Flow → Ways
ways_of Next = record { next = true; jump = None; call = None }
ways_of (Jump o) = record { next = false; jump = Some o; call = None }
ways_of (Branch o) = record { next = true; jump = Some o; call = None }
ways_of (Call k) = record { next = true; jump = None; call = Some k }
ways_of Return = record { next = false; jump = None; call = None }
ways_of End = record { next = false; jump = None; call = None }

-- the unit may go on at the next address
abbrev pub HasNext : Flow → Type 0
HasNext f = (ways_of f).next ≡ true

-- the unit may jump by this offset
abbrev pub HasJump : Flow → ℤ → Type 0
HasJump f o = (ways_of f).jump ≡ Some o

abbrev pub IsNoCall : Flow → Type 0
IsNoCall f = (ways_of f).call ≡ None

-- the addresses at which the unit goes on, from an instruction at an address and the address after it
abbrev pub GoesOn : Flow → ℕ → ℕ → ℕ → Type 0
GoesOn f at next to = (HasNext f × (to ≡ next)) ⊎ ((o : ℤ) × HasJump f o × (to ≡ target at o))

-- the operands that an instruction needs: those of its row, or a call its method's parameters
abbrev pub need_by : ImageView → ℕ → Option ℕ → Option ℕ
need_by image needs None = Some needs
need_by image needs (Some k) = option_map (λ m. m.params) (callee image k)

abbrev pub need_of : ImageView → ℕ → Flow → Option ℕ
need_of image needs f = need_by image needs (ways_of f).call

-- what is still unset after an instruction that stores to this local
abbrev pub left_unset : Option ℕ → Option ℕ → Option ℕ
left_unset None unset = unset
left_unset (Some stored) None = None
left_unset (Some stored) (Some k) = if k == stored then None else Some k

-- a local of the method at this entry, after its parameters
abbrev pub IsOwn : List ℕ → ℕ → ℕ → Type 0
IsOwn text entry k = (params text entry ≤ k) × (k < params text entry + others text entry)

-- a method's start carries nothing as unset, or one of its own locals
abbrev pub MayCarry : List ℕ → ℕ → Option ℕ → Type 0
MayCarry text entry None = Unit {0}
MayCarry text entry (Some k) = IsOwn text entry k

-- the instruction of the arrival is whole, its constant and its method exist, and it finds the operands that it needs
pub record Works (image : ImageView) (a : Arrival) (r : Row) (need : ℕ) : Type 0 where
  pub has_row : HasRow image.text a.at r
  pub constant : HasConstant image.pool r.constant
  pub needs : need_of image r.needs r.flow ≡ Some need
  pub enough : need ≤ a.depth

-- the path goes on in the same unit
pub record Goes (image : ImageView) (a b : Arrival) (r : Row) (need : ℕ) : Type 0 where
  pub works : Works image a r need
  pub way : GoesOn r.flow a.at (a.at + size_of r) b.at
  pub inside : b.at < length image.text
  pub unit_is : b.unit ≡ a.unit
  pub depth_is : b.depth + need ≡ a.depth + r.gives
  pub unset_is : b.unset ≡ left_unset r.stores a.unset

-- the path goes into the called method
pub record Enters (image : ImageView) (a b : Arrival) (r : Row) (need entry : ℕ) : Type 0 where
  pub works : Works image a r need
  pub calls : (k : ℕ) × (r.flow ≡ Call k) × (slice_get image.pool k ≡ Some entry)
  pub inside : entry + 4 < length image.text
  pub unit_is : b.unit ≡ Some entry
  pub at_is : b.at ≡ entry + 4
  pub depth_is : b.depth ≡ 0
  pub unset_is : MayCarry image.text entry b.unset

pub data Follows (image : ImageView) (a b : Arrival) : Type 0 where
  On : (r : Row) (need : ℕ) → Goes image a b r need → Follows image a b
  Into : (r : Row) (need entry : ℕ) → Enters image a b r need entry → Follows image a b

-- a path from the start of main ends with this arrival
pub data Reached (image : ImageView) : Arrival → Type 0 where
  Start : Reached image (record { unit = None; at = 0; depth = 0; unset = None })
  Then : (a b : Arrival) → Reached image a → Follows image a b → Reached image b

-- a path comes into the method at this entry
abbrev pub IsReachedMethod : ImageView → ℕ → Type 0
IsReachedMethod image entry = (a : Arrival) × Reached image a × (a.unit ≡ Some entry)
