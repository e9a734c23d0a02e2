-- What the search of a graph for locals that are not set keeps.
use Rattle.std.specs.Prelude.{◌≡◌, ◌≢◌, ℕ, zero, suc, ◌+◌, ◌-◌, ◌/◌, ◌%◌, ◌^◌, ◌<◌, ◌≤◌, ◌⊎◌, if◌then◌else◌, ◌==◌, List, [], ◌∷◌, length, slice_get, Contains, Some, Option, Result, IfOk, IfNone}
use Rattle.std.specs.Int.{bit_at}
use Rattle.verifier_locals.specs.declared.graph.Node.{Node}
use Rattle.verifier_locals.specs.declared.local_set.LocalSet.{LocalSet}
use Rattle.verifier_locals.specs.declared.trace.Mark.{Mark}
use Rattle.verifier_locals.specs.declared.trace.Trace.{Trace}
use Rattle.verifier_locals.specs.LocalSet.{Has, IsIn}
use Rattle.verifier_locals.specs.Graph.{LeadsTo, Carries}

-- the bits of a mark, if the search of this number has made it
abbrev pub held : ℕ → Mark → ℕ
held search m = if m.search == search then m.locals.bits else 0

abbrev pub held_at : ℕ → List Mark → ℕ → ℕ
held_at search [] at = 0
held_at search (m ∷ marks) zero = held search m
held_at search (m ∷ marks) (suc at) = held_at search marks at

-- the search has come to the address with the local at this place
abbrev pub IsHeld : ℕ → List Mark → ℕ → ℕ → Type 0
IsHeld search marks at place = bit_at (held_at search marks at) place ≡ 1

-- how much the marks can still grow
abbrev pub blanks : ℕ → List Mark → ℕ
blanks search [] = 0
blanks search (m ∷ marks) = (2 ^ 64 - held search m) + blanks search marks

-- no mark is of a later search
abbrev pub AreOlder : ℕ → List Mark → Type 0
AreOlder search marks = (at : ℕ) (m : Mark) → slice_get marks at ≡ Some m → m.search < search

-- a search of this number may begin, over this many nodes
pub record IsReady (search many : ℕ) (marks : List Mark) (todo : List ℕ) : Type 0 where
  pub long : length marks ≡ many
  pub older : AreOlder search marks
  pub idle : todo ≡ []

-- what is marked stays, and what is new is waiting
pub record MarksMore (search : ℕ) (marks new : List Mark) (todo later : List ℕ) : Type 0 where
  pub long : length new ≡ length marks
  pub keeps : (at place : ℕ) → IsHeld search marks at place → IsHeld search new at place
  pub fresh : (at place : ℕ) → IsHeld search new at place → IsHeld search marks at place ⊎ Contains later at
  pub todo_stays : (at : ℕ) → Contains todo at → Contains later at
  pub todo_inside : (at : ℕ) → Contains later at → Contains todo at ⊎ (at < length marks)
  pub measure : blanks search new + length later ≤ blanks search marks + length todo
  pub older : AreOlder (search + 1) marks → AreOlder (search + 1) new

-- the local of the group is marked at the address
abbrev pub IsMarked : ℕ → List Mark → ℕ → ℕ → ℕ → Type 0
IsMarked search marks group at k = (k / 64 ≡ group) × IsHeld search marks at (k % 64)

-- the local is not read here, and where it is not stored it is marked wherever the node leads
abbrev pub IsPassed : List Node → ℕ → List Mark → ℕ → ℕ → ℕ → Type 0
IsPassed graph search marks group at k =
    (node : Node) × (slice_get graph at ≡ Some node) × (node.reads ≢ Some k)
    × (node.stores ≢ Some k → (to : ℕ) → LeadsTo node to → IsMarked search marks group to k)

-- a marked local goes on with the node, which does not store it
abbrev pub Passes : List Node → ℕ → List Mark → ℕ → ℕ → ℕ → ℕ → Type 0
Passes graph search marks group at to k =
    (node : Node) × (slice_get graph at ≡ Some node) × (node.stores ≢ Some k) × LeadsTo node to × IsMarked search marks group at k

-- what is newly held: locals of the set, at addresses of this kind
abbrev pub HoldsMore : (ℕ → Type 0) → LocalSet → ℕ → List Mark → List Mark → Type 0
HoldsMore IsThere locals search marks new = (at place : ℕ) → IsHeld search new at place → IsHeld search marks at place ⊎ (IsThere at × Has locals place)

-- each local that is marked at the address is not read there, and goes on
abbrev pub AllPass : List Node → ℕ → ℕ → ℕ → List Mark → List Mark → Type 0
AllPass graph search group at marks new = (k : ℕ) → IsMarked search marks group at k → IsPassed graph search new group at k

-- what is newly marked has gone on from the address
abbrev pub OnlyPass : List Node → ℕ → ℕ → ℕ → List Mark → List Mark → Type 0
OnlyPass graph search group at marks new = (to k : ℕ) → IsMarked search new group to k →
    IsMarked search marks group to k ⊎ Passes graph search marks group at to k

-- the local is marked at the address, and read there
abbrev pub ReadsMarked : List Node → ℕ → ℕ → ℕ → List Mark → ℕ → Type 0
ReadsMarked graph search group at marks k = IsMarked search marks group at k × (node : Node) × (slice_get graph at ≡ Some node) × (node.reads ≡ Some k)

-- the locals of the set are marked at the start, each mark is a way from there, and each marked address is waiting or done
pub record IsTracing (graph : List Node) (search group start : ℕ) (locals : LocalSet) (marks : List Mark) (todo : List ℕ) : Type 0 where
  pub long : length marks ≡ length graph
  pub begin : (k : ℕ) → IsIn group locals k → IsMarked search marks group start k
  pub ways : (at k : ℕ) → IsMarked search marks group at k → IsIn group locals k × Carries graph start k at
  pub each : (at k : ℕ) → IsMarked search marks group at k → Contains todo at ⊎ IsPassed graph search marks group at k
  pub inside : (at : ℕ) → Contains todo at → at < length graph
  pub older : AreOlder (search + 1) marks

-- a way carries the local to this read of it
pub record ReadsUnset (graph : List Node) (group start : ℕ) (locals : LocalSet) (at k : ℕ) : Type 0 where
  pub node : Node
  pub is : slice_get graph at ≡ Some node
  pub reads : node.reads ≡ Some k
  pub is_in : IsIn group locals k
  pub carries : Carries graph start k at

-- no way carries a local of the set to a read of it
abbrev pub ReadsNone : List Node → ℕ → ℕ → LocalSet → Type 0
ReadsNone graph group start locals = (at k : ℕ) (node : Node) → IsIn group locals k → Carries graph start k at →
    slice_get graph at ≡ Some node → node.reads ≢ Some k

-- ---- a trace, with its marks and what waits

-- what is marked stays, and what is new is waiting
abbrev pub IsMarkedMore : ℕ → Trace → Trace → Type 0
IsMarkedMore search old new = MarksMore search old.marks.items new.marks.items old.todo.items new.todo.items

-- all locals of the set are held at the addresses of this kind
abbrev pub HoldsAll : (ℕ → Type 0) → LocalSet → ℕ → List Mark → Type 0
HoldsAll IsThere locals search new = (at place : ℕ) → IsThere at → Has locals place → IsHeld search new at place

-- the place in its group of the local that is named
abbrev pub IsPlaceOf : Option ℕ → ℕ → ℕ → Type 0
IsPlaceOf named group place = (place < 64) × ((k : ℕ) × (named ≡ Some k) × (k / 64 ≡ group) × (place ≡ k % 64))

-- where no read was found, this holds
abbrev pub IfNoRead : {A E : Type 0} → Result (Option A) E → Type 0 → Type 0
IfNoRead result fact = IfOk result (λ read. IfNone read fact)
