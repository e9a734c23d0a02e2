-- Where a statement goes next, whatever names its targets.
use Rattle.mal_line.specs.declared.next.Next.{Next}
use Rattle.mal_line.specs.declared.next.Next.TheVariants as nexts

-- the same destination, with its targets named otherwise
abbrev pub by_targets : {A B : Type 0} → (A → B) → Next A → Next B
by_targets f nexts.Following = nexts.Following
by_targets f (nexts.Goto to) = nexts.Goto (f to)
by_targets f (nexts.Dispatch high) = nexts.Dispatch high
by_targets f (nexts.Branch test high low) = nexts.Branch test (f high) (f low)

-- this holds of each target
abbrev pub EachTarget : {A : Type 0} → (A → Type 0) → Next A → Type 0
EachTarget P nexts.Following = Unit {0}
EachTarget P (nexts.Goto to) = P to
EachTarget P (nexts.Dispatch high) = Unit {0}
EachTarget P (nexts.Branch test high low) = P high × P low
