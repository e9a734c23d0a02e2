-- What holds of the statements of each program.
use Rattle.store_placement.proofs.Common.{◌≡◌, ℕ, ◌+◌, ◌<◌, List, [], ◌∷◌, ◌++◌, Option, Some, None, length, map, take, refl, ap, subst, ◌∙◌, slice_get, IfSome}
use Rattle.store_placement.proofs.Common.{option_and_then, filter_map, cons_option, ForSome, option_to_list, IsSome, take_more, map_push, filter_map-append}
use Rattle.store_placement.proofs.Common.{slice_get_within, get_or_from_slice_get, Next, Statement, Pair, IsOfStatements, pair_of}
use Rattle.mal_line.specs.declared.next.Next.TheVariants as nexts
use Rattle.mal_parser.specs.Prelude.{MalView, IsMalProgram, IsFallback, IsLabelled, HasTargets}

-- a list up to the next element
pub take_next : {X : Type 0} (xs : List X) (s : ℕ) (x : X) → slice_get xs s ≡ Some x → take (s + 1) xs ≡ take s xs ++ x ∷ []
take_next xs s x is = take_more xs s x (slice_get_within xs s x is) ∙ ap (λ y. take s xs ++ y ∷ []) (get_or_from_slice_get xs s x x is)

pub map_next : {X Y : Type 0} (f : X → Y) (xs : List X) (s : ℕ) (x : X) → slice_get xs s ≡ Some x → map f (take (s + 1) xs) ≡ map f (take s xs) ++ f x ∷ []
map_next f xs s x is = ap (map f) (take_next xs s x is) ∙ map_push f (take s xs) x

listed : {Y : Type 0} (o : Option Y) → cons_option o [] ≡ option_to_list o
listed None = refl
listed (Some y) = refl

pub filter_map_next : {X Y : Type 0} (h : X → Option Y) (xs : List X) (s : ℕ) (x : X) → slice_get xs s ≡ Some x → filter_map h (take (s + 1) xs) ≡ filter_map h (take s xs) ++ option_to_list (h x)
filter_map_next h xs s x is =
    ap (filter_map h) (take_next xs s x is) ∙ (filter_map-append h (take s xs) (x ∷ []) ∙ ap (λ ys. filter_map h (take s xs) ++ ys) (listed (h x)))

if_some : {X : Type 0} (P : X → Type 0) (o : Option X) (x : X) → o ≡ Some x → IfSome o P → P x
if_some {X} P o x is h = let Q : Option X → Type 0 = λ r. IfSome r P in subst Q is h

pub fixed_inside : (p : MalView) → IsMalProgram p → (s : ℕ) (t : Statement) → slice_get p.statements s ≡ Some t → ForSome t.fixed (λ a. a < 512)
fixed_inside p is s t here a at = (if_some (λ b. (b < 512) × IsSome t.label) t.fixed a at (is.statements s t here).fixed).0

pub labelled_below : (statements : List Statement) (n : ℕ) → IsLabelled statements n → n < length statements
labelled_below statements n is =
    elim (slice_get statements n) as (λ o. slice_get statements n ≡ o → IsSome (option_and_then (λ t. t.label) o) → n < length statements) [
      | None ↦ λ e h. cc
      | Some t ↦ λ e h. slice_get_within statements n t e
    ] refl is

targets_below : (statements : List Statement) (next : Next ℕ) → HasTargets statements next → ForSome (pair_of next) (IsOfStatements (length statements))
targets_below statements nexts.Following has p is = cc
targets_below statements (nexts.Goto to) has p is = cc
targets_below statements (nexts.Dispatch high) has p is = cc
targets_below statements (nexts.Branch test high low) has p is =
    let P : Pair → Type 0 = λ q. IsOfStatements (length statements) q in
    let same : record { yes = high; no = low } ≡ p = cc in
    subst P same (labelled_below statements high has.0, labelled_below statements low has.1)

pub targets_inside : (p : MalView) → IsMalProgram p → (s : ℕ) (t : Statement) → slice_get p.statements s ≡ Some t → ForSome (pair_of t.next) (IsOfStatements (length p.statements))
targets_inside p is s t here = targets_below p.statements t.next (is.statements s t here).targets

pub fallback_is : (p : MalView) → IsMalProgram p → (t : Statement) → p.fallback ≡ Some t → IsFallback p t
fallback_is p is t here = if_some (IsFallback p) p.fallback t here is.fallback

pub fallback_inside : (p : MalView) → IsMalProgram p → (t : Statement) → p.fallback ≡ Some t → ForSome (pair_of t.next) (IsOfStatements (length p.statements))
fallback_inside p is t here = targets_below p.statements t.next (fallback_is p is t here).targets
