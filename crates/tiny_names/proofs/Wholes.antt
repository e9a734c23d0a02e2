-- The faults of a whole program.
use Rattle.tiny_names.proofs.Common.{◌≡◌, ℕ, ◌+◌, ◌<◌, ◌≤◌, [], ◌∷◌, ◌++◌, List, length, get_or, drop, take, map, refl, ap, sym, ◌∙◌, Option, Some, None}
use Rattle.tiny_names.proofs.Common.{drop_all, take_all, fun_ext, Function, drop_item, Fault, Unresolved, Signature, all_faults, faults_from, first}
use Rattle.tiny_names.proofs.Common.{function_faults, main_faults, called, lookup, function_of, function_place, resolved, IsFirst}
use Rattle.tiny_draft.specs.Tree as draft
use Rattle.tiny_draft.specs.Prelude.{function_tree}
use Rattle.tiny_tree.specs.Tree as tree
use Rattle.tiny_names.specs.declared.fault.Fault.TheVariants as faults
use Rattle.tiny_names.specs.declared.fault.Unresolved.TheVariants as unresolved
use Rattle.tiny_names.proofs.Firsts.{first_none}

first_whole : (a b : List Fault) (f : Fault) → first a ≡ Some f → first (a ++ b) ≡ Some f
first_whole [] b f h = absurd (cc)
first_whole (x ∷ a) b f h = h

first_empty : (a : List Fault) → first a ≡ None → a ≡ []
first_empty [] h = refl
first_empty (x ∷ a) h = absurd (cc)

part : (e : Unresolved) (a b : List Fault) → ((f : Fault) → first a ≡ Some f → first b ≡ Some f) → IsFirst e a → IsFirst e b
part (unresolved.Fault f) a b h i = h f i
part unresolved.OutOfMemory a b h i = tt

module _ (table : List (Option Signature)) (fs : List Function) (known : (name : ℕ) → lookup table name ≡ called (map function_tree fs) name) where
  same_known : lookup table ≡ called (map function_tree fs)
  same_known = fun_ext known

  abbrev written : List draft.Function
  written = map function_tree fs

  all_is : all_faults written ≡ faults_from (lookup table) 0 written ++ main_faults (lookup table 0)
  all_is = ap (λ (k : ℕ → Option Signature). faults_from k 0 written ++ main_faults (k 0)) (sym same_known)

  pub fault_in : (i : ℕ) (f : Function) (e : Unresolved) → i < length fs → f ≡ get_or fs i f
      → first (faults_from (lookup table) 0 written) ≡ first (faults_from (lookup table) i (map function_tree (drop i fs)))
      → IsFirst e (function_faults (lookup table) i (function_tree f)) → IsFirst e (all_faults written)
  fault_in i f e lt is same h = part e (function_faults (lookup table) i (function_tree f)) (all_faults written)
      (λ x a. ap first all_is ∙ first_whole (faults_from (lookup table) 0 written) (main_faults (lookup table 0)) x
      (same ∙ (ap (λ l. first (faults_from (lookup table) i (map function_tree l))) (drop_item fs i f lt is)
      ∙ first_whole (function_faults (lookup table) i (function_tree f)) (faults_from (lookup table) (i + 1) (map function_tree (drop (i + 1) fs))) x a))) h

  module _ (i : ℕ) (end : length fs ≤ i)
      (same : first (faults_from (lookup table) 0 written) ≡ first (faults_from (lookup table) i (map function_tree (drop i fs)))) where
    none : first (faults_from (lookup table) 0 written) ≡ None
    none = same ∙ ap (λ l. first (faults_from (lookup table) i (map function_tree l))) (drop_all i fs end)

    pub no_main : lookup table 0 ≡ None → first (all_faults written) ≡ Some faults.NoMain
    no_main h = ap first all_is ∙ (first_none (faults_from (lookup table) 0 written) (main_faults (lookup table 0)) (sym none) ∙ ap (λ m. first (main_faults m)) h)

    pub no_fault : (s : Signature) → lookup table 0 ≡ Some s → all_faults written ≡ []
    no_fault s h = first_empty (all_faults written)
        (ap first all_is ∙ (first_none (faults_from (lookup table) 0 written) (main_faults (lookup table 0)) (sym none) ∙ ap (λ m. first (main_faults m)) h))

  pub is_resolved : (i : ℕ) (found : List tree.Function) (s : Signature) → length fs ≤ i → lookup table 0 ≡ Some s
      → found ≡ map (function_of (lookup table)) (map function_tree (take i fs)) → record { functions = found; main = s.place } ≡ resolved written
  is_resolved i found s end h more =
      ap (λ l. record { functions = l; main = s.place }) (more ∙ ap (λ l. map (function_of (lookup table)) (map function_tree l)) (take_all i fs end))
      ∙ (ap (λ m. record { functions = map (function_of (lookup table)) written; main = m }) (ap function_place (sym h))
      ∙ ap (λ (k : ℕ → Option Signature). let r : tree.Program = record { functions = map (function_of k) written; main = function_place (k 0) } in r) same_known)
