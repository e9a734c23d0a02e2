-- The texts of a watcher for cycles one after the other.
use Rattle.mic_watched.proofs.Common.{◌≡◌, ℕ, List, [], ◌∷◌, ◌++◌, ap, sym, ◌∙◌, append_assoc, refl, subst, Result, Ok, Option, append-nil, puts_nothing}
use Rattle.mic_watched.proofs.Common.{puts_then, Puts, HasCause, Cycle, kept_of, PrintsOf, Saw}

module _ {Kept : Type 0} (keeps : Kept → Cycle → Kept) (Prints : Kept → Cycle → List ℕ → Type 0) where
  pub kept-append : (k : Kept) (cs ds : List Cycle) → kept_of keeps Prints k (cs ++ ds) ≡ kept_of keeps Prints (kept_of keeps Prints k cs) ds
  kept-append k [] ds = refl
  kept-append k (c ∷ cs) ds = kept-append (keeps k c) cs ds

  says-append : (k : Kept) (cs ds : List Cycle) (p q : List ℕ) → PrintsOf keeps Prints k cs p → PrintsOf keeps Prints (kept_of keeps Prints k cs) ds q → PrintsOf keeps Prints k (cs ++ ds) (p ++ q)
  says-append k [] ds p q first next = subst (λ (x : List ℕ). PrintsOf keeps Prints k ds (x ++ q)) (sym first) next
  says-append k (c ∷ cs) ds p q first next =
      (first.0, first.1 ++ q, first.2, says-append (keeps k c) cs ds first.1 q first.3 next, ap (λ (x : List ℕ). x ++ q) first.4 ∙ append_assoc first.0 first.1 q)

  -- cycles that were seen, and more after them
  pub saw-then : {E : Type 0} (k k' k'' : Kept) (err err' err'' : Option (List ℕ)) (cs ds : List Cycle) (result : Result Unit E) →
      Saw keeps Prints {E = E} k k' err err' cs (Ok tt) → Saw keeps Prints k' k'' err' err'' ds result → Saw keeps Prints k k'' err err'' (cs ++ ds) result
  saw-then k k' k'' err err' err'' cs ds result first next =
      record {
        kept = next.kept ∙ (ap (λ (x : Kept). kept_of keeps Prints x ds) first.kept ∙ sym (kept-append k cs ds));
        text = first.text ++ next.text;
        says = says-append k cs ds first.text next.text first.says (subst (λ (x : Kept). PrintsOf keeps Prints x ds next.text) first.kept next.says);
        said = puts_then err err' err'' first.text next.text result first.said next.said;
      }

  -- no cycle yet
  pub saw-nothing : {E : Type 0} (k : Kept) (err : Option (List ℕ)) → Saw keeps Prints {E = E} k k err err [] (Ok tt)
  saw-nothing k err = record { kept = refl; text = []; says = refl; said = puts_nothing err }

  -- one cycle
  pub saw-one : {E : Type 0} (k k' : Kept) (err err' : Option (List ℕ)) (c : Cycle) (text : List ℕ) (result : Result Unit E) →
      k' ≡ keeps k c → Prints k c text → Puts err text result err' → Saw keeps Prints k k' err err' (c ∷ []) result
  saw-one k k' err err' c text result kept says said =
      record { kept = kept; text = text; says = (text, [], says, refl, sym (append-nil text)); said = said }

-- causes of one call after another
pub cause-then : {E : Type 0} (a b c : ℕ) (done : Unit {0}) (result : Result Unit E) → HasCause {E = E} a b (Ok done) → HasCause b c result → HasCause a c result
cause-then a b c done result first next = subst (λ (x : ℕ). HasCause x c result) first.quiet next
