-- The address that the `.label` lines give a statement.
use Rattle.mal_parser.proofs.Common.{◌≡◌, ℕ, zero, suc, Bool, true, false, List, [], ◌∷◌, Option, Some, None, refl, sym, ap, ◌∙◌, cond, find, slice_get}
use Rattle.mal_parser.proofs.Common.{option_map, bytes_eq, Fix}
use Rattle.mal_parser.specs.Prelude.{fixed_label, AreDistinct, fix_labels, IsFixedBy, address_at, fixed_of}
use Rattle.mal_parser.proofs.Resolved.{one_place, same_text, text_same}

module _ (label : List ℕ) where
  later : (f : Fix) (fs : List Fix) (o : Option ℕ) → bytes_eq f.label label ≡ false → IsFixedBy fs (Some label) o → IsFixedBy (f ∷ fs) (Some label) o
  later f fs (Some a) h (i, g, at, own, is) = (suc i, g, at, own, is)
  later f fs None h none = go
    where
      go : (i : ℕ) (g : Fix) → slice_get (f ∷ fs) i ≡ Some g → Some label ≡ Some g.label → ⊥
      go zero g at own =
          let e : f ≡ g = cc in
          let l : f.label ≡ label = ap (λ (x : Fix). x.label) e ∙ cc in
          let z : bytes_eq f.label label ≡ true = ap (bytes_eq f.label) (sym l) ∙ text_same f.label in
          cc
      go (suc i) g at own = none i g at own

  address_is : (fs : List Fix) → IsFixedBy fs (Some label) (address_at fs label)
  address_is [] = λ i g at own. cc
  address_is (f ∷ fs) = go (bytes_eq f.label label) refl (address_is fs)
    where
      go : (b : Bool) → bytes_eq f.label label ≡ b → IsFixedBy fs (Some label) (address_at fs label)
          → IsFixedBy (f ∷ fs) (Some label) (option_map (λ (f : Fix). f.address) (cond b (Some f) (find (λ f. bytes_eq f.label label) fs)))
      go true e rec = (0, f, refl, ap Some (sym (same_text f.label label e)), refl)
      go false e rec = later f fs (address_at fs label) e rec

pub fixed_is : (fs : List Fix) (o : Option (List ℕ)) → IsFixedBy fs o (fixed_of fs o)
fixed_is fs None = λ i g at own. cc
fixed_is fs (Some label) = address_is label fs

-- ---- there is at most one

one_address : (fs : List Fix) (o : Option (List ℕ)) (a b : Option ℕ) → AreDistinct (fix_labels fs) → IsFixedBy fs o a → IsFixedBy fs o b → a ≡ b
one_address fs o (Some a) (Some b) d (i, f, at, own, is) (j, g, bt, bown, bis) =
    let k : i ≡ j = one_place fixed_label fs i j f g f.label d at refl bt (sym bown ∙ own) in
    let e : f ≡ g = cc in
    ap Some (sym is ∙ (ap (λ (x : Fix). x.address) e ∙ bis))
one_address fs o (Some a) None d (i, f, at, own, is) none = absurd (none i f at own)
one_address fs o None (Some b) d none (i, f, at, own, is) = absurd (none i f at own)
one_address fs o None None d none other = refl

pub fixed_there : (fs : List Fix) (o : Option (List ℕ)) (a : Option ℕ) → AreDistinct (fix_labels fs) → IsFixedBy fs o a → a ≡ fixed_of fs o
fixed_there fs o a d h = one_address fs o a (fixed_of fs o) d h (fixed_is fs o)
