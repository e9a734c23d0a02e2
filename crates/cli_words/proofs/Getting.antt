-- What the getters of a parse's matches give, by the entries of the words.
use Rattle.cli_words.proofs.Common.{◌≡◌, ◌∙◌, sym, ap, refl, Bool, true, false, List, [], ◌∷◌, ◌++◌, Option, Some, None, ◌||◌, codes, unwrap_or, bytes_eq}
use Rattle.cli_words.proofs.Common.{first_value, found_of, ArgMatches}
use Rattle.clap.proofs.WalkLemmas.{first_value-rows}
use Rattle.clap.specs.Walk.{Row, first_of, has_row, rows_of}
use Rattle.cli_words.specs.Prelude.{Entry, Form, Text, has, is_in, text_in, HoldsGiven}
use Rattle.cli_words.proofs.Rules.{own_text, same_text}
use Rattle.cli_words.proofs.Adding.{has_rows, rows}
use Rattle.cli_words.proofs.Ends.{default_row, flagged}

first_rows : (n : Text) (g : List Entry) → first_of n (rows g) ≡ text_in n g
first_rows n [] = refl
first_rows n (e ∷ g) = go (bytes_eq e.0 n) refl (first_rows n g)
  where
    go : (b : Bool) → bytes_eq e.0 n ≡ b → first_of n (rows g) ≡ text_in n g → first_of n (rows (e ∷ g)) ≡ text_in n (e ∷ g)
    go true t h = rw t refl
    go false t h = rw t h

-- a row of another name changes nothing
other_row : (n m : Text) (r : List Row) → bytes_eq m n ≡ false → first_of n (r ++ default_row m ∷ []) ≡ first_of n r
other_row n m [] ne = rw ne refl
other_row n m (x ∷ r) ne = go (bytes_eq x.id n) refl (other_row n m r ne)
  where
    go : (b : Bool) → bytes_eq x.id n ≡ b → first_of n (r ++ default_row m ∷ []) ≡ first_of n r → first_of n ((x ∷ r) ++ default_row m ∷ []) ≡ first_of n (x ∷ r)
    go true e h = rw e refl
    go false e h = rw e h

first_other : (n : Text) (r : List Row) (fs : List Text) → is_in n fs ≡ false → first_of n (flagged r fs) ≡ first_of n r
first_other n r [] h = refl
first_other n r (m ∷ fs) h = go (bytes_eq m n) refl (has_row m r) refl (λ q k. first_other n q fs k)
  where
    go : (b : Bool) → bytes_eq m n ≡ b → (d : Bool) → has_row m r ≡ d → ((q : List Row) → is_in n fs ≡ false → first_of n (flagged q fs) ≡ first_of n q)
        → first_of n (flagged r (m ∷ fs)) ≡ first_of n r
    go true e d t rec = let bad : true ≡ false = rw e at h in cc
    go false e true t rec = rw t (rec r (rw e at h))
    go false e false t rec = rw t (rec (r ++ default_row m ∷ []) (rw e at h) ∙ other_row n m r e)

-- a row after one of its name changes nothing
row_after : (n m : Text) (r : List Row) → has_row n r ≡ true → first_of n (r ++ default_row m ∷ []) ≡ first_of n r
row_after n m [] h = cc
row_after n m (x ∷ r) h = go (bytes_eq x.id n) refl (row_after n m r)
  where
    go : (b : Bool) → bytes_eq x.id n ≡ b → (has_row n r ≡ true → first_of n (r ++ default_row m ∷ []) ≡ first_of n r) → first_of n ((x ∷ r) ++ default_row m ∷ []) ≡ first_of n (x ∷ r)
    go true e rec = rw e refl
    go false e rec = rw e (rec (rw e at h))

has_after : (n : Text) (x : Row) (r : List Row) → has_row n r ≡ true → has_row n (r ++ x ∷ []) ≡ true
has_after n x [] h = cc
has_after n x (y ∷ r) h = go (bytes_eq y.id n) refl (has_after n x r)
  where
    go : (b : Bool) → bytes_eq y.id n ≡ b → (has_row n r ≡ true → has_row n (r ++ x ∷ []) ≡ true) → has_row n ((y ∷ r) ++ x ∷ []) ≡ true
    go true e rec = rw e refl
    go false e rec = rw e (rec (rw e at h))

first_there : (n : Text) (r : List Row) (fs : List Text) → has_row n r ≡ true → first_of n (flagged r fs) ≡ first_of n r
first_there n r [] h = refl
first_there n r (m ∷ fs) h = go (has_row m r) refl (λ q k. first_there n q fs k)
  where
    go : (d : Bool) → has_row m r ≡ d → ((q : List Row) → has_row n q ≡ true → first_of n (flagged q fs) ≡ first_of n q) → first_of n (flagged r (m ∷ fs)) ≡ first_of n r
    go true t rec = rw t (rec r h)
    go false t rec = rw t (rec (r ++ default_row m ∷ []) (has_after n (default_row m) r h) ∙ row_after n m r h)

-- the last row of a name that no other has
last_row : (n : Text) (r : List Row) → has_row n r ≡ false → (first_of n r ≡ None) × (first_of n (r ++ default_row n ∷ []) ≡ Some (codes "false")) × (has_row n (r ++ default_row n ∷ []) ≡ true)
last_row n [] h = (refl, rw (own_text n) refl, rw (own_text n) refl)
last_row n (x ∷ r) h = go (bytes_eq x.id n) refl (last_row n r)
  where
    go : (b : Bool) → bytes_eq x.id n ≡ b
        → (has_row n r ≡ false → (first_of n r ≡ None) × (first_of n (r ++ default_row n ∷ []) ≡ Some (codes "false")) × (has_row n (r ++ default_row n ∷ []) ≡ true))
        → (first_of n (x ∷ r) ≡ None) × (first_of n ((x ∷ r) ++ default_row n ∷ []) ≡ Some (codes "false")) × (has_row n ((x ∷ r) ++ default_row n ∷ []) ≡ true)
    go true e rec = let bad : true ≡ false = rw e at h in cc
    go false e rec = let k = rec (rw e at h) in (rw e k.0, rw e k.1, rw e k.2)

abbrev or_false : Option Text → Option Text
or_false o = Some (unwrap_or o (codes "false"))

there_is_some : (n : Text) (g : List Entry) → has n g ≡ true → or_false (text_in n g) ≡ text_in n g
there_is_some n [] h = cc
there_is_some n (e ∷ g) h = go (bytes_eq e.0 n) refl (there_is_some n g)
  where
    go : (b : Bool) → bytes_eq e.0 n ≡ b → (has n g ≡ true → or_false (text_in n g) ≡ text_in n g) → or_false (text_in n (e ∷ g)) ≡ text_in n (e ∷ g)
    go true t rec = rw t refl
    go false t rec = rw t (rec (rw t at h))

first_flag : (n : Text) (g : List Entry) (r : List Row) (fs : List Text) → is_in n fs ≡ true → has_row n r ≡ has n g → first_of n r ≡ text_in n g
    → first_of n (flagged r fs) ≡ or_false (text_in n g)
first_flag n g r [] h has_is first_is = cc
first_flag n g r (m ∷ fs) h has_is first_is = go (has_row n r) refl (bytes_eq m n) refl (has_row m r) refl (λ q k a b. first_flag n g q fs k a b)
  where
    here : m ≡ n → has_row n r ≡ false → has_row m r ≡ false → first_of n (flagged r (m ∷ fs)) ≡ or_false (text_in n g)
    here e t u =
        let new = last_row n r t in
        rw (u, e) (first_there n (r ++ default_row n ∷ []) fs new.2 ∙ new.1 ∙ ap or_false (sym new.0 ∙ first_is))

    go : (d : Bool) → has_row n r ≡ d → (b : Bool) → bytes_eq m n ≡ b → (u : Bool) → has_row m r ≡ u
        → ((q : List Row) → is_in n fs ≡ true → has_row n q ≡ has n g → first_of n q ≡ text_in n g → first_of n (flagged q fs) ≡ or_false (text_in n g))
        → first_of n (flagged r (m ∷ fs)) ≡ or_false (text_in n g)
    go true t b e u w rec = first_there n r (m ∷ fs) t ∙ first_is ∙ sym (there_is_some n g (sym has_is ∙ t))
    go false t true e true w rec = let bad : true ≡ false = sym w ∙ ap (λ z. has_row z r) (same_text m n e) ∙ t in cc
    go false t true e false w rec = here (same_text m n e) t w
    go false t false e true w rec = rw w (rec r (rw e at h) has_is first_is)
    go false t false e false w rec =
        rw w (rec (r ++ default_row m ∷ []) (rw e at h) (other_has r ∙ has_is) (other_row n m r e ∙ first_is))
      where
        other_has : (q : List Row) → has_row n (q ++ default_row m ∷ []) ≡ has_row n q
        other_has [] = rw e refl
        other_has (x ∷ q) = ap (λ k. bytes_eq x.id n || k) (other_has q)

pub holds : (f : Form) (g : List Entry) (m : ArgMatches) → rows_of (found_of m) ≡ flagged (rows g) f.flags → HoldsGiven f g m
holds f g m is_found = record {
  texts = λ n h. first n ∙ first_other n (rows g) f.flags h ∙ first_rows n g;
  flags = λ n h. first n ∙ first_flag n g (rows g) f.flags h (has_rows n g) (first_rows n g);
}
  where
    first : (n : Text) → first_value (found_of m) n ≡ first_of n (flagged (rows g) f.flags)
    first n = first_value-rows (found_of m) n ∙ ap (first_of n) is_found
