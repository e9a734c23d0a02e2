-- One use of an argument, beside one more entry.
use Rattle.cli_words.proofs.Common.{◌≡◌, ℕ, suc, ◌∙◌, ap, refl, Bool, true, false, List, [], ◌∷◌, ◌++◌, map, length, Option, Some, None, inl, inr, ◌⊎◌, ◌||◌}
use Rattle.cli_words.proofs.Common.{arith, lt-ltb, nat_lt, codes, unwrap_or, option_map, bytes_eq, append-nil, Kinds, AsWritten, CommandLine, ErrorKind}
use Rattle.clap.specs.Faults.{settle_fault, use_fault}
use Rattle.clap.specs.Walk.{Held, Row, Rule, at_row, has_row, settled, used}
use Rattle.clap.specs.declared.error.kind.ErrorKind.TheVariants as kind
use Rattle.cli_words.specs.Prelude.{Entry, Text, add, has}
use Rattle.cli_words.proofs.Rules.{TakesOne, flag_rule, valued}

-- what clap holds of an entry
abbrev pub row : Entry → Row
row e = record {
  id = e.0;
  values = unwrap_or e.1 (codes "true") ∷ [];
  count = None;
  source = Some CommandLine;
  reading = AsWritten;
}

abbrev pub rows : List Entry → List Row
rows = map row

pub has_rows : (name : Text) (g : List Entry) → has_row name (rows g) ≡ has name g
has_rows name [] = refl
has_rows name (e ∷ g) = ap (λ b. bytes_eq e.0 name || b) (has_rows name g)

pub no_row : (name : Text) (change : Row → List Row) (missing rs : List Row) → has_row name rs ≡ false → at_row name change missing rs ≡ rs ++ missing
no_row name change missing [] h = refl
no_row name change missing (r ∷ rs) h = go (bytes_eq r.id name) refl h (no_row name change missing rs)
  where
    go : (b : Bool) → bytes_eq r.id name ≡ b → has_row name (r ∷ rs) ≡ false → (has_row name rs ≡ false → at_row name change missing rs ≡ rs ++ missing)
        → at_row name change missing (r ∷ rs) ≡ (r ∷ rs) ++ missing
    go true e h rec = let bad : true ≡ false = rw e at h in cc
    go false e h rec = rw e (ap (λ t. r ∷ t) (rec (rw e at h)))

abbrev pub IsFault : Kinds → Type 0
IsFault fault = (k : ErrorKind) × (ks : Kinds) × (fault ≡ k ∷ ks)

abbrev pub Next : Type 0
Next = List Entry → Option (List Entry)

-- the use passes and adds the entry's row, or fails where the entry is not added
abbrev pub Adds : Kinds → List Row → Entry → List Entry → Type 0
Adds fault after e g = ((fault ≡ []) × (after ≡ rows (g ++ e ∷ [])) × ((next : Next) → add e g next ≡ next (g ++ e ∷ [])))
    ⊎ (IsFault fault × ((next : Next) → add e g next ≡ None))

one_more : (g : List Entry) (e : Entry) → rows g ++ row e ∷ [] ≡ rows (g ++ e ∷ [])
one_more [] e = refl
one_more (x ∷ g) e = ap (λ t. row x ∷ t) (one_more g e)

used_value : (long : Option Text) (index : Option ℕ) (required : Bool) (name v : Text) (g : List Entry) → has name g ≡ false
    → used (valued long index required name) (v ∷ []) (rows g) ≡ rows (g ++ (name, Some v) ∷ [])
used_value long index required name v g h =
    let none : has_row name (rows g) ≡ false = has_rows name g ∙ h in
    rw (no_row name _ [] (rows g) none, append-nil (rows g), no_row name _ _ (rows g) none) (one_more g (name, Some v))

used_flag : (name : Text) (g : List Entry) → has name g ≡ false → used (flag_rule name) [] (rows g) ≡ rows (g ++ (name, None) ∷ [])
used_flag name g h =
    let none : has_row name (rows g) ≡ false = has_rows name g ∙ h in
    rw (no_row name _ [] (rows g) none, append-nil (rows g), no_row name _ _ (rows g) none) (one_more g (name, None))

pub value_adds : (long : Option Text) (index : Option ℕ) (required : Bool) (name v : Text) (g : List Entry)
    → Adds (use_fault false (valued long index required name) (v ∷ []) (rows g)) (used (valued long index required name) (v ∷ []) (rows g)) (name, Some v) g
value_adds long index required name v g = go (has name g) refl v
  where
    go : (b : Bool) → has name g ≡ b → (v : Text)
        → Adds (use_fault false (valued long index required name) (v ∷ []) (rows g)) (used (valued long index required name) (v ∷ []) (rows g)) (name, Some v) g
    go true e v = inr ((kind.ArgumentConflict, [], rw (has_rows name g, e) refl), λ next. rw e refl)
    go false e [] = inr ((kind.InvalidValue, [], rw (has_rows name g, e) refl), λ next. rw e refl)
    go false e (y ∷ ys) =
        let some : nat_lt 0 (suc (length ys)) ≡ true = lt-ltb 0 (suc (length ys)) (omega arith) in
        inl (rw (has_rows name g, e, some) refl, used_value long index required name (y ∷ ys) g e, λ next. rw e refl)

pub flag_adds : (name : Text) (g : List Entry) → Adds (use_fault false (flag_rule name) [] (rows g)) (used (flag_rule name) [] (rows g)) (name, None) g
flag_adds name g = go (has name g) refl
  where
    go : (b : Bool) → has name g ≡ b → Adds (use_fault false (flag_rule name) [] (rows g)) (used (flag_rule name) [] (rows g)) (name, None) g
    go true e = inr ((kind.ArgumentConflict, [], rw (has_rows name g, e) refl), λ next. rw e refl)
    go false e = inl (rw (has_rows name g, e) refl, used_flag name g e, λ next. rw e refl)

-- ---- what is pending

-- the value that clap holds back, as its name and its text
abbrev pub Pending : Type 0
Pending = Option (Text × Text)

abbrev pub held : List Entry → Pending → Held
held g p = record { rows = rows g; pending = option_map (λ q. (q.0, q.1 ∷ [])) p; skip = 0 }

abbrev pub IsPending : List Rule → Pending → Type 0
IsPending c None = Unit {0}
IsPending c (Some q) = TakesOne c q.0

abbrev pub add_pending : Pending → List Entry → Next → Option (List Entry)
add_pending None g next = next g
add_pending (Some q) g next = add (q.0, Some q.1) g next

-- what is pending is used and adds its entry, or fails where the entry is not added
abbrev pub Settles : List Rule → Pending → List Entry → Type 0
Settles c p g = ((settle_fault c false (held g p) ≡ []) × (g2 : List Entry) × (settled c (held g p) ≡ held g2 None) × ((next : Next) → add_pending p g next ≡ next g2))
    ⊎ (IsFault (settle_fault c false (held g p)) × ((next : Next) → add_pending p g next ≡ None))

pub settles : (c : List Rule) (p : Pending) (g : List Entry) → IsPending c p → Settles c p g
settles c None g h = inl (refl, g, refl, λ next. refl)
settles c (Some q) g h = elim (value_adds h.long h.index h.required q.0 q.1 g) [
  | inl a ↦ inl (rw h.found a.0, g ++ (q.0, Some q.1) ∷ [], rw h.found (ap (λ (r : List Row). let h2 : Held = record { rows = r; pending = None; skip = 0 } in h2) a.1), a.2)
  | inr b ↦ inr ((b.0.0, b.0.1, rw h.found b.0.2), b.1)
]
