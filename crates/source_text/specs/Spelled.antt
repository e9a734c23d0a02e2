-- Lemmas on how tokens are spelled: what the bytes of a name are, and where the token of a text comes from.
use Rattle.std.proofs.Common.{◌≡◌, ℕ, Bool, true, false, inl, inr, List, [], ◌∷◌, Option, Some, None, length, refl, ◌∙◌, subst}
use Rattle.std.specs.Prelude.{◌⊎◌, not, ◌==◌, ◌&&◌, nat_le}
use Rattle.std.specs.List.{list_all}
use Rattle.std.proofs.lemmas.Bool.{and_parts, eqb-true, not-true}
use Rattle.mic_base.specs.Prelude.{begins_digit, is_name, is_name_byte}
use Rattle.source_text.specs.Runs.{begins_with}
use Rattle.source_text.specs.Options.{chosen}
use Rattle.source_text.specs.Table.{Table, begins_number, sign_or_name, token_of}
use Rattle.source_text.specs.Tokens.{is_blank}

-- what a name is
pub record IsNamed (text : List ℕ) : Type 0 where
  pub starts : begins_with is_name_byte text ≡ true
  pub no_digit : begins_digit text ≡ false
  pub short : nat_le (length text) 64 ≡ true
  pub all : list_all is_name_byte text ≡ true

pub named : (text : List ℕ) → is_name text ≡ true → IsNamed text
named text h =
    let p = and_parts (nat_le 1 (length text)) (nat_le (length text) 64 && (list_all is_name_byte text && not (begins_digit text))) h in
    let q = and_parts (nat_le (length text) 64) (list_all is_name_byte text && not (begins_digit text)) p.1 in
    let r = and_parts (list_all is_name_byte text) (not (begins_digit text)) q.1 in
    record { starts = first text p.0 r.0; no_digit = not-true (begins_digit text) r.1; short = q.0; all = r.0 }
  where
    first : (text : List ℕ) → nat_le 1 (length text) ≡ true → list_all is_name_byte text ≡ true → begins_with is_name_byte text ≡ true
    first [] some all = absurd (cc)
    first (b ∷ rest) some all = (and_parts (is_name_byte b) (list_all is_name_byte rest) all).0

-- a byte of a name is none of these
pub not_of_name : (b c : ℕ) → is_name_byte b ≡ true → is_name_byte c ≡ false → (b == c) ≡ false
not_of_name b c h n = go (b == c) refl
  where
    go : (x : Bool) → (b == c) ≡ x → x ≡ false
    go true e = absurd (let k : is_name_byte c ≡ true = subst (λ z. is_name_byte z ≡ true) (eqb-true b c e) h in cc)
    go false e = refl

pub name_dark : (b : ℕ) → is_name_byte b ≡ true → is_blank b ≡ false
name_dark b h = rw (not_of_name b 32 h refl, not_of_name b 9 h refl) refl

module _ {T : Type 0} (L : Table T) where
  -- what the token of a text comes from
  pub record ByNumber (text : List ℕ) (t : T) : Type 0 where
    pub begins : begins_number L text ≡ true
    pub is : L.number text ≡ Some t

  pub record ByName (text : List ℕ) (t : T) : Type 0 where
    pub free : L.sign text ≡ None
    pub is_name : is_name text ≡ true
    pub is : L.name text ≡ t

  abbrev pub ByTable : List ℕ → T → Type 0
  ByTable text t = ByNumber text t ⊎ ((L.sign text ≡ Some t) ⊎ (ByName text t ⊎ (L.other ≡ Some t)))

  pub by_table : (text : List ℕ) (t : T) → token_of L text ≡ Some t → ByTable text t
  by_table text t h = elim (chosen (begins_number L text) (L.number text) (sign_or_name L text (L.sign text)) (Some t) h) [
    | inl w ↦ inl (record { begins = w.0; is = w.1 })
    | inr w ↦ inr (go (L.sign text) refl w.1)
  ]
    where
      go : (o : Option T) → L.sign text ≡ o → sign_or_name L text o ≡ Some t → (L.sign text ≡ Some t) ⊎ (ByName text t ⊎ (L.other ≡ Some t))
      go (Some u) e k = inl (e ∙ k)
      go None e k = elim (chosen (is_name text) (Some (L.name text)) L.other (Some t) k) [
        | inl w ↦ inr (inl (record { free = e; is_name = w.0; is = let z = w.1 in cc }))
        | inr w ↦ inr (inr w.1)
      ]
