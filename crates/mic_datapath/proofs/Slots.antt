-- Two slots, and the places from a third destination on, hold the destinations of a word.
use Rattle.mic_datapath.proofs.Common.{◌≡◌, ◌≢◌, ◌⊎◌, ℕ, ◌<◌, ◌≤◌, Bool, true, false, if◌then◌else◌, List, length, slice_index, slice_set, inl, inr, refl}
use Rattle.mic_datapath.proofs.Common.{subst, sym, ap, ◌∙◌, arith, get_or-set_same, get_or-set_other, length-set, cases_eq, cases_lt, AreSlots, IsSlot, names}

slot_within : (c place : ℕ) → IsSlot c place → place < 16
slot_within c place slot = elim (cases_eq place 15) [ inl is ↦ omega (arith, is) | inr other ↦ omega (arith, (slot other).0) ]

-- a place below 9 that the field does not name is no slot
not_slot : (c place k : ℕ) → IsSlot c place → k < 9 → names c k ≡ false → k ≢ place
not_slot c place k slot h not_named same =
    let other : place ≢ 15 = omega (arith, same, h) in
    let is : names c k ≡ true = subst (λ (p : ℕ). names c p ≡ true) (sym same) (slot other).1 in
    let no : true ≡ false = sym is ∙ not_named in absurd (cc)

-- a place from 9 on is no slot, except the last
after_slot : (c place k : ℕ) → IsSlot c place → 9 ≤ k → k < 15 → k ≢ place
after_slot c place k slot low high same =
    let other : place ≢ 15 = omega (arith, same, high) in
    let no : ⊥ = omega (arith, (slot other).0, same, low) in no

abbrev pub both_slots : List ℕ → ℕ → ℕ → ℕ → List ℕ
both_slots old first second v = slice_set (slice_set old first v) second v

module _ (c first second further v : ℕ) (old : List ℕ) (slots : AreSlots c first second further) (long : length old ≡ 16) where
  at_slot : (k : ℕ) → (k ≡ first) ⊎ (k ≡ second) → slice_index (both_slots old first second v) k ≡ v
  at_slot k is =
      elim (cases_eq k second) [
        | inl same ↦
            subst (λ (x : ℕ). slice_index (both_slots old first second v) x ≡ v) (sym same)
            (get_or-set_same (slice_set old first v) second v 0 (rw (length-set old first v, long) (slot_within c second slots.second_slot)))
        | inr other ↦
            get_or-set_other (slice_set old first v) second k v 0 other
            ∙ elim is [
              | inl same ↦
                  subst (λ (x : ℕ). slice_index (slice_set old first v) x ≡ v) (sym same)
                  (get_or-set_same old first v 0 (rw long (slot_within c first slots.first_slot)))
              | inr same ↦ absurd (other same)
            ]
      ]

  at_other : (k : ℕ) → k ≢ first → k ≢ second → slice_index (both_slots old first second v) k ≡ slice_index old k
  at_other k f s = get_or-set_other (slice_set old first v) second k v 0 s ∙ get_or-set_other old first k v 0 f

  module _ (new : List ℕ)
      (later : (k : ℕ) → further ≤ k → k < 9 → slice_index new k ≡ (if names c k then v else slice_index (both_slots old first second v) k))
      (before : (k : ℕ) → k < further → slice_index new k ≡ slice_index (both_slots old first second v) k) where
    -- each register that the field names has the value, and each other stays
    pub all_loaded : (k : ℕ) → k < 9 → slice_index new k ≡ (if names c k then v else slice_index old k)
    all_loaded k h = by_name (names c k) refl
      where
        named : names c k ≡ true → (k ≡ first) ⊎ (k ≡ second) → slice_index new k ≡ v
        named is slot =
            elim (cases_lt k further) [
              | inl lower ↦ before k lower ∙ at_slot k slot
              | inr higher ↦ later k higher h ∙ ap (λ (b : Bool). if b then v else slice_index (both_slots old first second v) k) is
            ]

        by_name : (b : Bool) → names c k ≡ b → slice_index new k ≡ (if b then v else slice_index old k)
        by_name true is =
            elim (cases_eq k first) [
              | inl first_is ↦ named is (inl first_is)
              | inr not_first ↦
                  elim (cases_eq k second) [
                    | inl second_is ↦ named is (inr second_is)
                    | inr not_second ↦
                        later k (slots.others k h is not_first not_second) h ∙ ap (λ (b : Bool). if b then v else slice_index (both_slots old first second v) k) is
                  ]
            ]
        by_name false is =
            let other = at_other k (not_slot c first k slots.first_slot h is) (not_slot c second k slots.second_slot h is) in
            elim (cases_lt k further) [
              | inl lower ↦ before k lower ∙ other
              | inr higher ↦ later k higher h ∙ ap (λ (b : Bool). if b then v else slice_index (both_slots old first second v) k) is ∙ other
            ]

  -- the places after the registers stay, except the last
  pub after_stay : (k : ℕ) → 9 ≤ k → k < 15 → slice_index (both_slots old first second v) k ≡ slice_index old k
  after_stay k low high = at_other k (after_slot c first k slots.first_slot low high) (after_slot c second k slots.second_slot low high)
