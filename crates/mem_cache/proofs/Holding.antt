-- The lines of a cache, when a block is put into one and when a word of memory changes.
use Rattle.std.proofs.Common.{◌≡◌, ◌∙◌, sym, ap, subst, refl, ◌⊎◌, inl, inr, ℕ, zero, suc, ◌+◌, ◌*◌, ◌/◌, ◌%◌, ◌<◌, ◌≤◌, List, ◌∷◌, length, map, replicate, arith, Option, Some, None, Bool, true, false, if◌then◌else◌, get_or, slice_get, slice_index, eq-eqb, lt-ltb}
use Rattle.std.proofs.lemmas.Bool.{cases_eq}
use Rattle.std.proofs.lemmas.List.{get_or-set_same, get_or-set_other, length-set, map-set, length-map, get_or-map, length-replicate}
use Rattle.std.proofs.lemmas.Option.{slice_get_within, get_or_from_slice_get, slice_get-get_or, same_Some}
use Rattle.std.proofs.Math.ListN.{set}
use Rattle.std.proofs.Math.Seq.{map-set_same}
use Rattle.mem_cache.specs.declared.lines.CacheLine.{CacheLine}
use Rattle.mem_cache.specs.declared.counts.CacheCounts.{CacheCounts}
use Rattle.mem_cache.specs.Prelude.{is_block, Read, Tally, has_block, after_hit, after_miss, after_asking, counted, AreLines, HasWords, block_in}

true_not_false : true ≡ false → ⊥
true_not_false e = cc

-- a place of lines of which one was set
got : (lines : List (Option CacheLine)) (i j : ℕ) (v : Option CacheLine) (l : CacheLine) → slice_get (set lines i v) j ≡ Some (Some l) →
    ((j ≡ i) × (v ≡ Some l)) ⊎ ((j ≡ i → ⊥) × (slice_get lines j ≡ Some (Some l)))
got lines i j v l e =
    let within : j < length (set lines i v) = slice_get_within (set lines i v) j (Some l) e in
    let n : length (set lines i v) ≡ length lines = length-set lines i v in
    let inside : j < length lines = omega arith in
    let is : get_or (set lines i v) j None ≡ Some l = get_or_from_slice_get (set lines i v) j (Some l) None e in
    elim (cases_eq j i) [
      | inl same ↦ inl (same, sym (get_or-set_same lines i v None (subst (λ (k : ℕ). k < length lines) same inside)) ∙ (ap (λ (k : ℕ). get_or (set lines i v) k None) (sym same) ∙ is))
      | inr other ↦ inr (other, slice_get-get_or lines j None inside ∙ ap (λ (o : Option CacheLine). Some o) (sym (get_or-set_other lines i j v None other) ∙ is))
    ]

module _ (words : List ℕ) (lines : List (Option CacheLine)) (are : AreLines words lines) where
  -- a block is put into its line, with its words
  pub held_after : (line : CacheLine) → HasWords words (Some line) → AreLines words (set lines (line.block % length lines) (Some line))
  held_after line h =
      let i = line.block % length lines in
      let n : length (set lines (line.block % length lines) (Some line)) ≡ length lines = length-set lines (line.block % length lines) (Some line) in
      record {
        whole = are.whole;
        some = omega (arith, n, are.some);
        few = omega (arith, n, are.few);
        hold = λ j l e. elim (got lines (line.block % length lines) j (Some line) l e) [
          | inl p ↦ subst (λ (o : Option CacheLine). HasWords words o) p.1 h
          | inr q ↦ are.hold j l q.1
        ];
        place = λ j l e. elim (got lines (line.block % length lines) j (Some line) l e) [
          | inl p ↦ rw (n) (ap (λ (x : CacheLine). x.block % length lines) (sym (same_Some line l p.1)) ∙ sym p.0)
          | inr q ↦ rw (n) (are.place j l q.1)
        ];
      }

  -- a changed word is in no other block
  other_words : (at value : ℕ) (l : CacheLine) → (l.block ≡ at / 4 → ⊥) → HasWords words (Some l) → HasWords (set words at value) (Some l)
  other_words at value l n h = (
    omega (arith, h.0, length-set words at value),
    h.1,
    λ k s. h.2 k s ∙ sym (get_or-set_other words at (4 * l.block + k) value 0 (λ e. n (omega (arith, e, s)))),
  )

  -- `has_block` finds a block that a line holds
  has_held : (block j : ℕ) (l : CacheLine) → slice_get lines j ≡ Some (Some l) → l.block ≡ block → has_block (map block_in lines) block ≡ true
  has_held block j l e b =
      let n : length (map block_in lines) ≡ length lines = length-map lines block_in in
      let place : block % length (map block_in lines) ≡ j = rw (n, ← b) (are.place j l e) in
      let is : get_or lines j None ≡ Some l = get_or_from_slice_get lines j (Some l) None e in
      let there : get_or (map block_in lines) (block % length (map block_in lines)) None ≡ Some block =
      ap (λ (k : ℕ). get_or (map block_in lines) k None) place
      ∙ (get_or-map block_in lines j None None (slice_get_within lines j (Some l) e) ∙ (ap block_in is ∙ ap (λ (x : ℕ). Some x) b)) in
      ap (λ (o : Option ℕ). is_block block o) there ∙ eq-eqb block block refl

  -- where no line holds the block of a changed word
  pub changed_none : (at value : ℕ) → has_block (map block_in lines) (at / 4) ≡ false → AreLines (set words at value) lines
  changed_none at value none =
      let n : length (set words at value) ≡ length words = length-set words at value in
      record {
        whole = rw (n) are.whole;
        some = are.some;
        few = are.few;
        hold = λ j l e. other_words at value l (λ b. true_not_false (sym (has_held (at / 4) j l e b) ∙ none)) (are.hold j l e);
        place = are.place;
      }

  -- a line that holds a changed word takes it over
  own_word : (at value : ℕ) (line : CacheLine) (ws : List ℕ) → at < length words → line.block ≡ at / 4 → HasWords words (Some line) →
      ws ≡ set line.words (at % 4) value → (k : ℕ) → k < 4 → slice_index ws k ≡ slice_index (set words at value) (4 * line.block + k)
  own_word at value line ws inside b h e k s =
      elim (cases_eq k (at % 4)) [
        | inl same ↦
            let place : 4 * line.block + k ≡ at = omega arith in
            let w : at % 4 < length line.words = omega (arith, h.1) in
            ap (λ (xs : List ℕ). slice_index xs k) e ∙ (ap (λ (n : ℕ). slice_index (set line.words (at % 4) value) n) same ∙ (get_or-set_same line.words (at % 4) value 0 w
            ∙ (sym (get_or-set_same words at value 0 inside) ∙ ap (λ (n : ℕ). slice_index (set words at value) n) (sym place))))
        | inr other ↦
            let apart : 4 * line.block + k ≡ at → ⊥ = λ p. other (omega arith) in
            ap (λ (xs : List ℕ). slice_index xs k) e ∙ (get_or-set_other line.words (at % 4) k value 0 other
            ∙ (h.2 k s ∙ sym (get_or-set_other words at (4 * line.block + k) value 0 apart)))
      ]

  -- where a line holds the block of a changed word
  pub changed_some : (at value : ℕ) (line : CacheLine) (ws : List ℕ) → line.block ≡ at / 4 → slice_get lines (at / 4 % length lines) ≡ Some (Some line) →
      ws ≡ set line.words (at % 4) value → AreLines (set words at value) (set lines (line.block % length lines) (Some (record { block = line.block; words = ws })))
  changed_some at value line ws b e is =
      let line' : CacheLine = record { block = line.block; words = ws } in
      let i : ℕ = line.block % length lines in
      let w : length (set words at value) ≡ length words = length-set words at value in
      let n : length (set lines (line.block % length lines) (Some line')) ≡ length lines = length-set lines (line.block % length lines) (Some line') in
      let h = are.hold (at / 4 % length lines) line e in
      let inside : at < length words = omega (arith, h.0) in
      let own : HasWords (set words at value) (Some line') =
      (omega (arith, h.0, w), ap (λ (xs : List ℕ). length xs) is ∙ (length-set line.words (at % 4) value ∙ h.1), own_word at value line ws inside b h is) in
      record {
        whole = rw (w) are.whole;
        some = omega (arith, n, are.some);
        few = omega (arith, n, are.few);
        hold = λ j l g. elim (got lines (line.block % length lines) j (Some line') l g) [
          | inl p ↦ subst (λ (o : Option CacheLine). HasWords (set words at value) o) p.1 own
          | inr q ↦ other_words at value l (λ c. q.0 (sym (are.place j l q.1) ∙ ap (λ (x : ℕ). x % length lines) (c ∙ sym b))) (are.hold j l q.1)
        ];
        place = λ j l g. elim (got lines (line.block % length lines) j (Some line') l g) [
          | inl p ↦ rw (n) (ap (λ (x : CacheLine). x.block % length lines) (sym (same_Some line' l p.1)) ∙ sym p.0)
          | inr q ↦ rw (n) (are.place j l q.1)
        ];
      }

-- if one word of a block is in memory, the whole block is
pub whole_block : (words : List ℕ) (at : ℕ) → length words % 4 ≡ 0 → at < length words → 4 * (at / 4) + 3 < length words
whole_block words at w h = omega arith

-- the blocks that lines hold, after one was put into its line
pub blocks_after : (lines : List (Option CacheLine)) (line : CacheLine) →
    map block_in (set lines (line.block % length lines) (Some line))
    ≡ set (map block_in lines) (line.block % length (map block_in lines)) (Some line.block)
blocks_after lines line =
    map-set block_in lines (line.block % length lines) (Some line)
    ∙ ap (λ (k : ℕ). set (map block_in lines) (line.block % k) (Some line.block)) (sym (length-map lines block_in))

-- a load that misses
pub missed : (lines lines' : List (Option CacheLine)) (size at : ℕ) (ws : List ℕ) (counts : CacheCounts) → at < size →
    has_block (map block_in lines) (at / 4) ≡ false →
    lines' ≡ set lines (at / 4 % length lines) (Some (record { block = at / 4; words = ws })) →
    record { held = map block_in lines'; counts = record counts { misses = counts.misses + 1 } }
    ≡ counted size (Read at) (record { held = map block_in lines; counts = counts })
missed lines lines' size at ws counts inside none e =
    let old : Tally = record { held = map block_in lines; counts = counts } in
    let new : Tally = record { held = map block_in lines'; counts = record counts { misses = counts.misses + 1 } } in
    let line : CacheLine = record { block = at / 4; words = ws } in
    let miss : new ≡ after_miss (at / 4) old =
    ap (λ (held : List (Option ℕ)). record { held = held; counts = record counts { misses = counts.misses + 1 } })
    (ap (λ (ls : List (Option CacheLine)). map block_in ls) e ∙ blocks_after lines line) in
    let asked : new ≡ after_asking (Some (at / 4)) old =
    subst (λ (b : Bool). new ≡ (if b then after_hit old else after_miss (at / 4) old)) (sym none) miss in
    subst (λ (b : Bool). new ≡ after_asking (if b then Some (at / 4) else None) old) (sym (lt-ltb at size inside)) asked

-- lines that hold nothing
pub empty_blocks : (n : ℕ) → map block_in (replicate n None) ≡ replicate n None
empty_blocks zero = refl
empty_blocks (suc n) = ap (λ (xs : List (Option ℕ)). None ∷ xs) (empty_blocks n)

none_there : (n i : ℕ) (l : CacheLine) → slice_get (replicate n None) i ≡ Some (Some l) → ⊥
none_there zero i l e = cc
none_there (suc n) zero l e = cc
none_there (suc n) (suc i) l e = none_there n i l e

pub empty_lines : (words : List ℕ) (n : ℕ) → length words % 4 ≡ 0 → 0 < n → n ≤ 4096 → AreLines words (replicate n None)
empty_lines words n whole some few =
    let l : length (replicate {A = Option CacheLine} n None) ≡ n = length-replicate n None in
    record {
      whole = whole;
      some = omega arith;
      few = omega arith;
      hold = λ i l e. absurd (none_there n i l e);
      place = λ i l e. absurd (none_there n i l e);
    }

-- a line that holds a block keeps it
pub kept_blocks : (lines : List (Option CacheLine)) (i : ℕ) (line : CacheLine) (ws : List ℕ) → slice_get lines i ≡ Some (Some line) →
    map block_in (set lines i (Some (record { block = line.block; words = ws }))) ≡ map block_in lines
kept_blocks lines i line ws e =
    let is : get_or lines i None ≡ Some line = get_or_from_slice_get lines i (Some line) None e in
    map-set_same block_in lines i (Some (record { block = line.block; words = ws })) None (sym (ap block_in is))
