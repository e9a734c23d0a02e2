-- The counts of a cache are those of the blocks that were asked for. For `counts_are_those_of_the_accesses`.
use Rattle.std.proofs.Common.{◌≡◌, ◌∙◌, sym, ap, subst, refl, ℕ, ◌+◌, ◌%◌, ◌<◌, Bool, true, false, if◌then◌else◌, List, [], ◌∷◌, length, arith, inl, inr, Option, Some, None, get_or, eq-eqb, ne_eqb}
use Rattle.std.proofs.lemmas.Grind.{common_steps}
use Rattle.std.proofs.lemmas.Bool.{cases_eq}
use Rattle.std.proofs.lemmas.List.{get_or-set_same, get_or-set_other, length-set, get_or-replicate}
use Rattle.std.proofs.Math.ListN.{set}
use Rattle.mem_cache.specs.Prelude.{Access, asks_for, with_block, blocks_of, is_block, last_on, is_hit, hits_after, misses_after, Tally, has_block, after_hit, after_miss, after_asking, empty_tally, CacheView, AllLead, answered}

-- an entry that `is_block` accepts holds this block
is_block_then : (o : Option ℕ) (block : ℕ) → is_block block o ≡ true → o ≡ Some block
is_block_then None block e = cc
is_block_then (Some x) block e =
    elim (cases_eq x block) [
      | inl same ↦ ap (λ (y : ℕ). Some y) same
      | inr other ↦ absurd (true_is_not_false (sym e ∙ ne_eqb x block other))
    ]
  where
    true_is_not_false : true ≡ false → ⊥
    true_is_not_false f = cc

module _ (lines : ℕ) (some : 0 < lines) where
  -- each line holds the last block of it that was asked for
  record IsAfter (earlier : List ℕ) (held : List (Option ℕ)) : Type 0 where
    pub size : length held ≡ lines
    pub each : (i : ℕ) → i < lines → get_or held i None ≡ last_on lines i earlier

  -- a line after a block was asked for
  line_then : (earlier : List ℕ) (block i : ℕ) (held held' : List (Option ℕ)) → IsAfter earlier held → i < lines →
      (block % lines ≡ i → get_or held' i None ≡ Some block) → ((block % lines ≡ i → ⊥) → get_or held' i None ≡ get_or held i None) →
      get_or held' i None ≡ last_on lines i (block ∷ earlier)
  line_then earlier block i held held' a l same other =
      elim (cases_eq (block % lines) i) [
        | inl e ↦ rw (eq-eqb (block % lines) i e) (same e)
        | inr e ↦ rw (ne_eqb (block % lines) i e) (other e ∙ a.each i l)
      ]

  -- the counts after the blocks; the lines are again those after the blocks
  record Tells (earlier blocks : List ℕ) (o : Option ℕ) (t t' : Tally) : Type 0 where
    pub next : List ℕ
    pub after : IsAfter next t'.held
    pub hits : t'.counts.hits + hits_after lines next blocks ≡ t.counts.hits + hits_after lines earlier (with_block o blocks)
    pub misses : t'.counts.misses + misses_after lines next blocks ≡ t.counts.misses + misses_after lines earlier (with_block o blocks)

  module _ (earlier blocks : List ℕ) (block : ℕ) (t : Tally) (a : IsAfter earlier t.held) where
    line_is : block % length t.held ≡ block % lines
    line_is = ap (λ (n : ℕ). block % n) a.size

    inside : block % lines < lines
    inside = grind (arith, common_steps)

    there : get_or t.held (block % length t.held) None ≡ last_on lines (block % lines) earlier
    there = ap (λ (i : ℕ). get_or t.held i None) line_is ∙ a.each (block % lines) inside

    hit_is : is_hit lines earlier block ≡ has_block t.held block
    hit_is = sym (ap (λ (o : Option ℕ). is_block block o) there)

    asked : (hit : Bool) → is_hit lines earlier block ≡ hit → Tells earlier blocks (Some block) t (if hit then after_hit t else after_miss block t)
    asked true e =
        let is : last_on lines (block % lines) earlier ≡ Some block = is_block_then (last_on lines (block % lines) earlier) block e in
        record {
          next = block ∷ earlier;
          after = record {
            size = a.size;
            each = λ i l. line_then earlier block i t.held t.held a l
                (λ s. ap (λ (k : ℕ). get_or t.held k None) (sym s) ∙ (a.each (block % lines) inside ∙ is))
                (λ o. refl);
          };
          hits = rw (e) (omega arith);
          misses = rw (e) (omega arith);
        }
    asked false e =
        let within : block % length t.held < length t.held = rw (a.size) inside in
        record {
          next = block ∷ earlier;
          after = record {
            size = length-set t.held (block % length t.held) (Some block) ∙ a.size;
            each = λ i l. line_then earlier block i t.held (set t.held (block % length t.held) (Some block)) a l
                (λ s. ap (λ (k : ℕ). get_or (set t.held (block % length t.held) (Some block)) k None) (sym s ∙ sym line_is)
                ∙ get_or-set_same t.held (block % length t.held) (Some block) None within)
                (λ o. get_or-set_other t.held (block % length t.held) i (Some block) None (λ k. o (sym line_is ∙ sym k)));
          };
          hits = rw (e) (omega arith);
          misses = rw (e) (omega arith);
        }

    tells_block : Tells earlier blocks (Some block) t (after_asking (Some block) t)
    tells_block = asked (has_block t.held block) hit_is

  tells_one : (earlier blocks : List ℕ) (o : Option ℕ) (t : Tally) → IsAfter earlier t.held → Tells earlier blocks o t (after_asking o t)
  tells_one earlier blocks None t a = record { next = earlier; after = a; hits = refl; misses = refl }
  tells_one earlier blocks (Some block) t a = tells_block earlier blocks block t a

  tells_all : (size : ℕ) (calls : List (Option Access)) (earlier : List ℕ) (v w : CacheView) → size ≡ length v.bus.words → IsAfter earlier v.tally.held →
      AllLead calls v w →
      (w.tally.counts.hits ≡ v.tally.counts.hits + hits_after lines earlier (blocks_of size (answered calls)))
      × (w.tally.counts.misses ≡ v.tally.counts.misses + misses_after lines earlier (blocks_of size (answered calls)))
  tells_all size [] earlier v w s a c =
      let h : w.tally.counts.hits ≡ v.tally.counts.hits = ap (λ (x : CacheView). x.tally.counts.hits) c in
      let m : w.tally.counts.misses ≡ v.tally.counts.misses = ap (λ (x : CacheView). x.tally.counts.misses) c in
      (omega arith, omega arith)
  tells_all size (None ∷ calls) earlier v w s a c =
      let mid : CacheView = c.0 in
      let same : mid.tally ≡ v.tally = c.1.1 in
      let r = tells_all size calls earlier mid w (s ∙ sym c.1.0) (subst (λ (t : Tally). IsAfter earlier t.held) (sym same) a) c.2 in (
        r.0 ∙ ap (λ (t : Tally). t.counts.hits + hits_after lines earlier (blocks_of size (answered calls))) same,
        r.1 ∙ ap (λ (t : Tally). t.counts.misses + misses_after lines earlier (blocks_of size (answered calls))) same,
      )
  tells_all size (Some x ∷ calls) earlier v w s a c =
      let mid : CacheView = c.0 in
      let blocks : List ℕ = blocks_of size (answered calls) in
      let is : mid.tally ≡ after_asking (asks_for size x) v.tally = c.1.1 ∙ ap (λ (n : ℕ). after_asking (asks_for n x) v.tally) (sym s) in
      let t : Tells earlier blocks (asks_for size x) v.tally mid.tally =
      subst (λ (t' : Tally). Tells earlier blocks (asks_for size x) v.tally t') (sym is) (tells_one earlier blocks (asks_for size x) v.tally a) in
      let r = tells_all size calls t.next mid w (s ∙ sym c.1.0) t.after c.2 in
      (r.0 ∙ t.hits, r.1 ∙ t.misses)

  pub tells : (calls : List (Option Access)) (first last : CacheView) → first.tally ≡ empty_tally lines → AllLead calls first last →
      (last.tally.counts.hits ≡ hits_after lines [] (blocks_of (length first.bus.words) (answered calls)))
      × (last.tally.counts.misses ≡ misses_after lines [] (blocks_of (length first.bus.words) (answered calls)))
  tells calls first last e c =
      let a : IsAfter [] first.tally.held = record {
        size = ap (λ (t : Tally). length t.held) e ∙ grind (arith, common_steps);
        each = λ i l. ap (λ (t : Tally). get_or t.held i None) e ∙ get_or-replicate lines i None None l;
      } in
      let r = tells_all (length first.bus.words) calls [] first last refl a c in
      let h : first.tally.counts.hits ≡ 0 = ap (λ (t : Tally). t.counts.hits) e in
      let m : first.tally.counts.misses ≡ 0 = ap (λ (t : Tally). t.counts.misses) e in
      (omega (arith, r.0), omega (arith, r.1))
