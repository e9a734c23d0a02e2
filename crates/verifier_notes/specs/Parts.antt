-- Code without jumps, the parts of a unit's code, and a whole unit: all instructions meet their notes, wherever the code stands.
use Rattle.std.proofs.Common.{◌≡◌, ◌≤◌, ℕ, ◌+◌, true, List, [], ◌∷◌, ◌++◌, refl, sym, ap, ◌∙◌, subst, arith, append_assoc}
use Rattle.verifier_notes.specs.Common.{Instr}
use Rattle.verifier_notes.specs.Noted.{Note}
use Rattle.verifier_notes.specs.Listed.{Code, Item, items_size}
use Rattle.verifier_notes.specs.Seams.{items_append, met_append}
use Rattle.verifier_notes.specs.Scenes.{Locals, Scene, Suits, AreRead, IsAt, Met, MetWith, Stands, There, depth_after, its_own, next_depth, note_with}
use Rattle.verifier_notes.specs.Scenes.{read_back, read_front, stands_at, stands_back, stands_front, straight, unit_items}
use Rattle.verifier_notes.specs.Meeting.{IsSimple, simple_met}

module _ (u : Scene) (set : Locals) where
  abbrev pub AllSimple : ℕ → List Instr → Type 0
  AllSimple d [] = Unit {0}
  AllSimple d (i ∷ is) = IsSimple u set i d × AllSimple (next_depth u.frame.image i d) is

  -- code without jumps from a depth to another
  pub record Runs (is : List Instr) (d e : ℕ) : Type 0 where
    pub simple : AllSimple d is
    pub depth : depth_after u.frame.image d is ≡ e

  pub none : (d : ℕ) → Runs [] d d
  none d = record { simple = tt; depth = refl }

  -- one instruction and then others
  pub begun : {i : Instr} {is : List Instr} {d m e : ℕ} → IsSimple u set i d → next_depth u.frame.image i d ≡ m → Runs is m e → Runs (i ∷ is) d e
  begun {i} {is} {d} {m} {e} h same k = record {
    simple = (h, subst (λ (x : ℕ). AllSimple x is) (sym same) k.simple);
    depth = ap (λ (x : ℕ). depth_after u.frame.image x is) same ∙ k.depth;
  }

  pub joined : {a b : List Instr} {d m e : ℕ} → Runs a d m → Runs b m e → Runs (a ++ b) d e
  joined {a} {b} {d} {m} {e} h k = record {
    simple = both a d h.simple (subst (λ (x : ℕ). AllSimple x b) (sym h.depth) k.simple);
    depth = depths a d ∙ ap (λ (x : ℕ). depth_after u.frame.image x b) h.depth ∙ k.depth;
  }
    where
      both : (is : List Instr) (n : ℕ) → AllSimple n is → AllSimple (depth_after u.frame.image n is) b → AllSimple n (is ++ b)
      both [] n s t = t
      both (i ∷ is) n s t = (s.0, both is (next_depth u.frame.image i n) s.1 t)

      depths : (is : List Instr) (n : ℕ) → depth_after u.frame.image n (is ++ b) ≡ depth_after u.frame.image (depth_after u.frame.image n is) b
      depths [] n = refl
      depths (i ∷ is) n = depths is (next_depth u.frame.image i n)

  -- a note where the code begins, or where it ends if it is empty
  pub head_note : (is : List Instr) (at d : ℕ) (last : Note) → Stands u at (straight u.frame set d is) last
      → Suits u.frame set (depth_after u.frame.image d is) last → (m : Note) × There u at m × Suits u.frame set d m
  head_note [] at d last h s = (last, h, s)
  head_note (i ∷ is) at d last h s = (note_with u.frame set d, h.1, its_own u.frame set d)

  pub straight_met : (is : List Instr) (at d : ℕ) (last : Note) → AllSimple d is → Stands u at (straight u.frame set d is) last
      → Suits u.frame set (depth_after u.frame.image d is) last → Met u at (straight u.frame set d is)
  straight_met [] at d last simple h s = tt
  straight_met (i ∷ is) at d last simple h s =
      let m = head_note is _ _ last h.2 s in
      (simple_met u set i at d m.0 simple.0 h.0 m.1 m.2, straight_met is _ _ last simple.1 h.2 s)

module _ (u : Scene) where
  -- the items meet their notes, and the first one's note suits what is set before
  pub record Fine (set : Locals) (at : ℕ) (xs : List Item) : Type 0 where
    pub met : Met u at xs
    pub first : Note
    pub there : There u at first
    pub suits : Suits u.frame set 0 first

  -- the items are fine wherever they stand, with a note after them that suits what is set then
  abbrev pub Part : Locals → Locals → List Item → Type 0
  Part set after xs = (at : ℕ) (last : Note) → Stands u at xs last → Suits u.frame after 0 last → at + items_size xs ≤ 65536 → Fine set at xs

  pub suits_wider : (set wide : Locals) (d : ℕ) (m : Note) → ((k : ℕ) → set k ≡ true → wide k ≡ true) → Suits u.frame set d m → Suits u.frame wide d m
  suits_wider set wide d m grow s = record { unit = s.unit; depth = s.depth; set_before = λ k e. grow k (s.set_before k e) }

  pub part_none : (set : Locals) → Part set set []
  part_none set at last h s small = record { met = tt; first = last; there = h; suits = s }

  pub part_append : (set mid after : Locals) (xs ys : List Item) → Part set mid xs → Part mid after ys → Part set after (xs ++ ys)
  part_append set mid after xs ys one two at last h s small =
      let y : Fine mid (at + items_size xs) ys = two _ last (stands_back u xs ys at last h) s (omega (arith, small, items_append xs ys)) in
      let x : Fine set at xs = one at y.first (stands_front u xs ys at last y.first h y.there) y.suits (omega (arith, small, items_append xs ys)) in
      record { met = met_append u.frame.image u.whole xs ys at x.met y.met; first = x.first; there = x.there; suits = x.suits }

  -- code without jumps and what follows it, whose first note has the code's last depth
  pub run_fine : (set : Locals) (is : List Instr) (d at : ℕ) (rest : List Item) (last : Note) → Runs u set is 0 d
      → Stands u at (straight u.frame set 0 is ++ rest) last → There u (at + items_size (straight u.frame set 0 is)) (note_with u.frame set d)
      → Met u (at + items_size (straight u.frame set 0 is)) rest → Fine set at (straight u.frame set 0 is ++ rest)
  run_fine set is d at rest last run h next after =
      let a : List Item = straight u.frame set 0 is in
      let front : Stands u at a (note_with u.frame set d) = stands_front u a rest at last _ h next in
      let suits : Suits u.frame set (depth_after u.frame.image 0 is) (note_with u.frame set d) =
      subst (λ (x : ℕ). Suits u.frame set x (note_with u.frame set d)) (sym run.depth) (its_own u.frame set d) in
      let begin = head_note u set is at 0 _ front suits in
      record {
        met = met_append u.frame.image u.whole a rest at (straight_met u set is at 0 _ run.simple front suits) after;
        first = begin.0;
        there = begin.1;
        suits = begin.2;
      }

  pub run_part : (set : Locals) (is : List Instr) → Runs u set is 0 0 → Part set set (straight u.frame set 0 is)
  run_part set is run at last h s small =
      let suits : Suits u.frame set (depth_after u.frame.image 0 is) last = subst (λ (x : ℕ). Suits u.frame set x last) (sym run.depth) s in
      let begin = head_note u set is at 0 last h suits in
      record { met = straight_met u set is at 0 last run.simple h suits; first = begin.0; there = begin.1; suits = begin.2 }

  -- the items of a whole unit, which stand between the others of the list
  pub unit_fine : (set : Locals) (body : List Item) (is : List Instr) (i : Instr) (d : ℕ) (pre post : List Item) (at : ℕ) → Part set set body
      → Runs u set is 0 d → ((mid : ℕ) → IsAt u mid i → MetWith u set mid i d) → u.whole ≡ pre ++ (unit_items u.frame set body is i d ++ post)
      → at ≡ items_size pre → AreRead u.frame.image.text at (unit_items u.frame set body is i d)
      → at + items_size (unit_items u.frame set body is i d) ≤ 65536 → Fine set at (unit_items u.frame set body is i d)
  unit_fine set body is i d pre post at part run ends split place read small =
      let a : List Item = straight u.frame set 0 is in
      let z : List Item = Code i (note_with u.frame set d) ∷ [] in
      let mid : ℕ = at + items_size body in
      let size : items_size (body ++ (a ++ z)) ≡ items_size body + (items_size a + items_size z) =
      omega (arith, items_append body (a ++ z), items_append a z) in
      let whole_is : u.whole ≡ pre ++ ((body ++ a) ++ (z ++ post)) =
      split ∙ ap (λ x. pre ++ x)
      (append_assoc body (a ++ z) post ∙ ap (λ x. body ++ x) (append_assoc a z post) ∙ sym (append_assoc body a (z ++ post))) in
      let tail : AreRead u.frame.image.text mid (a ++ z) = read_back u.frame.image.text body (a ++ z) at read in
      let both : AreRead u.frame.image.text at (body ++ a) =
      read_front u.frame.image.text (body ++ a) z at (subst (AreRead u.frame.image.text at) (sym (append_assoc body a z)) read) in
      let stand : Stands u at (body ++ a) (note_with u.frame set d) = stands_at u pre (body ++ a) post i _ at whole_is place both in
      let in_run : Stands u mid a (note_with u.frame set d) = stands_back u body a at _ stand in
      let suits : Suits u.frame set (depth_after u.frame.image 0 is) (note_with u.frame set d) =
      subst (λ (x : ℕ). Suits u.frame set x (note_with u.frame set d)) (sym run.depth) (its_own u.frame set d) in
      let begin = head_note u set is mid 0 _ in_run suits in
      let b : Fine set at body = part at begin.0 (stands_front u body a at _ begin.0 stand begin.1) begin.2 (omega (arith, small, size)) in
      let last : Met u (mid + items_size a) z = (ends _ (read_back u.frame.image.text a z mid tail).0, tt) in
      let after : Met u mid (a ++ z) = met_append u.frame.image u.whole a z mid (straight_met u set is mid 0 _ run.simple in_run suits) last in
      record { met = met_append u.frame.image u.whole body (a ++ z) at b.met after; first = b.first; there = b.there; suits = b.suits }
