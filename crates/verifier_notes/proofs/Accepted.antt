-- Every path stands at a note, so no refusal is true.
use Rattle.std.proofs.Common.{◌≡◌, ◌≢◌, ◌<◌, ◌≤◌, ◌⊎◌, inl, inr, ⊎_elim, ℕ, zero, suc, ◌+◌, ◌==◌, Bool, true, false, if◌then◌else◌, List, [], ◌∷◌, length, Option, Some, None, refl, sym, ap, ◌∙◌, subst, arith}
use Rattle.std.specs.Prelude.{slice_get}
use Rattle.std.proofs.lemmas.Option.{same_Some}
use Rattle.std.proofs.lemmas.Bool.{cases_lt, true≢false}
use Rattle.std.proofs.lemmas.Bool.Decides.{eqb_tells}
use Rattle.console_port.specs.Prelude.{IsMap}
use Rattle.ijvm_instr.specs.declared.row.Row.{Row}
use Rattle.ijvm_instr.specs.Prelude.{row_of, size_of, instr_at, target}
use Rattle.ijvm_image.specs.Prelude.{ImageView}
use Rattle.verifier_facts.specs.declared.error.VerifyError.{VerifyError}
use Rattle.verifier_facts.specs.declared.error.VerifyError.TheVariants as errors
use Rattle.verifier_facts.specs.Prelude.{Arrival, HasRow, IsWhole, HasNext, HasJump, HasConstant, need_of, need_by, GoesOn, left_unset, MayCarry, IsOwn, Goes, Enters, On, Into, Reached, Start, Then, Names, IsWrongAt, MainNames, IsMainCount, Piece, Code, Header, Covers, Accepts}
use Rattle.verifier_notes.specs.Prelude.{Note, FindsMethod, Meets, IsNoted}

module _ (image : ImageView) (note : ℕ → Option Note) (noted : IsNoted image note)
    (whole : (text : List ℕ) (at : ℕ) (r : Row) → HasRow text at r → IsWhole text at r) where
  -- a path ends at a note
  record Stands (a : Arrival) : Type 0 where
    n : Note
    there : note a.at ≡ Some n
    unit : a.unit ≡ n.unit
    depth : a.depth ≡ n.depth
    unset : (k : ℕ) → a.unset ≡ Some k → n.set k ≡ false
    main : a.unit ≡ None → a.unset ≡ None

  row_is : (at : ℕ) (r q : Row) → HasRow image.text at r → HasRow image.text at q → r ≡ q
  row_is at r q h k = h.2 ∙ ap row_of (same_Some h.0 k.0 (sym h.1 ∙ k.1)) ∙ sym k.2

  meets : (a : Arrival) (s : Stands a) → Meets image note a.at s.n
  meets a s = noted.meets a.at s.n s.there

  row_there : (a : Arrival) (s : Stands a) (r : Row) → HasRow image.text a.at r → (meets a s).row ≡ r
  row_there a s r h = row_is a.at (meets a s).row r (meets a s).has_row h

  need_there : (a : Arrival) (s : Stands a) (r : Row) (need : ℕ) → HasRow image.text a.at r → need_of image r.needs r.flow ≡ Some need
      → (meets a s).need ≡ need
  need_there a s r need h e =
      let same : need_of image (meets a s).row.needs (meets a s).row.flow ≡ need_of image r.needs r.flow =
      ap (λ (q : Row). need_of image q.needs q.flow) (row_there a s r h) in
      same_Some (meets a s).need need (sym (meets a s).needs ∙ same ∙ e)

  -- what is still unset was unset, and is not stored
  still : (stores unset : Option ℕ) (k : ℕ) → left_unset stores unset ≡ Some k → (unset ≡ Some k) × (stores ≢ Some k)
  still None unset k e = (e, λ h. cc)
  still (Some j) None k e = cc
  still (Some j) (Some i) k e = by (i == j) refl e
    where
      by : (b : Bool) → (i == j) ≡ b → (if b then None else Some i) ≡ Some k → (Some i ≡ Some k) × (Some j ≢ Some k)
      by true t e = cc
      by false t e = (
        e,
        λ h.
            let here : i ≡ k = same_Some i k e in
            let stored : j ≡ k = same_Some j k h in
            ⊎_elim (λ u. true≢false (sym u.0 ∙ t)) (λ u. u.1 (here ∙ sym stored)) (eqb_tells i j),
      )

  bool_by : (b : Bool) → (b ≡ true → ⊥) → b ≡ false
  bool_by true h = absurd (h refl)
  bool_by false h = refl

  stands_on : (a b : Arrival) (s : Stands a) (r : Row) (need : ℕ) → Goes image a b r need → Stands b
  stands_on a b s r need g =
      let m : Meets image note a.at s.n = meets a s in
      let same : m.row ≡ r = row_there a s r g.works.has_row in
      let way : GoesOn m.row.flow a.at (a.at + size_of m.row) b.at = subst (λ (q : Row). GoesOn q.flow a.at (a.at + size_of q) b.at) (sym same) g.way in
      let to = m.leads b.at way in
      let needs : m.need ≡ need = need_there a s r need g.works.has_row g.works.needs in
      let gives : m.row.gives ≡ r.gives = ap (λ (q : Row). q.gives) same in
      record {
        n = to.0;
        there = to.1;
        unit = g.unit_is ∙ s.unit ∙ sym to.2.unit;
        depth = omega (arith, to.2.depth, g.depth_is, s.depth, needs, gives);
        unset = λ k e. let left = still r.stores a.unset k (sym g.unset_is ∙ e) in
            bool_by (to.0.set k) (λ t. ⊎_elim
            (λ u. true≢false (sym u ∙ s.unset k left.0))
            (λ u. left.1 (sym (ap (λ (q : Row). q.stores) same) ∙ u))
            (to.2.set k t));
        main = λ e. g.unset_is ∙ ap (left_unset r.stores) (s.main (sym g.unit_is ∙ e)) ∙ none_left r.stores;
      }
    where
      none_left : (o : Option ℕ) → left_unset o None ≡ None
      none_left None = refl
      none_left (Some k) = refl

  stands_in : (a b : Arrival) (s : Stands a) (r : Row) (need entry : ℕ) → Enters image a b r need entry → Stands b
  stands_in a b s r need entry g =
      let m : Meets image note a.at s.n = meets a s in
      let same : m.row ≡ r = row_there a s r g.works.has_row in
      let c : FindsMethod image note g.calls.0 = m.calls g.calls.0 (ap (λ (q : Row). q.flow) same ∙ g.calls.1) in
      let e : c.entry ≡ entry = same_Some c.entry entry (sym c.constant ∙ g.calls.2) in
      record {
        n = c.begins;
        there = ap note g.at_is ∙ ap (λ (x : ℕ). note (x + 4)) (sym e) ∙ c.there;
        unit = g.unit_is ∙ ap Some (sym e) ∙ sym c.unit;
        depth = omega (arith, g.depth_is, c.depth);
        unset = λ k u. c.unset k (subst (λ (x : ℕ). IsOwn image.text x k) (sym e) (subst (MayCarry image.text entry) u g.unset_is));
        main = λ u. let x : Some entry ≡ None = sym g.unit_is ∙ u in cc;
      }

  stands : (a : Arrival) → Reached image a → Stands a
  stands a Start = record {
    n = noted.start.0;
    there = noted.start.1;
    unit = sym noted.start.2;
    depth = sym noted.start.3;
    unset = λ k e. cc;
    main = λ e. refl;
  }
  stands b (Then a to h (On r need g)) = stands_on a b (stands a h) r need g
  stands b (Then a to h (Into r need entry g)) = stands_in a b (stands a h) r need entry g

  inside : (to : ℕ) (n : Note) → note to ≡ Some n → to < length image.text
  inside to n e =
      let m : Meets image note to n = noted.meets to n e in
      let w = whole image.text to m.row m.has_row in
      omega (arith, w.0, w.1)

  get_there : (xs : List ℕ) (k : ℕ) → k < length xs → slice_get xs k ≡ None → ⊥
  get_there [] k h e = omega (arith, h)
  get_there (x ∷ xs) zero h e = cc
  get_there (x ∷ xs) (suc k) h e = get_there xs k (omega (arith, h)) e

  -- nothing is wrong where a path ends
  right : (a : Arrival) (s : Stands a) (e : VerifyError) → IsWrongAt image a e → ⊥
  right a s (errors.BadCode at) w =
      let h = (meets a s).has_row in
      let there : instr_at image.text a.at ≡ Some h.0 = h.1 in
      let none : instr_at image.text a.at ≡ None = w.1 in
      cc
  right a s (errors.FallsOff at) w =
      let m : Meets image note a.at s.n = meets a s in
      let same : m.row ≡ w.1 = row_there a s w.1 w.2 in
      let size : size_of m.row ≡ size_of w.1 = ap (λ (q : Row). size_of q) same in
      let to = m.leads (a.at + size_of m.row) (inl (subst (λ (q : Row). HasNext q.flow) (sym same) w.3, refl)) in
      omega (arith, inside (a.at + size_of m.row) to.0 to.1, size, w.4)
  right a s (errors.BadTarget at) w =
      let m : Meets image note a.at s.n = meets a s in
      let same : m.row ≡ w.1 = row_there a s w.1 w.2 in
      let to = m.leads (target a.at w.3) (inr (w.3, subst (λ (q : Row). HasJump q.flow w.3) (sym same) w.4, refl)) in
      omega (arith, inside (target a.at w.3) to.0 to.1, w.5)
  right a s (errors.BadConstant at k) w =
      let m : Meets image note a.at s.n = meets a s in
      let same : m.row ≡ w.1 = row_there a s w.1 w.2 in
      let named : m.row.constant ≡ Some k = ap (λ (q : Row). q.constant) same ∙ w.3 in
      get_there image.pool k (subst (HasConstant image.pool) named m.constant) w.4
  right a s (errors.BadEntry k) w =
      let m : Meets image note a.at s.n = meets a s in
      let same : m.row ≡ w.0 = row_there a s w.0 w.1 in
      let c : FindsMethod image note k = m.calls k (ap (λ (q : Row). q.flow) same ∙ w.2) in
      let e : c.entry ≡ w.3 = same_Some c.entry w.3 (sym c.constant ∙ w.4) in
      omega (arith, c.inside, e, w.5)
  right a s (errors.BadHeader e) w = omega (arith, (meets a s).counts e (sym s.unit ∙ w.0), w.1)
  right a s (errors.LinkSlot at) w =
      let m : Meets image note a.at s.n = meets a s in
      let same : m.row ≡ w.1 = row_there a s w.1 w.2 in
      let n = m.names w.3 0 (sym s.unit ∙ w.4) (subst (λ (q : Row). Names q 0) (sym same) w.5) in
      omega (arith, n.0)
  right a s (errors.BadLocal at k) w =
      let m : Meets image note a.at s.n = meets a s in
      let same : m.row ≡ w.1 = row_there a s w.1 w.2 in
      let n = m.names w.3 k (sym s.unit ∙ w.4) (subst (λ (q : Row). Names q k) (sym same) w.5) in
      omega (arith, n.1, w.6)
  right a s (errors.UnsetLocal at k) w =
      let m : Meets image note a.at s.n = meets a s in
      let same : m.row ≡ w.1 = row_there a s w.1 w.2 in
      let method : s.n.unit ≢ None = (λ e. let x : a.unset ≡ None = s.main (s.unit ∙ e) in let y : a.unset ≡ Some k = w.3 in cc) in
      true≢false (sym (m.reads k (ap (λ (q : Row). q.reads) same ∙ w.4) method) ∙ s.unset k w.3)
  right a s (errors.TooFewArguments at have need) w =
      let m : Meets image note a.at s.n = meets a s in
      omega (arith, need_there a s w.1 need w.2 w.5, m.enough, s.depth, w.6, w.7)
  right a s (errors.Underflow at) w =
      let m : Meets image note a.at s.n = meets a s in
      omega (arith, need_there a s w.1 w.1.needs w.2 (ap (need_by image w.1.needs) w.3), m.enough, s.depth, w.4)
  right a s (errors.ReturnInMain at) w =
      let m : Meets image note a.at s.n = meets a s in
      m.returns (ap (λ (q : Row). q.flow) (row_there a s w.1 w.2) ∙ w.4) (sym s.unit ∙ w.3)
  right a s (errors.DepthDiffers at d e) w = w
  right a s _ w = w

  unit_at : (at to : ℕ) (n m : Note) → note at ≡ Some n → note to ≡ Some m → at ≡ to → n ≡ m
  unit_at at to n m h k e = same_Some n m (sym h ∙ ap note e ∙ k)

  -- a piece that covers a byte: an instruction with its note, or a header with the note of one of its instructions
  same_piece : (p q : Piece) (byte : ℕ) → Covers image p byte → Covers image q byte → p ≡ q
  same_piece (Code u at) (Code v to) byte h k =
      let s : Stands h.0 = stands h.0 h.1 in
      let t : Stands k.0 = stands k.0 k.1 in
      let hs : note at ≡ Some s.n = ap note (sym h.3) ∙ s.there in
      let ks : note to ≡ Some t.n = ap note (sym k.3) ∙ t.there in
      ⊎_elim
      (λ lt. absurd (omega (arith, noted.apart at to s.n t.n h.4 hs ks h.5 lt, h.7, k.6)))
      (λ ge. ⊎_elim
      (λ gt. absurd (omega (arith, noted.apart to at t.n s.n k.4 ks hs k.5 gt, k.7, h.6)))
      (λ le. let e : at ≡ to = omega arith in
      let n : s.n ≡ t.n = unit_at at to s.n t.n hs ks e in
      let units : u ≡ v = sym h.2 ∙ s.unit ∙ ap (λ (x : Note). x.unit) n ∙ sym t.unit ∙ k.2 in
      ap (λ (x : Option ℕ). Code x at) units ∙ ap (Code v) e)
      (cases_lt to at))
      (cases_lt at to)
  same_piece (Code u at) (Header f) byte h k =
      let s : Stands h.0 = stands h.0 h.1 in
      let t : Stands k.0.0 = stands k.0.0 k.0.1 in
      let hs : note at ≡ Some s.n = ap note (sym h.3) ∙ s.there in
      let clear = noted.clear at k.0.0.at s.n t.n h.4 f hs t.there (sym t.unit ∙ k.0.2) h.5 in
      absurd (⊎_elim (λ x. omega (arith, x, h.7, k.1)) (λ x. omega (arith, x, h.6, k.2)) clear)
  same_piece (Header e) (Code v to) byte h k =
      let s : Stands h.0.0 = stands h.0.0 h.0.1 in
      let t : Stands k.0 = stands k.0 k.1 in
      let ks : note to ≡ Some t.n = ap note (sym k.3) ∙ t.there in
      let clear = noted.clear to h.0.0.at t.n s.n k.4 e ks s.there (sym s.unit ∙ h.0.2) k.5 in
      absurd (⊎_elim (λ x. omega (arith, x, k.7, h.1)) (λ x. omega (arith, x, k.6, h.2)) clear)
  same_piece (Header e) (Header f) byte h k =
      let s : Stands h.0.0 = stands h.0.0 h.0.1 in
      let t : Stands k.0.0 = stands k.0.0 k.0.1 in
      let first : s.n.unit ≡ Some e = sym s.unit ∙ h.0.2 in
      let second : t.n.unit ≡ Some f = sym t.unit ∙ k.0.2 in
      ⊎_elim
      (λ lt. absurd (omega (arith, noted.headers h.0.0.at k.0.0.at s.n t.n e f s.there t.there first second lt, h.2, k.1)))
      (λ ge. ⊎_elim
      (λ gt. absurd (omega (arith, noted.headers k.0.0.at h.0.0.at t.n s.n f e t.there s.there second first gt, k.2, h.1)))
      (λ le. let x : e ≡ f = omega arith in ap Header x)
      (cases_lt f e))
      (cases_lt e f)

  few_locals : (count : ℕ) → IsMainCount image count → count ≤ 256
  few_locals count h = by h.least
    where
      by : (count ≡ 0) ⊎ ((k : ℕ) × MainNames image k × (count ≡ k + 1)) → count ≤ 256
      by (inl none) = omega (arith, none)
      by (inr w) =
          let a : Arrival = w.1.0 in
          let s : Stands a = stands a w.1.2 in
          let m : Meets image note a.at s.n = meets a s in
          let few : w.0 < 256 = m.few w.0 (sym s.unit ∙ w.1.4) (subst (λ (q : Row). Names q w.0) (sym (row_there a s w.1.1 w.1.3)) w.1.5) in
          omega (arith, w.2, few)

  map_large : (z : ℕ) → IsMap z → 65536 ≤ z
  map_large z (inl e) = omega (arith, e)
  map_large z (inr e) = omega (arith, e)

  pub accepted : (end : ℕ) → IsMap end → Accepts image end
  accepted end map (errors.Overlap byte) h = h.2 (same_piece h.0 h.1 byte h.3 h.4)
  accepted end map (errors.DepthDiffers at d e) h =
      let s : Stands h.0 = stands h.0 h.2 in
      let t : Stands h.1 = stands h.1 h.3 in
      let same : s.n ≡ t.n = unit_at h.0.at h.1.at s.n t.n s.there t.there (h.4 ∙ sym h.5) in
      omega (arith, ap (λ (n : Note). n.depth) same, s.depth, t.depth, h.6, h.7, h.8)
  accepted end map (errors.MainFrame count) h = omega (arith, map_large end map, few_locals count h.0, h.1)
  accepted end map e h = right h.0 (stands h.0 h.1) e h.2
