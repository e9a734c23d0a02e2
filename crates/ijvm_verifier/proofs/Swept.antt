-- The sweep over the bytes.
use Rattle.ijvm_verifier.proofs.Common.{◌≡◌, ◌≢◌, ℕ, ◌+◌, ◌*◌, ◌<◌, ◌≤◌, ◌⊎◌, inl, inr, zero, suc, Option, Some, None, List, [], ◌∷◌, ◌++◌, length}
use Rattle.ijvm_verifier.proofs.Common.{length-append, refl, arith, ◌∙◌, ap, sym, subst, slice_get, slice_index_or, Contains, cases_lt, cases_eq}
use Rattle.ijvm_verifier.proofs.Common.{all_pairs_push, Row, size_of, ImageView, Kept, Overlap, HasRow, IsReachedMethod, Piece, Code, Header, Covers, IsTrueOf}
use Rattle.ijvm_verifier.proofs.Common.{IsMethodCount, first, IsKind, Kind, kept_at, kept_of, IsClosed, method_inside, rank, IsSwept, AreMethodsBelow}
use Rattle.std.proofs.lemmas.List.Elements.{Contains-append_left, Contains-push, Contains-push_cases, Contains-get_or}

-- one element more at the end
pub get_push : {X : Type 0} (xs : List X) (y v : X) (i : ℕ) → slice_get (xs ++ y ∷ []) i ≡ Some v → (slice_get xs i ≡ Some v) ⊎ ((i ≡ length xs) × (y ≡ v))
get_push [] y v zero is = inr (refl, (cc))
get_push [] y v (suc i) is = cc
get_push (x ∷ xs) y v zero is = inl is
get_push (x ∷ xs) y v (suc i) is = elim (get_push xs y v i is) [ inl old ↦ inl old | inr now ↦ inr (omega (arith, now.0), now.1) ]

-- a kept address has one unit
pub one_unit : (seen : List (Option Kept)) (at : ℕ) (here k : Kept) → slice_get seen at ≡ Some (Some here) → slice_get seen at ≡ Some (Some k) → here.unit ≡ k.unit
one_unit seen at here k p q = let e : here ≡ k = cc in ap (λ (x : Kept). x.unit) e

-- no piece of this rank
pub swept_skip : (image : ImageView) (n end : ℕ) → IsSwept image n end → ((p : Piece) (b : ℕ) → rank p ≡ n → Covers image p b → ⊥) → IsSwept image (n + 1) end
swept_skip image n end s free = record {
  apart = λ p q b lp lq cp cq. s.apart p q b (below p b lp cp) (below q b lq cq) cp cq;
  ends = λ p b l c. s.ends p b (below p b l c) c;
  last = λ b le lt. let w = s.last b (omega arith) lt in (w.0, omega (arith, w.1), w.2);
}
  where
    below : (p : Piece) (b : ℕ) → rank p < n + 1 → Covers image p b → rank p < n
    below p b l c = elim (cases_lt (rank p) n) [ inl lt ↦ lt | inr ge ↦ absurd (free p b (omega arith) c) ]

-- the piece of this rank, from an address on, after all earlier ones
pub swept_add : (image : ImageView) (n end at stop : ℕ) (new : Piece) → IsSwept image n end → end ≤ at → 2 * at ≤ n → rank new ≡ n → at < stop →
    ((p : Piece) (b : ℕ) → rank p ≡ n → Covers image p b → (p ≡ new) × (at ≤ b) × (b < stop)) → ((b : ℕ) → at ≤ b → b < stop → Covers image new b) → IsSwept image (n + 1) stop
swept_add image n end at stop new s following low is above only covers = record {
  apart = λ p q b lp lq cp cq. elim (cases_lt (rank p) n) [
    | inl p_old ↦ elim (cases_lt (rank q) n) [
      | inl q_old ↦ s.apart p q b p_old q_old cp cq
      | inr q_new ↦ let w = only q b (omega arith) cq in let e : b < end = s.ends p b p_old cp in absurd (omega (arith, w.1))
    ]
    | inr p_new ↦ elim (cases_lt (rank q) n) [
      | inl q_old ↦ let w = only p b (omega arith) cp in let e : b < end = s.ends q b q_old cq in absurd (omega (arith, w.1))
      | inr q_new ↦ (only p b (omega arith) cp).0 ∙ sym (only q b (omega arith) cq).0
    ]
  ];
  ends = λ p b l c. elim (cases_lt (rank p) n) [
    | inl old ↦ let e : b < end = s.ends p b old c in omega arith
    | inr now ↦ (only p b (omega arith) c).2
  ];
  last = λ b le lt. (new, omega arith, covers b (omega arith) lt);
}

-- the byte where a piece begins belongs to another piece too
pub swept_clash : (image : ImageView) (z n end at : ℕ) (new : Piece) → IsSwept image n end → at < end → n ≤ 2 * at + 1 → rank new ≡ n → Covers image new at → IsTrueOf image z (Overlap at)
swept_clash image z n end at new s inside low is covers =
    let w = s.last at low inside in
    (w.0, new, (λ e. absurd (omega (arith, w.1, ap rank e))), w.2, covers)

-- an address's instruction is one piece
pub code_only : (image : ImageView) (seen : List (Option Kept)) (at : ℕ) (here : Kept) (r : Row) → IsClosed image seen → slice_get seen at ≡ Some (Some here) → HasRow image.text at r →
    (p : Piece) (b : ℕ) → rank p ≡ 2 * at → Covers image p b → (p ≡ Code here.unit at) × (at ≤ b) × (b < at + size_of r)
code_only image seen at here r closed is has_row (Code u j) b same (a, reached, unit, place, q, row, low, high) =
    let e : j ≡ at = omega arith in
    let kept : slice_get seen a.at ≡ Some (Some (kept_of a.unit a.depth)) = closed.all a reached in
    let one : kept_of a.unit a.depth ≡ here = only (slice_get seen at) (ap (slice_get seen) (sym (place ∙ e)) ∙ kept) is in
    let u_is : u ≡ here.unit = sym unit ∙ ap (λ (k : Kept). k.unit) one in
    let d = closed.checked at here is in
    let row_is : q ≡ r = d.2.alone q (subst (λ (i : ℕ). HasRow image.text i q) e row) ∙ sym (d.2.alone r has_row) in
    let size : size_of q ≡ size_of r = ap size_of row_is in
    ((λ i. Code (u_is i) (e i)), omega arith, omega arith)
  where
    only : (o : Option (Option Kept)) → o ≡ Some (Some (kept_of a.unit a.depth)) → o ≡ Some (Some here) → kept_of a.unit a.depth ≡ here
    only o p q = cc
code_only image seen at here r closed is has_row (Header e) b same c = absurd (omega arith)

pub code_none : (image : ImageView) (seen : List (Option Kept)) (at : ℕ) → IsClosed image seen → slice_get seen at ≡ Some None → (p : Piece) (b : ℕ) → rank p ≡ 2 * at → Covers image p b → ⊥
code_none image seen at closed is (Code u j) b same (a, reached, unit, place, q, row, low, high) =
    let e : j ≡ at = omega arith in
    let kept : slice_get seen a.at ≡ Some (Some (kept_of a.unit a.depth)) = closed.all a reached in
    let here : slice_get seen at ≡ Some (Some (kept_of a.unit a.depth)) = ap (slice_get seen) (sym (place ∙ e)) ∙ kept in cc
code_none image seen at closed is (Header e) b same c = absurd (omega arith)

pub code_covers : (image : ImageView) (seen : List (Option Kept)) (at : ℕ) (here : Kept) (r : Row) → IsClosed image seen → slice_get seen at ≡ Some (Some here) → HasRow image.text at r →
    (b : ℕ) → at ≤ b → b < at + size_of r → Covers image (Code here.unit at) b
code_covers image seen at here r closed is has_row b low high = (kept_at here at, closed.reached at here is, refl, refl, r, has_row, low, high)

pub header_only : (image : ImageView) (at : ℕ) → (p : Piece) (b : ℕ) → rank p ≡ 2 * at + 1 → Covers image p b → (p ≡ Header at) × (at ≤ b) × (b < at + 4)
header_only image at (Code u j) b same c = absurd (omega arith)
header_only image at (Header e) b same (method, low, high) = let is : e ≡ at = omega arith in (ap Header is, omega arith, omega arith)

pub header_none : (image : ImageView) (at : ℕ) → (IsReachedMethod image at → ⊥) → (p : Piece) (b : ℕ) → rank p ≡ 2 * at + 1 → Covers image p b → ⊥
header_none image at other (Code u j) b same c = absurd (omega arith)
header_none image at other (Header e) b same (method, low, high) = let is : e ≡ at = omega arith in other (subst (λ (x : ℕ). IsReachedMethod image x) is method)

-- the kept start of a method says that it is reached, and each reached one is kept
pub entry_kept : (image : ImageView) (seen : List (Option Kept)) (at : ℕ) (here : Kept) → IsClosed image seen → slice_get seen (at + 4) ≡ Some (Some here) → here.unit ≡ Some at → IsReachedMethod image at
entry_kept image seen at here closed is unit = (kept_at here (at + 4), closed.reached (at + 4) here is, unit)

pub kept_entry : (image : ImageView) (seen : List (Option Kept)) (at : ℕ) → IsClosed image seen → IsReachedMethod image at → slice_get seen (at + 4) ≡ Some (Some (kept_of (Some at) 0))
kept_entry image seen at closed m = closed.starts at m

-- a byte after the pieces so far, where none begins
pub swept_free : (image : ImageView) (at end : ℕ) → IsSwept image (2 * at) end → end ≤ at → ((p : Piece) (b : ℕ) → rank p ≡ 2 * at → Covers image p b → ⊥) → ((p : Piece) (b : ℕ) → rank p ≡ 2 * at + 1 → Covers image p b → ⊥) →
    (p : Piece) → Covers image p at → ⊥
swept_free image at end s past no_code no_header p c = elim (cases_lt (rank p) (2 * at)) [
  | inl old ↦ let e : at < end = s.ends p at old c in omega arith
  | inr new ↦ elim (cases_eq (rank p) (2 * at)) [
    | inl code ↦ no_code p at code c
    | inr ne ↦ elim (cases_eq (rank p) (2 * at + 1)) [
      | inl header ↦ no_header p at header c
      | inr other ↦ ahead p c (omega arith)
    ]
  ]
]
  where
    ahead : (q : Piece) → Covers image q at → 2 * at + 2 ≤ rank q → ⊥
    ahead (Code u j) (a, reached, unit, place, r, row, low, high) above = omega arith
    ahead (Header e) (method, low, high) above = omega arith

-- a byte of a piece that begins before it
pub swept_inside : (image : ImageView) (at end : ℕ) → IsSwept image (2 * at) end → at < end → (p : Piece) × Covers image p at × (first p < at)
swept_inside image at end s inside = let w = s.last at (omega arith) inside in (w.0, w.2, before w.0 w.1)
  where
    before : (p : Piece) → rank p < 2 * at → first p < at
    before (Code u j) lt = omega arith
    before (Header e) lt = omega arith

-- what covers a byte ends inside the text
pub covers_inside : (image : ImageView) (seen : List (Option Kept)) (p : Piece) (b : ℕ) → IsClosed image seen → Covers image p b → (first p < length image.text) × (b < length image.text)
covers_inside image seen (Code u j) b closed (a, reached, unit, place, q, row, low, high) =
    let d = closed.checked a.at (kept_of a.unit a.depth) (closed.all a reached) in
    let size : size_of q ≡ size_of d.0 = ap size_of (d.2.alone q (subst (λ (i : ℕ). HasRow image.text i q) (sym place) row)) in
    (omega (arith, d.2.whole.0, d.2.whole.1), omega (arith, d.2.whole.1))
covers_inside image seen (Header e) b closed (method, low, high) =
    let lt : e + 4 < length image.text = method_inside image seen e closed method in (omega arith, omega arith)

-- at the end no byte belongs to two
pub none_overlap : (image : ImageView) (seen : List (Option Kept)) (end : ℕ) → IsClosed image seen → IsSwept image (2 * length image.text) end → (z b : ℕ) → IsTrueOf image z (Overlap b) → ⊥
none_overlap image seen end closed s z b (p, q, ne, cp, cq) = ne (s.apart p q b (met p (covers_inside image seen p b closed cp).0) (met q (covers_inside image seen q b closed cq).0) cp cq)
  where
    met : (o : Piece) → first o < length image.text → rank o < 2 * length image.text
    met (Code u j) lt = omega arith
    met (Header e) lt = omega arith

-- nothing stands past the text
pub none_after : (image : ImageView) (seen : List (Option Kept)) (at : ℕ) → IsClosed image seen → length image.text ≤ at → (p : Piece) → Covers image p at → ⊥
none_after image seen at closed past p c = omega (arith, (covers_inside image seen p at closed c).1)

-- one method more, and none
pub methods_none : (image : ImageView) → AreMethodsBelow image 0 0
methods_none image = record {
  entries = [];
  apart = λ i j d lt inside. absurd (omega arith);
  members = λ e. ((λ has. absurd (omega (arith, has.1))), (λ w. absurd (omega (arith, w.0))));
  count_is = refl;
  few = omega arith;
}

pub methods_add : (image : ImageView) (n count : ℕ) → AreMethodsBelow image n count → IsReachedMethod image n → AreMethodsBelow image (n + 1) (count + 1)
methods_add image n count m here = record {
  entries = m.entries ++ n ∷ [];
  apart = all_pairs_push (λ e f. e ≢ f) m.entries n m.apart (λ k d lt same. absurd (old k d lt same));
  members = λ e. (
    (λ has. elim (Contains-push_cases m.entries n e has) [
      | inl before ↦ let w = (m.members e).0 before in (omega (arith, w.0), w.1)
      | inr same ↦ (omega arith, subst (λ (x : ℕ). IsReachedMethod image x) same here)
    ]),
    (λ w. elim (cases_lt e n) [
      | inl before ↦ Contains-append_left m.entries (n ∷ []) e ((m.members e).1 (before, w.1))
      | inr last ↦ let same : n ≡ e = omega (arith, w.0) in subst (λ (x : ℕ). Contains (m.entries ++ n ∷ []) x) same (Contains-push m.entries n)
    ]),
  );
  count_is = omega (arith, m.count_is, length-append m.entries (n ∷ []));
  few = omega (arith, m.few);
}
  where
    old : (k d : ℕ) → k < length m.entries → slice_index_or m.entries k d ≡ n → ⊥
    old k d lt same =
        let w = (m.members (slice_index_or m.entries k d)).0 (Contains-get_or m.entries k d lt) in omega (arith, w.0)

pub methods_skip : (image : ImageView) (n count : ℕ) → AreMethodsBelow image n count → (IsReachedMethod image n → ⊥) → AreMethodsBelow image (n + 1) count
methods_skip image n count m none = record {
  entries = m.entries;
  apart = m.apart;
  members = λ e. (
    (λ has. let w = (m.members e).0 has in (omega (arith, w.0), w.1)),
    (λ w. elim (cases_lt e n) [
      | inl before ↦ (m.members e).1 (before, w.1)
      | inr last ↦ let same : e ≡ n = omega (arith, w.0) in absurd (none (subst (λ (x : ℕ). IsReachedMethod image x) same w.1))
    ]),
  );
  count_is = m.count_is;
  few = omega (arith, m.few);
}

pub methods_all : (image : ImageView) (seen : List (Option Kept)) (count : ℕ) → IsClosed image seen → AreMethodsBelow image (length image.text) count → IsMethodCount image count
methods_all image seen count closed m = record {
  entries = m.entries;
  apart = m.apart;
  members = λ e. ((λ has. ((m.members e).0 has).1), (λ w. (m.members e).1 (inside e w, w)));
  count_is = m.count_is;
}
  where
    inside : (e : ℕ) → IsReachedMethod image e → e < length image.text
    inside e w = omega (arith, method_inside image seen e closed w)

-- a kept address is an instruction's first
pub kept_start : (image : ImageView) (seen : List (Option Kept)) (at : ℕ) (here : Kept) → IsClosed image seen → slice_get seen at ≡ Some (Some here) → (unit : Option ℕ) × Covers image (Code unit at) at
kept_start image seen at here closed is =
    let d = closed.checked at here is in
    let above : 0 < size_of d.0 = d.2.whole.0 in
    (here.unit, code_covers image seen at here d.0 closed is d.2.has_row at (omega arith) (omega arith))

-- one kind more
pub kinds_push : (image : ImageView) (kinds : List Kind) (n : ℕ) (kind : Kind) → length kinds ≡ n → ((at : ℕ) (k : Kind) → slice_get kinds at ≡ Some k → IsKind image at k) → IsKind image n kind →
    (at : ℕ) (k : Kind) → slice_get (kinds ++ kind ∷ []) at ≡ Some k → IsKind image at k
kinds_push image kinds n kind long h now at k is = elim (get_push kinds kind k at is) [
  | inl old ↦ h at k old
  | inr last ↦ subst (λ (i : ℕ). IsKind image i k) (sym (last.0 ∙ long)) (subst (λ (x : Kind). IsKind image n x) last.1 now)
]
