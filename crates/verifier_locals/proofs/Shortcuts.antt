-- Ways in a graph with shortcuts are ways in the graph, and lead to each node that reads a local.
use Rattle.verifier_locals.proofs.Common.{◌≡◌, ◌≢◌, ℕ, ◌<◌, ◌⊎◌, inl, inr, Option, Some, None, List, length, refl, arith, ◌∙◌, ap, sym, subst, length-set}
use Rattle.verifier_locals.proofs.Common.{slice_get, slice_set, IfSome, cases_eq, slice_get_within, slice_get-get_or, same_Some, get_set_other, get_set_same}
use Rattle.verifier_locals.proofs.Common.{Node, LocalSet, LeadsTo, IsInside, Carries, Begin, Pass, ReadsUnset, ReadsNone, IsPlain, first_way, IsEndAt, Skips}
use Rattle.verifier_locals.proofs.Common.{Stay, Skip, IsPast, IsShortOf, IsShort}
use Rattle.verifier_locals.proofs.Traces.{way_below}

no_number : (o : Option ℕ) (x : ℕ) → o ≡ None → o ≡ Some x → ⊥
no_number o x p q = cc

-- an element that is inside
pub there : (xs : List Node) (at : ℕ) → at < length xs → (node : Node) × (slice_get xs at ≡ Some node)
there xs at lt = (_, slice_get-get_or xs at (record { next = None; jump = None; reads = None; stores = None }) lt)

-- ways past no node
past_none : (graph : List Node) (way : Option ℕ) → IsPast graph way way
past_none graph None = tt
past_none graph (Some at) = Stay

pub short_same : (graph : List Node) → IsShort graph graph
short_same graph = record {
  long = refl;
  each = λ at node new is is_new. subst (λ (x : Node). IsShortOf graph node x) (same_Some node new (sym is ∙ is_new))
      (record { reads = refl; stores = refl; next = past_none graph node.next; jump = past_none graph node.jump });
}

-- past some nodes, and past more
skips_on : (graph : List Node) (far to at : ℕ) → Skips graph far to → Skips graph to at → Skips graph far at
skips_on graph far to i more Stay = more
skips_on graph far to i more (Skip at next node is plain rest) = Skip at next node is plain (skips_on graph far to next more rest)

-- a short way begins as one of the graph
short_way : (graph : List Node) (way new : Option ℕ) (to : ℕ) → IsPast graph way new → new ≡ Some to → (at : ℕ) × (way ≡ Some at) × Skips graph to at
short_way graph None None to h is = cc
short_way graph None (Some far) to h is = elim h [ ]
short_way graph (Some at) None to h is = cc
short_way graph (Some at) (Some far) to h is = (at, refl, subst (λ (x : ℕ). Skips graph x at) (same_Some far to is) h)

past_from : (graph : List Node) (from at to : ℕ) (node : Node) (way new : Option ℕ) → slice_get graph at ≡ Some node → IsPlain node to → Skips graph at from → way ≡ Some to → IsPast graph way new → IsPast graph (Some from) new
past_from graph from at to node None new is plain before way h = cc
past_from graph from at to node (Some next) None is plain before way h =
    let same : next ≡ to = same_Some next to way in
    (h.0, skips_on graph h.0 at from (Skip at to node is plain (subst (λ (x : ℕ). Skips graph h.0 x) same h.1)) before, h.2)
past_from graph from at to node (Some next) (Some far) is plain before way h =
    let same : next ≡ to = same_Some next to way in
    skips_on graph far at from (Skip at to node is plain (subst (λ (x : ℕ). Skips graph far x) same h)) before

-- a way past a plain node goes on as the way from there
pub past_plain : (graph short : List Node) (at to : ℕ) (node new : Node) → IsShort graph short → slice_get graph at ≡ Some node → IsPlain node to → slice_get short at ≡ Some new → (from : Option ℕ) → IsPast graph from (Some at) →
    IsPast graph from (first_way new.next new.jump)
past_plain graph short at to node new s is plain is_new None before = elim before [ ]
past_plain graph short at to node new s is plain is_new (Some from) before = by_ways new.next new.jump (s.each at node new is is_new).next (s.each at node new is is_new).jump
  where
    by_ways : (next jump : Option ℕ) → IsPast graph node.next next → IsPast graph node.jump jump → IsPast graph (Some from) (first_way next jump)
    by_ways (Some x) jump on off =
        let w = short_way graph node.next (Some x) x on refl in past_from graph from at to node node.next (Some x) is plain before (w.1 ∙ ap Some (plain.only w.0 (inl w.1))) on
    by_ways None (Some y) on off =
        let w = short_way graph node.jump (Some y) y off refl in past_from graph from at to node node.jump (Some y) is plain before (w.1 ∙ ap Some (plain.only w.0 (inr w.1))) off
    by_ways None None on off = elim plain.leads [
      | inl next ↦ past_from graph from at to node node.next None is plain before next on
      | inr jump ↦ past_from graph from at to node node.jump None is plain before jump off
    ]

-- one more node of the graph has ways past plain nodes
pub short_set : (graph short : List Node) (i : ℕ) (old : Node) (next jump : Option ℕ) → IsShort graph short → slice_get short i ≡ Some old →
    ((from : Option ℕ) → IsPast graph from old.next → IsPast graph from next) → ((from : Option ℕ) → IsPast graph from old.jump → IsPast graph from jump) →
    IsShort graph (slice_set short i (record old { next = next; jump = jump }))
short_set graph short i old next jump s is_old on off = record {
  long = length-set short i (record old { next = next; jump = jump }) ∙ s.long;
  each = λ at node new is is_new. elim (cases_eq at i) [
    | inl same ↦
        let lt : i < length short = slice_get_within short i old is_old in
        let made : record old { next = next; jump = jump } ≡ new =
        same_Some _ new (sym (get_set_same short i (record old { next = next; jump = jump }) lt) ∙ (ap (slice_get (slice_set short i (record old { next = next; jump = jump }))) (sym same) ∙ is_new)) in
        let was = s.each i node old (ap (slice_get graph) (sym same) ∙ is) is_old in
        subst (λ (x : Node). IsShortOf graph node x) made (record { reads = was.reads; stores = was.stores; next = on node.next was.next; jump = off node.jump was.jump })
    | inr ne ↦ s.each at node new is (sym (get_set_other short i at (record old { next = next; jump = jump }) ne) ∙ is_new)
  ];
}

-- ways past plain nodes
skips_carries : (graph : List Node) (start k to at : ℕ) → Skips graph to at → Carries graph start k at → Carries graph start k to
skips_carries graph start k to i Stay way = way
skips_carries graph start k to i (Skip at next node is plain rest) way =
    skips_carries graph start k to next rest (Pass at next node way is (λ stores. no_number node.stores k plain.stores stores) plain.leads)

-- a way of the graph has a short one, or comes to a dead end
abbrev HasShort : List Node → Option ℕ → ℕ → Type 0
HasShort graph new at = ((to : ℕ) × (new ≡ Some to) × Skips graph to at) ⊎ ((to : ℕ) × Skips graph to at × IsEndAt graph to)

way_short : (graph : List Node) (way new : Option ℕ) (at : ℕ) → IsPast graph way new → way ≡ Some at → HasShort graph new at
way_short graph None None at h is = cc
way_short graph None (Some far) at h is = cc
way_short graph (Some from) None at h is = inr (h.0, subst (λ (x : ℕ). Skips graph h.0 x) (same_Some from at is) h.1, h.2)
way_short graph (Some from) (Some far) at h is = inl (far, refl, subst (λ (x : ℕ). Skips graph far x) (same_Some from at is) h)

-- a way with shortcuts is a way
short_carries : (graph short : List Node) (start k : ℕ) → IsShort graph short → (at : ℕ) → Carries short start k at → Carries graph start k at
short_carries graph short start k s at Begin = Begin
short_carries graph short start k s i (Pass at to new way is ne leads) =
    let before : Carries graph start k at = short_carries graph short start k s at way in
    let n = there graph at (omega (arith, slice_get_within short at new is, s.long)) in
    let h = s.each at n.0 new n.1 is in
    let passes : n.0.stores ≢ Some k = λ stores. ne (h.stores ∙ stores) in
    elim leads [
      | inl on ↦ let w = short_way graph n.0.next new.next to h.next on in skips_carries graph start k to w.0 w.2 (Pass at w.0 n.0 before n.1 passes (inl w.1))
      | inr off ↦ let w = short_way graph n.0.jump new.jump to h.jump off in skips_carries graph start k to w.0 w.2 (Pass at w.0 n.0 before n.1 passes (inr w.1))
    ]

-- a way leads, past plain nodes, to the end of a way with shortcuts or to a dead end
abbrev ComesTo : List Node → List Node → ℕ → ℕ → ℕ → Type 0
ComesTo graph short start k at = (to : ℕ) × (Carries short start k to ⊎ IsEndAt graph to) × Skips graph to at

comes_short : (graph short : List Node) (start k : ℕ) → IsShort graph short → (at : ℕ) → Carries graph start k at → ComesTo graph short start k at
comes_short graph short start k s at Begin = (start, inl Begin, Stay)
comes_short graph short start k s i (Pass at to node way is ne leads) =
    let w = comes_short graph short start k s at way in by_skips w.0 w.1 w.2
  where
    from_here : Carries short start k at → ComesTo graph short start k to
    from_here c =
        let n = there short at (omega (arith, slice_get_within graph at node is, s.long)) in
        let h = s.each at node n.0 is n.1 in
        let passes : n.0.stores ≢ Some k = λ stores. ne (sym h.stores ∙ stores) in
        elim leads [
          | inl on ↦ elim (way_short graph node.next n.0.next to h.next on) [
            | inl w ↦ (w.0, inl (Pass at w.0 n.0 c n.1 passes (inl w.1)), w.2)
            | inr w ↦ (w.0, inr w.2, w.1)
          ]
          | inr off ↦ elim (way_short graph node.jump n.0.jump to h.jump off) [
            | inl w ↦ (w.0, inl (Pass at w.0 n.0 c n.1 passes (inr w.1)), w.2)
            | inr w ↦ (w.0, inr w.2, w.1)
          ]
        ]

    from_end : IsEndAt graph at → ComesTo graph short start k to
    from_end (p, is_p, end) =
        let same : p ≡ node = same_Some p node (sym is_p ∙ is) in
        elim leads [
          | inl on ↦ absurd (no_number p.next to end.next (ap (λ (x : Node). x.next) same ∙ on))
          | inr off ↦ absurd (no_number p.jump to end.jump (ap (λ (x : Node). x.jump) same ∙ off))
        ]

    past_here : (far next : ℕ) (p : Node) → Carries short start k far ⊎ IsEndAt graph far → slice_get graph at ≡ Some p → IsPlain p next → Skips graph far next → ComesTo graph short start k to
    past_here far next p c is_p plain rest =
        let same : p ≡ node = same_Some p node (sym is_p ∙ is) in
        let next_is : to ≡ next = plain.only to (subst (λ (x : Node). LeadsTo x to) (sym same) leads) in
        (far, c, subst (λ (x : ℕ). Skips graph far x) (sym next_is) rest)

    by_skips : (far : ℕ) → Carries short start k far ⊎ IsEndAt graph far → Skips graph far at → ComesTo graph short start k to
    by_skips far c skips = cases far at skips c refl
      where
        cases : (far i : ℕ) → Skips graph far i → Carries short start k far ⊎ IsEndAt graph far → i ≡ at → ComesTo graph short start k to
        cases far i Stay (inl c) same = from_here (subst (λ (x : ℕ). Carries short start k x) same c)
        cases far i Stay (inr e) same = from_end (subst (λ (x : ℕ). IsEndAt graph x) same e)
        cases far i (Skip j next p is_p plain rest) c same = past_here far next p c (ap (slice_get graph) (sym same) ∙ is_p) plain rest

-- the same reads are found
pub short_reads : (graph short : List Node) (group start : ℕ) (locals : LocalSet) (at k : ℕ) → IsShort graph short → ReadsUnset short group start locals at k → ReadsUnset graph group start locals at k
short_reads graph short group start locals at k s h =
    let n = there graph at (omega (arith, slice_get_within short at h.node h.is, s.long)) in
    record { node = n.0; is = n.1; reads = sym (s.each at n.0 h.node n.1 h.is).reads ∙ h.reads; is_in = h.is_in; carries = short_carries graph short start k s at h.carries }

pub short_reads_none : (graph short : List Node) (group start : ℕ) (locals : LocalSet) → IsShort graph short → ReadsNone short group start locals → ReadsNone graph group start locals
short_reads_none graph short group start locals s none at k node is_in way is reads =
    let w = comes_short graph short start k s at way in by_skips w.0 at w.2 w.1 refl
  where
    by_skips : (far i : ℕ) → Skips graph far i → Carries short start k far ⊎ IsEndAt graph far → i ≡ at → ⊥
    by_skips far i Stay (inr e) same =
        no_number e.0.reads k e.2.reads (ap (λ (x : Node). x.reads) (same_Some e.0 node (sym (ap (slice_get graph) (sym same) ∙ e.1) ∙ is)) ∙ reads)
    by_skips far i Stay (inl c) same =
        let there_is = there short at (omega (arith, slice_get_within graph at node is, s.long)) in
        none at k there_is.0 is_in (subst (λ (x : ℕ). Carries short start k x) same c) there_is.1 ((s.each at node there_is.0 is there_is.1).reads ∙ reads)
    by_skips far i (Skip j next p is_p plain rest) c same =
        no_number p.reads k plain.reads (ap (λ (x : Node). x.reads) (same_Some p node (sym (ap (slice_get graph) (sym same) ∙ is_p) ∙ is)) ∙ reads)

-- no shortcut leads out of the graph
skips_inside : (graph : List Node) (to at : ℕ) → IsInside graph → at < length graph → Skips graph to at → to < length graph
skips_inside graph to i inside lt Stay = lt
skips_inside graph to i inside lt (Skip at next node is plain rest) = skips_inside graph to next inside (inside at next node is plain.leads) rest

pub short_inside : (graph short : List Node) → IsInside graph → IsShort graph short → IsInside short
short_inside graph short inside s at to new is leads =
    let n = there graph at (omega (arith, slice_get_within short at new is, s.long)) in
    let h = s.each at n.0 new n.1 is in
    let lt : to < length graph = elim leads [
      | inl on ↦ let w = short_way graph n.0.next new.next to h.next on in skips_inside graph to w.0 inside (inside at w.0 n.0 n.1 (inl w.1)) w.2
      | inr off ↦ let w = short_way graph n.0.jump new.jump to h.jump off in skips_inside graph to w.0 inside (inside at w.0 n.0 n.1 (inr w.1)) w.2
    ] in omega (arith, s.long)

pub short_ways : (graph short : List Node) (at : ℕ) (new : Node) → IsInside graph → IsShort graph short → slice_get short at ≡ Some new → (way : Option ℕ) → ((to : ℕ) → way ≡ Some to → LeadsTo new to) → IfSome way (λ to. to < length graph)
short_ways graph short at new inside s is way leads = way_below way (length graph) (λ to way_is. let lt : to < length short = short_inside graph short inside s at to new is (leads to way_is) in omega (arith, s.long))
