-- Own locals, the paths that carry them as unset, and the ways in the graph.
use Rattle.verifier_locals.proofs.Common.{◌≡◌, ◌≢◌, ℕ, ◌+◌, ◌-◌, ◌/◌, ◌<◌, ◌⊎◌, inl, inr, Bool, cond, Option, Some, None, List, [], ◌∷◌, ◌++◌, length, refl}
use Rattle.verifier_locals.proofs.Common.{arith, ◌∙◌, ap, sym, subst, slice_get, Contains, ◌==◌, ◌↔◌, IsPermutation, cases_eq, cases_lt, eq-eqb, ne_eqb}
use Rattle.verifier_locals.proofs.Common.{slice_get_within, slice_get-get_or, none-some, same_Some, Contains-append_left, Contains-push, Contains-push_cases}
use Rattle.verifier_locals.proofs.Common.{Row, size_of, ImageView, UnsetLocal, Kept, Node, LocalSet, Mark, Wanted, Arrival, arrival, HasRow, GoesOn, left_unset}
use Rattle.verifier_locals.proofs.Common.{IsOwn, MayCarry, Reached, Start, Then, On, Into, IsReachedMethod, IsTrueOf, kept_at, kept_of, IsClosed, LeadsTo}
use Rattle.verifier_locals.proofs.Common.{IsNodeOf, IsGraph, IsInside, Carries, Begin, Pass, IsIn, IsReady, ReadsUnset, ReadsNone, AreSet, Wants, AreWanted}
use Rattle.std.proofs.lemmas.List.Sorted.{Contains-permutation, IsPermutation-sym}
use Rattle.verifier_locals.proofs.Graphs.{way_inside}

-- what is carried after an instruction was carried before, and is not stored
was_carried : (stores unset : Option ℕ) (k : ℕ) → left_unset stores unset ≡ Some k → (unset ≡ Some k) × (stores ≢ Some k)
was_carried None unset k is = (is, λ e. absurd (none-some k e))
was_carried (Some s) None k is = cc
was_carried (Some s) (Some c) k is = by_test (cases_eq c s)
  where
    by_test : (c ≡ s) ⊎ (c ≡ s → ⊥) → (Some c ≡ Some k) × (Some s ≢ Some k)
    by_test (inl same) =
        let none : cond (c == s) None (Some c) ≡ None = ap (λ (b : Bool). cond b None (Some c)) (eq-eqb c s same) in cc
    by_test (inr ne) =
        let this : cond (c == s) None (Some c) ≡ Some c = ap (λ (b : Bool). cond b None (Some c)) (ne_eqb c s ne) in
        let one : Some c ≡ Some k = sym this ∙ is in
        (one, λ e. ne (same_Some c k one ∙ sym (same_Some s k e)))

-- where no store is, the local stays unset
stays_unset : (stores : Option ℕ) (k : ℕ) → stores ≢ Some k → left_unset stores (Some k) ≡ Some k
stays_unset None k ne = refl
stays_unset (Some s) k ne = ap (λ (b : Bool). cond b None (Some k)) (ne_eqb k s (λ e. ne (ap Some (sym e))))

-- a reached method is entered, with any of its own locals or with nothing
pub entered_with : (image : ImageView) (e : ℕ) (unset : Option ℕ) → MayCarry image.text e unset → (a : Arrival) → Reached image a → a.unit ≡ Some e → Reached image (arrival (Some e) (e + 4) 0 unset)
entered_with image e unset may a Start unit = cc
entered_with image e unset may b (Then a to reached (On r need g)) unit = entered_with image e unset may a reached (sym g.unit_is ∙ unit)
entered_with image e unset may b (Then a to reached (Into r need f g)) unit =
    let same : f ≡ e = same_Some f e (sym g.unit_is ∙ unit) in
    Then a (arrival (Some e) (e + 4) 0 unset) reached (Into r need e (record {
      works = g.works;
      calls = (g.calls.0, g.calls.1, g.calls.2 ∙ ap Some same);
      inside = subst (λ (x : ℕ). x + 4 < length image.text) same g.inside;
      unit_is = refl;
      at_is = refl;
      depth_is = refl;
      unset_is = may;
    }))

-- what carries a local is in a method, and the local is its own
carried_unit : (image : ImageView) (k : ℕ) (a : Arrival) → Reached image a → a.unset ≡ Some k → (e : ℕ) × (a.unit ≡ Some e) × IsOwn image.text e k
carried_unit image k a Start unset = cc
carried_unit image k b (Then a to reached (On r need g)) unset =
    let was = was_carried r.stores a.unset k (sym g.unset_is ∙ unset) in
    let w = carried_unit image k a reached was.0 in
    (w.0, g.unit_is ∙ w.1, w.2)
carried_unit image k b (Then a to reached (Into r need f g)) unset = (f, g.unit_is, subst (λ (c : Option ℕ). MayCarry image.text f c) unset g.unset_is)

-- the node of a reached address
node_there : (image : ImageView) (seen : List (Option Kept)) (graph : List Node) (at : ℕ) (here : Kept) (r : Row) → IsClosed image seen → IsGraph image seen graph → slice_get seen at ≡ Some (Some here) → HasRow image.text at r →
    (node : Node) × (slice_get graph at ≡ Some node) × IsNodeOf at r node
node_there image seen graph at here r closed g is has = by_node (slice_get graph at) refl
  where
    by_node : (o : Option Node) → slice_get graph at ≡ o → (node : Node) × (slice_get graph at ≡ Some node) × IsNodeOf at r node
    by_node None none =
        let lt : at < length seen = slice_get_within seen at (Some here) is in
        let inside : at < length graph = omega (arith, g.long, closed.long) in
        let some : slice_get graph at ≡ Some _ = slice_get-get_or graph at (record { next = None; jump = None; reads = None; stores = None }) inside in cc
    by_node (Some node) is_node = (node, is_node, (g.nodes at node is_node).here here r is has)

-- a path that carries the local is a way
reached_carries : (image : ImageView) (seen : List (Option Kept)) (graph : List Node) (e k : ℕ) → IsClosed image seen → IsGraph image seen graph → (a : Arrival) → Reached image a → a.unit ≡ Some e → a.unset ≡ Some k → Carries graph (e + 4) k a.at
reached_carries image seen graph e k closed g a Start unit unset = cc
reached_carries image seen graph e k closed g b (Then a to reached (On r need h)) unit unset =
    let was = was_carried r.stores a.unset k (sym h.unset_is ∙ unset) in
    let before : Carries graph (e + 4) k a.at = reached_carries image seen graph e k closed g a reached (sym h.unit_is ∙ unit) was.0 in
    let n = node_there image seen graph a.at (kept_of a.unit a.depth) r closed g (closed.all a reached) h.works.has_row in
    Pass a.at to.at n.0 before n.1 (λ stores. was.1 (sym n.2.stores ∙ stores)) (n.2.leads to.at h.way)
reached_carries image seen graph e k closed g b (Then a to reached (Into r need f h)) unit unset =
    let at : to.at ≡ e + 4 = h.at_is ∙ ap (λ (x : ℕ). x + 4) (same_Some f e (sym h.unit_is ∙ unit)) in
    subst (λ (x : ℕ). Carries graph (e + 4) k x) (sym at) Begin

-- a way is a path that carries the local
carries_reached : (image : ImageView) (seen : List (Option Kept)) (graph : List Node) (e k : ℕ) → IsClosed image seen → IsGraph image seen graph → Reached image (arrival (Some e) (e + 4) 0 (Some k)) → (at : ℕ) → Carries graph (e + 4) k at →
    (d : ℕ) × Reached image (arrival (Some e) at d (Some k))
carries_reached image seen graph e k closed g start at Begin = (0, start)
carries_reached image seen graph e k closed g start i (Pass at to node way is ne leads) =
    let w = carries_reached image seen graph e k closed g start at way in
    let kept : slice_get seen at ≡ Some (Some (kept_of (Some e) w.0)) = closed.all (arrival (Some e) at w.0 (Some k)) w.1 in
    let d = closed.checked at (kept_of (Some e) w.0) kept in
    let n = node_there image seen graph at (kept_of (Some e) w.0) d.0 closed g kept d.2.has_row in
    let same : n.0 ≡ node = same_Some n.0 node (sym n.1 ∙ is) in
    let goes : GoesOn d.0.flow at (at + size_of d.0) to = n.2.only to (subst (λ (x : Node). LeadsTo x to) (sym same) leads) in
    let stays : left_unset d.0.stores (Some k) ≡ Some k = stays_unset d.0.stores k (λ stores. ne (ap (λ (x : Node). x.stores) (sym same) ∙ (n.2.stores ∙ stores))) in (
      w.0 - d.1 + d.0.gives,
      Then (arrival (Some e) at w.0 (Some k)) _ w.1 (On d.0 d.1 (record {
        works = record { has_row = d.2.has_row; constant = d.2.constant; needs = d.2.needs; enough = d.2.enough };
        way = goes;
        inside = way_inside image (kept_at (kept_of (Some e) w.0) at) d.0 d.1 to d.2 goes;
        unit_is = refl;
        depth_is = omega (arith, d.2.enough);
        unset_is = sym stays;
      })),
    )

-- what the list has more with the next address
pub wanted_push : (image : ImageView) (seen : List (Option Kept)) (graph : List Node) (n : ℕ) (wanted : List Wanted) (w : Wanted) → AreWanted image seen graph n wanted → Wants image seen graph n w → w.group < 1024 →
    ((v : Wanted) → Wants image seen graph n v → Some w ≡ Some v) → AreWanted image seen graph (n + 1) (wanted ++ w ∷ [])
wanted_push image seen graph n wanted w h now small one = record {
  only = λ v has. elim (Contains-push_cases wanted w v has) [ inl old ↦ h.only v old | inr same ↦ (n, subst (λ (x : Wanted). Wants image seen graph n x) same now) ];
  small = λ v has. elim (Contains-push_cases wanted w v has) [ inl old ↦ h.small v old | inr same ↦ subst (λ (x : Wanted). x.group < 1024) same small ];
  all = λ at v lt wants. elim (cases_lt at n) [
    | inl old ↦ Contains-append_left wanted (w ∷ []) v (h.all at v old wants)
    | inr last ↦ let here : at ≡ n = omega arith in
        let same : w ≡ v = same_Some w v (one v (subst (λ (i : ℕ). Wants image seen graph i v) here wants)) in
        subst (λ (x : Wanted). Contains (wanted ++ w ∷ []) x) same (Contains-push wanted w)
  ];
}

pub wanted_skip : (image : ImageView) (seen : List (Option Kept)) (graph : List Node) (n : ℕ) (wanted : List Wanted) → AreWanted image seen graph n wanted → ((v : Wanted) → Wants image seen graph n v → None ≡ Some v) →
    AreWanted image seen graph (n + 1) wanted
wanted_skip image seen graph n wanted h none = record {
  only = h.only;
  small = h.small;
  all = λ at v lt wants. elim (cases_lt at n) [
    | inl old ↦ h.all at v old wants
    | inr last ↦ let here : at ≡ n = omega arith in absurd (none-some v (none v (subst (λ (i : ℕ). Wants image seen graph i v) here wants)))
  ];
}

pub wanted_sorted : (image : ImageView) (seen : List (Option Kept)) (graph : List Node) (n : ℕ) (wanted sorted : List Wanted) → IsPermutation wanted sorted → AreWanted image seen graph n wanted → AreWanted image seen graph n sorted
wanted_sorted image seen graph n wanted sorted same h = record {
  only = λ v has. h.only v (Contains-permutation sorted wanted v (IsPermutation-sym wanted sorted same) has);
  small = λ v has. h.small v (Contains-permutation sorted wanted v (IsPermutation-sym wanted sorted same) has);
  all = λ at v lt wants. Contains-permutation wanted sorted v same (h.all at v lt wants);
}

-- what is wanted is a reached method's
pub wanted_method : (image : ImageView) (seen : List (Option Kept)) (graph : List Node) (at : ℕ) (w : Wanted) → IsClosed image seen → Wants image seen graph at w → IsReachedMethod image w.entry
wanted_method image seen graph at w closed h = (kept_at h.here at, closed.reached at h.here h.is_kept, h.unit_is)

-- with no way to a read, the locals of the group are set
pub are_set : (image : ImageView) (seen : List (Option Kept)) (graph : List Node) (w : Wanted) (locals : LocalSet) → IsClosed image seen → IsGraph image seen graph →
    ((k : ℕ) → k / 64 ≡ w.group → IsIn w.group locals k ↔ IsOwn image.text w.entry k) → ReadsNone graph w.group (w.entry + 4) locals → AreSet image w
are_set image seen graph w locals closed g owns none k group own at d r reached has reads =
    let way = reached_carries image seen graph w.entry k closed g (arrival (Some w.entry) at d (Some k)) reached refl refl in
    let kept = closed.all (arrival (Some w.entry) at d (Some k)) reached in
    let n = node_there image seen graph at (kept_of (Some w.entry) d) r closed g kept has in
    none at k n.0 ((owns k group).1 own) way n.1 (n.2.reads ∙ reads)

-- with a way to a read, the local is read unset
pub reads_holds : (image : ImageView) (z : ℕ) (seen : List (Option Kept)) (graph : List Node) (w : Wanted) (locals : LocalSet) (at k : ℕ) → IsClosed image seen → IsGraph image seen graph → IsReachedMethod image w.entry →
    ((k : ℕ) → k / 64 ≡ w.group → IsIn w.group locals k ↔ IsOwn image.text w.entry k) → ReadsUnset graph w.group (w.entry + 4) locals at k → IsTrueOf image z (UnsetLocal at k)
reads_holds image z seen graph w locals at k closed g method owns h =
    let own : IsOwn image.text w.entry k = (owns k h.is_in.0).0 h.is_in in
    let start = entered_with image w.entry (Some k) own method.0 method.1 method.2 in
    let p = carries_reached image seen graph w.entry k closed g start at h.carries in
    let kept : slice_get seen at ≡ Some (Some (kept_of (Some w.entry) p.0)) = closed.all (arrival (Some w.entry) at p.0 (Some k)) p.1 in
    let d = closed.checked at (kept_of (Some w.entry) p.0) kept in
    let n = node_there image seen graph at (kept_of (Some w.entry) p.0) d.0 closed g kept d.2.has_row in
    let same : n.0 ≡ h.node = same_Some n.0 h.node (sym n.1 ∙ h.is) in
    (arrival (Some w.entry) at p.0 (Some k), p.1, (refl, d.0, d.2.has_row, refl, sym n.2.reads ∙ (ap (λ (x : Node). x.reads) same ∙ h.reads)))

-- a search may also begin with a higher number
pub ready_later : (n many : ℕ) (marks : List Mark) (todo : List ℕ) → IsReady n many marks todo → IsReady (n + 1) many marks todo
ready_later n many marks todo h = record { long = h.long; older = λ at m is. let below : m.search < n = h.older at m is in omega arith; idle = h.idle }

-- once all that is wanted is set, nothing is read unset
pub none_unset : (image : ImageView) (seen : List (Option Kept)) (graph : List Node) (wanted : List Wanted) → IsClosed image seen → IsGraph image seen graph → AreWanted image seen graph (length seen) wanted →
    ((w : Wanted) → Contains wanted w → AreSet image w) → (z at k : ℕ) → IsTrueOf image z (UnsetLocal at k) → ⊥
none_unset image seen graph wanted closed g are set z at k (a, reached, w) =
    let u = carried_unit image k a reached w.3 in
    let kept : slice_get seen a.at ≡ Some (Some (kept_of a.unit a.depth)) = closed.all a reached in
    let lt : a.at < length seen = slice_get_within seen a.at (Some (kept_of a.unit a.depth)) kept in
    let n = node_there image seen graph a.at (kept_of a.unit a.depth) w.1 closed g kept w.2 in
    let this : Wanted = record { entry = u.0; group = k / 64 } in
    let wants : Wants image seen graph a.at this = record {
      here = kept_of a.unit a.depth;
      node = n.0;
      local = k;
      is_kept = kept;
      unit_is = u.1;
      is_node = n.1;
      reads = n.2.reads ∙ w.4;
      own = u.2.0;
      group_is = refl;
    } in
    let path : Reached image (arrival (Some u.0) a.at a.depth (Some k)) = subst (λ (b : Arrival). Reached image b) (λ i. arrival (u.1 i) a.at a.depth (w.3 i)) reached in
    set this (are.all a.at this lt wants) k refl u.2 a.at a.depth w.1 path w.2 w.4

pub graph_inside : (image : ImageView) (seen : List (Option Kept)) (graph : List Node) → IsGraph image seen graph → IsInside graph
graph_inside image seen graph g at to node is leads = let lt : to < length image.text = (g.nodes at node is).inside to leads in omega (arith, g.long)

-- one more of the list is set, as what stands there or as what stands before it
pub set_next : (image : ImageView) (wanted : List Wanted) (i : ℕ) (here : Wanted) → ((j : ℕ) (w : Wanted) → j < i → slice_get wanted j ≡ Some w → AreSet image w) → slice_get wanted i ≡ Some here → AreSet image here →
    (j : ℕ) (w : Wanted) → j < i + 1 → slice_get wanted j ≡ Some w → AreSet image w
set_next image wanted i here before is set j w lt is_w = elim (cases_lt j i) [
  | inl old ↦ before j w old is_w
  | inr last ↦ let same : j ≡ i = omega arith in
      subst (λ (x : Wanted). AreSet image x) (same_Some here w (sym is ∙ (ap (slice_get wanted) (sym same) ∙ is_w))) set
]

pub set_again : (image : ImageView) (wanted : List Wanted) (i : ℕ) → ((j : ℕ) (w : Wanted) → j < i → slice_get wanted j ≡ Some w → AreSet image w) → (j : ℕ) × (j + 1 ≡ i) × (slice_get wanted j ≡ slice_get wanted i) →
    (j : ℕ) (w : Wanted) → j < i + 1 → slice_get wanted j ≡ Some w → AreSet image w
set_again image wanted i before same j w lt is_w = elim (cases_lt j i) [
  | inl old ↦ before j w old is_w
  | inr last ↦ let here : j ≡ i = omega arith in before same.0 w (omega (arith, same.1)) (same.2 ∙ (ap (slice_get wanted) (sym here) ∙ is_w))
]

pub set_all : (image : ImageView) (wanted : List Wanted) → ((j : ℕ) (w : Wanted) → j < length wanted → slice_get wanted j ≡ Some w → AreSet image w) → (w : Wanted) → Contains wanted w → AreSet image w
set_all image wanted h w has = h has.0 w has.1 (slice_get-get_or wanted has.0 w has.1 ∙ ap Some has.2)
