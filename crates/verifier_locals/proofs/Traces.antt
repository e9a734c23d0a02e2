-- The search of a graph for locals that are not set.
use Rattle.verifier_locals.proofs.Common.{◌≡◌, ◌≢◌, ℕ, zero, suc, ◌+◌, ◌%◌, ◌^◌, ◌<◌, ◌≤◌, ◌⊎◌, inl, inr, Bool, cond, Option, Some, None, List, [], ◌∷◌, ◌++◌}
use Rattle.verifier_locals.proofs.Common.{length, refl, arith, ◌∙◌, ap, sym, subst, length-set, length-append, slice_get, slice_set, Contains, IfSome, bit_at}
use Rattle.verifier_locals.proofs.Common.{cases_eq, eq-eqb, ne_eqb, bit_at-zero, Contains-append_left, Contains-push, Contains-push_cases, same_Some}
use Rattle.verifier_locals.proofs.Common.{get_set_other, get_set_same, Node, LocalSet, Mark, Has, IsIn, LeadsTo, Carries, Begin, Pass, held, held_at, IsHeld}
use Rattle.verifier_locals.proofs.Common.{blanks, AreOlder, IsReady, MarksMore, IsMarked, IsPassed, Passes, IsTracing, ReadsUnset, ReadsNone}

empty : (at : ℕ) → Contains {X = ℕ} [] at → ⊥
empty at h = omega (arith, h.1)

pub held_get : (n : ℕ) (marks : List Mark) (at : ℕ) (m : Mark) → slice_get marks at ≡ Some m → held_at n marks at ≡ held n m
held_get n [] at m is = cc
held_get n (x ∷ marks) zero m is = let same : x ≡ m = cc in ap (held n) same
held_get n (x ∷ marks) (suc at) m is = held_get n marks at m is

-- a mark of this search, and one of another
pub held_same : (n : ℕ) (m : Mark) → m.search ≡ n → held n m ≡ m.locals.bits
held_same n m is = ap (λ (b : Bool). cond b m.locals.bits 0) (eq-eqb m.search n is)

pub held_other : (n : ℕ) (m : Mark) → m.search ≢ n → held n m ≡ 0
held_other n m ne = ap (λ (b : Bool). cond b m.locals.bits 0) (ne_eqb m.search n ne)

held_set_same : (n : ℕ) (marks : List Mark) (at : ℕ) (m : Mark) → at < length marks → held_at n (slice_set marks at m) at ≡ held n m
held_set_same n [] at m lt = absurd (omega arith)
held_set_same n (x ∷ marks) zero m lt = refl
held_set_same n (x ∷ marks) (suc at) m lt = held_set_same n marks at m (omega arith)

held_set_other : (n : ℕ) (marks : List Mark) (at to : ℕ) (m : Mark) → to ≢ at → held_at n (slice_set marks at m) to ≡ held_at n marks to
held_set_other n [] at to m ne = refl
held_set_other n (x ∷ marks) zero zero m ne = absurd (ne refl)
held_set_other n (x ∷ marks) zero (suc to) m ne = refl
held_set_other n (x ∷ marks) (suc at) zero m ne = refl
held_set_other n (x ∷ marks) (suc at) (suc to) m ne = held_set_other n marks at to m (λ e. ne (omega arith))

blanks_set : (n : ℕ) (marks : List Mark) (at : ℕ) (m : Mark) → at < length marks → held_at n marks at < held n m → held n m < 2 ^ 64 → blanks n (slice_set marks at m) + 1 ≤ blanks n marks
blanks_set n [] at m lt more small = absurd (omega arith)
blanks_set n (x ∷ marks) zero m lt more small = omega arith
blanks_set n (x ∷ marks) (suc at) m lt more small =
    let e : blanks n (slice_set marks at m) + 1 ≤ blanks n marks = blanks_set n marks at m (omega arith) more small in omega arith

-- a mark grows
pub marks_set : (n : ℕ) (marks : List Mark) (todo : List ℕ) (at : ℕ) (m : Mark) → at < length marks → m.search ≡ n → held_at n marks at < held n m → held n m < 2 ^ 64 →
    ((place : ℕ) → IsHeld n marks at place → bit_at (held n m) place ≡ 1) → MarksMore n marks (slice_set marks at m) todo (todo ++ at ∷ [])
marks_set n marks todo at m lt search more small keeps = record {
  long = length-set marks at m;
  keeps = λ to place is. elim (cases_eq to at) [
    | inl same ↦ ap (λ (b : ℕ). bit_at b place) (ap (held_at n (slice_set marks at m)) same ∙ held_set_same n marks at m lt) ∙ keeps place (subst (λ (i : ℕ). IsHeld n marks i place) same is)
    | inr ne ↦ ap (λ (b : ℕ). bit_at b place) (held_set_other n marks at to m ne) ∙ is
  ];
  fresh = λ to place is. elim (cases_eq to at) [
    | inl same ↦ inr (subst (λ (i : ℕ). Contains (todo ++ at ∷ []) i) (sym same) (Contains-push todo at))
    | inr ne ↦ inl (ap (λ (b : ℕ). bit_at b place) (sym (held_set_other n marks at to m ne)) ∙ is)
  ];
  todo_stays = λ j has. Contains-append_left todo (at ∷ []) j has;
  todo_inside = λ j has. elim (Contains-push_cases todo at j has) [ inl old ↦ inl old | inr same ↦ inr (omega (arith, same)) ];
  measure = let e : blanks n (slice_set marks at m) + 1 ≤ blanks n marks = blanks_set n marks at m lt more small in omega (arith, length-append todo (at ∷ []));
  older = λ old j x is. elim (cases_eq j at) [
    | inl same ↦ let this : m ≡ x = one j x same (get_set_same marks at m lt) is in
        let s : x.search ≡ n = sym (ap (λ (y : Mark). y.search) this) ∙ search in omega arith
    | inr ne ↦ old j x (sym (get_set_other marks at j m ne) ∙ is)
  ];
}
  where
    one : (j : ℕ) (x : Mark) → j ≡ at → slice_get (slice_set marks at m) at ≡ Some m → slice_get (slice_set marks at m) j ≡ Some x → m ≡ x
    one j x same new is = let e : slice_get (slice_set marks at m) at ≡ Some x = ap (slice_get (slice_set marks at m)) (sym same) ∙ is in cc

pub set_here : (n : ℕ) (marks : List Mark) (at : ℕ) (m : Mark) (place : ℕ) → at < length marks → bit_at (held n m) place ≡ 1 → IsHeld n (slice_set marks at m) at place
set_here n marks at m place lt is = ap (λ (b : ℕ). bit_at b place) (held_set_same n marks at m lt) ∙ is

pub set_only : (n : ℕ) (marks : List Mark) (at : ℕ) (m : Mark) (to place : ℕ) → at < length marks → IsHeld n (slice_set marks at m) to place → IsHeld n marks to place ⊎ ((to ≡ at) × (bit_at (held n m) place ≡ 1))
set_only n marks at m to place lt is = elim (cases_eq to at) [
  | inl same ↦ inr (same, ap (λ (b : ℕ). bit_at b place) (sym (ap (held_at n (slice_set marks at m)) same ∙ held_set_same n marks at m lt)) ∙ is)
  | inr ne ↦ inl (ap (λ (b : ℕ). bit_at b place) (sym (held_set_other n marks at to m ne)) ∙ is)
]

pub marks_on : (n : ℕ) (a b c : List Mark) (x y z : List ℕ) → MarksMore n a b x y → MarksMore n b c y z → MarksMore n a c x z
marks_on n a b c x y z g h = record {
  long = h.long ∙ g.long;
  keeps = λ at place is. h.keeps at place (g.keeps at place is);
  fresh = λ at place is. elim (h.fresh at place is) [
    | inl old ↦ elim (g.fresh at place old) [ inl older ↦ inl older | inr waits ↦ inr (h.todo_stays at waits) ]
    | inr waits ↦ inr waits
  ];
  todo_stays = λ at has. h.todo_stays at (g.todo_stays at has);
  todo_inside = λ at has. elim (h.todo_inside at has) [ inl old ↦ g.todo_inside at old | inr lt ↦ inr (omega (arith, g.long)) ];
  measure = omega (arith, g.measure, h.measure);
  older = λ old. h.older (g.older old);
}

pub way_below : (way : Option ℕ) (many : ℕ) → ((to : ℕ) → way ≡ Some to → to < many) → IfSome way (λ at. at < many)
way_below None many h = tt
way_below (Some at) many h = h at refl

-- marks of earlier searches do not count
held_none : (n : ℕ) (marks : List Mark) (at : ℕ) → AreOlder n marks → held_at n marks at ≡ 0
held_none n [] at old = refl
held_none n (m ∷ marks) zero old =
    let below : m.search < n = old 0 m refl in held_other n m (λ e. absurd (omega arith))
held_none n (m ∷ marks) (suc at) old = held_none n marks at (λ i x is. old (suc i) x is)

pub none_held : (n : ℕ) (marks : List Mark) (at place : ℕ) → AreOlder n marks → IsHeld n marks at place → ⊥
none_held n marks at place old is =
    let none : bit_at 0 place ≡ 1 = ap (λ (b : ℕ). bit_at b place) (sym (held_none n marks at old)) ∙ is in
    omega (arith, bit_at-zero place)

-- the search has begun
pub tracing_begun : (graph : List Node) (n group start : ℕ) (locals : LocalSet) (marks new : List Mark) (todo later : List ℕ) → IsReady n (length graph) marks todo → start < length graph →
    MarksMore n marks new todo later → ((place : ℕ) → Has locals place → IsHeld n new start place) →
    ((to place : ℕ) → IsHeld n new to place → IsHeld n marks to place ⊎ ((to ≡ start) × Has locals place)) → IsTracing graph n group start locals new later
tracing_begun graph n group start locals marks new todo later ready inside more here only = record {
  long = more.long ∙ ready.long;
  begin = λ k is. (is.0, here (k % 64) is.1);
  ways = λ at k is. elim (only at (k % 64) is.1) [
    | inl was ↦ absurd (none_held n marks at (k % 64) ready.older was)
    | inr now ↦ ((is.0, now.1), subst (λ (i : ℕ). Carries graph start k i) (sym now.0) Begin)
  ];
  each = λ at k is. elim (more.fresh at (k % 64) is.1) [ inl was ↦ absurd (none_held n marks at (k % 64) ready.older was) | inr waits ↦ inl waits ];
  inside = λ at has. elim (more.todo_inside at has) [ inl was ↦ absurd (empty at (subst (λ (xs : List ℕ). Contains xs at) ready.idle was)) | inr lt ↦ omega (arith, ready.long) ];
  older = more.older (λ at m is. let below : m.search < n = ready.older at m is in omega arith);
}

passed_on : (graph : List Node) (n group : ℕ) (marks new : List Mark) (todo later : List ℕ) (at k : ℕ) → MarksMore n marks new todo later → IsPassed graph n marks group at k → IsPassed graph n new group at k
passed_on graph n group marks new todo later at k more p = (p.0, p.1, p.2, λ ne to leads. let w = p.3 ne to leads in (w.0, more.keeps to (k % 64) w.1))

-- one more address is done
pub tracing_on : (graph : List Node) (n group start : ℕ) (locals : LocalSet) (marks new : List Mark) (todo rest later : List ℕ) (at : ℕ) → IsTracing graph n group start locals marks todo → todo ≡ rest ++ at ∷ [] →
    MarksMore n marks new rest later → ((k : ℕ) → IsMarked n marks group at k → IsPassed graph n new group at k) →
    ((to k : ℕ) → IsMarked n new group to k → IsMarked n marks group to k ⊎ Passes graph n marks group at to k) → IsTracing graph n group start locals new later
tracing_on graph n group start locals marks new todo rest later at t is more done ways = record {
  long = more.long ∙ t.long;
  begin = λ k has. let w = t.begin k has in (w.0, more.keeps start (k % 64) w.1);
  ways = λ to k marked. elim (ways to k marked) [
    | inl was ↦ t.ways to k was
    | inr now ↦ let w = t.ways at k now.4 in (w.0, Pass at to now.0 w.1 now.1 now.2 now.3)
  ];
  each = λ j k marked. elim (more.fresh j (k % 64) marked.1) [
    | inl old ↦ elim (cases_eq j at) [
      | inl same ↦ inr (subst (λ (i : ℕ). IsPassed graph n new group i k) (sym same) (done k (marked.0, subst (λ (i : ℕ). IsHeld n marks i (k % 64)) same old)))
      | inr ne ↦ elim (t.each j k (marked.0, old)) [
        | inl waits ↦ elim (Contains-push_cases rest at j (subst (λ (xs : List ℕ). Contains xs j) is waits)) [
          | inl before ↦ inl (more.todo_stays j before)
          | inr same ↦ absurd (ne (sym same))
        ]
        | inr passed ↦ inr (passed_on graph n group marks new rest later j k more passed)
      ]
    ]
    | inr waits ↦ inl waits
  ];
  inside = λ j has. elim (more.todo_inside j has) [
    | inl was ↦ t.inside j (subst (λ (xs : List ℕ). Contains xs j) (sym is) (Contains-append_left rest (at ∷ []) j was))
    | inr lt ↦ omega (arith, t.long)
  ];
  older = more.older t.older;
}

-- the address that is taken is inside
pub taken_inside : (graph : List Node) (n group start : ℕ) (locals : LocalSet) (marks : List Mark) (todo rest : List ℕ) (at : ℕ) → IsTracing graph n group start locals marks todo → todo ≡ rest ++ at ∷ [] → at < length graph
taken_inside graph n group start locals marks todo rest at t is = t.inside at (subst (λ (xs : List ℕ). Contains xs at) (sym is) (Contains-push rest at))

-- at the end each way's local is marked
traced : (graph : List Node) (n group start : ℕ) (locals : LocalSet) (marks : List Mark) (todo : List ℕ) → IsTracing graph n group start locals marks todo → todo ≡ [] → (k : ℕ) → IsIn group locals k → (at : ℕ) → Carries graph start k at →
    IsMarked n marks group at k × IsPassed graph n marks group at k
traced graph n group start locals marks todo t none k is_in = by_way
  where
    passed : (at : ℕ) → IsMarked n marks group at k → IsPassed graph n marks group at k
    passed at marked = elim (t.each at k marked) [
      | inl waits ↦ absurd (empty at (subst (λ (xs : List ℕ). Contains xs at) none waits))
      | inr done ↦ done
    ]

    by_way : (at : ℕ) → Carries graph start k at → IsMarked n marks group at k × IsPassed graph n marks group at k
    by_way at Begin = let m = t.begin k is_in in (m, passed start m)
    by_way i (Pass at to node way is ne leads) =
        let p = (by_way at way).1 in
        let same : p.0 ≡ node = same_Some p.0 node (sym p.1 ∙ is) in
        let m = p.3 (λ e. ne (sym (ap (λ (x : Node). x.stores) same) ∙ e)) to (subst (λ (x : Node). LeadsTo x to) (sym same) leads) in
        (m, passed to m)

pub reads_none : (graph : List Node) (n group start : ℕ) (locals : LocalSet) (marks : List Mark) (todo : List ℕ) → IsTracing graph n group start locals marks todo → todo ≡ [] → ReadsNone graph group start locals
reads_none graph n group start locals marks todo t none at k node is_in way is reads =
    let p = (traced graph n group start locals marks todo t none k is_in at way).1 in
    let same : p.0 ≡ node = same_Some p.0 node (sym p.1 ∙ is) in
    p.2 (ap (λ (x : Node). x.reads) same ∙ reads)

pub ready_again : (graph : List Node) (n group start : ℕ) (locals : LocalSet) (marks : List Mark) (todo : List ℕ) → IsTracing graph n group start locals marks todo → todo ≡ [] → IsReady (n + 1) (length graph) marks todo
ready_again graph n group start locals marks todo t none = record { long = t.long; older = t.older; idle = none }

-- the address that is waiting reads this local
pub reads_unset : (graph : List Node) (n group start : ℕ) (locals : LocalSet) (marks : List Mark) (todo : List ℕ) (at k : ℕ) → IsTracing graph n group start locals marks todo →
    IsMarked n marks group at k × (node : Node) × (slice_get graph at ≡ Some node) × (node.reads ≡ Some k) → ReadsUnset graph group start locals at k
reads_unset graph n group start locals marks todo at k t w =
    let way = t.ways at k w.0 in record { node = w.1; is = w.2; reads = w.3; is_in = way.0; carries = way.1 }
