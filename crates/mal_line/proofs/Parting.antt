-- The parts of a statement are read exactly where they are spelled.
use Rattle.mal_line.proofs.Common.{◌≡◌, ℕ, suc, ◌+◌, Bool, true, false, List, [], ◌∷◌, ◌++◌, Option, Some, None, refl, sym, ap, subst, ◌∙◌, arith, cond}
use Rattle.mal_line.proofs.Common.{option_and_then, is_some, append-nil, Machine, bound, Mem, Test, Token, Assignment, Piece, Next, Tree, PendingIf, Gathered}
use Rattle.micro_word.specs.declared.statement.Mem.TheVariants as mems
use Rattle.mal_line.specs.declared.piece.Piece.TheVariants as found
use Rattle.mal_line.specs.declared.next.Next.TheVariants as nexts
use Rattle.mal_line.specs.Prelude.{AreNothing, AreParts, AreTree, assign, assignments, counted, fetch_count, fetches, IsElse, IsGoto, IsIf, IsJumpLast, IsMem, jump, jumps_of, Kind, listed, listed_mem, memories, memory, nothing, pieces, add, add_after, add_by, add_else, add_free, add_tokens, adds, empty, gathered_jump, is_access, piece_of, tree_of}
use Rattle.mal_line.proofs.Piecing.{IsPiece, piece_again, piece_is}

-- where a statement says that it goes next
abbrev Jump : Type 0
Jump = Option (Next (List ℕ))

-- no `if` waits
at : Tree → Gathered
at s = record { tree = s; waiting = None }

LastAfter : Option Jump → List Kind → Type 0
LastAfter None ps = IsJumpLast ps
LastAfter (Some j) ps = AreNothing ps

-- with these parts the tree becomes the other
record Becomes (s : Tree) (ps : List Kind) (t : Tree) : Type 0 where
  assignment : listed s.assignment ++ assignments ps ≡ listed t.assignment
  memory : listed_mem s.mem ++ memories ps ≡ listed_mem t.mem
  fetch : counted s.fetch + fetch_count ps ≡ counted t.fetch
  next : listed s.next ++ jumps_of ps ≡ listed t.next
  last : LastAfter s.next ps

adds_one : (m : Machine) (s u : Gathered) (p : Piece) (x : List Token) (xs : List (List Token)) → IsPiece m p x → add s p ≡ Some u → adds m s (x ∷ xs) ≡ adds m u xs
unfolding adds
adds_one m s u p x xs is h =
    let k : add_tokens m s x ≡ Some u = ap (option_and_then (add s)) (piece_again m x p is) ∙ h in
    ap (option_and_then (λ t. adds m t xs)) k

-- ---- what is spelled is read

same_option : {A : Type 0} (a b : Option A) → listed a ++ [] ≡ listed b → a ≡ b
same_option None None h = refl
same_option (Some a) (Some b) h = cc
same_option None (Some b) h = absurd (cc)
same_option (Some a) None h = absurd (cc)

same_mem : (a b : Mem) → listed_mem a ++ [] ≡ listed_mem b → a ≡ b
same_mem mems.None mems.None h = refl
same_mem mems.Read mems.Read h = refl
same_mem mems.Write mems.Write h = refl
same_mem _ _ h = absurd (cc)

same_fetch : (a b : Bool) → counted a + 0 ≡ counted b → a ≡ b
same_fetch true true h = refl
same_fetch false false h = refl
same_fetch true false h = absurd (omega arith)
same_fetch false true h = absurd (omega arith)

none_end : (s t : Tree) → Becomes s [] t → s ≡ t
none_end s t b = one s.assignment t.assignment s.mem t.mem s.fetch t.fetch s.next t.next (same_option s.assignment t.assignment b.assignment) (same_mem s.mem t.mem b.memory) (same_fetch s.fetch t.fetch b.fetch) (same_option s.next t.next b.next)
  where
    one : (a a2 : Option Assignment) (b b2 : Mem) (c c2 : Bool) (d d2 : Option Jump) → a ≡ a2 → b ≡ b2 → c ≡ c2 → d ≡ d2
        → ◌≡◌ {A = Tree} (record { assignment = a; mem = b; fetch = c; next = d }) (record { assignment = a2; mem = b2; fetch = c2; next = d2 })
    one a a2 b b2 c c2 d d2 p q r v = rw (p, q, r, v) refl

Goal : Machine → List Kind → Type 0
Goal m ps = (s t : Tree) (xs : List (List Token)) → AreParts m xs ps → Becomes s ps t → adds m (at s) xs ≡ Some t

go_end : (m : Machine) → Goal m []
unfolding Goal at adds
go_end m s t xs are b = ap (adds m (at s)) are ∙ ap Some (none_end s t b)

go_nothing : (m : Machine) (ps : List Kind) → Goal m ps → Goal m (nothing ∷ ps)
unfolding Goal at LastAfter
go_nothing m ps rec s t [] are b = absurd are
go_nothing m ps rec s t (x ∷ xs) are b = step s.next refl b.last
  where
    step : (n : Option Jump) → s.next ≡ n → LastAfter n (nothing ∷ ps) → adds m (at s) (x ∷ xs) ≡ Some t
    step None e l =
        let k : add (at s) found.Nothing ≡ Some (at s) = ap (λ o. add_by s None o found.Nothing) e in
        adds_one m (at s) (at s) found.Nothing x xs are.0 k ∙ rec s t xs are.1 (record { assignment = b.assignment; memory = b.memory; fetch = b.fetch; next = b.next; last = rw e l })
    step (Some n) e l =
        let k : add (at s) found.Nothing ≡ Some (at s) = ap (λ o. add_by s None o found.Nothing) e in
        adds_one m (at s) (at s) found.Nothing x xs are.0 k ∙ rec s t xs are.1 (record { assignment = b.assignment; memory = b.memory; fetch = b.fetch; next = b.next; last = rw e l })

two_no : {A : Type 0} (a b : A) (o : Option A) (xs : List A) → (a ∷ []) ++ (b ∷ xs) ≡ listed o → ⊥
two_no a b None xs h = cc
two_no a b (Some c) xs h = cc

two_mem : (a b : Mem) (o : Mem) (xs : List Mem) → is_access a ≡ true → listed_mem a ++ (b ∷ xs) ≡ listed_mem o → ⊥
two_mem mems.None b o xs i h = cc
two_mem mems.Read b mems.None xs i h = cc
two_mem mems.Read b mems.Read xs i h = cc
two_mem mems.Read b mems.Write xs i h = cc
two_mem mems.Write b mems.None xs i h = cc
two_mem mems.Write b mems.Read xs i h = cc
two_mem mems.Write b mems.Write xs i h = cc

go_assign : (m : Machine) (a : Assignment) (ps : List Kind) → Goal m ps → Goal m (assign a ∷ ps)
unfolding Goal at LastAfter
go_assign m a ps rec s t [] are b = absurd are
go_assign m a ps rec s t (x ∷ xs) are b = step s.next s.assignment refl refl b.last
  where
    step : (n : Option Jump) (o : Option Assignment) → s.next ≡ n → s.assignment ≡ o → LastAfter n (assign a ∷ ps) → adds m (at s) (x ∷ xs) ≡ Some t
    step (Some n) o e f l = absurd l
    step None (Some d) e f l = absurd (two_no d a t.assignment (assignments ps) (subst (λ o. listed o ++ assignments (assign a ∷ ps) ≡ listed t.assignment) f b.assignment))
    step None None e f l =
        let u : Tree = record s { assignment = Some a } in
        let k : add (at s) (found.Assign a) ≡ Some (at u) = ap (λ o. add_by s None o (found.Assign a)) e ∙ ap (λ (o : Option Assignment). cond {A = Option Gathered} (is_some o) None (Some (at u))) f in
        let h : (a ∷ []) ++ assignments ps ≡ listed t.assignment = subst (λ o. listed o ++ assignments (assign a ∷ ps) ≡ listed t.assignment) f b.assignment in
        adds_one m (at s) (at u) (found.Assign a) x xs are.0 k ∙ rec u t xs are.1 (record { assignment = h; memory = b.memory; fetch = b.fetch; next = b.next; last = rw e l })

is_mem : (x : List Token) (a : Mem) → IsMem x a → listed_mem a ≡ a ∷ []
is_mem x mems.None i = absurd i
is_mem x mems.Read i = refl
is_mem x mems.Write i = refl

no_access : (a : Mem) → is_access a ≡ false → a ≡ mems.None
no_access mems.None h = refl
no_access mems.Read h = absurd (cc)
no_access mems.Write h = absurd (cc)

go_memory : (m : Machine) (a : Mem) (ps : List Kind) → Goal m ps → Goal m (memory a ∷ ps)
unfolding Goal at LastAfter
go_memory m a ps rec s t [] are b = absurd are
go_memory m a ps rec s t (x ∷ xs) are b = step s.next (is_access s.mem) refl refl b.last
  where
    step : (n : Option Jump) (i : Bool) → s.next ≡ n → is_access s.mem ≡ i → LastAfter n (memory a ∷ ps) → adds m (at s) (x ∷ xs) ≡ Some t
    step (Some n) i e f l = absurd l
    step None true e f l = absurd (two_mem s.mem a t.mem (memories ps) f b.memory)
    step None false e f l =
        let u : Tree = record s { mem = a } in
        let k : add (at s) (found.Mem a) ≡ Some (at u) = ap (λ o. add_by s None o (found.Mem a)) e ∙ ap (λ (i : Bool). cond {A = Option Gathered} i None (Some (at u))) f in
        let h : a ∷ memories ps ≡ listed_mem t.mem = subst (λ o. listed_mem o ++ (a ∷ memories ps) ≡ listed_mem t.mem) (no_access s.mem f) b.memory in
        let h2 : listed_mem a ++ memories ps ≡ listed_mem t.mem = ap (λ bs. bs ++ memories ps) (is_mem x a are.0) ∙ h in
        adds_one m (at s) (at u) (found.Mem a) x xs are.0 k ∙ rec u t xs are.1 (record { assignment = b.assignment; memory = h2; fetch = b.fetch; next = b.next; last = rw e l })

two_fetch : (n : ℕ) (b : Bool) → 1 + suc n ≡ counted b → ⊥
two_fetch n true h = omega arith
two_fetch n false h = omega arith

go_fetch : (m : Machine) (ps : List Kind) → Goal m ps → Goal m (fetches ∷ ps)
unfolding Goal at LastAfter
go_fetch m ps rec s t [] are b = absurd are
go_fetch m ps rec s t (x ∷ xs) are b = step s.next s.fetch refl refl b.last
  where
    step : (n : Option Jump) (i : Bool) → s.next ≡ n → s.fetch ≡ i → LastAfter n (fetches ∷ ps) → adds m (at s) (x ∷ xs) ≡ Some t
    step (Some n) i e f l = absurd l
    step None true e f l = absurd (two_fetch (fetch_count ps) t.fetch (subst (λ i. counted i + suc (fetch_count ps) ≡ counted t.fetch) f b.fetch))
    step None false e f l =
        let u : Tree = record s { fetch = true } in
        let k : add (at s) found.Fetch ≡ Some (at u) = ap (λ o. add_by s None o found.Fetch) e ∙ ap (λ (i : Bool). cond {A = Option Gathered} i None (Some (at u))) f in
        let h : 0 + suc (fetch_count ps) ≡ counted t.fetch = subst (λ i. counted i + suc (fetch_count ps) ≡ counted t.fetch) f b.fetch in
        let h2 : 1 + fetch_count ps ≡ counted t.fetch = omega (arith, h) in
        adds_one m (at s) (at u) found.Fetch x xs are.0 k ∙ rec u t xs are.1 (record { assignment = b.assignment; memory = b.memory; fetch = h2; next = b.next; last = rw e l })

-- after a jump
went : (s t : Tree) (j : Jump) (ps : List Kind) → s.next ≡ None → AreNothing ps → Becomes s (jump j ∷ ps) t → Becomes (record s { next = Some j }) ps t
unfolding LastAfter
went s t j ps e l b =
    let h : (j ∷ []) ++ jumps_of ps ≡ listed t.next = subst (λ o. listed o ++ jumps_of (jump j ∷ ps) ≡ listed t.next) e b.next in
    record { assignment = b.assignment; memory = b.memory; fetch = b.fetch; next = h; last = l }

go_one : (m : Machine) (j : Jump) (p : Piece) (ps : List Kind) → ((s : Tree) → add_free s p ≡ Some (gathered_jump s j)) → Goal m ps → (s t : Tree) (x : List Token) (xs : List (List Token)) → IsPiece m p x → AreParts m xs ps → Becomes s (jump j ∷ ps) t → adds m (at s) (x ∷ xs) ≡ Some t
unfolding Goal at LastAfter
go_one m j p ps adding rec s t x xs is are b = step s.next refl b.last
  where
    step : (o : Option Jump) → s.next ≡ o → LastAfter o (jump j ∷ ps) → adds m (at s) (x ∷ xs) ≡ Some t
    step (Some o) e l = absurd l
    step None e l =
        let u : Tree = record s { next = Some j } in
        let k : add (at s) p ≡ Some (at u) = ap (λ o. add_by s None o p) e ∙ adding s in
        adds_one m (at s) (at u) p x xs is k ∙ rec u t xs are (went s t j ps e l b)

go_jump : (m : Machine) (j : Jump) (ps : List Kind) → Goal m ps → Goal m (jump j ∷ ps)
unfolding Goal at LastAfter
go_jump m j ps rec s t [] are b = absurd are
go_jump m (Some (nexts.Branch f y n)) ps rec s t (x ∷ []) are b = absurd are
go_jump m (Some (nexts.Branch f y n)) ps rec s t (x ∷ x2 ∷ xs) are b = step s.next refl b.last
  where
    step : (o : Option Jump) → s.next ≡ o → LastAfter o (jump (Some (nexts.Branch f y n)) ∷ ps) → adds m (at s) (x ∷ x2 ∷ xs) ≡ Some t
    step (Some o) e l = absurd l
    step None e l =
        let u : Gathered = record { tree = s; waiting = Some (record { test = f; high = y }) } in
        let v : Tree = record s { next = Some (Some (nexts.Branch f y n)) } in
        let k : add (at s) (found.If f y) ≡ Some u = ap (λ o. add_by s None o (found.If f y)) e in
        adds_one m (at s) u (found.If f y) x (x2 ∷ xs) are.0 k ∙ (adds_one m u (at v) (found.Else n) x2 xs are.1 refl
        ∙ rec v t xs are.2 (went s t (Some (nexts.Branch f y n)) ps e l b))
go_jump m j ps rec s t (x ∷ xs) are b = go_one m j (found.Jump j) ps (λ s. refl) rec s t x xs are.0 are.1 b

all_again : (m : Machine) (ps : List Kind) → Goal m ps
all_again m [] = go_end m
all_again m (nothing ∷ ps) = go_nothing m ps (all_again m ps)
all_again m (assign a ∷ ps) = go_assign m a ps (all_again m ps)
all_again m (memory a ∷ ps) = go_memory m a ps (all_again m ps)
all_again m (fetches ∷ ps) = go_fetch m ps (all_again m ps)
all_again m (jump j ∷ ps) = go_jump m j ps (all_again m ps)

zero_plus : (n : ℕ) (b : Bool) → n ≡ counted b → 0 + n ≡ counted b
zero_plus n b h = omega (arith, h)

-- what is spelled is read
pub tree_again : (m : Machine) (ts : List Token) (t : Tree) → AreTree m ts t → tree_of m ts ≡ Some t
unfolding Goal at LastAfter
tree_again m ts t h = all_again m h.parts empty t (pieces ts) h.are (record { assignment = h.assignment; memory = h.memory; fetch = zero_plus (fetch_count h.parts) t.fetch h.fetch; next = h.next; last = h.last })

-- ---- what is read is spelled

Found : Machine → Tree → List (List Token) → Tree → Type 0
Found m s xs t = (ps : List Kind) × AreParts m xs ps × Becomes s ps t

Rest : Machine → List (List Token) → Type 0
Rest m xs = (s t : Tree) → adds m (at s) xs ≡ Some t → Found m s xs t

-- after an `if`
Fork : Machine → List (List Token) → Type 0
Fork m xs = (h : PendingIf) (u t : Tree) → adds m (record { tree = u; waiting = Some h }) xs ≡ Some t
    → (n : List ℕ) × (x2 : List Token) × (xs2 : List (List Token)) × (xs ≡ x2 ∷ xs2) × IsElse x2 n × Found m (record u { next = Some (Some (nexts.Branch h.test h.high n)) }) xs2 t

same_becomes : (s : Tree) → Becomes s [] s
unfolding LastAfter
same_becomes s = record { assignment = append-nil (listed s.assignment); memory = append-nil (listed_mem s.mem); fetch = omega arith; next = append-nil (listed s.next); last = ends s.next }
  where
    ends : (o : Option Jump) → LastAfter o []
    ends None = tt
    ends (Some n) = tt

end_is : (m : Machine) (s t : Tree) → Some s ≡ Some t → Found m s [] t
unfolding Found
end_is m s t h = let e : s ≡ t = cc in ([], refl, subst (Becomes s []) e (same_becomes s))

-- a jump in front
jumped : (s t : Tree) (j : Jump) (ps : List Kind) → s.next ≡ None → Becomes (record s { next = Some j }) ps t → Becomes s (jump j ∷ ps) t
unfolding LastAfter
jumped s t j ps e b = record {
  assignment = b.assignment;
  memory = b.memory;
  fetch = b.fetch;
  next = subst (λ o. listed o ++ jumps_of (jump j ∷ ps) ≡ listed t.next) (sym e) b.next;
  last = subst (λ o. LastAfter o (jump j ∷ ps)) (sym e) b.last;
}

forked : (m : Machine) (x x2 : List Token) (xs xs2 : List (List Token)) (s t : Tree) (f : Test) (y n : List ℕ) → xs ≡ x2 ∷ xs2 → IsIf x f y → IsElse x2 n → s.next ≡ None
    → Found m (record s { next = Some (Some (nexts.Branch f y n)) }) xs2 t → Found m s (x ∷ xs) t
unfolding Found
forked m x x2 xs xs2 s t f y n split is_if is_else e r =
    (jump (Some (nexts.Branch f y n)) ∷ r.0, subst (λ zs. AreParts m (x ∷ zs) (jump (Some (nexts.Branch f y n)) ∷ r.0)) (sym split) (is_if, is_else, r.1), jumped s t (Some (nexts.Branch f y n)) r.0 e r.2)

-- a jump of one piece
one_part : (m : Machine) (x : List Token) (xs : List (List Token)) (j : Jump) (ps : List Kind) → IsGoto x j → AreParts m xs ps
    → AreParts m (x ∷ xs) (jump j ∷ ps)
one_part m x xs (Some (nexts.Branch f y n)) ps is are = absurd is
one_part m x xs j ps is are = (is, are)

free_is : (m : Machine) (x : List Token) (xs : List (List Token)) (s t : Tree) (v : Gathered) (p : Piece) → s.next ≡ None → IsPiece m p x → add_free s p ≡ Some v → adds m v xs ≡ Some t → Rest m xs → Fork m xs → Found m s (x ∷ xs) t
unfolding Rest Fork Found at LastAfter
free_is m x xs s t v found.Nothing e is h k rest pair =
    let same : at s ≡ v = cc in
    let r = rest s t (subst (λ w. adds m w xs ≡ Some t) (sym same) k) in
    (nothing ∷ r.0, (is, r.1), record { assignment = r.2.assignment; memory = r.2.memory; fetch = r.2.fetch; next = r.2.next; last = subst (λ o. LastAfter o (nothing ∷ r.0)) (sym e) (subst (λ o. LastAfter o r.0) e r.2.last) })
free_is m x xs s t v (found.Assign a) e is h k rest pair = step s.assignment refl h
  where
    step : (o : Option Assignment) → s.assignment ≡ o → cond (is_some o) None (Some (at (record s { assignment = Some a }))) ≡ Some v → Found m s (x ∷ xs) t
    step (Some d) f h = absurd (cc)
    step None f h =
        let u : Tree = record s { assignment = Some a } in
        let same : at u ≡ v = cc in
        let r = rest u t (subst (λ w. adds m w xs ≡ Some t) (sym same) k) in (
          assign a ∷ r.0,
          (is, r.1),
          record {
            assignment = subst (λ o. listed o ++ assignments (assign a ∷ r.0) ≡ listed t.assignment) (sym f) r.2.assignment;
            memory = r.2.memory;
            fetch = r.2.fetch;
            next = r.2.next;
            last = subst (λ o. LastAfter o (assign a ∷ r.0)) (sym e) (subst (λ o. LastAfter o r.0) e r.2.last);
          },
        )
free_is m x xs s t v (found.Mem a) e is h k rest pair = step (is_access s.mem) refl h
  where
    step : (i : Bool) → is_access s.mem ≡ i → cond i None (Some (at (record s { mem = a }))) ≡ Some v → Found m s (x ∷ xs) t
    step true f h = absurd (cc)
    step false f h =
        let u : Tree = record s { mem = a } in
        let same : at u ≡ v = cc in
        let r = rest u t (subst (λ w. adds m w xs ≡ Some t) (sym same) k) in
        let e2 : a ∷ memories r.0 ≡ listed_mem t.mem = ap (λ bs. bs ++ memories r.0) (sym (is_mem x a is)) ∙ r.2.memory in (
          memory a ∷ r.0,
          (is, r.1),
          record {
            assignment = r.2.assignment;
            memory = subst (λ o. listed_mem o ++ (a ∷ memories r.0) ≡ listed_mem t.mem) (sym (no_access s.mem f)) e2;
            fetch = r.2.fetch;
            next = r.2.next;
            last = subst (λ o. LastAfter o (memory a ∷ r.0)) (sym e) (subst (λ o. LastAfter o r.0) e r.2.last);
          },
        )
free_is m x xs s t v found.Fetch e is h k rest pair = step s.fetch refl h
  where
    one_more : (n : ℕ) (b : Bool) → 1 + n ≡ counted b → 0 + suc n ≡ counted b
    one_more n b h = omega (arith, h)

    step : (i : Bool) → s.fetch ≡ i → cond i None (Some (at (record s { fetch = true }))) ≡ Some v → Found m s (x ∷ xs) t
    step true f h = absurd (cc)
    step false f h =
        let u : Tree = record s { fetch = true } in
        let same : at u ≡ v = cc in
        let r = rest u t (subst (λ w. adds m w xs ≡ Some t) (sym same) k) in (
          fetches ∷ r.0,
          (is, r.1),
          record {
            assignment = r.2.assignment;
            memory = r.2.memory;
            fetch = subst (λ i. counted i + suc (fetch_count r.0) ≡ counted t.fetch) (sym f) (one_more (fetch_count r.0) t.fetch r.2.fetch);
            next = r.2.next;
            last = subst (λ o. LastAfter o (fetches ∷ r.0)) (sym e) (subst (λ o. LastAfter o r.0) e r.2.last);
          },
        )
free_is m x xs s t v (found.Jump j) e is h k rest pair =
    let same : at (record s { next = Some j }) ≡ v = cc in
    let r = rest (record s { next = Some j }) t (subst (λ w. adds m w xs ≡ Some t) (sym same) k) in
    (jump j ∷ r.0, one_part m x xs j r.0 is r.1, jumped s t j r.0 e r.2)
free_is m x xs s t v (found.If f y) e is h k rest pair =
    let half : PendingIf = record { test = f; high = y } in
    let same : ◌≡◌ {A = Gathered} (record { tree = s; waiting = Some half }) v = cc in
    let q = pair half s t (subst (λ w. adds m w xs ≡ Some t) (sym same) k) in
    forked m x q.1 xs q.2 s t f y q.0 q.3 is q.4 e q.5
free_is m x xs s t v (found.Else n) e is h k rest pair = absurd (cc)

first_is : (m : Machine) (x : List Token) (xs : List (List Token)) (s t : Tree) (v : Gathered) (p : Piece) → IsPiece m p x → add (at s) p ≡ Some v → adds m v xs ≡ Some t → Rest m xs → Fork m xs → Found m s (x ∷ xs) t
unfolding Rest Fork Found at LastAfter
first_is m x xs s t v p is h k rest pair = step s.next refl h
  where
    following : (n : Jump) (p : Piece) → s.next ≡ Some n → IsPiece m p x → add_after s p ≡ Some v → Found m s (x ∷ xs) t
    following n found.Nothing e is h =
        let same : at s ≡ v = cc in
        let r = rest s t (subst (λ w. adds m w xs ≡ Some t) (sym same) k) in
        (nothing ∷ r.0, (is, r.1), record { assignment = r.2.assignment; memory = r.2.memory; fetch = r.2.fetch; next = r.2.next; last = subst (λ o. LastAfter o (nothing ∷ r.0)) (sym e) (subst (λ o. LastAfter o r.0) e r.2.last) })
    following n _ e is h = absurd (cc)

    step : (o : Option Jump) → s.next ≡ o → add_by s None o p ≡ Some v → Found m s (x ∷ xs) t
    step None e h = free_is m x xs s t v p e is h k rest pair
    step (Some n) e h = following n p e is h

else_is : (u : Tree) (h : PendingIf) (p : Piece) (v : Gathered) → add_else u h p ≡ Some v → (n : List ℕ) × (p ≡ found.Else n) × (gathered_jump u (Some (nexts.Branch h.test h.high n)) ≡ v)
else_is u h (found.Else n) v e = (n, refl, cc)
else_is u h _ v e = absurd (cc)

all_is : (m : Machine) (xs : List (List Token)) → Rest m xs × Fork m xs
unfolding Rest Fork adds at
all_is m [] = (λ s t h. end_is m s t h, λ h u t e. absurd (cc))
all_is m (x ∷ xs) = go (all_is m xs)
  where
    go : Rest m xs × Fork m xs → Rest m (x ∷ xs) × Fork m (x ∷ xs)
    go r = (
      λ s t h.
          let p = bound (λ t. adds m t xs) (add_tokens m (at s) x) t h in
          let q = bound (add (at s)) (piece_of m x) p.0 p.1 in
          first_is m x xs s t p.0 q.0 (piece_is m x q.0 q.1) q.2 p.2 r.0 r.1,
      λ h u t e.
          let w : Gathered = record { tree = u; waiting = Some h } in
          let p = bound (λ t. adds m t xs) (add_tokens m w x) t e in
          let q = bound (add w) (piece_of m x) p.0 p.1 in
          let z = else_is u h q.0 p.0 q.2 in
          let k : adds m (gathered_jump u (Some (nexts.Branch h.test h.high z.0))) xs ≡ Some t = subst (λ o. adds m o xs ≡ Some t) (sym z.2) p.2 in
          (z.0, x, xs, refl, subst (λ b. IsPiece m b x) z.1 (piece_is m x q.0 q.1), r.0 (record u { next = Some (Some (nexts.Branch h.test h.high z.0)) }) t k),
    )

plus_zero : (n : ℕ) (b : Bool) → 0 + n ≡ counted b → n ≡ counted b
plus_zero n b h = omega (arith, h)

-- what is read is spelled
pub tree_is : (m : Machine) (ts : List Token) (t : Tree) → tree_of m ts ≡ Some t → AreTree m ts t
unfolding Rest Found at LastAfter
tree_is m ts t h =
    let r = (all_is m (pieces ts)).0 empty t h in
    record { parts = r.0; are = r.1; assignment = r.2.assignment; memory = r.2.memory; fetch = plus_zero (fetch_count r.0) t.fetch r.2.fetch; next = r.2.next; last = r.2.last }
