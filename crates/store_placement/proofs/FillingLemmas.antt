-- A program's statements at a placement have words, and a store is filled with them one by one.
use Rattle.store_placement.proofs.Common.{◌≡◌, ◌≢◌, ℕ, ◌+◌, ◌<◌, true, List, [], ◌∷◌, ◌++◌, Option, Some, None, length, set, replicate, zero, suc, refl, sym}
use Rattle.store_placement.proofs.Common.{ap, subst, ◌∙◌, inl, inr, arith, slice_get, slice_index, option_and_then, IsTrue, filter_map, option_to_list, lt-ltb}
use Rattle.store_placement.proofs.Common.{cases_eq, and_from, length-map, length-set, length-replicate, get_or-replicate, get_or-set_same, get_or-set_other}
use Rattle.store_placement.proofs.Common.{slice_get_within, get_or_from_slice_get, microword_of, is_valid, is_part, is_next, Next, Statement, Pair, Places}
use Rattle.store_placement.proofs.Common.{demands_of, pair_of, statement_pair, placed_next, LeadsInside, placed_statement, placed_default, IsFilled}
use Rattle.mal_line.specs.declared.next.Next.TheVariants as nexts
use Rattle.mal_parser.specs.Prelude.{MalView, IsMalProgram, HasTargets}
use Rattle.store_placement.proofs.Among.{Among, All-among, among_at, among_filter_map}
use Rattle.store_placement.proofs.ProgramLemmas.{labelled_below, fallback_is}

pub placed_count : (p : MalView) (addresses : List ℕ) → Places (demands_of p) addresses → length addresses ≡ length p.statements
unfolding demands_of
placed_count p addresses places = places.count ∙ length-map p.statements (λ s. s.fixed)

leads : (p : MalView) (number : ℕ) (next : Next ℕ) → HasTargets p.statements next → (next ≡ nexts.Following → number + 1 < length p.statements) → LeadsInside (length p.statements) number next
leads p number nexts.Following has goes = goes refl
leads p number (nexts.Goto to) has goes = labelled_below p.statements to has
leads p number (nexts.Dispatch high) has goes = tt
leads p number (nexts.Branch test high low) has goes = labelled_below p.statements low has.1

pub statement_leads : (p : MalView) (addresses : List ℕ) → IsMalProgram p → Places (demands_of p) addresses → (s : ℕ) (t : Statement) → slice_get p.statements s ≡ Some t → LeadsInside (length addresses) s t.next
statement_leads p addresses is places s t here =
    let statement = is.statements s t here in
    let P : ℕ → Type 0 = λ n. LeadsInside n s t.next in
    subst P (sym (placed_count p addresses places)) (leads p s t.next statement.targets statement.followed)

pub fallback_leads : (p : MalView) (addresses : List ℕ) → IsMalProgram p → Places (demands_of p) addresses → (t : Statement) → p.fallback ≡ Some t → LeadsInside (length addresses) 0 t.next
fallback_leads p addresses is places t here =
    let fallback = fallback_is p is t here in
    let P : ℕ → Type 0 = λ n. LeadsInside n 0 t.next in
    subst P (sym (placed_count p addresses places)) (leads p 0 t.next fallback.targets (λ e. absurd (fallback.leads e)))

-- a pair of the program's is one that the placement keeps
kept : (p : MalView) (addresses : List ℕ) → IsMalProgram p → Places (demands_of p) addresses → (pair : Pair) → Among pair (filter_map statement_pair p.statements ++ option_to_list (option_and_then statement_pair p.fallback)) → slice_index addresses pair.yes ≡ slice_index addresses pair.no + 256
unfolding demands_of
kept p addresses is places pair among =
    All-among (λ q. slice_index addresses q.yes ≡ slice_index addresses q.no + 256) (filter_map statement_pair p.statements ++ option_to_list (option_and_then statement_pair p.fallback)) pair places.places.keeps_pairs among

among_left : {X : Type 0} (xs ys : List X) (x : X) → Among x xs → Among x (xs ++ ys)
among_left [] ys x among = absurd among
among_left (z ∷ xs) ys x (inl here) = inl here
among_left (z ∷ xs) ys x (inr later) = inr (among_left xs ys x later)

among_right : {X : Type 0} (xs ys : List X) (x : X) → Among x ys → Among x (xs ++ ys)
among_right [] ys x among = among
among_right (z ∷ xs) ys x among = inr (among_right xs ys x among)

among_from_get : {X : Type 0} (xs : List X) (s : ℕ) (x : X) → slice_get xs s ≡ Some x → Among x xs
among_from_get {X} xs s x here =
    let P : X → Type 0 = λ y. Among y xs in
    subst P (get_or_from_slice_get xs s x x here) (among_at xs s x (slice_get_within xs s x here))

-- a next that leads to placed statements has a code
next_fits : (addresses : List ℕ) (number : ℕ) (next : Next ℕ) → ((k : ℕ) → k < length addresses → slice_index addresses k < 512) → LeadsInside (length addresses) number next
    → ((pair : Pair) → pair_of next ≡ Some pair → pair.yes < length addresses × (slice_index addresses pair.yes ≡ slice_index addresses pair.no + 256)) → is_next (placed_next (slice_index addresses) number next) ≡ true
next_fits addresses number nexts.Following in_store inside pairs = lt-ltb (slice_index addresses (number + 1)) 512 (in_store (number + 1) inside)
next_fits addresses number (nexts.Goto to) in_store inside pairs = lt-ltb (slice_index addresses to) 512 (in_store to inside)
next_fits addresses number (nexts.Dispatch high) in_store inside pairs = refl
next_fits addresses number (nexts.Branch test high low) in_store inside pairs =
    let pair = pairs (record { yes = high; no = low }) refl in
    let high_inside = in_store high pair.0 in
    lt-ltb (slice_index addresses low) 256 (omega (arith, pair.1))

inside_all : (p : MalView) (addresses : List ℕ) → Places (demands_of p) addresses → (k : ℕ) → k < length addresses → slice_index addresses k < 512
unfolding demands_of
inside_all p addresses places k inside = let count = places.count in places.places.in_store k (omega arith)

yes_of : Option Pair → ℕ
yes_of None = 0
yes_of (Some pair) = pair.yes

pair_inside : (p : MalView) (addresses : List ℕ) → IsMalProgram p → Places (demands_of p) addresses → (next : Next ℕ) → HasTargets p.statements next
    → ((pair : Pair) → pair_of next ≡ Some pair → Among pair (filter_map statement_pair p.statements ++ option_to_list (option_and_then statement_pair p.fallback)))
    → (pair : Pair) → pair_of next ≡ Some pair → pair.yes < length addresses × (slice_index addresses pair.yes ≡ slice_index addresses pair.no + 256)
unfolding yes_of
pair_inside p addresses is places nexts.Following has among pair e = cc
pair_inside p addresses is places (nexts.Goto to) has among pair e = cc
pair_inside p addresses is places (nexts.Dispatch high) has among pair e = cc
pair_inside p addresses is places (nexts.Branch test high low) has among pair e =
    let below = labelled_below p.statements high has.0 in
    let count = placed_count p addresses places in
    let same : high ≡ pair.yes = ap (λ (o : Option Pair). yes_of o) e in
    (omega arith, kept p addresses is places pair (among pair e))

pub statement_valid : (p : MalView) (addresses : List ℕ) → IsMalProgram p → Places (demands_of p) addresses → (s : ℕ) (t : Statement) → slice_get p.statements s ≡ Some t → IsTrue (is_valid p.machine (placed_statement (slice_index addresses) s t))
statement_valid p addresses is places s t here =
    let statement = is.statements s t here in
    and_from (is_part p.machine t.part) (is_next (placed_next (slice_index addresses) s t.next)) statement.part
    (next_fits addresses s t.next (inside_all p addresses places) (statement_leads p addresses is places s t here)
    (pair_inside p addresses is places t.next statement.targets (λ pair e.
    among_left (filter_map statement_pair p.statements) (option_to_list (option_and_then statement_pair p.fallback)) pair
    (among_filter_map statement_pair p.statements t pair (among_from_get p.statements s t here) e))))

pub fallback_valid : (p : MalView) (addresses : List ℕ) → IsMalProgram p → Places (demands_of p) addresses → (t : Statement) → p.fallback ≡ Some t → IsTrue (is_valid p.machine (placed_statement (slice_index addresses) 0 t))
fallback_valid p addresses is places t here =
    let fallback = fallback_is p is t here in
    and_from (is_part p.machine t.part) (is_next (placed_next (slice_index addresses) 0 t.next)) fallback.part
    (next_fits addresses 0 t.next (inside_all p addresses places) (fallback_leads p addresses is places t here)
    (pair_inside p addresses is places t.next fallback.targets (λ pair e.
    let P : Option Statement → Type 0 = λ o. Among pair (option_to_list (option_and_then statement_pair o)) in
    let listed : Among pair (option_to_list (statement_pair t)) = subst (λ (o : Option Pair). Among pair (option_to_list o)) (sym e) (inl refl) in
    among_right (filter_map statement_pair p.statements) (option_to_list (option_and_then statement_pair p.fallback)) pair (subst P (sym here) listed))))

-- the statements below `upto` stand at their addresses, and the default at all others
pub record IsFilledUpTo (p : MalView) (addresses words : List ℕ) (upto : ℕ) : Type 0 where
  pub full : length words ≡ 512
  pub done : (s : ℕ) (t : Statement) → s < upto → slice_get p.statements s ≡ Some t → slice_index words (slice_index addresses s) ≡ microword_of p.machine (placed_statement (slice_index addresses) s t)
  pub rest : (a : ℕ) → a < 512 → ((s : ℕ) → s < upto → slice_index addresses s ≢ a) → slice_index words a ≡ microword_of p.machine (placed_default (slice_index addresses) p.fallback)

pub filled_none : (p : MalView) (addresses words : List ℕ) (word n : ℕ) → n ≡ 512 → words ≡ replicate n word → word ≡ microword_of p.machine (placed_default (slice_index addresses) p.fallback) → IsFilledUpTo p addresses words 0
filled_none p addresses words word n size are is = record {
  full = ap length are ∙ (length-replicate n word ∙ size);
  done = λ s t less here. absurd (omega arith);
  rest = λ a inside free. ap (λ ws. slice_index ws a) are ∙ (get_or-replicate n a word 0 (omega arith) ∙ is);
}

pub filled_more : (p : MalView) (addresses words : List ℕ) (s word : ℕ) (t : Statement) → Places (demands_of p) addresses → slice_get p.statements s ≡ Some t → word ≡ microword_of p.machine (placed_statement (slice_index addresses) s t) → IsFilledUpTo p addresses words s → IsFilledUpTo p addresses (set words (slice_index addresses s) word) (s + 1)
unfolding demands_of
filled_more p addresses words s word t places here is h =
    let count = placed_count p addresses places in
    let inside : s < length addresses = let below = slice_get_within p.statements s t here in omega arith in
    let size = inside_all p addresses places s inside in
    let full = h.full in
    record {
      full = length-set words (slice_index addresses s) word ∙ h.full;
      done = λ k u less here_k. elim (cases_eq k s) [
        | inl same ↦
            let equal : Some t ≡ Some u = sym here ∙ (ap (slice_get p.statements) (sym same) ∙ here_k) in
            let one : t ≡ u = cc in
            ap (λ j. slice_index (set words (slice_index addresses s) word) (slice_index addresses j)) same
            ∙ (get_or-set_same words (slice_index addresses s) word 0 (omega arith)
            ∙ (is ∙ (ap (λ v. microword_of p.machine (placed_statement (slice_index addresses) s v)) one ∙ ap (λ j. microword_of p.machine (placed_statement (slice_index addresses) j u)) (sym same))))
        | inr other ↦
            let below : k < length addresses = let b = slice_get_within p.statements k u here_k in omega arith in
            let apart : slice_index addresses k ≢ slice_index addresses s = λ e. other (places.places.apart k s (let c = places.count in omega arith) (let c = places.count in omega arith) e) in
            get_or-set_other words (slice_index addresses s) (slice_index addresses k) word 0 apart ∙ h.done k u (omega (arith, other)) here_k
      ];
      rest = λ a inside_a free.
          get_or-set_other words (slice_index addresses s) a word 0 (λ e. free s (omega arith) (sym e)) ∙ h.rest a inside_a (λ k less. free k (omega arith));
    }

pub element_at : {X : Type 0} (xs : List X) (s : ℕ) → s < length xs → (x : X) × (slice_get xs s ≡ Some x)
element_at [] s inside = absurd (omega arith)
element_at (x ∷ xs) zero inside = (x, refl)
element_at (x ∷ xs) (suc s) inside = element_at xs s (omega arith)

pub filled_all : (p : MalView) (addresses words : List ℕ) → IsMalProgram p → Places (demands_of p) addresses → IsTrue (is_valid p.machine (placed_default (slice_index addresses) p.fallback)) → IsFilledUpTo p addresses words (length p.statements) → IsFilled p addresses words
filled_all p addresses words is places valid h = record {
  statements = λ s t here. record {
    valid = statement_valid p addresses is places s t here;
    whole = sym (h.done s t (slice_get_within p.statements s t here) here);
  };
  others = λ a inside free. record { valid = valid; whole = sym (h.rest a inside free) };
}
