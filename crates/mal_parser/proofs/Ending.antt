-- The refusals of a whole source.
use Rattle.mal_parser.proofs.Common.{◌≡◌, ℕ, suc, ◌+◌, ◌-◌, ◌≤◌, Bool, true, false, List, [], ◌∷◌, ◌++◌, Option, Some, None, length, refl, sym, ap, subst}
use Rattle.mal_parser.proofs.Common.{◌∙◌, arith, cond, Err, find, slice_get, not, min, option_map, ◌||◌, ◌&&◌, IsSome, cons_option, list_any, and_right}
use Rattle.mal_parser.proofs.Common.{is_some, some_place, Machine, Content, Next, MalError, Draft, Fix}
use Rattle.mal_line.specs.declared.content.Content.TheVariants as said
use Rattle.mal_line.specs.declared.next.Next.TheVariants as nexts
use Rattle.mal_parser.specs.declared.error.MalError.TheVariants as errors
use Rattle.mal_parser.specs.Prelude.{own_label, address_of, has_label, AreAddresses, AreRefused, fallbacks_from, falls, falls_off, FallsOff, fixes_from, is_statement, IsAt, IsFine, IsFirst, names_unknown, NamesUnknown, Never, statements, statements_from, targets_of, by_entry, by_falling, by_unknown, earlier, falling, first, first_falling, first_unknown, knows, main1, number_of, resolved_program, sketch_of, unknown_draft, unknown_fix, unknown_in}

-- ---- the first line that names an unknown label

-- a line that is not before this one
AtLeast : ℕ → Option ℕ → Type 0
AtLeast k None = Unit {0}
AtLeast k (Some n) = k ≤ n

earlier_least : (k : ℕ) (a b : Option ℕ) → AtLeast k a → AtLeast k b → AtLeast k (earlier a b)
unfolding AtLeast
earlier_least k None b h g = g
earlier_least k (Some a) None h g = h
earlier_least k (Some a) (Some b) h g = omega arith

first_wins : (k : ℕ) (o : Option ℕ) → AtLeast (k + 1) o → earlier (Some k) o ≡ Some k
unfolding AtLeast
first_wins k None h = refl
first_wins k (Some n) h = let e : min k n ≡ k = omega arith in ap Some e

second_wins : (k : ℕ) (o : Option ℕ) → AtLeast (k + 1) o → earlier o (Some k) ≡ Some k
unfolding AtLeast
second_wins k None h = refl
second_wins k (Some n) h = let e : min n k ≡ k = omega arith in ap Some e

least_more : (k : ℕ) (o : Option ℕ) → AtLeast (k + 1) o → AtLeast k o
unfolding AtLeast
least_more k None h = tt
least_more k (Some n) h = omega arith

found_least : {A : Type 0} (line : A → ℕ) (k : ℕ) (b : Bool) (a : A) (o : Option A) → k ≤ line a → AtLeast k (option_map line o) → AtLeast k (option_map line (cond b (Some a) o))
unfolding AtLeast
found_least line k true a o h g = h
found_least line k false a o h g = g

module _ (ds : List Draft) where
  drafts_least : (cs : List Content) (k : ℕ) → AtLeast k (unknown_draft ds (statements_from k cs))
  unfolding AtLeast
  drafts_least [] k = tt
  drafts_least (said.Statement l p ∷ cs) k =
      found_least (λ (d : Draft). d.line) k (not (knows ds p.next)) (record { label = l; line = k; parts = p }) (find (λ d. not (knows ds d.parts.next)) (statements_from (k + 1) cs)) (omega arith)
      (least_more k (unknown_draft ds (statements_from (k + 1) cs)) (drafts_least cs (k + 1)))
  drafts_least (c ∷ cs) k = least_more k (unknown_draft ds (statements_from (k + 1) cs)) (drafts_least cs (k + 1))

  fixes_least : (cs : List Content) (k : ℕ) → AtLeast k (unknown_fix ds (fixes_from k cs))
  unfolding AtLeast
  fixes_least [] k = tt
  fixes_least (said.Fix l n ∷ cs) k = go (address_of n) (least_more k (unknown_fix ds (fixes_from (k + 1) cs)) (fixes_least cs (k + 1)))
    where
      go : (o : Option ℕ) → AtLeast k (unknown_fix ds (fixes_from (k + 1) cs)) → AtLeast k (unknown_fix ds (cons_option (option_map {U = Fix} (λ address. record { label = l; line = k; address = address }) o) (fixes_from (k + 1) cs)))
      go None h = h
      go (Some a) h = found_least (λ (f : Fix). f.line) k (not (has_label ds l)) (record { label = l; line = k; address = a }) (find (λ f. not (has_label ds f.label)) (fixes_from (k + 1) cs)) (omega arith) h
  fixes_least (c ∷ cs) k = least_more k (unknown_fix ds (fixes_from (k + 1) cs)) (fixes_least cs (k + 1))

  fallback_least : (cs : List Content) (k : ℕ) → AtLeast k (unknown_in ds (first (fallbacks_from k cs)))
  unfolding AtLeast
  fallback_least [] k = tt
  fallback_least (said.Fallback p ∷ cs) k = go (knows ds p.next)
    where
      go : (b : Bool) → AtLeast k (cond b None (Some k))
      go true = tt
      go false = omega arith
  fallback_least (c ∷ cs) k = least_more k (unknown_in ds (first (fallbacks_from (k + 1) cs))) (fallback_least cs (k + 1))

  -- the line names a label that no statement has
  abbrev pub is_unknown : Content → Bool
  is_unknown said.Nothing = false
  is_unknown (said.Fix label number) = not (has_label ds label)
  is_unknown (said.Fallback parts) = not (knows ds parts.next)
  is_unknown (said.Statement label parts) = not (knows ds parts.next)

  -- the first such line, counted from this one on
  from_line : ℕ → List Content → Option ℕ
  from_line k [] = None
  from_line k (c ∷ cs) = cond (is_unknown c) (Some k) (from_line (k + 1) cs)

  of_three : ℕ → List Content → Option ℕ
  of_three k cs = earlier (unknown_draft ds (statements_from k cs)) (earlier (unknown_fix ds (fixes_from k cs)) (unknown_in ds (first (fallbacks_from k cs))))

  three_lines : (cs : List Content) (k : ℕ) → AreAddresses cs → length (fallbacks_from k cs) ≤ 1 → of_three k cs ≡ from_line k cs
  unfolding of_three from_line
  three_lines [] k a le = refl
  three_lines (said.Nothing ∷ cs) k a le = three_lines cs (k + 1) a le
  three_lines (said.Fix l n ∷ cs) k a le = go (address_of n) (has_label ds l) refl a.0 (three_lines cs (k + 1) a.1 le)
    where
      go : (o : Option ℕ) (b : Bool) → has_label ds l ≡ b → IsSome o → of_three (k + 1) cs ≡ from_line (k + 1) cs
          → earlier (unknown_draft ds (statements_from (k + 1) cs)) (earlier (unknown_fix ds (cons_option (option_map {U = Fix} (λ address. record { label = l; line = k; address = address }) o) (fixes_from (k + 1) cs))) (unknown_in ds (first (fallbacks_from (k + 1) cs))))
          ≡ cond (not b) (Some k) (from_line (k + 1) cs)
      go None b e i h = absurd (cc)
      go (Some x) true e i h = rw e h
      go (Some x) false e i h = rw e (ap (earlier (unknown_draft ds (statements_from (k + 1) cs))) (first_wins k (unknown_in ds (first (fallbacks_from (k + 1) cs))) (fallback_least cs (k + 1))) ∙ second_wins k (unknown_draft ds (statements_from (k + 1) cs)) (drafts_least cs (k + 1)))
  three_lines (said.Fallback p ∷ cs) k a le = go (knows ds p.next) refl (three_lines cs (k + 1) a (omega (arith, le)))
    where
      no_more : (xs : List Draft) → suc (length xs) ≤ 1 → first xs ≡ None
      no_more [] h = refl
      no_more (x ∷ xs) h = absurd (omega arith)

      go : (b : Bool) → knows ds p.next ≡ b → of_three (k + 1) cs ≡ from_line (k + 1) cs
          → earlier (unknown_draft ds (statements_from (k + 1) cs)) (earlier (unknown_fix ds (fixes_from (k + 1) cs)) (cond b None (Some k))) ≡ cond (not b) (Some k) (from_line (k + 1) cs)
      go true e h = ap (λ o. earlier (unknown_draft ds (statements_from (k + 1) cs)) (earlier (unknown_fix ds (fixes_from (k + 1) cs)) (unknown_in ds o))) (sym (no_more (fallbacks_from (k + 1) cs) le)) ∙ h
      go false e h = ap (earlier (unknown_draft ds (statements_from (k + 1) cs))) (second_wins k (unknown_fix ds (fixes_from (k + 1) cs)) (fixes_least cs (k + 1))) ∙ second_wins k (unknown_draft ds (statements_from (k + 1) cs)) (drafts_least cs (k + 1))
  three_lines (said.Statement l p ∷ cs) k a le = go (knows ds p.next) refl (three_lines cs (k + 1) a le)
    where
      go : (b : Bool) → knows ds p.next ≡ b → of_three (k + 1) cs ≡ from_line (k + 1) cs → of_three k (said.Statement l p ∷ cs) ≡ cond (not b) (Some k) (from_line (k + 1) cs)
      go true e h = rw e h
      go false e h = rw e (first_wins k (earlier (unknown_fix ds (fixes_from (k + 1) cs)) (unknown_in ds (first (fallbacks_from (k + 1) cs))))
          (earlier_least (k + 1) (unknown_fix ds (fixes_from (k + 1) cs)) (unknown_in ds (first (fallbacks_from (k + 1) cs))) (fixes_least cs (k + 1)) (fallback_least cs (k + 1))))

-- ---- the first line that passes a test

-- counted from this one on
line_from : (Content → List Content → Bool) → ℕ → List Content → Option ℕ
line_from test k [] = None
line_from test k (c ∷ cs) = cond (test c cs) (Some k) (line_from test (k + 1) cs)

module _ (test : Content → List Content → Bool) where
  Found : ℕ → List Content → Option ℕ → Type 0
  Found k cs None = Never (IsAt test k cs)
  Found k cs (Some n) = IsFirst (IsAt test k cs) n

  at_none : (k n : ℕ) → IsAt test k [] n → ⊥
  at_none k n a = go a.front a.split
    where
      go : (front : List Content) → [] ≡ front ++ a.content ∷ a.following → ⊥
      go [] e = cc
      go (x ∷ front) e = cc

  at_later : (k n : ℕ) (c : Content) (cs : List Content) → IsAt test (k + 1) cs n → IsAt test k (c ∷ cs) n
  at_later k n c cs a = record { front = c ∷ a.front; content = a.content; following = a.following; split = ap (λ xs. c ∷ xs) a.split; number = omega (arith, a.number); passes = a.passes }

  -- where the first line does not pass, the line is one of the rest
  at_rest : (k n : ℕ) (c : Content) (cs : List Content) → test c cs ≡ false → IsAt test k (c ∷ cs) n → IsAt test (k + 1) cs n
  at_rest k n c cs f a = go a.front a.split a.number
    where
      go : (front : List Content) → c ∷ cs ≡ front ++ a.content ∷ a.following → n ≡ k + length front → IsAt test (k + 1) cs n
      go [] e m = absurd (let p = a.passes in let g : c ≡ a.content = cc in let h : cs ≡ a.following = cc in cc)
      go (x ∷ front) e m = record { front = front; content = a.content; following = a.following; split = cc; number = omega (arith, m); passes = a.passes }

  line_found : (cs : List Content) (k : ℕ) → Found k cs (line_from test k cs)
  unfolding Found line_from
  line_found [] k = at_none k
  line_found (c ∷ cs) k = go (test c cs) refl (line_from test (k + 1) cs) (line_found cs (k + 1))
    where
      rest : test c cs ≡ false → (o : Option ℕ) → Found (k + 1) cs o → Found k (c ∷ cs) o
      rest e None none = λ n a. none n (at_rest k n c cs e a)
      rest e (Some n) (a, lowest) = (at_later k n c cs a, λ j b. lowest j (at_rest k j c cs e b))

      go : (b : Bool) → test c cs ≡ b → (o : Option ℕ) → Found (k + 1) cs o → Found k (c ∷ cs) (cond b (Some k) o)
      go true e o f = (record { front = []; content = c; following = cs; split = refl; number = omega arith; passes = e }, λ j a. omega (arith, a.number))
      go false e o f = rest e o f

  first_line : (k n : ℕ) (cs : List Content) → line_from test k cs ≡ Some n → IsFirst (IsAt test k cs) n
  unfolding Found
  first_line k n cs h = subst (Found k cs) h (line_found cs k)

  no_first : (k : ℕ) (cs : List Content) → line_from test k cs ≡ None → Never (IsAt test k cs)
  unfolding Found
  no_first k cs h = subst (Found k cs) h (line_found cs k)

  line_first : (k n : ℕ) (cs : List Content) → IsFirst (IsAt test k cs) n → line_from test k cs ≡ Some n
  unfolding Found
  line_first k n cs (a, lowest) = go (line_from test k cs) (line_found cs k)
    where
      go : (o : Option ℕ) → Found k cs o → o ≡ Some n
      go None none = absurd (none n a)
      go (Some j) (b, lower) = let p = lowest j b in let q = lower n a in let e : j ≡ n = omega (arith, p, q) in ap Some e

  line_none : (k : ℕ) (cs : List Content) → Never (IsAt test k cs) → line_from test k cs ≡ None
  unfolding Found
  line_none k cs none = go (line_from test k cs) (line_found cs k)
    where
      go : (o : Option ℕ) → Found k cs o → o ≡ None
      go None f = refl
      go (Some j) (b, lower) = absurd (none j b)

-- ---- unknown labels

unknown_named : (ds : List Draft) (next : Next (List ℕ)) → not (knows ds next) ≡ list_any (λ label. not (has_label ds label)) (targets_of next)
unknown_named ds nexts.Following = refl
unknown_named ds (nexts.Goto label) = go (has_label ds label)
  where
    go : (b : Bool) → not b ≡ (not b || false)
    go true = refl
    go false = refl
unknown_named ds (nexts.Dispatch high) = refl
unknown_named ds (nexts.Branch test high low) = go (has_label ds high) (has_label ds low)
  where
    go : (a b : Bool) → not (a && b) ≡ (not a || (not b || false))
    go true true = refl
    go true false = refl
    go false b = refl

same_unknown : (ds : List Draft) (c : Content) (following : List Content) → is_unknown ds c ≡ names_unknown ds c following
same_unknown ds said.Nothing following = refl
same_unknown ds (said.Fix label number) following = unknown_named ds (nexts.Goto label)
same_unknown ds (said.Fallback parts) following = unknown_named ds parts.next
same_unknown ds (said.Statement label parts) following = unknown_named ds parts.next

same_line : (ds : List Draft) (cs : List Content) (k : ℕ) → from_line ds k cs ≡ line_from (names_unknown ds) k cs
unfolding from_line line_from
same_line ds [] k = refl
same_line ds (c ∷ cs) k = ap (λ b. cond b (Some k) (from_line ds (k + 1) cs)) (same_unknown ds c cs) ∙ ap (cond (names_unknown ds c cs) (Some k)) (same_line ds cs (k + 1))

unknown_same : (m : Machine) (cs : List Content) → IsFine cs → first_unknown (sketch_of m cs) ≡ line_from (names_unknown (statements cs)) 1 cs
unfolding of_three
unknown_same m cs fine = three_lines (statements cs) cs 1 fine.addresses fine.one_default ∙ same_line (statements cs) cs 1

-- ---- no statement follows

abbrev last_of : List Draft → Option Draft
last_of ds = slice_get ds (length ds - 1)

last_more : (d e : Draft) (es : List Draft) → last_of (d ∷ e ∷ es) ≡ last_of (e ∷ es)
last_more d e es = let k : length (d ∷ e ∷ es) - 1 ≡ suc (length (e ∷ es) - 1) = omega arith in ap (slice_get (d ∷ e ∷ es)) k

abbrev is_filled : List Draft → Bool
is_filled [] = false
is_filled (d ∷ ds) = true

has_statement : (cs : List Content) (k : ℕ) → list_any is_statement cs ≡ is_filled (statements_from k cs)
has_statement [] k = refl
has_statement (said.Statement l p ∷ cs) k = refl
has_statement (c ∷ cs) k = has_statement cs (k + 1)

cond_least : (k : ℕ) (b : Bool) → AtLeast k (cond b (Some k) None)
unfolding AtLeast
cond_least k true = omega arith
cond_least k false = tt

last_least : (cs : List Content) (k : ℕ) → AtLeast k (falling (last_of (statements_from k cs)))
unfolding AtLeast
last_least [] k = tt
last_least (said.Statement l p ∷ cs) k = go (statements_from (k + 1) cs) (last_least cs (k + 1))
  where
    go : (ds : List Draft) → AtLeast (k + 1) (falling (last_of ds)) → AtLeast k (falling (last_of ((record { label = l; line = k; parts = p }) ∷ ds)))
    go [] h = cond_least k (falls p.next)
    go (e ∷ es) h = subst (λ o. AtLeast k (falling o)) (sym (last_more (record { label = l; line = k; parts = p }) e es)) (least_more k (falling (last_of (e ∷ es))) h)
last_least (c ∷ cs) k = least_more k (falling (last_of (statements_from (k + 1) cs))) (last_least cs (k + 1))

default_least : (cs : List Content) (k : ℕ) → AtLeast k (falling (first (fallbacks_from k cs)))
unfolding AtLeast
default_least [] k = tt
default_least (said.Fallback p ∷ cs) k = cond_least k (falls p.next)
default_least (c ∷ cs) k = least_more k (falling (first (fallbacks_from (k + 1) cs))) (default_least cs (k + 1))

and_true : (b : Bool) → (b && true) ≡ b
and_true true = refl
and_true false = refl

two_lines : (cs : List Content) (k : ℕ) → length (fallbacks_from k cs) ≤ 1 → earlier (falling (last_of (statements_from k cs))) (falling (first (fallbacks_from k cs))) ≡ line_from falls_off k cs
unfolding line_from
two_lines [] k le = refl
two_lines (said.Nothing ∷ cs) k le = two_lines cs (k + 1) le
two_lines (said.Fix l n ∷ cs) k le = two_lines cs (k + 1) le
two_lines (said.Fallback p ∷ cs) k le = go (falls p.next) (fallbacks_from (k + 1) cs) le (two_lines cs (k + 1) (omega (arith, le)))
  where
    go : (b : Bool) (fb : List Draft) → suc (length fb) ≤ 1 → earlier (falling (last_of (statements_from (k + 1) cs))) (falling (first fb)) ≡ line_from falls_off (k + 1) cs
        → earlier (falling (last_of (statements_from (k + 1) cs))) (cond b (Some k) None) ≡ cond b (Some k) (line_from falls_off (k + 1) cs)
    go true fb lt h = second_wins k (falling (last_of (statements_from (k + 1) cs))) (last_least cs (k + 1))
    go false [] lt h = h
    go false (d ∷ fb) lt h = absurd (omega arith)
two_lines (said.Statement l p ∷ cs) k le = go (statements_from (k + 1) cs) (has_statement cs (k + 1)) (two_lines cs (k + 1) le)
  where
    alone : (b : Bool) → earlier None (falling (first (fallbacks_from (k + 1) cs))) ≡ line_from falls_off (k + 1) cs
        → earlier (cond b (Some k) None) (falling (first (fallbacks_from (k + 1) cs))) ≡ cond b (Some k) (line_from falls_off (k + 1) cs)
    alone true h = first_wins k (falling (first (fallbacks_from (k + 1) cs))) (default_least cs (k + 1))
    alone false h = h

    go : (ds : List Draft) → list_any is_statement cs ≡ is_filled ds
        → earlier (falling (last_of ds)) (falling (first (fallbacks_from (k + 1) cs))) ≡ line_from falls_off (k + 1) cs
        → earlier (falling (last_of ((record { label = l; line = k; parts = p }) ∷ ds))) (falling (first (fallbacks_from (k + 1) cs))) ≡ cond (falls p.next && not (list_any is_statement cs)) (Some k) (line_from falls_off (k + 1) cs)
    go [] e h = alone (falls p.next) h ∙ ap (λ b. cond b (Some k) (line_from falls_off (k + 1) cs)) (sym (ap (λ b. falls p.next && not b) e ∙ and_true (falls p.next)))
    go (x ∷ ds) e h =
        ap (λ o. earlier (falling o) (falling (first (fallbacks_from (k + 1) cs)))) (last_more (record { label = l; line = k; parts = p }) x ds)
        ∙ (h ∙ ap (λ b. cond b (Some k) (line_from falls_off (k + 1) cs)) (sym (ap (λ b. falls p.next && not b) e ∙ and_right (falls p.next) false refl)))

falling_same : (m : Machine) (cs : List Content) → IsFine cs → first_falling (sketch_of m cs) ≡ line_from falls_off 1 cs
falling_same m cs fine = two_lines cs 1 fine.one_default

-- ---- the refusals at the end

no_number : (ds : List Draft) (label : List ℕ) → number_of ds label ≡ None → has_label ds label ≡ false
no_number ds label h = sym (some_place own_label ds label) ∙ ap is_some h

no_label : (ds : List Draft) (label : List ℕ) → has_label ds label ≡ false → number_of ds label ≡ None
no_label ds label h = go (number_of ds label) (some_place own_label ds label ∙ h)
  where
    go : (o : Option ℕ) → is_some o ≡ false → o ≡ None
    go None e = refl
    go (Some i) e = absurd (cc)

module _ (m : Machine) (cs : List Content) (fine : IsFine cs) where
  pub ends_refused : (e : MalError) → resolved_program (sketch_of m cs) ≡ Err e → AreRefused cs e
  unfolding resolved_program
  ends_refused e h = by_u (first_unknown (sketch_of m cs)) refl h
    where
      known : first_unknown (sketch_of m cs) ≡ None → Never (NamesUnknown cs)
      known u = no_first (names_unknown (statements cs)) 1 cs (sym (unknown_same m cs fine) ∙ u)

      goes : first_falling (sketch_of m cs) ≡ None → Never (FallsOff cs)
      goes f = no_first falls_off 1 cs (sym (falling_same m cs fine) ∙ f)

      by_e : (o : Option ℕ) → first_unknown (sketch_of m cs) ≡ None → first_falling (sketch_of m cs) ≡ None → number_of (statements cs) main1 ≡ o → by_entry (sketch_of m cs) o ≡ Err e → AreRefused cs e
      by_e (Some entry) u f n h = absurd (cc)
      by_e None u f n h = let k : errors.NoEntry ≡ e = cc in subst (AreRefused cs) k (known u, goes f, no_number (statements cs) main1 n)

      by_f : (o : Option ℕ) → first_unknown (sketch_of m cs) ≡ None → first_falling (sketch_of m cs) ≡ o → by_falling (sketch_of m cs) o ≡ Err e → AreRefused cs e
      by_f (Some line) u f h = let k : errors.LastFalls line ≡ e = cc in subst (AreRefused cs) k (known u, first_line falls_off 1 line cs (sym (falling_same m cs fine) ∙ f))
      by_f None u f h = by_e (number_of (statements cs) main1) u f refl h

      by_u : (o : Option ℕ) → first_unknown (sketch_of m cs) ≡ o → by_unknown (sketch_of m cs) o ≡ Err e → AreRefused cs e
      by_u (Some line) u h = let k : errors.UnknownLabel line ≡ e = cc in subst (AreRefused cs) k (first_line (names_unknown (statements cs)) 1 line cs (sym (unknown_same m cs fine) ∙ u))
      by_u None u h = by_f (first_falling (sketch_of m cs)) u refl h

  none_unknown : Never (NamesUnknown cs) → first_unknown (sketch_of m cs) ≡ None
  none_unknown u = unknown_same m cs fine ∙ line_none (names_unknown (statements cs)) 1 cs u

  pub refused_ends : (e : MalError) → AreRefused cs e → resolved_program (sketch_of m cs) ≡ Err e
  unfolding resolved_program
  refused_ends (errors.UnknownLabel n) r = ap (by_unknown (sketch_of m cs)) (unknown_same m cs fine ∙ line_first (names_unknown (statements cs)) 1 n cs r)
  refused_ends (errors.LastFalls n) (u, f) = ap (by_unknown (sketch_of m cs)) (none_unknown u) ∙ ap (by_falling (sketch_of m cs)) (falling_same m cs fine ∙ line_first falls_off 1 n cs f)
  refused_ends errors.NoEntry (u, f, n) =
      ap (by_unknown (sketch_of m cs)) (none_unknown u)
      ∙ (ap (by_falling (sketch_of m cs)) (falling_same m cs fine ∙ line_none falls_off 1 cs f) ∙ ap (by_entry (sketch_of m cs)) (no_label (statements cs) main1 n))
  refused_ends _ r = absurd r
