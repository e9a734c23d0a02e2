-- Steps of the machine, and moves one after the other.
use Rattle.tiny_grammar.proofs.Common.{◌≡◌, ℕ, ◌+◌, ◌-◌, ◌<◌, true, false, List, [], ◌∷◌, ◌++◌, refl, ap, sym, subst, ◌∙◌, arith, append_assoc, length-append}
use Rattle.tiny_grammar.proofs.Common.{ne_eqb, Option, Some, None, Err, map, ◌==◌, Kind, Token, Refusal}
use Rattle.tiny_grammar.specs.declared.refusal.Refusal.TheVariants as refusals
use Rattle.tiny_grammar.specs.Prelude.{first_kind, kept, kept_line, Part, before, begins, is_optional, follow, or_skip, fault, take_on, walk, Outcome, Stays, Opens, Closes, turn, Moves, Skips, Stops}

-- ---- one token

pub stop_at : (levels : ℕ) (p : Part) (ts : List Token) → is_optional p ≡ false → begins p (first_kind ts) ≡ None → Stops levels (p ∷ []) ts (fault ts)
unfolding walk
stop_at levels p [] o b ps = rw o refl
stop_at levels p (t ∷ ts) o b ps = rw (b, o) refl

pub skip_at : (levels : ℕ) (p : Part) (ts : List Token) → is_optional p ≡ true → begins p (first_kind ts) ≡ None → Skips levels p ts
unfolding walk
skip_at levels p [] o b ps = rw o refl
skip_at levels p (t ∷ ts) o b ps = rw (b, o) refl

abbrev pub kept_as : Kind → Token → Token
kept_as k t = record { kind = k; line = kept_line k t.line }

kept_is : (k : Kind) (t : Token) → t.kind ≡ k → kept t ≡ kept_as k t
kept_is k t e = rw e refl

pub stays : (levels : ℕ) (p : Part) (to : List Part) (k : Kind) (t : Token) (rest : List Token) → t.kind ≡ k → begins p k ≡ Some to → turn k ≡ Stays
    → Moves levels (p ∷ []) (t ∷ rest) (kept_as k t ∷ []) levels to rest
unfolding walk
stays levels p to k t rest e b u = record { spelled = ap (λ x. x ∷ map kept rest) (kept_is k t e); goes = λ ps. rw (e, b, u) refl; long = omega arith }

pub opens : (levels : ℕ) (p : Part) (to : List Part) (k : Kind) (t : Token) (rest : List Token) → t.kind ≡ k → begins p k ≡ Some to → turn k ≡ Opens → (levels == 0) ≡ false
    → Moves levels (p ∷ []) (t ∷ rest) (kept_as k t ∷ []) (levels - 1) to rest
unfolding walk
opens levels p to k t rest e b u z = record { spelled = ap (λ x. x ∷ map kept rest) (kept_is k t e); goes = λ ps. rw (e, b, u, z) refl; long = omega arith }

pub closes : (levels : ℕ) (p : Part) (to : List Part) (k : Kind) (t : Token) (rest : List Token) → t.kind ≡ k → begins p k ≡ Some to → turn k ≡ Closes
    → Moves levels (p ∷ []) (t ∷ rest) (kept_as k t ∷ []) (levels + 1) to rest
unfolding walk
closes levels p to k t rest e b u = record { spelled = ap (λ x. x ∷ map kept rest) (kept_is k t e); goes = λ ps. rw (e, b, u) refl; long = omega arith }

pub too_deep : (levels : ℕ) (p : Part) (to : List Part) (k : Kind) (t : Token) (rest : List Token) → t.kind ≡ k → begins p k ≡ Some to → turn k ≡ Opens → (levels == 0) ≡ true
    → Stops levels (p ∷ []) (t ∷ rest) (refusals.TooDeep t.line)
unfolding walk
too_deep levels p to k t rest e b u z ps = rw (e, b, u, z) refl

-- ---- one after the other

pub then : {l m n : ℕ} {from mid to : List Part} {ts us vs a b : List Token} → Moves l from ts a m mid us → Moves m mid us b n to vs → Moves l from ts (a ++ b) n to vs
then {vs = vs} {a = a} {b = b} f g = record {
  spelled = f.spelled ∙ (ap (λ x. a ++ x) g.spelled ∙ sym (append_assoc a b (map kept vs)));
  goes = λ ps. f.goes ps ∙ g.goes ps;
  long = let p = f.long in let q = g.long in simp length-append (omega (arith, p, q));
}

pub then_stops : {l m : ℕ} {from mid : List Part} {ts us a : List Token} (e : Refusal) → Moves l from ts a m mid us → Stops m mid us e → Stops l from ts e
then_stops e f g = λ ps. f.goes ps ∙ g ps

-- further parts after these
pub frame : {l m : ℕ} {from to : List Part} {ts us a : List Token} (more : List Part) → Moves l from ts a m to us → Moves l (from ++ more) ts a m (to ++ more) us
frame {l = l} {m = m} {from = from} {to = to} {ts = ts} {us = us} more f = record {
  spelled = f.spelled;
  goes = λ ps. ap (λ x. walk l x ts) (append_assoc from more ps) ∙ (f.goes (more ++ ps) ∙ ap (λ x. walk m x us) (sym (append_assoc to more ps)));
  long = f.long;
}

pub frame_stops : (l : ℕ) (from : List Part) (ts : List Token) (e : Refusal) (more : List Part) → Stops l from ts e → Stops l (from ++ more) ts e
frame_stops l from ts e more f = λ ps. ap (λ x. walk l x ts) (append_assoc from more ps) ∙ f (more ++ ps)

-- ---- at a list that is known by its first token

pub not_zero : (n : ℕ) → 0 < n → (n == 0) ≡ false
not_zero n h = ne_eqb n 0 (λ e. absurd (omega (arith, h, e)))

module _ (levels : ℕ) (p : Part) (to : List Part) (k : Kind) (ts : List Token) (t : Token) (rest : List Token) (split : ts ≡ t ∷ rest) (e : t.kind ≡ k) (b : begins p k ≡ Some to) where
  pub stays_at : turn k ≡ Stays → Moves levels (p ∷ []) ts (kept_as k t ∷ []) levels to rest
  stays_at u = subst (λ x. Moves levels (p ∷ []) x (kept_as k t ∷ []) levels to rest) (sym split) (stays levels p to k t rest e b u)

  pub opens_at : turn k ≡ Opens → 0 < levels → Moves levels (p ∷ []) ts (kept_as k t ∷ []) (levels - 1) to rest
  opens_at u z = subst (λ x. Moves levels (p ∷ []) x (kept_as k t ∷ []) (levels - 1) to rest) (sym split) (opens levels p to k t rest e b u (not_zero levels z))

  pub closes_at : turn k ≡ Closes → Moves levels (p ∷ []) ts (kept_as k t ∷ []) (levels + 1) to rest
  closes_at u = subst (λ x. Moves levels (p ∷ []) x (kept_as k t ∷ []) (levels + 1) to rest) (sym split) (closes levels p to k t rest e b u)

  pub too_deep_at : turn k ≡ Opens → levels ≡ 0 → Stops levels (p ∷ []) ts (refusals.TooDeep t.line)
  too_deep_at u z = subst (λ x. Stops levels (p ∷ []) x (refusals.TooDeep t.line)) (sym split) (too_deep levels p to k t rest e b u (ap (λ n. n == 0) z))

-- ---- parts that begin alike

regroup_by : (levels : ℕ) (t : Token) (r : Option (List Part)) (more ps : List Part) (next : ℕ → List Part → Outcome)
    → take_on levels t (or_skip (before more r) false ps None) next ≡ take_on levels t (or_skip r false (more ++ ps) None) next
regroup_by levels t None more ps next = refl
regroup_by levels t (Some qs) more ps next = ap (λ x. take_on levels t (Some x) next) (append_assoc qs more ps)

none_later : (r : Option (List Part)) (ps : List Part) (later : Option (List Part)) → or_skip r false ps later ≡ or_skip r false ps None
none_later None ps later = refl
none_later (Some qs) ps later = refl

regroup_walk : (levels : ℕ) (p q : Part) (more : List Part) (ts : List Token) → is_optional p ≡ false → is_optional q ≡ false
    → begins p (first_kind ts) ≡ before more (begins q (first_kind ts)) → (ps : List Part) → walk levels (p ∷ ps) ts ≡ walk levels (q ∷ (more ++ ps)) ts
unfolding walk
regroup_walk levels p q more [] o i b ps =
    rw (o, i) refl
regroup_walk levels p q more (t ∷ ts) o i b ps =
    rw (o, i, b, none_later (before more (begins q t.kind)) ps (follow ps t.kind), none_later (begins q t.kind) (more ++ ps) (follow (more ++ ps) t.kind))
    (regroup_by levels t (begins q t.kind) more ps (λ l qs. walk l qs ts))

pub regroup : (levels : ℕ) (p q : Part) (more : List Part) (ts : List Token) → is_optional p ≡ false → is_optional q ≡ false
    → begins p (first_kind ts) ≡ before more (begins q (first_kind ts)) → Moves levels (p ∷ []) ts [] levels (q ∷ more) ts
regroup levels p q more ts o i b = record { spelled = refl; goes = λ ps. regroup_walk levels p q more ts o i b ps; long = omega arith }

-- nothing read can be put back
pub back : (levels : ℕ) (from to : List Part) (ts : List Token) → Moves levels from ts [] levels to ts → Moves levels to ts [] levels from ts
back levels from to ts f = record { spelled = refl; goes = λ ps. sym (f.goes ps); long = omega arith }

pub skipping : {l m : ℕ} {from : List Part} {ts us a : List Token} (p : Part) (to : List Part) → Moves l from ts a m (p ∷ to) us → Skips m p us → Moves l from ts a m to us
skipping p to f s = record { spelled = f.spelled; goes = λ ps. f.goes ps ∙ s (to ++ ps); long = f.long }

pub stops_as : (l : ℕ) (from : List Part) (ts : List Token) (e f : Refusal) → e ≡ f → Stops l from ts f → Stops l from ts e
stops_as l from ts e f h s = λ ps. s ps ∙ ap Err (sym h)

pub text_as : {l m : ℕ} {from to : List Part} {ts us a : List Token} (b : List Token) → a ≡ b → Moves l from ts a m to us → Moves l from ts b m to us
text_as {l = l} {m = m} {from = from} {to = to} {ts = ts} {us = us} b h f = subst (λ x. Moves l from ts x m to us) h f

pub levels_as : {l m : ℕ} {from to : List Part} {ts us a : List Token} (n : ℕ) → m ≡ n → Moves l from ts a m to us → Moves l from ts a n to us
levels_as {l = l} {from = from} {to = to} {ts = ts} {us = us} {a = a} n h f = subst (λ x. Moves l from ts a x to us) h f
