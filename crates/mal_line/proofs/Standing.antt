-- What a line says stands in a word of its machine.
use Rattle.mal_line.proofs.Common.{◌≡◌, ℕ, ◌<◌, Bool, true, false, List, [], ◌∷◌, Option, Some, None, refl, sym, ap, subst, ◌∙◌, arith, inl, inr, cond, ◌⊎◌}
use Rattle.mal_line.proofs.Common.{◌&&◌, not, nat_lt, IsTrue, list_any, list_all, onto_first, or_parts, lt-ltb, Machine, Mic1, Mic2, mapped, Part, Mem, idle}
use Rattle.mal_line.proofs.Common.{row, fits_side, has_operation, is_mixed, is_part, may_be_a, may_be_b, may_fetch, Token, Operation, Assignment, Tree, Content}
use Rattle.mal_line.proofs.Common.{Parts, Form, Next}
use Rattle.mal_tokens.specs.declared.sign.Sign.TheVariants as signs
use Rattle.mal_tokens.specs.declared.token.Token.TheVariants as tokens
use Rattle.mal_line.specs.declared.content.Content.TheVariants as contents
use Rattle.mal_line.specs.declared.line.Form.TheVariants as forms
use Rattle.mal_line.specs.declared.next.Next.TheVariants as nexts
use Rattle.mal_line.specs.Prelude.{fits, part_with, HasCoding, IsAssignment, AreParts, AreTree, assign, assignments, counted, fetch_count, fetches, is_semicolon, jump, Kind, listed, pieces, content_of, HasPart, is_foreign, IsForm, names_foreign, next_by_jump, part_by, part_of, parts_by, parts_of, SpellsLine, with_access}
use Rattle.mal_line.proofs.Codings.{six_parts}
use Rattle.mal_line.proofs.Destinations.{dest_bits-lt}

-- ---- no word of the other machine

abbrev Own : (Token → Bool) → List (List Token) → Type 0
Own p xs = list_all (λ x. not (list_any p x)) xs ≡ true

pieces_own : (p : Token → Bool) (ts : List Token) → list_any p ts ≡ false → Own p (pieces ts)
pieces_own p [] h = refl
pieces_own p (t ∷ ts) h =
    let e = or_parts (p t) (list_any p ts) h in
    go (is_semicolon t) e.0 (pieces_own p ts e.1)
  where
    first : (xs : List (List Token)) → p t ≡ false → Own p xs → Own p (onto_first t xs)
    first [] e o = rw e refl
    first (x ∷ xs) e o = rw e o

    go : (w : Bool) → p t ≡ false → Own p (pieces ts) → Own p (cond w ([] ∷ pieces ts) (onto_first t (pieces ts)))
    go true e o = o
    go false e o = first (pieces ts) e o

own_parts : (a : Bool) (b : Bool) → (not a && b) ≡ true → (a ≡ false) × (b ≡ true)
own_parts true b h = absurd (cc)
own_parts false b h = (refl, h)

own_rest : (x : List Token) (xs : List (List Token)) → Own (is_foreign Mic2) (x ∷ xs) → (list_any (is_foreign Mic2) x ≡ false) × Own (is_foreign Mic2) xs
own_rest x xs o = own_parts (list_any (is_foreign Mic2) x) (list_all (λ x. not (list_any (is_foreign Mic2) x)) xs) o

-- on Mic-2 no part is a fetch
no_fetch : (m : Machine) (xs : List (List Token)) (ps : List Kind) → Own (is_foreign Mic2) xs → AreParts m xs ps → fetch_count ps ≡ 0
no_fetch m xs [] o are = refl
no_fetch m [] (p ∷ ps) o are = absurd are
no_fetch m (x ∷ xs) (fetches ∷ ps) o are =
    let q = own_rest x xs o in
    let k : list_any (is_foreign Mic2) x ≡ true = ap (list_any (is_foreign Mic2)) are.0 in
    absurd (let z = q.0 in cc)
no_fetch m (x ∷ []) (jump (Some (nexts.Branch f y n)) ∷ ps) o are = absurd are
no_fetch m (x ∷ x2 ∷ xs) (jump (Some (nexts.Branch f y n)) ∷ ps) o are = no_fetch m xs ps (own_rest x2 xs (own_rest x (x2 ∷ xs) o).1).1 are.2
no_fetch m (x ∷ xs) (p ∷ ps) o are = no_fetch m xs ps (own_rest x xs o).1 are.1

may : (m : Machine) (ts : List Token) (t : Tree) → AreTree m ts t → names_foreign m ts ≡ false → may_fetch m t.fetch ≡ true
may Mic1 ts t a own = refl
may Mic2 ts t a own = go t.fetch (sym (no_fetch Mic2 (pieces ts) a.parts (pieces_own (is_foreign Mic2) ts own) a.are) ∙ a.fetch)
  where
    go : (b : Bool) → 0 ≡ counted b → not b ≡ true
    go true h = absurd (omega arith)
    go false h = refl

-- ---- the operation

-- an assignment is one of the pieces
some_assign : (m : Machine) (xs : List (List Token)) (ps : List Kind) (a : Assignment) → AreParts m xs ps → assignments ps ≡ a ∷ [] → (x : List Token) × IsAssignment m x a
some_assign m xs [] a are h = absurd (cc)
some_assign m [] (p ∷ ps) a are h = absurd are
some_assign m (x ∷ xs) (assign b ∷ ps) a are h = let e : b ≡ a = cc in (x, subst (IsAssignment m x) e are.0)
some_assign m (x ∷ []) (jump (Some (nexts.Branch f y n)) ∷ ps) a are h = absurd are
some_assign m (x ∷ x2 ∷ xs) (jump (Some (nexts.Branch f y n)) ∷ ps) a are h = some_assign m xs ps a are.2 h
some_assign m (x ∷ xs) (p ∷ ps) a are h = some_assign m xs ps a are.1 h

together : (u v w x y z u2 z2 : Bool) → (((((u && v) && w) && x) && y) && z) ≡ true → u2 ≡ true → z2 ≡ true → (((((u2 && v) && w) && x) && y) && z2) ≡ true
together u v w x y z u2 z2 h a b = let p = six_parts u v w x y z h in rw (a, p.0, p.1, p.2, p.3, b) refl

with_dests : (m : Machine) (o : Operation) (dests : ℕ) (fetch : Bool) → fits m o ≡ true → nat_lt dests 512 ≡ true → may_fetch m fetch ≡ true
    → (((((nat_lt dests 512 && has_operation m o.op) && fits_side (row o.op).uses_a (may_be_a m) o.a) && fits_side (row o.op).uses_b (may_be_b m) o.b) && not (is_mixed o.a o.b)) && may_fetch m fetch) ≡ true
with_dests m o dests fetch f d g =
    together (nat_lt 0 512) (has_operation m o.op) (fits_side (row o.op).uses_a (may_be_a m) o.a) (fits_side (row o.op).uses_b (may_be_b m) o.b) (not (is_mixed o.a o.b)) (may_fetch m false) (nat_lt dests 512) (may_fetch m fetch) f d g

idle_part : (m : Machine) (mem : Mem) (fetch : Bool) → may_fetch m fetch ≡ true → is_part m (record idle { mem = mem; fetch = fetch }) ≡ true
idle_part Mic1 mem fetch h = refl
idle_part Mic2 mem fetch h = h

part_is : (m : Machine) (ts : List Token) (t : Tree) (p : Part) → AreTree m ts t → names_foreign m ts ≡ false → part_of t ≡ Some p → is_part m p ≡ true
part_is m ts t p a own h =
    let q = mapped (with_access t) (part_by t.assignment) p h in
    subst (λ p. is_part m p ≡ true) q.2 (go t.assignment a.assignment q.0 q.1)
  where
    go : (o : Option Assignment) → assignments a.parts ≡ listed o → (q : Part) → part_by o ≡ Some q → is_part m (with_access t q) ≡ true
    go None e q k = let s : idle ≡ q = cc in subst (λ q. is_part m (with_access t q) ≡ true) s (idle_part m t.mem t.fetch (may m ts t a own))
    go (Some b) e q k =
        let s = mapped (λ o. part_with o b.dests) b.operation q k in
        let x = some_assign m (pieces ts) a.parts b a.are e in
        let f = subst (λ o. HasCoding m x.1.body x.1.tail o) s.1 x.1.coded in
        let d : b.dests < 512 = subst (λ n. n < 512) (sym x.1.bits) (dest_bits-lt x.1.dests 0 (omega arith)) in
        subst (λ q. is_part m (with_access t q) ≡ true) s.2 (with_dests m s.0 b.dests t.fetch f.fitting (lt-ltb b.dests 512 d) (may m ts t a own))

parts_is : (m : Machine) (ts : List Token) (t : Tree) (p : Parts) → AreTree m ts t → names_foreign m ts ≡ false → parts_of t ≡ Some p → IsTrue (is_part m p.part)
parts_is m ts t p a own h = go (part_of t) (next_by_jump t.next) refl h
  where
    go : (q : Option Part) (n : Option (Next (List ℕ))) → part_of t ≡ q → parts_by q n ≡ Some p → IsTrue (is_part m p.part)
    go (Some q) (Some n) e h =
        let r : ◌≡◌ {A = Parts} (record { part = q; next = n }) p = cc in
        let s : q ≡ p.part = ap (λ (x : Parts). x.part) r in
        let k : is_part m q ≡ true = part_is m ts t q a own e in
        subst (λ q. IsTrue (is_part m q)) s k
    go (Some q) None e h = absurd (cc)
    go None n e h = absurd (cc)

-- what the line says stands in a word of the machine
pub stands : (m : Machine) (ts : List Token) (c : Content) → SpellsLine m ts c → HasPart m c
stands m ts c s = go s.form s.has s.says
  where
    go : (f : Form) → IsForm m ts f → content_of f ≡ Some c → HasPart m c
    go forms.Nothing is e = let k : contents.Nothing ≡ c = cc in subst (HasPart m) k tt
    go (forms.Fix l v) is e = let k : contents.Fix l v ≡ c = cc in subst (HasPart m) k tt
    go (forms.Fallback t) (rest, e0, a) e =
        let q = mapped (λ p. contents.Fallback p) (parts_of t) c e in
        let own : names_foreign m rest ≡ false = ap (names_foreign m) (sym e0) ∙ s.own in
        subst (HasPart m) q.2 (parts_is m rest t q.0 a own q.1)
    go (forms.Statement None t) (ne, a) e =
        let q = mapped (λ p. contents.Statement None p) (parts_of t) c e in
        subst (HasPart m) q.2 (parts_is m ts t q.0 a s.own q.1)
    go (forms.Statement (Some l) t) (rest, e0, a) e =
        let q = mapped (λ p. contents.Statement (Some l) p) (parts_of t) c e in
        subst (HasPart m) q.2 (parts_is m rest t q.0 a (own rest e0) q.1)
      where
        own : (rest : List Token) → (ts ≡ tokens.Name l ∷ rest) ⊎ (ts ≡ tokens.Name l ∷ tokens.Sign signs.Colon ∷ rest) → names_foreign m rest ≡ false
        own rest (inl e) = ap (names_foreign m) (sym e) ∙ s.own
        own rest (inr e) = ap (names_foreign m) (sym e) ∙ s.own
