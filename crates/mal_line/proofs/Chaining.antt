-- An assignment is read exactly where one is spelled.
use Rattle.mal_line.proofs.Common.{◌≡◌, ℕ, Bool, true, false, List, [], ◌∷◌, ◌++◌, Option, Some, None, length, drop, take, refl, sym, ap, subst, ◌∙◌, inl, inr}
use Rattle.mal_line.proofs.Common.{cond, option_map, bit_or, ◌||◌, ◌&&◌, ◌==◌, prefix_len, list_all, take-append-drop, take-append_seam, drop-append_seam}
use Rattle.mal_line.proofs.Common.{and_parts, or_right, Machine, begins_with, run_all, run_passes, chosen, mapped, Word, Token, Operation, Assignment, Tail}
use Rattle.mal_tokens.specs.declared.sign.Sign.TheVariants as signs
use Rattle.mal_tokens.specs.declared.token.Token.TheVariants as tokens
use Rattle.mal_line.specs.declared.chain.Tail.TheVariants as tails
use Rattle.mal_line.specs.Prelude.{bit, dest_bits, dest_tokens, HasCoding, is_dest, is_expr, is_filled, IsAssignment, tail_tokens, coding_of, assigned, chain_at, dest_of, last, on_dest, shifting, tail_of}
use Rattle.mal_line.proofs.Codings.{coding_again, coding_is}

-- ---- what follows an expression

Shifts : Token → Token → Option Tail → Type 0
Shifts s n None = Unit {0}
Shifts s n (Some t) = s ∷ n ∷ [] ≡ tail_tokens t

shifts : (s n : Token) → Shifts s n (shifting s n)
unfolding Shifts
shifts (tokens.Sign signs.Left) (tokens.Number v) = refl
shifts (tokens.Sign signs.Right) (tokens.Number v) = refl
shifts _ _ = tt

shifting_is : (s n : Token) (t : Tail) → shifting s n ≡ Some t → s ∷ n ∷ [] ≡ tail_tokens t
unfolding Shifts
shifting_is s n t h = subst (Shifts s n) h (shifts s n)

tail_is : (ts : List Token) (t : Tail) → tail_of ts ≡ Some t → ts ≡ tail_tokens t
tail_is [] t h = let e : tails.Nothing ≡ t = cc in subst (λ t. [] ≡ tail_tokens t) e refl
tail_is (s ∷ []) t h = absurd (cc)
tail_is (s ∷ n ∷ []) t h = shifting_is s n t h
tail_is (s ∷ n ∷ u ∷ ts) t h = absurd (cc)

tail_again : (t : Tail) → tail_of (tail_tokens t) ≡ Some t
tail_again tails.Nothing = refl
tail_again _ = refl

tail_begins : (t : Tail) → begins_with is_expr (tail_tokens t) ≡ false
tail_begins tails.Nothing = refl
tail_begins _ = refl

-- ---- the expression

-- the tokens are this assignment, where some destinations with these bits were read before
record IsLinked (machine : Machine) (had : Bool) (before : ℕ) (ts : List Token) (a : Assignment) : Type 0 where
  dests : List Word
  body : List Token
  tail : Tail
  are : list_all is_dest dests ≡ true
  some : (had || is_filled dests) ≡ true
  expr : list_all is_expr body ≡ true
  not_empty : (length body == 0) ≡ false
  spelled : ts ≡ dest_tokens dests ++ (body ++ tail_tokens tail)
  bits : a.dests ≡ dest_bits before dests
  coded : HasCoding machine body tail a.operation

has_coding : (m : Machine) (body : List Token) (t : Tail) → HasCoding m body t (coding_of m body t)
has_coding m body t = go (coding_of m body t) refl
  where
    go : (o : Option Operation) → coding_of m body t ≡ o → HasCoding m body t o
    go (Some o) e = coding_is m body t o e
    go None e = λ o c. absurd (let k = coding_again m body t o c in cc)

same_coding : (m : Machine) (body : List Token) (t : Tail) (o : Option Operation) → HasCoding m body t o → o ≡ coding_of m body t
same_coding m body t (Some o) h = sym (coding_again m body t o h)
same_coding m body t None h = go (coding_of m body t) refl
  where
    go : (o : Option Operation) → coding_of m body t ≡ o → None ≡ o
    go None e = refl
    go (Some o) e = absurd (h o (coding_is m body t o e))

assigned_is : (m : Machine) (dests : ℕ) (ts : List Token) (a : Assignment) → assigned m dests ts ≡ Some a → IsLinked m true dests ts a
assigned_is m dests ts a h =
    elim (chosen (length (take (prefix_len is_expr ts) ts) == 0) None (option_map {T = Tail} {U = Assignment} (λ tail. record { dests = dests; operation = coding_of m (take (prefix_len is_expr ts) ts) tail }) (tail_of (drop (prefix_len is_expr ts) ts))) (Some a) h) [
      | inl w ↦ absurd (let z = w.1 in cc)
      | inr w ↦
          let p = mapped {A = Tail} {B = Assignment} (λ tail. record { dests = dests; operation = coding_of m (take (prefix_len is_expr ts) ts) tail }) (tail_of (drop (prefix_len is_expr ts) ts)) a w.1 in
          let is : IsLinked m true dests ts (record { dests = dests; operation = coding_of m (take (prefix_len is_expr ts) ts) p.0 }) = record {
            dests = [];
            body = take (prefix_len is_expr ts) ts;
            tail = p.0;
            are = refl;
            some = refl;
            expr = run_passes is_expr ts;
            not_empty = w.0;
            spelled = sym (take-append-drop (prefix_len is_expr ts) ts) ∙ ap (λ (r : List Token). take (prefix_len is_expr ts) ts ++ r) (tail_is (drop (prefix_len is_expr ts) ts) p.0 p.1);
            bits = refl;
            coded = has_coding m (take (prefix_len is_expr ts) ts) p.0;
          } in
          subst (IsLinked m true dests ts) p.2 is
    ]

assigned_at : (m : Machine) (dests : ℕ) (body : List Token) (t : Tail) → list_all is_expr body ≡ true → (length body == 0) ≡ false
    → assigned m dests (body ++ tail_tokens t) ≡ Some (record { dests = dests; operation = coding_of m body t })
assigned_at m dests body t all not_empty =
    let n = run_all is_expr body (tail_tokens t) all (tail_begins t) in
    let tk = take-append_seam body (tail_tokens t) in
    let dr = drop-append_seam body (tail_tokens t) in
    rw (n, tk, dr, not_empty, tail_again t) refl

-- ---- the destinations

is_equals : Token → Bool
is_equals (tokens.Sign signs.Equals) = true
is_equals _ = false

dest_no : (t u : Token) → is_equals u ≡ false → dest_of t u ≡ None
unfolding is_equals
dest_no (tokens.Word w) (tokens.Sign signs.Equals) h = absurd (cc)
dest_no _ _ h = refl

expr_no : (u : Token) → is_expr u ≡ true → is_equals u ≡ false
unfolding is_equals
expr_no (tokens.Sign signs.Equals) h = absurd (cc)
expr_no _ h = refl

-- no destination stands in front of an expression
rest_last : (m : Machine) (some : Bool) (dests : ℕ) (body : List Token) (t : Tail) → list_all is_expr body ≡ true → (length body == 0) ≡ false → chain_at m some dests (body ++ tail_tokens t) ≡ last m some dests (body ++ tail_tokens t)
unfolding chain_at is_equals
rest_last m some dests [] t all not_empty = absurd (cc)
rest_last m some dests (x ∷ []) tails.Nothing all not_empty = refl
rest_last m some dests (x ∷ []) (tails.Left v) all not_empty = let d = dest_no x (tokens.Sign signs.Left) refl in rw d refl
rest_last m some dests (x ∷ []) (tails.Right v) all not_empty = let d = dest_no x (tokens.Sign signs.Right) refl in rw d refl
rest_last m some dests (x ∷ y ∷ body) t all not_empty =
    let p = and_parts (is_expr x) (is_expr y && list_all is_expr body) all in
    let q = and_parts (is_expr y) (list_all is_expr body) p.1 in
    let d = dest_no x y (expr_no y q.0) in
    rw d refl

dest_again : (d : Word) → is_dest d ≡ true → dest_of (tokens.Word d) (tokens.Sign signs.Equals) ≡ Some d
dest_again d h = rw h refl

all_last : (m : Machine) (some : Bool) (dests : ℕ) (ds : List Word) (body : List Token) (t : Tail) → list_all is_dest ds ≡ true → list_all is_expr body ≡ true → (length body == 0) ≡ false
    → chain_at m some dests (dest_tokens ds ++ (body ++ tail_tokens t)) ≡ last m (some || is_filled ds) (dest_bits dests ds) (body ++ tail_tokens t)
unfolding chain_at
all_last m some dests [] body t are all not_empty = rest_last m some dests body t all not_empty ∙ go some
  where
    go : (b : Bool) → last m b dests (body ++ tail_tokens t) ≡ last m (b || false) dests (body ++ tail_tokens t)
    go true = refl
    go false = refl
all_last m some dests (d ∷ ds) body t are all not_empty =
    let p = and_parts (is_dest d) (list_all is_dest ds) are in
    let e = dest_again d p.0 in
    rw e (all_last m true (bit_or dests (bit d)) ds body t p.1 all not_empty ∙ go some)
  where
    go : (b : Bool) → last m true (dest_bits (bit_or dests (bit d)) ds) (body ++ tail_tokens t) ≡ last m (b || true) (dest_bits (bit_or dests (bit d)) ds) (body ++ tail_tokens t)
    go true = refl
    go false = refl

-- what is spelled is read, after such destinations
linked_again : (m : Machine) (some : Bool) (dests : ℕ) (ts : List Token) (a : Assignment) → IsLinked m some dests ts a → chain_at m some dests ts ≡ Some a
linked_again m some dests ts a l =
    let e = all_last m some dests l.dests l.body l.tail l.are l.expr l.not_empty in
    let x = assigned_at m (dest_bits dests l.dests) l.body l.tail l.expr l.not_empty in
    let o = same_coding m l.body l.tail a.operation l.coded in
    let k : a ≡ record { dests = dest_bits dests l.dests; operation = coding_of m l.body l.tail } = ap (λ (b : ℕ). record a { dests = b }) l.bits ∙ ap (λ (c : Option Operation). record a { dests = dest_bits dests l.dests; operation = c }) o in
    ap (chain_at m some dests) l.spelled ∙ (e ∙ (ap (λ (b : Bool). last m b (dest_bits dests l.dests) (l.body ++ tail_tokens l.tail)) l.some ∙ (x ∙ ap Some (sym k))))

last_linked : (m : Machine) (some : Bool) (dests : ℕ) (ts : List Token) (a : Assignment) → last m some dests ts ≡ Some a → IsLinked m some dests ts a
last_linked m true dests ts a h = assigned_is m dests ts a h
last_linked m false dests ts a h = absurd (cc)

Dests : Token → Token → Option Word → Type 0
Dests t u None = Unit {0}
Dests t u (Some w) = (t ≡ tokens.Word w) × (u ≡ tokens.Sign signs.Equals) × (is_dest w ≡ true)

dest_is : (t u : Token) → Dests t u (dest_of t u)
unfolding Dests
dest_is (tokens.Word w) (tokens.Sign signs.Equals) = go (is_dest w) refl
  where
    go : (b : Bool) → is_dest w ≡ b → Dests (tokens.Word w) (tokens.Sign signs.Equals) (cond b (Some w) None)
    go true e = (refl, refl, e)
    go false e = tt
dest_is _ _ = tt

more_linked : (m : Machine) (some : Bool) (dests : ℕ) (t u : Token) (rest : List Token) (w : Word) (a : Assignment) → (t ≡ tokens.Word w) × (u ≡ tokens.Sign signs.Equals) × (is_dest w ≡ true)
    → IsLinked m true (bit_or dests (bit w)) rest a → IsLinked m some dests (t ∷ u ∷ rest) a
more_linked m some dests t u rest w a d l = record {
  dests = w ∷ l.dests;
  body = l.body;
  tail = l.tail;
  are = let k = d.2 in rw k l.are;
  some = or_right some true refl;
  expr = l.expr;
  not_empty = l.not_empty;
  spelled = ap (λ (x : Token). x ∷ u ∷ rest) d.0 ∙ (ap (λ (x : Token). tokens.Word w ∷ x ∷ rest) d.1 ∙ ap (λ (r : List Token). tokens.Word w ∷ tokens.Sign signs.Equals ∷ r) l.spelled);
  bits = l.bits;
  coded = l.coded;
}

-- what is read after such destinations is spelled
chain_linked : (m : Machine) (some : Bool) (dests : ℕ) (ts : List Token) (a : Assignment) → chain_at m some dests ts ≡ Some a → IsLinked m some dests ts a
unfolding chain_at Dests
chain_linked m some dests [] a h = last_linked m some dests [] a h
chain_linked m some dests (t ∷ []) a h = last_linked m some dests (t ∷ []) a h
chain_linked m some dests (t ∷ u ∷ rest) a h = go (dest_of t u) (dest_is t u) h (λ w k. chain_linked m true (bit_or dests (bit w)) rest a k)
  where
    go : (o : Option Word) → Dests t u o → on_dest o (λ w. chain_at m true (bit_or dests (bit w)) rest) (last m some dests (t ∷ u ∷ rest)) ≡ Some a
        → ((w : Word) → chain_at m true (bit_or dests (bit w)) rest ≡ Some a → IsLinked m true (bit_or dests (bit w)) rest a) → IsLinked m some dests (t ∷ u ∷ rest) a
    go (Some w) d k rec = more_linked m some dests t u rest w a d (rec w k)
    go None d k rec = last_linked m some dests (t ∷ u ∷ rest) a k

-- what is spelled is read
pub chain_again : (m : Machine) (ts : List Token) (a : Assignment) → IsAssignment m ts a → chain_at m false 0 ts ≡ Some a
chain_again m ts a h = linked_again m false 0 ts a (record { dests = h.dests; body = h.body; tail = h.tail; are = h.are; some = h.some; expr = h.expr; not_empty = h.not_empty; spelled = h.spelled; bits = h.bits; coded = h.coded })

-- what is read is spelled
pub chain_is : (m : Machine) (ts : List Token) (a : Assignment) → chain_at m false 0 ts ≡ Some a → IsAssignment m ts a
chain_is m ts a h =
    let l : IsLinked m false 0 ts a = chain_linked m false 0 ts a h in
    record { dests = l.dests; body = l.body; tail = l.tail; are = l.are; some = l.some; expr = l.expr; not_empty = l.not_empty; spelled = l.spelled; bits = l.bits; coded = l.coded }
