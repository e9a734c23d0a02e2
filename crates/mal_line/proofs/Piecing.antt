-- What stands between two semicolons is read exactly as it is spelled.
use Rattle.mal_line.proofs.Common.{◌≡◌, ℕ, Bool, true, false, List, [], ◌∷◌, ◌++◌, Option, Some, None, refl, sym, ap, subst, ◌∙◌, inl, inr, cond, ℤ, pos}
use Rattle.mal_line.proofs.Common.{option_map, ◌≢◌, list_all, and_parts, Machine, chosen, mapped, Mem, Test, Word, Token, Assignment, Piece, Next}
use Rattle.micro_word.specs.declared.statement.Mem.TheVariants as mems
use Rattle.micro_word.specs.declared.statement.Test.TheVariants as tests
use Rattle.mal_tokens.specs.declared.word.Word.TheVariants as words
use Rattle.mal_tokens.specs.declared.sign.Sign.TheVariants as signs
use Rattle.mal_tokens.specs.declared.token.Token.TheVariants as tokens
use Rattle.mal_line.specs.declared.piece.Piece.TheVariants as found
use Rattle.mal_line.specs.declared.next.Next.TheVariants as nexts
use Rattle.mal_line.specs.Prelude.{dest_tokens, is_dest, is_filled, IsAssignment, tail_tokens, is_number, is_byte_word, IsElse, IsFetch, IsGoto, IsIf, IsMem, test_word, by_offset, chain_at, dispatch, else_of, goto_of, if_of, piece_of, test_of}
use Rattle.mal_line.proofs.Codings.{number_is}
use Rattle.mal_line.proofs.Chaining.{chain_again, chain_is}

-- these tokens spell what stands between two semicolons
abbrev pub IsPiece : Machine → Piece → List Token → Type 0
IsPiece m found.Nothing ts = ts ≡ []
IsPiece m (found.Assign a) ts = IsAssignment m ts a
IsPiece m (found.Mem x) ts = IsMem ts x
IsPiece m found.Fetch ts = IsFetch ts
IsPiece m (found.Jump j) ts = IsGoto ts j
IsPiece m (found.If t n) ts = IsIf ts t n
IsPiece m (found.Else n) ts = IsElse ts n

number_not : (v : ℤ) → v ≢ pos 256 → is_number v 256 ≡ false
number_not v ne = go (is_number v 256) refl
  where
    go : (b : Bool) → is_number v 256 ≡ b → b ≡ false
    go true e = absurd (ne (number_is v 256 e))
    go false e = refl

-- ---- what is read is spelled

none_no : {A : Type 0} (x : A) → None ≡ Some x → ⊥
none_no x h = cc

same : (m : Machine) (ts : List Token) (p q : Piece) → IsPiece m p ts → Some p ≡ Some q → IsPiece m q ts
same m ts p q is h = let e : p ≡ q = cc in subst (λ p. IsPiece m p ts) e is

dispatch_is : (m : Machine) (ts : List Token) (w : Word) (j : Option (Next (List ℕ))) (p : Piece) → dispatch w j ≡ Some p
    → (is_byte_word w ≡ true → IsGoto ts j) → IsPiece m p ts
dispatch_is m ts w j p h is = elim (chosen (is_byte_word w) (Some (found.Jump j)) None (Some p) h) [
  | inl z ↦ same m ts (found.Jump j) p (is z.0) z.1
  | inr z ↦ absurd (none_no p z.1)
]

abbrev byte_tokens : Word → List Token
byte_tokens w = tokens.Word words.Goto ∷ tokens.Sign signs.Open ∷ tokens.Word w ∷ tokens.Sign signs.Close ∷ []

abbrev or_tokens : Word → ℤ → List Token
or_tokens w v = tokens.Word words.Goto ∷ tokens.Sign signs.Open ∷ tokens.Word w ∷ tokens.Word words.Or ∷ tokens.Number v ∷ tokens.Sign signs.Close ∷ []

offset_is : (w : Word) (v : ℤ) → is_byte_word w ≡ true → IsGoto (or_tokens w v) (by_offset v)
offset_is w v b = go (is_number v 256) refl
  where
    go : (x : Bool) → is_number v 256 ≡ x → IsGoto (or_tokens w v) (cond x (Some (nexts.Dispatch true)) None)
    go true e = (w, b, ap (or_tokens w) (number_is v 256 e))
    go false e = (w, v, b, (λ h. let k : is_number v 256 ≡ true = rw h refl in cc), refl)

goto_piece : (m : Machine) (rest : List Token) (p : Piece) → goto_of rest ≡ Some p → IsPiece m p (tokens.Word words.Goto ∷ rest)
goto_piece m (tokens.Name l ∷ []) p h = same m (tokens.Word words.Goto ∷ tokens.Name l ∷ []) (found.Jump (Some (nexts.Goto l))) p refl h
goto_piece m (tokens.Sign signs.Open ∷ tokens.Word w ∷ tokens.Sign signs.Close ∷ []) p h =
    dispatch_is m (byte_tokens w) w (Some (nexts.Dispatch false)) p h (λ b. (w, b, refl))
goto_piece m (tokens.Sign signs.Open ∷ tokens.Word w ∷ tokens.Word words.Or ∷ tokens.Number v ∷ tokens.Sign signs.Close ∷ []) p h =
    dispatch_is m (or_tokens w v) w (by_offset v) p h (offset_is w v)
goto_piece m _ p h = absurd (none_no p h)

test_is : (w : Word) (t : Test) → test_of w ≡ Some t → w ≡ test_word t
test_is words.N t h = let e : tests.N ≡ t = cc in ap test_word e
test_is words.Z t h = let e : tests.Z ≡ t = cc in ap test_word e
test_is _ t h = absurd (none_no t h)

abbrev if_tokens : List ℕ → Word → List Token
if_tokens l w = tokens.Word words.If ∷ tokens.Sign signs.Open ∷ tokens.Word w ∷ tokens.Sign signs.Close ∷ tokens.Word words.Goto ∷ tokens.Name l ∷ []

if_piece : (m : Machine) (rest : List Token) (p : Piece) → if_of rest ≡ Some p → IsPiece m p (tokens.Word words.If ∷ rest)
if_piece m (tokens.Sign signs.Open ∷ tokens.Word w ∷ tokens.Sign signs.Close ∷ tokens.Word words.Goto ∷ tokens.Name l ∷ []) p h =
    let q = mapped (λ t. found.If t l) (test_of w) p h in
    subst (λ p. IsPiece m p (if_tokens l w)) q.2 (ap (if_tokens l) (test_is w q.0 q.1))
if_piece m _ p h = absurd (none_no p h)

else_piece : (m : Machine) (rest : List Token) (p : Piece) → else_of rest ≡ Some p → IsPiece m p (tokens.Word words.Else ∷ rest)
else_piece m (tokens.Word words.Goto ∷ tokens.Name l ∷ []) p h =
    same m (tokens.Word words.Else ∷ tokens.Word words.Goto ∷ tokens.Name l ∷ []) (found.Else l) p refl h
else_piece m _ p h = absurd (none_no p h)

pub piece_is : (m : Machine) (ts : List Token) (p : Piece) → piece_of m ts ≡ Some p → IsPiece m p ts
piece_is m [] p h = same m [] found.Nothing p refl h
piece_is m (tokens.Word words.Rd ∷ []) p h = same m (tokens.Word words.Rd ∷ []) (found.Mem mems.Read) p refl h
piece_is m (tokens.Word words.Wr ∷ []) p h = same m (tokens.Word words.Wr ∷ []) (found.Mem mems.Write) p refl h
piece_is m (tokens.Word words.Fetch ∷ []) p h = same m (tokens.Word words.Fetch ∷ []) found.Fetch p refl h
piece_is m (tokens.Word words.Goto ∷ rest) p h = goto_piece m rest p h
piece_is m (tokens.Word words.If ∷ rest) p h = if_piece m rest p h
piece_is m (tokens.Word words.Else ∷ rest) p h = else_piece m rest p h
piece_is m ts p h = let q = mapped (λ a. found.Assign a) (chain_at m false 0 ts) p h in subst (λ p. IsPiece m p ts) q.2 (chain_is m ts q.0 q.1)

-- ---- what is spelled is read

-- the tokens are read as an assignment
abbrev IsReadAsChain : Machine → List Token → Type 0
IsReadAsChain m ts = piece_of m ts ≡ option_map (λ a. found.Assign a) (chain_at m false 0 ts)

dest_piece : (m : Machine) (w : Word) (rest : List Token) → is_dest w ≡ true → IsReadAsChain m (tokens.Word w ∷ rest)
dest_piece m w rest = elim w as (λ w. is_dest w ≡ true → IsReadAsChain m (tokens.Word w ∷ rest)) [
  | words.Rd ↦ λ h. absurd (cc)
  | words.Wr ↦ λ h. absurd (cc)
  | words.Fetch ↦ λ h. absurd (cc)
  | words.Goto ↦ λ h. absurd (cc)
  | words.If ↦ λ h. absurd (cc)
  | words.Else ↦ λ h. absurd (cc)
  | _ ↦ λ h. refl
]

assign_again : (m : Machine) (ts : List Token) (a : Assignment) → IsAssignment m ts a → piece_of m ts ≡ Some (found.Assign a)
assign_again m ts a l = go l.dests l.are l.some l.spelled
  where
    go : (ds : List Word) → list_all is_dest ds ≡ true → is_filled ds ≡ true → ts ≡ dest_tokens ds ++ (l.body ++ tail_tokens l.tail) → piece_of m ts ≡ Some (found.Assign a)
    go [] are some e = absurd (cc)
    go (d ∷ ds) are some e =
        let p = and_parts (is_dest d) (list_all is_dest ds) are in
        let rest = tokens.Sign signs.Equals ∷ (dest_tokens ds ++ (l.body ++ tail_tokens l.tail)) in
        let c : chain_at m false 0 (tokens.Word d ∷ rest) ≡ Some a = ap (chain_at m false 0) (sym e) ∙ chain_again m ts a l in
        ap (piece_of m) e ∙ (dest_piece m d rest p.0 ∙ ap (option_map (λ a. found.Assign a)) c)

mem_again : (m : Machine) (ts : List Token) (x : Mem) → IsMem ts x → piece_of m ts ≡ Some (found.Mem x)
mem_again m ts mems.None is = absurd is
mem_again m ts mems.Read is = ap (piece_of m) is
mem_again m ts mems.Write is = ap (piece_of m) is

goto_again : (m : Machine) (ts : List Token) (j : Option (Next (List ℕ))) → IsGoto ts j → piece_of m ts ≡ Some (found.Jump j)
goto_again m ts (Some (nexts.Goto label)) is = ap (piece_of m) is
goto_again m ts (Some (nexts.Dispatch false)) (w, b, e) = rw (e, b) refl
goto_again m ts (Some (nexts.Dispatch true)) (w, b, e) = rw (e, b) refl
goto_again m ts None (w, v, b, ne, e) = let k = number_not v ne in rw (e, b, k) refl
goto_again m ts _ is = absurd is

if_again : (m : Machine) (ts : List Token) (t : Test) (n : List ℕ) → IsIf ts t n → piece_of m ts ≡ Some (found.If t n)
if_again m ts tests.N n is = ap (piece_of m) is
if_again m ts tests.Z n is = ap (piece_of m) is

pub piece_again : (m : Machine) (ts : List Token) (p : Piece) → IsPiece m p ts → piece_of m ts ≡ Some p
piece_again m ts (found.Assign a) is = assign_again m ts a is
piece_again m ts (found.Mem x) is = mem_again m ts x is
piece_again m ts (found.Jump j) is = goto_again m ts j is
piece_again m ts (found.If t n) is = if_again m ts t n is
piece_again m ts _ is = ap (piece_of m) is
