-- What holds of each token that may stand in a statement holds of each token of its text.
use Rattle.mal_print.proofs.Common.{◌≡◌, Bool, true, false, List, [], ◌∷◌, ◌++◌, Option, Some, None, refl, pos, AllByRecursion as Each, list_all, ◌&&◌, not}
use Rattle.mal_print.proofs.Common.{and_parts, cond_both, not-true, Machine, Mic1, Mic2, AluOp, BusSource, Shift, Mem, Test, Part, row, fits_side, may_be_a}
use Rattle.mal_print.proofs.Common.{may_be_b, may_fetch, Word, Sign, Token, Next}
use Rattle.micro_word.specs.declared.statement.AluOp.TheVariants as ops
use Rattle.micro_word.specs.declared.statement.BusSource.TheVariants as bus
use Rattle.micro_word.specs.declared.statement.Shift.TheVariants as shifts
use Rattle.micro_word.specs.declared.statement.Mem.TheVariants as mems
use Rattle.micro_word.specs.declared.statement.Test.TheVariants as tests
use Rattle.mal_tokens.specs.declared.word.Word.TheVariants as words
use Rattle.mal_tokens.specs.declared.sign.Sign.TheVariants as signs
use Rattle.mal_tokens.specs.declared.token.Token.TheVariants as tokens
use Rattle.mal_line.specs.declared.next.Next.TheVariants as nexts
use Rattle.mal_line.specs.Prelude.{minus, one_token, plus, side, source_word, spelling, tail_with, zero_token, dest_tokens, tail_tokens, is_foreign_word, is_semicolon, test_word, EachTarget}
use Rattle.mal_print.specs.Prelude.{all_dests, assignment, beside, byte_word, chain, dests_of, fetches, has_dest, heads, is_absent, leads, memory, or_semicolon, parts, tested, value}
use Rattle.mal_print.proofs.Fitting.{filtered, Fits}

-- ---- sources of a machine

own_source_b : (m : Machine) (x : BusSource) → may_be_b m x ≡ true → is_foreign_word m (source_word x) ≡ false
own_source_b Mic1 bus.Mdr h = cc
own_source_b Mic2 bus.Mdr h = cc
own_source_b _ _ h = cc

own_source_a : (m : Machine) (x : BusSource) → may_be_a m x ≡ true → is_foreign_word m (source_word x) ≡ false
own_source_a Mic1 bus.H h = cc
own_source_a Mic1 _ h = cc
own_source_a Mic2 x h = own_source_b Mic2 x h

own_fetch : (m : Machine) → may_fetch m true ≡ true → is_foreign_word m words.Fetch ≡ false
own_fetch Mic1 h = cc
own_fetch _ h = cc

own_byte : (m : Machine) → is_foreign_word m (byte_word m) ≡ false
own_byte Mic1 = refl
own_byte _ = refl

own_test : (m : Machine) (test : Test) → is_foreign_word m (test_word test) ≡ false
own_test Mic1 tests.N = refl
own_test Mic2 tests.N = refl
own_test _ _ = refl

-- ---- what holds of each token

module _ (P : Token → Type 0) where
  each_append : (ts us : List Token) → Each P ts → Each P us → Each P (ts ++ us)
  each_append [] us h g = g
  each_append (t ∷ ts) us h g = (h.0, each_append ts us h.1 g)

  each_beside : P (tokens.Sign signs.Semicolon) → (ts us : List Token) → Each P ts → Each P us → Each P (beside ts us)
  each_beside s [] us h g = g
  each_beside s (t ∷ ts) [] h g = h
  each_beside s (t ∷ ts) (u ∷ us) h g = each_append (t ∷ ts) (tokens.Sign signs.Semicolon ∷ u ∷ us) h (s, g)

  pub each_lone : P (tokens.Sign signs.Semicolon) → (ts : List Token) → Each P ts → Each P (or_semicolon ts)
  each_lone s [] h = (s, tt)
  each_lone s (t ∷ ts) h = h

  -- of the signs and numbers of an expression
  pub record Expressed : Type 0 where
    pub plus : P plus
    pub minus : P minus
    pub zero : P zero_token
    pub one : P one_token
    pub inverse : P (tokens.Word words.Not)
    pub both : P (tokens.Word words.And)
    pub either : P (tokens.Word words.Or)

  pub each_spelling : Expressed → (op : AluOp) (a b : Option BusSource) → Each P (side a) → Each P (side b) → Each P (spelling op (side a) (side b))
  each_spelling e ops.A None None h g = assumption
  each_spelling e ops.A None (Some y) h g = assumption
  each_spelling e ops.A (Some x) None h g = assumption
  each_spelling e ops.A (Some x) (Some y) h g = assumption
  each_spelling e _ None None h g = assumption
  each_spelling e _ None (Some y) h g = assumption
  each_spelling e _ (Some x) None h g = assumption
  each_spelling e _ (Some x) (Some y) h g = assumption

  -- of the words of a machine, of signs but the semicolon, and of the numbers of a statement
  pub record Stands (m : Machine) : Type 0 where
    pub word : (w : Word) → is_foreign_word m w ≡ false → P (tokens.Word w)
    pub sign : (s : Sign) → is_semicolon (tokens.Sign s) ≡ false → P (tokens.Sign s)
    pub zero : P zero_token
    pub one : P one_token
    pub eight : P (tokens.Number (pos 8))
    pub offset : P (tokens.Number (pos 256))

  module _ (m : Machine) (of : Stands m) where
    common : (w : Word) → is_foreign_word Mic1 w ≡ false → is_foreign_word Mic2 w ≡ false → P (tokens.Word w)
    common w h g = of.word w (elim m as (λ n. is_foreign_word n w ≡ false) [ Mic1 ↦ h | Mic2 ↦ g ])

    expressed : Expressed
    expressed = record {
      plus = of.sign signs.Plus refl;
      minus = of.sign signs.Minus refl;
      zero = of.zero;
      one = of.one;
      inverse = common words.Not refl refl;
      both = common words.And refl refl;
      either = common words.Or refl refl;
    }

    -- on both machines
    abbrev is_common : Word → Bool
    is_common w = not (is_foreign_word Mic1 w) && not (is_foreign_word Mic2 w)

    each_dests : (ws : List Word) → list_all is_common ws ≡ true → Each P (dest_tokens ws)
    each_dests [] h = tt
    each_dests (w ∷ ws) h =
        let p = and_parts (is_common w) (list_all is_common ws) h in
        let q = and_parts (not (is_foreign_word Mic1 w)) (not (is_foreign_word Mic2 w)) p.0 in
        (common w (not-true (is_foreign_word Mic1 w) q.0) (not-true (is_foreign_word Mic2 w) q.1), (of.sign signs.Equals refl, each_dests ws p.1))

    each_tested : (next : Next Token) → Each P (dest_tokens (tested next ∷ []))
    each_tested (nexts.Branch tests.N high low) = each_dests (words.N ∷ []) refl
    each_tested _ = each_dests (words.Z ∷ []) refl

    each_heads : (ws : List Word) (next : Next Token) → list_all is_common ws ≡ true → Each P (dest_tokens (heads ws next))
    each_heads [] next h = each_tested next
    each_heads (w ∷ ws) next h = each_dests (w ∷ ws) h

    each_tail : (s : Shift) → Each P (tail_tokens (tail_with s))
    each_tail shifts.None = tt
    each_tail shifts.Left8 = (of.sign signs.Left refl, (of.eight, tt))
    each_tail shifts.Right1 = (of.sign signs.Right refl, (of.one, tt))

    each_side : (used : Bool) (may : BusSource → Bool) (o : Option BusSource) → ((x : BusSource) → may x ≡ true → is_foreign_word m (source_word x) ≡ false) → fits_side used may o ≡ true → Each P (side o)
    each_side used may None all h = tt
    each_side used may (Some x) all h = (of.word (source_word x) (all x (and_parts used (may x) h).1), tt)

    pub each_chain : (part : Part) (next : Next Token) → Fits m part → Each P (chain part next)
    each_chain part next f =
        let a = each_side (row part.op).uses_a (may_be_a m) part.a (own_source_a m) f.a in
        let b = each_side (row part.op).uses_b (may_be_b m) part.b (own_source_b m) f.b in
        each_append (dest_tokens (heads (dests_of part.dests) next)) (value part)
        (each_heads (dests_of part.dests) next (filtered is_common (has_dest part.dests) all_dests refl))
        (each_append (spelling part.op (side part.a) (side part.b)) (tail_tokens (tail_with part.shift))
        (each_spelling expressed part.op part.a part.b a b) (each_tail part.shift))

    pub each_assignment : (part : Part) (next : Next Token) → Fits m part → Each P (assignment part next)
    each_assignment part next f = cond_both (is_absent part) [] (chain part next) (Each P) (λ e. tt) (λ e. each_chain part next f)

    pub each_memory : (mem : Mem) → Each P (memory mem)
    each_memory mems.None = tt
    each_memory mems.Read = (common words.Rd refl refl, tt)
    each_memory mems.Write = (common words.Wr refl refl, tt)

    pub each_fetches : (fetch : Bool) → may_fetch m fetch ≡ true → Each P (fetches fetch)
    each_fetches false h = tt
    each_fetches true h = (of.word words.Fetch (own_fetch m h), tt)

    each_leads : P (tokens.Sign signs.Semicolon) → (next : Next Token) → EachTarget P next → Each P (leads m next)
    each_leads s nexts.Following h = tt
    each_leads s (nexts.Goto to) h = assumption (common words.Goto refl refl)
    each_leads s (nexts.Dispatch false) h =
        assumption (common words.Goto refl refl, of.sign signs.Open refl, of.word (byte_word m) (own_byte m), of.sign signs.Close refl)
    each_leads s (nexts.Dispatch true) h =
        assumption (
          common words.Goto refl refl,
          of.sign signs.Open refl,
          of.word (byte_word m) (own_byte m),
          common words.Or refl refl,
          of.offset,
          of.sign signs.Close refl,
        )
    each_leads s (nexts.Branch test high low) h =
        assumption (
          common words.If refl refl,
          of.sign signs.Open refl,
          of.word (test_word test) (own_test m test),
          of.sign signs.Close refl,
          common words.Goto refl refl,
          common words.Else refl refl,
        )

    pub each_parts : P (tokens.Sign signs.Semicolon) → (part : Part) (next : Next Token) → Fits m part → EachTarget P next → Each P (parts m part next)
    each_parts s part next f h =
        let a = assignment part next in
        let b = beside a (memory part.mem) in
        let c = beside b (fetches part.fetch) in
        each_beside s c (leads m next)
        (each_beside s b (fetches part.fetch) (each_beside s a (memory part.mem) (each_assignment part next f) (each_memory part.mem)) (each_fetches part.fetch f.fetch))
        (each_leads s next h)
