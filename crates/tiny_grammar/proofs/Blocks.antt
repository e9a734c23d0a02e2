-- How statements and blocks go on.
use Rattle.tiny_grammar.proofs.Common.{◌≡◌, ℕ, ◌+◌, ◌-◌, ◌<◌, true, false, List, [], ◌∷◌, ◌++◌, map, refl, ap, sym, ◌∙◌, arith, append_assoc, Option, Some}
use Rattle.tiny_grammar.proofs.Common.{None, append-nil, map_push, Word, Statement, statements_of, statement_tree, Sign, Token, Refusal}
use Rattle.tiny_draft.specs.declared.tree.Statement as declared
use Rattle.tiny_draft.specs.Tree as tree
use Rattle.tiny_draft.specs.declared.token.Kind.TheVariants as kinds
use Rattle.tiny_draft.specs.declared.token.Sign.TheVariants as signs
use Rattle.tiny_grammar.specs.Prelude.{first_kind, first_line, end, kept_line, sign, sign_at, word, spell_arguments, spell_block, spell_expr, spell_statement, spell_statements, Stays, turn, ABlock, ACond, AfterName, AName, Arguments, AStatement, MaybeElse, Outcome, Part, Statements, Want, before, begins, begins_statement, fault, is_name, is_sign, or_skip, take_on, value, walk, HoldsNoBlock, Moves, NameAt, Reads, ReadsAll, Says, Sees, Stops}
use Rattle.tiny_grammar.proofs.Beginnings.{block_none, else_none, statement_none}
use Rattle.tiny_grammar.proofs.Exprs.{name_at}
use Rattle.tiny_grammar.proofs.Moving.{closes_at, frame, frame_stops, levels_as, opens_at, skip_at, skipping, stays_at, stop_at, stops_as, text_as, then, then_stops}

abbrev pub assigning : List Part
assigning = Want signs.Assign ∷ value

-- ---- a sign that keeps its line

pub sign_at_moves : (levels : ℕ) (p : Part) (to : List Part) (s : Sign) (ts rest : List Token) (line : ℕ) → Sees s ts rest → line ≡ first_line ts
    → begins p (kinds.Of s) ≡ Some to → turn (kinds.Of s) ≡ Stays → ((l : ℕ) → kept_line (kinds.Of s) l ≡ l)
    → Moves levels (p ∷ []) ts (sign_at s line ∷ []) levels to rest
sign_at_moves levels p to s ts rest line see h b u k =
    text_as (sign_at s line ∷ []) (ap (λ l. sign_at s l ∷ []) (k see.token.line ∙ sym (h ∙ ap first_line see.split)))
    (stays_at levels p to (kinds.Of s) ts see.token rest see.split see.is b u)

-- ---- statements

pub put_begins : (levels : ℕ) (ts rest : List Token) → Sees signs.Put ts rest → Moves levels (AStatement ∷ []) ts (sign signs.Put ∷ []) levels value rest
put_begins levels ts rest s = stays_at levels AStatement value (kinds.Of signs.Put) ts s.token rest s.split s.is refl refl

pub return_begins : (levels : ℕ) (ts rest : List Token) (line : ℕ) → Sees signs.Return ts rest → line ≡ first_line ts
    → Moves levels (AStatement ∷ []) ts (sign_at signs.Return line ∷ []) levels value rest
return_begins levels ts rest line s h = sign_at_moves levels AStatement value signs.Return ts rest line s h refl refl (λ l. refl)

pub halt_begins : (levels : ℕ) (ts rest : List Token) → Sees signs.Halt ts rest
    → Moves levels (AStatement ∷ []) ts (sign signs.Halt ∷ []) levels (Want signs.Semicolon ∷ []) rest
halt_begins levels ts rest s = stays_at levels AStatement (Want signs.Semicolon ∷ []) (kinds.Of signs.Halt) ts s.token rest s.split s.is refl refl

pub semicolon : (levels : ℕ) (ts rest : List Token) → Sees signs.Semicolon ts rest → Moves levels (Want signs.Semicolon ∷ []) ts end levels [] rest
semicolon levels ts rest s = stays_at levels (Want signs.Semicolon) [] (kinds.Of signs.Semicolon) ts s.token rest s.split s.is refl refl

pub assign_sign : (levels : ℕ) (ts rest : List Token) → Sees signs.Assign ts rest → Moves levels (Want signs.Assign ∷ []) ts (sign signs.Assign ∷ []) levels [] rest
assign_sign levels ts rest s = stays_at levels (Want signs.Assign) [] (kinds.Of signs.Assign) ts s.token rest s.split s.is refl refl

pub var_begins : (levels : ℕ) (ts rest : List Token) → Sees signs.Var ts rest → Moves levels (AStatement ∷ []) ts (sign signs.Var ∷ []) levels (AName ∷ assigning) rest
var_begins levels ts rest s = stays_at levels AStatement (AName ∷ assigning) (kinds.Of signs.Var) ts s.token rest s.split s.is refl refl

pub var_named : (levels : ℕ) (ts rest after : List Token) (w : Word) → Sees signs.Var ts rest → NameAt w rest after
    → Moves levels (AStatement ∷ []) ts (sign signs.Var ∷ word w ∷ []) levels assigning after
var_named levels ts rest after w s n = then (var_begins levels ts rest s) (frame assigning (name_at levels AName [] rest w after n refl))

pub statement_named : (levels : ℕ) (ts after : List Token) (w : Word) → NameAt w ts after → Moves levels (AStatement ∷ []) ts (word w ∷ []) levels (AfterName ∷ []) after
statement_named levels ts after w n = name_at levels AStatement (AfterName ∷ []) ts w after n refl

pub name_wanted : (levels : ℕ) (ts : List Token) (e : Refusal) → e ≡ fault ts → is_name (first_kind ts) ≡ None → Stops levels (AName ∷ []) ts e
name_wanted levels ts e h n = stops_as levels (AName ∷ []) ts e (fault ts) h (stop_at levels AName ts refl n)

-- a name with `=` after it is no call
assign_walk : (levels : ℕ) (ts : List Token) → is_sign signs.Open (first_kind ts) ≡ None → (ps : List Part)
    → walk levels (AfterName ∷ ps) ts ≡ walk levels (assigning ++ ps) ts
unfolding walk
assign_walk levels [] n ps = refl
assign_walk levels (t ∷ ts) n ps = go t.kind refl n
  where
    go : (k : _) → t.kind ≡ k → is_sign signs.Open k ≡ None → walk levels (AfterName ∷ ps) (t ∷ ts) ≡ walk levels (assigning ++ ps) (t ∷ ts)
    go (kinds.Of signs.Open) h n = absurd (cc)
    go _ h n = rw h refl

pub after_name_assigns : (levels : ℕ) (ts : List Token) → is_sign signs.Open (first_kind ts) ≡ None → Moves levels (AfterName ∷ []) ts [] levels assigning ts
after_name_assigns levels ts n = record { spelled = refl; goes = λ ps. assign_walk levels ts n ps; long = omega arith }

pub if_begins : (levels : ℕ) (ts rest : List Token) (line : ℕ) → Sees signs.If ts rest → line ≡ first_line ts
    → Moves levels (AStatement ∷ []) ts (sign_at signs.If line ∷ []) levels (ACond ∷ ABlock ∷ MaybeElse ∷ []) rest
if_begins levels ts rest line s h = sign_at_moves levels AStatement (ACond ∷ ABlock ∷ MaybeElse ∷ []) signs.If ts rest line s h refl refl (λ l. refl)

pub while_begins : (levels : ℕ) (ts rest : List Token) (line : ℕ) → Sees signs.While ts rest → line ≡ first_line ts
    → Moves levels (AStatement ∷ []) ts (sign_at signs.While line ∷ []) levels (ACond ∷ ABlock ∷ []) rest
while_begins levels ts rest line s h = sign_at_moves levels AStatement (ACond ∷ ABlock ∷ []) signs.While ts rest line s h refl refl (λ l. refl)

pub else_begins : (levels : ℕ) (ts rest : List Token) → Sees signs.Else ts rest → Moves levels (MaybeElse ∷ []) ts (sign signs.Else ∷ []) levels (ABlock ∷ []) rest
else_begins levels ts rest s = stays_at levels MaybeElse (ABlock ∷ []) (kinds.Of signs.Else) ts s.token rest s.split s.is refl refl

pub else_absent : (levels : ℕ) (ts : List Token) → is_sign signs.Else (first_kind ts) ≡ None → Reads levels MaybeElse ts [] ts
else_absent levels ts n = record { spelled = refl; goes = skip_at levels MaybeElse ts refl (else_none (first_kind ts) n); long = omega arith }

pub no_statement : (levels : ℕ) (ts : List Token) (e : Refusal) → e ≡ fault ts → is_sign signs.Put (first_kind ts) ≡ None → is_sign signs.Return (first_kind ts) ≡ None
    → is_sign signs.Halt (first_kind ts) ≡ None → is_sign signs.Var (first_kind ts) ≡ None → HoldsNoBlock ts → is_name (first_kind ts) ≡ None → Stops levels (AStatement ∷ []) ts e
no_statement levels ts e h a b c d x z = stops_as levels (AStatement ∷ []) ts e (fault ts) h
    (stop_at levels AStatement ts refl (statement_none (first_kind ts) a b c d x.no_while x.no_if z))

pub named_reads : (levels : ℕ) (ts after rest : List Token) (w : Word) (s : _) → NameAt w ts after → Says levels w s after rest
    → Reads levels AStatement ts (spell_statement (statement_tree s)) rest
named_reads levels ts after rest w s n says = text_as (spell_statement (statement_tree s)) (sym says.is) (then (statement_named levels ts after w n) says.reads)

-- ---- blocks

abbrev pub inside : List Part
inside = Statements ∷ Want signs.End ∷ []

begin_by : (levels : ℕ) (t : Token) (r : Option (List Part)) (ps : List Part) (later : Option (List Part)) (next : ℕ → List Part → Outcome)
    → take_on levels t (or_skip (before (Statements ∷ []) r) true (Want signs.End ∷ ps) None) next ≡ take_on levels t (or_skip r false (inside ++ ps) later) next
begin_by levels t None ps later next = refl
begin_by levels t (Some qs) ps later next = ap (λ x. take_on levels t (Some x) next) (append_assoc qs (Statements ∷ []) (Want signs.End ∷ ps))

begin_walk : (levels : ℕ) (ts : List Token) → is_sign signs.End (first_kind ts) ≡ None → (ps : List Part)
    → walk levels (inside ++ ps) ts ≡ walk levels (AStatement ∷ (inside ++ ps)) ts
unfolding walk
begin_walk levels [] n ps = refl
begin_walk levels (t ∷ ts) n ps = rw n (begin_by levels t (begins_statement t.kind) ps
    (or_skip (before (Statements ∷ []) (begins_statement t.kind)) true (Want signs.End ∷ ps) None) (λ l qs. walk l qs ts))

pub statements_begin : (levels : ℕ) (ts : List Token) → is_sign signs.End (first_kind ts) ≡ None → Moves levels inside ts [] levels (AStatement ∷ inside) ts
statements_begin levels ts n = record { spelled = refl; goes = λ ps. begin_walk levels ts n ps; long = omega arith }

none_yet : (levels : ℕ) (ts : List Token) → Moves levels inside ts [] levels inside ts
none_yet levels ts = record { spelled = refl; goes = λ ps. refl; long = omega arith }

statements_more : (ss : List Statement) (s : Statement) → spell_statements (statements_of ss) ++ spell_statement s ≡ spell_statements (statements_of (ss ++ s ∷ []))
statements_more [] s = sym (append-nil (spell_statement s))
statements_more (x ∷ ss) s = append_assoc (spell_statement x) (spell_statements (statements_of ss)) (spell_statement s) ∙ ap (λ y. spell_statement x ++ y) (statements_more ss s)

module _ (levels : ℕ) (ts rest after : List Token) (found : List declared.Statement)
    (inv : Moves levels (ABlock ∷ []) ts (sign signs.Begin ∷ spell_statements (statements_of (map statement_tree found))) (levels - 1) inside rest)
    (n : is_sign signs.End (first_kind rest) ≡ None) where
  pub statement_more : (s : declared.Statement) (new : List declared.Statement) → Reads (levels - 1) AStatement rest (spell_statement (statement_tree s)) after → new ≡ found ++ s ∷ []
      → Moves levels (ABlock ∷ []) ts (sign signs.Begin ∷ spell_statements (statements_of (map statement_tree new))) (levels - 1) inside after
  statement_more s new read pushed =
      text_as (sign signs.Begin ∷ spell_statements (statements_of (map statement_tree new)))
      (ap (λ x. sign signs.Begin ∷ x) (statements_more (map statement_tree found) (statement_tree s)
      ∙ ap (λ x. spell_statements (statements_of x)) (sym (ap (map statement_tree) pushed ∙ map_push statement_tree found s))))
      (then inv (then (statements_begin (levels - 1) rest n) (frame inside read)))

  pub statement_stops : (e : Refusal) → Stops (levels - 1) (AStatement ∷ []) rest e → Stops levels (ABlock ∷ []) ts e
  statement_stops e s = then_stops e inv (then_stops e (statements_begin (levels - 1) rest n) (frame_stops (levels - 1) (AStatement ∷ []) rest e inside s))

pub block_opens : (levels : ℕ) (ts rest : List Token) → Sees signs.Begin ts rest → 0 < levels → Moves levels (ABlock ∷ []) ts (sign signs.Begin ∷ []) (levels - 1) inside rest
block_opens levels ts rest s z = opens_at levels ABlock inside (kinds.Of signs.Begin) ts s.token rest s.split s.is refl refl z

block_closes : (levels : ℕ) (ts rest : List Token) → Sees signs.End ts rest → Moves levels inside ts (sign signs.End ∷ []) (levels + 1) [] rest
block_closes levels ts rest s = then
    (skipping Statements (Want signs.End ∷ []) (none_yet levels ts)
    (skip_at levels Statements ts refl (ap (λ x. before (Statements ∷ []) (begins_statement x)) (ap first_kind s.split ∙ s.is))))
    (closes_at levels (Want signs.End) [] (kinds.Of signs.End) ts s.token rest s.split s.is refl refl)

pub block_unopened : (levels : ℕ) (ts : List Token) (e : Refusal) → e ≡ fault ts → is_sign signs.Begin (first_kind ts) ≡ None → Stops levels (ABlock ∷ []) ts e
block_unopened levels ts e h n = stops_as levels (ABlock ∷ []) ts e (fault ts) h (stop_at levels ABlock ts refl (block_none (first_kind ts) n))

pub block_ends : (levels : ℕ) (ts rest after : List Token) (ss : tree.Statements) → 0 < levels
    → Moves levels (ABlock ∷ []) ts (sign signs.Begin ∷ spell_statements ss) (levels - 1) inside rest → Sees signs.End rest after → Reads levels ABlock ts (spell_block ss) after
block_ends levels ts rest after ss z inv s = levels_as levels (omega (arith, z)) (then inv (block_closes (levels - 1) rest after s))

-- ---- what follows the name of a statement

pub call_opens : (levels : ℕ) (ts rest : List Token) → Sees signs.Open ts rest → 0 < levels
    → Moves levels (AfterName ∷ []) ts (sign signs.Open ∷ []) (levels - 1) (Arguments ∷ Want signs.Semicolon ∷ []) rest
call_opens levels ts rest s z = opens_at levels AfterName (Arguments ∷ Want signs.Semicolon ∷ []) (kinds.Of signs.Open) ts s.token rest s.split s.is refl refl z

pub call_read : (levels : ℕ) (ts rest after : List Token) (es : tree.Arguments) → Sees signs.Open ts rest → 0 < levels
    → Moves (levels - 1) (Arguments ∷ []) rest (spell_arguments es) ((levels - 1) + 1) [] after
    → Moves levels (AfterName ∷ []) ts (sign signs.Open ∷ spell_arguments es) levels (Want signs.Semicolon ∷ []) after
call_read levels ts rest after es s z read = levels_as levels (omega (arith, z)) (then (call_opens levels ts rest s z) (frame (Want signs.Semicolon ∷ []) read))

pub call_says : (levels : ℕ) (ts rest after last : List Token) (w : Word) (es : tree.Arguments) (s : declared.Statement) → Sees signs.Open ts rest → 0 < levels
    → Moves (levels - 1) (Arguments ∷ []) rest (spell_arguments es) ((levels - 1) + 1) [] after → Sees signs.Semicolon after last
    → statement_tree s ≡ tree.Calls w es → Says levels w s ts last
call_says levels ts rest after last w es s see z read stop is = record {
  text = (sign signs.Open ∷ spell_arguments es) ++ end;
  is = ap spell_statement is;
  reads = then (call_read levels ts rest after es see z read) (semicolon levels after last stop);
}

pub assign_says : (levels : ℕ) (ts last : List Token) (w : Word) (e : tree.Expr) (s : declared.Statement) → is_sign signs.Open (first_kind ts) ≡ None
    → ReadsAll levels assigning ts (sign signs.Assign ∷ (spell_expr e ++ end)) last → statement_tree s ≡ tree.Assign w e → Says levels w s ts last
assign_says levels ts last w e s n read is = record {
  text = sign signs.Assign ∷ (spell_expr e ++ end);
  is = ap spell_statement is;
  reads = then (after_name_assigns levels ts n) read;
}
