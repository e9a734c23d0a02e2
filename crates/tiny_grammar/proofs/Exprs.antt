-- How expressions, conditions and arguments go on.
use Rattle.tiny_grammar.proofs.Common.{◌≡◌, ℕ, ◌+◌, ◌-◌, ◌<◌, List, [], ◌∷◌, ◌++◌, map, refl, ap, sym, ◌∙◌, append_assoc, None, Some, option_map, map_push}
use Rattle.tiny_grammar.proofs.Common.{Operator, Comparison, Word, arguments_of, steps_of, expr_tree, step_tree, term_tree, Kind, Token, Refusal}
use Rattle.tiny_draft.specs.declared.tree.Expr.{Expr}
use Rattle.tiny_draft.specs.declared.tree.Term.{Term}
use Rattle.tiny_tree.specs.declared.tree.Operator.TheVariants as operators
use Rattle.tiny_draft.specs.declared.tree.Comparison.TheVariants as comparisons
use Rattle.tiny_draft.specs.declared.tree.Step.{Step}
use Rattle.tiny_draft.specs.Tree as tree
use Rattle.tiny_draft.specs.declared.token.Kind.TheVariants as kinds
use Rattle.tiny_draft.specs.declared.token.Sign.TheVariants as signs
use Rattle.tiny_grammar.specs.Prelude.{first_kind, bare, comparison, end, kept_line, operator, sign, word, spell_arguments, spell_cond, spell_expr, spell_steps, spell_term, Stays, turn, ACond, AnExpr, ATerm, Arguments, Compare, MoreArguments, Part, Steps, Want, begins, comparison_of, fault, is_sign, operator_of, value, ComparisonAt, Moves, NameAt, NumberAt, OperatorAt, Reads, ReadsAll, Sees, Stops}
use Rattle.tiny_grammar.proofs.Lists.{arguments_end, commas_more, steps_more, with_commas}
use Rattle.tiny_grammar.proofs.Beginnings.{arguments_not_closed, more_none}
use Rattle.tiny_grammar.proofs.Moving.{back, closes_at, frame, frame_stops, kept_as, opens_at, regroup, stays_at, stop_at, stops_as, text_as, then, then_stops}

pub expr_term : (levels : ℕ) (ts : List Token) → Moves levels (AnExpr ∷ []) ts [] levels (ATerm ∷ Steps ∷ []) ts
expr_term levels ts = regroup levels AnExpr ATerm (Steps ∷ []) ts refl refl refl

-- ---- names, numbers and signs

pub name_at : (levels : ℕ) (p : Part) (to : List Part) (ts : List Token) (w : Word) (rest : List Token) → NameAt w ts rest
    → begins p (kinds.Name w.name) ≡ Some to → Moves levels (p ∷ []) ts (word w ∷ []) levels to rest
name_at levels p to ts w rest n b = text_as (word w ∷ []) (ap (λ l. record { kind = kinds.Name w.name; line = l } ∷ []) n.line)
    (stays_at levels p to (kinds.Name w.name) ts n.token rest n.split n.is b refl)

pub number_at : (levels : ℕ) (ts : List Token) (n : ℕ) (rest : List Token) → NumberAt n ts rest
    → Moves levels (ATerm ∷ []) ts (bare (kinds.Number n) ∷ []) levels [] rest
number_at levels ts n rest s = stays_at levels ATerm [] (kinds.Number n) ts s.token rest s.split s.is refl refl

pub wanted : (levels : ℕ) (s : _) (ts : List Token) (e : Refusal) → e ≡ fault ts → is_sign s (first_kind ts) ≡ None → Stops levels (Want s ∷ []) ts e
wanted levels s ts e h n = stops_as levels (Want s ∷ []) ts e (fault ts) h (stop_at levels (Want s) ts refl n)

-- ---- arguments

pub arguments_begin : (levels : ℕ) (ts : List Token) → is_sign signs.Close (first_kind ts) ≡ None
    → Moves levels (Arguments ∷ []) ts [] levels (AnExpr ∷ MoreArguments ∷ []) ts
arguments_begin levels ts h = then
    (regroup levels Arguments ATerm (Steps ∷ MoreArguments ∷ []) ts refl refl (arguments_not_closed (first_kind ts) h))
    (frame (MoreArguments ∷ []) (back levels (AnExpr ∷ []) (ATerm ∷ Steps ∷ []) ts (expr_term levels ts)))

module _ (levels : ℕ) (ts rest after : List Token) (found : List Expr) (a : Expr)
    (inv : Moves levels (Arguments ∷ []) ts (with_commas (map expr_tree found)) levels (AnExpr ∷ MoreArguments ∷ []) rest)
    (read : Reads levels AnExpr rest (spell_expr (expr_tree a)) after) where
  one_more : Moves levels (Arguments ∷ []) ts (with_commas (map expr_tree found) ++ spell_expr (expr_tree a)) levels (MoreArguments ∷ []) after
  one_more = then inv (frame (MoreArguments ∷ []) read)

  module _ (new : List Expr) (pushed : new ≡ found ++ a ∷ []) where
    seen : map expr_tree new ≡ map expr_tree found ++ expr_tree a ∷ []
    seen = ap (map expr_tree) pushed ∙ map_push expr_tree found a

    pub more_arguments : (more : List Token) → Sees signs.Comma after more
        → Moves levels (Arguments ∷ []) ts (with_commas (map expr_tree new)) levels (AnExpr ∷ MoreArguments ∷ []) more
    more_arguments more s = text_as (with_commas (map expr_tree new))
        (append_assoc (with_commas (map expr_tree found)) (spell_expr (expr_tree a)) (kept_as (kinds.Of signs.Comma) s.token ∷ [])
        ∙ (commas_more (map expr_tree found) (expr_tree a) ∙ ap with_commas (sym seen)))
        (then one_more (stays_at levels MoreArguments (AnExpr ∷ MoreArguments ∷ []) (kinds.Of signs.Comma) after s.token more s.split s.is refl refl))

    pub arguments_close : (more : List Token) → Sees signs.Close after more
        → Moves levels (Arguments ∷ []) ts (spell_arguments (arguments_of (map expr_tree new))) (levels + 1) [] more
    arguments_close more s = text_as (spell_arguments (arguments_of (map expr_tree new)))
        (append_assoc (with_commas (map expr_tree found)) (spell_expr (expr_tree a)) (kept_as (kinds.Of signs.Close) s.token ∷ [])
        ∙ (arguments_end (map expr_tree found) (expr_tree a) ∙ ap (λ x. spell_arguments (arguments_of x)) (sym seen)))
        (then one_more (closes_at levels MoreArguments [] (kinds.Of signs.Close) after s.token more s.split s.is refl refl))

  pub arguments_unended : (e : Refusal) → e ≡ fault after → is_sign signs.Comma (first_kind after) ≡ None → is_sign signs.Close (first_kind after) ≡ None
      → Stops levels (Arguments ∷ []) ts e
  arguments_unended e h x y = then_stops e one_more
      (stops_as levels (MoreArguments ∷ []) after e (fault after) h (stop_at levels MoreArguments after refl (more_none (first_kind after) x y)))

-- ---- further terms

pub operator_kept : (k : Kind) (line : ℕ) (o : Operator) → operator_of k ≡ Some o → record { kind = k; line = kept_line k line } ≡ operator o
operator_kept (kinds.Of signs.Plus) line o h = let e : operators.Plus ≡ o = cc in ap operator e
operator_kept (kinds.Of signs.Minus) line o h = let e : operators.Minus ≡ o = cc in ap operator e
operator_kept (kinds.Of signs.And) line o h = let e : operators.And ≡ o = cc in ap operator e
operator_kept (kinds.Of signs.Or) line o h = let e : operators.Or ≡ o = cc in ap operator e
operator_kept _ line o h = absurd (cc)

operator_stays : (k : Kind) (o : Operator) → operator_of k ≡ Some o → turn k ≡ Stays
operator_stays (kinds.Of signs.Plus) o h = refl
operator_stays (kinds.Of signs.Minus) o h = refl
operator_stays (kinds.Of signs.And) o h = refl
operator_stays (kinds.Of signs.Or) o h = refl
operator_stays _ o h = absurd (cc)

pub operator_moves : (levels : ℕ) (o : Operator) (ts rest : List Token) → OperatorAt o ts rest
    → Moves levels (Steps ∷ []) ts (operator o ∷ []) levels (ATerm ∷ Steps ∷ []) rest
operator_moves levels o ts rest at = text_as (operator o ∷ []) (ap (λ x. x ∷ []) (operator_kept at.token.kind at.token.line o at.is))
    (stays_at levels Steps (ATerm ∷ Steps ∷ []) at.token.kind ts at.token rest at.split refl
    (ap (option_map (λ o. ATerm ∷ Steps ∷ [])) at.is) (operator_stays at.token.kind o at.is))

module _ (levels : ℕ) (ts rest after following : List Token) (first : tree.Term) (steps : List Step) (o : Operator)
    (inv : Moves levels (AnExpr ∷ []) ts (spell_term first ++ spell_steps (steps_of (map step_tree steps))) levels (Steps ∷ []) rest)
    (at : OperatorAt o rest after) where
  pub step_stops : (e : Refusal) → Stops levels (ATerm ∷ []) after e → Stops levels (AnExpr ∷ []) ts e
  step_stops e s = then_stops e inv (then_stops e (operator_moves levels o rest after at) (frame_stops levels (ATerm ∷ []) after e (Steps ∷ []) s))

  pub step_more : (t : Term) (s : Step) (new : List Step) → Reads levels ATerm after (spell_term (term_tree t)) following → step_tree s ≡ (o, term_tree t) → new ≡ steps ++ s ∷ []
      → Moves levels (AnExpr ∷ []) ts (spell_term first ++ spell_steps (steps_of (map step_tree new))) levels (Steps ∷ []) following
  step_more t s new read is pushed =
      let seen : map step_tree new ≡ map step_tree steps ++ (o, term_tree t) ∷ []
      = ap (map step_tree) pushed ∙ (map_push step_tree steps s ∙ ap (λ x. map step_tree steps ++ x ∷ []) is) in
      text_as (spell_term first ++ spell_steps (steps_of (map step_tree new)))
      (append_assoc (spell_term first) (spell_steps (steps_of (map step_tree steps))) (operator o ∷ spell_term (term_tree t))
      ∙ ap (λ x. spell_term first ++ x) (steps_more (map step_tree steps) (o, term_tree t) ∙ ap (λ x. spell_steps (steps_of x)) (sym seen)))
      (then inv (then (operator_moves levels o rest after at) (frame (Steps ∷ []) read)))

-- ---- groups

pub group_opens : (levels : ℕ) (ts rest : List Token) → Sees signs.Open ts rest → 0 < levels
    → Moves levels (ATerm ∷ []) ts (sign signs.Open ∷ []) (levels - 1) (AnExpr ∷ Want signs.Close ∷ []) rest
group_opens levels ts rest s z = opens_at levels ATerm (AnExpr ∷ Want signs.Close ∷ []) (kinds.Of signs.Open) ts s.token rest s.split s.is refl refl z

pub closing : (levels : ℕ) (ts rest : List Token) → Sees signs.Close ts rest → Moves levels (Want signs.Close ∷ []) ts (sign signs.Close ∷ []) (levels + 1) [] rest
closing levels ts rest s = closes_at levels (Want signs.Close) [] (kinds.Of signs.Close) ts s.token rest s.split s.is refl refl

-- ---- conditions

pub comparison_kept : (k : Kind) (line : ℕ) (c : Comparison) → comparison_of k ≡ Some c → record { kind = k; line = kept_line k line } ≡ comparison c
comparison_kept (kinds.Of signs.Equal) line c h = let e : comparisons.Equal ≡ c = cc in ap comparison e
comparison_kept (kinds.Of signs.Different) line c h = let e : comparisons.Different ≡ c = cc in ap comparison e
comparison_kept (kinds.Of signs.Less) line c h = let e : comparisons.Less ≡ c = cc in ap comparison e
comparison_kept _ line c h = absurd (cc)

comparison_stays : (k : Kind) (c : Comparison) → comparison_of k ≡ Some c → turn k ≡ Stays
comparison_stays (kinds.Of signs.Equal) c h = refl
comparison_stays (kinds.Of signs.Different) c h = refl
comparison_stays (kinds.Of signs.Less) c h = refl
comparison_stays _ c h = absurd (cc)

pub cond_begin : (levels : ℕ) (ts : List Token) → Moves levels (ACond ∷ []) ts [] levels (AnExpr ∷ Compare ∷ []) ts
cond_begin levels ts = then (regroup levels ACond ATerm (Steps ∷ Compare ∷ []) ts refl refl refl)
    (frame (Compare ∷ []) (back levels (AnExpr ∷ []) (ATerm ∷ Steps ∷ []) ts (expr_term levels ts)))

module _ (levels : ℕ) (ts after : List Token) (a : tree.Expr) (read : Reads levels AnExpr ts (spell_expr a) after) where
  cond_left : Moves levels (ACond ∷ []) ts (spell_expr a) levels (Compare ∷ []) after
  cond_left = then (cond_begin levels ts) (frame (Compare ∷ []) read)

  pub cond_compared : (c : Comparison) (rest : List Token) → ComparisonAt c after rest
      → Moves levels (ACond ∷ []) ts (spell_expr a ++ (comparison c ∷ [])) levels (AnExpr ∷ []) rest
  cond_compared c rest at = then cond_left (text_as (comparison c ∷ []) (ap (λ x. x ∷ []) (comparison_kept at.token.kind at.token.line c at.is))
      (stays_at levels Compare (AnExpr ∷ []) at.token.kind after at.token rest at.split refl
      (ap (option_map (λ c. AnExpr ∷ [])) at.is) (comparison_stays at.token.kind c at.is)))

  pub cond_uncompared : (e : Refusal) → e ≡ fault after → comparison_of (first_kind after) ≡ None → Stops levels (ACond ∷ []) ts e
  cond_uncompared e h x = then_stops e cond_left (stops_as levels (Compare ∷ []) after e (fault after) h
      (stop_at levels Compare after refl (ap (option_map (λ c. AnExpr ∷ [])) x)))

  pub cond_reads : (c : Comparison) (rest last : List Token) (b : tree.Expr) → ComparisonAt c after rest → Reads levels AnExpr rest (spell_expr b) last
      → Reads levels ACond ts (spell_cond (tree.Compare c a b)) last
  cond_reads c rest last b at r = text_as (spell_cond (tree.Compare c a b)) (append_assoc (spell_expr a) (comparison c ∷ []) (spell_expr b)) (then (cond_compared c rest at) r)

-- ---- an expression with a semicolon

pub value_reads : (levels : ℕ) (ts after rest : List Token) (e : tree.Expr) → Reads levels AnExpr ts (spell_expr e) after → Sees signs.Semicolon after rest
    → ReadsAll levels value ts (spell_expr e ++ end) rest
value_reads levels ts after rest e read s = then (frame (Want signs.Semicolon ∷ []) read)
    (stays_at levels (Want signs.Semicolon) [] (kinds.Of signs.Semicolon) after s.token rest s.split s.is refl refl)
