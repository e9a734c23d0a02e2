-- Numbers that are added, part by part.
use Rattle.tiny_pool.proofs.Common.{◌≡◌, ◌<◌, ℕ, ◌+◌, List, [], ◌++◌, length, map, drop, get_or, sym, ap, ◌∙◌, append_assoc, subst, flat_map, append-nil, Expr}
use Rattle.tiny_pool.proofs.Common.{out-Expr, Step, out-Step, Statement, Function, arguments_of, statements_of, steps_of, block_tree, expr_tree, function_tree}
use Rattle.tiny_pool.proofs.Common.{statement_tree, step_tree, term_tree, drop_item, expr_tree_out, step_tree_out, arguments_numbers, expr_numbers}
use Rattle.tiny_pool.proofs.Common.{function_numbers, statement_numbers, statements_numbers, steps_numbers, term_numbers, Constants, Adds, HasSeen}
use Rattle.tiny_tree.specs.declared.tree.Operator.{Operator}
use Rattle.tiny_tree.specs.Tree as tree

pub adds_none : (c : Constants) → Adds c c []
adds_none c = record { seen = λ first before h. subst (λ (l : List ℕ). HasSeen c first l) (sym (append-nil before)) h }

pub adds_then : (a b c : Constants) (ms ns : List ℕ) → Adds a b ms → Adds b c ns → Adds a c (ms ++ ns)
adds_then a b c ms ns one two =
    record {
      seen = λ first before h.
          subst (λ (l : List ℕ). HasSeen c first l) (append_assoc before ms ns) (two.seen first (before ++ ms) (one.seen first before h));
    }

-- ---- what a loop has added so far: where the rest is added too, all is
pub record IsOnTheWay (old now : Constants) (rest whole : List ℕ) : Type 0 where
  pub then_whole : (new : Constants) → Adds now new rest → Adds old new whole

pub starts : (c : Constants) (whole : List ℕ) → IsOnTheWay c c whole whole
starts c whole = record { then_whole = λ new h. h }

pub goes_on : (old now next : Constants) (rest one more whole : List ℕ) → rest ≡ one ++ more → IsOnTheWay old now rest whole → Adds now next one →
    IsOnTheWay old next more whole
goes_on old now next rest one more whole e way added =
    record { then_whole = λ new h. way.then_whole new (subst (λ (l : List ℕ). Adds now new l) (sym e) (adds_then now next new one more added h)) }

pub ends : (old now : Constants) (rest whole : List ℕ) → rest ≡ [] → IsOnTheWay old now rest whole → Adds old now whole
ends old now rest whole e way = way.then_whole now (subst (λ (l : List ℕ). Adds now now l) (sym e) (adds_none now))

pub expr_numbers_are : (e : Expr) (items : List Step) → items ≡ (out-Expr e).rest →
    term_numbers (term_tree (out-Expr e).first) ++ steps_numbers (steps_of (map step_tree items)) ≡ expr_numbers (expr_tree e)
expr_numbers_are e items is =
    ap (λ (l : List Step). term_numbers (term_tree (out-Expr e).first) ++ steps_numbers (steps_of (map step_tree l))) is
    ∙ ap (λ (t : tree.Expr). expr_numbers t) (sym (expr_tree_out e))

pub step_at : (ss : List Step) (i : ℕ) (s : Step) → i < length ss → s ≡ get_or ss i s →
    steps_numbers (steps_of (map step_tree (drop i ss)))
    ≡ term_numbers (term_tree (out-Step s).term) ++ steps_numbers (steps_of (map step_tree (drop (i + 1) ss)))
step_at ss i s lt is =
    ap (λ (l : List Step). steps_numbers (steps_of (map step_tree l))) (drop_item ss i s lt is)
    ∙ ap (λ (x : Operator × tree.Term). term_numbers x.1 ++ steps_numbers (steps_of (map step_tree (drop (i + 1) ss)))) (step_tree_out s)

pub argument_at : (es : List Expr) (i : ℕ) (e : Expr) → i < length es → e ≡ get_or es i e →
    arguments_numbers (arguments_of (map expr_tree (drop i es)))
    ≡ expr_numbers (expr_tree e) ++ arguments_numbers (arguments_of (map expr_tree (drop (i + 1) es)))
argument_at es i e lt is = ap (λ (l : List Expr). arguments_numbers (arguments_of (map expr_tree l))) (drop_item es i e lt is)

pub statement_at : (ss : List Statement) (i : ℕ) (s : Statement) → i < length ss → s ≡ get_or ss i s →
    statements_numbers (statements_of (map statement_tree (drop i ss)))
    ≡ statement_numbers (statement_tree s) ++ statements_numbers (statements_of (map statement_tree (drop (i + 1) ss)))
statement_at ss i s lt is = ap (λ (l : List Statement). statements_numbers (statements_of (map statement_tree l))) (drop_item ss i s lt is)

pub function_at : (fs : List Function) (i : ℕ) (f : Function) → i < length fs → f ≡ get_or fs i f →
    flat_map function_numbers (map function_tree (drop i fs))
    ≡ statements_numbers (block_tree f.body) ++ flat_map function_numbers (map function_tree (drop (i + 1) fs))
function_at fs i f lt is = ap (λ (l : List Function). flat_map function_numbers (map function_tree l)) (drop_item fs i f lt is)
