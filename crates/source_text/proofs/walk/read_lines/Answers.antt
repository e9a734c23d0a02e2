use Rattle.source_text.proofs.Common.{◌≡◌, ◌∷◌, List, ℕ, [], true, refl, ap, ◌∙◌, sym, subst, arith, rules, length, map, ◌==◌, lines, nat_tests, contents}
use Rattle.source_text.proofs.Common.{without_comment, StopsAt, StopsBy}
use Rattle.source_text.proofs.Walking.{before_all, before_more, before_none, before_stop}
use Rattle.source_text.proofs.walk.read_lines.Goals as goal

contents_more : (text line after said : List ℕ) → lines text ≡ line ∷ lines after → said ≡ without_comment line → contents text ≡ said ∷ contents after
contents_more text line after said e s = ap (λ ls. map without_comment ls) e ∙ ap (λ w. w ∷ contents after) (sym s)

contents_none : (text : List ℕ) → (length text == 0) ≡ true → contents text ≡ []
contents_none [] h = refl
contents_none (b ∷ rest) h = absurd (grind (arith, nat_tests))

pub loop-rest-init : goal.loop-rest-init
loop-rest-init g c = (omega arith, before_none g.R.Reader.step (g.R.Reader.state c.args.reader.now) (contents c.args.text.now))

pub returns-in_err-line-clause-err : goal.returns-in_err-line-clause-err
returns-in_err-line-clause-err g c =
    let refusal = c.in_err-line.field-0.0 in
    let e : contents c.loop-rest.rest.now ≡ c.without_comment.result.now ∷ contents c.first_line.result.1.now = contents_more c.loop-rest.rest.now c.first_line.result.0.now c.first_line.result.1.now c.without_comment.result.now c.first_line.ensures.value c.without_comment.ensures in
    let stops : StopsBy g.R.Reader.is_memory g.R.Reader.step (g.R.Reader.state c.args.reader.now) c.args.text.now refusal (g.R.Reader.state c.line.new.self) = λ free.
    subst (StopsAt g.R.Reader.step 1 (g.R.Reader.state c.args.reader.now) (contents c.args.text.now) refusal) (sym (c.in_err-line.ensures.left free))
    (before_stop g.R.Reader.step (g.R.Reader.state c.args.reader.now) (g.R.Reader.state c.loop-rest.reader) (contents c.args.text.now) (contents c.loop-rest.rest.now) (contents c.first_line.result.1.now) c.loop-rest.number c.without_comment.result.now refusal
    e (c.in_err-line.ensures.err free) c.loop-rest.invariant.1) in
    search (rules, stops)

pub loop-rest-preserved : goal.loop-rest-preserved
loop-rest-preserved g c =
    let e : contents c.loop-rest.rest.now ≡ c.without_comment.result.now ∷ contents c.first_line.result.1.now = contents_more c.loop-rest.rest.now c.first_line.result.0.now c.first_line.result.1.now c.without_comment.result.now c.first_line.ensures.value c.without_comment.ensures in
    let less = c.first_line.ensures.less in
    let i = c.loop-rest.invariant.0 in (
      omega (arith, less, i),
      before_more g.R.Reader.step (g.R.Reader.state c.args.reader.now) (g.R.Reader.state c.loop-rest.reader) (g.R.Reader.state c.line.new.self) (contents c.args.text.now) (contents c.loop-rest.rest.now) (contents c.first_line.result.1.now) c.loop-rest.number c.without_comment.result.now
          e c.in_ok-line.ensures.ok c.loop-rest.invariant.1,
    )

pub returns-clause-ok : goal.returns-clause-ok
returns-clause-ok g c =
    let none : contents c.loop-rest.rest.now ≡ [] = contents_none c.loop-rest.rest.now (sym c.is_empty.ensures ∙ c.loop-rest-test.false) in
    before_all g.R.Reader.step (g.R.Reader.state c.args.reader.now) (g.R.Reader.state c.loop-rest.reader) (contents c.args.text.now) (contents c.loop-rest.rest.now) c.loop-rest.number none c.loop-rest.invariant.1
