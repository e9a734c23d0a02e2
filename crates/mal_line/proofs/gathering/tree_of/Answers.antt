use Rattle.std.proofs.Common.{◌≡◌, ◌∙◌, Bool, Some, None, ap, sym, if◌then◌else◌}
use Rattle.mal_line.specs.Prelude.{add_tokens}
use Rattle.mal_line.proofs.Splitting.{adds_more, adds_last, adds_none}
use Rattle.mal_line.proofs.gathering.tree_of.Goals as goal

pub returns-then-not-add_tokens : goal.returns-then-not-add_tokens
returns-then-not-add_tokens c =
    let h : add_tokens c.args.machine c.loop-following.gathered c.split_at.result.0.now ≡ None =
    c.add_tokens.ensures ∙ ap (λ (is : Bool). if is then Some c.add_tokens.new.gathered else None) c.if-not-add_tokens.true in
    sym (adds_none c.args.machine c.loop-following.gathered c.loop-following.rest.now c.piece_len.result c.split_at.result.0.now c.piece_len.ensures.value c.split_at.ensures.front h) ∙ c.loop-following.invariant

pub returns-in-None : goal.returns-in-None
returns-in-None c =
    let h : add_tokens c.args.machine c.loop-following.gathered c.split_at.result.0.now ≡ Some c.add_tokens.new.gathered =
    c.add_tokens.ensures ∙ ap (λ (is : Bool). if is then Some c.add_tokens.new.gathered else None) c.if-not-add_tokens.false in
    c.ended.ensures ∙ (sym (adds_last c.args.machine c.loop-following.gathered c.add_tokens.new.gathered c.loop-following.rest.now c.piece_len.result c.split_at.result.0.now c.split_at.result.1.now c.piece_len.ensures.value c.split_at.ensures.front c.split_at.ensures.back c.in-None.ensures.cases h) ∙ c.loop-following.invariant)

pub loop-following-preserved : goal.loop-following-preserved
loop-following-preserved c =
    let h : add_tokens c.args.machine c.loop-following.gathered c.split_at.result.0.now ≡ Some c.add_tokens.new.gathered =
    c.add_tokens.ensures ∙ ap (λ (is : Bool). if is then Some c.add_tokens.new.gathered else None) c.if-not-add_tokens.false in
    sym (adds_more c.args.machine c.loop-following.gathered c.add_tokens.new.gathered c.loop-following.rest.now c.piece_len.result c.split_at.result.0.now c.split_at.result.1.now c.in-Some.field-0-0.now c.in-Some.after.now c.piece_len.ensures.value c.split_at.ensures.front c.split_at.ensures.back c.in-Some.ensures.cases.0 h) ∙ c.loop-following.invariant
