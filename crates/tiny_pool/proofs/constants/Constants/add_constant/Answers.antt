use Rattle.std.proofs.Common.{sym, ◌∙◌, arith}
use Rattle.tiny_pool.proofs.Once.{seen_again, seen_new}
use Rattle.tiny_pool.proofs.constants.Constants.add_constant.Goals as goal

pub returns-then-contains_key : goal.returns-then-contains_key
returns-then-contains_key c =
    record { seen = λ first before h. seen_again c.args.self.now first before c.args.number h (sym c.contains_key.ensures ∙ c.if-contains_key.true) }

pub returns : goal.returns
returns c =
    record {
      seen = λ first before h. seen_new c.args.self.now _ first before c.args.number h (sym c.contains_key.ensures ∙ c.if-contains_key.false)
          c.in_ok-push.ensures.items (omega (arith, c.in-Some.ensures)) c.in_ok-insert.ensures.updates.0;
    }
