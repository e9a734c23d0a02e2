use Rattle.cli_rewind.proofs.Common.{◌≤◌, ◌^◌, Some, arith, plain_left, Snapshot, forward_text}
use Rattle.cli_rewind.proofs.Composing.{said_here, same_words, went_as}
use Rattle.cli_rewind.proofs.replies.micro.Goals as goal

pub returns-clause-went : goal.returns-clause-went
returns-clause-went g c =
    let v = c.args.rewind.now in
    let v' = c.go_forward.new.rewind in
    let went = c.in_ok-end.ensures.went in
    let fits = c.ranges.times in
    let few : c.args.times ≤ 2 ^ 32 = omega (arith, fits) in
    went_as c.args.times (2 ^ 32) went few
    (λ s t here p. (
      c.in_ok-end.end,
      p,
      said_here g.M.Clocked.state g.M.Clocked.meaning (Some (plain_left c.go_forward.new.input)) (g.K.Sink.held c.go_forward.new.out) v' t v.board.store.words
          (λ (x : Snapshot). forward_text c.in_ok-end.end x.moment) c.forward_text.result here (same_words v v' went.moved.store) c.forward_text.ensures,
    ))
