use Rattle.cli_rewind.proofs.Common.{◌^◌, Some, refl, plain_left, Snapshot, sink_of, SinkState, state_text, word_line}
use Rattle.cli_rewind.proofs.Composing.{said_here, went_still}
use Rattle.cli_rewind.proofs.replies.obey.Given.{Over}
use Rattle.cli_rewind.proofs.replies.obey.Goals as goal

abbrev sink : (g : Over) → g.row.K.Denot → SinkState
sink g k = sink_of g.K.Sink.held g.K.Sink.passed g.K.Sink.faults k

pub returns-in-Micro-clause-went : goal.returns-in-Micro-clause-went
returns-in-Micro-clause-went g c = rw c.in-Micro.is c.micro.ensures.went

pub returns-in-Micro-clause-cut : goal.returns-in-Micro-clause-cut
returns-in-Micro-clause-cut g c = rw c.in-Micro.is c.micro.ensures.cut

pub returns-in-Back-clause-went : goal.returns-in-Back-clause-went
returns-in-Back-clause-went g c =
    let left = plain_left c.args.input.now in
    let held = g.K.Sink.held c.args.out.now in
    rw c.in-Back.is
    (went_still {state = g.M.Clocked.state} {m = g.M.Clocked.meaning} (2 ^ 32) c.args.rewind.now c.back.new.rewind left (sink g c.args.out.now)
    c.back.ensures.board c.back.ensures.depth c.requires.well (c.back.ensures.leads (Some left) held))

pub returns-in-Word-clause-went : goal.returns-in-Word-clause-went
returns-in-Word-clause-went g c =
    let v = c.args.rewind.now in
    let left = plain_left c.args.input.now in
    let held = g.K.Sink.held c.args.out.now in
    rw c.in-Word.is
    (went_still {state = g.M.Clocked.state} {m = g.M.Clocked.meaning} (2 ^ 32) v v left (sink g c.args.out.now) refl refl c.requires.well
    (λ s here. (
      s,
      (
        refl,
        said_here g.M.Clocked.state g.M.Clocked.meaning (Some left) held v s v.board.store.words
            (λ (x : Snapshot). word_line x.words c.args.command.number) c.word.result here refl c.word.ensures,
      ),
      here,
    )))

pub returns-in-Regs-clause-went : goal.returns-in-Regs-clause-went
returns-in-Regs-clause-went g c =
    let v = c.args.rewind.now in
    let left = plain_left c.args.input.now in
    let held = g.K.Sink.held c.args.out.now in
    rw c.in-Regs.is
    (went_still {state = g.M.Clocked.state} {m = g.M.Clocked.meaning} (2 ^ 32) v v left (sink g c.args.out.now) refl refl c.requires.well
    (λ s here. (
      s,
      (
        refl,
        said_here g.M.Clocked.state g.M.Clocked.meaning (Some left) held v s v.board.store.words
            (λ (x : Snapshot). state_text x.moment.registers) c.regs.result here refl c.regs.ensures,
      ),
      here,
    )))

pub returns-in-Quit-clause-went : goal.returns-in-Quit-clause-went
returns-in-Quit-clause-went g c =
    let v = c.args.rewind.now in
    rw c.in-Quit.is
    (went_still {state = g.M.Clocked.state} {m = g.M.Clocked.meaning} (2 ^ 32) v v (plain_left c.args.input.now)
    (sink g c.args.out.now) refl refl c.requires.well
    (λ s here. (s, (refl, c.new.ensures), here)))
