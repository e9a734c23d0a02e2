use Rattle.mic_clock.proofs.board.Board.cycle.Goals as goal

pub returns-clause-before : goal.returns-clause-before
returns-clause-before g c = rw (← c.self.view_is) c.turn_once.ensures.changes.before

pub returns-clause-waits : goal.returns-clause-waits
returns-clause-waits g c = rw (← c.self.view_is) c.turn_once.ensures.waits
