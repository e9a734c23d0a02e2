use Rattle.mic_clock.proofs.board.Board.flush.Goals as goal

pub returns-clause-flushed : goal.returns-clause-flushed
returns-clause-flushed g c = rw (← c.self.view_is) c.flush.ensures.flushed
