use Rattle.mic_clock.proofs.board.Board.instruction.Goals as goal

pub returns-clause-run : goal.returns-clause-run
returns-clause-run g c = rw (← c.self.view_is) c.turn_to_boundary.ensures.run

pub returns-clause-read : goal.returns-clause-read
returns-clause-read g c = rw (← c.self.view_is) c.turn_to_boundary.ensures.read

pub returns-clause-write : goal.returns-clause-write
returns-clause-write g c = rw (← c.self.view_is) c.turn_to_boundary.ensures.write
