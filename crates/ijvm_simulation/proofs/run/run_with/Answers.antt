use Rattle.ijvm_simulation.proofs.Common.{◌≡◌, ap, sym, ControlStore}
use Rattle.ijvm_simulation.proofs.Next.{Known}
use Rattle.ijvm_simulation.proofs.Boards.{has_run, is_cut_by_read, is_cut_by_write}
use Rattle.ijvm_simulation.proofs.run.run_with.Given.{Over}
use Rattle.ijvm_simulation.proofs.run.run_with.Goals as goal

known : (g : Over) → (c : goal.After-run g) → Known
known g c = record { sound = c.accepted_images_keep_sound.ensures; start = c.runs_keep_words.ensures.start; goes = c.runs_keep_words.ensures.goes }

-- the board has the store that was given
given : (g : Over) → (c : goal.After-run g) → c.in_ok-board.board.store.words ≡ c.args.store.words
given g c = ap (λ (store : ControlStore). store.words) c.in_ok-board.ensures.store

pub returns-clause-run : goal.returns-clause-run
returns-clause-run g c = λ reading keeps none.
    has_run g.M.Clocked.state g.M.Clocked.meaning _ _ c.args.entry reading.timing keeps
    c.args.image.now (known g c) c.args.bound _ _ _ _ c.in_ok-board.board c.run.new.self c.in_ok-board.ensures.reset
    (given g c) (sym c.run.ensures.goes_on.store) c.run.ensures.goes_on.source_goes_on.tells_left
    c.run.result c.run.ensures.end (c.run.ensures.kept c.in_ok-board.ensures.reset.end) (c.run.ensures.run c.in_ok-board.ensures.reset.end none)

pub returns-clause-read : goal.returns-clause-read
returns-clause-read g c = λ reading keeps failed.
    is_cut_by_read g.M.Clocked.state g.M.Clocked.meaning _ _ c.args.entry reading.timing keeps
    c.args.image.now (known g c) c.args.bound _ _ _ _ c.in_ok-board.board c.run.new.self c.in_ok-board.ensures.reset
    (given g c) (sym c.run.ensures.goes_on.store) c.run.ensures.goes_on.source_goes_on.tells_left
    (c.run.ensures.read c.in_ok-board.ensures.reset.end failed)

pub returns-clause-write : goal.returns-clause-write
returns-clause-write g c = λ reading keeps failed.
    is_cut_by_write g.M.Clocked.state g.M.Clocked.meaning _ _ c.args.entry reading.timing keeps
    c.args.image.now (known g c) c.args.bound _ _ _ _ c.in_ok-board.board c.run.new.self c.in_ok-board.ensures.reset
    (given g c) (sym c.run.ensures.goes_on.store) c.run.ensures.goes_on.source_goes_on.tells_left
    c.run.ensures.goes_on.sink_goes_on.keeps (c.run.ensures.write c.in_ok-board.ensures.reset.end failed)

pub returns-clause-cause : goal.returns-clause-cause
returns-clause-cause g c = rw c.in_ok-board.ensures.reset.end at c.run.ensures.goes_on.cause
