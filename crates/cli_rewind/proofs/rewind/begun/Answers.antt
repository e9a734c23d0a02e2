use Rattle.cli_rewind.proofs.Common.{◌≡◌, ℕ, Bool, false, List, [], Option, Some, None, refl, sym, ap, subst, append-nil, unwrap_or, Shows, Given, Untaken}
use Rattle.cli_rewind.proofs.Common.{BusView, World, MemoryMap, BoardView, reset_run, HistoryView}
use Rattle.cli_rewind.proofs.Answering.{starts}
use Rattle.cli_rewind.proofs.rewind.begun.Goals as goal

-- a bus that keeps nothing, and whose input has not ended, shows a world
shown_at : (bus : BusView) → bus.console.kept ≡ [] → bus.console.ended ≡ false → (left held : Option (List ℕ)) → (w : World) × Shows left held bus w
shown_at bus kept ended left held =
    let w : World = record { words = bus.words; untaken = unwrap_or left []; given = unwrap_or held [] } in (
      w,
      record {
        words = refl;
        untaken = subst (λ (b : Bool). Untaken left b w.untaken) (sym ended) (left_is left);
        given = subst (λ (k : List ℕ). Given held k w.given) (sym kept) (held_is held);
      },
    )
  where
    left_is : (left : Option (List ℕ)) → Untaken left false (unwrap_or left [])
    left_is None = tt
    left_is (Some l) = refl

    held_is : (held : Option (List ℕ)) → Given held [] (unwrap_or held [])
    held_is None = tt
    held_is (Some h) = sym (append-nil h)

pub returns-clause-start : goal.returns-clause-start
returns-clause-start g c =
    let m = g.M.Clocked.meaning in
    let made = c.in_ok-rewind.ensures in
    let reset = c.in_ok-board.ensures.reset in
    record {
      reset = rw made.board (record { loaded = c.args.prepared.micro.is_loaded; store = c.in_ok-board.ensures.store; reset = reset });
      depth_is = ap (λ (h : HistoryView). h.depth) made.history;
      memory = ap (λ (map : MemoryMap). map.stack_end) c.map.ensures.is;
      shown = rw made.board (shown_at c.in_ok-board.board.bus reset.kept reset.ended);
      stands = λ left held w shows.
          starts g.M.Clocked.state m c.in_ok-rewind.rewind c.in_ok-board.board c.args.depth
          (reset_run m c.args.prepared.micro.loaded.entry c.args.prepared.program.main_locals w) left held made.board reset.end made.history
          (reset.shows left held w (subst (λ (b : BoardView g.row.M.Denot). Shows left held b.bus w) made.board shows));
    }
