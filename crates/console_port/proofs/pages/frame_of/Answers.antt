use Rattle.console_port.proofs.Paging.{paged_more, room_for_frame, words_same}
use Rattle.console_port.proofs.pages.frame_of.Goals as goal
use Rattle.console_port.proofs.pages.frame_of.Goals.{then-table-page-eq0, else-table-page-eq0}

pub add_frame-requires-clause-room : goal.add_frame-requires-clause-room
add_frame-requires-clause-room c =
    room_for_frame c.args.table.now c.args.frames.now.items c.requires.paged.0 c.requires.paged.1 c.args.page c.requires.page c.if-table-page-eq0.true _ c.requires.room

pub returns-clause-paged : goal.returns-clause-paged
returns-clause-paged c = λ size paged.
    elim c.if-table-page-eq0.branch [
      | then-table-page-eq0 w ↦ rw (w.table-is, w.frames-is, w.add_frame.ensures.table, w.add_frame.ensures.frames)
          (paged_more c.args.table.now c.args.frames.now.items size paged c.args.page c.requires.page w.if-table-page-eq0.true)
      | else-table-page-eq0 w ↦ rw (w.table-is, w.frames-is) paged
    ]

pub returns-clause-words : goal.returns-clause-words
returns-clause-words c = λ size paged.
    elim c.if-table-page-eq0.branch [
      | then-table-page-eq0 w ↦ rw (w.table-is, w.frames-is, w.add_frame.ensures.table, w.add_frame.ensures.frames)
          (words_same c.args.table.now c.args.frames.now.items size paged c.args.page c.requires.page w.if-table-page-eq0.true)
      | else-table-page-eq0 w ↦ rw (w.table-is, w.frames-is)
    ]
