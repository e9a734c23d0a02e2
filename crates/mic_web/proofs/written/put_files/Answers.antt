use Rattle.std.proofs.Common.{◌≡◌, ◌∙◌, Option, None, Some, IfNone, inl, inr, arith, ap, sym}
use Rattle.mic_base.specs.Files.{file_in}
use Rattle.mic_base.specs.Memory.{files_contents}
use Rattle.mic_web.proofs.Rows.{laid_more, too_many}
use Rattle.mic_web.proofs.written.put_files.Goals as goal
use Rattle.mic_web.proofs.written.put_files.Goals.{in-Some+else-count-table+in_ok-row, in_default}

when_none : {T : Type 0} (r : Option T) (P : Type 0) → P → IfNone r P
when_none None P p = p
when_none (Some x) P p = tt

pub returns-then-count-table-clause-none : goal.returns-then-count-table-clause-none
returns-then-count-table-clause-none c =
    too_many _ _ _ _ _ _ _ c.loop-name.invariant.are (sym c.in-Some.ensures) (inl (omega arith))

pub returns-in_err-row-clause-none : goal.returns-in_err-row-clause-none
returns-in_err-row-clause-none c =
    let named : c.as_bytes.result.now ≡ c.deref.result.now = cc (c.as_bytes.ensures.value, c.deref.ensures) in
    when_none _ _
    (too_many _ c.as_bytes.result.now c.in-Some.contents.now c.loop-name.count c.loop-name.end _ _ c.loop-name.invariant.are
    (ap (file_in (files_contents c.args.files.now)) named ∙ sym c.in-Some.ensures) (inr c.in_err-row.ensures.none))

pub loop-name-preserved : goal.loop-name-preserved
loop-name-preserved c = elim c.match-find.branch [
  | in-Some+else-count-table+in_ok-row w ↦
      let named : w.as_bytes.result.now ≡ c.deref.result.now = cc (w.as_bytes.ensures.value, c.deref.ensures) in
      rw (w.written-is, w.table-is, w.count-is, w.end-is)
      (laid_more _ _ _ w.as_bytes.result.now w.in-Some.contents.now _ _ _ _ c.loop-name.invariant (omega arith) w.in_ok-row.ensures.row
      (ap (file_in (files_contents c.args.files.now)) named ∙ sym w.in-Some.ensures))
  | in_default w ↦ rw (w.written-is, w.table-is, w.count-is, w.end-is) c.loop-name.invariant
]
