use Rattle.cli_watchers.proofs.Common.{◌++◌, ◌∙◌, [], refl, append_assoc, arith, append-nil, no_tally}
use Rattle.cli_watchers.proofs.Printed.{rows_end, rows_step}
use Rattle.cli_watchers.proofs.text.put_rows.Goals as goal

pub loop-row-init : goal.loop-row-init
loop-row-init g c = record { puts = ([], refl, λ old text h. rw append-nil h); cause = λ count h. h }

pub loop-row-preserved : goal.loop-row-preserved
loop-row-preserved g c =
    let so = c.loop-row.invariant.puts in
    let line = c.bytes.result.now in
    record {
      puts = (
        so.0 ++ line,
        rows_step c.loop-row.row c.args.tallies.now no_tally so.0 _ line (omega arith) (c.bytes.ensures.value ∙ c.row_line.ensures) so.1,
        λ old text h. rw (← append_assoc text so.0 line) (c.put_after-said.ensures.puts old (text ++ so.0) (so.2 old text h)),
      );
      cause = λ count h. c.put_after-said.ensures.cause count (c.loop-row.invariant.cause count h);
    }

pub returns-clause-puts : goal.returns-clause-puts
returns-clause-puts g c = λ old text h.
    let so = c.loop-row.invariant.puts in
    let all = rows_end c.loop-row.row c.args.tallies.now so.0 _ c.loop-row-test.false so.1 in
    rw (← all) (so.2 old text h)

pub returns-clause-cause : goal.returns-clause-cause
returns-clause-cause g c = λ count h. c.loop-row.invariant.cause count h
