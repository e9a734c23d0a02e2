use Rattle.std.proofs.Common.{Ok, subst, sym, ◌∙◌, rules}
use Rattle.mic_base.specs.declared.source.SourceFailed.{SourceFailed}
use Rattle.cli_session.specs.declared.line.Read.{Read}
use Rattle.cli_session.specs.Prelude.{ReadsLine}
use Rattle.cli_session.proofs.LineLemmas.{read_at_end, read_ended, read_full, reading_more}
use Rattle.cli_session.proofs.line.read_line.Goals as goal

pub returns-then-byte-eq10-clause-reads : goal.returns-then-byte-eq10-clause-reads
returns-then-byte-eq10-clause-reads g c =
    read_ended (g.S.Source.left c.args.console.now) (g.S.Source.left c.bytes.console) (g.S.Source.left c.get.new.self) c.bytes.line.items c.in-Some.byte (search rules) (search rules)
    (rw c.in-Some.is at c.in_ok-byte.ensures.takes) c.bytes.invariant.reading

pub bytes-preserved : goal.bytes-preserved
bytes-preserved g c =
    record {
      reading = reading_more (g.S.Source.left c.args.console.now) (g.S.Source.left c.bytes.console) (g.S.Source.left c.get.new.self) c.bytes.line.items c.push.new.self.items c.in-Some.byte
          c.push.ensures.items (search rules) (search rules) (rw c.in-Some.is at c.in_ok-byte.ensures.takes) c.bytes.invariant.reading;
      quiet = c.in_ok-byte.ensures.cause.quiet ∙ c.bytes.invariant.quiet;
      small = search rules;
    }

pub returns-in-None-clause-reads : goal.returns-in-None-clause-reads
returns-in-None-clause-reads g c =
    subst (λ (r : Read). ReadsLine {E = SourceFailed} (g.S.Source.left c.args.console.now) c.bytes.line.items (Ok r) (g.S.Source.left c.get.new.self)) (sym (search rules))
    (read_at_end SourceFailed (g.S.Source.left c.args.console.now) (g.S.Source.left c.bytes.console) (g.S.Source.left c.get.new.self) c.bytes.line.items (rw c.in-None.is at c.in_ok-byte.ensures.takes).0 (rw c.in-None.is at c.in_ok-byte.ensures.takes).1
    c.bytes.invariant.reading)

pub returns-clause-reads : goal.returns-clause-reads
returns-clause-reads g c = read_full (g.S.Source.left c.args.console.now) (g.S.Source.left c.bytes.console) c.bytes.line.items (search rules) c.bytes.invariant.reading
