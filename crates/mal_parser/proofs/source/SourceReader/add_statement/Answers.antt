use Rattle.mal_parser.specs.Reading.{Sketch}
use Rattle.std.specs.Prelude.{◌≡◌, ◌≤◌, None, Some, length, option_and_then}
use Rattle.source_text.specs.Places.{IsNotAdded, place_again, place_of}
use Rattle.mal_parser.specs.Labels.{own_label}
use Rattle.mal_parser.proofs.Adding.{statement_again, statement_full, statement_kept}
use Rattle.mal_parser.proofs.source.SourceReader.add_statement.Goals as goal
use Rattle.mal_parser.proofs.source.SourceReader.add_statement.Goals.{in-Ok, in-Err-Again, in-Err-Full, in-Err-OutOfMemory}

pub returns-clause-ok : goal.returns-clause-ok
returns-clause-ok c = rw (← c.self.view_is) (elim c.match-add.branch [
  | in-Ok w ↦
      let kept = rw w.in-Ok.is at c.add.ensures.ok in
      let fresh = rw w.in-Ok.is at c.add.ensures.new in
      rw (w.result-is, kept) (statement_kept c.args.line _ c.args.label c.args.parts fresh.0 fresh.1)
  | in-Err-Again w ↦ rw w.result-is tt
  | in-Err-Full w ↦ rw w.result-is tt
  | in-Err-OutOfMemory w ↦ rw w.result-is tt
])

pub returns-clause-err : goal.returns-clause-err
returns-clause-err c =
    let old : Sketch = record { machine = c.self.inside.machine; statements = c.self.inside.statements; fixes = c.self.inside.fixes; fallback = c.self.inside.fallback } in
    rw (← c.self.view_is) (elim c.match-add.branch [
      | in-Ok w ↦ rw w.result-is tt
      | in-Err-Again w ↦
          let why = rw w.in-Err-Again.field-0-is at w.in-Err-Again.ensures.err in
          rw w.result-is (λ _. statement_again c.args.line old c.args.label c.args.parts _ why)
      | in-Err-Full w ↦
          let why = rw w.in-Err-Full.field-0-is at w.in-Err-Full.ensures.err in
          rw w.result-is (λ _. statement_full c.args.line old c.args.label c.args.parts why.0 why.1)
      | in-Err-OutOfMemory w ↦ rw w.result-is (λ known. absurd (cc))
    ])
