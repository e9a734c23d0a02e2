use Rattle.mal_parser.specs.Reading.{Sketch}
use Rattle.mal_parser.proofs.Common.{◌≡◌, None, Some, option_and_then, sym, ◌∙◌}
use Rattle.source_text.specs.Places.{IsNotAdded, place_again, place_of}
use Rattle.std.proofs.Common.{rules}
use Rattle.mal_parser.specs.Labels.{address_of, fixed_label}
use Rattle.mal_parser.proofs.Adding.{fix_again, fix_kept}
use Rattle.mal_parser.proofs.source.SourceReader.add_fix.Goals as goal
use Rattle.mal_parser.proofs.source.SourceReader.add_fix.Goals.{in-Ok, in-Err-Again, in-Err}

pub returns-clause-ok : goal.returns-clause-ok
returns-clause-ok c =
    let old : Sketch = record { machine = c.self.inside.machine; statements = c.self.inside.statements; fixes = c.self.inside.fixes; fallback = c.self.inside.fallback } in
    let address : address_of c.args.address ≡ Some c.in-Some.address = search rules in
    rw (← c.self.view_is) (elim c.match-add.branch [
      | in-Ok w ↦
          let kept = rw w.in-Ok.is at c.add.ensures.ok in
          let fresh = rw w.in-Ok.is at c.add.ensures.new in
          rw (w.result-is, kept) (fix_kept c.args.line old c.args.label _ c.in-Some.address address fresh.0)
      | in-Err-Again w ↦ rw w.result-is tt
      | in-Err w ↦ rw w.result-is tt
    ])

pub returns-clause-err : goal.returns-clause-err
returns-clause-err c =
    let old : Sketch = record { machine = c.self.inside.machine; statements = c.self.inside.statements; fixes = c.self.inside.fixes; fallback = c.self.inside.fallback } in
    let address : address_of c.args.address ≡ Some c.in-Some.address = search rules in
    rw (← c.self.view_is) (elim c.match-add.branch [
      | in-Ok w ↦ rw w.result-is tt
      | in-Err-Again w ↦
          let why = rw w.in-Err-Again.field-0-is at w.in-Err-Again.ensures.err in
          rw w.result-is (λ _. fix_again c.args.line old c.args.label _ c.in-Some.address address _ why)
      | in-Err w ↦ rw w.result-is (λ known. absurd (cc))
    ])
