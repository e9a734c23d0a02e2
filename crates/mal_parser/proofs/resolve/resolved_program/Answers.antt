use Rattle.std.proofs.Common.{◌≡◌, ◌∙◌, sym, ap, None, Some}
use Rattle.mal_parser.specs.Prelude.{first_falling, first_unknown, main1, number_of, Sketch}
use Rattle.mal_parser.proofs.Resolved.{program_is, program_made}
use Rattle.mal_parser.proofs.resolve.resolved_program.Goals as goal

pub new-requires : goal.new-requires
new-requires c =
    let s = c.args.reader.now in
    let u : first_unknown s ≡ None = sym c.first_unknown.ensures ∙ c.in_default.is in
    let f : first_falling s ≡ None = sym c.first_falling.ensures ∙ c.in_default-first_falling.is in
    let e : number_of s.statements main1 ≡ Some c.in-Some-find.entry = ap (λ (k : Sketch). number_of k.statements main1) (sym c.reader.view_is) ∙ (ap (number_of c.reader.inside.statements) (sym c.main1.ensures) ∙ (sym c.find.ensures.is ∙ c.in-Some-find.is)) in
    program_made s c.in-Some-find.entry c.reader.inside.machine c.in-Ok.statements.items c.fallback_of.result (program_is s c.in-Some-find.entry c.requires u f e)
    (ap (λ (k : Sketch). k.machine) c.reader.view_is) c.in-Ok.ensures c.fallback_of.ensures
