use Rattle.mal_shipped.proofs.Common.{◌≡◌, true, false, refl, sym, ap, ◌∙◌, subst, slice_index, MalView, relined, IsChosenList, Demands, HasPlacement}
use Rattle.mal_shipped.proofs.Common.{demands_of, IsFilled, Loaded, listed_program, addresses_of}
use Rattle.mal_shipped.proofs.Lines.{machine_of, same_demands, filled_again}
use Rattle.mal_shipped.proofs.loaded.shipped_store.Goals as goal

-- the listed addresses are a placement
pub unreachable-requires : goal.unreachable-requires
unreachable-requires c =
    let m = c.args.machine in
    let chosen : IsChosenList (demands_of (listed_program m)) (addresses_of m) = c.shipped_programs_are_listed.ensures.chosen m in
    let placed : HasPlacement (demands_of (listed_program m)) = (slice_index (addresses_of m), chosen.places.places) in
    let asked : c.constraints_of.result ≡ demands_of (listed_program m) =
    c.constraints_of.ensures.demands ∙ ap demands_of c.in_ok-program.ensures ∙ same_demands m in
    let here : HasPlacement c.constraints_of.result = subst HasPlacement (sym asked) placed in
    let impossible : false ≡ true = c.in-Err.ensures.ok.1 here in
    cc

pub returns-clause-machine : goal.returns-clause-machine
returns-clause-machine c =
    c.fill.ensures.machine ∙ ap (λ (p : MalView). p.machine) c.in_ok-program.ensures ∙ machine_of c.args.machine

pub returns-clause-shipped : goal.returns-clause-shipped
returns-clause-shipped c =
    let m = c.args.machine in
    let asked : c.constraints_of.result ≡ demands_of (listed_program m) =
    c.constraints_of.ensures.demands ∙ ap demands_of c.in_ok-program.ensures ∙ same_demands m in
    let addresses = c.in-Ok.placement in
    let filled : IsFilled (relined (listed_program m)) addresses c.fill.result.words =
    subst (λ (p : MalView). IsFilled p addresses c.fill.result.words) c.in_ok-program.ensures c.fill.ensures.words in
    let loaded : Loaded = record { store = c.fill.result; placement = addresses; entry = slice_index addresses (listed_program m).entry } in
    c.loaded_programs_are_shipped.ensures.words m loaded (record {
      machine = c.fill.ensures.machine ∙ ap (λ (p : MalView). p.machine) c.in_ok-program.ensures;
      chosen = subst (λ (d : Demands). IsChosenList d addresses) asked c.in-Ok.ensures.chosen;
      filled = filled_again (listed_program m) addresses c.fill.result.words filled;
      entry = refl;
    })
