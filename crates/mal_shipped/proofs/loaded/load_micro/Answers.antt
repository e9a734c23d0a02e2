use Rattle.std.proofs.Common.{◌≡◌, ◌<◌, length, ◌∙◌, codes}
use Rattle.mal_shipped.proofs.Entries.{labelled_inside}
use Rattle.mal_shipped.proofs.loaded.load_micro.Goals as goal

-- Main1's number is that of a statement, so it has an address
pub address-entry-requires : goal.address-entry-requires
address-entry-requires c =
    let inside : c.args.program.now.entry < length c.args.program.now.statements =
    labelled_inside c.args.program.now.statements c.args.program.now.entry (codes "Main1") c.entry.ensures.program.entry in
    let count : length c.in_ok-placement.placement ≡ length c.args.program.now.statements =
    (c.in_ok-placement.ensures.chosen).places.count ∙ c.constraints_of.ensures.count in
    rw (c.entry.ensures.is, count) inside
