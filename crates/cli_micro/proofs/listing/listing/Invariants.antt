use Rattle.cli_micro.proofs.Common.{◌≡◌, map, text_of, below, store_line}
use Rattle.cli_micro.proofs.listing.listing.Given as goal

abbrev pub invariant-loop-address : goal.invariant-loop-address
invariant-loop-address l = l.text.items ≡ text_of (map (store_line l.store) (below l.address))
