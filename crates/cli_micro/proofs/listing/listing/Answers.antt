use Rattle.cli_micro.proofs.Common.{◌∙◌, sym, store_line}
use Rattle.cli_micro.proofs.Lined.{line_added, lined_none}
use Rattle.cli_micro.proofs.listing.listing.Goals as goal

pub loop-address-init : goal.loop-address-init
loop-address-init c = c.new-text.ensures.items ∙ sym (lined_none (store_line c.args.store.now))

pub loop-address-preserved : goal.loop-address-preserved
loop-address-preserved c =
    line_added (store_line c.args.store.now) c.loop-address.address c.loop-address.text.items c.add_line.new.text.items c.store_line.result
    c.loop-address.invariant c.store_line.ensures c.in_ok-add_line.ensures
