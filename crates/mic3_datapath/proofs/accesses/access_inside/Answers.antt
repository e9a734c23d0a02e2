use Rattle.mic3_datapath.proofs.Common.{None, length, refl, subst, sym, Mem, IsTransfer, LeadsInside}
use Rattle.micro_word.specs.declared.statement.Mem.TheVariants as mems
use Rattle.mic3_datapath.proofs.Transfers.{led_alone}
use Rattle.mic3_datapath.proofs.accesses.access_inside.Goals as goal

pub returns-else-not-write_alone-clause-access : goal.returns-else-not-write_alone-clause-access
returns-else-not-write_alone-clause-access c =
    let bus = c.args.bus.now in
    let bus' = c.write_alone.new.bus in
    let n = length bus.words in
    let p = c.args.ports.now in
    subst (λ (mem : Mem). LeadsInside bus bus' (λ w v. IsTransfer n mem p w None v)) (sym c.in-Write.is)
    (λ left held.
    led_alone left held bus left held bus' n mems.Write p None None (c.write_alone.ensures.access c.if-not-write_alone.false p refl refl left held))
