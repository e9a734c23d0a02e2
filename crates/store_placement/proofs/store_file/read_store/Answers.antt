use Rattle.store_placement.proofs.Common.{◌<◌, ℕ, length, slice_index, sym, ap, ◌∙◌, arith, machine_of, store_file}
use Rattle.store_placement.proofs.StoreFileLemmas.{machine_of_file, length-file, file_again, no_bad, one_store}
use Rattle.store_placement.proofs.store_file.read_store.Goals as goal

pub returns-in_default-clause-back : goal.returns-in_default-clause-back
returns-in_default-clause-back c s is e = absurd (c.in_default.not-Some s.machine (c.machine_of.ensures ∙ (ap machine_of e ∙ machine_of_file s)))

pub returns-then-bytes-ne-LENGTH-clause-back : goal.returns-then-bytes-ne-LENGTH-clause-back
returns-then-bytes-ne-LENGTH-clause-back c s is e = absurd (c.if-bytes-ne-LENGTH.true (ap length e ∙ length-file s is))

pub returns-in-Err-clause-back : goal.returns-in-Err-clause-back
returns-in-Err-clause-back c s is e =
    let small : (i : ℕ) → slice_index c.args.bytes.now i < 256 = λ i. omega (arith, c.type_inv.bytes i) in
    absurd (no_bad c.args.bytes.now c.in-Some.machine s c.in-Err.address is e small (sym c.machine_of.ensures ∙ c.in-Some.is) c.in-Err.ensures)

pub returns-in-Ok-new-clause-ok : goal.returns-in-Ok-new-clause-ok
returns-in-Ok-new-clause-ok c =
    let small : (i : ℕ) → slice_index c.args.bytes.now i < 256 = λ i. omega (arith, c.type_inv.bytes i) in
    ap store_file c.in-Ok-new.ensures.ok ∙ file_again c.args.bytes.now c.in-Some.machine c.in-Ok.store (sym c.machine_of.ensures ∙ c.in-Some.is) (omega arith) small c.in-Ok.ensures

pub returns-in-Ok-new-clause-back : goal.returns-in-Ok-new-clause-back
returns-in-Ok-new-clause-back c s is e =
    let small : (i : ℕ) → slice_index c.args.bytes.now i < 256 = λ i. omega (arith, c.type_inv.bytes i) in
    c.in-Ok-new.ensures.ok ∙ one_store c.args.bytes.now c.in-Some.machine s c.in-Ok.store is e small (sym c.machine_of.ensures ∙ c.in-Some.is) c.in-Ok.ensures
