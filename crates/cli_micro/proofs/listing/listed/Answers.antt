use Rattle.cli_micro.proofs.Common.{◌∙◌, ap, sym, subst, refusal_by, OfStoreFile, listing}
use Rattle.micro_word.specs.Prelude.{ControlStore, IsStore}
use Rattle.cli_micro.proofs.Answering.{no_store}
use Rattle.cli_micro.proofs.listing.listed.Goals as goal

pub returns-in_ok-listing-in-Ok-clause-ok : goal.returns-in_ok-listing-in-Ok-clause-ok
returns-in_ok-listing-in-Ok-clause-ok c =
    let P : ControlStore → Type 0 = λ s. IsStore s in
    OfStoreFile c.in-Ok.store.value c.requires.store (subst P c.deref.ensures c.in_ok-listing-in-Ok.ensures.store) (sym c.in-Ok.ensures.ok)
    (c.in_ok-listing-in-Ok.ensures.text ∙ ap (λ (s : ControlStore). listing s) c.deref.ensures)

pub returns-in-Err-clause-err : goal.returns-in-Err-clause-err
returns-in-Err-clause-err c =
    no_store c.args.machine c.args.bytes.now c.in-Err.error c.by.result c.requires.store c.in-Err.ensures.cause (c.by.ensures ∙ ap refusal_by c.store_reason.ensures)
