use Rattle.ijvm_verifier.proofs.Common.{◌≡◌, ◌≢◌, ℕ, ◌+◌, arith, err_from_is_err_and, MainFrame}
use Rattle.ijvm_verifier.proofs.Counts.{verified, no_frame}
use Rattle.ijvm_verifier.proofs.accept.verify.Goals as goal

pub new-requires : goal.new-requires
new-requires c =
    verified c.args.image c.in_ok-found.found.main_locals c.args.map c.in_ok-found.found.methods c.in_ok-found.found.kinds.items c.in_ok-found.ensures.ok (c.accepted_images_keep_sound.ensures c.args.image) c.requires (omega arith)

pub returns-in_err-found-clause-refused : goal.returns-in_err-found-clause-refused
returns-in_err-found-clause-refused c =
    let refused = c.in_err-found.ensures.err c.args.map.stack_end in
    let answer = err_from_is_err_and c.from_residual.result c.from_residual.ensures.1 in
    let same : answer.0 ≡ c.in_err-found.field-0.0 = answer.2 in
    rw answer.1 (rw same refused)

pub returns-in_err-found-clause-large : goal.returns-in_err-found-clause-large
returns-in_err-found-clause-large c = λ large.
    let error = c.in_err-found.field-0.0 in
    let none : (count : ℕ) → error ≢ MainFrame count = λ count is. no_frame c.args.image error count is (c.in_err-found.ensures.err (0x8000 + count)) in
    let answer = err_from_is_err_and c.from_residual.result c.from_residual.ensures.1 in
    let same : answer.0 ≡ error = answer.2 in
    rw answer.1 (rw same none)
