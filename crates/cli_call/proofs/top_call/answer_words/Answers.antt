use Rattle.cli_call.proofs.Common.{◌≡◌, None, map, rules, string_bytes, request_of}
use Rattle.cli_call.proofs.Asking.{call_ends}
use Rattle.cli_call.proofs.top_call.answer_words.Goals as goal

pub returns-in-Err-Usage : goal.returns-in-Err-Usage
returns-in-Err-Usage g c =
    let misused : request_of (map string_bytes c.args.words.now) ≡ None = rw c.in-Err-Usage.field-0-is at c.in-Err-Usage.ensures.asks in
    call_ends misused (record { names = search rules; does = search rules })

pub returns-in-Ok : goal.returns-in-Ok
returns-in-Ok g c = call_ends c.in-Ok.ensures.asks c.answer_request.ensures
