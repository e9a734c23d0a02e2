use Rattle.mic_datapath.proofs.Waiting.{read_waits}
use Rattle.mic_datapath.proofs.accesses.transfer.Goals as goal

pub returns-in_err-word-in-Read-clause-waits : goal.returns-in_err-word-in-Read-clause-waits
returns-in_err-word-in-Read-clause-waits g c =
    read_waits _ c.args.ports.now.mar c.args.bus.now.console.kept c.args.sink.now c.read_word.new.sink c.args.mem c.in-Read.is c.requires
    (λ inside. (c.in_err-word-in-Read.ensures.memory inside).3) c.in_err-word-in-Read.ensures.empty

pub returns-in_ok-word-in-Read-clause-waits : goal.returns-in_ok-word-in-Read-clause-waits
returns-in_ok-word-in-Read-clause-waits g c =
    read_waits _ c.args.ports.now.mar c.args.bus.now.console.kept c.args.sink.now c.read_word.new.sink c.args.mem c.in-Read.is c.requires
    (λ inside. (c.in_ok-word-in-Read.ensures.memory inside).3) c.in_ok-word-in-Read.ensures.empty
