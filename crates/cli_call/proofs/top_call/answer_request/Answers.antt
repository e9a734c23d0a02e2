use Rattle.cli_call.proofs.Common.{◌∙◌, ap, Mic1, Mic2, Datapath}
use Rattle.cli_call.proofs.Asking.{on_machine, run_ends}
use Rattle.cli_call.proofs.top_call.answer_request.Goals as goal

pub returns-in-Datapath-Mic1 : goal.returns-in-Datapath-Mic1
returns-in-Datapath-Mic1 g c = on_machine c.args.request (Datapath Mic1) (c.in-Datapath-Mic1.is ∙ ap Datapath (rw c.in-Datapath-Mic1.is at c.in-Datapath-Mic1.field-0-is)) c.answer_on.ensures

pub returns-in-Datapath-Mic2 : goal.returns-in-Datapath-Mic2
returns-in-Datapath-Mic2 g c = on_machine c.args.request (Datapath Mic2) (c.in-Datapath-Mic2.is ∙ ap Datapath (rw c.in-Datapath-Mic2.is at c.in-Datapath-Mic2.field-0-is)) c.answer_on-in-Datapath-Mic2.ensures

pub returns-in-Mic3 : goal.returns-in-Mic3
returns-in-Mic3 g c = run_ends c.args.request c.requires c.in-Mic3.is c.run_file.ensures
