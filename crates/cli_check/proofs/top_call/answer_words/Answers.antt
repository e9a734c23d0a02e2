use Rattle.cli_check.proofs.Common.{rules, sym, Mic1, Mic2, Mic3, asked}
use Rattle.cli_check.proofs.Asking.{call_ends, ends_for}
use Rattle.cli_check.proofs.top_call.answer_words.Goals as goal

pub returns-in-None : goal.returns-in-None
returns-in-None g c = call_ends (sym c.in-None.ensures) (record { names = search rules; does = search rules })

pub returns-in-Mic1 : goal.returns-in-Mic1
returns-in-Mic1 g c = ends_for _ (asked c.in-Some.request) Mic1 c.in-Some.ensures c.in-Mic1.is c.judge_file.ensures

pub returns-in-Mic2 : goal.returns-in-Mic2
returns-in-Mic2 g c = ends_for _ (asked c.in-Some.request) Mic2 c.in-Some.ensures c.in-Mic2.is (record { names = search rules; does = search rules })

pub returns-in-Mic3 : goal.returns-in-Mic3
returns-in-Mic3 g c = ends_for _ (asked c.in-Some.request) Mic3 c.in-Some.ensures c.in-Mic3.is (record { names = search rules; does = search rules })
