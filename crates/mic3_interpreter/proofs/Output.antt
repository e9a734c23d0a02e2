-- The bytes that a cycle of Mic-3 gives come after those given before.
use Rattle.mic3_interpreter.proofs.Common.{ℕ, Some, None, Option, length, World, Refusal, statement_of, Mem, Write, ports_given, written, sampled, outcome}
use Rattle.mic3_interpreter.proofs.Common.{Ports, Pipeline, Issued, issued, mem_in, settled, clock, world_after, refusal, step_of_word, grows_not, given_grows}
use Rattle.mic_words.specs.declared.machine.Machine.TheVariants as machines
use Rattle.ijvm_simulation.specs.Prelude.{Grows, OnDone}

access_grows : (top : ℕ) (mem : Mem) (p : Ports) (w : World) → Grows w.given (sampled top mem p (written top mem p w)).given
access_grows top Write p w = given_grows top w.given p.mar p.mdr
access_grows top _ p w = grows_not w.given

pub step_grows : (word : ℕ) (p : Pipeline) (w : World) → OnDone (λ (v : World). Grows w.given v.given) (step_of_word word p w)
unfolding step_of_word
step_grows word p w = by_refusal (refusal (length w.words) i p)
  where
    i : Option Issued
    i = issued (statement_of machines.Mic2 word) p

    by_refusal : (r : Option Refusal) →
        OnDone (λ (v : World). Grows w.given v.given)
        (outcome r (clock (length w.words) (issued (statement_of machines.Mic2 word) p) p w)
        (world_after (length w.words) (issued (statement_of machines.Mic2 word) p) p w))
    by_refusal (Some why) = tt
    by_refusal None = access_grows (length w.words) (mem_in p.result) (ports_given (settled (issued (statement_of machines.Mic2 word) p) p)) w
