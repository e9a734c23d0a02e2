-- The bytes that a microstep of Mic-1 gives come after those given before.
use Rattle.mic1_interpreter.proofs.Common.{ℕ, Some, None, Option, length, Mem, Write, Micro, ports_of, settled, clock, world_after, refusal, step_of_word}
use Rattle.mic1_interpreter.proofs.Common.{Ports, written, sampled, outcome, World, Refusal, statement_of, Grows, OnDone, grows_not, given_grows}
use Rattle.mic_words.specs.declared.machine.Machine.TheVariants as machines

access_grows : (top : ℕ) (mem : Mem) (p : Ports) (w : World) → Grows w.given (sampled top mem p (written top mem p w)).given
access_grows top Write p w = given_grows top w.given p.mar p.mdr
access_grows top _ p w = grows_not w.given

pub step_grows : (word : ℕ) (m : Micro) (w : World) → OnDone (λ (v : World). Grows w.given v.given) (step_of_word word m w)
unfolding step_of_word
step_grows word m w = by_refusal (refusal (length w.words) (statement_of machines.Mic1 word) m)
  where
    by_refusal : (r : Option Refusal) → OnDone (λ (v : World). Grows w.given v.given)
        (outcome r (clock (length w.words) (statement_of machines.Mic1 word) m w) (world_after (length w.words) (statement_of machines.Mic1 word) m w))
    by_refusal (Some why) = tt
    by_refusal None = access_grows (length w.words) (statement_of machines.Mic1 word).part.mem (ports_of (settled (statement_of machines.Mic1 word).part m)) w
