-- The bytes that a microstep of Mic-2 gives come after those given before.
use Rattle.mic2_interpreter.proofs.Common.{ℕ, Bool, true, false, Some, None, Option, length, World, Refusal, statement_of, Mem, Write, Placed, Ports}
use Rattle.mic2_interpreter.proofs.Common.{edge_refusal, Grows, OnDone, grows_not, given_grows}
use Rattle.mic_words.specs.declared.machine.Machine.TheVariants as machines
use Rattle.mic_datapath.specs.Prelude.{ports_given, written, sampled, outcome}
use Rattle.mic2_datapath.specs.Prelude.{Micro, settled, clock, world_after, refusal, stalled, is_stalled, step_if, step_of_word}

access_grows : (top : ℕ) (mem : Mem) (p : Ports) (w : World) → Grows w.given (sampled top mem p (written top mem p w)).given
access_grows top Write p w = given_grows top w.given p.mar p.mdr
access_grows top _ p w = grows_not w.given

pub step_grows : (word : ℕ) (m : Micro) (w : World) → OnDone (λ (v : World). Grows w.given v.given) (step_of_word word m w)
unfolding step_of_word
step_grows word m w = by_stall (is_stalled s m)
  where
    s : Placed
    s = statement_of machines.Mic2 word

    stall_grows : (r : Option Refusal) → OnDone (λ (v : World). Grows w.given v.given) (outcome r (stalled w.words m) w)
    stall_grows (Some why) = tt
    stall_grows None = grows_not w.given

    clock_grows : (r : Option Refusal) → OnDone (λ (v : World). Grows w.given v.given)
        (outcome r (clock (length w.words) (statement_of machines.Mic2 word) m w) (world_after (length w.words) (statement_of machines.Mic2 word) m w))
    clock_grows (Some why) = tt
    clock_grows None = access_grows (length w.words) (statement_of machines.Mic2 word).part.mem (ports_given (settled (statement_of machines.Mic2 word) m)) w

    by_stall : (b : Bool) → OnDone (λ (v : World). Grows w.given v.given) (step_if b (length w.words) (statement_of machines.Mic2 word) m w)
    by_stall true = stall_grows (edge_refusal (length w.words) 0 m.unit)
    by_stall false = clock_grows (refusal (length w.words) (statement_of machines.Mic2 word) m)
