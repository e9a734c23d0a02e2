use Rattle.mic1_cycles.proofs.Common.{◌≡◌, ◌/◌, Some, None, length, ap, ◌∙◌, byte_refusal, first_refusal, memory_refusal, Refused, Stop, OutOfMap, refusal_of}
use Rattle.mic1_cycles.specs.declared.refusal.Forecast.{Forecast}
use Rattle.mic1_cycles.proofs.refusal.refusal_in.Goals as goal

stop_in : Forecast → Stop
stop_in (Refused why) = why
stop_in _ = OutOfMap

pub returns-in-Clear : goal.returns-in-Clear
returns-in-Clear c why is e fits knows answered =
    let s = c.args.s.now in
    let clear : memory_refusal (length e.start.words) c.args.mem (e.word s.mar) ≡ None = c.of_memory.ensures.clear c.in-Clear.is e fits knows answered in
    let byte : byte_refusal (length e.start.words) c.args.fetch (e.word s.pc) ≡ Some (refusal_of why (e.word s.pc / 4)) = c.of_fetch.ensures why is e fits knows answered in
    record { at = e.word s.pc / 4; is = λ i. first_refusal (clear i) (byte i) }

pub returns-in-Refused : goal.returns-in-Refused
unfolding stop_in
returns-in-Refused c why is e fits knows answered =
    let s = c.args.s.now in
    let stop = c.in-Refused.why in
    let memory : memory_refusal (length e.start.words) c.args.mem (e.word s.mar) ≡ Some (refusal_of stop (e.word s.mar)) = c.of_memory.ensures.refused stop c.in-Refused.is e fits knows answered in
    record {
      at = e.word s.mar;
      is = (λ i. first_refusal (memory i) (byte_refusal (length e.start.words) c.args.fetch (e.word s.pc)))
          ∙ ap (λ (w : Stop). Some (refusal_of w (e.word s.mar))) (ap stop_in is);
    }
