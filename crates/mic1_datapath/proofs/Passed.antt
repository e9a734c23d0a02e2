-- What a fault that is passed on leaves of the source and the sink.
use Rattle.mic1_datapath.proofs.Common.{◌≡◌, ℕ, List, Option, Result, Err, IsErrAnd, sym, StreamsGoOn, BusView, BusFault, ReadFault, WriteFault, handed_on}

same_fault : {T U : Type 0} (e f : BusFault) (r : Result T BusFault) (q : Result U BusFault) → r ≡ Err e → q ≡ Err e → r ≡ Err f → q ≡ Err f
same_fault e f r q was is at = cc

-- what a fault leaves of the source and the sink does not depend on the type of the result
module _ {S K : Type 0} (left : S → Option (List ℕ)) (source_faults : S → ℕ) (held passed : K → Option (List ℕ)) (sink_faults : K → ℕ)
    (bus : BusView) (source : S) (sink : K) (bus' : BusView) (source' : S) (sink' : K) where
  pub streams_passed : {T U : Type 0} (e : BusFault) (r : Result T BusFault) (q : Result U BusFault) → r ≡ Err e → IsErrAnd q (λ f. f ≡ e) →
      StreamsGoOn left source_faults held passed sink_faults {T = T} bus source sink bus' source' sink' r →
      StreamsGoOn left source_faults held passed sink_faults {T = U} bus source sink bus' source' sink' q
  streams_passed e r q was passes h =
      let is = sym (handed_on q e passes) in
      record {
        source_goes_on = h.source_goes_on;
        sink_goes_on = record {
          keeps = h.sink_goes_on.keeps;
          tells = h.sink_goes_on.tells;
          flushed = λ well. h.sink_goes_on.flushed (λ at. well (same_fault e WriteFault r q was is at));
        };
        cause = record {
          source_later = h.cause.source_later;
          sink_later = h.cause.sink_later;
          read = λ at. h.cause.read (same_fault e ReadFault q r is was at);
          write = λ at. h.cause.write (same_fault e WriteFault q r is was at);
          source_same = λ other. h.cause.source_same (λ at. other (same_fault e ReadFault r q was is at));
          sink_same = λ other. h.cause.sink_same (λ at. other (same_fault e WriteFault r q was is at));
        };
      }
