-- From the reset of a Mic-1 to its first boundary.
use Rattle.mic1_interpreter.proofs.Common.{◌≡◌, ℕ, None, List, [], ◌∷◌, length, refl, arith, ap, Mic1, next, wrap, fetch_refusal, byte_in, Micro, mic1_meaning}
use Rattle.mic1_interpreter.proofs.Common.{timing_of, start_of, VerifiedView, Origin, Moment, Boots, reset_moment, Loads, fetch_ok, map, first, Stands}
use Rattle.mic1_interpreter.proofs.Store.{HasStatements}
use Rattle.mic1_interpreter.proofs.Guided.{clocked, pass-clocked}

first_address : next 4294967295 ≡ 0
unfolding wrap
first_address = refl

pub boots : (program : List ℕ) (has : HasStatements program) (o : Origin) (v : VerifiedView) (loads : Loads v o) (input : List ℕ) →
    Boots mic1_meaning program (Stands o) o.given (timing_of Mic1) (reset_moment mic1_meaning 0x002 v.main_locals o input) (start_of v.main_locals input)
boots program has o v loads input =
    let start : Moment Micro = reset_moment mic1_meaning 0x002 v.main_locals o input in
    let fetch : fetch_refusal (length o.words) (next 4294967295) ≡ None = fetch_ok (length o.words) (map v o loads) first_address (omega arith) in
    record {
      off = refl;
      moves = record {
        n = 1;
        spent_is = refl;
        short = omega arith;
        begins = record { no_halt = refl; no_err = refl };
        there = clocked (length o.words) (0 ∷ []) 1 start;
        passes = pass-clocked program has (length o.words) (0 ∷ []) 1 start refl (assumption);
        stands = assumption (first v o input start.state.sp start.state.tos loads (omega arith), first_address, ap (byte_in o.words) first_address);
      };
    }
