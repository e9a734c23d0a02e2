use Rattle.ijvm_meaning.proofs.Ends.{ends_once, last_passed, ends_at, ends_from, passed_state}
use Rattle.ijvm_meaning.proofs.laws.runs_end_once.Goals as goal

pub returns : goal.returns
returns c =
    record {
      one = ends_once;
      last = last_passed;
      passed = λ p bound from at f h. (ends_from p bound from at f h, ends_at p bound from at f h);
      states = passed_state;
    }
