use Rattle.std.proofs.Common.{◌≡◌, ◌≤◌, ◌∙◌, ◌++◌, ap, arith, length, take, drop, sym, append_assoc, List, ℕ, take_all, take-append-drop}
use Rattle.mic_base.proofs.memory.sink.MemSinkSink.flush.Goals as goal

-- all bytes begin with those that had been passed on
grown : (n : ℕ) (all front more : List ℕ) → take n all ≡ front ++ more → all ≡ front ++ (more ++ drop n all)
grown n all front more begins = sym (take-append-drop n all) ∙ (ap (λ (l : List ℕ). l ++ drop n all) begins ∙ append_assoc front more (drop n all))

pub returns-clause-keeps : goal.returns-clause-keeps
returns-clause-keeps c =
    let sink = c.args.self.now in
    let counted = sink.bytes.ok in
    let fits : length sink.bytes.items ≤ c.len-self.result = omega arith in
    λ front (more, begins). (more ++ drop sink.passed sink.bytes.items, take_all c.len-self.result sink.bytes.items fits ∙ grown sink.passed sink.bytes.items front more begins)
