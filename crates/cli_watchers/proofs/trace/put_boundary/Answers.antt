use Rattle.cli_watchers.proofs.Common.{◌≡◌, ◌++◌, [], codes, refl, append_assoc, append-nil, hex_text}
use Rattle.cli_watchers.proofs.trace.put_boundary.Goals as goal

pub returns-in-None-clause-puts : goal.returns-in-None-clause-puts
returns-in-None-clause-puts g c = λ old text h. ([], rw c.in-None.is refl, rw append-nil h)

pub returns-in-Some-clause-puts : goal.returns-in-Some-clause-puts
returns-in-Some-clause-puts g c = λ old text h.
    let front = c.bytes.result.now in
    let instruction = c.bytes-in-Some.result.now in
    let a = c.put_after-said.ensures.puts old text h in
    let b = c.put_after-said-in-Some.ensures.puts old (text ++ front) a in
    let d = c.put_after.ensures.puts old (text ++ front ++ instruction) b in
    let is : text ++ front ++ instruction ++ codes "\n" ≡ text ++ (front ++ instruction ++ codes "\n") = simp append_assoc in
    let its : front ++ instruction ++ codes "\n" ≡ codes "at " ++ hex_text 8 c.in-Some.at ++ codes " " ++ c.instruction_text.result ++ codes "\n" =
    rw (c.bytes.ensures.value, c.bytes-in-Some.ensures.value, c.text.ensures.text, c.addressed-line.ensures.text) refl in
    (front ++ instruction ++ codes "\n", rw c.in-Some.is (c.instruction_text.result, c.instruction_text.ensures, its), rw (← is) d)
