use Rattle.mal_line.proofs.Common.{◌≡◌, ◌+◌, ◌∷◌, ◌∙◌, Some, None, true, length-drop, drop, sym, ap, arith, bit_or, take_rest}
use Rattle.mal_line.specs.Prelude.{bit, chain_at, dest_of, last}
use Rattle.mal_line.proofs.Linking.{chain_step, chain_stop, chain_short, two_at}
use Rattle.mal_line.proofs.chain.chain_of.Goals as goal

pub loop-at-preserved : goal.loop-at-preserved
loop-at-preserved c =
    let ts = c.args.tokens.now in
    let t = c.index-tokens-at.result in
    let u = c.index-tokens-at-in-loop-at.result in
    let e : drop c.loop-at.at ts ≡ t ∷ u ∷ drop (c.loop-at.at + 2) ts = two_at ts c.loop-at.at t u c.loop-at-test.true c.index-tokens-at.is c.index-tokens-at-in-loop-at.is in
    let d : dest_of t u ≡ Some c.in-Some.word = sym c.dest_of.ensures ∙ c.in-Some.is in
    let step : chain_at c.args.machine c.loop-at.some c.loop-at.dests (drop c.loop-at.at ts) ≡ chain_at c.args.machine true (bit_or c.loop-at.dests (bit c.in-Some.word)) (drop (c.loop-at.at + 2) ts) =
    chain_step c.args.machine c.loop-at.some c.loop-at.dests (drop c.loop-at.at ts) t u (drop (c.loop-at.at + 2) ts) c.in-Some.word e d in
    (omega (arith, c.loop-at-test.true), ap (λ b. chain_at c.args.machine true (bit_or c.loop-at.dests b) (drop (c.loop-at.at + 2) ts)) c.bit-dests.ensures ∙ (sym step ∙ c.loop-at.invariant.1))

pub returns-in-None : goal.returns-in-None
returns-in-None c =
    let ts = c.args.tokens.now in
    let t = c.index-tokens-at.result in
    let u = c.index-tokens-at-in-loop-at.result in
    let e : drop c.loop-at.at ts ≡ t ∷ u ∷ drop (c.loop-at.at + 2) ts = two_at ts c.loop-at.at t u c.loop-at-test.true c.index-tokens-at.is c.index-tokens-at-in-loop-at.is in
    let d : dest_of t u ≡ None = sym c.dest_of.ensures ∙ c.in-None.is in
    let stop : chain_at c.args.machine c.loop-at.some c.loop-at.dests (drop c.loop-at.at ts) ≡ last c.args.machine c.loop-at.some c.loop-at.dests (drop c.loop-at.at ts) =
    chain_stop c.args.machine c.loop-at.some c.loop-at.dests (drop c.loop-at.at ts) t u (drop (c.loop-at.at + 2) ts) e d in
    c.last.ensures ∙ (ap (last c.args.machine c.loop-at.some c.loop-at.dests) (take_rest ts c.loop-at.at) ∙ (sym stop ∙ c.loop-at.invariant.1))

pub returns : goal.returns
returns c =
    let ts = c.args.tokens.now in
    let stop : chain_at c.args.machine c.loop-at.some c.loop-at.dests (drop c.loop-at.at ts) ≡ last c.args.machine c.loop-at.some c.loop-at.dests (drop c.loop-at.at ts) =
    chain_short c.args.machine c.loop-at.some c.loop-at.dests (drop c.loop-at.at ts) (omega (arith, length-drop c.loop-at.at ts, c.loop-at.invariant.0, c.loop-at-test.false)) in
    c.last-2.ensures ∙ (ap (last c.args.machine c.loop-at.some c.loop-at.dests) (take_rest ts c.loop-at.at) ∙ (sym stop ∙ c.loop-at.invariant.1))
