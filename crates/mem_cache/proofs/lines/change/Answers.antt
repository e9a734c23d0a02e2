use Rattle.std.proofs.Common.{◌≡◌, ◌∙◌, sym, ap, subst, refl, ℕ, ◌/◌, ◌%◌, false, List, length, map, rules, Option, Some, slice_get, slice_set}
use Rattle.mem_cache.specs.declared.lines.CacheLine.{CacheLine}
use Rattle.mem_cache.specs.Prelude.{AreLines, block_in, has_block}
use Rattle.mem_cache.proofs.Holding.{changed_none, changed_some, kept_blocks}
use Rattle.mem_cache.proofs.lines.change.Goals as goal

pub returns-in-Some-clause-blocks : goal.returns-in-Some-clause-blocks
returns-in-Some-clause-blocks c =
    let lines = c.args.lines.now.items in
    let line = c.in-Some.line in
    let there : slice_get lines (c.args.at / 4 % length lines) ≡ Some (Some line) = c.in-Some.ensures.line.1 in
    let b : line.block ≡ c.args.at / 4 = c.in-Some.ensures.line.0 in
    ap (λ (ls : List (Option CacheLine)). map block_in ls) c.hold.ensures
    ∙ kept_blocks lines (line.block % length lines) line (slice_set line.words (c.args.at % 4) c.args.value)
    (subst (λ (n : ℕ). slice_get lines (n % length lines) ≡ Some (Some line)) (sym b) there)

pub returns-in-Some-clause-lines : goal.returns-in-Some-clause-lines
returns-in-Some-clause-lines c = λ words are.
    subst (λ (ls : List (Option CacheLine)). AreLines (slice_set words c.args.at c.args.value) ls) (sym c.hold.ensures)
    (changed_some words c.args.lines.now.items are c.args.at c.args.value c.in-Some.line
    (slice_set c.in-Some.line.words (c.args.at % 4) c.args.value)
    c.in-Some.ensures.line.0 c.in-Some.ensures.line.1 refl)

pub returns-in_default-clause-lines : goal.returns-in_default-clause-lines
returns-in_default-clause-lines c = λ words are.
    let none : has_block (map block_in c.args.lines.now.items) (c.args.at / 4) ≡ false = search rules in
    changed_none words c.args.lines.now.items are c.args.at c.args.value none
