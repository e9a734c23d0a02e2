use Rattle.std.proofs.Common.{◌≤◌, ◌<◌, ◌^◌, ◌+◌, reverse, length, arith}
use Rattle.ijvm_meaning.specs.Prelude.{base, kept_words}
use Rattle.ijvm_reference.proofs.Placed.{base_least}
use Rattle.ijvm_reference.proofs.machine.PlainMachine.end.Goals as goal

pub words-requires : goal.words-requires
words-requires c =
    let least : 0x8000 ≤ base (reverse c.self.inside.callers.items) = base_least (reverse c.self.inside.callers.items) in
    let fits : base (reverse c.self.inside.callers.items) + length c.self.inside.running.locals + kept_words c.self.inside.running.back + length c.self.inside.running.operands ≤ c.self.inside.stack_end =
    c.self.invariant.fits in
    let word : c.self.inside.stack_end < 2 ^ 32 = c.self.invariant.word in
    omega arith

pub overflow_add-result : goal.overflow_add-result
overflow_add-result c =
    let fits : base (reverse c.self.inside.callers.items) + length c.self.inside.running.locals + kept_words c.self.inside.running.back + length c.self.inside.running.operands ≤ c.self.inside.stack_end =
    c.self.invariant.fits in
    let word : c.self.inside.stack_end < 2 ^ 32 = c.self.invariant.word in
    record { fits = omega (arith, c.self.invariant.begins) }

pub returns-clause-least : goal.returns-clause-least
returns-clause-least c =
    let least : 0x8000 ≤ base (reverse c.self.inside.callers.items) = base_least (reverse c.self.inside.callers.items) in
    omega (arith, c.self.invariant.begins)
