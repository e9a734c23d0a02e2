use Rattle.std.proofs.Common.{reverse}
use Rattle.ijvm_reference.proofs.Placed.{caller_words}
use Rattle.ijvm_reference.proofs.machine.PlainMachine.leave.Goals as goal

pub words-words-requires : goal.words-words-requires
words-words-requires c =
    (caller_words c.self.inside.stack_end c.self.inside.lv c.self.inside.running c.take_caller-caller.result (reverse c.self.inside.callers.items) (reverse c.take_caller-caller.new.callers.items) c.take_caller-caller.ensures.caller c.self.invariant).0
