use Rattle.ijvm_reference.proofs.Common.{◌≡◌, ◌≤◌, ◌+◌, ◌-◌, ◌∷◌, ℕ, List, length, take, drop, reverse, sym, ap, subst, ◌∙◌, arith}
use Rattle.ijvm_meaning.specs.Prelude.{Frame, base, kept_words, called}
use Rattle.ijvm_reference.specs.Prelude.{MachineView}
use Rattle.ijvm_reference.proofs.Placed.{placed_call}
use Rattle.ijvm_reference.proofs.machine.PlainMachine.call.Goals as goal

pub invariant_of-self-2 : goal.invariant_of-self-2
invariant_of-self-2 c =
    let running : Frame = c.self.inside.running in
    let callers : List Frame = reverse c.self.inside.callers.items in
    let n : ℕ = c.args.method.params - 1 in
    let caller : Frame = c.replace-caller.result in
    let frame : Frame = c.replace-caller.new.dest in
    let is_caller : caller ≡ record running { operands = drop (n + 1) running.operands } = c.replace-caller.ensures.value ∙ c.discard.ensures in
    let is_frame : frame ≡ called (take n running.operands) c.args.method.others (c.self.inside.at + 3) = c.replace-caller.ensures.after ∙ c.in_ok-frame.ensures in
    let size : c.words.result ≡ length caller.locals + kept_words caller.back + length caller.operands =
    c.words.ensures ∙ ap (λ (f : Frame). length f.locals + kept_words f.back + length f.operands) (sym c.replace-caller.ensures.value) in
    let many : length running.operands ≡ length c.args.self.now.running.operands = ap (λ (m : MachineView). length m.running.operands) c.self.view_is in
    let room : base (running ∷ callers) + c.args.method.others + 2 ≤ c.self.inside.stack_end =
    subst (λ (m : MachineView). base (m.running ∷ m.callers) + c.args.method.others + 2 ≤ m.stack_end) (sym c.self.view_is) c.requires.room in
    rw (c.give_caller.ensures, c.in_ok-reserve.ensures.items)
    (placed_call c.self.inside.stack_end c.self.inside.lv (c.self.inside.lv + c.words.result) n c.args.method.others
    (c.self.inside.at + 3) running caller frame callers (omega arith) room is_caller is_frame (ap (λ (k : ℕ). c.self.inside.lv + k) size) c.self.invariant)
