-- The outcome of a call.
use Rattle.ijvm_reference.proofs.Common.{◌≡◌, ◌<◌, ◌≤◌, ℕ, suc, ◌+◌, ◌-◌, nat_le, nat_lt, Bool, if◌then◌else◌, List, ◌∷◌, length, Option, Some, sym, ap, ◌∙◌}
use Rattle.ijvm_reference.proofs.Common.{arith, nat_tests, cond-true, Method}
use Rattle.ijvm_meaning.specs.Prelude.{State, base, frames_of, Goes, Limits, Stuck, limited, in_method, entered, called_at}
use Rattle.ijvm_reference.specs.Prelude.{MachineView, state_of, in_call}
use Rattle.ijvm_reference.proofs.Placed.{base_call}

entered_in : (stack_end : ℕ) (s : State) (method : Method) (params n : ℕ) → params ≡ suc n → n < length s.running.operands →
    entered stack_end s method params ≡ limited stack_end s (in_method s method n)
entered_in stack_end s method params n e enough =
    ap (entered stack_end s method) e ∙ cond-true (nat_lt n (length s.running.operands)) (limited stack_end s (in_method s method n)) Stuck (grind (arith, nat_tests))

-- the machine enters the method where the stack has room for its frame, if there are operands for its parameters
pub called_by : (m : MachineView) (method : Method) (found : Option Method) (others : ℕ) (room : Bool) (untaken given : List ℕ) → Some method ≡ found →
    0 < method.params → method.params ≤ length m.running.operands → others ≡ method.others →
    room ≡ nat_le (base (m.running ∷ m.callers) + (others + 2)) m.stack_end →
    called_at m.stack_end (state_of m untaken given) found
    ≡ (if room then Goes (state_of (in_call m method) untaken given) else Limits (state_of m untaken given))
called_by m method found others room untaken given is some enough same test =
    let s : State = state_of m untaken given in
    let n : ℕ = method.params - 1 in
    let size : base (frames_of (in_method s method n)) ≡ base (m.running ∷ m.callers) + (method.others + 2) =
    base_call m.running m.callers n method.others (m.at + 3) (omega arith) in
    ap (called_at m.stack_end s) (sym is)
    ∙ entered_in m.stack_end s method method.params n (omega arith) (omega arith)
    ∙ ap (λ (t : Bool). if t then Goes (in_method s method n) else Limits s)
    (ap (λ (k : ℕ). nat_le k m.stack_end) (size ∙ ap (λ (k : ℕ). base (m.running ∷ m.callers) + (k + 2)) (sym same)) ∙ sym test)
