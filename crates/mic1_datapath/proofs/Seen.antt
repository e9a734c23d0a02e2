-- What was on the buses in a clocked cycle, by what the latches keep of it.
use Rattle.mic1_datapath.proofs.Common.{◌≡◌, ℕ, Bool, if◌then◌else◌, ap, ◌∙◌, buses_in, start_buses, Drive, IsLast, Micro, buses_by, computed, driven}
use Rattle.mic1_datapath.proofs.Common.{mic1_meaning, Latches}

-- the latches keep the word, and with its operands it decides what was on the buses
pub seen_last : (m : Micro) (word : ℕ) (l : Latches) (drive : Drive) → IsLast word l → drive ≡ driven word m →
    (if l.clocked then buses_by l.before drive.a drive.b else start_buses) ≡ buses_in mic1_meaning word m
unfolding driven computed
seen_last m word l drive last drove =
    ap (λ (is : Bool). if is then buses_by l.before drive.a drive.b else start_buses) last.1
    ∙ ap (λ (before : ℕ). buses_by before drive.a drive.b) last.0
    ∙ (λ i. buses_by word (drove i).a (drove i).b)
