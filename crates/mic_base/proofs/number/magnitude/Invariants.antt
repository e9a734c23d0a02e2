use Rattle.mic_base.proofs.Common.{◌≡◌, min, take, value_of}
use Rattle.mic_base.proofs.number.magnitude.Given as goal

abbrev pub invariant-loop-byte : goal.invariant-loop-byte
invariant-loop-byte l = l.value ≡ min (value_of l.base (take l.byte-index l.digits)) 0x1_0000_0000
