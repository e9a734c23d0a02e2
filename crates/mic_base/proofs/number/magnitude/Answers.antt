use Rattle.mic_base.proofs.Common.{take, arith, slice_index, digit_value, take_more, value_of}
use Rattle.mic_base.proofs.DigitLemmas.{value_of-push, min-capped}
use Rattle.mic_base.proofs.number.magnitude.Goals as goal

pub loop-byte-preserved : goal.loop-byte-preserved
loop-byte-preserved c =
    let before = take c.loop-byte.byte-index c.args.digits.now in
    let byte = slice_index c.args.digits.now c.loop-byte.byte-index in
    let grown = take_more c.args.digits.now c.loop-byte.byte-index 0 (omega arith) in
    let pushed = value_of-push c.args.base before byte in
    let capped = min-capped (value_of c.args.base before) c.args.base (digit_value byte) 0x1_0000_0000 (omega arith) in
    cc
