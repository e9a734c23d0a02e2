use Rattle.micro_word.proofs.Common.{◌≡◌, ◌-◌, ◌*◌, ◌/◌, ◌%◌, ◌^◌, arith, and_mask, pow-lt}
use Rattle.micro_word.proofs.layout.field.Goals as goal

pub returns : goal.returns
returns c =
    let mask : 1 * 2 ^ c.args.width % 18446744073709551616 - 1 ≡ 2 ^ c.args.width - 1 = omega (arith, pow-lt c.requires.width) in
    rw mask (and_mask (c.args.word / 2 ^ c.args.place) c.args.width)
