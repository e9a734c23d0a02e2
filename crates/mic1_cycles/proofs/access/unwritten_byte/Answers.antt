use Rattle.mic1_cycles.proofs.Common.{◌<◌, ◌≤◌, refl, sym, ◌∙◌, All, Fits, IsByteIn}
use Rattle.mic1_cycles.proofs.Trails.{byte_below}
use Rattle.mic1_cycles.proofs.access.unwritten_byte.Goals as goal

pub returns-clause-value : goal.returns-clause-value
returns-clause-value c e fits knows =
    let at = c.args.at in
    let ws = c.args.writes.now in
    let before : Fits e c.args.nodes.now.nodes.items = c.in_ok-byte.ensures.grows e fits in
    let low : e.word at < 0x20000 = c.if-not-is_below.ensures refl e before knows in
    let above : All (λ w. 0x8000 ≤ e.word w.at) ws = c.if-not-are_above.ensures refl e before knows in
    let b : IsByteIn e e.start.words at c.in_ok-byte.byte = c.in_ok-byte.ensures.value e fits knows in
    record {
      plain = b.plain ∙ sym (byte_below e.word ws e.start.words (e.word at) low above);
      signed = b.signed;
    }
