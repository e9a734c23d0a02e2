use Rattle.mic_clock.proofs.Common.{◌≡◌, ◌+◌, ◌*◌, ◌++◌, length, take, flat_map, hex_text}
use Rattle.mic_clock.proofs.state.queue.Given as goal

-- the digits of the bytes so far
abbrev pub invariant-loop-byte : goal.invariant-loop-byte
invariant-loop-byte l =
    record {
      text : l.line ≡ l.initial.line ++ flat_map (hex_text 2) (take l.byte-index l.bytes);
      len : length l.line ≡ length l.initial.line + 2 * l.byte-index;
    }
