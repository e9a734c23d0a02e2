-- A cycle of symbols is one of what they stand for.
use Rattle.mic1_cycles.proofs.Common.{◌≡◌, ℕ, Bool, true, Option, length, ◌∙◌, World, Placed, Done, outcome, next_address, microstep, Byte, Symbols}
use Rattle.mic1_cycles.proofs.Common.{assigned_symbols, moved_symbols, micro_of, HasSigns, Trail, world_of, IsComputed, ports_of, IsAccessed, LeadsTo, CycleLaw}
use Rattle.mic1_cycles.proofs.Loads.{are_signed}
use Rattle.mic1_cycles.proofs.Settled.{result_is, settled_is, step_from}

module _ (word : ℕ → ℕ) (start : World) (p : Placed) (empty x v to : ℕ) (s : Symbols) (t t' : Trail) (read : Option ℕ) (byte : Option Byte)
    (signs : HasSigns word s) (c : IsComputed word start p.part empty x v s)
    (a : IsAccessed word start p.part.mem p.part.fetch (ports_of word start (assigned_symbols p.part.dests v s)) t read byte t')
    (goes : next_address p.next (word x) (word (assigned_symbols p.part.dests v s).mbr.plain) ≡ to) where
  abbrev after : Symbols
  after = assigned_symbols p.part.dests v s

  abbrev w : World
  w = world_of word start t

  abbrev n : ℕ
  n = length start.words

  module _ (entry : ℕ) (clocked : Bool) where
    step_is : microstep p (micro_of word entry clocked s) w ≡ Done (micro_of word entry true (moved_symbols to read byte after)) (world_of word start t')
    step_is =
        (λ i. step_from (a.size i) p (result_is word start p empty x v s signs c entry clocked i) (settled_is word start p empty x v s signs c entry clocked i) w)
        ∙ (λ i. outcome (a.clear i)
        (record (micro_of word entry true after) { mpc = goes i; word = a.its_word i; byte = a.its_byte i })
        (a.after i))

  pub leads : LeadsTo word start p s t (moved_symbols to read byte after) t'
  leads =
      record {
        signs = record { mbr = (are_signed word p.part.dests v s signs).mbr; byte = a.signed };
        step = step_is;
      }

pub cycle : CycleLaw
cycle = λ word start p empty x v to s t t' read byte signs c a goes. leads word start p empty x v to s t t' read byte signs c a goes
