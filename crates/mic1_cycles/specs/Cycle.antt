-- One cycle of symbols, and the cycle of Mic-1 that it stands for.
use Rattle.std.specs.Prelude.{◌≡◌, ℕ, Bool, true, Option, None, length}
use Rattle.mic1_cycles.specs.Common.{World, alu, shifted, Mem, Part, Placed, Done, written, sampled, word_under_way, byte_under_way, access_refusal, ports_with}
use Rattle.mic1_cycles.specs.Common.{next_address, Ports, microstep}
use Rattle.mic1_cycles.specs.declared.symbols.Byte.{Byte}
use Rattle.mic1_cycles.specs.declared.symbols.Symbols.{Symbols}
use Rattle.mic1_cycles.specs.Symbols.{source_symbol, assigned_symbols, moved_symbols, micro_of, word_in, byte_in, HasSigns, IsSignedIn}
use Rattle.mic1_cycles.specs.Trail.{Trail, world_of}

module _ (word : ℕ → ℕ) (start : World) where
  -- x is the result, and v the shifted result
  pub record IsComputed (p : Part) (empty x v : ℕ) (s : Symbols) : Type 0 where
    pub is_zero : word empty ≡ 0
    pub result : word x ≡ alu p.op (word s.h) (word (source_symbol empty s p.b))
    pub shifted : word v ≡ shifted p.shift (word x)

  abbrev pub ports_of : Symbols → Ports
  ports_of s = ports_with (word s.mar) (word s.mdr) (word s.pc)

  -- the accesses lead the first trail to the second, with this word and this byte under way
  pub record IsAccessed (mem : Mem) (fetch : Bool) (p : Ports) (t : Trail) (read : Option ℕ) (byte : Option Byte) (t' : Trail) : Type 0 where
    pub size : length (world_of word start t).words ≡ length start.words
    pub clear : access_refusal (length start.words) mem fetch p ≡ None
    pub its_word : word_under_way (length start.words) mem p (written (length start.words) mem p (world_of word start t)) ≡ word_in word read
    pub its_byte : byte_under_way fetch p (written (length start.words) mem p (world_of word start t)) ≡ byte_in word byte
    pub signed : IsSignedIn word byte
    pub after : sampled (length start.words) mem p (written (length start.words) mem p (world_of word start t)) ≡ world_of word start t'

  -- the microstep of a statement leads what the first stand for to what the second stand for
  pub record LeadsTo (p : Placed) (s : Symbols) (t : Trail) (s' : Symbols) (t' : Trail) : Type 0 where
    pub signs : HasSigns word s'
    pub step : (entry : ℕ) (clocked : Bool) →
        microstep p (micro_of word entry clocked s) (world_of word start t) ≡ Done (micro_of word entry true s') (world_of word start t')

-- A cycle of symbols is one of what they stand for.
abbrev pub CycleLaw : Type 0
CycleLaw =
    (word : ℕ → ℕ) (start : World) (p : Placed) (empty x v to : ℕ) (s : Symbols) (t t' : Trail) (read : Option ℕ) (byte : Option Byte) →
    HasSigns word s → IsComputed word start p.part empty x v s →
    IsAccessed word start p.part.mem p.part.fetch (ports_of word start (assigned_symbols p.part.dests v s)) t read byte t' →
    next_address p.next (word x) (word (assigned_symbols p.part.dests v s).mbr.plain) ≡ to →
    LeadsTo word start p s t (moved_symbols to read byte (assigned_symbols p.part.dests v s)) t'
