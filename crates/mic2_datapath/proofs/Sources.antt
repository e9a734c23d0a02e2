-- What stands at the place of a source is what the source puts on its bus, once the front of the queue is shown.
use Rattle.mic2_datapath.proofs.Common.{◌≡◌, ℕ, ◌≤◌, Bool, true, IsTrue, Option, Some, None, slice_index, refl, Mic2, fits_side, is_byte, is_pair, may_be_b}
use Rattle.mic2_datapath.proofs.Common.{place_on_bus, BusSource, source, AreLatches, HasFront, micro_in, Latches}
use Rattle.micro_word.specs.declared.statement.BusSource.TheVariants as sources
use Rattle.mic2_datapath.proofs.Demands.{not_here}

pub at_place : (l : Latches) (operands : ℕ) → AreLatches l → HasFront operands l → (s : Option BusSource) (used : Bool) → IsTrue (fits_side used (may_be_b Mic2) s) →
    (is_byte s ≡ true → 1 ≤ operands) → (is_pair s ≡ true → 2 ≤ operands) → slice_index l.places (place_on_bus s) ≡ source s (micro_in l)
at_place l operands a f None used h one two = a.nothing
at_place l operands a f (Some sources.Mdr) used h one two = refl
at_place l operands a f (Some sources.Pc) used h one two = refl
at_place l operands a f (Some sources.Mbr) used h one two = absurd (not_here used h)
at_place l operands a f (Some sources.Mbru) used h one two = absurd (not_here used h)
at_place l operands a f (Some sources.Sp) used h one two = refl
at_place l operands a f (Some sources.Lv) used h one two = refl
at_place l operands a f (Some sources.Cpp) used h one two = refl
at_place l operands a f (Some sources.Tos) used h one two = refl
at_place l operands a f (Some sources.Opc) used h one two = refl
at_place l operands a f (Some sources.Mbr1) used h one two = f.byte (one refl)
at_place l operands a f (Some sources.Mbr1u) used h one two = f.unsigned (one refl)
at_place l operands a f (Some sources.Mbr2) used h one two = f.pair (two refl)
at_place l operands a f (Some sources.Mbr2u) used h one two = f.unsigned_pair (two refl)
at_place l operands a f (Some sources.H) used h one two = refl
