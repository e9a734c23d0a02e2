-- What stands at the place of a source is what the source puts on the B bus.
use Rattle.mic1_datapath.proofs.Common.{◌≡◌, Bool, true, false, ◌&&◌, IsTrue, Option, Some, None, slice_index, refl, Mic1, fits_side, may_be_b, place_on_bus}
use Rattle.mic1_datapath.proofs.Common.{BusSource, source, AreLatches, micro_in, Latches}
use Rattle.micro_word.specs.declared.statement.BusSource.TheVariants as sources

not_here : (used : Bool) → IsTrue (used && false) → ⊥
not_here true h = absurd (cc)
not_here false h = absurd (cc)

pub at_place : (l : Latches) → AreLatches l → (used : Bool) (b : Option BusSource) → IsTrue (fits_side used (may_be_b Mic1) b) →
    slice_index l.places (place_on_bus b) ≡ source b (micro_in l)
at_place l a used None h = a.nothing
at_place l a used (Some sources.Mbr) h = a.signed
at_place l a used (Some sources.Mbr1) h = absurd (not_here used h)
at_place l a used (Some sources.Mbr1u) h = absurd (not_here used h)
at_place l a used (Some sources.Mbr2) h = absurd (not_here used h)
at_place l a used (Some sources.Mbr2u) h = absurd (not_here used h)
at_place l a used (Some sources.H) h = absurd (not_here used h)
at_place l a used (Some _) h = refl
