-- A byte's greatest word.
use Rattle.micro_terms.proofs.Common.{◌≡◌, ◌<◌, ◌≤◌, ◌%◌, ◌/◌, ◌-◌, ◌^◌, ℕ, ◌&&◌, true, if◌then◌else◌, List, Option, Some, None, refl, arith, slice_get}
use Rattle.micro_terms.proofs.Common.{slice_index, Environment, Fits, IsIn, IsLimited, end_of, is_byte_node, limit_of, Node, Free, Sum, Other, Range}
use Rattle.console_port.specs.World.{byte_in, byte_of}
use Rattle.micro_terms.specs.declared.node.Kind.TheVariants as kinds

rest_small : (y : ℕ) → y % 256 < 256
rest_small y = omega arith

byte_small : (words : List ℕ) (at : ℕ) → byte_in words at < 256
unfolding byte_in
byte_small words at = rest_small (slice_index words (at / 4) / 256 ^ (3 - at % 4))

at_most : (x y : ℕ) → x ≡ y → y < 256 → x ≤ 255
at_most x y e h = omega (arith, e, h)

module _ (e : Environment) (table : List Node) (ranges : List Range) (fits : Fits e table) (inside : IsIn e.word ranges) where
  greatest : (n : ℕ) (o : Option Node) → slice_get table n ≡ o → e.word n ≤ (if true && is_byte_node o then 255 else end_of ranges true n)
  greatest n None is = (inside n).1
  greatest n (Some Free) is = (inside n).1
  greatest n (Some (Sum t)) is = (inside n).1
  greatest n (Some (Other (kinds.And left right))) is = (inside n).1
  greatest n (Some (Other (kinds.Half x))) is = (inside n).1
  greatest n (Some (Other (kinds.Word at))) is = (inside n).1
  greatest n (Some (Other (kinds.Byte at))) is = at_most (e.word n) (byte_in e.start.words (e.word at)) (fits.nodes n (Other (kinds.Byte at)) is) (byte_small e.start.words (e.word at))
  greatest n (Some (Other (kinds.SignedByte at))) is = (inside n).1
  greatest n (Some (Other (kinds.Input before))) is = (inside n).1
  greatest n (Some (Other (kinds.Quarter x))) is = (inside n).1
  greatest n (Some (Other (kinds.Piece x at))) is =
      at_most (e.word n) (byte_of (e.word x) (e.word at % 4)) (fits.nodes n (Other (kinds.Piece x at)) is) (rest_small (e.word x / 256 ^ (3 - e.word at % 4)))
  greatest n (Some (Other (kinds.SignedPiece x at))) is = (inside n).1
  greatest n (Some (Other (kinds.Choice left right same other))) is = (inside n).1

  pub limited : IsLimited e.word table ranges
  unfolding limit_of
  limited n = ((inside n).0, greatest n (slice_get table n) refl)
