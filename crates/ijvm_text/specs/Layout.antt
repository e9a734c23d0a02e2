-- The image of a program's parts: its text is main's code and then the methods, each after its header; its pool has where the methods
-- begin, between other words. And the limits of both, in their order.
use Rattle.std.specs.Prelude.{◌≡◌, ◌<◌, ◌≤◌, ℕ, ◌+◌, List, [], ◌∷◌, ◌++◌, length, Some, None}
use Rattle.std.specs.List.{flat_map}
use Rattle.ijvm_instr.specs.Prelude.{Jump, first_far}
use Rattle.ijvm_image.specs.Prelude.{ImageView}

-- main's code, or a method with its header
pub record Part : Type 0 where
  pub bytes : List ℕ
  pub jumps : List Jump

pub record Layout : Type 0 where
  pub main : Part
  pub methods : List Part
  -- the words of the pool before the methods' addresses, and after them
  pub before : List ℕ
  pub after : List ℕ

abbrev pub bytes_of : List Part → List ℕ
bytes_of parts = flat_map (λ (p : Part). p.bytes) parts

abbrev pub jumps_in : List Part → List Jump
jumps_in parts = flat_map (λ (p : Part). p.jumps) parts

-- where these parts begin; the first begins at this address
abbrev pub begins : ℕ → List Part → List ℕ
begins at [] = []
begins at (p ∷ ps) = at ∷ begins (at + length p.bytes) ps

abbrev pub text_of : Layout → List ℕ
text_of l = bytes_of (l.main ∷ l.methods)

-- in the order of their addresses
abbrev pub jumps_of : Layout → List Jump
jumps_of l = jumps_in (l.main ∷ l.methods)

abbrev pub pool_of : Layout → List ℕ
pool_of l = l.before ++ (begins (length l.main.bytes) l.methods ++ l.after)

-- the parts are within the limits, and this is their image
pub record IsImageOf (l : Layout) (image : ImageView) : Type 0 where
  pub pool_fits : length (pool_of l) ≤ 16384
  pub text_fits : length (text_of l) ≤ 65536
  pub jumps_fit : first_far (jumps_of l) ≡ None
  pub text : image.text ≡ text_of l
  pub pool : image.pool ≡ pool_of l

-- ---- the first limit that is exceeded, and by what

abbrev pub ExceedsPool : Layout → ℕ → Type 0
ExceedsPool l count = (count ≡ length (pool_of l)) × (16384 < count)

abbrev pub ExceedsText : Layout → ℕ → Type 0
ExceedsText l size = (length (pool_of l) ≤ 16384) × (size ≡ length (text_of l)) × (65536 < size)

abbrev pub ExceedsJump : Layout → Jump → Type 0
ExceedsJump l far = (length (pool_of l) ≤ 16384) × (length (text_of l) ≤ 65536) × (first_far (jumps_of l) ≡ Some far)
