-- The lines of a session, up to the first that quits.
use Rattle.std.specs.Prelude.{◌≡◌, ◌<◌, ◌+◌, ◌-◌, All, ℕ, zero, suc, Bool, false, if◌then◌else◌, List, [], ◌∷◌, ◌++◌, length, Option, Some}
use Rattle.cli_session.specs.Told.{after_line, line_in}

-- the most lines of a session
abbrev pub most_lines : ℕ
most_lines = 65536

-- `quits` says which lines quit.
module _ (quits : List ℕ → Bool) where
  -- the lines of these bytes that are done: at most this many, up to the first that quits
  abbrev pub lines_of : ℕ → List ℕ → List (List ℕ)
  lines_of zero bytes = []
  lines_of (suc n) [] = []
  lines_of (suc n) (b ∷ bytes) =
      line_in 256 (b ∷ bytes) ∷ (if quits (line_in 256 (b ∷ bytes)) then [] else lines_of n (after_line 256 (b ∷ bytes)))

  -- what is left of these bytes after those lines
  abbrev pub left_after : ℕ → List ℕ → List ℕ
  left_after zero bytes = bytes
  left_after (suc n) [] = []
  left_after (suc n) (b ∷ bytes) =
      if quits (line_in 256 (b ∷ bytes)) then after_line 256 (b ∷ bytes) else left_after n (after_line 256 (b ∷ bytes))

  -- none of these lines quits, and this many more may follow of at most `most`
  pub record MayGoOn (most more : ℕ) (lines : List (List ℕ)) : Type 0 where
    pub count : length lines + more ≡ most
    pub unquit : All (λ line. quits line ≡ false) lines

  -- these lines were read of some bytes, and more may follow of the rest
  pub record IsReadOn (most more : ℕ) (bytes : List ℕ) (lines : List (List ℕ)) (rest : List ℕ) : Type 0 where
    pub open_end : MayGoOn most more lines
    pub whole : lines_of most bytes ≡ lines ++ lines_of more rest
    pub rest_is : left_after most bytes ≡ left_after more rest

  -- these lines are all that are done of some bytes, and nothing after them was taken
  pub record IsReadOut (most : ℕ) (bytes : List ℕ) (lines : List (List ℕ)) (left : Option (List ℕ)) : Type 0 where
    pub whole : lines ≡ lines_of most bytes
    pub left_is : left ≡ Some (left_after most bytes)

  -- a failing console cuts the line after these bytes of it; before it, these lines are whole, and a line may follow them
  pub record IsCutIn (most : ℕ) (bytes : List ℕ) (lines : List (List ℕ)) (left : Option (List ℕ)) : Type 0 where
    pub before : ℕ
    pub some : 0 < before
    pub open_end : MayGoOn most before lines
    pub cut : List ℕ
    pub rest : List ℕ
    pub left_is : left ≡ Some rest
    pub short : length cut < 256
    pub unended : line_in 256 (cut ++ rest) ≡ cut ++ line_in (256 - length cut) rest
    pub whole : lines_of most bytes ≡ lines ++ lines_of before (cut ++ rest)

  -- this line comes after these ones
  abbrev pub IsNext : ℕ → List ℕ → List (List ℕ) → List ℕ → Type 0
  IsNext most bytes lines line = (following : List (List ℕ)) × (lines_of most bytes ≡ lines ++ line ∷ following)
