-- The lines that `verify` prints of an accepted program, and `assemble` of an image.
use Rattle.std.specs.Prelude.{◌≡◌, ℕ, List, ◌++◌, length, codes}
use Rattle.std.specs.Fmt.{decimal}
use Rattle.verifier_facts.specs.Prelude.{VerifiedView, IsMethodCount}

-- the sizes of text and pool, the number of reached methods, and main's locals
abbrev pub summary : ℕ → ℕ → ℕ → ℕ → List ℕ
summary text pool methods main =
    codes "ok text " ++ decimal text ++ codes " pool " ++ decimal pool ++ codes " methods " ++ decimal methods ++ codes " main " ++ decimal main ++ codes "\n"

-- what `assemble` prints: the sizes of text and pool
abbrev pub sizes : ℕ → ℕ → List ℕ
sizes text pool = codes "text " ++ decimal text ++ codes " pool " ++ decimal pool ++ codes "\n"

pub record Summarizes (program : VerifiedView) (line : List ℕ) : Type 0 where
  pub methods : ℕ
  pub reached : IsMethodCount program.image methods
  pub printed : line ≡ summary (length program.image.text) (length program.image.pool) methods program.main_locals
