-- Written code stands in its text.
use Rattle.std.proofs.Common.{◌≡◌, ◌≤◌, ℕ, ◌+◌, List, [], ◌∷◌, ◌++◌, length, Some, sym, ap, ◌∙◌, subst, arith, append_assoc, length-append}
use Rattle.std.specs.Prelude.{All}
use Rattle.std.proofs.lemmas.List.Elements.{All-head, All-tail}
use Rattle.ijvm_instr.specs.declared.instr.Instr.{Instr}
use Rattle.ijvm_instr.specs.Prelude.{IsInstr, spelling, instr_at, row_of, size_of}
use Rattle.ijvm_text.specs.Prelude.{code_bytes}
use Rattle.tiny_code.specs.Prelude.{code_size, CodeAt}

module _ (written : (before after : List ℕ) (i : Instr) → IsInstr i → instr_at (before ++ (spelling i ++ after)) (length before) ≡ Some i) where
  pub stands : (code : List Instr) (before after : List ℕ) → All IsInstr code → length before + code_size code ≤ 65536 →
      CodeAt (before ++ (code_bytes code ++ after)) (length before) code
  unfolding code_bytes
  stands [] before after real small = omega (arith, small)
  stands (i ∷ is) before after real small =
      let rest : List ℕ = code_bytes is ++ after in
      let whole : before ++ (code_bytes (i ∷ is) ++ after) ≡ before ++ (spelling i ++ rest) =
      ap (λ (x : List ℕ). before ++ x) (append_assoc (spelling i) (code_bytes is) after) in
      let front : before ++ (spelling i ++ rest) ≡ (before ++ spelling i) ++ rest = sym (append_assoc before (spelling i) rest) in
      let size : length (before ++ spelling i) ≡ length before + size_of (row_of i) = length-append before (spelling i) in (
        omega (arith, small),
        ap (λ (x : List ℕ). instr_at x (length before)) whole ∙ written before rest i (All-head IsInstr i is real),
        subst (λ (x : List ℕ). CodeAt x (length before + size_of (row_of i)) is) (sym (whole ∙ front))
            (subst (λ (x : ℕ). CodeAt ((before ++ spelling i) ++ rest) x is) size
            (stands is (before ++ spelling i) after (All-tail IsInstr i is real) (omega (arith, size, small)))),
      )
