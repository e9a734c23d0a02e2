-- The words of a pool.
use Rattle.method_linker.proofs.Common.{◌≡◌, ℕ, List, ◌++◌, length, map, ap, refl, ◌∙◌, sym, arith, length-append, append-nil, length-map, begins, pool_of}
use Rattle.method_linker.proofs.Common.{length-begins, Constant, ProgramView, entries_of, layout_of, method_part, pool_size}

abbrev value : Constant → ℕ
value c = c.value

-- the constants, and then these entries
pub pool_is : (p : ProgramView) (entries words : List ℕ) → entries ≡ entries_of p →
    words ≡ map value p.constants ++ entries → words ≡ pool_of (layout_of p)
unfolding layout_of
pool_is p entries words e made = made ∙ ap (λ (l : List ℕ). map value p.constants ++ l) (e ∙ sym (append-nil _))

pub words : (p : ProgramView) → length (pool_of (layout_of p)) ≡ pool_size p
unfolding layout_of
words p =
    let parts = map (method_part (length p.constants)) p.methods in
    let at = length (layout_of p).main.bytes in
    let all = ap length (sym (pool_is p (begins at parts) (map value p.constants ++ begins at parts) refl refl)) in
    omega (
      arith,
      all,
      length-append (map value p.constants) (begins at parts),
      length-map p.constants value,
      length-begins at parts,
      length-map p.methods (method_part (length p.constants)),
    )
