-- A sign is known by its rank.
use Rattle.tiny_grammar.proofs.Common.{◌≡◌, ℕ, true, refl, ap, sym, ◌∙◌, ◌==◌, if◌then◌else◌, eqb-true, Sign}
use Rattle.tiny_draft.specs.declared.token.Sign.TheVariants as signs
use Rattle.tiny_grammar.specs.Prelude.{rank}

low : ℕ → Sign
low n = if n == 0 then signs.Open else (if n == 1 then signs.Close else (if n == 2 then signs.Begin else (if n == 3 then signs.End
    else (if n == 4 then signs.Comma else (if n == 5 then signs.Semicolon else (if n == 6 then signs.Assign else (if n == 7 then signs.Equal
    else (if n == 8 then signs.Different else (if n == 9 then signs.Less else (if n == 10 then signs.Plus else signs.Minus))))))))))

high : ℕ → Sign
high n = if n == 12 then signs.And else (if n == 13 then signs.Or else (if n == 14 then signs.Fn else (if n == 15 then signs.Var
    else (if n == 16 then signs.If else (if n == 17 then signs.Else else (if n == 18 then signs.While else (if n == 19 then signs.Return
    else (if n == 20 then signs.Put else (if n == 21 then signs.Get else (if n == 22 then signs.Halt else low n))))))))))

of_rank : (s : Sign) → high (rank s) ≡ s
unfolding low high
of_rank signs.Open = refl
of_rank _ = refl

pub same_sign : (s t : Sign) → (rank t == rank s) ≡ true → t ≡ s
same_sign s t h = sym (of_rank t) ∙ (ap high (eqb-true (rank t) (rank s) h) ∙ of_rank s)
