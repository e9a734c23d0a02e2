use Rattle.tiny_compiler.proofs.Common.{ℕ, List, ◌∷◌, ◌++◌, length, ap, ◌∙◌, arith, numbers_in, program_of}
use Rattle.tiny_compiler.proofs.CodeImages.{pool_is}
use Rattle.tiny_compiler.proofs.code_image.code_image.Goals as goal

pub new-requires-2 : goal.new-requires-2
new-requires-2 c =
    let program = program_of c.args.functions.now c.args.main in
    let words = c.pool_length-words.ensures program c.requires.main c.in-Ok.ensures c.requires.main_is in
    let made = c.in-Ok-make_pool.ensures ∙ ap (λ (l : List ℕ). 0 ∷ (l ++ numbers_in c.in-Ok.table)) c.deref.ensures.value in
    let pool = pool_is program c.requires.main c.in-Ok.table c.in-Ok-emit.units c.in-Ok-make_pool.pool.items c.in-Ok.ensures
    (c.in-Ok-emit.ensures c.requires.main c.requires.main_is) made in
    record { text_fits = c.in_ok-within_limits.ensures.ok.0; pool_fits = omega (arith, words, ap length pool) }
