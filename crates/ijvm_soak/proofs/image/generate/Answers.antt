use Rattle.std.proofs.Common.{◌≡◌, ◌∙◌, ◌≤◌, ◌+◌, ℕ, List, [], ◌∷◌, ◌++◌, length, length-append, ap, arith}
use Rattle.ijvm_soak.specs.Prelude.{generated, main_text, method_text}
use Rattle.ijvm_soak.proofs.image.generate.Goals as goal

pub overflow_cast-entry : goal.overflow_cast-entry
unfolding generated
overflow_cast-entry c =
    let main : List ℕ = main_text c.args.seed c.args.size in
    let pushed : c.push_main.new.text.items ≡ main = c.in_ok-push_main.ensures ∙ ap (λ (xs : List ℕ). xs ++ main) c.new-text.ensures.items in
    let small : length (main ++ method_text) ≤ 65536 = c.generated_texts_are_short.ensures c.args.seed c.args.size c.requires in
    let long : length (main ++ method_text) ≡ length main + length method_text = length-append main method_text in
    let same : length c.push_main.new.text.items ≡ length main = ap (λ (xs : List ℕ). length xs) pushed in
    omega (arith, c.len-entry.ensures)

pub new-requires : goal.new-requires
unfolding generated
new-requires c =
    let main : List ℕ = main_text c.args.seed c.args.size in
    let pushed : c.push_main.new.text.items ≡ main = c.in_ok-push_main.ensures ∙ ap (λ (xs : List ℕ). xs ++ main) c.new-text.ensures.items in
    let whole : c.push_method.new.text.items ≡ main ++ method_text = c.in_ok-push_method.ensures ∙ ap (λ (xs : List ℕ). xs ++ method_text) pushed in
    let small : length (main ++ method_text) ≤ 65536 = c.generated_texts_are_short.ensures c.args.seed c.args.size c.requires in
    let same : length c.push_method.new.text.items ≡ length (main ++ method_text) = ap (λ (xs : List ℕ). length xs) whole in
    let two : length c.in_ok-pool.pool.items ≡ 2 = ap (λ (xs : List ℕ). length xs) c.in_ok-pool.ensures.items in
    record { text_fits = omega arith; pool_fits = omega arith }

pub returns : goal.returns
unfolding generated
returns c =
    let main : List ℕ = main_text c.args.seed c.args.size in
    let pushed : c.push_main.new.text.items ≡ main = c.in_ok-push_main.ensures ∙ ap (λ (xs : List ℕ). xs ++ main) c.new-text.ensures.items in
    let text : c.new.result.text ≡ main ++ method_text =
    c.new.ensures.text ∙ (c.in_ok-push_method.ensures ∙ ap (λ (xs : List ℕ). xs ++ method_text) pushed) in
    let same : length c.push_main.new.text.items ≡ length main = ap (λ (xs : List ℕ). length xs) pushed in
    let entry : c.len-entry.result ≡ length main = omega (arith, c.len-entry.ensures) in
    let pool : c.new.result.pool ≡ 0 ∷ length main ∷ [] = c.new.ensures.pool ∙ (c.in_ok-pool.ensures.items ∙ ap (λ (x : ℕ). 0 ∷ x ∷ []) entry) in
    λ i. record { text = text i; pool = pool i }
