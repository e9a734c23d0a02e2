use Rattle.tiny_pool.proofs.Common.{ℕ, ◌≡◌, length, map, refl, subst, arith, length-map, function_tree, function_numbers, flat_map, HasSeen}
use Rattle.tiny_pool.proofs.Pools.{table_of}
use Rattle.tiny_pool.proofs.table.Table.new.Goals as goal

pub returns : goal.returns
returns c =
    let long = length-map c.args.functions.now function_tree in
    let count : c.in-Ok.count ≡ length (map function_tree c.args.functions.now) = omega (arith, c.in-Ok.ensures, long) in
    table_of _ _ refl
    (subst (λ (n : ℕ). HasSeen c.add_functions.new.constants n (flat_map function_numbers (map function_tree c.args.functions.now))) count
    (c.in_ok-add_functions.ensures.seen c.in-Ok.count _ c.new-constants.ensures))
