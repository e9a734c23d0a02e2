-- The words of other crates that these proofs use.
pub use Rattle.std.proofs.Common.{Bool, Err, List, None, Ok, Option, Some, [], ap, append-nil, append_assoc, ap₂, arith, cond, eqb-true, false, if◌then◌else◌}
pub use Rattle.std.proofs.Common.{inl, inr, length, length-append, map, ne_eqb, option_and_then, option_map, refl, subst, sym, true, ℕ, ◌&&◌, ◌*◌, ◌++◌, ◌+◌}
pub use Rattle.std.proofs.Common.{◌-◌, ◌<◌, ◌==◌, ◌∙◌, ◌∷◌, ◌≡◌, ◌≢◌, ◌⊎◌}
pub use Rattle.std.proofs.lemmas.Bool.{eqb-false}
pub use Rattle.std.proofs.lemmas.List.{map_push}
pub use Rattle.std.proofs.lemmas.Result.{err_from_is_err_and}
pub use Rattle.tiny_tree.specs.declared.tree.Operator.{Operator}
pub use Rattle.tiny_draft.specs.Prelude.{Assign, Called, Calls, Compare, Cond, Else, Expr, Function, Get, Group, Halt, If, Number, Put, Return, Statement}
pub use Rattle.tiny_draft.specs.Prelude.{Statements, Sum, Term, Var, Variable, While, argument, arguments_of, block_tree, cond_tree, else_block, expr_tree}
pub use Rattle.tiny_draft.specs.Prelude.{function_tree, no_arguments, no_else, no_statements, no_steps, statement, statement_tree, statements_of, step}
pub use Rattle.tiny_draft.specs.Prelude.{step_tree, steps_of, term_tree}
pub use Rattle.tiny_draft.specs.declared.token.Kind.{Kind}
pub use Rattle.tiny_draft.specs.declared.token.Sign.{Sign}
pub use Rattle.tiny_draft.specs.declared.token.Sign.TheVariants.{Begin, End}
pub use Rattle.tiny_draft.specs.declared.token.Token.{Token}
pub use Rattle.tiny_draft.specs.declared.tree.Comparison.{Comparison}
pub use Rattle.tiny_draft.specs.declared.tree.Word.{Word}
pub use Rattle.tiny_grammar.specs.declared.refusal.Refusal.{Refusal}
