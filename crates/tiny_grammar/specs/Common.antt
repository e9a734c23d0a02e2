-- The words of other crates that this one uses.
pub use Rattle.std.specs.Borrow.{Bor}
pub use Rattle.tiny_tree.specs.declared.tree.Operator.{Operator}
pub use Rattle.tiny_draft.specs.declared.token.Kind.{Kind}
pub use Rattle.tiny_draft.specs.declared.token.Sign.{Sign}
pub use Rattle.tiny_draft.specs.declared.token.Token.{Token}
pub use Rattle.tiny_draft.specs.declared.tree.Comparison.{Comparison}
pub use Rattle.tiny_draft.specs.declared.tree.Expr.{Expr}
pub use Rattle.tiny_draft.specs.declared.tree.Statement.{Statement}
pub use Rattle.tiny_draft.specs.declared.tree.Term.{Term}
pub use Rattle.tiny_draft.specs.declared.tree.Word.{Word}
