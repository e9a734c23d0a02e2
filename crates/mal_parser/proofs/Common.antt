-- The words of other crates that these proofs use.
pub use Rattle.std.proofs.Common.{All, Bool, Err, IfErr, IfOk, IfSome, IsSome, IsTrue, List, None, Ok, Option, Result, Some, [], ap, append-nil, append_assoc}
pub use Rattle.std.proofs.Common.{arith, cond, false, find, get_or, inl, inr, is_ok, is_some, le-leb, leb-true, length, length-append, map, min, nat_le, nat_lt}
pub use Rattle.std.proofs.Common.{negsuc, not, option_and_then, option_map, option_to_list, pos, refl, slice_get, subst, suc, sym, take, true, unwrap_or, zero}
pub use Rattle.std.proofs.Common.{ℕ, ℤ, ◌&&◌, ◌++◌, ◌+◌, ◌-◌, ◌<◌, ◌==◌, ◌||◌, ◌∙◌, ◌∷◌, ◌≡◌, ◌≤◌, ◌⊎◌}
pub use Rattle.std.proofs.lemmas.Bool.{and_parts, and_right, cases_lt, not-false, or_from, or_parts, or_right}
pub use Rattle.std.proofs.lemmas.Bool.Decides.{nat_tests}
pub use Rattle.std.proofs.lemmas.List.{length-map, map-append, take_more}
pub use Rattle.std.proofs.lemmas.List.Elements.{All-cons, All-head, All-nil, All-tail, filter_map-append}
pub use Rattle.std.proofs.lemmas.List.Folds.{list_any-append}
pub use Rattle.std.proofs.lemmas.Option.{get_or_from_slice_get, slice_get-map, slice_get_within}
pub use Rattle.std.proofs.lemmas.Result.{err_from_is_err_and}
pub use Rattle.std.proofs.lemmas.Slice.Eq.{bytes_eq-Decides}
pub use Rattle.std.specs.List.{cons_option, filter_map, list_all, list_any, onto_first}
pub use Rattle.std.specs.Str.{bytes_eq}
pub use Rattle.mic_words.specs.declared.machine.Machine.{Machine}
pub use Rattle.source_text.specs.Prelude.{Agrees, FailsBy, IsReadAsSpelled, Leads, Makes, SayAll, SaysLine, StopsAt, before_more, begins_comment, contents}
pub use Rattle.source_text.specs.Prelude.{is_called, is_taken, mapped, parts, place_of, some_place, without_comment}
pub use Rattle.micro_word.specs.Prelude.{is_next, is_part, is_valid}
pub use Rattle.micro_word.specs.declared.statement.Part.{Part}
pub use Rattle.mal_tokens.specs.Prelude.{IsLabelText, spelled_as}
pub use Rattle.mal_tokens.specs.declared.token.Token.{Token}
pub use Rattle.mal_line.specs.Prelude.{by_targets}
pub use Rattle.mal_line.specs.declared.content.Content.{Content}
pub use Rattle.mal_line.specs.declared.content.Parts.{Parts}
pub use Rattle.mal_line.specs.declared.line.Form.{Form}
pub use Rattle.mal_line.specs.declared.next.Next.{Next}
pub use Rattle.mal_print.specs.Prelude.{FallbacksAreReadBack, FixesAreReadBack, HasLabels, IsLineOf, StatementsAreReadBack, fallback, fix, is_plain, labelled}
pub use Rattle.mal_print.specs.Prelude.{printed, statement}
pub use Rattle.mal_parser.specs.declared.error.MalError.{MalError}
pub use Rattle.mal_parser.specs.declared.source.Draft.{Draft}
pub use Rattle.mal_parser.specs.declared.source.Fix.{Fix}
pub use Rattle.mal_parser.specs.declared.statement.Statement.{Statement}
