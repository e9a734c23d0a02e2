-- The words of other crates that these proofs use.
pub use Rattle.clap.proofs.FaultLemmas.{leaf_fault}
pub use Rattle.clap.specs.Kinds.{HasKind, IsAmong, Kinds, check_kinds, or_else}
pub use Rattle.clap.specs.Lexer.{long_of, name_and_value, short_of, usize_max}
pub use Rattle.clap.specs.Matches.{first_value, found_of}
pub use Rattle.clap.specs.Simple.{App, HasMatchesOf, Shape, app_of, built, filled_from, is_buildable, is_ready, is_ready_leaf, matches_of, names_of, new_shape}
pub use Rattle.clap.specs.Simple.{on_top, with_rule}
pub use Rattle.clap.specs.Takes.{is_given}
pub use Rattle.clap.specs.Values.{kind_of}
pub use Rattle.clap.specs.declared.builder.action.ArgAction.TheVariants.{Set, SetTrue}
pub use Rattle.clap.specs.declared.builder.value_parser.Reading.TheVariants.{AsWritten}
pub use Rattle.clap.specs.declared.error.Error.{Error}
pub use Rattle.clap.specs.declared.error.kind.ErrorKind.{ErrorKind}
pub use Rattle.clap.specs.declared.error.kind.ErrorKind.TheVariants.{OutOfMemory}
pub use Rattle.clap.specs.declared.parser.matches.ArgMatches.{ArgMatches}
pub use Rattle.clap.specs.declared.parser.matches.ValueSource.TheVariants.{CommandLine, DefaultValue}
pub use Rattle.std.proofs.Common.{Bool, IsUtf8, List, None, Ok, Option, Some, String, [], ap, append-nil, append_assoc, ap₂, arith, codes, drop}
pub use Rattle.std.proofs.Common.{encode_utf8_all, eq-eqb, eqb-true, false, fold, if◌then◌else◌, inl, inr, length, lt-ltb, map, min, nat_lt, ne_eqb, not}
pub use Rattle.std.proofs.Common.{option_and_then, option_map, refl, slice_get, string_bytes, subst, suc, sym, take, true, unwrap_or, zero, ℕ, ◌&&◌, ◌++◌, ◌+◌}
pub use Rattle.std.proofs.Common.{◌-◌, ◌<◌, ◌==◌, ◌||◌, ◌∙◌, ◌∷◌, ◌≡◌, ◌≤◌, ◌⊎◌}
pub use Rattle.std.proofs.lemmas.Bool.{cases_lt}
pub use Rattle.std.proofs.lemmas.List.{get_or_default, take_rest}
pub use Rattle.std.proofs.lemmas.List.Elements.{All-drop, All-get_or, All-map}
pub use Rattle.std.proofs.lemmas.Option.{same_Some}
pub use Rattle.std.proofs.lemmas.Slice.Eq.{bytes_eq-Decides}
pub use Rattle.std.specs.List.{All, after_first, flat_map, list_all, list_any, slice_index_or}
pub use Rattle.std.specs.Str.{bytes_eq, chars}
pub use Rattle.std.specs.declared.alloc.Global.{Global}
pub use Rattle.cli_words.specs.declared.table.CommandName.{CommandName}
