-- What is printed of a text that is no Tiny program, or that has no code: the table of messages. A limit of the image has the message that it has for a source.
use Rattle.std.specs.Prelude.{◌≡◌, ℕ, List, Option, Some, None, codes}
use Rattle.cli_programs.specs.Common.{of_file, of_line, link_reason, TinyError, HasNoCode}
use Rattle.method_linker.specs.declared.error.LinkError.TheVariants as limits
use Rattle.tiny_parser.specs.declared.error.TinyError.TheVariants as errors

-- why a text is no Tiny program or has no code, unless memory ran out
abbrev pub tiny_reason : TinyError → Option (List ℕ)
tiny_reason (errors.BadToken line) = Some (of_line line (codes "bad token"))
tiny_reason (errors.BadNumber line) = Some (of_line line (codes "bad number"))
tiny_reason (errors.BadSyntax line) = Some (of_line line (codes "bad syntax"))
tiny_reason (errors.TooDeep line) = Some (of_line line (codes "nested too deep"))
tiny_reason (errors.DuplicateName line) = Some (of_line line (codes "name used twice"))
tiny_reason (errors.UnknownName line) = Some (of_line line (codes "unknown name"))
tiny_reason (errors.BadCall line) = Some (of_line line (codes "bad call"))
tiny_reason (errors.ReturnInMain line) = Some (of_line line (codes "return in main"))
tiny_reason (errors.TooManyNames line) = Some (of_line line (codes "too many names"))
tiny_reason errors.NoMain = Some (of_file (codes "no main"))
tiny_reason (errors.PoolTooLong count) = link_reason (limits.PoolTooLong count)
tiny_reason (errors.TextTooLong size) = link_reason (limits.TextTooLong size)
tiny_reason (errors.JumpTooFar line far) = link_reason (limits.JumpTooFar line far)
tiny_reason errors.OutOfMemory = None

-- the text is refused, for this reason
pub record IsRefusedTiny (text reason : List ℕ) : Type 0 where
  pub error : TinyError
  pub refused : HasNoCode text error
  pub said : tiny_reason error ≡ Some reason
