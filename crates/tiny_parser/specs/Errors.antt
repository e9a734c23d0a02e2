-- Which error of a Tiny source each refusal of the grammar and each wrong name becomes.
use Rattle.std.specs.Prelude.{ℕ, Bool, true, false}
use Rattle.tiny_grammar.specs.declared.refusal.Refusal.{Refusal}
use Rattle.tiny_grammar.specs.declared.refusal.Refusal.TheVariants as refusals
use Rattle.tiny_names.specs.declared.fault.Fault.{Fault}
use Rattle.tiny_names.specs.declared.fault.Fault.TheVariants as faults
use Rattle.tiny_names.specs.declared.fault.Unresolved.{Unresolved}
use Rattle.tiny_names.specs.declared.fault.Unresolved.TheVariants as unresolved
use Rattle.tiny_parser.specs.declared.error.TinyError.{TinyError}
use Rattle.tiny_parser.specs.declared.error.TinyError.TheVariants as errors

-- the end of the text is refused in its last line
abbrev pub grammar_error : ℕ → Refusal → TinyError
grammar_error last_line (refusals.BadToken line) = errors.BadToken line
grammar_error last_line (refusals.BadNumber line) = errors.BadNumber line
grammar_error last_line (refusals.BadSyntax line) = errors.BadSyntax line
grammar_error last_line (refusals.TooDeep line) = errors.TooDeep line
grammar_error last_line refusals.Unfinished = errors.BadSyntax last_line
grammar_error last_line refusals.OutOfMemory = errors.OutOfMemory

abbrev pub fault_error : Fault → TinyError
fault_error (faults.DuplicateName line) = errors.DuplicateName line
fault_error (faults.UnknownName line) = errors.UnknownName line
fault_error (faults.BadCall line) = errors.BadCall line
fault_error (faults.ReturnInMain line) = errors.ReturnInMain line
fault_error (faults.TooManyNames line) = errors.TooManyNames line
fault_error faults.NoMain = errors.NoMain

abbrev pub names_error : Unresolved → TinyError
names_error (unresolved.Fault f) = fault_error f
names_error unresolved.OutOfMemory = errors.OutOfMemory

abbrev pub is_memory : TinyError → Bool
is_memory errors.OutOfMemory = true
is_memory _ = false
