-- The plain tree of a program.
use Rattle.std.specs.Prelude.{map}
use Rattle.tiny_names.specs.declared.tiny_program.TinyProgram.{TinyProgram}
use Rattle.tiny_tree.specs.Prelude.{Program, function_tree}

abbrev pub program_tree : TinyProgram → Program
program_tree p = record { functions = map function_tree p.functions; main = p.main }
