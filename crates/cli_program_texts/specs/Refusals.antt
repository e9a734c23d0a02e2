-- What is printed of a file that holds no accepted program: the table of messages. Numbers are decimal, and addresses have 8 hexadecimal digits.
use Rattle.std.specs.Prelude.{ℕ, List, ◌++◌, Option, Some, None, codes}
use Rattle.std.specs.Fmt.{decimal, signed_decimal}
use Rattle.mic_base.specs.Prelude.{hex_text}
use Rattle.cli_outside.specs.Prelude.{of_file, of_line}
use Rattle.ijvm_image.specs.declared.image.ImageError.{ImageError}
use Rattle.ijvm_image.specs.declared.image.ImageError.TheVariants as images
use Rattle.ijvm_asm.specs.declared.error.AsmError.{AsmError}
use Rattle.ijvm_asm.specs.declared.error.AsmError.TheVariants as sources
use Rattle.method_linker.specs.declared.error.LinkError.{LinkError}
use Rattle.method_linker.specs.declared.error.LinkError.TheVariants as limits
use Rattle.verifier_facts.specs.declared.error.VerifyError.{VerifyError}
use Rattle.verifier_facts.specs.declared.error.VerifyError.TheVariants as facts

-- what is printed of the byte at this address begins so
abbrev pub of_byte : ℕ → List ℕ
of_byte at = of_file (hex_text 8 at)

-- why a file is no image file, unless memory ran out
abbrev pub image_reason : ImageError → Option (List ℕ)
image_reason (images.Truncated place) = Some (of_file (codes "truncated at " ++ decimal place))
image_reason images.BadMagic = Some (of_file (codes "bad magic"))
image_reason (images.BadOrigin value) = Some (of_file (codes "bad origin " ++ hex_text 8 value))
image_reason (images.BadSize value) = Some (of_file (codes "bad size " ++ decimal value))
image_reason (images.Trailing place) = Some (of_file (codes "trailing bytes at " ++ decimal place))
image_reason images.OutOfMemory = None

-- why a text is no source program, unless memory ran out
abbrev pub source_reason : AsmError → Option (List ℕ)
source_reason (sources.BadToken line) = Some (of_line line (codes "bad token"))
source_reason (sources.BadLine line) = Some (of_line line (codes "bad line"))
source_reason (sources.BadNumber line) = Some (of_line line (codes "bad number"))
source_reason (sources.OutOfRange line) = Some (of_line line (codes "out of range"))
source_reason (sources.DuplicateName line) = Some (of_line line (codes "name used twice"))
source_reason (sources.TooManyNames line) = Some (of_line line (codes "too many names"))
source_reason (sources.MissingEnd line) = Some (of_line line (codes "section is not ended"))
source_reason (sources.UnknownName line) = Some (of_line line (codes "unknown name"))
source_reason sources.NoMain = Some (of_file (codes "no main"))
source_reason sources.OutOfMemory = None

-- why a source program has no image, unless memory ran out
abbrev pub link_reason : LinkError → Option (List ℕ)
link_reason (limits.PoolTooLong count) = Some (of_file (decimal count ++ codes " constants"))
link_reason (limits.TextTooLong size) = Some (of_file (decimal size ++ codes " bytes of text"))
link_reason (limits.JumpTooFar line distance) = Some (of_line line (codes "jump of ") ++ signed_decimal distance ++ codes " is too far")
link_reason limits.OutOfMemory = None

-- why an image is not accepted, unless memory ran out
abbrev pub verify_reason : VerifyError → Option (List ℕ)
verify_reason (facts.BadCode at) = Some (of_byte at ++ codes " bad code")
verify_reason (facts.FallsOff at) = Some (of_byte at ++ codes " falls off")
verify_reason (facts.BadTarget at) = Some (of_byte at ++ codes " bad target")
verify_reason (facts.Overlap at) = Some (of_byte at ++ codes " overlap")
verify_reason (facts.BadConstant at index) = Some (of_byte at ++ codes " no constant " ++ decimal index)
verify_reason (facts.BadEntry index) = Some (of_file (codes "constant " ++ decimal index ++ codes " is no method"))
verify_reason (facts.BadHeader at) = Some (of_byte at ++ codes " bad header")
verify_reason (facts.LinkSlot at) = Some (of_byte at ++ codes " link word")
verify_reason (facts.BadLocal at index) = Some (of_byte at ++ codes " no local " ++ decimal index)
verify_reason (facts.UnsetLocal at index) = Some (of_byte at ++ codes " local " ++ decimal index ++ codes " unset")
verify_reason (facts.TooFewArguments at have need) = Some (of_byte at ++ codes " has " ++ decimal have ++ codes " of " ++ decimal need ++ codes " arguments")
verify_reason (facts.Underflow at) = Some (of_byte at ++ codes " underflow")
verify_reason (facts.DepthDiffers at less more) = Some (of_byte at ++ codes " depth " ++ decimal less ++ codes " and " ++ decimal more)
verify_reason (facts.ReturnInMain at) = Some (of_byte at ++ codes " return in main")
verify_reason (facts.MainFrame count) = Some (of_file (decimal count ++ codes " locals in main"))
verify_reason facts.OutOfMemory = None
