-- Images that are accepted on every map of the memory.
use Rattle.std.specs.Prelude.{ℕ}
use Rattle.console_port.specs.Prelude.{IsMap}
use Rattle.ijvm_image.specs.Prelude.{ImageView}
use Rattle.verifier_facts.specs.Prelude.{Accepts}

abbrev pub AlwaysAccepts : ImageView → Type 0
AlwaysAccepts image = (end : ℕ) → IsMap end → Accepts image end
