-- The memory maps of this profile, by the word address that their stack ends before.
use Rattle.std.specs.Prelude.{◌≡◌, ◌⊎◌, ℕ}
use Rattle.console_port.specs.declared.map.TheConstants.MemoryMap.{STANDARD, LARGE}

-- the standard map or the large one
abbrev pub IsMap : ℕ → Type 0
IsMap stack_end = (stack_end ≡ STANDARD.stack_end) ⊎ (stack_end ≡ LARGE.stack_end)
