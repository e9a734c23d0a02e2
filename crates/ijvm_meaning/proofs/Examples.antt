-- The definitions, computed on whole runs.
use Rattle.std.proofs.Common.{◌≡◌, ℕ, List, [], ◌∷◌, ◌++◌, replicate, Option, Some, None}
use Rattle.mic_words.specs.Prelude.{wrap}
use Rattle.mic_words.specs.declared.machine.Machine.{Machine}
use Rattle.mic_words.specs.declared.machine.Machine.TheVariants.{Mic1, Mic2}
use Rattle.ijvm_meaning.specs.declared.run.RunEnd.{RunEnd}
use Rattle.ijvm_meaning.specs.declared.run.RunEnd.TheVariants as ends
use Rattle.ijvm_instr.specs.Prelude.{of_bytes, instr_at}
use Rattle.ijvm_image.specs.Prelude.{params, others}
use Rattle.ijvm_meaning.specs.Prelude.{lv_of, sp_of, top_of, timing_of, TimedImage, Finish, first_point, finish_from}

record Told : Type 0 where
  end : RunEnd
  cycles : ℕ
  instructions : ℕ
  boundary : ℕ
  at : ℕ
  sp : ℕ
  lv : ℕ
  tos : Option ℕ
  given : List ℕ
  untaken : List ℕ

abbrev told_of : Option Finish → Option Told
told_of None = None
told_of (Some f) =
    Some (
    record {
      end = f.end;
      cycles = f.cycles;
      instructions = f.instructions;
      boundary = f.last.cycles;
      at = f.last.state.at;
      sp = sp_of f.last.state;
      lv = lv_of f.last.state;
      tos = top_of f.last.state.running.operands;
      given = f.left.given;
      untaken = f.left.untaken;
    })

abbrev told : RunEnd → ℕ → ℕ → ℕ → ℕ → ℕ → ℕ → Option ℕ → List ℕ → List ℕ → Option Told
told e c i b a s l t g u =
    Some (record { end = e; cycles = c; instructions = i; boundary = b; at = a; sp = s; lv = l; tos = t; given = g; untaken = u })

-- on a memory map with this end of the stack
abbrev run_on : ℕ → Machine → List ℕ → List ℕ → ℕ → List ℕ → ℕ → Option Told
run_on stack_end machine text pool main_locals input bound =
    let p : TimedImage = record { image = record { text = text; pool = pool }; stack_end = stack_end; timing = timing_of machine } in
    told_of (finish_from p bound 30 (first_point p main_locals input))

-- on the standard map
abbrev run_of : Machine → List ℕ → List ℕ → ℕ → List ℕ → ℕ → Option Told
run_of = run_on 0x10000

-- BIPUSH 72, OUT, HALT
abbrev hello : List ℕ
hello = 0x10 ∷ 0x48 ∷ 0xFD ∷ 0xFF ∷ []

-- copies its input up to a newline
abbrev echo : List ℕ
echo = 0xFC ∷ 0x59 ∷ 0x10 ∷ 0x0A ∷ 0x9F ∷ 0x00 ∷ 0x07 ∷ 0xFD ∷ 0xA7 ∷ 0xFF ∷ 0xF8 ∷ 0xFD ∷ 0xFF ∷ []

-- a call of a method that adds its two parameters, after k instructions NOP
abbrev add : ℕ → List ℕ
add k =
    replicate k 0 ++ (0x13 ∷ 0x00 ∷ 0x00 ∷ 0x10 ∷ 0x14 ∷ 0x10 ∷ 0x16 ∷ 0xB6 ∷ 0x00 ∷ 0x01 ∷ 0xFD ∷ 0xFF
    ∷ 0x00 ∷ 0x03 ∷ 0x00 ∷ 0x01 ∷ 0x15 ∷ 0x01 ∷ 0x15 ∷ 0x02 ∷ 0x60 ∷ 0x36 ∷ 0x03 ∷ 0x15 ∷ 0x03 ∷ 0xAC ∷ [])

-- a local above 255 and a number above 127
abbrev wide-increment : List ℕ
wide-increment = 0x10 ∷ 0x01 ∷ 0xC4 ∷ 0x36 ∷ 0x01 ∷ 0x2C ∷ 0xC4 ∷ 0x84 ∷ 0x01 ∷ 0x2C ∷ 0x03 ∷ 0xE8 ∷ 0xC4 ∷ 0x15 ∷ 0x01 ∷ 0x2C ∷ 0xFF ∷ []

-- IN and HALT above 32,768 locals: a larger map has room for the byte
abbrev full : List ℕ
full = 0xFC ∷ 0xFF ∷ []

-- each run to its end: the cycles and instructions, and at the last boundary the cycles, the address, SP, LV and TOS; what was given, and is not taken
runs : (run_of Mic1 hello [] 0 [] 10000000 ≡ told ends.Halt 15 3 14 0x3 0x7FFF 0x8000 None (0x48 ∷ []) [])
    × (run_of Mic2 hello [] 0 [] 10000000 ≡ told ends.Halt 11 3 11 0x3 0x7FFF 0x8000 None (0x48 ∷ []) [])
    × (run_of Mic1 hello [] 0 [] 0 ≡ told ends.Bound 2 0 2 0x0 0x7FFF 0x8000 None [] [])
    × (run_of Mic1 hello [] 0 [] 12 ≡ told ends.Bound 14 2 14 0x3 0x7FFF 0x8000 None (0x48 ∷ []) [])
    × (run_of Mic1 (0x10 ∷ 0x41 ∷ 0x10 ∷ 0x01 ∷ 0x60 ∷ 0xFD ∷ 0xFF ∷ []) [] 0 [] 10000000 ≡ told ends.Halt 23 5 22 0x6 0x7FFF 0x8000 None (0x42 ∷ []) [])
    × (run_of Mic1 echo [] 0 (0x61 ∷ 0x62 ∷ 0x0A ∷ []) 10000000 ≡ told ends.Halt 113 18 112 0xC 0x7FFF 0x8000 None (0x61 ∷ 0x62 ∷ 0x0A ∷ []) [])
    × (run_of Mic2 echo [] 0 (0x61 ∷ 0x62 ∷ 0x0A ∷ []) 10000000 ≡ told ends.Halt 84 18 84 0xC 0x7FFF 0x8000 None (0x61 ∷ 0x62 ∷ 0x0A ∷ []) [])
    × (run_of Mic1 echo [] 0 [] 100 ≡ told ends.Bound 101 16 101 0x7 0x8000 0x8000 (Some 0x0) (0x00 ∷ 0x00 ∷ []) [])
    × (run_of Mic1 (add 0) (0x40 ∷ 0x0C ∷ []) 0 [] 10000000 ≡ told ends.Halt 88 12 87 0xB 0x7FFF 0x8000 None (0x2A ∷ []) [])
    × (run_of Mic2 (add 0) (0x40 ∷ 0x0C ∷ []) 0 [] 10000000 ≡ told ends.Halt 53 12 53 0xB 0x7FFF 0x8000 None (0x2A ∷ []) [])
    × (run_of Mic1 (add 1) (0x40 ∷ 0x0D ∷ []) 0 [] 10000000 ≡ told ends.Halt 90 13 89 0xC 0x7FFF 0x8000 None (0x2A ∷ []) [])
    × (run_of Mic2 (add 1) (0x40 ∷ 0x0D ∷ []) 0 [] 10000000 ≡ told ends.Halt 54 13 54 0xC 0x7FFF 0x8000 None (0x2A ∷ []) [])
    × (run_of Mic1 (add 2) (0x40 ∷ 0x0E ∷ []) 0 [] 10000000 ≡ told ends.Halt 92 14 91 0xD 0x7FFF 0x8000 None (0x2A ∷ []) [])
    × (run_of Mic2 (add 2) (0x40 ∷ 0x0E ∷ []) 0 [] 10000000 ≡ told ends.Halt 55 14 55 0xD 0x7FFF 0x8000 None (0x2A ∷ []) [])
    × (run_of Mic1 (add 3) (0x40 ∷ 0x0F ∷ []) 0 [] 10000000 ≡ told ends.Halt 94 15 93 0xE 0x7FFF 0x8000 None (0x2A ∷ []) [])
    × (run_of Mic2 (add 3) (0x40 ∷ 0x0F ∷ []) 0 [] 10000000 ≡ told ends.Halt 57 15 57 0xE 0x7FFF 0x8000 None (0x2A ∷ []) [])
    × (run_of Mic1 (add 0) (0x40 ∷ 0x0C ∷ []) 0 [] 41 ≡ told ends.Bound 41 4 41 0x10 0x8005 0x8000 None [] [])
    × (run_of Mic1 (0xC4 ∷ 0x15 ∷ 0x01 ∷ 0x2C ∷ 0xFF ∷ []) [] 301 [] 10000000 ≡ told ends.Halt 12 2 11 0x4 0x812D 0x8000 (Some 0x0) [] [])
    × (run_of Mic1 wide-increment [] 301 [] 10000000 ≡ told ends.Halt 38 5 37 0x10 0x812D 0x8000 (Some 1001) [] [])
    × (run_of Mic2 wide-increment [] 301 [] 10000000 ≡ told ends.Halt 19 5 19 0x10 0x812D 0x8000 (Some 1001) [] [])
    × (run_of Mic1 (0xFC ∷ 0xC4 ∷ 0x36 ∷ 0x7F ∷ 0xFF ∷ 0xFF ∷ []) [] 32768 (0x78 ∷ 0x79 ∷ []) 10000000
    ≡ told ends.StackLimit 2 0 2 0x0 0xFFFF 0x8000 None [] (0x79 ∷ []))
    × (run_on 0x20000 Mic1 full [] 32768 (0x78 ∷ 0x79 ∷ []) 10000000 ≡ told ends.Halt 9 2 8 0x1 0x10000 0x8000 (Some 0x78) [] (0x79 ∷ []))
    × (run_of Mic1 (0x84 ∷ 0x00 ∷ 0x41 ∷ 0x15 ∷ 0x00 ∷ 0xFD ∷ 0xFF ∷ []) [] 1 [] 10000000 ≡ told ends.Halt 24 4 23 0x6 0x8000 0x8000 None (0x41 ∷ []) [])
    × (run_of Mic2 (0x84 ∷ 0x00 ∷ 0x41 ∷ 0x15 ∷ 0x00 ∷ 0xFD ∷ 0xFF ∷ []) [] 1 [] 10000000 ≡ told ends.Halt 15 4 15 0x6 0x8000 0x8000 None (0x41 ∷ []) [])
    × (run_of Mic1 (0x13 ∷ 0x00 ∷ 0x00 ∷ 0x10 ∷ 0x01 ∷ 0x64 ∷ 0xFF ∷ []) (0x80000000 ∷ []) 0 [] 10000000
    ≡ told ends.Halt 19 4 18 0x6 0x8000 0x8000 (Some 0x7FFFFFFF) [] [])
    × (run_of Mic1 (0x10 ∷ 0xFF ∷ 0xFF ∷ []) [] 0 [] 10000000 ≡ told ends.Halt 7 2 6 0x2 0x8000 0x8000 (Some 0xFFFFFFFF) [] [])
    × (run_of Mic1 (0x10 ∷ 0x06 ∷ 0x10 ∷ 0x03 ∷ 0x80 ∷ 0xFF ∷ []) [] 0 [] 10000000 ≡ told ends.Halt 15 4 14 0x5 0x8000 0x8000 (Some 0x7) [] [])
    × (run_of Mic1 (0xFF ∷ []) [] 0 [] 10000000 ≡ told ends.Halt 3 1 2 0x0 0x7FFF 0x8000 None [] [])
    × (run_of Mic1 (0xFE ∷ []) [] 0 [] 10000000 ≡ told ends.Err 3 1 2 0x0 0x7FFF 0x8000 None [] [])
    × (run_of Mic2 (0xFE ∷ []) [] 0 [] 10000000 ≡ told ends.Err 2 1 2 0x0 0x7FFF 0x8000 None [] [])
unfolding of_bytes instr_at wrap params others
runs = assumption
