-- Accesses at addresses of the memory, which has its words below `top`, and at the console.
use Rattle.std.proofs.Common.{◌≡◌, ℕ, ◌%◌, ◌/◌, ◌<◌, ◌≤◌, Some, None, true, false, List, [], ◌∷◌, ◌++◌, length, drop, arith, ap}
use Rattle.std.specs.Prelude.{slice_index, slice_set, nat_lt}
use Rattle.ijvm_simulation.specs.Common.{nat_tests, set_past, wrap, plus, World, StackLimit, next_byte, read_value, untaken_after, given_after, read_refusal}
use Rattle.ijvm_simulation.specs.Common.{write_refusal, fetch_refusal}

-- where the memory of a map may end
pub record IsMapEnd (top : ℕ) : Type 0 where
  pub low : 0x8000 ≤ top
  pub high : top < 0x80000000
  pub near : top ≤ 0x20000

-- an access where x is the address a of a memory word
pub record IsWordAccess (top : ℕ) (w : World) (x a : ℕ) : Type 0 where
  pub is : x ≡ a
  pub below : a < top
  pub read : read_refusal top x ≡ None
  pub write : write_refusal top x ≡ None
  pub value : read_value top w.words w.untaken x ≡ slice_index w.words a
  pub untaken : untaken_after top w.untaken x ≡ w.untaken
  pub given : (given : List ℕ) (v : ℕ) → given_after top given x v ≡ given

-- minus three, as the words of IN and OUT make it
abbrev pub console_address : ℕ
console_address = plus 4294967295 (plus 4294967295 4294967295)

-- an access there
pub record IsConsoleAccess (top : ℕ) (w : World) : Type 0 where
  pub read : read_refusal top console_address ≡ None
  pub write : write_refusal top console_address ≡ None
  pub value : read_value top w.words w.untaken console_address ≡ next_byte w.untaken
  pub words : (v : ℕ) → slice_set w.words console_address v ≡ w.words
  pub untaken : untaken_after top w.untaken console_address ≡ drop 1 w.untaken
  pub given : (v : ℕ) → given_after top w.given console_address v ≡ w.given ++ v % 256 ∷ []

-- the console is no word below the stack
pub console : 0x8000 ≤ console_address
unfolding wrap
console = omega arith

pub access : (top : ℕ) (w : World) (x a : ℕ) → x ≡ a → a < top → IsWordAccess top w x a
unfolding read_refusal write_refusal read_value untaken_after given_after
access top w x a e l =
    let t : nat_lt x top ≡ true = grind (arith, nat_tests) in
    record {
      is = e;
      below = l;
      read = rw t;
      write = rw t;
      value = rw t (ap (slice_index w.words) e);
      untaken = rw t;
      given = λ given v. rw t;
    }

pub port : (top : ℕ) (w : World) → IsMapEnd top → length w.words ≡ top → IsConsoleAccess top w
unfolding wrap read_refusal write_refusal read_value untaken_after given_after
port top w map long =
    let high : top < 0x80000000 = map.high in
    let t : nat_lt 0xFFFFFFFD top ≡ false = grind (arith, nat_tests) in
    record {
      read = rw t;
      write = rw t;
      value = rw t;
      words = λ v. set_past w.words 0xFFFFFFFD v (omega arith);
      untaken = rw t;
      given = λ v. rw t;
    }

-- a write past the end of the memory
pub limit : (top x : ℕ) → top ≤ x → x < 0x80000000 → write_refusal top x ≡ Some (StackLimit x)
unfolding write_refusal
limit top x beyond low =
    let t : nat_lt x top ≡ false = grind (arith, nat_tests) in
    rw t (grind (arith, nat_tests))

pub fetch_ok : (top : ℕ) {x p : ℕ} → IsMapEnd top → x ≡ p → p < 0x20000 → fetch_refusal top x ≡ None
unfolding fetch_refusal
fetch_ok top {x} map e l =
    let low : 0x8000 ≤ top = map.low in
    let t : nat_lt (x / 4) top ≡ true = grind (arith, nat_tests) in
    rw t
