-- Accesses that are refused.
use Rattle.mic1_cycles.proofs.Common.{◌≡◌, ◌≢◌, ℕ, ◌<◌, ◌≤◌, ◌/◌, ◌==◌, nat_lt, Bool, true, false, Some, None, length, refl, ◌∙◌, arith, World, Refusal}
use Rattle.mic1_cycles.proofs.Common.{StackLimit, console_at, read_refusal, write_refusal, fetch_refusal, STACK_SIDE, Placed, access_refusal, microstep}
use Rattle.mic1_cycles.proofs.Common.{Symbols, assigned_symbols, micro_of, HasSigns, Trail, world_of, IsComputed, ports_of, RefusalLaws}
use Rattle.console_port.specs.Prelude.{OutOfMap}
use Rattle.mic_clock.specs.Prelude.{Refused}
use Rattle.mic1_cycles.proofs.Settled.{result_is, settled_is, step_by, step_from}
use Rattle.mic1_cycles.proofs.Trails.{size_kept}

module _ (word : ℕ → ℕ) (start : World) (p : Placed) (empty x v : ℕ) (s : Symbols) (t : Trail) (why : Refusal)
    (signs : HasSigns word s) (c : IsComputed word start p.part empty x v s)
    (refused : access_refusal (length start.words) p.part.mem p.part.fetch (ports_of word start (assigned_symbols p.part.dests v s)) ≡ Some why) (entry : ℕ) (clocked : Bool) where
  abbrev after : Symbols
  after = assigned_symbols p.part.dests v s

  abbrev w : World
  w = world_of word start t

  abbrev n : ℕ
  n = length start.words

  pub stops : microstep p (micro_of word entry clocked s) w ≡ Refused why
  stops =
      (λ i. step_from (size_kept word t.writes start.words i) p (result_is word start p empty x v s signs c entry clocked i) (settled_is word start p empty x v s signs c entry clocked i) w)
      ∙ (λ i. step_by (refused i) n p (word x) (micro_of word entry true after) w)

not_lt : (a b : ℕ) → b ≤ a → nat_lt a b ≡ false
not_lt a b h = grind arith

is_lt : (a b : ℕ) → a < b → nat_lt a b ≡ true
is_lt a b h = grind arith

is_off : (a b : ℕ) → a ≢ b → (a == b) ≡ false
is_off a b h = grind (arith, h)

is_on : (a b : ℕ) → a ≡ b → (a == b) ≡ true
is_on a b h = grind (arith, h)

reads : (top at : ℕ) → top ≤ at → at ≢ console_at → read_refusal top at ≡ Some (OutOfMap at)
unfolding read_refusal
reads top at past other = rw (not_lt at top past) (rw (is_off at console_at other) refl)

limits : (top at : ℕ) → top ≤ at → at ≢ console_at → at < STACK_SIDE → write_refusal top at ≡ Some (StackLimit at)
unfolding write_refusal
limits top at past other low = rw (not_lt at top past) (rw (is_off at console_at other) (rw (is_lt at STACK_SIDE low) refl))

writes : (top at : ℕ) → top ≤ at → at ≢ console_at → STACK_SIDE ≤ at → write_refusal top at ≡ Some (OutOfMap at)
unfolding write_refusal
writes top at past other high = rw (not_lt at top past) (rw (is_off at console_at other) (rw (not_lt at STACK_SIDE high) refl))

fetches : (top at : ℕ) → top ≤ at / 4 → fetch_refusal top at ≡ Some (OutOfMap (at / 4))
unfolding fetch_refusal
fetches top at past = rw (not_lt (at / 4) top past) refl

read_inside : (top at : ℕ) → at < top → read_refusal top at ≡ None
unfolding read_refusal
read_inside top at h = rw (is_lt at top h) refl

read_console : (top at : ℕ) → top ≤ console_at → at ≡ console_at → read_refusal top at ≡ None
unfolding read_refusal
read_console top at size is = rw (not_lt at top (omega (arith, size, is))) (rw (is_on at console_at is) refl)

write_inside : (top at : ℕ) → at < top → write_refusal top at ≡ None
unfolding write_refusal
write_inside top at h = rw (is_lt at top h) refl

write_console : (top at : ℕ) → top ≤ console_at → at ≡ console_at → write_refusal top at ≡ None
unfolding write_refusal
write_console top at size is = rw (not_lt at top (omega (arith, size, is))) (rw (is_on at console_at is) refl)

pub refusals : RefusalLaws
refusals = record {
  stops = stops;
  reads = reads;
  limits = limits;
  writes = writes;
  fetches = fetches;
  read_inside = read_inside;
  read_console = read_console;
  write_inside = write_inside;
  write_console = write_console;
}
