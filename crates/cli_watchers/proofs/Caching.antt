-- A cache counts the accesses of a run, and a run leaves it room.
use Rattle.cli_watchers.proofs.Common.{◌≡◌, ◌∙◌, ℕ, ◌+◌, ◌*◌, ◌/◌, ◌^◌, ◌<◌, ◌≤◌, Bool, true, false, if◌then◌else◌, List, [], ◌∷◌, ◌++◌, map, length, Option}
use Rattle.cli_watchers.proofs.Common.{Some, None, refl, sym, ap, subst, arith, get_or, replicate, nat_lt, slice_index, slice_set, lt-ltb, length-replicate}
use Rattle.cli_watchers.proofs.Common.{length-set, unwrap_or-slice_get, Machine, Mic1, Mic2, Mem, statement_of, BusView, Registers, Cycle, kept_of, CacheCounts}
use Rattle.cli_watchers.proofs.Common.{CacheKept, SaysNothing, access_at, access_in, accesses_by, accesses_of, after_access, after_cycle, all_counted, at_mar}
use Rattle.cli_watchers.proofs.Common.{at_pc, counts_of, has_room, kept_after, kept_of_cycles}
use Rattle.std.proofs.Math.ListN as lists
use Rattle.micro_word.specs.declared.statement.Mem.TheVariants as mems
use Rattle.mem_cache.specs.Prelude.{Access, Read, Write, Fetch, asks_for, hits_of, misses_of, Tally, after_asking, after_hit, after_miss, counted, empty_tally, has_block, AllLead, CacheView, answered}
use Rattle.cli_watchers.specs.declared.cache.WordAccess.{WordAccess}

-- ---- one access

-- an access after the end of the memory is not counted
pub read_past : (size at : ℕ) (t : Tally) → nat_lt at size ≡ false → counted size (Read at) t ≡ t
read_past size at t past = rw past refl

pub fetch_past : (size byte : ℕ) (t : Tally) → nat_lt (byte / 4) size ≡ false → counted size (Fetch byte) t ≡ t
fetch_past size byte t past = rw past refl

-- at most n more hits and misses together
pub record IsFew (n : ℕ) (t t' : Tally) : Type 0 where
  pub hits : t'.counts.hits ≤ t.counts.hits + n
  pub misses : t'.counts.misses ≤ t.counts.misses + n
  pub both : t'.counts.hits + t'.counts.misses ≤ t.counts.hits + t.counts.misses + n

few_by_block : (block : ℕ) (t : Tally) (held : Bool) → IsFew 1 t (if held then after_hit t else after_miss block t)
few_by_block block t true = record { hits = omega arith; misses = omega arith; both = omega arith }
few_by_block block t false = record { hits = omega arith; misses = omega arith; both = omega arith }

none_more : (t : Tally) → IsFew 1 t t
none_more t = record { hits = omega arith; misses = omega arith; both = omega arith }

few_by_asking : (asked : Option ℕ) (t : Tally) → IsFew 1 t (after_asking asked t)
few_by_asking None t = none_more t
few_by_asking (Some block) t = few_by_block block t (has_block t.held block)

few_at_mar : (size : ℕ) (mem : Mem) (mar : ℕ) (t : Tally) → IsFew 1 t (all_counted size (at_mar mem mar) t)
few_at_mar size mems.None mar t = none_more t
few_at_mar size mems.Read mar t = few_by_asking (asks_for size (Read mar)) t
few_at_mar size mems.Write mar t = few_by_asking (asks_for size (Write mar)) t

few_at_pc : (size : ℕ) (is_fetched : Bool) (pc : ℕ) (t : Tally) → IsFew 1 t (all_counted size (at_pc is_fetched pc) t)
few_at_pc size false pc t = none_more t
few_at_pc size true pc t = few_by_asking (asks_for size (Fetch pc)) t

-- ---- accesses one after the other

pub all_counted-append : (size : ℕ) (xs ys : List Access) (t : Tally) → all_counted size (xs ++ ys) t ≡ all_counted size ys (all_counted size xs t)
all_counted-append size [] ys t = refl
all_counted-append size (x ∷ xs) ys t = all_counted-append size xs ys (counted size x t)

-- ---- the room for a cycle

room_when : (c : CacheCounts) → c.hits + c.misses < 0x7FFF_FFFF_FFFF_FFFF → has_room c ≡ true
room_when c h =
    let hits : c.hits < 0x7FFF_FFFF_FFFF_FFFF = omega arith in
    let misses : c.misses < 0x7FFF_FFFF_FFFF_FFFF = omega arith in
    rw (lt-ltb c.hits 0x7FFF_FFFF_FFFF_FFFF hits, lt-ltb c.misses 0x7FFF_FFFF_FFFF_FFFF misses) refl

-- ---- the words of a control store

-- a word of zeros asks for nothing
idle : (machine : Machine) → record { mem = mems.None; fetch = false } ≡ access_in machine 0
unfolding statement_of
idle Mic1 = refl
idle Mic2 = refl

word_asks : (machine : Machine) (words : List ℕ) (address : ℕ) → access_at (map (access_in machine) words) address ≡ access_in machine (slice_index words address)
word_asks machine words address =
    unwrap_or-slice_get (map (access_in machine) words) address (record { mem = mems.None; fetch = false })
    ∙ (ap (λ (d : WordAccess). get_or (map (access_in machine) words) address d) (idle machine)
    ∙ lists.get_or-map (access_in machine) words address 0)

-- ---- a run

few_by_cycle : (size : ℕ) (access : WordAccess) (r : Registers) (t : Tally) → IsFew 2 t (all_counted size (accesses_by access r) t)
few_by_cycle size access r t =
    let mid : Tally = all_counted size (at_mar access.mem r.mar) t in
    let first : IsFew 1 t mid = few_at_mar size access.mem r.mar t in
    let second : IsFew 1 mid (all_counted size (at_pc access.fetch r.pc) mid) = few_at_pc size access.fetch r.pc mid in
    let both : IsFew 2 t (all_counted size (at_pc access.fetch r.pc) mid) =
    record { hits = omega (arith, first.hits, second.hits); misses = omega (arith, first.misses, second.misses); both = omega (arith, first.both, second.both) } in
    subst (IsFew 2 t) (sym (all_counted-append size (at_mar access.mem r.mar) (at_pc access.fetch r.pc) t)) both

-- a write makes no word more or less
same_size : (mem : Mem) (mar mdr : ℕ) (words : List ℕ) → length (after_access mem mar mdr words) ≡ length words
same_size mems.None mar mdr words = refl
same_size mems.Read mar mdr words = refl
same_size mems.Write mar mdr words = by (nat_lt mar (length words))
  where
    by : (b : Bool) → length (if b then slice_set words mar mdr else words) ≡ length words
    by true = length-set words mar mdr
    by false = refl

module _ (machine : Machine) (words : List ℕ) where
  abbrev kept_with : List ℕ → Tally → CacheKept
  kept_with memory t = record { accesses = map (access_in machine) words; words = memory; tally = t }

  abbrev access_of : Cycle → WordAccess
  access_of c = access_in machine (slice_index words c.mpc)

  with_room : (memory : List ℕ) (t : Tally) (c : Cycle) → has_room t.counts ≡ true →
      kept_after (kept_with memory t) c ≡ after_cycle (access_of c) c.registers (kept_with memory t)
  with_room memory t c room = rw room (ap (λ (a : WordAccess). after_cycle a c.registers (kept_with memory t)) (word_asks machine words c.mpc))

  -- the cycles of a run are counted one after the other
  all_cycles : (cs : List Cycle) (memory : List ℕ) (t : Tally) → t.counts.hits + t.counts.misses + 2 * length cs < 0x7FFF_FFFF_FFFF_FFFF →
      (kept_of kept_after SaysNothing (kept_with memory t) cs).tally ≡ all_counted (length memory) (accesses_of machine words cs) t
  all_cycles [] memory t h = refl
  all_cycles (c ∷ cs) memory t h =
      let access : WordAccess = access_of c in
      let next : Tally = all_counted (length memory) (accesses_by access c.registers) t in
      let written : List ℕ = after_access access.mem c.registers.mar c.registers.mdr memory in
      let few : IsFew 2 t next = few_by_cycle (length memory) access c.registers t in
      let room : has_room t.counts ≡ true = room_when t.counts (omega arith) in
      ap (λ (k : CacheKept). (kept_of kept_after SaysNothing k cs).tally) (with_room memory t c room)
      ∙ (all_cycles cs written next (omega (arith, few.both))
      ∙ (ap (λ (n : ℕ). all_counted n (accesses_of machine words cs) next) (same_size access.mem c.registers.mar c.registers.mdr memory)
      ∙ sym (all_counted-append (length memory) (accesses_by access c.registers) (accesses_of machine words cs) t)))

-- ---- accesses as calls of a cache that were answered

all_answered : (accesses : List Access) → answered (map (λ a. Some a) accesses) ≡ accesses
all_answered [] = refl
all_answered (a ∷ accesses) = ap (λ (more : List Access). a ∷ more) (all_answered accesses)

all_lead : (bus : BusView) (accesses : List Access) (t : Tally) →
    AllLead (map (λ a. Some a) accesses) (record { bus = bus; tally = t }) (record { bus = bus; tally = all_counted (length bus.words) accesses t })
all_lead bus [] t = refl
all_lead bus (a ∷ accesses) t =
    (record { bus = bus; tally = counted (length bus.words) a t }, (refl, refl), all_lead bus accesses (counted (length bus.words) a t))

-- the counts of a cache are those of the accesses that it answered
abbrev pub CountsAnswered : Type 0
CountsAnswered =
    (lines : ℕ) (calls : List (Option Access)) (first last : CacheView) → 0 < lines → first.tally ≡ empty_tally lines → AllLead calls first last →
    (last.tally.counts.hits ≡ hits_of lines (length first.bus.words) (answered calls))
    × (last.tally.counts.misses ≡ misses_of lines (length first.bus.words) (answered calls))

counts_all : CountsAnswered → (lines size : ℕ) (accesses : List Access) → 0 < lines →
    (all_counted size accesses (empty_tally lines)).counts ≡ counts_of lines size accesses
counts_all law lines size accesses some =
    let bus : BusView = record { words = replicate size 0; console = record { kept = []; ended = false } } in
    let long : length (replicate size 0) ≡ size = length-replicate size 0 in
    let t : ℕ → Tally = λ n. all_counted n accesses (empty_tally lines) in
    let is = law lines (map (λ a. Some a) accesses) (record { bus = bus; tally = empty_tally lines }) (record { bus = bus; tally = t (length bus.words) })
    some refl (all_lead bus accesses (empty_tally lines)) in
    let hits : (t (length bus.words)).counts.hits ≡ hits_of lines (length bus.words) accesses =
    is.0 ∙ ap (λ (more : List Access). hits_of lines (length bus.words) more) (all_answered accesses) in
    let misses : (t (length bus.words)).counts.misses ≡ misses_of lines (length bus.words) accesses =
    is.1 ∙ ap (λ (more : List Access). misses_of lines (length bus.words) more) (all_answered accesses) in
    let same : (t (length bus.words)).counts ≡ counts_of lines (length bus.words) accesses = λ i. record { hits = hits i; misses = misses i } in
    subst (λ (n : ℕ). (all_counted n accesses (empty_tally lines)).counts ≡ counts_of lines n accesses) long same

pub run_counted : CountsAnswered → (machine : Machine) (words : List ℕ) (lines : ℕ) (memory : List ℕ) (cs : List Cycle) → 0 < lines → length cs < 2 ^ 62 →
    (kept_of_cycles machine words lines memory cs).tally.counts ≡ counts_of lines (length memory) (accesses_of machine words cs)
run_counted law machine words lines memory cs some short =
    ap (λ (t : Tally). t.counts) (all_cycles machine words cs memory (empty_tally lines) (omega arith))
    ∙ counts_all law lines (length memory) (accesses_of machine words cs) some
