-- What the profiler counts step by step is what the run completed.
use Rattle.cli_watchers.proofs.Common.{◌≡◌, ◌∙◌, ℕ, zero, suc, ◌+◌, ◌<◌, ◌≤◌, ◌^◌, ◌==◌, ◌≢◌, get_or, Bool, true, false, if◌then◌else◌, List, [], ◌∷◌, ◌++◌}
use Rattle.cli_watchers.proofs.Common.{length, Option, Some, None, refl, sym, ap, subst, arith, slice_set, replicate, eqb-false, eqb-true, get_or-set_at}
use Rattle.cli_watchers.proofs.Common.{get_or-set_other, length-set, unwrap_or-slice_get, Boundary, End, completes, Cycle, kept_of, RowCount, Profile, Silent}
use Rattle.cli_watchers.proofs.Common.{boot_of, completed, more, no_tally, plus, profile_after, reached_at, row_at, start_profile, tallies_at, tally_at}
use Rattle.cli_watchers.proofs.Common.{AreClockedAfter, Completed, Reached, boot_cycles, boundaries_of, completed_from, completed_in, cut_cycles, cut_from}
use Rattle.cli_watchers.proofs.Common.{cycles_of, end_after, of_row, reached_by, tally_of}

-- ---- the steps, as a list of completed instructions

-- the instructions are added one after the other
abbrev added : List ℕ → List RowCount → List Completed → List RowCount
added rows ts [] = ts
added rows ts (i ∷ is) = added rows (slice_set ts (row_at rows i.at) (more i.cycles (tally_at ts (row_at rows i.at)))) is

abbrev point : Boundary → Reached
point b = record { at = b.at; cycles = b.cycles }

abbrev standing : List ℕ → ℕ → Option Boundary → List RowCount → Profile
standing rows boot last ts = record { rows = rows; boot = boot; last = last; tallies = ts }

abbrev after : Profile → List Cycle → Profile
after p cs = kept_of profile_after Silent p cs

module _ (rows : List ℕ) (e : End) (all : ℕ) where
  ended_from : (t : Bool) (b : Boundary) (ts : List RowCount) →
      (if t then completed rows ts (Some b) all else ts) ≡ added rows ts (completed_from (point b) [] (if t then Some all else None))
  ended_from true b ts = refl
  ended_from false b ts = refl

  ended_in : (t : Bool) (ts : List RowCount) → (if t then completed rows ts None all else ts) ≡ ts
  ended_in true ts = refl
  ended_in false ts = refl

  -- from a boundary on
  counted_from : (cs : List Cycle) (n boot : ℕ) (b : Boundary) (ts : List RowCount) → AreClockedAfter n cs →
      tallies_at (after (standing rows boot (Some b) ts) cs) e all ≡ added rows ts (completed_from (point b) (boundaries_of cs) (end_after e all))
  counted_from [] n boot b ts are = ended_from (completes e) b ts
  counted_from (c ∷ cs) n boot b ts are = by (λ boot b ts. counted_from cs (n + 1) boot b ts are.1) c.boundary refl
    where
      by : ((boot : ℕ) (b : Boundary) (ts : List RowCount) →
          tallies_at (after (standing rows boot (Some b) ts) cs) e all ≡ added rows ts (completed_from (point b) (boundaries_of cs) (end_after e all))) →
          (o : Option ℕ) → c.boundary ≡ o →
          tallies_at (after (reached_at o (standing rows boot (Some b) ts) c.counts) cs) e all
          ≡ added rows ts (completed_from (point b) (reached_by o c.counts.cycles ++ boundaries_of cs) (end_after e all))
      by rest None is = rest boot b ts
      by rest (Some at) is =
          let near = are.0.reached at is in
          let next : point near.0 ≡ record { at = at; cycles = c.counts.cycles } = λ i. record { at = near.2 i; cycles = near.3 i } in
          let ts' : List RowCount = completed rows ts (Some b) c.counts.cycles in
          ap (λ (o : Option Boundary). tallies_at (after (standing rows boot o ts') cs) e all) near.1
          ∙ rest boot near.0 ts'
          ∙ ap (λ (r : Reached). added rows ts' (completed_from r (boundaries_of cs) (end_after e all))) next

  -- from the start on
  counted_in : (cs : List Cycle) (n : ℕ) (ts : List RowCount) → AreClockedAfter n cs →
      tallies_at (after (standing rows 0 None ts) cs) e all ≡ added rows ts (completed_in (boundaries_of cs) (end_after e all))
  counted_in [] n ts are = ended_in (completes e) ts
  counted_in (c ∷ cs) n ts are = by (counted_in cs (n + 1) ts are.1) c.boundary refl
    where
      by : tallies_at (after (standing rows 0 None ts) cs) e all ≡ added rows ts (completed_in (boundaries_of cs) (end_after e all)) → (o : Option ℕ) → c.boundary ≡ o →
          tallies_at (after (reached_at o (standing rows 0 None ts) c.counts) cs) e all
          ≡ added rows ts (completed_in (reached_by o c.counts.cycles ++ boundaries_of cs) (end_after e all))
      by rest None is = rest
      by rest (Some at) is =
          let near = are.0.reached at is in
          let next : point near.0 ≡ record { at = at; cycles = c.counts.cycles } = λ i. record { at = near.2 i; cycles = near.3 i } in
          ap (λ (o : Option Boundary). tallies_at (after (standing rows c.counts.cycles o ts) cs) e all) near.1
          ∙ counted_from cs (n + 1) c.counts.cycles near.0 ts are.1
          ∙ ap (λ (r : Reached). added rows ts (completed_from r (boundaries_of cs) (end_after e all))) next

-- ---- the boot

module _ (rows : List ℕ) (all : ℕ) where
  boot_from : (cs : List Cycle) (n boot : ℕ) (b : Boundary) (ts : List RowCount) → AreClockedAfter n cs →
      boot_of (after (standing rows boot (Some b) ts) cs).last (after (standing rows boot (Some b) ts) cs).boot all ≡ boot
  boot_from [] n boot b ts are = refl
  boot_from (c ∷ cs) n boot b ts are = by (λ b ts. boot_from cs (n + 1) boot b ts are.1) c.boundary refl
    where
      by : ((b : Boundary) (ts : List RowCount) → boot_of (after (standing rows boot (Some b) ts) cs).last (after (standing rows boot (Some b) ts) cs).boot all ≡ boot) →
          (o : Option ℕ) → c.boundary ≡ o →
          boot_of (after (reached_at o (standing rows boot (Some b) ts) c.counts) cs).last (after (reached_at o (standing rows boot (Some b) ts) c.counts) cs).boot all ≡ boot
      by rest None is = rest b ts
      by rest (Some at) is =
          let near = are.0.reached at is in
          let ts' : List RowCount = completed rows ts (Some b) c.counts.cycles in
          ap (λ (o : Option Boundary). boot_of (after (standing rows boot o ts') cs).last (after (standing rows boot o ts') cs).boot all) near.1
          ∙ rest near.0 ts'

  pub boot_in : (cs : List Cycle) (n : ℕ) (ts : List RowCount) → AreClockedAfter n cs →
      boot_of (after (standing rows 0 None ts) cs).last (after (standing rows 0 None ts) cs).boot all ≡ boot_cycles (boundaries_of cs) all
  boot_in [] n ts are = refl
  boot_in (c ∷ cs) n ts are = by (boot_in cs (n + 1) ts are.1) c.boundary refl
    where
      by : boot_of (after (standing rows 0 None ts) cs).last (after (standing rows 0 None ts) cs).boot all ≡ boot_cycles (boundaries_of cs) all → (o : Option ℕ) → c.boundary ≡ o →
          boot_of (after (reached_at o (standing rows 0 None ts) c.counts) cs).last (after (reached_at o (standing rows 0 None ts) c.counts) cs).boot all
          ≡ boot_cycles (reached_by o c.counts.cycles ++ boundaries_of cs) all
      by rest None is = rest
      by rest (Some at) is =
          let near = are.0.reached at is in
          ap (λ (o : Option Boundary). boot_of (after (standing rows c.counts.cycles o ts) cs).last (after (standing rows c.counts.cycles o ts) cs).boot all) near.1
          ∙ boot_from cs (n + 1) c.counts.cycles near.0 ts are.1

-- ---- all cycles

module _ (t : Bool) (all : ℕ) where
  abbrev end : Option ℕ
  end = if t then Some all else None

  last_from : (o : Bool) (r : Reached) → r.cycles ≤ all →
      r.cycles + cycles_of (completed_from r [] (if o then Some all else None)) + cut_from r [] (if o then Some all else None) all ≡ all
  last_from true r le = omega arith
  last_from false r le = omega arith

  all_from : (cs : List Cycle) (n : ℕ) (r : Reached) → AreClockedAfter n cs → r.cycles ≤ n → n + length cs ≡ all →
      r.cycles + cycles_of (completed_from r (boundaries_of cs) end) + cut_from r (boundaries_of cs) end all ≡ all
  all_from [] n r are le is = last_from t r (omega arith)
  all_from (c ∷ cs) n r are le is = by (λ r le. all_from cs (n + 1) r are.1 le (omega arith)) c.boundary refl
    where
      by : ((r : Reached) → r.cycles ≤ n + 1 → r.cycles + cycles_of (completed_from r (boundaries_of cs) end) + cut_from r (boundaries_of cs) end all ≡ all) →
          (o : Option ℕ) → c.boundary ≡ o →
          r.cycles + cycles_of (completed_from r (reached_by o c.counts.cycles ++ boundaries_of cs) end) + cut_from r (reached_by o c.counts.cycles ++ boundaries_of cs) end all ≡ all
      by rest None here = rest r (omega (arith, le))
      by rest (Some at) here =
          let next : Reached = record { at = at; cycles = c.counts.cycles } in
          let count = are.0.count in
          let far = rest next (omega (arith, count)) in
          omega (arith, far, count, le)

  pub all_in : (cs : List Cycle) (n : ℕ) → AreClockedAfter n cs → n + length cs ≡ all →
      boot_cycles (boundaries_of cs) all + cycles_of (completed_in (boundaries_of cs) end) + cut_cycles (boundaries_of cs) end all ≡ all
  all_in [] n are is = omega arith
  all_in (c ∷ cs) n are is = by (all_in cs (n + 1) are.1 (omega arith)) c.boundary refl
    where
      by : boot_cycles (boundaries_of cs) all + cycles_of (completed_in (boundaries_of cs) end) + cut_cycles (boundaries_of cs) end all ≡ all → (o : Option ℕ) → c.boundary ≡ o →
          boot_cycles (reached_by o c.counts.cycles ++ boundaries_of cs) all + cycles_of (completed_in (reached_by o c.counts.cycles ++ boundaries_of cs) end)
          + cut_cycles (reached_by o c.counts.cycles ++ boundaries_of cs) end all ≡ all
      by rest None here = rest
      by rest (Some at) here =
          let count = are.0.count in
          all_from cs (n + 1) (record { at = at; cycles = c.counts.cycles }) are.1 (omega arith) (omega arith)

  -- at most one more instruction is completed than cycles are clocked
  few_from : (cs : List Cycle) (r : Reached) → length (completed_from r (boundaries_of cs) end) ≤ length cs + 1
  few_from [] r = last t
    where
      last : (o : Bool) → length (completed_from r [] (if o then Some all else None)) ≤ 1
      last true = omega arith
      last false = omega arith
  few_from (c ∷ cs) r = by (few_from cs) c.boundary
    where
      by : ((r : Reached) → length (completed_from r (boundaries_of cs) end) ≤ length cs + 1) → (o : Option ℕ) → length (completed_from r (reached_by o c.counts.cycles ++ boundaries_of cs) end) ≤ length (c ∷ cs) + 1
      by rest None = let far = rest r in omega (arith, far)
      by rest (Some at) = let far = rest (record { at = at; cycles = c.counts.cycles }) in omega (arith, far)

  pub few_in : (cs : List Cycle) → length (completed_in (boundaries_of cs) end) ≤ length cs + 1
  few_in [] = omega arith
  few_in (c ∷ cs) = by (few_in cs) c.boundary
    where
      by : length (completed_in (boundaries_of cs) end) ≤ length cs + 1 → (o : Option ℕ) → length (completed_in (reached_by o c.counts.cycles ++ boundaries_of cs) end) ≤ length (c ∷ cs) + 1
      by rest None = omega (arith, rest)
      by rest (Some at) = let far = few_from cs (record { at = at; cycles = c.counts.cycles }) in omega (arith, far)

-- ---- one row

tally_is : (ts : List RowCount) (row : ℕ) → tally_at ts row ≡ get_or ts row no_tally
tally_is ts row = unwrap_or-slice_get ts row no_tally

-- a tally of this many more instructions and cycles
abbrev grown : RowCount → ℕ → ℕ → RowCount
grown t count cycles = record { count = t.count + count; cycles = t.cycles + cycles }

-- neither count comes to the end of its type
pub record HasRoom (t : RowCount) (is : List Completed) : Type 0 where
  pub counts : t.count + length is < 2 ^ 64
  pub cycles : t.cycles + cycles_of is < 2 ^ 64

plus_is : (a b : ℕ) → a + b < 2 ^ 64 → plus a b ≡ a + b
plus_is a b less = omega arith

-- one more instruction, before others of which this is known
module _ (rows : List ℕ) (row : ℕ) (one : Completed) (is : List Completed) (ts : List RowCount) (inside : row < length ts) (room : HasRoom (tally_at ts row) (one ∷ is)) where
  abbrev place : ℕ
  place = row_at rows one.at

  abbrev old : RowCount
  old = tally_at ts row

  abbrev next : List RowCount
  next = slice_set ts place (more one.cycles (tally_at ts place))

  abbrev chosen : Bool → List Completed
  chosen t = if t then one ∷ of_row rows row is else of_row rows row is

  next_inside : row < length next
  next_inside = let long : length next ≡ length ts = length-set ts place (more one.cycles (tally_at ts place)) in omega (arith, long, inside)

  tally_next : ((row < length next) → HasRoom (tally_at next row) is →
      tally_at (added rows next is) row ≡ grown (tally_at next row) (length (of_row rows row is)) (cycles_of (of_row rows row is))) →
      (t : Bool) → (place == row) ≡ t → tally_at (added rows next is) row ≡ grown old (length (chosen t)) (cycles_of (chosen t))
  tally_next rest true is_row =
      let same : place ≡ row = eqb-true place row is_row in
      let now : tally_at next row ≡ more one.cycles old =
      tally_is next row ∙ get_or-set_at ts place row (more one.cycles (tally_at ts place)) no_tally (sym same) (omega (arith, same, inside))
      ∙ ap (λ (k : ℕ). more one.cycles (tally_at ts k)) same in
      let counts : old.count + suc (length is) < 2 ^ 64 = room.counts in
      let cycles : old.cycles + (one.cycles + cycles_of is) < 2 ^ 64 = room.cycles in
      let count_more : plus old.count 1 ≡ old.count + 1 = plus_is old.count 1 (omega (arith, counts)) in
      let cycles_more : plus old.cycles one.cycles ≡ old.cycles + one.cycles = plus_is old.cycles one.cycles (omega (arith, cycles)) in
      let grows : tally_at next row ≡ grown old 1 one.cycles = now ∙ (λ i. record { count = count_more i; cycles = cycles_more i }) in
      let l : ℕ = length (of_row rows row is) in
      let c : ℕ = cycles_of (of_row rows row is) in
      let one_more : old.count + 1 + l ≡ old.count + suc l = omega arith in
      let sum_more : old.cycles + one.cycles + c ≡ old.cycles + (one.cycles + c) = omega arith in
      rest next_inside (subst (λ (t : RowCount). HasRoom t is) (sym grows) (record { counts = omega (arith, counts); cycles = omega (arith, cycles) }))
      ∙ ap (λ (t : RowCount). grown t l c) grows ∙ (λ i. record { count = one_more i; cycles = sum_more i })
  tally_next rest false is_row =
      let wrong = eqb-false place row is_row in
      let other : row ≢ place = λ e. wrong (sym e) in
      let same : tally_at next row ≡ old = tally_is next row ∙ get_or-set_other ts place row (more one.cycles (tally_at ts place)) no_tally other ∙ sym (tally_is ts row) in
      let counts : old.count + suc (length is) < 2 ^ 64 = room.counts in
      let cycles : old.cycles + (one.cycles + cycles_of is) < 2 ^ 64 = room.cycles in
      rest next_inside (subst (λ (t : RowCount). HasRoom t is) (sym same) (record { counts = omega (arith, counts); cycles = omega (arith, cycles) }))
      ∙ ap (λ (t : RowCount). grown t (length (of_row rows row is)) (cycles_of (of_row rows row is))) same

tally_added : (rows : List ℕ) (row : ℕ) (is : List Completed) (ts : List RowCount) → row < length ts → HasRoom (tally_at ts row) is →
    tally_at (added rows ts is) row ≡ grown (tally_at ts row) (length (of_row rows row is)) (cycles_of (of_row rows row is))
tally_added rows row [] ts inside room =
    let count : (tally_at ts row).count ≡ (tally_at ts row).count + 0 = omega arith in
    let cycles : (tally_at ts row).cycles ≡ (tally_at ts row).cycles + 0 = omega arith in
    λ i. record { count = count i; cycles = cycles i }
tally_added rows row (one ∷ is) ts inside room =
    tally_next rows row one is ts inside room (tally_added rows row is (slice_set ts (row_at rows one.at) (more one.cycles (tally_at ts (row_at rows one.at)))))
    (row_at rows one.at == row) refl

none_at : (n k : ℕ) → get_or (replicate n no_tally) k no_tally ≡ no_tally
none_at zero k = refl
none_at (suc n) zero = refl
none_at (suc n) (suc k) = none_at n k

pub row_counted : (rows : List ℕ) (cs : List Cycle) (e : End) (row : ℕ) → AreClockedAfter 0 cs → length cs < 2 ^ 63 → row < 27 →
    tally_at (tallies_at (after (start_profile rows) cs) e (length cs)) row ≡ tally_of rows row (completed_in (boundaries_of cs) (end_after e (length cs)))
row_counted rows cs e row are few inside =
    let ts : List RowCount = replicate 27 no_tally in
    let is : List Completed = completed_in (boundaries_of cs) (end_after e (length cs)) in
    let none : tally_at ts row ≡ no_tally = tally_is ts row ∙ none_at 27 row in
    let many = few_in (completes e) (length cs) cs in
    let whole = all_in (completes e) (length cs) cs 0 are (omega arith) in
    let room : HasRoom no_tally is = record { counts = omega (arith, many, few); cycles = omega (arith, whole, few) } in
    let count : 0 + length (of_row rows row is) ≡ length (of_row rows row is) = omega arith in
    let cycles : 0 + cycles_of (of_row rows row is) ≡ cycles_of (of_row rows row is) = omega arith in
    ap (λ (t : List RowCount). tally_at t row) (counted_in rows e (length cs) cs 0 ts are)
    ∙ tally_added rows row is ts inside (subst (λ (t : RowCount). HasRoom t is) (sym none) room)
    ∙ ap (λ (t : RowCount). grown t (length (of_row rows row is)) (cycles_of (of_row rows row is))) none
    ∙ (λ i. record { count = count i; cycles = cycles i })
