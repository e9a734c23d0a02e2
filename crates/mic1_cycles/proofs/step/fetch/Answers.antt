use Rattle.mic1_cycles.proofs.Common.{◌≡◌, ◌<◌, ◌/◌, nat_lt, ℕ, Bool, true, Some, List, length, sym, ◌∙◌, subst, arith, byte_in, ports_with, Write, IsFetched}
use Rattle.mic1_cycles.proofs.Common.{written_by, IsByteIn}
use Rattle.mic1_cycles.proofs.step.fetch.Goals as goal

is_below : (a b : ℕ) → nat_lt a b ≡ true → a < b
is_below a b h = grind (arith, h)

pub returns-clause-value : goal.returns-clause-value
returns-clause-value c s t pc writes e fits knows answered =
    let at = c.args.pc in
    let byte = c.in_ok-byte.byte in
    let inside : e.word at / 4 < length e.start.words = is_below (e.word at / 4) (length e.start.words) (c.in-Some.ensures e (c.in_ok-byte.ensures.grows e fits) knows answered ∙ c.if-not-fetchable.false) in
    let b : IsByteIn e (written_by e.word c.args.writes.now e.start.words) at byte = c.in_ok-byte.ensures.value e fits knows inside in
    let plain : e.word byte.plain ≡ byte_in (written_by e.word t.writes e.start.words) (e.word at) =
    subst (λ (ws : List Write). e.word byte.plain ≡ byte_in (written_by e.word ws e.start.words) (e.word at)) (sym writes) b.plain in
    let here : IsFetched e.word e.start true (ports_with (e.word s.mar) (e.word s.mdr) (e.word at)) t (Some byte) =
    (c.access_law.ensures e.word e.start).fetches (ports_with (e.word s.mar) (e.word s.mdr) (e.word at)) t byte inside plain b.signed in
    subst (λ (is : Bool). IsFetched e.word e.start is (ports_with (e.word s.mar) (e.word s.mdr) (e.word s.pc)) t (Some byte)) (sym c.if-not-is.false)
    (subst (λ (n : ℕ). IsFetched e.word e.start true (ports_with (e.word s.mar) (e.word s.mdr) (e.word n)) t (Some byte)) (sym pc) here)
