-- What the first store's law says of the second.
use Rattle.mic1_checks.proofs.Common.{◌≡◌, ℕ, ◌+◌, ◌==◌, ◌<◌, true, false, Option, Some, None, List, [], ◌∷◌, length, refl, sym, ap, ◌∙◌, subst, arith, drop}
use Rattle.mic1_checks.proofs.Common.{◌++◌, unwrap_or, arrived, Byte, IsReadyOrArriving, World, StackLimit, Outcome, Refused, Micro, mic1_meaning, IsReady}
use Rattle.mic1_checks.proofs.Common.{State, base, frames_of, Origin, IsAt, FramesStand, IsMemory, IsTop, RegistersStand, Moment, is_inside, outcome_at}
use Rattle.mic1_checks.proofs.Common.{Environment, given_by, Path, refusal_of, OutOfMap as Out, moment, Operands, AreLeft, AreAlike, Transfers, TransfersLimits}
use Rattle.mic1_checks.proofs.Common.{OneEnd}
use Rattle.console_port.specs.Prelude.{OutOfMap}
use Rattle.mic1_cycles.specs.Prelude.{byte_in as byte_symbol}
use Rattle.mic1_checks.proofs.Passes.{Same, only, only_refused, not_both}

-- where MPC is the entry, no pass goes on
at_entry : (m : Micro) → m.mpc ≡ m.entry → m.clocked ≡ true → is_inside mic1_meaning m ≡ false
at_entry m e on =
    let t : (m.mpc == m.entry) ≡ true = grind (arith, e) in
    rw on (rw t refl)

-- the byte that MBR has once what is under way has arrived
came : (word : ℕ → ℕ) (o : Option Byte) (b : Byte) → arrived (byte_symbol word o) (word b.plain) ≡ word (unwrap_or o b).plain
came word None b = refl
came word (Some n) b = refl

-- where there is no operand, TOS is free
another_top : (x y : ℕ) (ys : List ℕ) → (0 < length ys → x ≡ y) → IsTop x ys → IsTop y ys
another_top x y [] same top = top
another_top x y (z ∷ zs) same top = sym (same (omega arith)) ∙ top

-- registers with the same words stand for the same state, and TOS where it is the last operand
alike_stand : (o : Origin) (s : State) (sp sp' lv lv' cpp cpp' tos tos' : ℕ) (w w' : World) → sp ≡ sp' → lv ≡ lv' → cpp ≡ cpp' → w ≡ w' →
    IsTop tos' s.running.operands → RegistersStand o s sp lv cpp tos w → RegistersStand o s sp' lv' cpp' tos' w'
alike_stand o s sp sp' lv lv' cpp cpp' tos tos' w w' is_sp is_lv is_cpp is_world top h =
    record {
      sp_is = ap (λ (x : ℕ). x + 1) (sym is_sp) ∙ h.sp_is;
      lv_is = sym is_lv ∙ h.lv_is;
      cpp_is = sym is_cpp ∙ h.cpp_is;
      tos_is = top;
      frames = subst (λ (v : World). FramesStand v.words (frames_of s)) is_world h.frames;
      memory = subst (λ (v : World). IsMemory o.words v.words) is_world h.memory;
      fits = h.fits;
      untaken = ap (λ (v : World). v.untaken) (sym is_world) ∙ h.untaken;
      given = ap (λ (v : World). v.given) (sym is_world) ∙ h.given;
    }

module _ (o : Origin) (stalls entry entry' : ℕ) (e : Environment) (operands : Operands) (last last' : Path) (s : State)
    (a : AreAlike e entry entry' operands last last') (left : AreLeft e operands s) where
  same_world : (moment e stalls entry last).world ≡ (moment e stalls entry' last').world
  same_world = λ i.
      record {
        words = a.writes e.start.words i;
        untaken = drop (a.taken i) e.start.untaken;
        given = e.start.given ++ given_by e.word (a.given i);
      }

  stands : IsAt mic1_meaning IsReady entry o s (moment e stalls entry last).state (moment e stalls entry last).world →
      IsAt mic1_meaning IsReadyOrArriving entry' o s (moment e stalls entry' last').state (moment e stalls entry' last').world
  stands h =
      let sp : e.word last.symbols.sp + 1 ≡ base (frames_of s) = h.holds.sp_is in
      let top : IsTop (e.word last'.symbols.tos) s.running.operands =
      another_top (e.word last.symbols.tos) (e.word last'.symbols.tos) s.running.operands
      (λ some. a.tos s (record { left = left; some = some; sp = sp })) h.holds.tos_is in
      record {
        holds = alike_stand o s _ _ _ _ _ _ _ _ _ _ (ap e.word a.sp) (ap e.word a.lv) (ap e.word a.cpp) same_world top h.holds;
        ready = record {
          pc = ap e.word (sym a.pc) ∙ h.ready.pc;
          opcode = came e.word last'.symbols.byte last'.symbols.mbr ∙ (ap e.word (sym a.opcode) ∙ h.ready.mbr);
          mpc = a.mpc';
          entry = refl;
          clocked = refl;
        };
      }

pub transfers : Transfers
transfers = λ store store' before o stalls entry entry' n n' spent e operands first first' last last' to l left h.
    let inside : is_inside mic1_meaning h.there.state ≡ false = at_entry h.there.state h.stands.ready.mpc h.stands.ready.clocked in
    let inside' : is_inside mic1_meaning (moment e stalls entry last).state ≡ false = at_entry (moment e stalls entry last).state l.alike.mpc refl in
    let same : Same mic1_meaning store h.n n h.there (moment e stalls entry last) =
    only mic1_meaning store h.n n (moment e stalls entry first) h.there (moment e stalls entry last) h.passes l.passes inside inside' in
    let there : IsAt mic1_meaning IsReady entry o to (moment e stalls entry last).state (moment e stalls entry last).world =
    subst (λ (t : Moment Micro). IsAt mic1_meaning IsReady entry o to t.state t.world) same.there h.stands in
    record {
      spent_is = h.spent_is ∙ ap (λ (k : ℕ). k + 1) same.count;
      moves = record {
        n = n';
        spent_is = refl;
        short = l.short;
        begins = record { no_halt = l.begins.no_halt; no_err = l.begins.no_err };
        there = moment e stalls entry' last';
        passes = l.passes';
        stands = stands o stalls entry entry' e operands last last' to l.alike left there;
      };
      words = l.words;
    }

pub transfers_limits : TransfersLimits
transfers_limits = λ store store' before o stalls entry entry' n n' e first first' last last' left l h.
    let same : Same mic1_meaning store h.n n h.there (moment e stalls entry last) =
    only_refused mic1_meaning store h.n n (moment e stalls entry first) h.there (moment e stalls entry last) (StackLimit h.at)
    (StackLimit l.stops.at) h.passes l.stops.passes h.refused l.stops.refused in
    record {
      n = n';
      short = l.short;
      begins = record { no_halt = l.begins.no_halt; no_err = l.begins.no_err };
      there = moment e stalls entry' last';
      passes = l.stops'.passes;
      inside = l.stops'.inside;
      at = l.stops'.at;
      refused = l.stops'.refused;
      untaken = ap (λ (k : ℕ). drop k e.start.untaken) (sym l.taken) ∙ (ap (λ (t : Moment Micro). t.world.untaken) (sym same.there) ∙ h.untaken);
      given = ap (λ (vs : List ℕ). e.start.given ++ given_by e.word vs) (sym l.given) ∙ (ap (λ (t : Moment Micro). t.world.given) (sym same.there) ∙ h.given);
    }

-- a refusal for one reason is none for another
other_reason : (a b : ℕ) (o : Outcome Micro) → o ≡ Refused (StackLimit a) → o ≡ Refused (OutOfMap b) → ⊥
other_reason a b o h h' = cc

pub one_end : OneEnd
one_end = record {
  no_limit = λ store store' before o stalls entry entry' n n' e operands first first' last last' left l h.
      let inside : is_inside mic1_meaning (moment e stalls entry last).state ≡ false = at_entry (moment e stalls entry last).state l.alike.mpc refl in
      not_both mic1_meaning store n h.n (moment e stalls entry first) (moment e stalls entry last) h.there (StackLimit h.at) l.passes inside
      h.passes h.inside h.refused;
  no_boundary = λ store before o stalls entry n spent e why first last to l h.
      let inside : is_inside mic1_meaning h.there.state ≡ false = at_entry h.there.state h.stands.ready.mpc h.stands.ready.clocked in
      not_both mic1_meaning store h.n n (moment e stalls entry first) h.there (moment e stalls entry last) (refusal_of why l.at) h.passes inside
      l.passes l.inside l.refused;
  out_of_map = λ store before o stalls entry n e first last left l h.
      let same : Same mic1_meaning store h.n n h.there (moment e stalls entry last) =
      only_refused mic1_meaning store h.n n (moment e stalls entry first) h.there (moment e stalls entry last) (StackLimit h.at)
      (refusal_of Out l.at) h.passes l.passes h.refused l.refused in
      other_reason h.at l.at (outcome_at mic1_meaning store (moment e stalls entry last))
      (ap (λ (q : Moment Micro). outcome_at mic1_meaning store q) (sym same.there) ∙ h.refused) l.refused;
}
