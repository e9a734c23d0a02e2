-- What a machine shows at a boundary.
use Rattle.mic1_checks.proofs.Common.{◌≡◌, ℕ, true, List, arith, nat_tests, World, State, Micro, mic1_meaning, Origin, IsAt, ShowsState, IsReadyOrArriving}

pub shown : (store : List ℕ) (entry : ℕ) (o : Origin) (s : State) (m : Micro) (w : World) → IsAt mic1_meaning IsReadyOrArriving entry o s m w →
    ShowsState mic1_meaning store (IsAt mic1_meaning IsReadyOrArriving entry o) o.given s m w
shown store entry o s m w h =
    record {
      boundary = let e : m.mpc ≡ m.entry = h.ready.mpc in let on : m.clocked ≡ true = h.ready.clocked in rw on (grind (arith, nat_tests));
      address = h.ready.pc;
      sp = omega (arith, h.holds.sp_is);
      lv = h.holds.lv_is;
      untaken = h.holds.untaken;
      given = h.holds.given;
    }
