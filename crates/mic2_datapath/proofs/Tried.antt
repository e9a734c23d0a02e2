-- An edge that needs no source and no sink, which is done or refused.
use Rattle.mic2_datapath.proofs.Common.{◌≡◌, ℕ, Bool, List, Option, None, Result, Ok, Err, ⊤, OnErr, is_ok, BusView, IsEdge, IsTried, mic2_meaning, Micro}
use Rattle.console_port.specs.declared.fault.BusFault.{BusFault}

pub tried : (word : ℕ) (m m' : Micro) (bus bus' : BusView) (r : Result ⊤ BusFault) (done : Bool) → done ≡ is_ok r →
    ((left held : Option (List ℕ)) → IsEdge mic2_meaning word m left held bus {T = ⊤} m' left held bus' r) →
    bus'.console.ended ≡ bus.console.ended → OnErr r (bus' ≡ bus) → IsTried mic2_meaning word m bus m' bus' done
tried word m m' bus bus' (Ok x) done is edge ended same =
    record { edge = λ yes. edge; ended = ended; none = λ no. absurd (cc) }
tried word m m' bus bus' (Err e) done is edge ended same =
    record { edge = λ yes. absurd (cc); ended = ended; none = λ no. ((edge None None).state, same) }
