-- An edge that reaches no console.
use Rattle.mic1_datapath.proofs.Common.{◌≡◌, ℕ, List, Option, refl, sym, subst, World, BusView, ConsoleView, Untaken, Given, Shows, IsLed}

-- what leads each shown world to the same with the new words
pub led_inside : (left held : Option (List ℕ)) (bus bus' : BusView) → bus'.console ≡ bus.console → (leads : World → World → Type 0) →
    ((w : World) → Shows left held bus w → leads w (record w { words = bus'.words })) → IsLed left held bus left held bus' leads
led_inside left held bus bus' console leads f rest fits = (
  rest,
  subst (λ (k : ConsoleView). Untaken left k.ended rest) console fits,
  λ w shows same. (
    record w { words = bus'.words },
    f w shows,
    record {
      words = refl;
      untaken = subst (λ (k : ConsoleView). Untaken left k.ended w.untaken) (sym console) shows.untaken;
      given = subst (λ (k : ConsoleView). Given held k.kept w.given) (sym console) shows.given;
    },
    same,
  ),
)
