-- Kept cycles with where each of them began.
use Rattle.std.proofs.Common.{◌≡◌, ap, refl, ℕ, zero, suc, List, [], ◌∷◌, ◌++◌, length, take, drop, arith, Some}
use Rattle.mic_rewind.proofs.Common.{common_steps, slice_get, KeptCycle, Moment, Cycle, begun, cycles_from, led_from}

pub begun-length : (m : Moment) (cs : List KeptCycle) → length (cycles_from m cs) ≡ length cs
begun-length m [] = refl
begun-length m (c ∷ cs) = ap suc (begun-length c.after cs)

pub begun-get : (m : Moment) (cs : List KeptCycle) (k : ℕ) (c : KeptCycle) → slice_get cs k ≡ Some c → slice_get (cycles_from m cs) k ≡ Some (begun (led_from m (take k cs)) c)
begun-get m [] k c h = grind (arith, common_steps)
begun-get m (d ∷ ds) zero c h = grind (arith, common_steps)
begun-get m (d ∷ ds) (suc k) c h = begun-get d.after ds k c h

pub led-get : (m : Moment) (cs : List KeptCycle) (k : ℕ) (c : KeptCycle) → slice_get cs k ≡ Some c → led_from m (take (suc k) cs) ≡ c.after
led-get m [] k c h = grind (arith, common_steps)
led-get m (d ∷ ds) zero c h = grind (arith, common_steps)
led-get m (d ∷ ds) (suc k) c h = led-get d.after ds k c h

pub begun-snoc : (m : Moment) (cs : List KeptCycle) (c : KeptCycle) → cycles_from m (cs ++ c ∷ []) ≡ cycles_from m cs ++ begun (led_from m cs) c ∷ []
begun-snoc m [] c = refl
begun-snoc m (d ∷ ds) c = ap (λ (xs : List Cycle). begun m d ∷ xs) (begun-snoc d.after ds c)

pub led-snoc : (m : Moment) (cs : List KeptCycle) (c : KeptCycle) → led_from m (cs ++ c ∷ []) ≡ c.after
led-snoc m [] c = refl
led-snoc m (d ∷ ds) c = led-snoc d.after ds c

pub begun-drop : (n : ℕ) (m : Moment) (cs : List KeptCycle) → cycles_from (led_from m (take n cs)) (drop n cs) ≡ drop n (cycles_from m cs)
begun-drop zero m cs = refl
begun-drop (suc n) m [] = refl
begun-drop (suc n) m (c ∷ cs) = begun-drop n c.after cs

pub led-drop : (n : ℕ) (m : Moment) (cs : List KeptCycle) → led_from (led_from m (take n cs)) (drop n cs) ≡ led_from m cs
led-drop zero m cs = refl
led-drop (suc n) m [] = refl
led-drop (suc n) m (c ∷ cs) = led-drop n c.after cs
