-- How the states of kept cycles change with the cycles and with the cursor.
use Rattle.std.proofs.Common.{◌≡◌, sym, ap, subst, refl, ℕ, zero, suc, List, [], ◌∷◌, ◌++◌, length, drop}
use Rattle.mic_rewind.proofs.Common.{Moment, Cycle, undone, redone, words_before, moment_before, states_before, states_after, Fits, LeadTo, LeadFrom}

pub words_before-snoc : (cs : List Cycle) (c : Cycle) (words : List ℕ) → words_before (cs ++ c ∷ []) words ≡ words_before cs (undone c.written words)
words_before-snoc [] c words = refl
words_before-snoc (d ∷ ds) c words = ap (λ (ws : List ℕ). undone d.written ws) (words_before-snoc ds c words)

pub moment_before-snoc : (cs : List Cycle) (c : Cycle) (m : Moment) → moment_before (cs ++ c ∷ []) m ≡ moment_before cs c.before
moment_before-snoc [] c m = refl
moment_before-snoc (d ∷ ds) c m = refl

pub states_before-snoc : (cs : List Cycle) (c : Cycle) (words : List ℕ) →
    states_before (cs ++ c ∷ []) words ≡ states_before cs (undone c.written words) ++ record { moment = c.before; words = undone c.written words } ∷ []
states_before-snoc [] c words = refl
states_before-snoc (d ∷ ds) c words = rw (words_before-snoc ds c words, states_before-snoc ds c words) refl

pub states_before-length : (cs : List Cycle) (words : List ℕ) → length (states_before cs words) ≡ length cs
states_before-length [] words = refl
states_before-length (c ∷ cs) words = ap suc (states_before-length cs words)

pub states_after-length : (cs : List Cycle) (words : List ℕ) → length (states_after cs words) ≡ length cs
states_after-length [] words = refl
states_after-length (c ∷ cs) words = ap suc (states_after-length cs (redone c.written words))

pub states_before-drop : (n : ℕ) (cs : List Cycle) (words : List ℕ) → states_before (drop n cs) words ≡ drop n (states_before cs words)
states_before-drop zero cs words = refl
states_before-drop (suc n) [] words = refl
states_before-drop (suc n) (c ∷ cs) words = states_before-drop n cs words

pub LeadTo-drop : (n : ℕ) (cs : List Cycle) (m : Moment) (words : List ℕ) → LeadTo cs m words → LeadTo (drop n cs) m words
LeadTo-drop zero cs m words h = h
LeadTo-drop (suc n) [] m words h = h
LeadTo-drop (suc n) (c ∷ cs) m words h = LeadTo-drop n cs m words h.1

-- the last cycle led here
pub LeadTo-last : (cs : List Cycle) (c : Cycle) (m : Moment) (words : List ℕ) → LeadTo (cs ++ c ∷ []) m words → Fits c c.before m (undone c.written words) words
LeadTo-last [] c m words h = h.0
LeadTo-last (d ∷ ds) c m words h = LeadTo-last ds c m words h.1

-- the cycles before the last one led to where it began
pub LeadTo-front : (cs : List Cycle) (c : Cycle) (m : Moment) (words : List ℕ) → LeadTo (cs ++ c ∷ []) m words → LeadTo cs c.before (undone c.written words)
LeadTo-front [] c m words h = tt
LeadTo-front (d ∷ ds) c m words h =
    let fits : Fits d d.before (moment_before ds c.before) (undone d.written (words_before ds (undone c.written words))) (words_before ds (undone c.written words)) =
    rw (← words_before-snoc ds c words, ← moment_before-snoc ds c m) h.0 in
    (fits, LeadTo-front ds c m words h.1)

pub LeadTo-snoc : (cs : List Cycle) (c : Cycle) (m : Moment) (words : List ℕ) →
    LeadTo cs c.before (undone c.written words) → Fits c c.before m (undone c.written words) words → LeadTo (cs ++ c ∷ []) m words
LeadTo-snoc [] c m words h f = (f, tt)
LeadTo-snoc (d ∷ ds) c m words h f =
    let fits : Fits d d.before (moment_before (ds ++ c ∷ []) m) (undone d.written (words_before (ds ++ c ∷ []) words)) (words_before (ds ++ c ∷ []) words) =
    rw (words_before-snoc ds c words, moment_before-snoc ds c m) h.0 in
    (fits, LeadTo-snoc ds c m words h.1 f)

-- a cursor after a cycle goes back over it
pub back-before : (p : List Cycle) (c : Cycle) (words : List ℕ) →
    states_before (p ++ c ∷ []) words ≡ states_before p (undone c.written words) ++ record { moment = c.before; words = undone c.written words } ∷ []
back-before p c words = states_before-snoc p c words

pub back-after : (f : List Cycle) (c : Cycle) (m : Moment) (words : List ℕ) → Fits c c.before m (undone c.written words) words →
    states_after (c ∷ f) (undone c.written words) ≡ record { moment = m; words = words } ∷ states_after f words
back-after f c m words h = rw (h.redoes, h.after_is) refl

pub back-leads : (f : List Cycle) (c : Cycle) (m : Moment) (words : List ℕ) → Fits c c.before m (undone c.written words) words →
    LeadFrom f m words → LeadFrom (c ∷ f) c.before (undone c.written words)
back-leads f c m words h l =
    let fits : Fits c c.before c.after (undone c.written words) (redone c.written (undone c.written words)) =
    subst (λ (x : Moment). Fits c c.before x (undone c.written words) (redone c.written (undone c.written words))) (sym h.after_is)
    (subst (λ (ws : List ℕ). Fits c c.before m (undone c.written words) ws) (sym h.redoes) h) in
    let rest : LeadFrom f c.after (redone c.written (undone c.written words)) =
    subst (λ (x : Moment). LeadFrom f x (redone c.written (undone c.written words))) (sym h.after_is) (subst (λ (ws : List ℕ). LeadFrom f m ws) (sym h.redoes) l) in
    (fits, rest)
