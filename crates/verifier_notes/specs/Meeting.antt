-- An instruction meets its note where it finds what its row names, and leads to notes that suit.
use Rattle.std.proofs.Common.{◌≡◌, ◌≢◌, ◌<◌, ◌≤◌, ◌⊎◌, inl, inr, ℕ, ℤ, suc, zero, ◌+◌, Bool, true, false, if◌then◌else◌, List, [], ◌∷◌, length, Option}
use Rattle.std.proofs.Common.{Some, None, refl, sym, ap, ◌∙◌, subst, arith, lt-ltb, slice_get}
use Rattle.verifier_notes.specs.Common.{option_map, Instr, Flow, row_of, size_of, target, ImageView, params, others, Method, GoesOn, HasConstant, need_by}
use Rattle.verifier_notes.specs.Common.{ways_of}
use Rattle.ijvm_instr.specs.declared.row.Row.{Row}
use Rattle.ijvm_instr.specs.declared.row.Flow.TheVariants as flows
use Rattle.verifier_notes.specs.Noted.{Note, FindsMethod, LeadsOn}
use Rattle.verifier_notes.specs.Listed.{note_at}
use Rattle.verifier_notes.specs.Scenes.{Locals, Scene, Suits, IsAt, MetWith, There, at_depth, next_depth, note_with, takes, takes_by}

pub in_pool : (xs : List ℕ) (k n : ℕ) → slice_get xs k ≡ Some n → k < length xs
in_pool [] k n h = cc
in_pool (x ∷ xs) zero n h = omega arith
in_pool (x ∷ xs) (suc k) n h = omega (arith, in_pool xs k n h)

-- what a call names begins as a method
abbrev pub FindsCall : ImageView → (ℕ → Option Note) → Option ℕ → Type 0
FindsCall image note None = Unit {0}
FindsCall image note (Some k) = FindsMethod image note k

need_is : (image : ImageView) (note : ℕ → Option Note) (needs : ℕ) (call : Option ℕ) → FindsCall image note call
    → need_by image needs call ≡ Some (takes_by image needs call)
need_is image note needs None h = refl
need_is image note needs (Some k) h =
    let here : Method = record { entry = h.entry; params = params image.text h.entry; others = others image.text h.entry } in
    rw h.constant (ap (λ (b : Bool). option_map (λ (x : Method). x.params) (if b then Some here else None)) (lt-ltb _ _ h.inside))

abbrev pub IsSet : Locals → Option ℕ → Type 0
IsSet set None = Unit {0}
IsSet set (Some k) = set k ≡ true

-- what is found where a row names nothing
abbrev pub plain : Unit {0} × Unit {0} × Unit {0} × Unit {0} × Unit {0} × Unit {0}
plain = (tt, tt, tt, tt, tt, tt)

module _ (u : Scene) where
  abbrev pub MayReturn : Flow → Type 0
  MayReturn flows.Return = u.frame.unit ≢ None
  MayReturn _ = Unit {0}

  -- a local that the unit's code may name
  abbrev pub IsLocal : Option ℕ → Type 0
  IsLocal None = Unit {0}
  IsLocal (Some k) = (u.frame.first ≤ k) × (k < u.frame.first + u.many)

  -- what an instruction with this row names is there: its constant, its method, the unit that it leaves, and its locals, of which it reads one that is set
  abbrev pub Finds : Locals → Row → Type 0
  Finds set r =
      HasConstant u.frame.image.pool r.constant × FindsCall u.frame.image (note_at u.whole) (ways_of r.flow).call × MayReturn r.flow × IsSet set r.reads
      × IsLocal r.reads × IsLocal r.stores

  module _ (set : Locals) where
    -- an instruction finds what it needs, and does not jump
    pub record IsSimple (i : Instr) (d : ℕ) : Type 0 where
      pub finds : Finds set (row_of i)
      pub enough : takes u.frame.image i ≤ d
      pub no_jump : (ways_of (row_of i).flow).jump ≡ None

    -- there is a note to which an instruction leads on
    abbrev pub Led : Instr → ℕ → ℕ → Type 0
    Led i d to = (m : Note) × There u to m × LeadsOn (row_of i) (takes u.frame.image i) (note_with u.frame set d) m

    abbrev pub NextLed : Instr → ℕ → ℕ → Bool → Type 0
    NextLed i at d true = Led i d (at + size_of (row_of i))
    NextLed i at d false = Unit {0}

    abbrev pub JumpLed : Instr → ℕ → ℕ → Option ℤ → Type 0
    JumpLed i at d None = Unit {0}
    JumpLed i at d (Some o) = Led i d (target at o)

    pub met : (i : Instr) (at d : ℕ) → IsAt u at i → Finds set (row_of i) → takes u.frame.image i ≤ d → NextLed i at d (ways_of (row_of i).flow).next
        → JumpLed i at d (ways_of (row_of i).flow).jump → MetWith u set at i d
    met i at d is f enough next jump = record {
      stands = is;
      meets = record {
        row = row_of i;
        has_row = (i, is, refl);
        constant = f.0;
        need = takes u.frame.image i;
        needs = need_is u.frame.image (note_at u.whole) (row_of i).needs (ways_of (row_of i).flow).call f.1;
        enough = enough;
        leads = leads;
        calls = λ k e. subst (FindsCall u.frame.image (note_at u.whole)) (ap (λ (x : Flow). (ways_of x).call) e) f.1;
        returns = λ e. subst MayReturn e f.2;
        reads = λ k e method. subst (IsSet set) e f.3;
        names = λ e k unit named. let l : IsLocal (Some k) = local k named in (
          omega (arith, l.0, (u.headed e unit).0),
          omega (arith, l.1, (u.counted e unit).1),
        );
        counts = λ e unit. (u.counted e unit).0;
        few = λ k unit named. omega (arith, (local k named).1, u.main unit);
      };
      headed = λ e unit. (u.headed e unit).1;
    }
      where
        local : (k : ℕ) → ((row_of i).reads ≡ Some k) ⊎ ((row_of i).stores ≡ Some k) → IsLocal (Some k)
        local k (inl e) = subst IsLocal e f.4
        local k (inr e) = subst IsLocal e f.5

        leads : (to : ℕ) → GoesOn (row_of i).flow at (at + size_of (row_of i)) to → Led i d to
        leads to (inl h) = let n : Led i d (at + size_of (row_of i)) = subst (NextLed i at d) h.0 next in subst (Led i d) (sym h.1) n
        leads to (inr h) = let n : Led i d (target at h.0) = subst (JumpLed i at d) h.1 jump in subst (Led i d) (sym h.2) n

    pub led : (i : Instr) (d to : ℕ) (m : Note) → There u to m → takes u.frame.image i ≤ d → Suits u.frame set (next_depth u.frame.image i d) m → Led i d to
    led i d to m there enough s = (m, there, record { unit = s.unit; depth = omega (arith, s.depth, enough); set = λ k e. inl (s.set_before k e) })

    pub simple_met : (i : Instr) (at d : ℕ) (m : Note) → IsSimple i d → IsAt u at i → There u (at + size_of (row_of i)) m
        → Suits u.frame set (next_depth u.frame.image i d) m → MetWith u set at i d
    simple_met i at d m s is there suits =
        met i at d is s.finds s.enough (next (ways_of (row_of i).flow).next) (subst (JumpLed i at d) (sym s.no_jump) tt)
      where
        next : (b : Bool) → NextLed i at d b
        next true = led i d _ m there s.enough suits
        next false = tt

    -- a test's jump, which takes this many operands
    pub record IsBranch (i : Instr) (o : ℤ) (d : ℕ) : Type 0 where
      pub finds : Finds set (row_of i)
      pub ways : ((ways_of (row_of i).flow).next ≡ true) × ((ways_of (row_of i).flow).jump ≡ Some o)
      pub takes_is : takes u.frame.image i ≡ d
      pub gives : (row_of i).gives ≡ 0
      pub size : size_of (row_of i) ≡ 3

    pub branch_met : (i : Instr) (o : ℤ) (at d to : ℕ) (m n : Note) → IsBranch i o d → IsAt u at i → There u (at + 3) m → Suits u.frame set 0 m
        → target at o ≡ to → There u to n → Suits u.frame set 0 n → MetWith u set at i d
    branch_met i o at d to m n b is next s there at_to t =
        met i at d is b.finds (omega (arith, b.takes_is)) (subst (NextLed i at d) (sym b.ways.0) on) (subst (JumpLed i at d) (sym b.ways.1) off)
      where
        leads : (x : ℕ) (k : Note) → There u x k → Suits u.frame set 0 k → Led i d x
        leads x k here suits =
            let none_left : 0 ≡ next_depth u.frame.image i d = omega (arith, b.takes_is, b.gives) in
            led i d x k here (omega (arith, b.takes_is)) (at_depth u.frame set 0 _ k none_left suits)

        on : Led i d (at + size_of (row_of i))
        on = leads _ m (ap (λ (x : ℕ). note_at u.whole (at + x)) b.size ∙ next) s

        off : Led i d (target at o)
        off = leads _ n (ap (note_at u.whole) there ∙ at_to) t
