-- Both programs are programs: each statement may stand where it stands, and no label stands twice.
use Rattle.mal_shipped.proofs.Common.{◌≡◌, ◌<◌, ℕ, zero, suc, ◌+◌, add-zero, zero-add, ◌&&◌, not, Bool, true, false, nat_lt, List, [], ◌∷◌, length, Option}
use Rattle.mal_shipped.proofs.Common.{Some, None, is_some, refl, sym, ap, subst, arith, slice_get, IsSome, IfSome, list_any, bytes_eq, ltb-true, and_parts}
use Rattle.mal_shipped.proofs.Common.{not-true, or_right, bytes_eq-Decides, Machine, is_part, is_name, is_reserved, IsLabelText, Next, Statement, MalView}
use Rattle.mal_shipped.proofs.Common.{label_at, HasTargets, IsStatement, IsMalProgram, Mic1, Mic2, listed_program, program1, rows1, program2, rows2}
use Rattle.mal_line.specs.declared.next.Next.TheVariants as nexts

-- ---- each statement may stand where it stands

leads : MalView → Next ℕ → Bool
leads p (nexts.Goto to) = is_some (label_at p.statements to)
leads p (nexts.Branch test high low) = is_some (label_at p.statements high) && is_some (label_at p.statements low)
leads p _ = true

follows : ℕ → ℕ → Next ℕ → Bool
follows count number nexts.Following = nat_lt (number + 1) count
follows count number _ = true

is_label : Option (List ℕ) → Bool
is_label None = true
is_label (Some name) = is_name name && not (is_reserved name)

is_fix : Option ℕ → Option (List ℕ) → Bool
is_fix None label = true
is_fix (Some address) label = nat_lt address 512 && is_some label

stands : MalView → ℕ → Statement → Bool
stands p number s =
    is_part p.machine s.part && (leads p s.next && (follows (length p.statements) number s.next && (is_label s.label && is_fix s.fixed s.label)))

all_stand : MalView → ℕ → List Statement → Bool
all_stand p number [] = true
all_stand p number (s ∷ ss) = stands p number s && all_stand p (number + 1) ss

leads_is : (p : MalView) (next : Next ℕ) → leads p next ≡ true → HasTargets p.statements next
unfolding leads
leads_is p (nexts.Goto to) h = h
leads_is p (nexts.Branch test high low) h = and_parts _ _ h
leads_is p _ h = tt

follows_is : (count number : ℕ) (next : Next ℕ) → follows count number next ≡ true → next ≡ nexts.Following → number + 1 < count
unfolding follows
follows_is count number nexts.Following h e = ltb-true (number + 1) count h
follows_is count number _ h e = absurd (cc)

is_label_is : (label : Option (List ℕ)) → is_label label ≡ true → IfSome label IsLabelText
unfolding is_label
is_label_is None h = tt
is_label_is (Some name) h = let two = and_parts (is_name name) _ h in (two.0, not-true (is_reserved name) two.1)

is_fix_is : (fixed : Option ℕ) (label : Option (List ℕ)) → is_fix fixed label ≡ true → IfSome fixed (λ address. (address < 512) × IsSome label)
unfolding is_fix
is_fix_is None label h = tt
is_fix_is (Some address) label h = let two = and_parts (nat_lt address 512) (is_some label) h in (ltb-true address 512 two.0, two.1)

stands_is : (p : MalView) (number : ℕ) (s : Statement) → stands p number s ≡ true → IsStatement p number s
unfolding stands
stands_is p number s h =
    let part = and_parts (is_part p.machine s.part) _ h in
    let targets = and_parts (leads p s.next) _ part.1 in
    let followed = and_parts (follows (length p.statements) number s.next) _ targets.1 in
    let named = and_parts (is_label s.label) (is_fix s.fixed s.label) followed.1 in
    record {
      part = part.0;
      targets = leads_is p s.next targets.0;
      followed = follows_is (length p.statements) number s.next followed.0;
      label = is_label_is s.label named.0;
      fixed = is_fix_is s.fixed s.label named.1;
    }

one_stands : (p : MalView) (number : ℕ) (ss : List Statement) → all_stand p number ss ≡ true → (k : ℕ) (s : Statement) → slice_get ss k ≡ Some s → stands p (number + k) s ≡ true
unfolding all_stand
one_stands p number [] h k s e = absurd (cc)
one_stands p number (x ∷ xs) h zero s e =
    let same : x ≡ s = cc in
    rw add-zero (subst (λ (y : Statement). stands p number y ≡ true) same (and_parts _ _ h).0)
one_stands p number (x ∷ xs) h (suc k) s e =
    let later : stands p (number + 1 + k) s ≡ true = one_stands p (number + 1) xs (and_parts _ _ h).1 k s e in
    let place : number + 1 + k ≡ number + suc k = omega arith in
    subst (λ (n : ℕ). stands p n s ≡ true) place later

-- ---- no label stands twice

has : List ℕ → Option (List ℕ) → Bool
has name None = false
has name (Some other) = bytes_eq name other

is_new : Option (List ℕ) → List Statement → Bool
is_new None ss = true
is_new (Some name) ss = not (list_any (λ s. has name s.label) ss)

are_apart : List Statement → Bool
are_apart [] = true
are_apart (s ∷ ss) = is_new s.label ss && are_apart ss

bytes_same : (xs : List ℕ) → bytes_eq xs xs ≡ true
bytes_same xs = grind (arith, bytes_eq-Decides)

found : (name : List ℕ) (ss : List Statement) (k : ℕ) → label_at ss k ≡ Some name → list_any (λ s. has name s.label) ss ≡ true
unfolding has
found name [] k e = absurd (cc)
found name (s ∷ ss) zero e = rw e (rw (bytes_same name) refl)
found name (s ∷ ss) (suc k) e = or_right (has name s.label) (list_any (λ s. has name s.label) ss) (found name ss k e)

new_is : (label : Option (List ℕ)) (ss : List Statement) (name : List ℕ) (k : ℕ) → is_new label ss ≡ true → label ≡ Some name → label_at ss k ≡ Some name → ⊥
unfolding is_new
new_is None ss name k h e f = cc
new_is (Some other) ss name k h e f =
    let same : other ≡ name = cc in
    let none : list_any (λ s. has other s.label) ss ≡ false = not-true _ h in
    let some : list_any (λ s. has other s.label) ss ≡ true = subst (λ (n : List ℕ). list_any (λ s. has n s.label) ss ≡ true) (sym same) (found name ss k f) in
    cc

apart : (ss : List Statement) → are_apart ss ≡ true → (s t : ℕ) (name : List ℕ) → label_at ss s ≡ Some name → label_at ss t ≡ Some name → s ≡ t
unfolding are_apart
apart [] h s t name e f = absurd (cc)
apart (x ∷ xs) h zero zero name e f = refl
apart (x ∷ xs) h zero (suc t) name e f = absurd (new_is x.label xs name t (and_parts _ _ h).0 e f)
apart (x ∷ xs) h (suc s) zero name e f = absurd (new_is x.label xs name s (and_parts _ _ h).0 f e)
apart (x ∷ xs) h (suc s) (suc t) name e f = ap suc (apart xs (and_parts _ _ h).1 s t name e f)

-- ---- the programs

pub valid1 : IsMalProgram program1
unfolding program1 rows1 all_stand stands leads follows is_label is_fix are_apart is_new has
valid1 =
    record {
      some = omega arith;
      few = omega arith;
      statements = λ number s e. stands_is program1 number s (subst (λ (n : ℕ). stands program1 n s ≡ true) (zero-add number) (one_stands program1 0 program1.statements refl number s e));
      labels = apart program1.statements refl;
      fallback = record { part = refl; targets = refl; leads = λ e. cc; label = refl; fixed = refl };
      entry = refl;
    }

pub valid2 : IsMalProgram program2
unfolding program2 rows2 all_stand stands leads follows is_label is_fix are_apart is_new has
valid2 =
    record {
      some = omega arith;
      few = omega arith;
      statements = λ number s e. stands_is program2 number s (subst (λ (n : ℕ). stands program2 n s ≡ true) (zero-add number) (one_stands program2 0 program2.statements refl number s e));
      labels = apart program2.statements refl;
      fallback = record { part = refl; targets = refl; leads = λ e. cc; label = refl; fixed = refl };
      entry = refl;
    }

pub valid : (machine : Machine) → IsMalProgram (listed_program machine)
valid Mic1 = valid1
valid Mic2 = valid2
