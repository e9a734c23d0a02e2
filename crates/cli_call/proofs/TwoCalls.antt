-- Two calls over one file work over the same program.
use Rattle.cli_call.proofs.Common.{◌≡◌, ◌⊎◌, inl, inr, ◌∙◌, ◌<◌, ◌≤◌, ℕ, List, length, Option, Some, sym, subst, arith, same_Some, Contents, Tells, file_in}
use Rattle.cli_call.proofs.Common.{most_bytes, OutsideView, Did, Ends, IsHad, IsNotHad, IsFileRead, IsUnread, NotHad}
use Rattle.cli_outside.specs.Status as exits
use Rattle.cli_outside.specs.Work as work
use Rattle.cli_call.specs.Prelude.{BothRan, CallsAgree, IsQuiet, NoneHad}
use Rattle.cli_call.proofs.Agreeing.{said}

-- a file has one content in the files
pub same_bytes : (told : Option Contents) (contents : Contents) (name a b : List ℕ) → told ≡ Some contents → Tells told name a → Tells told name b → a ≡ b
same_bytes told contents name a b tells one other =
    let here : file_in contents name ≡ Some a = subst (λ (t : Option Contents). Tells t name a) tells one in
    let there : file_in contents name ≡ Some b = subst (λ (t : Option Contents). Tells t name b) tells other in
    same_Some a b (sym here ∙ there)

module _ {V : Type 0} (Refuses : List ℕ → List ℕ → Type 0) (Is : List ℕ → V → Type 0) (file : List ℕ) (old : OutsideView) where
  -- the file is refused; it is too long; it holds a value, over which this was done
  abbrev pub IsRefusal : ℕ → Type 0
  IsRefusal status = (bytes reason : List ℕ) × IsFileRead file bytes old × Refuses bytes reason × (status ≡ exits.refused)

  abbrev pub IsLong : ℕ → Type 0
  IsLong status = (bytes : List ℕ) × Tells old.files.contents file bytes × (most_bytes < length bytes) × (status ≡ exits.too_long)

  abbrev pub IsDone : (V → OutsideView → OutsideView → ℕ → Type 0) → OutsideView → ℕ → Type 0
  IsDone Does new status = (value : V) × IsHad Is file old value × Does value old new status

  module _ (Does : V → OutsideView → OutsideView → ℕ → Type 0) (new : OutsideView) (status : ℕ) (quiet : IsQuiet old new status) where
    unread : IsUnread file old new status → IsRefusal status ⊎ (IsLong status ⊎ IsDone Does new status)
    unread (work.Failed same rose tells) = absurd (quiet.files rose)
    unread (work.TooLong bytes has long tells) = inr (inl (bytes, has, long, (said old.err new.err _ _ status quiet.err tells.says).0))
    unread (work.NoRoom tells) = absurd (quiet.memory (said old.err new.err _ _ status quiet.err tells.says).0)

    not_had : IsNotHad Refuses file old new status → IsRefusal status ⊎ (IsLong status ⊎ IsDone Does new status)
    not_had (work.Unread h) = unread h
    not_had (work.Refused bytes reason read refuses tells) = inl (bytes, reason, read, refuses, (said old.err new.err _ _ status quiet.err tells.says).0)
    not_had (work.Short tells) = absurd (quiet.memory (said old.err new.err _ _ status quiet.err tells.says).0)

    pub outcome : Ends Refuses Is Does file old new status → IsRefusal status ⊎ (IsLong status ⊎ IsDone Does new status)
    outcome (NotHad h) = not_had h
    outcome (Did value had does) = inr (inr (value, had, does))

  module _ (contents : Contents) (tells : old.files.contents ≡ Some contents) where
    not_long : (bytes long : List ℕ) → IsFileRead file bytes old → Tells old.files.contents file long → most_bytes < length long → ⊥
    not_long bytes long read has above =
        let short : length long ≤ most_bytes = subst (λ (b : List ℕ). length b ≤ most_bytes) (same_bytes old.files.contents contents file bytes long tells read.has has) read.short in
        absurd (omega (arith, short, above))

    module _ (one_value : (bytes : List ℕ) (p q : V) → Is bytes p → Is bytes q → p ≡ q) (not_both : (bytes reason : List ℕ) (p : V) → Is bytes p → Refuses bytes reason → ⊥) where
      not_refused : (bytes reason : List ℕ) (value : V) → IsFileRead file bytes old → Refuses bytes reason → IsHad Is file old value → ⊥
      not_refused bytes reason value read refuses had =
          not_both had.bytes reason value had.is
          (subst (λ (b : List ℕ). Refuses b reason) (same_bytes old.files.contents contents file bytes had.bytes tells read.has had.read.has) refuses)

      module _ (Does Does' : V → OutsideView → OutsideView → ℕ → Type 0) (new new' : OutsideView) (status status' : ℕ) (Agree : Type 0)
          (agree : (value : V) → Does value old new status → Does' value old new' status' → Agree) where
        joined : IsRefusal status ⊎ (IsLong status ⊎ IsDone Does new status) → IsRefusal status' ⊎ (IsLong status' ⊎ IsDone Does' new' status') → CallsAgree Agree status status'
        joined (inl r) (inl s) = NoneHad (r.4 ∙ sym s.4) (inl r.4)
        joined (inl r) (inr (inl s)) = absurd (not_long r.0 s.0 r.2 s.1 s.2)
        joined (inl r) (inr (inr s)) = absurd (not_refused r.0 r.1 s.0 r.2 r.3 s.1)
        joined (inr (inl r)) (inl s) = absurd (not_long s.0 r.0 s.2 r.1 r.2)
        joined (inr (inl r)) (inr (inl s)) = NoneHad (r.3 ∙ sym s.3) (inr r.3)
        joined (inr (inl r)) (inr (inr s)) = absurd (not_long s.1.bytes r.0 s.1.read r.1 r.2)
        joined (inr (inr r)) (inl s) = absurd (not_refused s.0 s.1 r.0 s.2 s.3 r.1)
        joined (inr (inr r)) (inr (inl s)) = absurd (not_long r.1.bytes s.0 r.1.read s.1 s.2)
        joined (inr (inr r)) (inr (inr s)) =
            let bytes : s.1.bytes ≡ r.1.bytes = same_bytes old.files.contents contents file s.1.bytes r.1.bytes tells s.1.read.has r.1.read.has in
            let same : s.0 ≡ r.0 = one_value r.1.bytes s.0 r.0 (subst (λ (b : List ℕ). Is b s.0) bytes s.1.is) r.1.is in
            BothRan (agree r.0 r.2 (subst (λ (v : V). Does' v old new' status') same s.2))

        pub both_end : IsQuiet old new status → IsQuiet old new' status' → Ends Refuses Is Does file old new status → Ends Refuses Is Does' file old new' status' → CallsAgree Agree status status'
        both_end quiet quiet' one other = joined (outcome Does new status quiet one) (outcome Does' new' status' quiet' other)
