-- What fine lines say together is sound.
use Rattle.mal_parser.proofs.Common.{◌≡◌, ℕ, ◌+◌, ◌<◌, Bool, true, false, List, [], ◌∷◌, Option, Some, None, refl, subst, arith, cond, IfSome, All, nat_lt}
use Rattle.mal_parser.proofs.Common.{option_map, ℤ, pos, negsuc, cons_option, nat_tests, All-cons, All-nil, SayAll, Machine, Content, Fix}
use Rattle.mal_line.specs.declared.content.Content.TheVariants as said
use Rattle.mal_parser.specs.Prelude.{address_of, fallbacks_from, fixes_from, grammar, IsFine, statements_from, first, IsDraft, IsSound, ReadsLines, sketch_of}
use Rattle.mal_parser.proofs.Saying.{free_label}

module _ (laws : ReadsLines) (m : Machine) where
  drafts : (ls : List (List ℕ)) (cs : List Content) (k : ℕ) → SayAll (grammar m) ls cs → All (IsDraft m) (statements_from k cs)
  drafts [] [] k say = All-nil (IsDraft m)
  drafts [] (c ∷ cs) k say = absurd say
  drafts (l ∷ ls) [] k say = absurd say
  drafts (l ∷ ls) (said.Statement label parts ∷ cs) k say =
      All-cons (IsDraft m) (record { label = label; line = k; parts = parts }) (statements_from (k + 1) cs)
      (record { part = laws.stands m say.0.sequence (said.Statement label parts) say.0.means; label = free_label m l label parts say.0 }) (drafts ls cs (k + 1) say.1)
  drafts (l ∷ ls) (c ∷ cs) k say = drafts ls cs (k + 1) say.1

  fallback : (ls : List (List ℕ)) (cs : List Content) (k : ℕ) → SayAll (grammar m) ls cs → IfSome (first (fallbacks_from k cs)) (λ d. IsDraft m d × (d.label ≡ None))
  fallback [] [] k say = tt
  fallback [] (c ∷ cs) k say = absurd say
  fallback (l ∷ ls) [] k say = absurd say
  fallback (l ∷ ls) (said.Fallback parts ∷ cs) k say = (record { part = laws.stands m say.0.sequence (said.Fallback parts) say.0.means; label = tt }, refl)
  fallback (l ∷ ls) (c ∷ cs) k say = fallback ls cs (k + 1) say.1

below : (number : ℤ) (a : ℕ) → address_of number ≡ Some a → a < 512
below (negsuc n) a h = absurd (cc)
below (pos n) a h = go (nat_lt n 512) refl h
  where
    go : (b : Bool) → nat_lt n 512 ≡ b → cond b (Some n) None ≡ Some a → a < 512
    go false e h = absurd (cc)
    go true e h = let k : n ≡ a = cc in subst (λ a. a < 512) k (grind (arith, nat_tests))

addresses : (cs : List Content) (k : ℕ) → All (λ f. f.address < 512) (fixes_from k cs)
addresses [] k = All-nil (λ (f : Fix). f.address < 512)
addresses (said.Fix label number ∷ cs) k = go (address_of number) refl (addresses cs (k + 1))
  where
    go : (o : Option ℕ) → address_of number ≡ o → All (λ (f : Fix). f.address < 512) (fixes_from (k + 1) cs)
        → All (λ (f : Fix). f.address < 512) (cons_option (option_map {U = Fix} (λ address. record { label = label; line = k; address = address }) o) (fixes_from (k + 1) cs))
    go None e rest = rest
    go (Some a) e rest = All-cons (λ (f : Fix). f.address < 512) (record { label = label; line = k; address = a }) (fixes_from (k + 1) cs) (below number a e) rest
addresses (c ∷ cs) k = addresses cs (k + 1)

pub sound : ReadsLines → (m : Machine) (ls : List (List ℕ)) (cs : List Content) → SayAll (grammar m) ls cs → IsFine cs → IsSound (sketch_of m cs)
sound laws m ls cs say fine = record {
  few = fine.few;
  labels = fine.labels;
  drafts = drafts laws m ls cs 1 say;
  addresses = addresses cs 1;
  fallback = fallback laws m ls cs 1 say;
}
