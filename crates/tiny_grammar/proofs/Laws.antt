-- The machine refuses what the grammar refuses, and takes what it spells.
use Rattle.tiny_grammar.proofs.Common.{◌≡◌, ℕ, Bool, true, false, List, [], ◌∷◌, ◌++◌, length, map, cond, refl, ap, sym, subst, ◌∙◌, arith, Option, Some, None}
use Rattle.tiny_grammar.proofs.Common.{Err, ◌==◌, ◌≢◌, append-nil, eqb-true, Function, Kind, Token, Refusal}
use Rattle.tiny_draft.specs.declared.token.Kind.TheVariants as kinds
use Rattle.tiny_draft.specs.declared.token.Sign.TheVariants as signs
use Rattle.tiny_grammar.specs.declared.refusal.Refusal.TheVariants as refusals
use Rattle.tiny_grammar.specs.Prelude.{first_kind, SpellsProgram, kept, Part, begins, fault, fault_by, follow, is_optional, is_sign, or_skip, spent, walk, Begins, IsCutShort, IsReason, IsRefused, IsRefusedAt, IsShallow, left, turn, Opens}
use Rattle.tiny_grammar.specs.Machine as m
use Rattle.tiny_grammar.proofs.Beginnings.{functions_none}
use Rattle.tiny_grammar.proofs.Runs.{Stuck, Why, astray, at_end, at_token, deep, done, one_step, steps, steps_front, steps_kept, steps_more, walk_along, walk_stuck}
use Rattle.tiny_grammar.proofs.Taken.{take_program}
use Rattle.tiny_grammar.proofs.Texts.{start, taken_begins, taken_whole}

-- ---- no part begins with a token that is none, or with a number that cannot be read

begins_bad : (p : Part) → begins p kinds.Bad ≡ None
begins_bad (m.Want s) = refl
begins_bad _ = refl

begins_unread : (p : Part) → begins p kinds.Unread ≡ None
begins_unread (m.Want s) = refl
begins_unread _ = refl

follow_none : (k : Kind) → ((p : Part) → begins p k ≡ None) → (ps : List Part) → follow ps k ≡ None
follow_none k never [] = refl
follow_none k never (p ∷ ps) = go (is_optional p) (follow_none k never ps)
  where
    go : (o : Bool) → follow ps k ≡ None → or_skip (begins p k) o ps (follow ps k) ≡ None
    go true h = rw (never p) h
    go false h = rw (never p) refl

-- ---- the machine takes just what begins a program

begun : (ts : List Token) → Begins ts → (qs : List Part) × (steps start ts ≡ Some qs)
begun ts (rest, fs, e) =
    let all : steps start (map kept ts ++ rest) ≡ Some start = ap (steps start) e ∙ take_program fs in
    let f = steps_front (map kept ts) rest start start all in
    (f.0, sym (steps_kept ts start) ∙ f.1)

spelled : (ts : List Token) (fs : List Function) → SpellsProgram ts fs → steps start ts ≡ Some start
spelled ts fs s = sym (steps_kept ts start) ∙ (ap (steps start) s ∙ take_program fs)

-- the machine goes on at a token that begins a program with those before it
goes_on : (front : List Token) (t : Token) (qs : List Part) → steps start front ≡ Some qs → Begins (front ++ t ∷ []) → (rs : List Part) × (follow qs t.kind ≡ Some rs)
goes_on front t qs h b =
    let all = begun (front ++ t ∷ []) b in
    (all.0, one_step t qs all.0 (sym (steps_more front (t ∷ []) start qs h) ∙ all.1))

-- the machine goes on only there
goes_well : (front : List Token) (t : Token) (qs rs : List Part) → steps start front ≡ Some qs → follow qs t.kind ≡ Some rs → Begins (front ++ t ∷ [])
goes_well front t qs rs h f = taken_begins (front ++ t ∷ []) rs (steps_more front (t ∷ []) start qs h ∙ rw f refl)

-- ---- what the machine refuses

fault_reason : (levels : ℕ) (front : List Token) (t : Token) → (Begins (front ++ t ∷ []) → ⊥) → IsReason levels front t (fault_by t.kind t.line)
fault_reason levels front t never = go t.kind refl
  where
    go : (k : Kind) → t.kind ≡ k → IsReason levels front t (fault_by k t.line)
    go kinds.Bad h = (h, refl)
    go kinds.Unread h = (h, refl)
    go _ h = (λ x. absurd (cc), λ x. absurd (cc), never, refl)

reason : (levels : ℕ) (front : List Token) (t : Token) (qs : List Part) (e : Refusal) → steps start front ≡ Some qs → Why levels qs t e → IsReason levels front t e
reason levels front t qs e h (astray f is) =
    subst (IsReason levels front t) (sym is) (fault_reason levels front t (λ b. let g = goes_on front t qs h b in let z = sym f ∙ g.1 in absurd (cc)))
reason levels front t qs e h (deep rs f u z is) = subst (IsReason levels front t) (sym is) (goes_well front t qs rs h f, u, z, refl)

refused_as : (levels : ℕ) (ts : List Token) (e : Refusal) → e ≢ refusals.Unfinished → IsRefusedAt levels ts e → IsRefused levels ts e
refused_as levels ts refusals.Unfinished n r = absurd (n refl)
refused_as levels ts _ n r = r

finished : (levels : ℕ) (front : List Token) (t : Token) (e : Refusal) → IsReason levels front t e → e ≢ refusals.Unfinished
finished levels front t refusals.Unfinished r h = r
finished levels front t refusals.OutOfMemory r h = r
finished levels front t _ r h = absurd (cc)

stuck_refused : (levels : ℕ) (ts : List Token) (e : Refusal) → Stuck levels start ts e → IsRefused levels ts e
stuck_refused levels ts e (at_token front token others qs split reach shallow why) =
    let r = reason (left levels front) front token qs e reach why in
    refused_as levels ts e (finished (left levels front) front token e r)
    (record { front = front; token = token; others = others; split = split; before = taken_begins front qs reach; shallow = shallow; reason = r })
stuck_refused levels ts e (at_end qs reach un shallow is) = subst (IsRefused levels ts) (sym is) (record {
  begun = taken_begins ts qs reach;
  shallow = shallow;
  never = λ fs s. let same = sym reach ∙ spelled ts fs s in let q : qs ≡ start = cc in let z = sym un ∙ ap spent q in absurd (cc);
})

pub refused : (levels : ℕ) (ts : List Token) (e : Refusal) → walk levels start ts ≡ Err e → IsRefused levels ts e
refused levels ts e h = stuck_refused levels ts e (walk_stuck ts levels start e h)

-- ---- after the last function comes nothing

pub left_over : (levels : ℕ) (ts : List Token) → (length ts == 0) ≡ false → is_sign signs.Fn (first_kind ts) ≡ None → walk levels start ts ≡ Err (fault ts)
unfolding walk
left_over levels [] z n = absurd (cc)
left_over levels (t ∷ ts) z n = rw (functions_none t.kind n) refl

pub nothing_left : (levels : ℕ) (ts : List Token) → (length ts == 0) ≡ true → walk levels start ts ≡ done
unfolding walk
nothing_left levels [] z = refl
nothing_left levels (t ∷ ts) z = absurd (omega (arith, eqb-true (length (t ∷ ts)) 0 z))

-- ---- what the grammar refuses

step_none : (l : ℕ) (qs : List Part) (t : Token) (ts : List Token) → follow qs t.kind ≡ None → walk l qs (t ∷ ts) ≡ Err (fault_by t.kind t.line)
unfolding walk
step_none l qs t ts f = rw f refl

step_deep : (l : ℕ) (qs rs : List Part) (t : Token) (ts : List Token) → follow qs t.kind ≡ Some rs → turn t.kind ≡ Opens → l ≡ 0 → walk l qs (t ∷ ts) ≡ Err (refusals.TooDeep t.line)
unfolding walk
step_deep l qs rs t ts f u z = rw (f, u, z) refl

walk_end : (l : ℕ) (qs : List Part) (w : Bool) → spent qs ≡ w → walk l qs [] ≡ cond w done (Err refusals.Unfinished)
unfolding walk
walk_end l qs w s = rw s refl

syntax : (k : Kind) (line : ℕ) → k ≢ kinds.Bad → k ≢ kinds.Unread → fault_by k line ≡ refusals.BadSyntax line
syntax kinds.Bad line a b = absurd (a refl)
syntax kinds.Unread line a b = absurd (b refl)
syntax _ line a b = refl

stops : (l : ℕ) (front : List Token) (t : Token) (others : List Token) (qs : List Part) (e : Refusal) → steps start front ≡ Some qs → IsReason l front t e → walk l qs (t ∷ others) ≡ Err e
stops l front t others qs (refusals.BadToken line) h (k, i) =
    step_none l qs t others (ap (follow qs) k ∙ follow_none kinds.Bad begins_bad qs) ∙ ap Err (ap (λ x. fault_by x t.line) k ∙ ap refusals.BadToken (sym i))
stops l front t others qs (refusals.BadNumber line) h (k, i) =
    step_none l qs t others (ap (follow qs) k ∙ follow_none kinds.Unread begins_unread qs) ∙ ap Err (ap (λ x. fault_by x t.line) k ∙ ap refusals.BadNumber (sym i))
stops l front t others qs (refusals.BadSyntax line) h (a, b, never, i) = go (follow qs t.kind) refl
  where
    go : (r : Option (List Part)) → follow qs t.kind ≡ r → walk l qs (t ∷ others) ≡ Err (refusals.BadSyntax line)
    go None f = step_none l qs t others f ∙ ap Err (syntax t.kind t.line a b ∙ ap refusals.BadSyntax (sym i))
    go (Some rs) f = absurd (never (goes_well front t qs rs h f))
stops l front t others qs (refusals.TooDeep line) h (b, u, z, i) =
    let g = goes_on front t qs h b in
    step_deep l qs g.0 t others g.1 u z ∙ ap (λ x. Err (refusals.TooDeep x)) (sym i)
stops l front t others qs refusals.Unfinished h r = absurd r
stops l front t others qs refusals.OutOfMemory h r = absurd r

at_walk : (levels : ℕ) (ts : List Token) (e : Refusal) → IsRefusedAt levels ts e → walk levels start ts ≡ Err e
at_walk levels ts e r =
    let b = begun r.front r.before in
    ap (walk levels start) r.split ∙ (walk_along r.front (r.token ∷ r.others) levels start b.0 b.1 r.shallow ∙ stops (left levels r.front) r.front r.token r.others b.0 e b.1 r.reason)

whole_walk : (levels : ℕ) (ts : List Token) (qs : List Part) → steps start ts ≡ Some qs → IsShallow levels ts → walk levels start ts ≡ walk (left levels ts) qs []
whole_walk levels ts qs h s = ap (walk levels start) (sym (append-nil ts)) ∙ walk_along ts [] levels start qs h s

cut_walk : (levels : ℕ) (ts : List Token) → IsCutShort levels ts → walk levels start ts ≡ Err refusals.Unfinished
cut_walk levels ts r = go (begun ts r.begun)
  where
    ended : (qs : List Part) → steps start ts ≡ Some qs → (w : Bool) → spent qs ≡ w → walk levels start ts ≡ Err refusals.Unfinished
    ended qs h false s = whole_walk levels ts qs h r.shallow ∙ walk_end (left levels ts) qs false s
    ended qs h true s = let p = taken_whole ts qs h s in absurd (r.never p.0 p.1)

    go : (qs : List Part) × (steps start ts ≡ Some qs) → walk levels start ts ≡ Err refusals.Unfinished
    go (qs, h) = ended qs h (spent qs) refl

pub refused_walk : (levels : ℕ) (ts : List Token) (e : Refusal) → IsRefused levels ts e → walk levels start ts ≡ Err e
refused_walk levels ts refusals.Unfinished r = cut_walk levels ts r
refused_walk levels ts e r = at_walk levels ts e r

pub spelled_walk : (levels : ℕ) (ts : List Token) (fs : List Function) → SpellsProgram ts fs → IsShallow levels ts → walk levels start ts ≡ done
spelled_walk levels ts fs s h = whole_walk levels ts start (spelled ts fs s) h ∙ walk_end (left levels ts) start true refl

-- ---- one reading

pub not_both : (levels : ℕ) (ts : List Token) (fs : List Function) (e : Refusal) → SpellsProgram ts fs → IsShallow levels ts → IsRefused levels ts e → ⊥
not_both levels ts fs e s h r = let a = spelled_walk levels ts fs s h in let b = refused_walk levels ts e r in absurd (cc)

pub one_refusal : (levels : ℕ) (ts : List Token) (d e : Refusal) → IsRefused levels ts d → IsRefused levels ts e → d ≡ e
one_refusal levels ts d e p q = let a = refused_walk levels ts d p in let b = refused_walk levels ts e q in cc
