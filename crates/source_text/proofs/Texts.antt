-- What is read from a text is what it says, and a text says one thing.
use Rattle.source_text.proofs.Common.{◌≡◌, ℕ, suc, ◌+◌, List, [], ◌∷◌, ◌++◌, Option, Some, None, length, refl, sym, ap, subst, ◌∙◌, arith, inl, inr}
use Rattle.source_text.proofs.Common.{length-append, Result, Ok, Err, contents, Spells, Grammar, IsRefused, IsRefusedAfter, SayAll, SaysLine, SpellsProgram}
use Rattle.source_text.proofs.Common.{add_read, add_said, Agrees, IsReadAsSpelled, Makes, Parser, step, Leads, walk}
use Rattle.source_text.proofs.Walking.{leads_walk, refused_walk}

module _ {T F C P E S : Type 0} (G : Grammar T F C P E) (X : Parser T F C P E S) (start : S) (a : Agrees G X start) where
  abbrev next : ℕ → S → List ℕ → Result S E
  next = step G.refusals X

  -- ---- one line after others

  unspelled : (k : ℕ) (s : S) (line : List ℕ) → ((ts : List T) → Spells G.table line ts → ⊥) → next k s line ≡ Err (G.refusals.bad_token k)
  unspelled k s line none = by_tokens (X.tokens line) refl
    where
      by_tokens : (o : Option (List T)) → X.tokens line ≡ o → add_read G.refusals X k s o ≡ Err (G.refusals.bad_token k)
      by_tokens None f = refl
      by_tokens (Some ts) f = absurd (none ts ((a.tokens line ts).0 f))

  module _ (cs : List C) (s : S) (m : Makes X 1 start cs s) (line : List ℕ) where
    -- the line says something, and that leads to this state
    abbrev Adds : ℕ → S → Type 0
    Adds k u = (c : C) × SaysLine G line c × X.Stands s c × (X.add k s c ≡ Ok u)

    line_says : (k : ℕ) (u : S) → next k s line ≡ Ok u → Adds k u
    line_says k u h = by_tokens (X.tokens line) refl h
      where
        by_said : (ts : List T) (r : Result C F) → X.tokens line ≡ Some ts → X.said s ts ≡ r → add_said G.refusals X k s r ≡ Ok u → Adds k u
        by_said ts (Ok c) e f h = let w = (a.said cs s m ts c).0 f in (c, record { sequence = ts; spelled = (a.tokens line ts).0 e; means = w.0 }, w.1, h)
        by_said ts (Err x) e f h = absurd (cc)

        by_tokens : (o : Option (List T)) → X.tokens line ≡ o → add_read G.refusals X k s o ≡ Ok u → Adds k u
        by_tokens None e h = absurd (cc)
        by_tokens (Some ts) e h = by_said ts (X.said s ts) e refl h

    said_line : (k : ℕ) (ts : List T) (c : C) (r : Result S E) → Spells G.table line ts → G.Says ts c → X.Stands s c → X.add k s c ≡ r → next k s line ≡ r
    said_line k ts c r w means at h =
        ap (add_read G.refusals X k s) ((a.tokens line ts).1 w) ∙ (ap (add_said G.refusals X k s) ((a.said cs s m ts c).1 (means, at)) ∙ h)

    line_refused : (e : E) → next (1 + length cs) s line ≡ Err e → IsRefusedAfter G (1 + length cs) cs line e
    line_refused x h = by_tokens (X.tokens line) refl h
      where
        by_said : (ts : List T) (r : Result C F) → X.tokens line ≡ Some ts → X.said s ts ≡ r → add_said G.refusals X (1 + length cs) s r ≡ Err x → IsRefusedAfter G (1 + length cs) cs line x
        by_said ts (Ok c) e f h = let w = (a.said cs s m ts c).0 f in inr (ts, (a.tokens line ts).0 e, inr (c, w.0, (a.misfit cs s m c x).0 (w.1, h)))
        by_said ts (Err y) e f h = let q : x ≡ G.refusals.at_line (1 + length cs) y = cc in inr (ts, (a.tokens line ts).0 e, inl (y, (a.fault cs s m ts y).0 f, q))

        by_tokens : (o : Option (List T)) → X.tokens line ≡ o → add_read G.refusals X (1 + length cs) s o ≡ Err x → IsRefusedAfter G (1 + length cs) cs line x
        by_tokens None e h = let q : x ≡ G.refusals.bad_token (1 + length cs) = cc in inl (λ ts w. absurd (let z = (a.tokens line ts).1 w in cc), q)
        by_tokens (Some ts) e h = by_said ts (X.said s ts) e refl h

    refused_line : (e : E) → IsRefusedAfter G (1 + length cs) cs line e → next (1 + length cs) s line ≡ Err e
    refused_line x (inl (none, e)) = unspelled (1 + length cs) s line none ∙ ap Err (sym e)
    refused_line x (inr (ts, w, inl (y, f, e))) =
        ap (add_read G.refusals X (1 + length cs) s) ((a.tokens line ts).1 w)
        ∙ (ap (add_said G.refusals X (1 + length cs) s) ((a.fault cs s m ts y).1 f) ∙ ap Err (sym e))
    refused_line x (inr (ts, w, inr (c, means, f))) = let g = (a.misfit cs s m c x).1 f in said_line (1 + length cs) ts c (Err x) w means g.0 g.1

  -- ---- lines after others

  made_more : (cs : List C) (k : ℕ) (s t u : S) (c : C) → Makes X k s cs t → X.Stands t c → X.add (k + length cs) t c ≡ Ok u → Makes X k s (cs ++ c ∷ []) u
  made_more [] k s t u c m at h = let z : k + 0 ≡ k = omega arith in (u, rw m at, rw (m, ← z) h, refl)
  made_more (x ∷ cs) k s t u c (v, p, e, more) at h =
      let z : k + length (x ∷ cs) ≡ k + 1 + length cs = omega arith in
      (v, p, e, made_more cs (k + 1) v t u c more at (rw (← z) h))

  one_more : (cs : List C) (c : C) → 1 + length cs + 1 ≡ 1 + length (cs ++ c ∷ [])
  one_more cs c = simp length-append (omega arith)

  lines_say : (ls : List (List ℕ)) (cs : List C) (s t : S) → Makes X 1 start cs s → Leads next (1 + length cs) s ls t → (ds : List C) × SayAll G ls ds × Makes X (1 + length cs) s ds t
  lines_say [] cs s t m e = ([], tt, e)
  lines_say (l ∷ ls) cs s t m (u, h, more) =
      let w = line_says cs s m l (1 + length cs) u h in
      let n = one_more cs w.0 in
      let others = lines_say ls (cs ++ w.0 ∷ []) u t (made_more cs 1 start s u w.0 m w.2 w.3) (subst (λ n. Leads next n u ls t) n more) in
      (w.0 ∷ others.0, (w.1, others.1), (u, w.2, w.3, subst (λ n. Makes X n u others.0 t) (sym n) others.2))

  said_lines : (ls : List (List ℕ)) (ds cs : List C) (s t : S) → Makes X 1 start cs s → SayAll G ls ds → Makes X (1 + length cs) s ds t → Leads next (1 + length cs) s ls t
  said_lines [] [] cs s t m w e = e
  said_lines [] (d ∷ ds) cs s t m w e = absurd w
  said_lines (l ∷ ls) [] cs s t m w e = absurd w
  said_lines (l ∷ ls) (d ∷ ds) cs s t m (w, say) (u, at, h, more) =
      let n = one_more cs d in
      let others = said_lines ls ds (cs ++ d ∷ []) u t (made_more cs 1 start s u d m at h) say (subst (λ n. Makes X n u ds t) n more) in
      (u, said_line cs s m l (1 + length cs) w.sequence d (Ok u) w.spelled w.means at h, subst (λ n. Leads next n u ls t) (sym n) others)

  says : (ls : List (List ℕ)) (t : S) → Leads next 1 start ls t → (cs : List C) × SayAll G ls cs × Makes X 1 start cs t
  says ls t led = lines_say ls [] start t refl led

  leads : (ls : List (List ℕ)) (cs : List C) (t : S) → SayAll G ls cs → Makes X 1 start cs t → Leads next 1 start ls t
  leads ls cs t say m = said_lines ls cs [] start t refl say m

  say_length : (ls : List (List ℕ)) (cs : List C) → SayAll G ls cs → length cs ≡ length ls
  say_length [] [] w = refl
  say_length [] (c ∷ cs) w = absurd w
  say_length (l ∷ ls) [] w = absurd w
  say_length (l ∷ ls) (c ∷ cs) w = ap suc (say_length ls cs w.1)

  -- ---- the whole text

  whole : Result S E → Result P E
  whole (Ok s) = X.whole s
  whole (Err e) = Err e

  outcome : List ℕ → Result P E
  outcome text = whole (walk next 1 start (contents text))

  spelled_comes : (text : List ℕ) (p : P) → SpellsProgram G text p → outcome text ≡ Ok p
  unfolding outcome whole
  spelled_comes text p w =
      let t = a.made w.content w.fit in
      ap whole (leads_walk next (contents text) 1 start t.0 (leads (contents text) w.content t.0 w.say t.1)) ∙ (a.program (contents text) w.content t.0 w.say t.1 p).1 w.program

  refused_comes : (text : List ℕ) (e : E) → IsRefused G text e → outcome text ≡ Err e
  unfolding outcome whole
  refused_comes text e (inl r) =
      let t = a.made r.before r.fit in
      let n = say_length r.front r.before r.say in
      let refused = refused_line r.before t.0 t.1 r.line e (subst (λ n. IsRefusedAfter G (1 + n) r.before r.line e) (sym n) r.refused) in
      ap whole (refused_walk next (contents text) 1 start e (
        t.0,
        record {
          front = r.front;
          line = r.line;
          others = r.others;
          split = r.split;
          leads = leads r.front r.before t.0 r.say t.1;
          refused = subst (λ n. next (1 + n) t.0 r.line ≡ Err e) n refused;
        },
      ))
  refused_comes text e (inr r) =
      let t = a.made r.content r.fit in
      ap whole (leads_walk next (contents text) 1 start t.0 (leads (contents text) r.content t.0 r.say t.1)) ∙ (a.refused (contents text) r.content t.0 r.say t.1 e).1 r.refused

  pub read_as_spelled : IsReadAsSpelled G X start
  read_as_spelled = record {
    one_program = λ text p q v w. let x = spelled_comes text p v in let y = spelled_comes text q w in cc;
    one_refusal = λ text e f v w. let x = refused_comes text e v in let y = refused_comes text f w in cc;
    not_both = λ text p e v w. let x = spelled_comes text p v in let y = refused_comes text e w in cc;
    read = λ line ts w. (a.tokens line ts).1 w;
    unspelled = λ k s line none. unspelled k s line none;
    says = λ text s led. says (contents text) s led;
    spelled = λ text s p led h.
        let w = says (contents text) s led in
        record { content = w.0; say = w.1; fit = a.fit w.0 s w.2; program = (a.program (contents text) w.0 s w.1 w.2 p).0 h };
    ended = λ text s e led h.
        let w = says (contents text) s led in
        inr (record { content = w.0; say = w.1; fit = a.fit w.0 s w.2; refused = (a.refused (contents text) w.0 s w.1 w.2 e).0 h });
    stopped = λ text s e r.
        let w = says r.front s r.leads in
        let n = say_length r.front w.0 w.1 in
        let refused = line_refused w.0 s w.2 r.line e (subst (λ n. next (1 + n) s r.line ≡ Err e) (sym n) r.refused) in
        inl (record {
          front = r.front;
          line = r.line;
          others = r.others;
          split = r.split;
          before = w.0;
          say = w.1;
          fit = a.fit w.0 s w.2;
          refused = subst (λ n. IsRefusedAfter G (1 + n) w.0 r.line e) n refused;
        });
  }
