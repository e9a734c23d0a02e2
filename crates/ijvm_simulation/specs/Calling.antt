-- What a call and a return access, and what they leave in the registers and the world, on any machine.
use Rattle.std.proofs.Common.{◌≡◌, ℕ, suc, ◌+◌, ◌-◌, ◌*◌, ◌<◌, ◌≤◌, ◌⊎◌, inl, inr, None, Some, Option}
use Rattle.std.proofs.Common.{List, ◌∷◌, ◌++◌, length, take, drop, replicate, refl, arith, sym, ◌∙◌, ap, ap₂, subst}
use Rattle.std.specs.Prelude.{slice_index, slice_set, slice_get}
use Rattle.ijvm_simulation.specs.Common.{cases_lt, same_Some, plus, minus, next, World, StackLimit, read_value, untaken_after, given_after, after_read}
use Rattle.ijvm_simulation.specs.Common.{after_write, byte_in, read_refusal, write_refusal, Method, method_at, Frame, State, base, kept_words}
use Rattle.ijvm_simulation.specs.Common.{called as frame_of_call, onto, in_method, VerifiedView}
use Rattle.ijvm_instr.specs.declared.instr.Instr.TheVariants.{Ireturn}
use Rattle.ijvm_simulation.specs.Stands.{Origin, RegistersStand, FramesStand, IsLinked, caller_lv}
use Rattle.ijvm_simulation.specs.Verified.{Loads, IsNext}
use Rattle.ijvm_simulation.specs.Outcomes.{WithMethod, Returns, Fits, Overflows}
use Rattle.ijvm_simulation.specs.Words.{next_is, minus_is, byte_bound}
use Rattle.ijvm_simulation.specs.Accesses.{IsMapEnd, IsWordAccess, access, limit}
use Rattle.ijvm_simulation.specs.Methods.{IsMethod, Arguments, arguments, method, locals}
use Rattle.ijvm_simulation.specs.Images as images
use Rattle.ijvm_simulation.specs.Writes.{linked_words, memory_set, entered, pushed}
use Rattle.ijvm_simulation.specs.Stack.{place_after, frame_with, above, frames_at, memory_at, Top}
use Rattle.ijvm_simulation.specs.Stack as stack
use Rattle.ijvm_simulation.specs.Leaves.{constant_from}

module _ {v : VerifiedView} {o : Origin} {s : State} {sp lv cpp tos : ℕ} {w : World} (loads : Loads v o)
    (h : RegistersStand o s sp lv cpp tos w) where
  abbrev map : IsMapEnd (length o.words)
  map = images.map v o loads

  abbrev top : ℕ
  top = length o.words

  -- IRETURN reads the link word, then the return address, then the caller's LV.

  abbrev link_word : ℕ
  link_word = read_value top w.words w.untaken lv

  abbrev w1 : World
  w1 = after_read top w lv

  abbrev address : ℕ
  address = read_value top w.words w1.untaken link_word

  abbrev w2 : World
  w2 = after_read top w1 link_word

  abbrev caller : ℕ
  caller = read_value top w.words w2.untaken (next link_word)

  pub record Returned (r : ℕ) (to : State) : Type 0 where
    pub first : read_refusal top lv ≡ None
    pub second : read_refusal top link_word ≡ None
    pub third : read_refusal top (next link_word) ≡ None
    pub write : write_refusal top lv ≡ None
    pub high : 0x8000 ≤ lv
    pub back : address ≡ r
    pub inside : r < 0x10000
    pub leaves : RegistersStand o to lv caller cpp tos (after_write top (after_read top w2 (next link_word)) lv tos)

  pub returned : {to : State} → IsNext v o s Ireturn → (went : Returns s to) →
      Returned went.back (record s {
        running = record went.caller { operands = went.with_top.top ∷ went.caller.operands };
        callers = went.above;
        at = went.back;
      })
  returned n went =
      let y : ℕ = went.with_top.top in
      let rest : List ℕ = went.with_top.rest in
      let f : Frame = went.caller in
      let fs : List Frame = went.above in
      let t : Top o s sp lv cpp tos w y rest = stack.top loads h went.with_top.are in
      let to = n.finds.returns refl in
      let to_is : to.0 ≡ went.back = same_Some to.0 went.back (sym to.3 ∙ went.back_is) in
      let lv' : ℕ = base (f ∷ fs) in
      let many : ℕ = length s.running.locals in
      let bottom : 0x8000 ≤ base fs = above fs in
      let high : top < 0x80000000 = map.high in
      let same : base s.callers ≡ lv' = ap base went.callers_are in
      let two_words : kept_words s.running.back ≡ 2 = ap kept_words went.back_is in
      let fits : lv' + many + 2 + length s.running.operands ≤ top = omega (arith, h.fits) in
      let link : IsLinked w.words (base s.callers) many (caller_lv s.callers) (Some went.back) =
      subst (λ (b : Option ℕ). IsLinked w.words (base s.callers) many (caller_lv s.callers) b) went.back_is h.frames.0.linked in
      let a : IsWordAccess top w lv lv' = access top w lv lv' (h.lv_is ∙ same) (omega arith) in
      let at : slice_index w.words lv' ≡ lv' + many = rw (← same) link.0 in
      let b : IsWordAccess top w1 link_word (lv' + many) = access top w1 link_word (lv' + many) (a.value ∙ at) (omega arith) in
      let d : IsWordAccess top w2 (next link_word) (lv' + many + 1) =
      access top w2 (next link_word) (lv' + many + 1) (next_is link_word (lv' + many + 1) (omega (arith, b.is)) (omega arith))
      (omega arith) in
      let words : slice_set w.words lv tos ≡ slice_set w.words lv' y = ap₂ (slice_set w.words) a.is t.tos_is in
      let below : FramesStand w.words (f ∷ fs) = subst (λ (k : List Frame). FramesStand w.words k) went.callers_are h.frames.1 in
      let len : length s.running.operands ≡ suc (length rest) = ap length went.with_top.are in
      record {
        first = a.read;
        second = b.read;
        third = d.read;
        write = a.write;
        high = omega (arith, a.is);
        back = b.value ∙ (rw same at link.1);
        inside = omega (arith, to_is, to.5, loads.image.limits.text_fits);
        leaves = record {
          sp_is = omega (arith, a.is);
          lv_is = d.value ∙ ((rw same at link.2) ∙ ap caller_lv went.callers_are);
          cpp_is = h.cpp_is;
          tos_is = t.tos_is;
          frames = frames_at (record f { operands = y ∷ f.operands }) fs (sym words) (pushed w.words lv' y f fs refl (omega (arith, h.memory.long)) below);
          memory = memory_at (sym words) (memory_set o.words w.words lv' y (omega arith) h.memory);
          fits = omega arith;
          untaken = d.untaken ∙ (b.untaken ∙ (a.untaken ∙ h.untaken));
          given = a.given _ _ ∙ h.given;
        };
      }

  -- The method of a call, whose entry the machine reads at a.
  pub record Named (a k : ℕ) (m : Method) : Type 0 where
    pub from : read_refusal top a ≡ None
    pub untaken : untaken_after top w.untaken a ≡ s.untaken
    pub entry : read_value top w.words w.untaken a ≡ m.entry
    pub whole : m.entry + 4 < 0x10000
    pub params : m.params ≡ 256 * byte_in o.words m.entry + byte_in o.words (m.entry + 1)
    pub others : m.others ≡ 256 * byte_in o.words (m.entry + 2) + byte_in o.words (m.entry + 3)
    pub pool : slice_index v.image.pool k ≡ m.entry

  pub named : {a : ℕ} {m : Method} (k : ℕ) → method_at v.image.text (slice_get v.image.pool k) ≡ Some m → a ≡ plus cpp k → Named a k m
  named {a} {m} k found is =
      let f : IsMethod v o k m = method v o loads k m found in
      let r = constant_from loads h k f.there is in
      record {
        from = r.from;
        untaken = r.untaken;
        entry = r.value;
        whole = f.whole;
        params = f.params_are;
        others = f.others_are;
        pool = f.named;
      }

  -- The link word of a call with n arguments, where the machine has the method's two counts: its place, and what it holds.
  record Linked (count link n more : ℕ) : Type 0 where
    at : IsWordAccess top w (next (minus sp count)) (place_after s (drop (n + 1) s.running.operands))
    link_is : link ≡ place_after s (drop (n + 1) s.running.operands) + (n + 1 + more)
    few : more < 65536

  linked : {a k count own link : ℕ} (m : Method) (n : ℕ) → m.params ≡ suc n → n < length s.running.operands → Named a k m →
      count ≡ m.params → own ≡ m.others → link ≡ next (sp + own) → Linked count link n m.others
  linked {a} {k} {count} {own} {link} m n params enough f count_is own_is is =
      let args : Arguments n s.running.operands = arguments n s.running.operands enough in
      let rest : List ℕ = drop (n + 1) s.running.operands in
      let depth : length s.running.operands ≡ n + suc (length rest) = args.depth in
      let bottom : 0x8000 ≤ base s.callers = above s.callers in
      let high : top < 0x80000000 = map.high in
      let b2 : byte_in o.words (m.entry + 2) < 256 = byte_bound o.words (m.entry + 2) in
      let b3 : byte_in o.words (m.entry + 3) < 256 = byte_bound o.words (m.entry + 3) in
      let few : m.others < 65536 = omega (arith, f.others) in
      let at : ℕ = place_after s rest in
      let sp_is : sp ≡ at + n = omega (arith, h.sp_is) in
      let low : at < top = omega (arith, h.fits) in
      let start : minus sp count ≡ at - 1 = minus_is refl count_is (omega arith) (omega (arith, h.fits)) in
      record {
        at = access top w (next (minus sp count)) at (next_is (minus sp count) at (omega arith) (omega arith)) low;
        link_is = is ∙ next_is (sp + own) (at + (n + 1 + m.others)) (omega arith) (omega (arith, h.fits));
        few = few;
      }

  -- INVOKEVIRTUAL writes the link word at a place, the return address where that points, and LV after it.
  pub record Called (a at link back : ℕ) (to : State) : Type 0 where
    pub first : write_refusal top at ≡ None
    pub second : write_refusal top link ≡ None
    pub third : write_refusal top (next link) ≡ None
    pub high : 0x8000 ≤ at
    pub high' : 0x8000 ≤ link
    pub high'' : 0x8000 ≤ next link
    pub leaves : (tos' : ℕ) → RegistersStand o to (next link) at cpp tos'
        (after_write top (after_write top (after_write top (after_read top w a) at link) link back) (next link) lv)

  pub called : {a k count own link back : ℕ} {to : State} → (went : WithMethod v.image s k (λ m n. Fits v.map.stack_end (in_method s m n) to)) →
      Named a k went.method →
      count ≡ went.method.params → own ≡ went.method.others → link ≡ next (sp + own) → back ≡ s.at + 3 →
      Called a (next (minus sp count)) link back (in_method s went.method went.others)
  called {a} {k} {count} {own} {link} {back} went f count_is own_is is returns =
      let n : ℕ = went.others in
      let more : ℕ = went.method.others in
      let ps : List ℕ = take n s.running.operands in
      let rest : List ℕ = drop (n + 1) s.running.operands in
      let args : Arguments n s.running.operands = arguments n s.running.operands went.enough in
      let l : Linked count link n more = linked went.method n went.params went.enough f count_is own_is is in
      let long : length ps ≡ n = args.long in
      let bottom : 0x8000 ≤ base s.callers = above s.callers in
      let high : top < 0x80000000 = map.high in
      let many_locals : length (onto ps (replicate more None)) ≡ length ps + more = locals ps more in
      let at : ℕ = place_after s rest in
      let many : ℕ = length ps + 1 + more in
      let space : at + length ps + 1 + more + 1 < top = omega (arith, went.leads.fits, loads.long) in
      let b : IsWordAccess top w (next (minus sp count)) at = l.at in
      let link_is : link ≡ at + many = l.link_is ∙ omega arith in
      let d : IsWordAccess top w link (at + many) = access top w link (at + many) link_is (omega arith) in
      let e : IsWordAccess top w (next link) (at + many + 1) =
      access top w (next link) (at + many + 1) (next_is link (at + many + 1) (omega arith) (omega arith)) (omega arith) in
      let same : slice_set (slice_set (slice_set w.words (next (minus sp count)) link) link back) (next link) lv ≡ linked_words w.words at many
      (s.at + 3) (base s.callers) =
      λ j. slice_set (slice_set (slice_set w.words (b.is j) (d.is j)) (d.is j) (returns j)) (e.is j) (h.lv_is j) in
      let m1 : List ℕ = slice_set w.words at (at + many) in
      let m2 : List ℕ = slice_set m1 (at + many) (s.at + 3) in
      let g : Frame = frame_of_call ps more (s.at + 3) in
      record {
        first = b.write;
        second = d.write;
        third = e.write;
        high = omega (arith, b.is);
        high' = omega (arith, d.is);
        high'' = omega (arith, e.is);
        leaves = λ tos'. record {
          sp_is = omega (arith, e.is);
          lv_is = b.is;
          cpp_is = h.cpp_is;
          tos_is = tt;
          frames = frames_at g (frame_with s rest ∷ s.callers) (sym same)
              (entered w.words ps args.o rest more (s.at + 3) s.running s.callers (omega (arith, h.memory.long)) args.are h.frames);
          memory = memory_at (sym same) (memory_set o.words m2 (at + many + 1) (base s.callers) (omega arith)
              (memory_set o.words m1 (at + many) (s.at + 3) (omega arith) (memory_set o.words w.words at (at + many) (omega arith) h.memory)));
          fits = omega arith;
          untaken = f.untaken;
          given = e.given _ _ ∙ (d.given _ _ ∙ (b.given _ _ ∙ h.given));
        };
      }

  -- The second or the third of these words meets the stack's end.
  pub record CutOff (a at link : ℕ) (left : State) : Type 0 where
    pub first : write_refusal top at ≡ None
    pub high : 0x8000 ≤ at
    pub high' : 0x8000 ≤ link
    pub untaken : untaken_after top w.untaken a ≡ left.untaken
    pub given : given_after top w.given at link ≡ o.given ++ left.given

  pub record CutLate (at link : ℕ) (left : State) : Type 0 where
    pub second : write_refusal top link ≡ None
    pub refused : write_refusal top (next link) ≡ Some (StackLimit (next link))
    pub given : (back : ℕ) → given_after top (given_after top w.given at link) link back ≡ o.given ++ left.given

  pub cut_off : {a k count own link : ℕ} {left : State} → (over : WithMethod v.image s k
      (λ m n. Overflows v.map.stack_end (in_method s m n) s left)) → Named a k over.method →
      count ≡ over.method.params → own ≡ over.method.others → link ≡ next (sp + own) →
      CutOff a (next (minus sp count)) link left × ((write_refusal top link ≡ Some (StackLimit link)) ⊎ CutLate (next (minus sp count)) link left)
  cut_off {a} {k} {count} {own} {link} {left} over f count_is own_is is =
      let n : ℕ = over.others in
      let more : ℕ = over.method.others in
      let ps : List ℕ = take n s.running.operands in
      let rest : List ℕ = drop (n + 1) s.running.operands in
      let args : Arguments n s.running.operands = arguments n s.running.operands over.enough in
      let l : Linked count link n more = linked over.method n over.params over.enough f count_is own_is is in
      let bottom : 0x8000 ≤ base s.callers = above s.callers in
      let near : top ≤ 0x20000 = map.near in
      let many_locals : length (onto ps (replicate more None)) ≡ length ps + more = locals ps more in
      let depth : length s.running.operands ≡ n + suc (length rest) = args.depth in
      let at : ℕ = place_after s rest in
      let following : ℕ = at + (n + 1 + more) in
      let beyond : top < following + 2 = omega (arith, over.leads.over, loads.long, args.long) in
      let link_is : link ≡ following = l.link_is in
      let small : following < 0x60000 = omega (arith, l.few, h.fits) in
      let given : w.given ≡ o.given ++ left.given = h.given ∙ ap (λ (t : State). o.given ++ t.given) over.leads.leaves in (
        record {
          first = l.at.write;
          high = omega (arith, l.at.is);
          high' = omega arith;
          untaken = f.untaken ∙ ap (λ (t : State). t.untaken) over.leads.leaves;
          given = l.at.given _ _ ∙ given;
        },
        elim (cases_lt following top) [
          | inr full ↦ inl (limit top link (omega arith) (omega arith))
          | inl room ↦
              let d : IsWordAccess top w link following = access top w link following link_is room in
              let last : next link ≡ following + 1 = next_is link (following + 1) (omega arith) (omega arith) in
              inr (record {
                second = d.write;
                refused = limit top (next link) (omega arith) (omega arith);
                given = λ back. d.given _ _ ∙ (l.at.given _ _ ∙ given);
              })
        ],
      )
