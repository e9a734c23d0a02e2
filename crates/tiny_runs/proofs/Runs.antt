-- The code of a program does what the program means, calls and returns included.
use Rattle.tiny_runs.proofs.Common.{◌≡◌, ◌≤◌, ℕ, zero, suc, ◌+◌, Bool, if◌then◌else◌, List, [], ◌∷◌, ◌++◌, Option, Some, None, length, take, drop, map}
use Rattle.tiny_runs.proofs.Common.{replicate, refl, sym, ap, ◌∙◌, subst, arith, pos, slice_get, slice_index, ◌==◌, same_Some, lt-ltb, Instr, Bipush, Ireturn}
use Rattle.tiny_runs.proofs.Common.{Invokevirtual, Halt as HaltCode, instr_at, ImageView, params, others, method_at}
use Rattle.std.proofs.Math.Seq.{take-append_seam, drop-append-add}
use Rattle.ijvm_image.specs.declared.method.Method.{Method}
use Rattle.ijvm_meaning.specs.Prelude.{Frame, State, start_of, Stuck, limited, onto, in_method, entered, called_at, step_outcome}
use Rattle.tiny_tree.specs.Prelude.{Function, Program, IsCallable, names_count, parameters_seen, IsNamed, TinyWorld, and_then, in_turn, CallResults, Flow, GoesOn, Returns, returned, first_variables, execute_body, call, at_end, meaning, start_world}
use Rattle.tiny_code.specs.Prelude.{Places, code_size, statements_code, IsMethodAt, Holds}
use Rattle.tiny_runs.proofs.Led.{Follows, stuck, halts, lower, at_code, whole_prefix}
use Rattle.tiny_runs.proofs.Stands.{Spans, front, back, here, next}
use Rattle.tiny_runs.proofs.Does.{state, Agrees, Does, does_then, does_lower, does_after, does_push, does_give, does_cut, does_turn}
use Rattle.tiny_runs.proofs.Values.{onto_operands, Any, CallsRun, Setting, Running}
use Rattle.tiny_runs.proofs.Flows.{After, to, statements_do}

-- ---- operands and locals at a call

onto_append : (vs a l : List ℕ) → onto_operands vs (a ++ l) ≡ onto_operands vs a ++ l
onto_append [] a l = refl
onto_append (v ∷ vs) a l = onto_append vs (v ∷ a) l

onto_length : (vs a : List ℕ) → length (onto_operands vs a) ≡ length vs + length a
onto_length [] a = omega arith
onto_length (v ∷ vs) a = omega (arith, onto_length vs (v ∷ a))

locals_are : (vs acc : List ℕ) (ls : List (Option ℕ)) → onto (onto_operands vs acc) ls ≡ onto acc (map Some vs ++ ls)
locals_are [] acc ls = refl
locals_are (v ∷ vs) acc ls = locals_are vs (v ∷ acc) ls

none_set : (o x u : ℕ) → slice_get (replicate o None) x ≡ Some (Some u) → ⊥
none_set zero x u h = cc
none_set (suc o) zero u h = cc
none_set (suc o) (suc x) u h = none_set o x u h

argument_get : (vs : List ℕ) (o x u : ℕ) → slice_get (map Some vs ++ replicate o None) x ≡ Some (Some u) → u ≡ slice_index vs x
argument_get [] o x u h = absurd (none_set o x u h)
argument_get (v ∷ vs) o zero u h = sym (same_Some v u (same_Some (Some v) (Some u) h))
argument_get (v ∷ vs) o (suc x) u h = argument_get vs o x u h

zeros_get : (m x u : ℕ) → slice_get (replicate m (Some 0)) x ≡ Some (Some u) → u ≡ 0
zeros_get zero x u h = absurd cc
zeros_get (suc m) zero u h = sym (same_Some 0 u (same_Some (Some 0) (Some u) h))
zeros_get (suc m) (suc x) u h = zeros_get m x u h

-- the locals of a method that is called with these arguments: the link word, the arguments, and this many that are not set
abbrev first_locals : List ℕ → ℕ → List (Option ℕ)
first_locals vs count = None ∷ (map Some vs ++ replicate count None)

-- a method's first variables are its arguments
first_agrees : (vs : List ℕ) (o : ℕ) → Agrees 1 (first_locals vs o) (first_variables vs)
first_agrees vs o x u h =
    let e : 1 + x ≡ suc x = omega arith in
    argument_get vs o x u (subst (λ (k : ℕ). slice_get (first_locals vs o) k ≡ Some (Some u)) e h)

module _ (image : ImageView) (stack_end : ℕ) (p : Places) (program : Program) (named : IsNamed program) (holds : Holds image p program) where
  -- what a call's instruction does
  called_here : (f begin : ℕ) (vs : List ℕ) (g : Function) (m : IsMethodAt image p begin f g) → g.parameters ≡ length vs →
      (bk : Option ℕ) (callers : List Frame) (locals : List (Option ℕ)) (at : ℕ) (ops : List ℕ) (w : TinyWorld) →
      instr_at image.text at ≡ Some (Invokevirtual (p.entry f)) →
      step_outcome image stack_end (state bk callers locals at (onto_operands vs (0 ∷ ops)) w)
      ≡ limited stack_end (state bk callers locals at (onto_operands vs (0 ∷ ops)) w)
      (state (Some (at + 3)) (record { locals = locals; operands = ops; back = bk } ∷ callers) (first_locals vs (others image.text begin)) (begin + 4) [] w)
  called_here f begin vs g m counts bk callers locals at ops w is =
      let all : List ℕ = onto_operands vs (0 ∷ ops) in
      let s : State = state bk callers locals at all w in
      let count : ℕ = others image.text begin in
      let it : Method = record { entry = begin; params = params image.text begin; others = count } in
      let me : Method = record { entry = begin; params = suc (length vs); others = count } in
      let many_params : params image.text begin ≡ suc (length vs) = omega (arith, m.params, counts) in
      let mine : List ℕ = onto_operands vs [] in
      let many : length mine ≡ length vs = omega (arith, onto_length vs []) in
      let parts : all ≡ mine ++ (0 ∷ ops) = onto_append vs [] (0 ∷ ops) in
      let takes : take (length vs) all ≡ mine =
      ap (λ (l : List ℕ). take (length vs) l) parts
      ∙ ap (λ (k : ℕ). take k (mine ++ (0 ∷ ops))) (sym many) ∙ take-append_seam mine (0 ∷ ops) in
      let drops : drop (length vs + 1) all ≡ ops =
      ap (λ (l : List ℕ). drop (length vs + 1) l) parts
      ∙ ap (λ (k : ℕ). drop (k + 1) (mine ++ (0 ∷ ops))) (sym many) ∙ drop-append-add mine (0 ∷ ops) 1 in
      let unset : List (Option ℕ) = replicate count None in
      let after : List (Option ℕ) → List ℕ → State =
      λ ls d. state (Some (at + 3)) (record { locals = locals; operands = d; back = bk } ∷ callers) (None ∷ ls) (begin + 4) [] w in
      let whole : in_method s me (length vs) ≡ after (map Some vs ++ unset) ops =
      ap (λ (l : List ℕ). after (onto l unset) (drop (length vs + 1) all)) takes
      ∙ ap (λ (ls : List (Option ℕ)). after ls (drop (length vs + 1) all)) (locals_are vs [] unset)
      ∙ ap (λ (d : List ℕ). after (map Some vs ++ unset) d) drops in
      at_code image _ s _ is ∙ ap (λ (k : Option ℕ). called_at stack_end s (method_at image.text k)) m.entry
      ∙ ap (λ (b : Bool). called_at stack_end s (if b then Some it else None)) (lt-ltb (begin + 4) (length image.text) m.inside)
      ∙ ap (λ (k : ℕ). entered stack_end s (record { entry = begin; params = k; others = count }) k) many_params
      ∙ ap (λ (b : Bool). if b then limited stack_end s (in_method s me (length vs)) else Stuck)
      (lt-ltb (length vs) (length all) (omega (arith, onto_length vs (0 ∷ ops)))) ∙ ap (λ (x : State). limited stack_end s x) whole

  abbrev setting : (n : ℕ) (calls : CallResults) → CallsRun image stack_end p program n calls → Setting
  setting n calls runs =
      record {
        image = image;
        stack_end = stack_end;
        places = p;
        program = program;
        object = holds.object;
        turns = n;
        calls = calls;
        runs = runs;
      }

  -- a call, with the turns that are left after it has begun
  module _ (n : ℕ) (calls : CallResults) (runs : CallsRun image stack_end p program n calls) (f : ℕ) (vs : List ℕ)
      (k : IsCallable program f (length vs)) (bk : Option ℕ) (callers : List Frame) (locals : List (Option ℕ)) (at : ℕ) (ops : List ℕ) where
    abbrev begin : ℕ
    begin = (holds.methods f k.function k.is k.other).0

    m : IsMethodAt image p begin f k.function
    m = (holds.methods f k.function k.is k.other).1

    abbrev waiting : List Frame
    waiting = record { locals = locals; operands = ops; back = bk } ∷ callers

    abbrev running : Running
    running =
        record { in_main = f == program.main; names = names_count k.function; local = 1; back = Some (at + 3); callers = waiting }

    abbrev body : List Instr
    body = statements_code p 1 k.function.body

    abbrev last : List Instr
    last = Bipush (pos 0) ∷ Ireturn ∷ []

    abbrev end : ℕ
    end = begin + 4 + code_size body

    -- where the caller goes on
    abbrev onward : (v : ℕ) → Any v → TinyWorld → State
    onward v x u = state bk callers locals (at + 3) (v ∷ ops) u

    whole : Spans image.text (begin + 4) (begin + 4 + code_size (body ++ last)) (body ++ last)
    whole = record { has = m.code; ends = refl }

    tail : Spans image.text end (begin + 4 + code_size (body ++ last)) last
    tail = back body last whole

    -- after the body the caller has the value
    after_by : (flow : Flow) (x : After (setting n calls runs) running flow) (u : TinyWorld) →
        Does image stack_end 0 (returned flow u) u (to (setting n calls runs) running end flow x u) Any onward
    after_by (GoesOn vars) x u =
        let s : State = state (Some (at + 3)) waiting x.0 end [] u in
        let t : State = state (Some (at + 3)) waiting x.0 (end + 2) (0 ∷ []) u in
        does_lower 1 (does_push s t s (at_code image _ s _ (here _ _ tail)) refl (does_lower 1 (does_after t _
        (at_code image _ t Ireturn (here _ _ (next _ _ tail))) refl (does_give 0 u u Any onward _ tt refl refl))))
    after_by (Returns v) x u =
        let s : State = state (Some (at + 3)) waiting x.0 x.1 (v ∷ []) u in
        does_lower 1 (does_after s _ (at_code image _ s Ireturn x.2) refl (does_give v u u Any onward _ tt refl refl))

    abbrev entered_at : TinyWorld → State
    entered_at w = state (Some (at + 3)) waiting (first_locals vs (others image.text begin)) (begin + 4) [] w

    body_does : (w : TinyWorld) → w.turns ≤ n →
        Does image stack_end 0 (and_then (execute_body calls n (slice_get program.functions f) (first_variables vs) w) returned) w (entered_at w) Any onward
    body_does w few =
        subst
        (λ (o : Option Function). Does image stack_end 0 (and_then (execute_body calls n o (first_variables vs) w) returned) w (entered_at w) Any onward)
        (sym k.is) (does_then (statements_do (setting n calls runs) running _ _ (named.functions f k.function k.is).body
        (holds.numbers f k.function k.is) (begin + 4) end (front body last whole) (first_variables vs)
        (first_locals vs (others image.text begin)) w few (first_agrees vs _)) (λ flow x u le. after_by flow x u))

    enters : (w : TinyWorld) → w.turns ≤ suc n → instr_at image.text at ≡ Some (Invokevirtual (p.entry f)) →
        Does image stack_end 0
        (in_turn w w.turns (λ w. and_then (execute_body calls n (slice_get program.functions f) (first_variables vs) w) returned))
        w (state bk callers locals at (onto_operands vs (0 ∷ ops)) w) Any onward
    enters w few is =
        let s : State = state bk callers locals at (onto_operands vs (0 ∷ ops)) w in
        does_turn w s Any onward _ w.turns refl refl (λ t e. let u : TinyWorld = record w { turns = t } in
        does_push s _ s (called_here f begin vs _ m k.counts bk callers locals at ops w is) refl (body_does u (omega (arith, e, few))))

  call_does : (n : ℕ) → CallsRun image stack_end p program n (call program.functions n)
  call_does zero = record { by = λ f vs k bk callers locals at ops w few is. does_cut w _ Any _ (omega (arith, few)) refl }
  call_does (suc n) = record { by = λ f vs k bk callers locals at ops w few is. enters n _ (call_does n) f vs k bk callers locals at ops w few is }

  -- ---- main

  module _ (n : ℕ) where
    abbrev all_calls : Setting
    all_calls = setting n (call program.functions n) (call_does n)

    abbrev main_running : Running
    main_running =
        record { in_main = program.main == program.main; names = names_count holds.main; local = 0; back = None; callers = [] }

    ends_by : (stop halt : ℕ) → Spans image.text stop halt (HaltCode ∷ []) → (flow : Flow) (x : After all_calls main_running flow) (u : TinyWorld) →
        Follows image stack_end (at_end flow u) u.turns (to all_calls main_running stop flow x u)
    ends_by stop halt final (GoesOn vars) x u = halts image stack_end _ u.turns _ (at_code image stack_end _ HaltCode (here _ _ final)) refl
    ends_by stop halt final (Returns v) x u = stuck image stack_end _ u.turns _ (at_code image stack_end _ Ireturn x.2) (whole_prefix u.given)

    -- The central lemma.
    pub follows : (main_locals : ℕ) (input : List ℕ) → Follows image stack_end (meaning program input n) n (start_of main_locals input)
    follows main_locals input =
        let w : TinyWorld = start_world input n in
        let s : State = start_of main_locals input in
        let locals : List (Option ℕ) = replicate main_locals (Some 0) in
        let body : List Instr = statements_code p 0 holds.main.body in
        let stop : ℕ = 0 + code_size body in
        let whole : Spans image.text 0 (0 + code_size (body ++ HaltCode ∷ [])) (body ++ HaltCode ∷ []) =
        record { has = holds.main_at; ends = refl } in
        let agrees : Agrees 0 locals (first_variables []) = (λ x u h. let e : 0 + x ≡ x = omega arith in
        zeros_get main_locals x u (subst (λ (k : ℕ). slice_get locals k ≡ Some (Some u)) e h)) in
        let runs : Does image stack_end 0
        (execute_body (call program.functions n) n (slice_get program.functions program.main) (first_variables []) w) w s
        (After all_calls main_running) (to all_calls main_running stop) =
        subst
        (λ (o : Option Function). Does image stack_end 0 (execute_body (call program.functions n) n o (first_variables []) w) w s
        (After all_calls main_running) (to all_calls main_running stop))
        (sym holds.main_is)
        (statements_do all_calls main_running holds.main.body (parameters_seen holds.main)
        (named.functions program.main holds.main holds.main_is).body (holds.numbers program.main holds.main holds.main_is)
        0 stop (front body (HaltCode ∷ []) whole) (first_variables []) locals w (omega arith) agrees) in
        lower image stack_end (meaning program input n) n (0 + n) s (omega arith)
        (runs.by at_end (λ flow x u le. ends_by stop _ (back body (HaltCode ∷ []) whole) flow x u))
