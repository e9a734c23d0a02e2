-- The code of tests, choices and loops, piece by piece.
use Rattle.tiny_emit.proofs.Common.{◌≡◌, ℕ, ℤ, pos, ◌+◌, ◌-◌, List, [], ◌∷◌, ◌++◌, length, refl, sym, ap, ◌∙◌, subst, arith, neg_ℤ, zip, Instr, Iflt, IfIcmpeq}
use Rattle.tiny_emit.proofs.Common.{Goto, HasLines, Jump, distances, jumps_of, Cond, Expr, Equal, Different, Less, Places, choice, code_size, if_code}
use Rattle.tiny_emit.proofs.Common.{leave_code, loop, test_code, if_lines, leave_lines, while_lines, distances_append, leave_lined, test_lined, bytes_size}
use Rattle.tiny_emit.proofs.Common.{Text, Ifeq, jump_by, joined, then, Adds, AddsCode, AddsJump, IsCode, code_bytes, jump_of}
use Rattle.ijvm_program.specs.declared.line.Jump as kinds

zip_append : (i j : List ℕ) (d e : List ℤ) → length i ≡ length d → zip (i ++ j) (d ++ e) ≡ zip i d ++ zip j e
zip_append [] j [] e h = refl
zip_append [] j (z ∷ d) e h = absurd (omega (arith, h))
zip_append (n ∷ i) j [] e h = absurd (omega (arith, h))
zip_append (n ∷ i) j (z ∷ d) e h = ap (λ (js : List Jump). (n, z) ∷ js) (zip_append i j d e (omega (arith, h)))

jumps_append : (x y : List Instr) (i j : List ℕ) → HasLines i x → jumps_of (i ++ j) (x ++ y) ≡ jumps_of i x ++ jumps_of j y
jumps_append x y i j h = ap (λ (ds : List ℤ). zip (i ++ j) ds) (distances_append x y) ∙ zip_append i j (distances x) (distances y) h

pub then_code : (a b c : Text) (x y : List Instr) (i j : List ℕ) → HasLines i x → AddsCode a b x i → AddsCode b c y j →
    AddsCode a c (x ++ y) (i ++ j)
then_code a b c x y i j count h k =
    subst (λ (js : List Jump). Adds a c (code_bytes (x ++ y)) js) (sym (jumps_append x y i j count))
    (subst (λ (l : List ℕ). Adds a c l (jumps_of i x ++ jumps_of j y)) (sym (joined x y))
    (then a b c (code_bytes x) (code_bytes y) (jumps_of i x) (jumps_of j y) h k))

text_size : (text : Text) (x : List Instr) (i : List ℕ) (m : ℕ) → IsCode text x i → m ≡ length text.bytes.items → m ≡ code_size x
text_size text x i m h is = is ∙ h.size ∙ bytes_size x

jump_lined : (j : kinds.Jump) (line : ℕ) (z : ℤ) → HasLines (line ∷ []) (jump_by j z ∷ [])
jump_lined Ifeq line z = refl
jump_lined _ line z = refl

jump_added : (a b : Text) (j : kinds.Jump) (line : ℕ) (z : ℤ) → AddsJump a b j line z → AddsCode a b (jump_by j z ∷ []) (line ∷ [])
jump_added a b Ifeq line z h = h
jump_added a b _ line z h = h

module _ (a b c d e f : Text) (test : List Instr) (w v : kinds.Jump) (same : w ≡ v) (line m n : ℕ) (x y : List Instr) (i j : List ℕ)
    (straight : HasLines [] test) (count : HasLines i x) where
  abbrev chosen : ℕ → ℕ → List Instr
  chosen k l = test ++ (jump_by v (pos (6 + k)) ∷ (x ++ (Goto (pos (3 + l)) ∷ y)))

  abbrev Added : ℕ → ℕ → Type 0
  Added k l = AddsCode a f (chosen k l) (line ∷ (i ++ line ∷ j))

  choice_of : AddsCode a b test [] → AddsJump b c v line (pos (6 + m)) → AddsCode c d x i →
      AddsCode d e (Goto (pos (3 + n)) ∷ []) (line ∷ []) → AddsCode e f y j → Added m n
  choice_of tested on first past second =
      let after : List Instr = Goto (pos (3 + n)) ∷ y in
      let past_all : AddsCode d f after (line ∷ j) = then_code d e f (Goto (pos (3 + n)) ∷ []) y (line ∷ []) j refl past second in
      let sides : AddsCode c f (x ++ after) (i ++ line ∷ j) = then_code c d f x after i (line ∷ j) count first past_all in
      let all : AddsCode b f (jump_by v (pos (6 + m)) ∷ (x ++ after)) (line ∷ (i ++ line ∷ j)) =
      then_code b c f (jump_by v (pos (6 + m)) ∷ []) (x ++ after) (line ∷ []) (i ++ line ∷ j) (jump_lined v line (pos (6 + m)))
      (jump_added b c v line (pos (6 + m)) on) sides in
      then_code a b f test (jump_by v (pos (6 + m)) ∷ (x ++ after)) [] (line ∷ (i ++ line ∷ j)) straight tested all

  pub choice_added : (first second : Text) → IsCode first x i → IsCode second y j →
      m ≡ length first.bytes.items → n ≡ length second.bytes.items →
      AddsCode a b test [] → AddsJump b c w line (pos (6 + m)) → AddsCode c d x i →
      AddsCode d e (Goto (pos (3 + n)) ∷ []) (line ∷ []) → AddsCode e f y j →
      AddsCode a f (choice test (jump_by v) x y) (line ∷ (i ++ line ∷ j))
  choice_added first second front back m_is n_is tested on one past two =
      subst (λ (k : ℕ). Added (code_size x) k) (text_size second y j n back n_is)
      (subst (λ (k : ℕ). Added k n) (text_size first x i m front m_is)
      (choice_of tested (subst (λ (k : kinds.Jump). AddsJump b c k line (pos (6 + m))) same on) one past two))

module _ (p : Places) (local line : ℕ) (a b : List Instr) (i j : List ℕ) (Q : List Instr → List ℕ → Type 0) where
  abbrev Chosen : Cond → Type 0
  Chosen t = Q (choice (test_code p local t) (jump_by (jump_of t)) a b) (line ∷ (i ++ line ∷ j))

  pub if_different : (t : Cond) (l r : Expr) → t ≡ Different l r → Chosen t → Q (if_code p local t a b) (if_lines line t i j)
  if_different t l r e h = subst (λ (k : Cond). Q (if_code p local k a b) (if_lines line k i j)) (sym e) (subst Chosen e h)

  pub if_equal : (t : Cond) (l r : Expr) → t ≡ Equal l r → Chosen t → Q (if_code p local t b a) (if_lines line t j i)
  if_equal t l r e h = subst (λ (k : Cond). Q (if_code p local k b a) (if_lines line k j i)) (sym e) (subst Chosen e h)

  pub if_less : (t : Cond) (l r : Expr) → t ≡ Less l r → Chosen t → Q (if_code p local t b a) (if_lines line t j i)
  if_less t l r e h = subst (λ (k : Cond). Q (if_code p local k b a) (if_lines line k j i)) (sym e) (subst Chosen e h)

module _ (p : Places) (local line n : ℕ) (a b c : Text) where
  abbrev Left : Cond → Type 0
  Left t = AddsCode a c (leave_code p local t n) (leave_lines line t)

  pub leave_equal : (t : Cond) (l r : Expr) → t ≡ Equal l r → AddsCode a b (IfIcmpeq (pos 6) ∷ []) (line ∷ []) →
      AddsCode b c (Goto (pos (6 + n)) ∷ []) (line ∷ []) → Left t
  leave_equal t l r e h k =
      subst Left (sym e) (then_code a b c (IfIcmpeq (pos 6) ∷ []) (Goto (pos (6 + n)) ∷ []) (line ∷ []) (line ∷ []) refl h k)

  pub leave_less : (t : Cond) (l r : Expr) → t ≡ Less l r → AddsCode a b (Iflt (pos 6) ∷ []) (line ∷ []) →
      AddsCode b c (Goto (pos (6 + n)) ∷ []) (line ∷ []) → Left t
  leave_less t l r e h k =
      subst Left (sym e) (then_code a b c (Iflt (pos 6) ∷ []) (Goto (pos (6 + n)) ∷ []) (line ∷ []) (line ∷ []) refl h k)

module _ (a b c d e : Text) (p : Places) (local line n z : ℕ) (t : Cond) (x : List Instr) (i : List ℕ) where
  abbrev leave_at : ℕ → List Instr
  leave_at k = leave_code p local t k

  abbrev back_from : ℕ → ℤ
  back_from k = neg_ℤ (pos (code_size (test_code p local t) + code_size (leave_at k) + k))

  abbrev looped : ℕ → List Instr
  looped k = test_code p local t ++ (leave_at k ++ (x ++ Goto (back_from k) ∷ []))

  pub loop_added : (body : Text) → HasLines i x → IsCode body x i → n ≡ length body.bytes.items →
      z ≡ code_size (test_code p local t) + code_size (leave_at n) + n →
      AddsCode a b (test_code p local t) [] → AddsCode b c (leave_at n) (leave_lines line t) → AddsCode c d x i →
      AddsCode d e (Goto (neg_ℤ (pos z)) ∷ []) (line ∷ []) →
      AddsCode a e (loop (test_code p local t) (leave_at (code_size x)) x) (while_lines line t i)
  loop_added body count is n_is z_is tested left inner back =
      let jump : List Instr = Goto (back_from n) ∷ [] in
      let back' : AddsCode d e jump (line ∷ []) = subst (λ (k : ℕ). AddsCode d e (Goto (neg_ℤ (pos k)) ∷ []) (line ∷ [])) z_is back in
      let last : AddsCode c e (x ++ jump) (i ++ line ∷ []) = then_code c d e x jump i (line ∷ []) count inner back' in
      let most : AddsCode b e (leave_at n ++ (x ++ jump)) (while_lines line t i) =
      then_code b c e (leave_at n) (x ++ jump) (leave_lines line t) (i ++ line ∷ []) (leave_lined p local line t n) left last in
      subst (λ (k : ℕ). AddsCode a e (looped k) (while_lines line t i)) (text_size body x i n is n_is)
      (then_code a b e (test_code p local t) (leave_at n ++ (x ++ jump)) [] (while_lines line t i) (test_lined p local t) tested most)

  -- how far back
  pub gone_back : (begin end : ℕ) (body : Text) → IsCode body x i → n ≡ length body.bytes.items →
      begin ≡ length a.bytes.items → end ≡ length d.bytes.items →
      AddsCode a b (test_code p local t) [] → AddsCode b c (leave_at n) (leave_lines line t) →
      AddsCode c d x i → end - begin ≡ code_size (test_code p local t) + code_size (leave_at n) + n
  gone_back begin end body is n_is begin_is end_is tested left inner =
      let test_size = bytes_size (test_code p local t) in
      let leave_size = bytes_size (leave_at n) in
      omega (arith, tested.size, left.size, inner.size, is.size, test_size, leave_size)
