use Rattle.tiny_emit.proofs.Common.{ap, List, ℕ, on_ok_weaker, Instr, places_in, cond_tree, AddsCode}
use Rattle.tiny_emit.proofs.Sides.{if_different, if_equal, if_less}
use Rattle.tiny_emit.proofs.choice.add_if.Goals as goal

pub returns-in-Different : goal.returns-in-Different
returns-in-Different c =
    on_ok_weaker c.add_choice.result
    (λ h a b i j front back taken other. if_different (places_in c.args.table.now) c.args.local c.args.line a b i j
    (λ (code : List Instr) (lines : List ℕ). AddsCode c.args.text.now c.add_choice.new.text code lines)
    (cond_tree c.args.cond.now) _ _ (ap cond_tree c.in-Different.is) (h a b i j front taken other)) c.add_choice.ensures

pub returns-in-Equal : goal.returns-in-Equal
returns-in-Equal c =
    on_ok_weaker c.add_choice-in-Equal.result
    (λ h a b i j front back taken other. if_equal (places_in c.args.table.now) c.args.local c.args.line b a j i
    (λ (code : List Instr) (lines : List ℕ). AddsCode c.args.text.now c.add_choice-in-Equal.new.text code lines)
    (cond_tree c.args.cond.now) _ _ (ap cond_tree c.in-Equal.is) (h b a j i back other taken)) c.add_choice-in-Equal.ensures

pub returns-in-Less : goal.returns-in-Less
returns-in-Less c =
    on_ok_weaker c.add_choice-in-Less.result
    (λ h a b i j front back taken other. if_less (places_in c.args.table.now) c.args.local c.args.line b a j i
    (λ (code : List Instr) (lines : List ℕ). AddsCode c.args.text.now c.add_choice-in-Less.new.text code lines)
    (cond_tree c.args.cond.now) _ _ (ap cond_tree c.in-Less.is) (h b a j i back other taken)) c.add_choice-in-Less.ensures
