use Rattle.mic_base.proofs.Common.{◌≡◌, ◌∙◌, Some, arith, sym, rules, option_map, get_by_text, text_keys}
use Rattle.mic_base.proofs.FileLemmas.{file_is}
use Rattle.mic_base.proofs.memory.files.MemFiles.add.Goals as goal

pub returns-clause-added : goal.returns-clause-added
returns-clause-added c =
    let new = record c.args.self.now { files = c.insert.new.self } in
    let stored : option_map (λ bytes. bytes.items) (get_by_text c.insert.new.self c.args.name.now) ≡ Some c.args.bytes.now = search rules in
    file_is new c.args.name.now ∙ stored

pub returns-clause-others : goal.returns-clause-others
returns-clause-others c = λ other differs.
    let new = record c.args.self.now { files = c.insert.new.self } in
    let kept : option_map (λ bytes. bytes.items) (get_by_text c.insert.new.self other) ≡ option_map (λ bytes. bytes.items) (get_by_text c.args.self.now.files other) = grind (arith, text_keys) in
    file_is new other ∙ (kept ∙ sym (file_is c.args.self.now other))
