use Rattle.std.proofs.Common.{◌≡◌, ◌<◌, ◌+◌, ◌/◌, ◌%◌, ℕ, arith, ◌∙◌, sym, ap, length, get_or}
use Rattle.std.proofs.lemmas.List.{get_or_read}
use Rattle.console_port.proofs.Paging.{length-words_of, word_of_pages, within_frame}
use Rattle.console_port.proofs.pages.Pages.word.Goals as goal

pub index-requires : goal.index-requires
index-requires c =
    let inside : c.args.at < c.self.inside.size = omega (arith, ap length c.self.view_is, length-words_of c.self.inside.table.items c.self.inside.frames.items c.self.inside.size) in
    omega (arith, c.self.inside.table.ok.0, c.self.invariant.0.pages)

pub overflow_add-index : goal.overflow_add-index
overflow_add-index c =
    let inside : c.args.at < c.self.inside.size = omega (arith, ap length c.self.view_is, length-words_of c.self.inside.table.items c.self.inside.frames.items c.self.inside.size) in
    let page : c.args.at / 1024 < length c.self.inside.table.items = omega (arith, c.self.invariant.0.pages) in
    let start : c.index.result.now ≡ get_or c.self.inside.table.items (c.args.at / 1024) 0 = get_or_read c.self.inside.table.items (c.args.at / 1024) c.index.result.now page c.index.ensures 0 in
    let w = within_frame c.self.inside.table.items c.self.inside.frames.items c.self.inside.size c.self.invariant.0 (c.args.at / 1024) in
    omega (arith, c.self.inside.frames.ok.0, c.self.inside.frames.ok.1, c.self.inside.frames.small)

pub index-requires-2 : goal.index-requires-2
index-requires-2 c =
    let inside : c.args.at < c.self.inside.size = omega (arith, ap length c.self.view_is, length-words_of c.self.inside.table.items c.self.inside.frames.items c.self.inside.size) in
    let page : c.args.at / 1024 < length c.self.inside.table.items = omega (arith, c.self.invariant.0.pages) in
    let start : c.index.result.now ≡ get_or c.self.inside.table.items (c.args.at / 1024) 0 = get_or_read c.self.inside.table.items (c.args.at / 1024) c.index.result.now page c.index.ensures 0 in
    let w = within_frame c.self.inside.table.items c.self.inside.frames.items c.self.inside.size c.self.invariant.0 (c.args.at / 1024) in
    omega (arith, c.self.inside.frames.ok.0)

pub returns : goal.returns
returns c =
    let inside : c.args.at < c.self.inside.size = omega (arith, ap length c.self.view_is, length-words_of c.self.inside.table.items c.self.inside.frames.items c.self.inside.size) in
    let page : c.args.at / 1024 < length c.self.inside.table.items = omega (arith, c.self.invariant.0.pages) in
    let start : c.index.result.now ≡ get_or c.self.inside.table.items (c.args.at / 1024) 0 = get_or_read c.self.inside.table.items (c.args.at / 1024) c.index.result.now page c.index.ensures 0 in
    let w = within_frame c.self.inside.table.items c.self.inside.frames.items c.self.inside.size c.self.invariant.0 (c.args.at / 1024) in
    let fits : c.index.result.now + c.args.at % 1024 < length c.self.inside.frames.items = omega arith in
    get_or_read c.self.inside.frames.items (c.index.result.now + c.args.at % 1024) c.index-2.result.now fits c.index-2.ensures 0
    ∙ (ap (λ (n : ℕ). get_or c.self.inside.frames.items (n + c.args.at % 1024) 0) start
    ∙ (sym (word_of_pages c.self.inside.table.items c.self.inside.frames.items c.self.inside.size c.args.at inside)
    ∙ ap (λ words. get_or words c.args.at 0) c.self.view_is))
