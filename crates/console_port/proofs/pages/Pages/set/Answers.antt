use Rattle.std.proofs.Common.{◌≡◌, ◌≢◌, ◌<◌, ◌+◌, ◌/◌, ◌%◌, ℕ, List, arith, ◌∙◌, sym, ap, subst, length, get_or, set}
use Rattle.std.proofs.lemmas.List.{with_items_is}
use Rattle.console_port.specs.Prelude.{ArePaged, HasRoom, place_in_frames, words_of}
use Rattle.console_port.proofs.Paging.{length-words_of, place_within, paged_write, words_write}
use Rattle.console_port.proofs.pages.Pages.set.Goals as goal
use Rattle.console_port.proofs.pages.Pages.set.Goals.{After-frame_of-start}

pub frame_of-start-requires-clause-page : goal.frame_of-start-requires-clause-page
frame_of-start-requires-clause-page c =
    let inside : c.args.at < c.self.inside.size = omega (arith, ap length c.self.view_is, length-words_of c.self.inside.table.items c.self.inside.frames.items c.self.inside.size) in
    omega (arith, ap length c.deref_mut.ensures.value, c.self.invariant.0.pages)

pub frame_of-start-requires-clause-room : goal.frame_of-start-requires-clause-room
frame_of-start-requires-clause-room c = subst (λ t. HasRoom t c.self.inside.frames.cap) (sym c.deref_mut.ensures.value) c.self.invariant.1

pub frame_of-start-requires-clause-paged : goal.frame_of-start-requires-clause-paged
frame_of-start-requires-clause-paged c =
    let was : ArePaged c.deref_mut.result.now c.self.inside.frames.items c.self.inside.size =
    subst (λ t. ArePaged t c.self.inside.frames.items c.self.inside.size) (sym c.deref_mut.ensures.value) c.self.invariant.0 in
    (c.self.inside.size, was)

-- the address is in the memory, and its page has a frame now
inside : (c : goal.After-frame_of-start) → c.args.at < c.self.inside.size
inside c = omega (arith, ap length c.self.view_is, length-words_of c.self.inside.table.items c.self.inside.frames.items c.self.inside.size)

was : (c : goal.After-frame_of-start) → ArePaged c.deref_mut.result.now c.self.inside.frames.items c.self.inside.size
was c = subst (λ t. ArePaged t c.self.inside.frames.items c.self.inside.size) (sym c.deref_mut.ensures.value) c.self.invariant.0

paged : (c : goal.After-frame_of-start) → ArePaged c.frame_of-start.new.table c.frame_of-start.new.frames.items c.self.inside.size
paged c = c.frame_of-start.ensures.paged c.self.inside.size (was c)

own : (c : goal.After-frame_of-start) → get_or c.frame_of-start.new.table (c.args.at / 1024) 0 ≢ 0
own c = λ e. c.frame_of-start.ensures.own (c.frame_of-start.ensures.frame ∙ e)

within : (c : goal.After-frame_of-start) → place_in_frames c.frame_of-start.new.table c.args.at < length c.frame_of-start.new.frames.items
within c = place_within c.frame_of-start.new.table c.frame_of-start.new.frames.items c.self.inside.size (paged c) c.args.at c.args.value (inside c) (own c)

pub overflow_add-start : goal.overflow_add-start
overflow_add-start c =
    let made = (goal.at.overflow_add-start c).After-frame_of-start in
    let frames = c.frame_of-start.new.frames in
    omega (arith, within made, c.frame_of-start.ensures.frame, frames.ok.0, frames.ok.1, frames.small)

pub index_mut-requires : goal.index_mut-requires
index_mut-requires c =
    let made = (goal.at.index_mut-requires c).After-frame_of-start in
    omega (arith, within made, c.frame_of-start.ensures.frame, c.frame_of-start.new.frames.ok.0)

pub invariant_of-self : goal.invariant_of-self
invariant_of-self c =
    let made = (goal.at.invariant_of-self c).After-frame_of-start in
    let table : List ℕ = c.frame_of-start.new.table in
    let frames : List ℕ = c.frame_of-start.new.frames.items in
    let long : length table ≡ c.self.inside.table.len = omega (arith, c.frame_of-start.auto.table, c.deref_mut.ensures.len) in
    let at : ℕ = c.frame_of-start.result + c.args.at % 1024 in
    let there : at ≡ place_in_frames table c.args.at = ap (λ (n : ℕ). n + c.args.at % 1024) c.frame_of-start.ensures.frame in
    let room : HasRoom table c.frame_of-start.new.frames.cap = omega (arith, c.self.invariant.1, c.frame_of-start.ensures.capacity, long, c.self.inside.table.ok.0) in
    subst (λ t. ArePaged t (set frames at c.args.value) c.self.inside.size × HasRoom t c.frame_of-start.new.frames.cap) (sym (with_items_is c.self.inside.table table long)) (
      subst (λ n. ArePaged table (set frames n c.args.value) c.self.inside.size) (sym there)
          (paged_write table frames c.self.inside.size (paged made) c.args.at c.args.value (inside made) (own made)),
      room,
    )

pub returns : goal.returns
returns c =
    let made = (goal.at.returns c).After-frame_of-start in
    let table : List ℕ = c.frame_of-start.new.table in
    let frames : List ℕ = c.frame_of-start.new.frames.items in
    let long : length table ≡ c.self.inside.table.len = omega (arith, c.frame_of-start.auto.table, c.deref_mut.ensures.len) in
    let at : ℕ = c.frame_of-start.result + c.args.at % 1024 in
    let there : at ≡ place_in_frames table c.args.at = ap (λ (n : ℕ). n + c.args.at % 1024) c.frame_of-start.ensures.frame in
    let words_is : words_of table frames c.self.inside.size ≡ c.args.self.now =
    c.frame_of-start.ensures.words c.self.inside.size (was made)
    ∙ (ap (λ t. words_of t c.self.inside.frames.items c.self.inside.size) c.deref_mut.ensures.value ∙ c.self.view_is) in
    ap (λ t. words_of t (set frames at c.args.value) c.self.inside.size) (with_items_is c.self.inside.table table long)
    ∙ (ap (λ (n : ℕ). words_of table (set frames n c.args.value) c.self.inside.size) there
    ∙ (words_write table frames c.self.inside.size (paged made) c.args.at c.args.value (inside made) (own made)
    ∙ ap (λ words. set words c.args.at c.args.value) words_is))
