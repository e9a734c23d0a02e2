use Rattle.mic2_fetch_unit.proofs.Common.{◌≡◌, ℕ, ◌++◌, Some, None, drop, slice_index, sym, ap, ◌∙◌, option_map, wrap, next, Prefetch, bytes_of_word}
use Rattle.mic2_fetch_unit.proofs.Units.{edge_none, edge_some}
use Rattle.mic2_fetch_unit.proofs.fetch_unit.FetchUnit.go_on.Goals as goal

pub returns-then-full : goal.returns-then-full
returns-then-full c = c.take.ensures c.args.bus.now.words

pub returns-in-None : goal.returns-in-None
returns-in-None c =
    let u : Prefetch = c.args.self.now in
    let is : u.pending ≡ None = ap (λ (v : Prefetch). v.pending) (sym c.self.view_is) ∙ c.in-None.is in
    let bytes : c.leave.new.self ≡ drop c.args.taken u.bytes = c.leave.ensures ∙ ap (λ (v : Prefetch). drop c.args.taken v.bytes) c.self.view_is in
    let pending = c.sampled-pending.ensures ∙ ap (option_map (λ (at : ℕ). slice_index c.args.bus.now.words at)) c.requires.at in
    (λ i. record { bytes = bytes i; imar = (c.self.view_is i).imar; skip = (c.self.view_is i).skip; pending = pending i })
    ∙ sym (edge_none c.args.bus.now.words c.args.taken u is)

pub returns-in-Some : goal.returns-in-Some
unfolding wrap
returns-in-Some c =
    let u : Prefetch = c.args.self.now in
    let is : u.pending ≡ Some c.in-Some.word = ap (λ (v : Prefetch). v.pending) (sym c.self.view_is) ∙ c.in-Some.is in
    let front : c.leave-in-Some.new.self ≡ drop c.args.taken u.bytes = c.leave-in-Some.ensures ∙ ap (λ (v : Prefetch). drop c.args.taken v.bytes) c.self.view_is in
    let bytes = c.enter.ensures ∙ (λ i. front i ++ drop (c.self.view_is i).skip (bytes_of_word c.in-Some.word)) in
    let pending = c.sampled-pending.ensures ∙ ap (option_map (λ (at : ℕ). slice_index c.args.bus.now.words at)) c.requires.at in
    (λ i. record { bytes = bytes i; imar = next (c.self.view_is i).imar; skip = 0; pending = pending i })
    ∙ sym (edge_some c.args.bus.now.words c.args.taken c.in-Some.word u is)
