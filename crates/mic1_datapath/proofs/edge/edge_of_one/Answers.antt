use Rattle.mic1_datapath.proofs.Common.{ℕ, true, false, None, refl, sym, ap, ◌∙◌, subst, ChangesOnly, mem_of, led_same, ports_at, access_by, micro_in}
use Rattle.micro_word.specs.declared.statement.Mem.TheVariants as mems
use Rattle.mic1_datapath.proofs.Tried.{tried}
use Rattle.mic1_datapath.proofs.edge.edge_of_one.Goals as goal

-- a word that accesses nothing

pub returns-then-is_quiet : goal.returns-then-is_quiet
returns-then-is_quiet c =
    let bus = c.args.bus.now in
    let quiet = c.is_quiet.ensures.quiet c.if-is_quiet.true in
    tried c.args.word c.args.value c.args.c c.args.lines.now c.args.latches.now c.advance.new.self bus bus
    (ports_at c.args.word c.args.c (micro_in c.args.latches.now)) mems.None false None None c.requires refl (sym quiet.0) (sym quiet.1) refl
    (λ left held. led_same left held bus _ (λ w shows. record { its_word = refl; its_byte = refl; after = refl })) (refl, λ a other. refl) refl
    c.advance.ensures.latches c.advance.ensures.micro c.advance.ensures.last

-- a word that fetches a byte of the memory, and accesses nothing else

pub returns-then-transfers_nothing : goal.returns-then-transfers_nothing
returns-then-transfers_nothing c =
    let bus = c.args.bus.now in
    let does = c.fetch_alone-sampled in
    let none = c.transfers_nothing.ensures.nothing c.if-transfers_nothing.true in
    let ports = ports_at c.args.word c.args.c (micro_in c.args.latches.now) in
    let here = sym c.pc_port-pc.ensures in
    tried c.args.word c.args.value c.args.c c.args.lines.now c.args.latches.now c.advance-then-transfers_nothing.new.self bus bus
    ports mems.None true does.result.word does.result.byte c.requires refl
    (sym (ap mem_of none)) (sym (c.is_quiet.ensures.fetches c.if-is_quiet.false none)) (does.ensures.clear ports here)
    (λ left held. led_same left held bus _ (λ w shows. does.ensures.access ports here w shows.words)) (refl, λ a other. refl) refl
    c.advance-then-transfers_nothing.ensures.latches c.advance-then-transfers_nothing.ensures.micro c.advance-then-transfers_nothing.ensures.last

-- a word that reads a word of the memory, and accesses nothing else

pub returns-then-is_read : goal.returns-then-is_read
returns-then-is_read c =
    let bus = c.args.bus.now in
    let does = c.read_alone-sampled in
    let ports = ports_at c.args.word c.args.c (micro_in c.args.latches.now) in
    let here = sym c.mar_port-mar.ensures in
    tried c.args.word c.args.value c.args.c c.args.lines.now c.args.latches.now c.advance-then-is_read.new.self bus bus
    ports mems.Read false does.result.word does.result.byte c.requires refl
    (sym (c.is_read.ensures.mem (c.transfers_nothing.ensures.something c.if-transfers_nothing.false) ∙ ap access_by c.if-is_read.true)) (sym c.if-fetch.false ∙ c.fetch.ensures) (does.ensures.clear ports here)
    (λ left held. led_same left held bus _ (λ w shows. does.ensures.access ports here w shows.words)) (refl, λ a other. refl) refl
    c.advance-then-is_read.ensures.latches c.advance-then-is_read.ensures.micro c.advance-then-is_read.ensures.last

-- a word that writes a word of the memory, or a byte for which the console has room, and accesses nothing else

pub returns : goal.returns
returns c =
    let bus = c.args.bus.now in
    let bus' = c.write_alone.new.bus in
    let does = c.write_alone.ensures in
    let ports = ports_at c.args.word c.args.c (micro_in c.args.latches.now) in
    let done = c.if-not-write_alone.false in
    let here = sym c.mar_port-mar.ensures in
    tried c.args.word c.args.value c.args.c c.args.lines.now c.args.latches.now c.advance-2.new.self bus bus'
    ports mems.Write false None None c.requires refl
    (sym (c.is_read.ensures.mem (c.transfers_nothing.ensures.something c.if-transfers_nothing.false) ∙ ap access_by c.if-is_read.false)) (sym c.if-fetch.false ∙ c.fetch.ensures) (does.clear done ports here)
    (does.access done ports here (sym c.mdr_port-mdr.ensures))
    (subst (λ (a : ℕ). ChangesOnly a bus.words bus'.words) (sym here) does.others) does.ended
    c.advance-2.ensures.latches c.advance-2.ensures.micro c.advance-2.ensures.last
