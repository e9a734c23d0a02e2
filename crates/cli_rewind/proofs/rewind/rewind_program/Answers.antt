use Rattle.cli_rewind.proofs.Common.{◌≡◌, ◌∙◌, Some, None, sym, ap, arith, plain_left, Counts, rewinding_view}
use Rattle.cli_rewind.specs.Rewound.{Went}
use Rattle.mic_clock.specs.declared.end.End.TheVariants as ends
use Rattle.cli_rewind.proofs.rewind.rewind_program.Goals as goal

pub do_lines-requires : goal.do_lines-requires
do_lines-requires g c =
    let reset = c.in-Ok.ensures.start.reset.reset in
    let none : c.in-Ok.rewinding.rewind.board.counts.cycles ≡ 0 = ap (λ (n : Counts). n.cycles) reset.counts in
    record {
      lasts = record {
        cycles = omega (arith, none);
        well = λ e. let no : None ≡ Some ends.WriteFault = sym reset.end ∙ e in absurd (cc);
      };
      waits = reset.kept;
    }

pub returns : goal.returns
returns g c =
    let first = c.in-Ok.rewinding in
    let last = c.do_lines.new.session in
    record {
      names = c.do_lines.ensures.names;
      does =
          Went c.args.prepared.micro.loaded (rewinding_view first.rewind first.words (plain_left first.input)) (rewinding_view last.rewind last.words
          (plain_left last.input))
          c.do_lines.result c.in-Ok.ensures.start c.in-Ok.ensures.input c.do_lines.ensures.goes c.status_after.ensures;
    }
