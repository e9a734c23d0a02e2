use Rattle.mic1_datapath.proofs.Common.{true, ap, subst, sym, IsLast, micro_in, mic1_meaning, Latches}
use Rattle.mic_clock.specs.Prelude.{IsTried}
use Rattle.mic1_datapath.proofs.Handed.{has_computed}
use Rattle.mic1_datapath.proofs.Seen.{seen_last}
use Rattle.mic1_datapath.proofs.mic1.Mic1Clocked.edge_inside.Goals as goal

pub edge_inside-requires : goal.edge_inside-requires
edge_inside-requires c =
    record {
      latches = c.args.self.now.kept;
      decoded = c.requires.decoded;
      computed = has_computed c.args.word (micro_in c.args.self.now.latches) c.args.computed c.requires.computes;
    }

pub returns-then-not-edge_inside-clause-tried : goal.returns-then-not-edge_inside-clause-tried
returns-then-not-edge_inside-clause-tried c =
    let none = c.edge_inside.ensures.none c.if-not-edge_inside.true in
    record { edge = λ done. absurd (cc); ended = c.edge_inside.ensures.ended; none = λ no. (ap micro_in none.0, none.1) }

pub returns-clause-tried : goal.returns-clause-tried
returns-clause-tried c =
    subst (λ (l : Latches). IsTried mic1_meaning c.args.word (micro_in c.args.self.now.latches) c.args.bus.now (micro_in l) c.edge_inside.new.bus true)
    (sym c.stay_clocked.ensures)
    (record {
      edge = λ done. c.edge_inside.ensures.edge c.if-not-edge_inside.false;
      ended = c.edge_inside.ensures.ended;
      none = λ no. absurd (cc);
    })

pub returns-clause-seen : goal.returns-clause-seen
returns-clause-seen c =
    λ done. seen_last (micro_in c.args.self.now.latches) c.args.word c.stay_clocked.new.self c.args.drive
    (subst (IsLast c.args.word) (sym c.stay_clocked.ensures) (c.edge_inside.ensures.last c.if-not-edge_inside.false)) c.requires.drives
