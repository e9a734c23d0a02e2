use Rattle.mic2_fetch_unit.proofs.Folded.{edge_stands, edge_allowed, jump_stands, jump_allowed}
use Rattle.mic2_fetch_unit.proofs.Held.{held_few, held_enough, held_edge, wait_short, wait_held, wants_within}
use Rattle.mic2_fetch_unit.proofs.Places.{unit_there, bounds_there, stands_there, many_there, front_is, starts}
use Rattle.mic2_fetch_unit.proofs.laws.queue_law.Goals as goal

pub returns : goal.returns
returns c =
    record {
      there = unit_there;
      bounds = bounds_there;
      stands = stands_there;
      many = many_there;
      front = front_is;
      start = starts;
      edge_stands = edge_stands;
      edge_allowed = edge_allowed;
      jump_stands = jump_stands;
      jump_allowed = jump_allowed;
      few = held_few;
      enough = held_enough;
      after_edge = held_edge;
      short = wait_short;
      after_wait = wait_held;
      wants = wants_within;
    }
