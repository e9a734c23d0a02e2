use Rattle.mal_shipped.proofs.Common.{demands_of, listed_program, addresses_of}
use Rattle.mal_shipped.proofs.Placed.{listed, within}
use Rattle.mal_shipped.proofs.laws.shipped_programs_are_listed.Goals as goal

pub returns-clause-chosen : goal.returns-clause-chosen
returns-clause-chosen c = λ machine. c.chosen_law.ensures.listed (demands_of (listed_program machine)) (addresses_of machine) (listed machine)

pub returns-clause-only : goal.returns-clause-only
returns-clause-only c = λ machine addresses h.
    c.chosen_law.ensures.one (demands_of (listed_program machine)) addresses (addresses_of machine) (within machine) h
    (c.chosen_law.ensures.listed (demands_of (listed_program machine)) (addresses_of machine) (listed machine))
