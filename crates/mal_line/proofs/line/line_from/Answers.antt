use Rattle.mal_line.proofs.Common.{◌≡◌, Ok, Err, sym, Result, IfOk, IfErr, Content, LineFault}
use Rattle.mal_line.specs.Prelude.{HasPart, IsRefused, SpellsLine, line_from}
use Rattle.mal_line.proofs.Lining.{line_refused, line_spells}
use Rattle.mal_line.proofs.Standing.{stands}
use Rattle.mal_line.proofs.line.line_from.Goals as goal

pub returns-clause-spells : goal.returns-clause-spells
returns-clause-spells c = go c.read.result (sym c.read.ensures)
  where
    go : (r : Result Content LineFault) → line_from c.args.machine c.args.tokens.now ≡ r → IfOk r (SpellsLine c.args.machine c.args.tokens.now)
    go (Ok x) e = line_spells c.args.machine c.args.tokens.now x e
    go (Err f) e = tt

pub returns-clause-refused : goal.returns-clause-refused
returns-clause-refused c = go c.read.result (sym c.read.ensures)
  where
    go : (r : Result Content LineFault) → line_from c.args.machine c.args.tokens.now ≡ r → IfErr r (IsRefused c.args.machine c.args.tokens.now)
    go (Ok x) e = tt
    go (Err f) e = line_refused c.args.machine c.args.tokens.now f e

pub returns-clause-part : goal.returns-clause-part
returns-clause-part c = go c.read.result (sym c.read.ensures)
  where
    go : (r : Result Content LineFault) → line_from c.args.machine c.args.tokens.now ≡ r → IfOk r (HasPart c.args.machine)
    go (Ok x) e = stands c.args.machine c.args.tokens.now x (line_spells c.args.machine c.args.tokens.now x e)
    go (Err f) e = tt
