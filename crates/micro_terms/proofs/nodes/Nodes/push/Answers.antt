use Rattle.micro_terms.proofs.Common.{◌≡◌, List, [], ◌∷◌, ◌++◌, length, ap, ◌∙◌, arith, slice_get, Node}
use Rattle.micro_terms.proofs.Tables.{still_there, newest}
use Rattle.micro_terms.proofs.nodes.Nodes.push.Goals as goal

pub returns-clause-value : goal.returns-clause-value
returns-clause-value c e fits =
    let old : List Node = c.args.self.now.nodes.items in
    let x : Node = c.args.node in
    let is : c.push.new.self.items ≡ old ++ x ∷ [] = c.in_ok-push.ensures.items in
    let place : c.in-Ok.place ≡ length old = omega (arith, c.in-Ok.ensures, c.args.self.now.nodes.ok.0) in
    fits.nodes c.in-Ok.place x (ap (λ xs. slice_get xs c.in-Ok.place) is ∙ newest old x c.in-Ok.place place)

pub returns-clause-grows : goal.returns-clause-grows
returns-clause-grows c e fits =
    let old : List Node = c.args.self.now.nodes.items in
    let x : Node = c.args.node in
    let is : c.push.new.self.items ≡ old ++ x ∷ [] = c.in_ok-push.ensures.items in
    record {
      words = fits.words;
      nodes = λ i node h. fits.nodes i node (ap (λ xs. slice_get xs i) is ∙ still_there old x i node h);
    }
