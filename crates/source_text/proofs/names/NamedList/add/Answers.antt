use Rattle.source_text.proofs.Common.{◌≡◌, ◌<◌, ◌++◌, ◌∷◌, [], ◌∙◌, ap, sym, length, None, Some, arith, rules, place_of}
use Rattle.source_text.proofs.Adding.{few, named, unnamed}
use Rattle.source_text.proofs.names.NamedList.add.Goals as goal

pub invariant_of-self-in_default : goal.invariant_of-self-in_default
invariant_of-self-in_default g c =
    let items = c.self.inside.items.items in
    let v : c.args.self.now ≡ items = cc in
    let count : c.len-place.result ≡ length items = c.len-place.ensures ∙ ap length v in
    let z = c.if-place-most.false in
    let less : c.len-place.result < c.args.most = omega (arith, z) in
    let e : c.push.new.self.items ≡ items ++ c.args.item ∷ [] = c.in_ok-push.ensures.items in
    let own : g.T.Named.name c.args.item ≡ None = sym c.name.ensures ∙ c.in_default.is in (
      λ q. unnamed g.T.Named.name items c.args.item c.push.new.self.items q _ e own (c.self.invariant.0 q),
      few g.T.Named.name items c.args.item c.push.new.self.items c.len-place.result c.args.most e count less c.ranges.most.fits,
    )

pub invariant_of-self-in-Vacant : goal.invariant_of-self-in-Vacant
invariant_of-self-in-Vacant g c =
    let items = c.self.inside.items.items in
    let name = c.in-Some-name.name in
    let v : c.args.self.now ≡ items = cc in
    let count : c.len-place.result ≡ length items = c.len-place.ensures ∙ ap length v in
    let z = c.if-place-most.false in
    let less : c.len-place.result < c.args.most = omega (arith, z) in
    let e : c.push-in-Vacant.new.self.items ≡ items ++ c.args.item ∷ [] = c.in_ok-push-in-Vacant.ensures.items in
    let own : g.T.Named.name c.args.item ≡ Some name = sym c.name.ensures ∙ c.in-Some-name.is in
    let free = rw c.in-Vacant.is at c.in_ok-entry.ensures.found in
    let fresh : place_of g.T.Named.name items name ≡ None = sym (c.self.invariant.0 name) ∙ free in (
      λ q. named g.T.Named.name items c.args.item c.push-in-Vacant.new.self.items q name c.len-place.result _ _ e own count (c.self.invariant.0 q) fresh (search rules),
      few g.T.Named.name items c.args.item c.push-in-Vacant.new.self.items c.len-place.result c.args.most e count less c.ranges.most.fits,
    )
