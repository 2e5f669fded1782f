use Rattle.std.proofs.Common.{ap, sym, ◌∙◌}
use Rattle.std.proofs.lemmas.List.{take-map}
use Rattle.keyset.specs.Listing.{listed_by}
use Rattle.keyset.proofs.listing.Listing.references.Goals as goal

pub returns : goal.returns
returns g c = sym (take-map g.T.AsStr.text c.self.inside.count c.self.inside.all.now) ∙ ap listed_by c.self.view_is
