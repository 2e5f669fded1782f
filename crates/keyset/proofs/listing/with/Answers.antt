use Rattle.std.proofs.Common.{subst}
use Rattle.std.specs.Prelude.{IfSome}
use Rattle.keyset.specs.Listing.{IsIndexOf}
use Rattle.keyset.proofs.Listings.{index_grows}
use Rattle.keyset.proofs.listing.with.Goals as goal

pub returns-in-Ok : goal.returns-in-Ok
returns-in-Ok c qs h =
    index_grows qs c.in_ok-index.index.keys c.insert.new.self.keys c.args.reference c.in-Ok.field-0
    (subst (λ o. IfSome o (λ s. IsIndexOf qs s.keys)) c.in_ok-index.was h)
    c.in-Ok.ensures.added
    c.in-Ok.ensures.keys
