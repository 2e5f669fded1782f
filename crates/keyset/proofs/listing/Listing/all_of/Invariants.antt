use Rattle.std.proofs.Common.{◌≡◌, map}
use Rattle.keyset.proofs.listing.Listing.all_of.Given as goal

abbrev pub invariant-loop : goal.invariant-loop
invariant-loop g l = l.listing ≡ record { all = map g.T.AsStr.text l.fn.all; count = l.counter }
