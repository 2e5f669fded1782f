use Rattle.std.proofs.Common.{◌≡◌, ◌+◌, ◌∙◌, ap, map}
use Rattle.std.proofs.lemmas.List.{take-map}
use Rattle.keyset.specs.Listing.{Listing, listed_by}
use Rattle.keyset.proofs.Listings.{past_new}
use Rattle.keyset.proofs.set.KeySet.check_new_keys.Goals as goal

pub loop-i-preserved : goal.loop-i-preserved
loop-i-preserved g c =
    let text = g.T.AsStr.text in
    let rs = c.args.new.now in
    let kept = c.loop-i.invariant in
    let one : c.advance.new.self ≡ record { all = map text rs; count = c.loop-i.i + 1 } = c.advance.ensures ∙ ap (λ (l : Listing). record l { count = l.count + 1 }) kept.0 in
    let fault = past_new text c.args.rolltype c.args.self.now (listed_by c.args.old.now) (listed_by c.loop-i.before) rs c.loop-i.i c.index-new-i.result c.as_str.result.now c.loop-i-test.true c.index-new-i.is c.as_str.ensures kept.1 c.in_ok-check_new_key.ensures in
    (one, ap listed_by one ∙ take-map text (c.loop-i.i + 1) rs, fault ∙ kept.2)
