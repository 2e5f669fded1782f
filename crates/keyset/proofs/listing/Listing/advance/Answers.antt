use Rattle.std.proofs.Common.{rules, subst, sym, ap, map, take, length, ◌<◌, ◌∙◌, ◌++◌, ◌∷◌, []}
use Rattle.std.specs.Prelude.{IfSome, Some}
use Rattle.std.proofs.lemmas.Option.{slice_get-get_or}
use Rattle.keyset.specs.Listing.{IsIndexOf}
use Rattle.keyset.proofs.Listings.{texts_one}
use Rattle.keyset.proofs.listing.Listing.advance.Goals as goal

pub invariant_of-self : goal.invariant_of-self
invariant_of-self g c =
    let text = g.T.AsStr.text in
    let all = c.self.inside.all.now in
    let n = c.self.inside.count in
    let found = c.in-Some.ensures.lookup in
    let below : n < length all = search rules in
    let before = take n (map text all) in
    let one = ap Some found.1 ∙ sym (slice_get-get_or all n _ below) in
    let hashed = subst (λ o. IfSome o (λ s. IsIndexOf before s.keys)) (sym c.take.ensures.value) c.self.invariant.1 in
    let more = ap (λ q. before ++ q ∷ []) c.as_str.ensures in (
      search (below, rules),
      subst (λ qs. IfSome c.with.result (λ s. IsIndexOf qs s.keys)) (more ∙ sym (texts_one text all n c.in-Some.reference.now one)) (c.with.ensures before hashed),
    )
