use Rattle.std.proofs.Common.{◌++◌, ◌∙◌, sym, ap}
use Rattle.std.specs.Ordering.{nat_cmp}
use Rattle.std.specs.Cmp.Lexicographic.{slice_cmp}
use Rattle.definitions.specs.Name.{low, wire}
use Rattle.plain.specs.Soa.{times_octets}
use Rattle.plain.proofs.Stripping.{same_front}
use Rattle.plain.proofs.zone_order.soa_with_octets.Goals as goal

pub returns-in-Ok-strip_canonical_name : goal.returns-in-Ok-strip_canonical_name
returns-in-Ok-strip_canonical_name g c =
    let name = g.N.Labels.name in
    let soa = c.args.soa.now in
    let m = wire (low (name soa.mname)) in
    let r = wire (low (name soa.rname)) in
    let t = times_octets soa.times in
    let rest = c.in-Ok.rest.now in
    let last = c.in-Ok-strip_canonical_name.rest.now in
    let first = c.in-Ok.ensures ∙ (λ i. wire (low (name (c.mname.ensures i))) ++ rest) in
    let second = c.in-Ok-strip_canonical_name.ensures ∙ (λ i. wire (low (name (c.rname.ensures i))) ++ last) in
    c.cmp.ensures ∙ ap (λ x. slice_cmp nat_cmp x last) (c.as_slice.ensures ∙ c.numbers.ensures)
    ∙ sym (same_front r t last) ∙ ap (slice_cmp nat_cmp (r ++ t)) (sym second)
    ∙ sym (same_front m (r ++ t) rest) ∙ ap (slice_cmp nat_cmp (m ++ (r ++ t))) (sym first)

pub returns-in-Err-strip_canonical_name : goal.returns-in-Err-strip_canonical_name
returns-in-Err-strip_canonical_name g c =
    let name = g.N.Labels.name in
    let soa = c.args.soa.now in
    let m = wire (low (name soa.mname)) in
    let r = wire (low (name soa.rname)) in
    let t = times_octets soa.times in
    let rest = c.in-Ok.rest.now in
    let first = c.in-Ok.ensures ∙ (λ i. wire (low (name (c.mname.ensures i))) ++ rest) in
    sym (c.in-Err-strip_canonical_name.ensures t) ∙ (λ i. slice_cmp nat_cmp (wire (low (name (c.rname.ensures i))) ++ t) rest)
    ∙ sym (same_front m (r ++ t) rest) ∙ ap (slice_cmp nat_cmp (m ++ (r ++ t))) (sym first)
