-- The order of NSEC3 data, part by part.
use Rattle.std.proofs.Common.{◌≡◌, ℕ, List, ◌++◌, refl, sym, ap, ◌∙◌}
use Rattle.std.specs.Ordering.{nat_cmp, ordering_then}
use Rattle.std.specs.Cmp.Lexicographic.{slice_cmp}
use Rattle.denial_fields.specs.Counted.{counted}
use Rattle.denial_fields.proofs.TwoParts.{then_assoc, parts_then, counted_then}
use Rattle.denial_nsec_data.specs.Hashed.{Nsec3paramData, Nsec3Data, nsec3param_head, nsec3param_octets, nsec3_octets}

params_then : (p q : Nsec3paramData) (x y : List ℕ) → slice_cmp nat_cmp (nsec3param_octets p ++ x) (nsec3param_octets q ++ y) ≡ ordering_then (slice_cmp nat_cmp (nsec3param_octets p) (nsec3param_octets q)) (slice_cmp nat_cmp x y)
params_then p q x y =
    let heads = slice_cmp nat_cmp (nsec3param_head p) (nsec3param_head q) in
    let salts = slice_cmp nat_cmp (counted p.salt) (counted q.salt) in
    parts_then (nsec3param_head p) (nsec3param_head q) (counted p.salt ++ x) (counted q.salt ++ y) refl
    ∙ ap (ordering_then heads) (counted_then p.salt q.salt x y)
    ∙ sym (then_assoc heads salts (slice_cmp nat_cmp x y))
    ∙ ap (λ o. ordering_then o (slice_cmp nat_cmp x y)) (sym (parts_then (nsec3param_head p) (nsec3param_head q) (counted p.salt) (counted q.salt) refl))

pub nsec3_then : (a b : Nsec3Data) → slice_cmp nat_cmp (nsec3_octets a) (nsec3_octets b) ≡ ordering_then (ordering_then (slice_cmp nat_cmp (nsec3param_octets a.params) (nsec3param_octets b.params)) (slice_cmp nat_cmp (counted a.next_owner) (counted b.next_owner))) (slice_cmp nat_cmp a.types b.types)
nsec3_then a b =
    let params = slice_cmp nat_cmp (nsec3param_octets a.params) (nsec3param_octets b.params) in
    let hashes = slice_cmp nat_cmp (counted a.next_owner) (counted b.next_owner) in
    params_then a.params b.params (counted a.next_owner ++ a.types) (counted b.next_owner ++ b.types)
    ∙ ap (ordering_then params) (counted_then a.next_owner b.next_owner a.types b.types)
    ∙ sym (then_assoc params hashes (slice_cmp nat_cmp a.types b.types))
