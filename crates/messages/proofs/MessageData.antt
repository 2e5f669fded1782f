-- Data with names that are written read back in canonical form.
use Rattle.std.proofs.Common.{◌≡◌, ℕ, ◌+◌, ◌≤◌, true, ◌&&◌, List, ◌++◌, length, Option, Some, None, refl, sym, ap, ◌∙◌, length-append, arith, eqb}
use Rattle.std.specs.Prelude.{slice_range}
use Rattle.std.proofs.lemmas.Bool.{eq-eqb, le-leb}
use Rattle.definitions.specs.Bitmap.{is_bitmap}
use Rattle.definitions.specs.Name.{Name, IsName, wire, wire_len, low}
use Rattle.definitions.specs.Limits.{pointer_limit}
use Rattle.messages.specs.Message.{Spelled, fits, if_true, name_in, ns_data, soa_data, nsec_at, nsec_data}
use Rattle.messages.specs.Message as message
use Rattle.messages.proofs.MessageSignatures.{data_inside, name_here}
use Rattle.messages.proofs.MessageWritten.{StandsAt, past, wire-length}
use Rattle.messages.proofs.NameWritten.{range_there}

abbrev from_ns : Spelled → Option (Name × ℕ) → Option (List ℕ)
from_ns r None = None
from_ns r (Some n) = if_true (eqb n.1 (message.behind r)) (wire (low n.0))

pub ns_here : (m : List ℕ) (r : Spelled) (n : Name) (rest : List ℕ) → IsName n → StandsAt m r.start (wire n ++ rest) → r.length ≡ length (wire n) → ns_data pointer_limit m r ≡ Some (wire (low n))
ns_here m r n rest name s size =
    let q = r.start + wire_len n in
    let whole : q ≡ message.behind r = omega (arith, size, wire-length n) in
    ap (from_ns r) (name_here m r r.start q n rest (data_inside m r (wire n) rest s size) name s refl (omega (arith, whole))) ∙ ap (λ b. if_true b (wire (low n))) (eq-eqb q (message.behind r) whole)

abbrev from_rname : List ℕ → Spelled → Name → Option (Name × ℕ) → Option (List ℕ)
from_rname m r n None = None
from_rname m r n (Some o) = if_true (eqb (o.1 + 20) (message.behind r)) (wire (low n) ++ wire (low o.0) ++ slice_range m o.1 (message.behind r))

abbrev from_mname : List ℕ → Spelled → Option (Name × ℕ) → Option (List ℕ)
from_mname m r None = None
from_mname m r (Some n) = from_rname m r n.0 (name_in pointer_limit m r n.1)

pub soa_here : (m : List ℕ) (r : Spelled) (mname rname : Name) (numbers rest : List ℕ) → IsName mname → IsName rname → length numbers ≡ 20 → StandsAt m r.start (wire mname ++ (wire rname ++ (numbers ++ rest))) → r.length ≡ length (wire mname ++ wire rname ++ numbers)
    → soa_data pointer_limit m r ≡ Some (wire (low mname) ++ wire (low rname) ++ numbers)
soa_here m r mname rname numbers rest first second twenty s size =
    let p = r.start + wire_len mname in
    let q = p + wire_len rname in
    let whole : q + 20 ≡ message.behind r = omega (arith, size, twenty, length-append (wire mname ++ wire rname) numbers, length-append (wire mname) (wire rname), wire-length mname, wire-length rname) in
    let at_rname = past m r.start p (wire mname) (wire rname ++ (numbers ++ rest)) s (ap (λ k. r.start + k) (sym (wire-length mname))) in
    let at_numbers = past m p q (wire rname) (numbers ++ rest) at_rname (ap (λ k. p + k) (sym (wire-length rname))) in
    let octets = range_there m at_numbers.front numbers rest q (message.behind r) at_numbers.whole at_numbers.place (omega (arith, whole, twenty)) in
    let inside : message.behind r ≤ length m = omega (arith, whole, twenty, ap length at_numbers.whole, length-append at_numbers.front (numbers ++ rest), length-append numbers rest, at_numbers.place) in
    ap (from_mname m r) (name_here m r r.start p mname _ inside first s refl (omega (arith, whole)))
    ∙ ap (from_rname m r mname) (name_here m r p q rname _ inside second at_rname refl (omega (arith, whole)))
    ∙ ap (λ b. if_true b (wire (low mname) ++ wire (low rname) ++ slice_range m q (message.behind r))) (eq-eqb (q + 20) (message.behind r) whole)
    ∙ ap (λ l. Some (wire (low mname) ++ wire (low rname) ++ l)) octets

abbrev from_next : List ℕ → Spelled → Option (Name × ℕ) → Option (Name × List ℕ)
from_next m r None = None
from_next m r (Some n) = let bits = slice_range m n.1 (message.behind r) in if_true (is_bitmap bits && fits (wire n.0 ++ bits)) (n.0, bits)

abbrev joined : Option (Name × List ℕ) → Option (List ℕ)
joined None = None
joined (Some n) = Some (wire n.0 ++ n.1)

pub nsec_here : (m : List ℕ) (r : Spelled) (next : Name) (bits rest : List ℕ) → IsName next → is_bitmap bits ≡ true → length (wire next ++ bits) ≤ 65535 → StandsAt m r.start (wire next ++ (bits ++ rest)) → r.length ≡ length (wire next ++ bits) → nsec_data pointer_limit m r ≡ Some (wire next ++ bits)
nsec_here m r next bits rest name valid few s size =
    let q = r.start + wire_len next in
    let whole : message.behind r ≡ q + length bits = omega (arith, size, length-append (wire next) bits, wire-length next) in
    let at_bits = past m r.start q (wire next) (bits ++ rest) s (ap (λ k. r.start + k) (sym (wire-length next))) in
    let octets = range_there m at_bits.front bits rest q (message.behind r) at_bits.whole at_bits.place whole in
    let inside : message.behind r ≤ length m = omega (arith, whole, ap length at_bits.whole, length-append at_bits.front (bits ++ rest), length-append bits rest, at_bits.place) in
    ap (λ o. joined (from_next m r o)) (name_here m r r.start q next _ inside name s refl (omega (arith, whole)))
    ∙ ap (λ l. joined (if_true (is_bitmap l && fits (wire next ++ l)) (next, l))) octets
    ∙ (λ i. joined (if_true (valid i && le-leb (length (wire next ++ bits)) 65535 few i) (next, bits)))
