-- RRsets that are written one after another read back.
use Rattle.std.proofs.Common.{◌≡◌, ℕ, ◌<◌, ◌≤◌, Bool, List, [], ◌∷◌, ◌++◌, length, map, Option, refl, sym, subst, ap, ◌∙◌, append_assoc, length-append, arith, lit<}
use Rattle.std.specs.Prelude.{if◌then◌else◌}
use Rattle.std.specs.List.{AllByRecursion, AllZip, flat_map}
use Rattle.std.proofs.lemmas.List.Concat.{flat_map-append}
use Rattle.definitions.specs.Limits.{pointer_limit}
use Rattle.definitions.specs.Name.{Name, IsName}
use Rattle.definitions.specs.Dnskey.{Dnskey}
use Rattle.answer_terms.specs.GroupView.{view_of}
use Rattle.answer_terms.specs.Served.{ServedRrset}
use Rattle.answer_terms.specs.Given.{AreGroups}
use Rattle.answer_publisher.specs.Composed.{IsWritten, joined, rrsig_of}
use Rattle.messages.specs.Written.{Written, record_octets}
use Rattle.messages.specs.WrittenLaws.{IsRecord, spelled_at, spelled_from}
use Rattle.messages.proofs.MessageWritten.{StandsAt, end_of}
use Rattle.answer_publisher.proofs.Refusals.{length_record}
use Rattle.answer_publisher.proofs.WritesRecords.{ReadsRecord, own_kept, own_records, its_signatures, rest_stands, signatures_ttl}

-- an RRset whose fields hold what they say, and whose data read as their canonical form
pub record IsFormed (g : ServedRrset) : Type 0 where
  pub owner : IsName g.owner
  pub rtype : g.rtype < 65536
  pub ttl : g.ttl < 4294967296
  pub datas : AllZip (ReadsRecord g) g.written g.datas

-- the place behind some records
place_behind : ℕ → List Written → ℕ
place_behind p [] = p
place_behind p (r ∷ rs) = place_behind (end_of p r) rs

spelled_more : (p : ℕ) (rs ss : List Written) → spelled_from p (rs ++ ss) ≡ spelled_from p rs ++ spelled_from (place_behind p rs) ss
unfolding place_behind
spelled_more p [] ss = refl
spelled_more p (r ∷ rs) ss = ap (λ x. spelled_at p r ∷ x) (spelled_more (end_of p r) rs ss)

more_stands : (m : List ℕ) (p : ℕ) (rs : List Written) (rest : List ℕ) → StandsAt m p (flat_map record_octets rs ++ rest) → StandsAt m (place_behind p rs) rest
unfolding place_behind
more_stands m p [] rest s = s
more_stands m p (r ∷ rs) rest s = more_stands m (end_of p r) rs rest (rest_stands m p r rs rest s)

-- octets of records before others
parted : (rs ss : List Written) (rest : List ℕ) → flat_map record_octets (rs ++ ss) ++ rest ≡ flat_map record_octets rs ++ (flat_map record_octets ss ++ rest)
parted rs ss rest = ap (λ x. x ++ rest) (flat_map-append record_octets rs ss) ∙ append_assoc (flat_map record_octets rs) (flat_map record_octets ss) rest

-- the RRsets, each with its signatures
pub are_groups : (sign : Dnskey → List ℕ → Option (List ℕ)) (verifies : Dnskey → List ℕ → List ℕ → Bool) (m : List ℕ) (p : ℕ) (apex : Name) (at life : ℕ) (keys : List Dnskey) (gs : List ServedRrset) (pieces : List (List Written)) (rest : List ℕ)
    → length m ≤ 65535 → IsName apex → AllByRecursion IsFormed gs → AllZip (IsWritten sign verifies apex at life keys) (map view_of gs) pieces → StandsAt m p (flat_map record_octets (joined pieces) ++ rest)
    → AreGroups verifies pointer_limit m (spelled_from p (joined pieces)) apex at life keys gs
are_groups sign verifies m p apex at life keys [] [] rest few name formed written s = refl
are_groups sign verifies m p apex at life keys [] (x ∷ pieces) rest few name formed written s = absurd written
are_groups sign verifies m p apex at life keys (g ∷ gs) [] rest few name formed written s = absurd written
are_groups sign verifies m p apex at life keys (g ∷ gs) (x ∷ pieces) rest few name formed written s =
    let f = formed.0 in
    let w = written.0 in
    let own : List Written = g.written in
    let signatures : List Written = map (rrsig_of (view_of g)) w.0 in
    let others : List Written = joined pieces in
    let parts : x ++ others ≡ own ++ (signatures ++ others) = ap (λ y. y ++ others) w.1.1 ∙ append_assoc own signatures others in
    let q = place_behind p own in
    let e = place_behind q signatures in
    let whole : StandsAt m p (flat_map record_octets (own ++ (signatures ++ others)) ++ rest) = subst (λ y. StandsAt m p (flat_map record_octets y ++ rest)) parts s in
    let first : StandsAt m p (flat_map record_octets own ++ (flat_map record_octets (signatures ++ others) ++ rest)) = subst (StandsAt m p) (parted own (signatures ++ others) rest) whole in
    let behind : StandsAt m q (flat_map record_octets (signatures ++ others) ++ rest) = more_stands m p own _ first in
    let second : StandsAt m q (flat_map record_octets signatures ++ (flat_map record_octets others ++ rest)) = subst (StandsAt m q) (parted signatures others rest) behind in
    let third : StandsAt m e (flat_map record_octets others ++ rest) = more_stands m q signatures _ second in (
      spelled_from p own,
      spelled_from q signatures,
      spelled_from e others,
      ap (spelled_from p) parts ∙ spelled_more p own (signatures ++ others) ∙ ap (λ y. spelled_from p own ++ y) (spelled_more q signatures others) ∙ sym (append_assoc (spelled_from p own) (spelled_from q signatures) (spelled_from e others)),
      own_records m p g g.written g.datas _ few f.datas first,
      its_signatures sign verifies m q apex at life g (if g.signed then keys else []) w.0 _ few name f.rtype f.ttl w.1.0 second,
      are_groups sign verifies m e apex at life keys gs pieces rest few name formed.1 written.1 third,
      own_kept p g.written,
      signatures_ttl q g w.0,
    )

-- ---- sizes

-- a record that is formed, however long its data are
pub record Holds (r : Written) : Type 0 where
  pub owner : IsName r.owner
  pub rtype : r.rtype < 65536
  pub class : r.class < 65536
  pub ttl : r.ttl < 4294967296

own_hold : (g : ServedRrset) (ws : List Written) (ds : List (List ℕ)) → g.rtype < 65536 → AllZip (ReadsRecord g) ws ds → AllByRecursion Holds ws
own_hold g [] [] small h = tt
own_hold g [] (d ∷ ds) small h = tt
own_hold g (w ∷ ws) [] small h = absurd h
own_hold g (w ∷ ws) (d ∷ ds) small h =
    let one : w.class < 65536 = omega (arith, h.0.class) in
    let kind : w.rtype < 65536 = omega (arith, h.0.rtype, small) in
    (record { owner = h.0.owner; rtype = kind; class = one; ttl = h.0.ttl }, own_hold g ws ds small h.1)

signatures_hold : (g : ServedRrset) (ds : List (List ℕ)) → IsFormed g → AllByRecursion Holds (map (rrsig_of (view_of g)) ds)
signatures_hold g [] f = tt
signatures_hold g (d ∷ ds) f = (record { owner = f.owner; rtype = lit< tt; class = lit< tt; ttl = f.ttl }, signatures_hold g ds f)

hold_append : (rs ss : List Written) → AllByRecursion Holds rs → AllByRecursion Holds ss → AllByRecursion Holds (rs ++ ss)
hold_append [] ss h k = k
hold_append (r ∷ rs) ss h k = (h.0, hold_append rs ss h.1 k)

pub all_hold : (sign : Dnskey → List ℕ → Option (List ℕ)) (verifies : Dnskey → List ℕ → List ℕ → Bool) (apex : Name) (at life : ℕ) (keys : List Dnskey) (gs : List ServedRrset) (pieces : List (List Written))
    → AllByRecursion IsFormed gs → AllZip (IsWritten sign verifies apex at life keys) (map view_of gs) pieces → AllByRecursion Holds (joined pieces)
all_hold sign verifies apex at life keys [] [] formed written = tt
all_hold sign verifies apex at life keys [] (x ∷ pieces) formed written = absurd written
all_hold sign verifies apex at life keys (g ∷ gs) [] formed written = absurd written
all_hold sign verifies apex at life keys (g ∷ gs) (x ∷ pieces) formed written =
    let w = written.0 in
    let own : List Written = g.written in
    let signatures : List Written = map (rrsig_of (view_of g)) w.0 in
    hold_append x (joined pieces)
    (subst (AllByRecursion Holds) (sym w.1.1) (hold_append own signatures (own_hold g g.written g.datas formed.0.rtype formed.0.datas) (signatures_hold g w.0 formed.0)))
    (all_hold sign verifies apex at life keys gs pieces formed.1 written.1)

-- records of a short message
pub all_records : (rs : List Written) (most : ℕ) → AllByRecursion Holds rs → length (flat_map record_octets rs) ≤ most → most < 65536 → AllByRecursion IsRecord rs
all_records [] most h short small = tt
all_records (r ∷ rs) most h short small =
    let size = length-append (record_octets r) (flat_map record_octets rs) in
    let own : length r.octets ≤ most = omega (arith, size, length_record r) in
    let later : length (flat_map record_octets rs) ≤ most = omega (arith, size) in
    (record { owner = h.0.owner; rtype = h.0.rtype; class = h.0.class; ttl = h.0.ttl; octets = omega (arith, own, small) }, all_records rs most h.1 later small)

-- each record has an octet at least
pub count_of : (rs : List Written) → length rs ≤ length (flat_map record_octets rs)
count_of [] = omega arith
count_of (r ∷ rs) = omega (arith, length-append (record_octets r) (flat_map record_octets rs), length_record r, count_of rs)
