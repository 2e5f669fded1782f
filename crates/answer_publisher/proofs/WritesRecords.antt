-- An RRset that is written in a message, with its signatures behind it, reads back.
use Rattle.std.proofs.Common.{◌≡◌, ℕ, ◌+◌, ◌<◌, ◌≤◌, Bool, List, [], ◌∷◌, ◌++◌, length, map, Option, Some, refl, subst, ap, ◌∙◌, append_assoc, length-append, arith, lit<}
use Rattle.std.specs.List.{AllByRecursion, AllZip, flat_map}
use Rattle.std.specs.Int.{w16, w32, to_be_bytes}
use Rattle.std.proofs.Math.Nat.{mod-lt}
use Rattle.definitions.specs.Name.{Name, IsName, wire, low}
use Rattle.definitions.specs.Dnskey.{Dnskey, key_tag}
use Rattle.definitions.specs.Signing.{Fields, canonical_record, signed_octets, signed_owner}
use Rattle.definitions.specs.Limits.{pointer_limit}
use Rattle.messages.specs.Message.{Spelled, canonical_data}
use Rattle.answer_terms.specs.Served.{ServedRrset}
use Rattle.answer_terms.specs.Given.{HasTtl, KeepsOwn}
use Rattle.answer_terms.specs.Told.{AreRecords, AreSignatures, IsValidSignature}
use Rattle.answer_terms.specs.GroupView.{GroupView, IsRrsigData, fields_of, view_of}
use Rattle.answer_publisher.specs.Composed.{rrsig_of}
use Rattle.messages.specs.Written.{Written, record_octets}
use Rattle.messages.specs.Rrsig.{rrsig_data}
use Rattle.messages.specs.WrittenLaws.{AreFields, spelled_at, spelled_from}
use Rattle.messages.proofs.MessageSignatures.{signature_here}
use Rattle.messages.proofs.MessageWritten.{StandsAt, moved, data_behind, end_of, next_behind}
use Rattle.messages.proofs.ZoneNames.{low-low}

-- data of a type, as written, read as canonical data wherever they stand in a message that is not too long
abbrev pub ReadsAs : ℕ → List ℕ → List ℕ → Type 0
ReadsAs t written d = (m rest : List ℕ) (r : Spelled) → length m ≤ 65535 → r.rtype ≡ t → StandsAt m r.start (written ++ rest) → r.length ≡ length written → canonical_data pointer_limit m r ≡ Some d

pub first_stands : (m : List ℕ) (p : ℕ) (r : Written) (rs : List Written) (rest : List ℕ) → StandsAt m p (flat_map record_octets (r ∷ rs) ++ rest) → StandsAt m p (record_octets r ++ (flat_map record_octets rs ++ rest))
first_stands m p r rs rest s = moved m p _ _ (append_assoc (record_octets r) (flat_map record_octets rs) rest) s

pub rest_stands : (m : List ℕ) (p : ℕ) (r : Written) (rs : List Written) (rest : List ℕ) → StandsAt m p (flat_map record_octets (r ∷ rs) ++ rest) → StandsAt m (end_of p r) (flat_map record_octets rs ++ rest)
rest_stands m p r rs rest s = next_behind m p r (flat_map record_octets rs ++ rest) (first_stands m p r rs rest s)

-- a record of an RRset as it is written, whose datum reads as its canonical form
pub record ReadsRecord (g : ServedRrset) (w : Written) (d : List ℕ) : Type 0 where
  pub owner : IsName w.owner
  pub named : low w.owner ≡ low g.owner
  pub rtype : w.rtype ≡ g.rtype
  pub class : w.class ≡ 1
  pub ttl : w.ttl < 4294967296
  pub reads : ReadsAs g.rtype w.octets d

-- the records of an RRset
pub own_records : (m : List ℕ) (p : ℕ) (g : ServedRrset) (ws : List Written) (ds : List (List ℕ)) (rest : List ℕ) → length m ≤ 65535 → AllZip (ReadsRecord g) ws ds → StandsAt m p (flat_map record_octets ws ++ rest)
    → AreRecords pointer_limit m (spelled_from p ws) g ds
own_records m p g [] [] rest few h s = tt
own_records m p g [] (d ∷ ds) rest few h s = absurd h
own_records m p g (w ∷ ws) [] rest few h s = absurd h
own_records m p g (w ∷ ws) (d ∷ ds) rest few h s =
    let others = flat_map record_octets ws ++ rest in
    let t = first_stands m p w ws rest s in (
      record {
        owner_is = h.0.named;
        type_is = h.0.rtype;
        class_is = h.0.class;
        data_is = h.0.reads m others (spelled_at p w) few h.0.rtype (data_behind m p w others t) refl;
      },
      own_records m (end_of p w) g ws ds rest few h.1 (rest_stands m p w ws rest s),
    )

-- they keep what they were written with
pub own_kept : (p : ℕ) (ws : List Written) → AllZip KeepsOwn (spelled_from p ws) ws
own_kept p [] = tt
own_kept p (w ∷ ws) = (record { owner_is = refl; ttl_is = refl }, own_kept (end_of p w) ws)

pub signatures_ttl : (p : ℕ) (g : ServedRrset) (ds : List (List ℕ)) → AllByRecursion (HasTtl g.ttl) (spelled_from p (map (rrsig_of (view_of g)) ds))
signatures_ttl p g [] = tt
signatures_ttl p g (d ∷ ds) = (refl, signatures_ttl (end_of p (rrsig_of (view_of g) d)) g ds)

-- fields that fit their places
are_fields : (apex : Name) (at life : ℕ) (g : GroupView) (key : Dnskey) → IsName apex → g.rtype < 65536 → g.ttl < 4294967296 → key_tag key < 65536 → AreFields (fields_of apex at life g key)
are_fields apex at life g key name t ttl tag = record {
  covered = t;
  ttl = ttl;
  expiration = mod-lt (at + life) (lit< tt);
  inception = mod-lt at (lit< tt);
  tag = tag;
  signer = name;
}

-- signed octets have the signer lowered
lowered_signer : (f : Fields) (owner : Name) (ds : List (List ℕ)) → signed_octets (record f { signer = low f.signer }) owner 1 ds ≡ signed_octets f owner 1 ds
lowered_signer f owner ds =
    ap
    (λ n. (to_be_bytes w16 f.covered ++ f.algorithm ∷ f.labels ∷ to_be_bytes w32 f.ttl ++ to_be_bytes w32 f.expiration ++ to_be_bytes w32 f.inception ++ to_be_bytes w16 f.tag ++ wire n) ++ flat_map (canonical_record (signed_owner f.labels owner) f.covered 1 f.ttl) ds)
    (low-low f.signer)

pub its_signature : (sign : Dnskey → List ℕ → Option (List ℕ)) (verifies : Dnskey → List ℕ → List ℕ → Bool) (m : List ℕ) (p : ℕ) (apex : Name) (at life : ℕ) (g : ServedRrset) (key : Dnskey) (d rest : List ℕ)
    → length m ≤ 65535 → IsName apex → g.rtype < 65536 → g.ttl < 4294967296 → IsRrsigData sign verifies apex at life (view_of g) key d → StandsAt m p (record_octets (rrsig_of (view_of g) d) ++ rest)
    → IsValidSignature verifies pointer_limit m (spelled_at p (rrsig_of (view_of g) d)) apex at life g key
its_signature sign verifies m p apex at life g key d rest few name t ttl made s =
    let f : Fields = fields_of apex at life (view_of g) key in
    let r : Written = rrsig_of (view_of g) d in
    let stands = subst (λ x. StandsAt m (spelled_at p r).start (x ++ rest)) made.data_is (data_behind m p r rest s) in
    let whole = rrsig_data f made.signature in
    let short : length whole ≤ 65535 = omega (arith, few, ap length stands.whole, length-append stands.front (whole ++ rest), length-append whole rest) in
    record {
      signature = made.signature;
      owner_is = refl;
      type_is = refl;
      class_is = refl;
      fields_are = signature_here m f made.signature rest (spelled_at p r) (are_fields apex at life (view_of g) key name t ttl made.tag_fits) short stands (ap length made.data_is);
      passes = ap (λ x. verifies key x made.signature) (lowered_signer f g.owner g.datas) ∙ made.passes;
    }

-- the signatures of an RRset
pub its_signatures : (sign : Dnskey → List ℕ → Option (List ℕ)) (verifies : Dnskey → List ℕ → List ℕ → Bool) (m : List ℕ) (p : ℕ) (apex : Name) (at life : ℕ) (g : ServedRrset) (keys : List Dnskey) (ds : List (List ℕ)) (rest : List ℕ)
    → length m ≤ 65535 → IsName apex → g.rtype < 65536 → g.ttl < 4294967296 → AllZip (IsRrsigData sign verifies apex at life (view_of g)) keys ds → StandsAt m p (flat_map record_octets (map (rrsig_of (view_of g)) ds) ++ rest)
    → AreSignatures verifies pointer_limit m (spelled_from p (map (rrsig_of (view_of g)) ds)) apex at life g keys
its_signatures sign verifies m p apex at life g [] [] rest few name t ttl made s = tt
its_signatures sign verifies m p apex at life g [] (d ∷ ds) rest few name t ttl made s = absurd made
its_signatures sign verifies m p apex at life g (key ∷ keys) [] rest few name t ttl made s = absurd made
its_signatures sign verifies m p apex at life g (key ∷ keys) (d ∷ ds) rest few name t ttl made s =
    let r : Written = rrsig_of (view_of g) d in
    let rs : List Written = map (rrsig_of (view_of g)) ds in
    let others = flat_map record_octets rs ++ rest in (
      its_signature sign verifies m p apex at life g key d others few name t ttl made.0 (first_stands m p r rs rest s),
      its_signatures sign verifies m (end_of p r) apex at life g keys ds rest few name t ttl made.1 (rest_stands m p r rs rest s),
    )
