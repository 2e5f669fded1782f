-- Records whose data say the same wherever they stand, and such records in two messages.
use Rattle.std.proofs.Common.{◌≡◌, ◌⊎◌, ℕ, ◌+◌, ◌<◌, ◌≤◌, Bool, true, false, ◌&&◌, ◌||◌, List, [], ◌∷◌, ◌++◌, length, map, Option, Some, None, eqb, inl, inr, refl, sym, subst, ap, ◌∙◌, ⊎_elim, length-append, arith, lit<}
use Rattle.std.specs.Prelude.{if◌then◌else◌}
use Rattle.std.specs.List.{AllByRecursion, AllZip, flat_map, list_any}
use Rattle.std.proofs.Math.Nat.{mod-lt}
use Rattle.std.proofs.lemmas.Bool.{eq-eqb, eqb-true, true≢false}
use Rattle.definitions.specs.Dnskey.{Dnskey, key_tag}
use Rattle.definitions.specs.Limits.{pointer_limit}
use Rattle.definitions.specs.Name.{IsName, Name, low}
use Rattle.definitions.specs.Signing.{Fields}
use Rattle.messages.specs.Message.{Spelled, rrsig_at}
use Rattle.messages.specs.Rrsig.{rrsig_data}
use Rattle.messages.specs.Written.{Written, record_octets}
use Rattle.messages.specs.WrittenLaws.{AreFields, spelled_at, spelled_from}
use Rattle.messages.proofs.MessageSignatures.{signature_here}
use Rattle.messages.proofs.MessageWritten.{StandsAt, data_behind, end_of}
use Rattle.answer_terms.specs.Alike.{IsLike}
use Rattle.answer_terms.specs.GroupView.{GroupView, IsRrsigData, fields_of, view_of}
use Rattle.answer_terms.specs.Served.{ServedRrset}
use Rattle.message_laws.specs.SeenAlike.{is_covering}
use Rattle.server_answers.specs.Composed.{IsWritten, joined, rrsig_of}
use Rattle.server_answers.proofs.WritesData.{reads_plain}
use Rattle.server_answers.proofs.WritesGroups.{IsFormed}
use Rattle.server_answers.proofs.WritesRecords.{ReadsAs, ReadsRecord, first_stands, rest_stands}
use Rattle.server_laws.proofs.Lists.{all_joined}

-- data of a signature that read as one wherever they stand in a message that is not too long
abbrev pub ReadsSignature : List ℕ → Fields × List ℕ → Type 0
ReadsSignature octets said = (m rest : List ℕ) (r : Spelled) → length m ≤ 65535 → StandsAt m r.start (octets ++ rest) → r.length ≡ length octets → rrsig_at pointer_limit m r ≡ Some said

-- a signature that covers another type than this one (RFC 4034, 3.1.1)
abbrev pub SignsOther : ℕ → Written → Type 0
SignsOther t w = w.rtype ≡ 46 → (said : Fields × List ℕ) × (eqb said.0.covered t ≡ false) × ReadsSignature w.octets said

pub record StandsAlone (w : Written) : Type 0 where
  pub canonical : List ℕ
  pub reads : ReadsAs w.rtype w.octets canonical
  pub signs : w.rtype ≡ 46 → (said : Fields × List ℕ) × ReadsSignature w.octets said

-- ---- the records of RRsets and their signatures

abbrev pub NoSignature : ServedRrset → Type 0
NoSignature g = eqb g.rtype 46 ≡ false

-- an RRset of another type
abbrev pub IsOther : ℕ → ServedRrset → Type 0
IsOther u g = eqb g.rtype u ≡ false

own_other : (u : ℕ) (g : ServedRrset) (ws : List Written) (ds : List (List ℕ)) → NoSignature g → AllZip (ReadsRecord g) ws ds → AllByRecursion (SignsOther u) ws
own_other u g [] [] none h = tt
own_other u g [] (d ∷ ds) none h = absurd h
own_other u g (w ∷ ws) [] none h = absurd h
own_other u g (w ∷ ws) (d ∷ ds) none h = (λ is. absurd (true≢false (sym (eq-eqb g.rtype 46 (sym h.0.rtype ∙ is)) ∙ none)), own_other u g ws ds none h.1)

own_alone : (g : ServedRrset) (ws : List Written) (ds : List (List ℕ)) → NoSignature g → AllZip (ReadsRecord g) ws ds → AllByRecursion StandsAlone ws
own_alone g [] [] none h = tt
own_alone g [] (d ∷ ds) none h = absurd h
own_alone g (w ∷ ws) [] none h = absurd h
own_alone g (w ∷ ws) (d ∷ ds) none h = (
  record {
    canonical = d;
    reads = subst (λ t. ReadsAs t w.octets d) (sym h.0.rtype) h.0.reads;
    signs = λ is. absurd (true≢false (sym (eq-eqb g.rtype 46 (sym h.0.rtype ∙ is)) ∙ none));
  },
  own_alone g ws ds none h.1,
)

-- a record of an RRset, or a signature of it
pub record IsOf (g : ServedRrset) (w : Written) : Type 0 where
  pub owner_is : low w.owner ≡ low g.owner
  pub covers : (w.rtype ≡ g.rtype) ⊎ ((w.rtype ≡ 46) × (said : Fields × List ℕ) × (said.0.covered ≡ g.rtype) × ReadsSignature w.octets said)

own_of : (g : ServedRrset) (ws : List Written) (ds : List (List ℕ)) → AllZip (ReadsRecord g) ws ds → AllByRecursion (IsOf g) ws
own_of g [] [] h = tt
own_of g [] (d ∷ ds) h = absurd h
own_of g (w ∷ ws) [] h = absurd h
own_of g (w ∷ ws) (d ∷ ds) h = (record { owner_is = h.0.named; covers = inl h.0.rtype }, own_of g ws ds h.1)

fields_fit : (apex : Name) (at life : ℕ) (g : GroupView) (key : Dnskey) → IsName apex → g.rtype < 65536 → g.ttl < 4294967296 → key_tag key < 65536 → AreFields (fields_of apex at life g key)
fields_fit apex at life g key name t ttl tag = record {
  covered = t;
  ttl = ttl;
  expiration = mod-lt (at + life) (lit< tt);
  inception = mod-lt at (lit< tt);
  tag = tag;
  signer = name;
}

module _ (sign : Dnskey → List ℕ → Option (List ℕ)) (verifies : Dnskey → List ℕ → List ℕ → Bool) (apex : Name) (at life : ℕ) (name : IsName apex) where
  signature_reads : (g : ServedRrset) (key : Dnskey) (d : List ℕ) → g.rtype < 65536 → g.ttl < 4294967296 → (made : IsRrsigData sign verifies apex at life (view_of g) key d)
      → ReadsSignature d (record (fields_of apex at life (view_of g) key) { signer = low apex }, made.signature)
  signature_reads g key d t ttl made m rest r few stands size =
      let f : Fields = fields_of apex at life (view_of g) key in
      let whole : List ℕ = rrsig_data f made.signature in
      let there = subst (λ x. StandsAt m r.start (x ++ rest)) made.data_is stands in
      let short : length whole ≤ 65535 = omega (arith, few, ap length there.whole, length-append there.front (whole ++ rest), length-append whole rest) in
      signature_here m f made.signature rest r (fields_fit apex at life (view_of g) key name t ttl made.tag_fits) short there (size ∙ ap length made.data_is)

  signature_alone : (g : ServedRrset) (key : Dnskey) (d : List ℕ) → g.rtype < 65536 → g.ttl < 4294967296 → IsRrsigData sign verifies apex at life (view_of g) key d → StandsAlone (rrsig_of (view_of g) d)
  signature_alone g key d t ttl made = record {
    canonical = d;
    reads = reads_plain 46 d refl refl refl;
    signs = λ is. ((record (fields_of apex at life (view_of g) key) { signer = low apex }, made.signature), signature_reads g key d t ttl made);
  }

  signatures_alone : (g : ServedRrset) (keys : List Dnskey) (ds : List (List ℕ)) → g.rtype < 65536 → g.ttl < 4294967296 → AllZip (IsRrsigData sign verifies apex at life (view_of g)) keys ds → AllByRecursion StandsAlone (map (rrsig_of (view_of g)) ds)
  signatures_alone g [] [] t ttl h = tt
  signatures_alone g [] (d ∷ ds) t ttl h = absurd h
  signatures_alone g (key ∷ keys) [] t ttl h = absurd h
  signatures_alone g (key ∷ keys) (d ∷ ds) t ttl h = (signature_alone g key d t ttl h.0, signatures_alone g keys ds t ttl h.1)

  pub groups_alone : (keys : List Dnskey) (gs : List ServedRrset) (pieces : List (List Written)) → AllByRecursion IsFormed gs → AllByRecursion NoSignature gs → AllZip (IsWritten sign verifies apex at life keys) (map view_of gs) pieces → AllByRecursion StandsAlone (joined pieces)
  groups_alone keys [] [] formed none written = tt
  groups_alone keys [] (x ∷ pieces) formed none written = absurd written
  groups_alone keys (g ∷ gs) [] formed none written = absurd written
  groups_alone keys (g ∷ gs) (x ∷ pieces) formed none written =
      let f : IsFormed g = formed.0 in
      let w = written.0 in
      let signatures : List Written = map (rrsig_of (view_of g)) w.0 in
      let own : AllByRecursion StandsAlone g.written = own_alone g g.written g.datas none.0 f.datas in
      let signed : AllByRecursion StandsAlone signatures = signatures_alone g (if g.signed then keys else []) w.0 f.rtype f.ttl w.1.0 in
      all_joined StandsAlone x (joined pieces) (subst (AllByRecursion StandsAlone) (sym w.1.1) (all_joined StandsAlone g.written signatures own signed)) (groups_alone keys gs pieces formed.1 none.1 written.1)

  -- ---- which cover another type

  signature_other : (u : ℕ) (g : ServedRrset) (key : Dnskey) (d : List ℕ) → eqb g.rtype u ≡ false → g.rtype < 65536 → g.ttl < 4294967296 → IsRrsigData sign verifies apex at life (view_of g) key d → SignsOther u (rrsig_of (view_of g) d)
  signature_other u g key d other t ttl made is = ((record (fields_of apex at life (view_of g) key) { signer = low apex }, made.signature), other, signature_reads g key d t ttl made)

  signatures_other : (u : ℕ) (g : ServedRrset) (keys : List Dnskey) (ds : List (List ℕ)) → eqb g.rtype u ≡ false → g.rtype < 65536 → g.ttl < 4294967296 → AllZip (IsRrsigData sign verifies apex at life (view_of g)) keys ds
      → AllByRecursion (SignsOther u) (map (rrsig_of (view_of g)) ds)
  signatures_other u g [] [] other t ttl h = tt
  signatures_other u g [] (d ∷ ds) other t ttl h = absurd h
  signatures_other u g (key ∷ keys) [] other t ttl h = absurd h
  signatures_other u g (key ∷ keys) (d ∷ ds) other t ttl h = (signature_other u g key d other t ttl h.0, signatures_other u g keys ds other t ttl h.1)

  pub groups_other : (u : ℕ) (keys : List Dnskey) (gs : List ServedRrset) (pieces : List (List Written)) → AllByRecursion IsFormed gs → AllByRecursion NoSignature gs → AllByRecursion (IsOther u) gs
      → AllZip (IsWritten sign verifies apex at life keys) (map view_of gs) pieces → AllByRecursion (SignsOther u) (joined pieces)
  groups_other u keys [] [] formed none other written = tt
  groups_other u keys [] (x ∷ pieces) formed none other written = absurd written
  groups_other u keys (g ∷ gs) [] formed none other written = absurd written
  groups_other u keys (g ∷ gs) (x ∷ pieces) formed none other written =
      let f : IsFormed g = formed.0 in
      let w = written.0 in
      let signatures : List Written = map (rrsig_of (view_of g)) w.0 in
      let own : AllByRecursion (SignsOther u) g.written = own_other u g g.written g.datas none.0 f.datas in
      let signed : AllByRecursion (SignsOther u) signatures = signatures_other u g (if g.signed then keys else []) w.0 other.0 f.rtype f.ttl w.1.0 in
      all_joined (SignsOther u) x (joined pieces) (subst (AllByRecursion (SignsOther u)) (sym w.1.1) (all_joined (SignsOther u) g.written signatures own signed)) (groups_other u keys gs pieces formed.1 none.1 other.1 written.1)

  -- ---- the records of one RRset

  signatures_of : (g : ServedRrset) (keys : List Dnskey) (ds : List (List ℕ)) → g.rtype < 65536 → g.ttl < 4294967296 → AllZip (IsRrsigData sign verifies apex at life (view_of g)) keys ds → AllByRecursion (IsOf g) (map (rrsig_of (view_of g)) ds)
  signatures_of g [] [] t ttl h = tt
  signatures_of g [] (d ∷ ds) t ttl h = absurd h
  signatures_of g (key ∷ keys) [] t ttl h = absurd h
  signatures_of g (key ∷ keys) (d ∷ ds) t ttl h = (
    record { owner_is = refl; covers = inr (refl, (record (fields_of apex at life (view_of g) key) { signer = low apex }, h.0.signature), refl, signature_reads g key d t ttl h.0) },
    signatures_of g keys ds t ttl h.1,
  )

  pub piece_of : (keys : List Dnskey) (g : ServedRrset) (ws : List Written) → IsFormed g → IsWritten sign verifies apex at life keys (view_of g) ws → AllByRecursion (IsOf g) ws
  piece_of keys g ws f w =
      subst (AllByRecursion (IsOf g)) (sym w.1.1)
      (all_joined (IsOf g) g.written (map (rrsig_of (view_of g)) w.0) (own_of g g.written g.datas f.datas) (signatures_of g (if g.signed then keys else []) w.0 f.rtype f.ttl w.1.0))

-- a record of a message that is one of an RRset, or a signature of it
pub record IsRecordOf (g : ServedRrset) (m : List ℕ) (r : Spelled) : Type 0 where
  pub owner_is : low r.owner ≡ low g.owner
  pub covers : (r.rtype ≡ g.rtype) ⊎ ((r.rtype ≡ 46) × (said : Fields × List ℕ) × (said.0.covered ≡ g.rtype) × (rrsig_at pointer_limit m r ≡ Some said))

record_of : (g : ServedRrset) (m : List ℕ) (p : ℕ) (w : Written) (rest : List ℕ) → length m ≤ 65535 → IsOf g w → StandsAt m p (record_octets w ++ rest) → IsRecordOf g m (spelled_at p w)
record_of g m p w rest few is one = record {
  owner_is = is.owner_is;
  covers = ⊎_elim
      (λ type. inl type)
      (λ c. inr (c.0, c.1, c.2, c.3 m rest (spelled_at p w) few (data_behind m p w rest one) refl))
      is.covers;
}

pub records_of : (g : ServedRrset) (m : List ℕ) (p : ℕ) (ws : List Written) (rest : List ℕ) → length m ≤ 65535 → AllByRecursion (IsOf g) ws → StandsAt m p (flat_map record_octets ws ++ rest) → AllByRecursion (IsRecordOf g m) (spelled_from p ws)
records_of g m p [] rest few is one = tt
records_of g m p (w ∷ ws) rest few is one =
    (record_of g m p w _ few is.0 (first_stands m p w ws rest one), records_of g m (end_of p w) ws rest few is.1 (rest_stands m p w ws rest one))

-- so no signature covers that type
covers_no : (u : ℕ) (m : List ℕ) (p : ℕ) (v : Written) (rest : List ℕ) → length m ≤ 65535 → SignsOther u v → StandsAt m p (record_octets v ++ rest) → (b : Bool) → eqb v.rtype 46 ≡ b
    → (b && elim (rrsig_at pointer_limit m (spelled_at p v)) as (λ _. Bool) [ None ↦ false | Some f ↦ eqb f.0.covered u ]) ≡ false
covers_no u m p v rest few other one true e =
    let s = other (eqb-true v.rtype 46 e) in
    ap (λ x. elim x as (λ _. Bool) [ None ↦ false | Some f ↦ eqb f.0.covered u ]) (s.2 m rest (spelled_at p v) few (data_behind m p v rest one) refl) ∙ s.1
covers_no u m p v rest few other one false e = refl

pub uncovered : (u : ℕ) (m : List ℕ) (p : ℕ) (vs : List Written) (rest : List ℕ) → length m ≤ 65535 → AllByRecursion (SignsOther u) vs → StandsAt m p (flat_map record_octets vs ++ rest)
    → list_any (is_covering pointer_limit m u) (spelled_from p vs) ≡ false
uncovered u m p [] rest few others one = refl
uncovered u m p (v ∷ vs) rest few others one =
    let first : is_covering pointer_limit m u (spelled_at p v) ≡ false = covers_no u m p v _ few others.0 (first_stands m p v vs rest one) (eqb v.rtype 46) refl in
    λ i. first i || uncovered u m (end_of p v) vs rest few others.1 (rest_stands m p v vs rest one) i

-- ---- two messages

-- a record with another TTL
pub record SameButTtl (v w : Written) : Type 0 where
  pub owner_is : v.owner ≡ w.owner
  pub type_is : v.rtype ≡ w.rtype
  pub class_is : v.class ≡ w.class
  pub octets_are : v.octets ≡ w.octets
  pub ttl_is : w.ttl ≤ v.ttl

record_alike : (m n : List ℕ) (p q : ℕ) (v w : Written) (rest more : List ℕ) → length m ≤ 65535 → length n ≤ 65535 → StandsAlone v → SameButTtl v w → StandsAt m p (record_octets v ++ rest) → StandsAt n q (record_octets w ++ more)
    → IsLike pointer_limit m n (spelled_at p v) (spelled_at q w)
record_alike m n p q v w rest more few short alone same one other =
    let there = data_behind m p v rest one in
    let here = subst (λ x. StandsAt n (spelled_at q w).start (x ++ more)) (sym same.octets_are) (data_behind n q w more other) in
    let size = ap length (sym same.octets_are) in
    record {
      owner_is = ap low same.owner_is;
      type_is = same.type_is;
      class_is = same.class_is;
      data_are = alone.reads m rest (spelled_at p v) few refl there refl ∙ sym (alone.reads n more (spelled_at q w) short (sym same.type_is) here size);
      signature_is = λ is.
          let s = alone.signs is in
          s.1 m rest (spelled_at p v) few there refl ∙ sym (s.1 n more (spelled_at q w) short here size);
    }

pub records_alike : (m n : List ℕ) (p q : ℕ) (vs ws : List Written) (rest more : List ℕ) → length m ≤ 65535 → length n ≤ 65535 → AllByRecursion StandsAlone vs → AllZip SameButTtl vs ws → StandsAt m p (flat_map record_octets vs ++ rest) → StandsAt n q (flat_map record_octets ws ++ more)
    → AllZip (IsLike pointer_limit m n) (spelled_from p vs) (spelled_from q ws)
records_alike m n p q [] [] rest more few short alone same one other = tt
records_alike m n p q [] (w ∷ ws) rest more few short alone same one other = absurd same
records_alike m n p q (v ∷ vs) [] rest more few short alone same one other = absurd same
records_alike m n p q (v ∷ vs) (w ∷ ws) rest more few short alone same one other = (
  record_alike m n p q v w _ _ few short alone.0 same.0 (first_stands m p v vs rest one) (first_stands n q w ws more other),
  records_alike m n (end_of p v) (end_of q w) vs ws rest more few short alone.1 same.1 (rest_stands m p v vs rest one) (rest_stands n q w ws more other),
)
