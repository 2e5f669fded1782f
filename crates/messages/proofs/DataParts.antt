-- The data of a record, as they are read part by part and as they are defined.
use Rattle.std.proofs.Common.{◌≡◌, ℕ, ◌+◌, ◌≤◌, Bool, true, false, ◌&&◌, List, ◌++◌, length, Option, Some, None, Result, Ok, Err, refl, sym, subst, ap, ◌∙◌, eqb, leb, arith}
use Rattle.std.specs.Prelude.{slice_range, if◌then◌else◌}
use Rattle.std.proofs.lemmas.Bool.{eq-eqb, eqb-true, le-leb, leb-true, leb-false, lt-leb}
use Rattle.definitions.specs.Bitmap.{is_bitmap}
use Rattle.definitions.specs.Name.{Name, wire, low}
use Rattle.definitions.specs.Limits.{pointer_limit}
use Rattle.definitions.specs.Reading.{ReadFault, Short, Malformed, name_at}
use Rattle.definitions.specs.Signing.{Fields}
use Rattle.definitions.proofs.ReadingLaws.{reads_exactly}
use Rattle.definitions.proofs.SignedLaws.{Labelled}
use Rattle.names_rdata.specs.Reading.{behind_octets, data_at, ended, followed_by, if_short, name_inside, name_part, octets_part, rest_part, two_parts}
use Rattle.plain.specs.Soa.{soa_part}
use Rattle.denial_data.specs.Bitmaps.{bitmap_part}
use Rattle.denial_data.specs.Nsec.{nsec_part}
use Rattle.denial_data.specs.Signatures.{rrsig_part}
use Rattle.messages.specs.declared.error.MessageError.{MessageError}
use Rattle.messages.specs.Message.{Spelled, fault_of, fits, if_true, name_in, ns_data, nsec_at, owner_at, rrsig_at, rrsig_fields, soa_data}
use Rattle.messages.specs.Message as message
use Rattle.messages.specs.Record.{reader_of}
use Rattle.messages.proofs.ReadNames.{reads_labelled}

-- octets that were read are those of what is defined, or neither is there
abbrev pub Matches : {X : Type 0} → (List ℕ → X → Type 0) → Result (List ℕ) ReadFault → Option X → Type 0
Matches is (Ok octets) (Some x) = is octets x
Matches is (Ok octets) None = ⊥
Matches is (Err f) (Some x) = ⊥
Matches is (Err f) None = Unit {0}

-- what was read is there
pub matched : {X : Type 0} (is : List ℕ → X → Type 0) (found : Result (List ℕ) ReadFault) (o : Option X) (octets : List ℕ) → Matches is found o → found ≡ Ok octets → (x : X) × (o ≡ Some x) × is octets x
matched is (Ok xs) (Some x) octets m e = let same : xs ≡ octets = cc in (x, refl, subst (λ ys. is ys x) same m)
matched is (Ok xs) None octets m e = absurd m
matched is (Err f) o octets m e = cc

-- what was not is not
pub unmatched : {X : Type 0} (is : List ℕ → X → Type 0) (found : Result (List ℕ) ReadFault) (o : Option X) (f : ReadFault) → Matches is found o → found ≡ Err f → o ≡ None
unmatched is (Ok xs) o f m e = cc
unmatched is (Err g) (Some x) f m e = absurd m
unmatched is (Err g) None f m e = refl

-- a name where its reading is known
abbrev NameOk : Result (Name × ℕ) ReadFault → Type 0
NameOk (Ok n) = Labelled n.0
NameOk (Err f) = Unit {0}

name_ok : (m : List ℕ) (p : ℕ) → NameOk (name_at pointer_limit m p)
name_ok m p = go (name_at pointer_limit m p) refl
  where
    go : (o : Result (Name × ℕ) ReadFault) → name_at pointer_limit m p ≡ o → NameOk o
    go (Ok n) e = reads_labelled ((reads_exactly m p pointer_limit n.0 n.1).0 e).0
    go (Err f) e = tt

abbrev owner_from : Result (Name × ℕ) ReadFault → Result (Name × ℕ) MessageError
owner_from o = elim o [ Ok r ↦ Ok r | Err f ↦ Err (fault_of f) ]

abbrev upto : ℕ → Result (Name × ℕ) ReadFault → Option (Name × ℕ)
upto e o = elim (owner_from o) [ Err f ↦ None | Ok n ↦ if_true (leb n.1 e) n ]

-- a name within data that the message has
name_within : (m : List ℕ) (r : Spelled) (p : ℕ) → message.behind r ≤ length m → name_in pointer_limit m r p ≡ upto (message.behind r) (name_at pointer_limit m p)
unfolding owner_at
name_within m r p inside =
    (λ i. elim (le-leb (message.behind r) (length m) inside i) as (λ _. Option (Name × ℕ)) [ false ↦ None | true ↦ upto (message.behind r) (name_at pointer_limit m p) ])

-- octets that end with the data
pub at_end : {X : Type 0} (is : List ℕ → X → Type 0) (e : ℕ) (octets : List ℕ) (x : X) → is octets x → Matches is (ended e (Ok (octets, e))) (Some x)
at_end is e octets x h = subst (λ b. Matches is (if b then Ok octets else Err Malformed) (Some x)) (sym (eq-eqb e e refl)) h

-- ---- NS data

pub record NsIs (octets canonical : List ℕ) : Type 0 where
  pub name : Name
  pub labelled : Labelled name
  pub octets_are : octets ≡ wire name
  pub canonical_is : canonical ≡ wire (low name)

abbrev ns_from : ℕ → Option (Name × ℕ) → Option (List ℕ)
ns_from e None = None
ns_from e (Some n) = if_true (eqb n.1 e) (wire (low n.0))

ns_upto : (e : ℕ) (o : Result (Name × ℕ) ReadFault) → NameOk o → Matches NsIs (ended e (name_inside e o)) (ns_from e (upto e o))
ns_upto e (Err f) ok = tt
ns_upto e (Ok n) ok = go (leb n.1 e)
  where
    last : (c : Bool) → Matches NsIs (if c then Ok (wire n.0) else Err Malformed) (if_true c (wire (low n.0)))
    last true = record { name = n.0; labelled = ok; octets_are = refl; canonical_is = refl }
    last false = tt

    go : (b : Bool) → Matches NsIs (ended e (if b then Ok (wire n.0, n.1) else Err Short)) (ns_from e (if_true b n))
    go true = last (eqb n.1 e)
    go false = tt

pub ns_matches : (m : List ℕ) (r : Spelled) → message.behind r ≤ length m → Matches NsIs (data_at name_part (reader_of m r)) (ns_data pointer_limit m r)
ns_matches m r inside =
    let e = message.behind r in
    subst (λ o. Matches NsIs (data_at name_part (reader_of m r)) (ns_from e o)) (sym (name_within m r r.start inside)) (ns_upto e (name_at pointer_limit m r.start) (name_ok m r.start))

-- ---- SOA data

pub record SoaIs (octets canonical : List ℕ) : Type 0 where
  pub mname : Name
  pub rname : Name
  pub numbers : List ℕ
  pub mname_labelled : Labelled mname
  pub rname_labelled : Labelled rname
  pub octets_are : octets ≡ wire mname ++ (wire rname ++ numbers)
  pub canonical_is : canonical ≡ wire (low mname) ++ wire (low rname) ++ numbers

abbrev soa_second : List ℕ → ℕ → Name → Option (Name × ℕ) → Option (List ℕ)
soa_second m e n None = None
soa_second m e n (Some o) = if_true (eqb (o.1 + 20) e) (wire (low n) ++ wire (low o.0) ++ slice_range m o.1 e)

soa_last : (m : List ℕ) (e : ℕ) (n : Name) (o : Result (Name × ℕ) ReadFault) → Labelled n → NameOk o → Matches SoaIs (ended e (behind_octets (wire n) (followed_by (octets_part 20) m e (name_inside e o)))) (soa_second m e n (upto e o))
soa_last m e n (Err f) first ok = tt
soa_last m e n (Ok o) first ok = go (leb o.1 e)
  where
    whole : SoaIs (wire n ++ (wire o.0 ++ slice_range m o.1 (o.1 + 20))) (wire (low n) ++ wire (low o.0) ++ slice_range m o.1 (o.1 + 20))
    whole = record { mname = n; rname = o.0; numbers = slice_range m o.1 (o.1 + 20); mname_labelled = first; rname_labelled = ok; octets_are = refl; canonical_is = refl }

    there : (b : Bool) → leb (o.1 + 20) e ≡ b → (c : Bool) → eqb (o.1 + 20) e ≡ c
        → Matches SoaIs (ended e (behind_octets (wire n) (behind_octets (wire o.0) (if b then Ok (slice_range m o.1 (o.1 + 20), o.1 + 20) else Err Short)))) (if_true c (wire (low n) ++ wire (low o.0) ++ slice_range m o.1 e))
    there true h true k =
        let z : o.1 + 20 ≡ e = eqb-true (o.1 + 20) e k in
        subst (λ b. Matches SoaIs (if b then Ok (wire n ++ (wire o.0 ++ slice_range m o.1 (o.1 + 20))) else Err Malformed) (Some (wire (low n) ++ wire (low o.0) ++ slice_range m o.1 e))) (sym k)
        (subst (λ q. SoaIs (wire n ++ (wire o.0 ++ slice_range m o.1 (o.1 + 20))) (wire (low n) ++ wire (low o.0) ++ slice_range m o.1 q)) z whole)
    there true h false k = subst (λ b. Matches SoaIs (if b then Ok (wire n ++ (wire o.0 ++ slice_range m o.1 (o.1 + 20))) else Err Malformed) None) (sym k) tt
    there false h true k = absurd (omega (arith, leb-false (o.1 + 20) e h, eqb-true (o.1 + 20) e k))
    there false h false k = tt

    go : (b : Bool) → Matches SoaIs (ended e (behind_octets (wire n) (followed_by (octets_part 20) m e (if b then Ok (wire o.0, o.1) else Err Short)))) (soa_second m e n (if_true b o))
    go true = there (leb (o.1 + 20) e) refl (eqb (o.1 + 20) e) refl
    go false = tt

abbrev soa_first : List ℕ → ℕ → Option (Name × ℕ) → Option (List ℕ)
soa_first m e None = None
soa_first m e (Some n) = soa_second m e n.0 (upto e (name_at pointer_limit m n.1))

soa_upto : (m : List ℕ) (e : ℕ) (o : Result (Name × ℕ) ReadFault) → NameOk o → Matches SoaIs (ended e (followed_by (two_parts name_part (octets_part 20)) m e (name_inside e o))) (soa_first m e (upto e o))
soa_upto m e (Err f) ok = tt
soa_upto m e (Ok n) ok = go (leb n.1 e)
  where
    go : (b : Bool) → Matches SoaIs (ended e (followed_by (two_parts name_part (octets_part 20)) m e (if b then Ok (wire n.0, n.1) else Err Short))) (soa_first m e (if_true b n))
    go true = soa_last m e n.0 (name_at pointer_limit m n.1) ok (name_ok m n.1)
    go false = tt

abbrev pub soa_by : List ℕ → Spelled → Option (Name × ℕ) → Option (List ℕ)
soa_by m r o = elim o [
  | None ↦ None
  | Some n ↦ elim (name_in pointer_limit m r n.1) [
    | None ↦ None
    | Some o ↦ if_true (eqb (o.1 + 20) (message.behind r)) (wire (low n.0) ++ wire (low o.0) ++ slice_range m o.1 (message.behind r))
  ]
]

soa_names : (m : List ℕ) (r : Spelled) → message.behind r ≤ length m → (o : Option (Name × ℕ)) → soa_by m r o ≡ soa_first m (message.behind r) o
soa_names m r inside None = refl
soa_names m r inside (Some n) = ap (soa_second m (message.behind r) n.0) (name_within m r n.1 inside)

pub soa_matches : (m : List ℕ) (r : Spelled) → message.behind r ≤ length m → Matches SoaIs (data_at soa_part (reader_of m r)) (soa_data pointer_limit m r)
soa_matches m r inside =
    let e = message.behind r in
    subst (Matches SoaIs (data_at soa_part (reader_of m r))) (sym (ap (soa_by m r) (name_within m r r.start inside) ∙ soa_names m r inside (upto e (name_at pointer_limit m r.start))))
    (soa_upto m e (name_at pointer_limit m r.start) (name_ok m r.start))

-- ---- NSEC data

pub record LinkIs (octets : List ℕ) (link : Name × List ℕ) : Type 0 where
  pub labelled : Labelled link.0
  pub octets_are : octets ≡ wire link.0 ++ link.1

abbrev link_from : List ℕ → ℕ → Option (Name × ℕ) → Option (Name × List ℕ)
link_from m e None = None
link_from m e (Some n) = let bits = slice_range m n.1 e in if_true (is_bitmap bits && fits (wire n.0 ++ bits)) (n.0, bits)

link_upto : (m : List ℕ) (e : ℕ) (o : Result (Name × ℕ) ReadFault) → NameOk o → Matches LinkIs (ended e (if_short (followed_by bitmap_part m e (name_inside e o)))) (link_from m e (upto e o))
link_upto m e (Err f) ok = tt
link_upto m e (Ok n) ok = go (leb n.1 e)
  where
    bits : List ℕ
    bits = slice_range m n.1 e

    short : (c : Bool) → Matches LinkIs (ended e (if c then Ok (wire n.0 ++ slice_range m n.1 e, e) else Err Malformed)) (if_true c (n.0, slice_range m n.1 e))
    short true = at_end LinkIs e (wire n.0 ++ slice_range m n.1 e) (n.0, slice_range m n.1 e) (record { labelled = ok; octets_are = refl })
    short false = tt

    valid : (c : Bool) (f : ReadFault) → Matches LinkIs (ended e (if_short (behind_octets (wire n.0) (if c then Ok (slice_range m n.1 e, e) else Err f)))) (if_true (c && fits (wire n.0 ++ slice_range m n.1 e)) (n.0, slice_range m n.1 e))
    valid true f = short (fits (wire n.0 ++ slice_range m n.1 e))
    valid false f = tt

    go : (b : Bool) → Matches LinkIs (ended e (if_short (followed_by bitmap_part m e (if b then Ok (wire n.0, n.1) else Err Short)))) (link_from m e (if_true b n))
    go true = valid (is_bitmap (slice_range m n.1 e)) _
    go false = tt

pub link_matches : (m : List ℕ) (r : Spelled) → message.behind r ≤ length m → Matches LinkIs (data_at nsec_part (reader_of m r)) (nsec_at pointer_limit m r)
link_matches m r inside =
    let e = message.behind r in
    subst (λ o. Matches LinkIs (data_at nsec_part (reader_of m r)) (link_from m e o)) (sym (name_within m r r.start inside)) (link_upto m e (name_at pointer_limit m r.start) (name_ok m r.start))

-- ---- RRSIG data

-- eighteen octets of numbers, the signer and the signature
pub record SignatureIs (m : List ℕ) (start e : ℕ) (octets : List ℕ) (s : Fields × List ℕ) : Type 0 where
  pub signer : Name
  pub labelled : Labelled signer
  pub there : start + 18 ≤ e
  pub octets_are : octets ≡ slice_range m start (start + 18) ++ (wire signer ++ s.1)
  pub fields_are : s.0 ≡ rrsig_fields m start (low signer)

abbrev signature_from : List ℕ → ℕ → ℕ → Option (Name × ℕ) → Option (Fields × List ℕ)
signature_from m start e None = None
signature_from m start e (Some n) = let signature = slice_range m n.1 e in if_true (fits (slice_range m start (start + 18) ++ (wire n.0 ++ signature))) (rrsig_fields m start (low n.0), signature)

signature_upto : (m : List ℕ) (start e : ℕ) (o : Result (Name × ℕ) ReadFault) → start + 18 ≤ e → NameOk o
    → Matches (SignatureIs m start e) (ended e (if_short (behind_octets (slice_range m start (start + 18)) (followed_by rest_part m e (name_inside e o))))) (signature_from m start e (upto e o))
signature_upto m start e (Err f) long ok = tt
signature_upto m start e (Ok n) long ok = go (leb n.1 e)
  where
    short : (c : Bool) → Matches (SignatureIs m start e) (ended e (if c then Ok (slice_range m start (start + 18) ++ (wire n.0 ++ slice_range m n.1 e), e) else Err Malformed)) (if_true c (rrsig_fields m start (low n.0), slice_range m n.1 e))
    short true = at_end (SignatureIs m start e) e _ _ (record { signer = n.0; labelled = ok; there = long; octets_are = refl; fields_are = refl })
    short false = tt

    go : (b : Bool) → Matches (SignatureIs m start e) (ended e (if_short (behind_octets (slice_range m start (start + 18)) (followed_by rest_part m e (if b then Ok (wire n.0, n.1) else Err Short))))) (signature_from m start e (if_true b n))
    go true = short (fits (slice_range m start (start + 18) ++ (wire n.0 ++ slice_range m n.1 e)))
    go false = tt

abbrev signature_left : List ℕ → ℕ → ℕ → Bool → Result (List ℕ) ReadFault
signature_left m start e b = ended e (if_short (followed_by (two_parts name_part rest_part) m e (if b then Ok (slice_range m start (start + 18), start + 18) else Err Short)))

abbrev signature_right : List ℕ → ℕ → ℕ → Bool → Option (Name × ℕ) → Option (Fields × List ℕ)
signature_right m start e b o = elim b [ false ↦ None | true ↦ signature_from m start e o ]

signature_long : (m : List ℕ) (start e : ℕ) (b : Bool) → leb (start + 18) e ≡ b → Matches (SignatureIs m start e) (signature_left m start e b) (signature_right m start e b (upto e (name_at pointer_limit m (start + 18))))
signature_long m start e true h = signature_upto m start e (name_at pointer_limit m (start + 18)) (leb-true (start + 18) e h) (name_ok m (start + 18))
signature_long m start e false h = tt

same_long : (start n : ℕ) → leb 18 n ≡ leb (start + 18) (start + n)
same_long start n = go (leb 18 n) refl
  where
    go : (b : Bool) → leb 18 n ≡ b → b ≡ leb (start + 18) (start + n)
    go true h = sym (le-leb (start + 18) (start + n) (omega (arith, leb-true 18 n h)))
    go false h = sym (lt-leb (start + 18) (start + n) (omega (arith, leb-false 18 n h)))

pub signature_matches : (m : List ℕ) (r : Spelled) → message.behind r ≤ length m → Matches (SignatureIs m r.start (message.behind r)) (data_at rrsig_part (reader_of m r)) (rrsig_at pointer_limit m r)
signature_matches m r inside =
    let e = message.behind r in
    let start = r.start in
    let right : rrsig_at pointer_limit m r ≡ signature_right m start e (leb (start + 18) e) (upto e (name_at pointer_limit m (start + 18))) =
    (λ i. signature_right m start e (same_long start r.length i) (name_within m r (start + 18) inside i)) in
    subst (Matches (SignatureIs m start e) (data_at rrsig_part (reader_of m r))) (sym right) (signature_long m start e (leb (start + 18) e) refl)
