-- An NSEC record whose canonical data are known says one next name and one bitmap.
use Rattle.std.proofs.Common.{◌≡◌, ℕ, Bool, true, false, ◌&&◌, List, ◌++◌, length, Option, Some, None, Result, Ok, Err, eqb, leb, refl, sym, ap, subst, ◌∙◌, arith}
use Rattle.std.specs.Prelude.{slice_range}
use Rattle.std.specs.List.{AllByRecursion}
use Rattle.std.proofs.lemmas.Bool.{eq-eqb, ne_eqb}
use Rattle.definitions.specs.Bitmap.{is_bitmap}
use Rattle.definitions.specs.Name.{Name, IsLabel, wire}
use Rattle.definitions.specs.Reading.{name_at}
use Rattle.definitions.proofs.ReadingLaws.{reads_exactly}
use Rattle.definitions.proofs.SignedLaws.{Labelled, wire_of}
use Rattle.messages.specs.declared.error.MessageError.{MessageError}
use Rattle.messages.specs.Message.{Spelled, canonical_data, data_of, fits, if_true, name_in, name_upto, ns_data, nsec3_data, nsec_at, nsec_data, owner_at, soa_data}
use Rattle.messages.specs.Message as message
use Rattle.messages.proofs.Lists.{some_is}
use Rattle.messages.proofs.MessageParts.{owner_reads}
use Rattle.messages.proofs.ReadNames.{labelled, reads_labelled}

abbrev name_upto_from : ℕ → Result (Name × ℕ) MessageError → Option (Name × ℕ)
name_upto_from limit o = elim o [ Err e ↦ None | Ok n ↦ if_true (leb n.1 limit) n ]

pub if_true_some : {A : Type 0} (b : Bool) (x y : A) → if_true b x ≡ Some y → x ≡ y
if_true_some true x y h = some_is x y h
if_true_some false x y h = cc

upto_ok : (limit : ℕ) (o : Result (Name × ℕ) MessageError) (n : Name × ℕ) → name_upto_from limit o ≡ Some n → o ≡ Ok n
upto_ok limit (Ok r) n h = ap Ok (if_true_some (leb r.1 limit) r n h)
upto_ok limit (Err e) n h = cc

inside_some : (b : Bool) (o : Option (Name × ℕ)) (n : Name × ℕ) → elim b as (λ _. Option (Name × ℕ)) [ false ↦ None | true ↦ o ] ≡ Some n → o ≡ Some n
inside_some true o n h = h
inside_some false o n h = cc

-- a name in a record's data stands in the message
pub name_in_at : (k : ℕ) (m : List ℕ) (r : Spelled) (p : ℕ) (n : Name × ℕ) → name_in k m r p ≡ Some n → name_at k m p ≡ Ok n
name_in_at k m r p n h =
    let upto = inside_some (leb (message.behind r) (length m)) (name_upto k m p (message.behind r)) n h in
    owner_reads k m p n (upto_ok (message.behind r) (owner_at k m p) n upto)

name_in_labelled : (k : ℕ) (m : List ℕ) (r : Spelled) (p : ℕ) (n : Name × ℕ) → name_in k m r p ≡ Some n → Labelled n.0
name_in_labelled k m r p n h =
    let reads = (reads_exactly m p k n.0 n.1).0 (name_in_at k m r p n h) in
    reads_labelled reads.0

-- ---- the data of an NSEC record

abbrev nsec_from : List ℕ → Spelled → Option (Name × ℕ) → Option (Name × List ℕ)
nsec_from m r o = elim o [
  | None ↦ None
  | Some n ↦ let bits = slice_range m n.1 (message.behind r) in if_true (is_bitmap bits && fits (wire n.0 ++ bits)) (n.0, bits)
]

next_labelled : (k : ℕ) (m : List ℕ) (r : Spelled) (o : Option (Name × ℕ)) (n : Name × List ℕ) → name_in k m r r.start ≡ o → nsec_from m r o ≡ Some n → Labelled n.0
next_labelled k m r None n e h = cc
next_labelled k m r (Some s) n e h =
    let bits : List ℕ = slice_range m s.1 (message.behind r) in
    let same : (s.0, bits) ≡ n = if_true_some (is_bitmap bits && fits (wire s.0 ++ bits)) (s.0, bits) n h in
    subst Labelled (ap (λ (x : Name × List ℕ). x.0) same) (name_in_labelled k m r r.start s e)

nsec_at_labelled : (k : ℕ) (m : List ℕ) (r : Spelled) (n : Name × List ℕ) → nsec_at k m r ≡ Some n → Labelled n.0
nsec_at_labelled k m r n h = next_labelled k m r (name_in k m r r.start) n refl h

abbrev pub canonical_by : ℕ → List ℕ → Spelled → Bool → Bool → Bool → Bool → Option (List ℕ)
canonical_by k m r two six nsec nsec3 =
    elim two [
      | true ↦ ns_data k m r
      | false ↦ elim six [
        | true ↦ soa_data k m r
        | false ↦ elim nsec [
          | true ↦ nsec_data k m r
          | false ↦ elim nsec3 [ true ↦ nsec3_data m r | false ↦ Some (data_of m r) ]
        ]
      ]
    ]

pub canonical_nsec : (k : ℕ) (m : List ℕ) (r : Spelled) → r.rtype ≡ 47 → canonical_data k m r ≡ nsec_data k m r
canonical_nsec k m r e =
    let two : eqb r.rtype 2 ≡ false = ne_eqb r.rtype 2 (λ h. omega (arith, e, h)) in
    let six : eqb r.rtype 6 ≡ false = ne_eqb r.rtype 6 (λ h. omega (arith, e, h)) in
    let nsec : eqb r.rtype 47 ≡ true = eq-eqb r.rtype 47 e in
    λ i. canonical_by k m r (two i) (six i) (nsec i) (eqb r.rtype 50)

-- data of a type without names are their octets
pub canonical_octets : (k : ℕ) (m : List ℕ) (r : Spelled) → eqb r.rtype 2 ≡ false → eqb r.rtype 6 ≡ false → eqb r.rtype 47 ≡ false → eqb r.rtype 50 ≡ false → canonical_data k m r ≡ Some (data_of m r)
canonical_octets k m r two six nsec nsec3 = λ i. canonical_by k m r (two i) (six i) (nsec i) (nsec3 i)

-- those of an NSEC3 record are canonical as they stand
pub canonical_nsec3 : (k : ℕ) (m : List ℕ) (r : Spelled) → r.rtype ≡ 50 → canonical_data k m r ≡ nsec3_data m r
canonical_nsec3 k m r e = λ i. canonical_by k m r (eqb (e i) 2) (eqb (e i) 6) (eqb (e i) 47) (eqb (e i) 50)

abbrev nsec_joined : Option (Name × List ℕ) → Option (List ℕ)
nsec_joined o = elim o [ None ↦ None | Some n ↦ Some (wire n.0 ++ n.1) ]

read_back : (k : ℕ) (m : List ℕ) (r : Spelled) (o : Option (Name × List ℕ)) (next : Name) (bits : List ℕ) → Labelled next → nsec_at k m r ≡ o → nsec_joined o ≡ Some (wire next ++ bits) → nsec_at k m r ≡ Some (next, bits)
read_back k m r None next bits l e h = cc
read_back k m r (Some n) next bits l e h =
    let octets : wire n.0 ++ n.1 ≡ wire next ++ bits = some_is (wire n.0 ++ n.1) (wire next ++ bits) h in
    let one = wire_of n.0 next n.1 bits (nsec_at_labelled k m r n e) l octets in
    e ∙ (λ i. Some (one.0 i, one.1 i))

pub nsec_given : (k : ℕ) (m : List ℕ) (r : Spelled) (next : Name) (bits : List ℕ) → AllByRecursion IsLabel next → r.rtype ≡ 47 → canonical_data k m r ≡ Some (wire next ++ bits) → nsec_at k m r ≡ Some (next, bits)
nsec_given k m r next bits l t h = read_back k m r (nsec_at k m r) next bits (labelled next l) refl (sym (canonical_nsec k m r t) ∙ h)
