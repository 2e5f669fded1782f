-- What is read of a message of octets: names, numbers that fit, and short data of octets.
use Rattle.std.proofs.Common.{◌≡◌, ℕ, zero, suc, ◌+◌, ◌-◌, ◌<◌, ◌≤◌, ◌^◌, Bool, true, false, ◌&&◌, List, [], ◌∷◌, ◌++◌, length, take, drop, Option, Some, None, Ok, eqb, leb, refl, sym, ap, subst, ◌∙◌, arith}
use Rattle.std.specs.Prelude.{slice_range, nat_eq}
use Rattle.std.specs.Int.{w16, w32, to_be_bytes}
use Rattle.std.specs.List.{AllByRecursion, cons_option, filter_map, flat_map}
use Rattle.std.specs.Char.{to_ascii_lowercase}
use Rattle.std.specs.Ordering.{nat_cmp}
use Rattle.std.specs.Cmp.Lexicographic.{slice_cmp}
use Rattle.std.specs.Str.{str_to_ascii_lowercase}
use Rattle.std.proofs.lemmas.Bool.{and_parts, eqb-true, leb-true}
use Rattle.std.proofs.lemmas.List.{length-append, length-take}
use Rattle.definitions.specs.Bitmap.{is_bitmap}
use Rattle.definitions.specs.Name.{Name, IsLabel, IsName, low, same, wire, wire_len}
use Rattle.definitions.specs.Reading.{Reads, root, label, pointer, name_at}
use Rattle.definitions.specs.Signing.{Fields}
use Rattle.definitions.proofs.ReadingLaws.{length-range, reads_exactly, wire_len-cons}
use Rattle.messages.specs.Message.{AreOctets, Message, Spelled, canonical_data, data_of, fits, if_true, message, name_in, nsec3_at, nsec_at, pair, quad, rrsig_at, rrsig_fields}
use Rattle.messages.specs.Message as message
use Rattle.messages.proofs.Lists.{all_more, all_sorted, some_is}
use Rattle.messages.proofs.MessageParts.{Stands, each_stands, headed, number_there, octet_index, owner_reads}
use Rattle.answer_terms.proofs.ZoneNaming.{lower_len, lower_name}
use Rattle.answer_judge_facts.specs.Verified.{datum_of, rrset_in}
use Rattle.answer_judge.proofs.GivenNext.{canonical_by, if_true_some, name_in_at}

-- ---- octets

pub octets_join : (xs ys : List ℕ) → AreOctets xs → AreOctets ys → AreOctets (xs ++ ys)
octets_join [] ys h k = k
octets_join (x ∷ xs) ys h k = (h.0, octets_join xs ys h.1 k)

pub all_drop : {A : Type 0} (P : A → Type 0) (k : ℕ) (xs : List A) → AllByRecursion P xs → AllByRecursion P (drop k xs)
all_drop P zero xs h = h
all_drop P (suc k) [] h = tt
all_drop P (suc k) (x ∷ xs) h = all_drop P k xs h.1

octets_take : (n : ℕ) (xs : List ℕ) → AreOctets xs → AreOctets (take n xs)
octets_take zero xs h = tt
octets_take (suc n) [] h = tt
octets_take (suc n) (x ∷ xs) h = (h.0, octets_take n xs h.1)

pub octets_range : (m : List ℕ) (s e : ℕ) → AreOctets m → AreOctets (slice_range m s e)
octets_range m s e h = octets_take (e - s) (drop s m) (all_drop (λ x. x < 256) s m h)

pub octets_16 : (n : ℕ) → AreOctets (to_be_bytes w16 n)
octets_16 n = (omega arith, (omega arith, tt))

pub octets_32 : (n : ℕ) → AreOctets (to_be_bytes w32 n)
octets_32 n = (omega arith, (omega arith, (omega arith, (omega arith, tt))))

low_octet : (c : ℕ) → c < 256 → to_ascii_lowercase c < 256
low_octet c h = grind arith

low_octets : (l : List ℕ) → AreOctets l → AreOctets (str_to_ascii_lowercase l)
low_octets [] h = tt
low_octets (c ∷ l) h = (low_octet c h.0, low_octets l h.1)

-- ---- names of octets

abbrev pub AreLabels : Name → Type 0
AreLabels n = AllByRecursion AreOctets n

pub lowered_octets : (n : Name) → AreLabels n → AreLabels (low n)
lowered_octets [] h = tt
lowered_octets (l ∷ n) h = (low_octets l h.0, lowered_octets n h.1)

labels_octets : (n : Name) → AllByRecursion IsLabel n → AreLabels n → AreOctets (flat_map (λ l. length l ∷ l) n)
labels_octets [] h k = tt
labels_octets (l ∷ n) h k = (omega (arith, h.0.short), octets_join l _ k.0 (labels_octets n h.1 k.1))

pub wire_octets : (n : Name) → AllByRecursion IsLabel n → AreLabels n → AreOctets (wire n)
wire_octets n h k = octets_join _ (0 ∷ []) (labels_octets n h k) (omega arith, tt)

-- ---- names that are read

pub record IsRead (n : Name) : Type 0 where
  pub name : IsName n
  pub octets : AreLabels n

reads_labels : {m : List ℕ} {p k b : ℕ} {ls : Name} → AreOctets m → Reads m p k ls b → AllByRecursion IsLabel ls × AreLabels ls
reads_labels o (root h e) = (tt, tt)
reads_labels {m} {p} o (label {n = n} {e = e} {l = l} h a b c d f r) =
    let inside : p + 1 + n ≤ length m = omega (arith, c, d) in
    let len : length l ≡ n = ap length f ∙ ap (λ x. length (slice_range m (p + 1) x)) c ∙ length-range m (p + 1) n inside in
    let rest = reads_labels o r in
    ((record { some = omega (arith, len, a); short = omega (arith, len, b) }, rest.0), (subst AreOctets (sym f) (octets_range m (p + 1) e o), rest.1))
reads_labels o (pointer h a b c d e r) = reads_labels o r

pub name_read : (k : ℕ) (m : List ℕ) (p : ℕ) (n : Name × ℕ) → AreOctets m → name_at k m p ≡ Ok n → IsRead n.0
name_read k m p n o h =
    let r = (reads_exactly m p k n.0 n.1).0 h in
    let ls = reads_labels o r.0 in
    record { name = record { labels = ls.0; short = r.1 }; octets = ls.1 }

pub lowered_read : (n : Name) → IsRead n → IsRead (low n)
lowered_read n h = record { name = lower_name n h.name; octets = lowered_octets n h.octets }

in_data : (k : ℕ) (m : List ℕ) (r : Spelled) (p : ℕ) (n : Name × ℕ) → AreOctets m → name_in k m r p ≡ Some n → IsRead n.0
in_data k m r p n o h = name_read k m p n o (name_in_at k m r p n h)

-- ---- numbers

pair_small : (m : List ℕ) (p : ℕ) → AreOctets m → pair m p < 2 ^ 16
pair_small m p o = omega (arith, octet_index m p o, octet_index m (p + 1) o)

quad_small : (m : List ℕ) (p : ℕ) → AreOctets m → quad m p < 2 ^ 32
quad_small m p o = omega (arith, pair_small m p o, pair_small m (p + 2) o)

-- ---- signatures

pub record ReadsFields (f : Fields) : Type 0 where
  pub covered : f.covered < 2 ^ 16
  pub algorithm : f.algorithm < 256
  pub labels : f.labels < 256
  pub ttl : f.ttl < 2 ^ 32
  pub expiration : f.expiration < 2 ^ 32
  pub inception : f.inception < 2 ^ 32
  pub tag : f.tag < 2 ^ 16
  pub signer : IsRead f.signer

abbrev signature_from : List ℕ → Spelled → Option (Name × ℕ) → Option (Fields × List ℕ)
signature_from m r o = elim o [
  | None ↦ None
  | Some signer ↦
      let signature = slice_range m signer.1 (message.behind r) in
      if_true (fits (slice_range m r.start (r.start + 18) ++ (wire signer.0 ++ signature))) (rrsig_fields m r.start (low signer.0), signature)
]

fields_from : (m : List ℕ) (r : Spelled) (o : Option (Name × ℕ)) (x : Fields × List ℕ) → AreOctets m → ((n : Name × ℕ) → o ≡ Some n → IsRead n.0) → signature_from m r o ≡ Some x → ReadsFields x.0
fields_from m r None x octets f h = cc
fields_from m r (Some s) x octets f h =
    let signature = slice_range m s.1 (message.behind r) in
    let is : (rrsig_fields m r.start (low s.0), signature) ≡ x = if_true_some (fits (slice_range m r.start (r.start + 18) ++ (wire s.0 ++ signature))) (rrsig_fields m r.start (low s.0), signature) x h in
    subst (λ (y : Fields × List ℕ). ReadsFields y.0) is (record {
      covered = pair_small m r.start octets;
      algorithm = octet_index m (r.start + 2) octets;
      labels = octet_index m (r.start + 3) octets;
      ttl = quad_small m (r.start + 4) octets;
      expiration = quad_small m (r.start + 8) octets;
      inception = quad_small m (r.start + 12) octets;
      tag = pair_small m (r.start + 16) octets;
      signer = lowered_read s.0 (f s refl);
    })

long_enough : (b : Bool) (o : Option (Fields × List ℕ)) (x : Fields × List ℕ) → elim b as (λ _. Option (Fields × List ℕ)) [ false ↦ None | true ↦ o ] ≡ Some x → o ≡ Some x
long_enough true o x h = h
long_enough false o x h = cc

pub fields_read : (k : ℕ) (m : List ℕ) (r : Spelled) (x : Fields × List ℕ) → AreOctets m → rrsig_at k m r ≡ Some x → ReadsFields x.0
fields_read k m r x octets h =
    let inside = long_enough (leb 18 r.length) (signature_from m r (name_in k m r (r.start + 18))) x h in
    fields_from m r (name_in k m r (r.start + 18)) x octets (λ n e. in_data k m r (r.start + 18) n octets e) inside

-- ---- lengths of data

tested : {A : Type 0} (b : Bool) (x y : A) → if_true b x ≡ Some y → (b ≡ true) × (x ≡ y)
tested true x y h = (refl, some_is x y h)
tested false x y h = cc

range_short : (m : List ℕ) (s n : ℕ) → length (slice_range m s (s + n)) ≤ n
range_short m s n = omega (arith, length-take (s + n - s) (drop s m))

-- no longer than a record can say (RFC 1035, 3.2.1)
abbrev pub IsShort : List ℕ → Type 0
IsShort d = length d < 65536

labels_length : (n : Name) → length (flat_map (λ l. length l ∷ l) n) + 1 ≡ wire_len n
labels_length [] = refl
labels_length (l ∷ n) = omega (arith, wire_len-cons l n, labels_length n, length-append l (flat_map (λ k. length k ∷ k) n))

wire_length : (n : Name) → length (wire n) ≡ wire_len n
wire_length n = omega (arith, labels_length n, length-append (flat_map (λ l. length l ∷ l) n) (0 ∷ []))

name_short : (k : ℕ) (m : List ℕ) (r : Spelled) (p : ℕ) (n : Name × ℕ) → name_in k m r p ≡ Some n → length (wire (low n.0)) ≤ 255
name_short k m r p n h =
    let read = (reads_exactly m p k n.0 n.1).0 (name_in_at k m r p n h) in
    omega (arith, read.1, wire_length (low n.0), lower_len n.0)

abbrev ns_from : List ℕ → Spelled → Option (Name × ℕ) → Option (List ℕ)
ns_from m r o = elim o [ None ↦ None | Some n ↦ if_true (nat_eq n.1 (message.behind r)) (wire (low n.0)) ]

ns_short : (k : ℕ) (m : List ℕ) (r : Spelled) (o : Option (Name × ℕ)) (d : List ℕ) → name_in k m r r.start ≡ o → ns_from m r o ≡ Some d → IsShort d
ns_short k m r None d e h = cc
ns_short k m r (Some n) d e h =
    let long = name_short k m r r.start n e in
    subst IsShort (tested (nat_eq n.1 (message.behind r)) (wire (low n.0)) d h).1 (omega (arith, long))

abbrev soa_last : List ℕ → Spelled → Name → Option (Name × ℕ) → Option (List ℕ)
soa_last m r n o = elim o [ None ↦ None | Some s ↦ if_true (nat_eq (s.1 + 20) (message.behind r)) (wire (low n) ++ wire (low s.0) ++ slice_range m s.1 (message.behind r)) ]

abbrev soa_from : ℕ → List ℕ → Spelled → Option (Name × ℕ) → Option (List ℕ)
soa_from k m r o = elim o [ None ↦ None | Some n ↦ soa_last m r n.0 (name_in k m r n.1) ]

soa_rest : (k : ℕ) (m : List ℕ) (r : Spelled) (n : Name) (p : ℕ) (o : Option (Name × ℕ)) (d : List ℕ) → length (wire (low n)) ≤ 255 → name_in k m r p ≡ o → soa_last m r n o ≡ Some d → IsShort d
soa_rest k m r n p None d first e h = cc
soa_rest k m r n p (Some s) d first e h =
    let numbers : List ℕ = slice_range m s.1 (message.behind r) in
    let got = tested (nat_eq (s.1 + 20) (message.behind r)) (wire (low n) ++ wire (low s.0) ++ numbers) d h in
    let end : s.1 + 20 ≡ message.behind r = eqb-true (s.1 + 20) (message.behind r) got.0 in
    let few : length numbers ≤ 20 = subst (λ e. length (slice_range m s.1 e) ≤ 20) end (range_short m s.1 20) in
    let second = name_short k m r p s e in
    subst IsShort got.1 (omega (arith, few, first, second, length-append (wire (low n) ++ wire (low s.0)) numbers, length-append (wire (low n)) (wire (low s.0))))

soa_short : (k : ℕ) (m : List ℕ) (r : Spelled) (o : Option (Name × ℕ)) (d : List ℕ) → name_in k m r r.start ≡ o → soa_from k m r o ≡ Some d → IsShort d
soa_short k m r None d e h = cc
soa_short k m r (Some n) d e h = soa_rest k m r n.0 n.1 (name_in k m r n.1) d (name_short k m r r.start n e) refl h

abbrev nsec_from : List ℕ → Spelled → Option (Name × ℕ) → Option (Name × List ℕ)
nsec_from m r o = elim o [
  | None ↦ None
  | Some n ↦ let bits = slice_range m n.1 (message.behind r) in if_true (is_bitmap bits && fits (wire n.0 ++ bits)) (n.0, bits)
]

abbrev nsec_joined : Option (Name × List ℕ) → Option (List ℕ)
nsec_joined o = elim o [ None ↦ None | Some n ↦ Some (wire n.0 ++ n.1) ]

nsec_fits : (m : List ℕ) (r : Spelled) (o : Option (Name × ℕ)) (n : Name × List ℕ) → nsec_from m r o ≡ Some n → IsShort (wire n.0 ++ n.1)
nsec_fits m r None n h = cc
nsec_fits m r (Some s) n h =
    let bits : List ℕ = slice_range m s.1 (message.behind r) in
    let got = tested (is_bitmap bits && fits (wire s.0 ++ bits)) (s.0, bits) n h in
    let short : length (wire s.0 ++ bits) ≤ 65535 = leb-true _ _ (and_parts (is_bitmap bits) (fits (wire s.0 ++ bits)) got.0).1 in
    subst (λ (x : Name × List ℕ). IsShort (wire x.0 ++ x.1)) got.1 (omega (arith, short))

nsec_short : (k : ℕ) (m : List ℕ) (r : Spelled) (o : Option (Name × List ℕ)) (d : List ℕ) → nsec_at k m r ≡ o → nsec_joined o ≡ Some d → IsShort d
nsec_short k m r None d e h = cc
nsec_short k m r (Some n) d e h = subst IsShort (some_is (wire n.0 ++ n.1) d h) (nsec_fits m r (name_in k m r r.start) n e)

-- what stands beside data that read
standing : {A : Type 0} (P : List ℕ → Type 0) (o : Option A) (x d : List ℕ) → P x → elim o as (λ _. Option (List ℕ)) [ None ↦ None | Some n ↦ Some x ] ≡ Some d → P d
standing P None x d i h = cc
standing P (Some n) x d i h = subst P (some_is x d h) i

short_by_type : (k : ℕ) (m : List ℕ) (r : Spelled) (two six nsec nsec3 : Bool) (d : List ℕ) → IsShort (data_of m r) → canonical_by k m r two six nsec nsec3 ≡ Some d → IsShort d
short_by_type k m r true six nsec nsec3 d l h = ns_short k m r (name_in k m r r.start) d refl h
short_by_type k m r false true nsec nsec3 d l h = soa_short k m r (name_in k m r r.start) d refl h
short_by_type k m r false false true nsec3 d l h = nsec_short k m r (nsec_at k m r) d refl h
short_by_type k m r false false false true d l h = standing IsShort (nsec3_at m r) (data_of m r) d l h
short_by_type k m r false false false false d l h = subst IsShort (some_is (data_of m r) d h) l

pub canonical_short : (k : ℕ) (m : List ℕ) (r : Spelled) (d : List ℕ) → IsShort (data_of m r) → canonical_data k m r ≡ Some d → IsShort d
canonical_short k m r d l h = short_by_type k m r (nat_eq r.rtype 2) (nat_eq r.rtype 6) (nat_eq r.rtype 47) (nat_eq r.rtype 50) d l h

-- ---- octets of data

name_octets : (k : ℕ) (m : List ℕ) (r : Spelled) (p : ℕ) (n : Name × ℕ) → AreOctets m → name_in k m r p ≡ Some n → AreOctets (wire (low n.0))
name_octets k m r p n o h =
    let l : IsRead (low n.0) = lowered_read n.0 (in_data k m r p n o h) in
    wire_octets (low n.0) l.name.labels l.octets

ns_octets : (k : ℕ) (m : List ℕ) (r : Spelled) (o : Option (Name × ℕ)) (d : List ℕ) → AreOctets m → name_in k m r r.start ≡ o → ns_from m r o ≡ Some d → AreOctets d
ns_octets k m r None d octets e h = cc
ns_octets k m r (Some n) d octets e h = subst AreOctets (tested (nat_eq n.1 (message.behind r)) (wire (low n.0)) d h).1 (name_octets k m r r.start n octets e)

soa_rest_octets : (k : ℕ) (m : List ℕ) (r : Spelled) (n : Name) (p : ℕ) (o : Option (Name × ℕ)) (d : List ℕ) → AreOctets m → AreOctets (wire (low n)) → name_in k m r p ≡ o → soa_last m r n o ≡ Some d → AreOctets d
soa_rest_octets k m r n p None d octets first e h = cc
soa_rest_octets k m r n p (Some s) d octets first e h =
    let numbers : List ℕ = slice_range m s.1 (message.behind r) in
    subst AreOctets (tested (nat_eq (s.1 + 20) (message.behind r)) (wire (low n) ++ wire (low s.0) ++ numbers) d h).1
    (octets_join (wire (low n) ++ wire (low s.0)) numbers (octets_join (wire (low n)) (wire (low s.0)) first (name_octets k m r p s octets e)) (octets_range m s.1 (message.behind r) octets))

soa_octets : (k : ℕ) (m : List ℕ) (r : Spelled) (o : Option (Name × ℕ)) (d : List ℕ) → AreOctets m → name_in k m r r.start ≡ o → soa_from k m r o ≡ Some d → AreOctets d
soa_octets k m r None d octets e h = cc
soa_octets k m r (Some n) d octets e h = soa_rest_octets k m r n.0 n.1 (name_in k m r n.1) d octets (name_octets k m r r.start n octets e) refl h

-- the next name and the bits of an NSEC record
pub record ReadsNext (n : Name × List ℕ) : Type 0 where
  pub next : IsRead n.0
  pub octets : AreOctets (wire n.0 ++ n.1)

next_read : (m : List ℕ) (r : Spelled) (o : Option (Name × ℕ)) (n : Name × List ℕ) → AreOctets m → ((s : Name × ℕ) → o ≡ Some s → IsRead s.0) → nsec_from m r o ≡ Some n → ReadsNext n
next_read m r None n octets f h = cc
next_read m r (Some s) n octets f h =
    let bits : List ℕ = slice_range m s.1 (message.behind r) in
    let i : IsRead s.0 = f s refl in
    subst ReadsNext (tested (is_bitmap bits && fits (wire s.0 ++ bits)) (s.0, bits) n h).1 (record {
      next = i;
      octets = octets_join (wire s.0) bits (wire_octets s.0 i.name.labels i.octets) (octets_range m s.1 (message.behind r) octets);
    })

pub link_read : (k : ℕ) (m : List ℕ) (r : Spelled) (n : Name × List ℕ) → AreOctets m → nsec_at k m r ≡ Some n → ReadsNext n
link_read k m r n octets h = next_read m r (name_in k m r r.start) n octets (λ s e. in_data k m r r.start s octets e) h

nsec_octets : (k : ℕ) (m : List ℕ) (r : Spelled) (o : Option (Name × List ℕ)) (d : List ℕ) → AreOctets m → nsec_at k m r ≡ o → nsec_joined o ≡ Some d → AreOctets d
nsec_octets k m r None d octets e h = cc
nsec_octets k m r (Some n) d octets e h = subst AreOctets (some_is (wire n.0 ++ n.1) d h) (link_read k m r n octets e).octets

data_octets : (m : List ℕ) (r : Spelled) → AreOctets m → AreOctets (data_of m r)
data_octets m r o = octets_range m r.start (r.start + r.length) o

octets_by_type : (k : ℕ) (m : List ℕ) (r : Spelled) (two six nsec nsec3 : Bool) (d : List ℕ) → AreOctets m → canonical_by k m r two six nsec nsec3 ≡ Some d → AreOctets d
octets_by_type k m r true six nsec nsec3 d o h = ns_octets k m r (name_in k m r r.start) d o refl h
octets_by_type k m r false true nsec nsec3 d o h = soa_octets k m r (name_in k m r r.start) d o refl h
octets_by_type k m r false false true nsec3 d o h = nsec_octets k m r (nsec_at k m r) d o refl h
octets_by_type k m r false false false true d o h = standing AreOctets (nsec3_at m r) (data_of m r) d (data_octets m r o) h
octets_by_type k m r false false false false d o h = subst AreOctets (some_is (data_of m r) d h) (data_octets m r o)

-- data of octets, as many as a record holds
pub record IsDatum (d : List ℕ) : Type 0 where
  pub short : IsShort d
  pub octets : AreOctets d

pub data_read : (m : List ℕ) (r : Spelled) → AreOctets m → r.length < 65536 → IsDatum (data_of m r)
data_read m r o h = record { short = omega (arith, h, range_short m r.start r.length); octets = data_octets m r o }

pub datum_read : (k : ℕ) (m : List ℕ) (r : Spelled) (d : List ℕ) → AreOctets m → r.length < 65536 → canonical_data k m r ≡ Some d → IsDatum d
datum_read k m r d o l h = record {
  short = canonical_short k m r d (data_read m r o l).short h;
  octets = octets_by_type k m r (nat_eq r.rtype 2) (nat_eq r.rtype 6) (nat_eq r.rtype 47) (nat_eq r.rtype 50) d o h;
}

-- ---- records

pub record ReadsRecord (r : Spelled) : Type 0 where
  pub owner : IsRead r.owner
  pub short : r.length < 65536

pub message_read : (k : ℕ) (m : List ℕ) (r : Message) → AreOctets m → message k m ≡ Ok r → AllByRecursion ReadsRecord r.records
message_read k m r o reads =
    let h = headed k m r reads in
    all_more (Stands k m) ReadsRecord r.records holds (each_stands (h.answers + h.authority + h.additional) k m h.behind r.records h.records)
  where
    holds : (x : Spelled) → Stands k m x → ReadsRecord x
    holds x s =
        let w = s.placed in
        record { owner = name_read k m s.place (x.owner, w.end) o (owner_reads k m s.place (x.owner, w.end) w.owner); short = (number_there m (w.end + 8) x.length o w.length_at).1 }

-- ---- RRsets

pub datum_of_some : (k : ℕ) (m : List ℕ) (owner : Name) (t : ℕ) (r : Spelled) (d : List ℕ) → datum_of k m owner t r ≡ Some d → canonical_data k m r ≡ Some d
datum_of_some k m owner t r d h = go (eqb r.class 1 && eqb r.rtype t && same r.owner owner) (canonical_data k m r) h
  where
    go : (b : Bool) (o : Option (List ℕ)) → elim b as (λ _. Option (List ℕ)) [ true ↦ o | false ↦ None ] ≡ Some d → o ≡ Some d
    go true o e = e
    go false o e = cc

data_cons : (o : Option (List ℕ)) (ds : List (List ℕ)) → ((d : List ℕ) → o ≡ Some d → IsDatum d) → AllByRecursion IsDatum ds → AllByRecursion IsDatum (cons_option o ds)
data_cons None ds f h = h
data_cons (Some d) ds f h = (f d refl, h)

all_data : (k : ℕ) (m : List ℕ) (owner : Name) (t : ℕ) (rs : List Spelled) → AreOctets m → AllByRecursion ReadsRecord rs → AllByRecursion IsDatum (filter_map (datum_of k m owner t) rs)
all_data k m owner t [] o h = tt
all_data k m owner t (r ∷ rs) o h = data_cons (datum_of k m owner t r) _ (λ d e. datum_read k m r d o h.0.short (datum_of_some k m owner t r d e)) (all_data k m owner t rs o h.1)

pub rrset_read : (k : ℕ) (m : List ℕ) (rs : List Spelled) (owner : Name) (t : ℕ) → AreOctets m → AllByRecursion ReadsRecord rs → AllByRecursion IsDatum (rrset_in k m rs owner t)
rrset_read k m rs owner t o h = all_sorted IsDatum (slice_cmp nat_cmp) (filter_map (datum_of k m owner t) rs) (all_data k m owner t rs o h)
