-- Octets of data and of records spell one value.
use Rattle.std.proofs.Common.{◌≡◌, ℕ, ◌^◌, ◌<◌, true, List, [], ◌∷◌, ◌++◌, length, refl, sym, ap, ◌∙◌, append_assoc, arith}
use Rattle.std.specs.List.{AllByRecursion}
use Rattle.std.specs.Int.{w16, w32, to_be_bytes, from_be_bytes}
use Rattle.std.specs.Str.{str_to_ascii_lowercase}
use Rattle.std.proofs.lemmas.Nat.{from_be_bytes-to_be_bytes_2, from_be_bytes-to_be_bytes_4}
use Rattle.definitions.specs.Name.{Name, Label, IsLabel, IsName, wire, low, same}
use Rattle.definitions.proofs.SignedLaws.{Labelled, pieces, wire_of, wire_spells}
use Rattle.definitions.proofs.NameLaws.{labels_decide}
use Rattle.plain.specs.Soa.{times_octets, soa_octets, soa_canonical}
use Rattle.plain.specs.Ns.{ns_octets, ns_canonical}
use Rattle.plain.specs.Records.{head_octets, spelled}
use Rattle.plain.specs.Spelling.{IsSoa, itself, SameSoa, SoaOctetsSpell, NsOctetsSpell, FitsRecord, SameParts, RecordOctetsSpell}
use Rattle.names_rdata.specs.Composing.{with_length}
use Rattle.plain.specs.declared.soa.Soa.{Soa}
use Rattle.plain.specs.declared.soa.Times.{Times}
use Rattle.plain.specs.declared.ns.Ns.{Ns}

-- ---- numbers

two_of : (a b : ℕ) (x y : List ℕ) → a < 2 ^ 16 → b < 2 ^ 16 → to_be_bytes w16 a ++ x ≡ to_be_bytes w16 b ++ y → (a ≡ b) × (x ≡ y)
two_of a b x y fa fb e =
    let p : (to_be_bytes w16 a ≡ to_be_bytes w16 b) × (x ≡ y) = pieces (to_be_bytes w16 a) (to_be_bytes w16 b) x y refl e in
    (sym (from_be_bytes-to_be_bytes_2 a fa) ∙ ap (from_be_bytes w16) p.0 ∙ from_be_bytes-to_be_bytes_2 b fb, p.1)

four_back : (a b : ℕ) → a < 2 ^ 32 → b < 2 ^ 32 → to_be_bytes w32 a ≡ to_be_bytes w32 b → a ≡ b
four_back a b fa fb e = sym (from_be_bytes-to_be_bytes_4 a fa) ∙ ap (from_be_bytes w32) e ∙ from_be_bytes-to_be_bytes_4 b fb

four_of : (a b : ℕ) (x y : List ℕ) → a < 2 ^ 32 → b < 2 ^ 32 → to_be_bytes w32 a ++ x ≡ to_be_bytes w32 b ++ y → (a ≡ b) × (x ≡ y)
four_of a b x y fa fb e =
    let p : (to_be_bytes w32 a ≡ to_be_bytes w32 b) × (x ≡ y) = pieces (to_be_bytes w32 a) (to_be_bytes w32 b) x y refl e in
    (four_back a b fa fb p.0, p.1)

times_of : (a b : Soa Name) → IsSoa a → IsSoa b → times_octets a.times ≡ times_octets b.times → a.times ≡ b.times
times_of a b f g e =
    let p = four_of a.times.serial b.times.serial _ _ f.serial g.serial e in
    let q = four_of a.times.refresh b.times.refresh _ _ f.refresh g.refresh p.1 in
    let r = four_of a.times.retry b.times.retry _ _ f.retry g.retry q.1 in
    let s = four_of a.times.expire b.times.expire _ _ f.expire g.expire r.1 in
    let t = four_back a.times.minimum b.times.minimum f.minimum g.minimum s.1 in
    λ i. record { serial = p.0 i; refresh = q.0 i; retry = r.0 i; expire = s.0 i; minimum = t i }

-- ---- names in lower case

low_labelled : (n : Name) → AllByRecursion IsLabel n → Labelled (low n)
low_labelled [] h = tt
low_labelled (l ∷ n) h = (low_some l h.0.some, low_labelled n h.1)
  where
    low_some : (l : Label) → 0 < length l → 0 < length (str_to_ascii_lowercase l)
    low_some [] h = h
    low_some (c ∷ l) h = omega arith

-- names in lower case that begin the same octets are the same up to case
low_of : (n m : Name) (x y : List ℕ) → IsName n → IsName m → wire (low n) ++ x ≡ wire (low m) ++ y → (same n m ≡ true) × (x ≡ y)
low_of n m x y p q e =
    let r = wire_of (low n) (low m) x y (low_labelled n p.labels) (low_labelled m q.labels) e in
    ((labels_decide (low n) (low m)).1 r.0, r.1)

-- ---- data

pub soa_spells : SoaOctetsSpell
soa_spells = record {
  plain = λ a b f g e.
      let m = wire_spells a.mname b.mname _ _ f.mname g.mname e in
      let r = wire_spells a.rname b.rname _ _ f.rname g.rname m.1 in
      let t = times_of a b f g r.1 in
      λ i. record { mname = m.0 i; rname = r.0 i; times = t i };
  canonical = λ a b f g e.
      let m = low_of a.mname b.mname _ _ f.mname g.mname e in
      let r = low_of a.rname b.rname _ _ f.rname g.rname m.1 in
      record { mname = m.0; rname = r.0; times = times_of a b f g r.1 };
}

pub ns_spells : NsOctetsSpell
ns_spells = record {
  plain = λ a b f g e.
      let n = wire_spells a.nsdname b.nsdname [] [] f g (ap (λ x. x ++ []) e) in
      λ i. record { nsdname = n.0 i };
  canonical = λ a b f g e. (low_of a.nsdname b.nsdname [] [] f g (ap (λ x. x ++ []) e)).0;
}

-- ---- records

regroup : (t c l n xs : List ℕ) → (t ++ (c ++ l)) ++ (n ++ xs) ≡ t ++ (c ++ (l ++ (n ++ xs)))
regroup t c l n xs = append_assoc t (c ++ l) (n ++ xs) ∙ ap (λ z. t ++ z) (append_assoc c l (n ++ xs))

parts_of : (t c l u d m : ℕ) (xs ys : List ℕ) → FitsRecord t c l xs → FitsRecord u d m ys → head_octets t c l ++ with_length xs ≡ head_octets u d m ++ with_length ys → SameParts t c l u d m xs ys
parts_of t c l u d m xs ys f g e =
    let B : ℕ → List ℕ = λ n. to_be_bytes w16 n in
    let h = sym (regroup (B t) (B c) (to_be_bytes w32 l) (B (length xs)) xs) ∙ e ∙ regroup (B u) (B d) (to_be_bytes w32 m) (B (length ys)) ys in
    let p = two_of t u _ _ f.rtype g.rtype h in
    let q = two_of c d _ _ f.class g.class p.1 in
    let r = four_of l m _ _ f.ttl g.ttl q.1 in
    let s = two_of (length xs) (length ys) _ _ f.octets g.octets r.1 in
    record { rtype = p.0; class = q.0; ttl = r.0; octets = s.1 }

pub record_spells : RecordOctetsSpell
record_spells = record {
  plain = λ o p t c l u d m xs ys f g a b e. let n = wire_spells o p _ _ f g e in (n.0, parts_of t c l u d m xs ys a b n.1);
  canonical = λ o p t c l u d m xs ys f g a b e. let n = low_of o p _ _ f g e in (n.0, parts_of t c l u d m xs ys a b n.1);
}
