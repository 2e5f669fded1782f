-- What data are made of, from what is read of them.
use Rattle.std.proofs.Common.{◌≡◌, ◌↔◌, ℕ, ◌+◌, ◌≤◌, Bool, true, false, cond, List, ◌++◌, Ok, Err, Result, refl, sym, ap, ◌∙◌, arith, eqb, leb}
use Rattle.std.specs.Prelude.{slice_range}
use Rattle.std.proofs.lemmas.Bool.{le-leb, leb-true, eqb-true, eq-eqb}
use Rattle.definitions.specs.Limits.{pointer_limit}
use Rattle.definitions.specs.Name.{Name, wire}
use Rattle.definitions.specs.Reading.{ReadFault, Short, Malformed, name_at}
use Rattle.definitions.proofs.ReadingLaws.{reads_exactly, ends_within}
use Rattle.names_parsed.specs.Standing.{Stands}
use Rattle.names_rdata.specs.Reading.{Part, name_inside, name_part, octets_part, behind_octets, followed_by, two_parts, ended, data_at}
use Rattle.names_rdata.proofs.Parts.{two_ok}
use Rattle.plain.specs.Soa.{soa_part}
use Rattle.plain.specs.Spelling.{StandsAsSoa, SoaIsNamesAndNumbers, NsIsName}

abbrev Found : Type 0
Found = Result (List ℕ × ℕ) ReadFault

-- a name that was read as a part stands there
record NameThere (m : List ℕ) (p e : ℕ) (xs : List ℕ) (b : ℕ) : Type 0 where
  name : Name
  stands : Stands m p name b
  octets : xs ≡ wire name
  inside : b ≤ e

name_there : (m : List ℕ) (p e : ℕ) (xs : List ℕ) (b : ℕ) → name_part m p e ≡ Ok (xs, b) → NameThere m p e xs b
name_there m p e xs b h = go (name_at pointer_limit m p) refl h
  where
    kept : (n : Name) (q : ℕ) (t : Bool) → leb q e ≡ t → name_at pointer_limit m p ≡ Ok (n, q) → cond {A = Found} t (Ok (wire n, q)) (Err Short) ≡ Ok (xs, b) → NameThere m p e xs b
    kept n q false k r f = cc
    kept n q true k r f =
        let o : wire n ≡ xs = ap (λ (x : Found). elim x as (λ _. List ℕ) [ Ok y ↦ y.0 | Err z ↦ xs ]) f in
        let s : q ≡ b = ap (λ (x : Found). elim x as (λ _. ℕ) [ Ok y ↦ y.1 | Err z ↦ b ]) f in
        let w = (reads_exactly m p pointer_limit n b).0 (r ∙ ap (λ y. Ok (n, y)) s) in
        record { name = n; stands = record { reads = w.0; short = w.1 }; octets = sym o; inside = omega (arith, s, leb-true q e k) }

    go : (r : Result (Name × ℕ) ReadFault) → name_at pointer_limit m p ≡ r → name_inside e r ≡ Ok (xs, b) → NameThere m p e xs b
    go (Err f) r g = cc
    go (Ok (n, q)) r g = kept n q (leb q e) refl r g

name_read : (m : List ℕ) (p e b : ℕ) (n : Name) → Stands m p n b → b ≤ e → name_part m p e ≡ Ok (wire n, b)
name_read m p e b n s le = ap (name_inside e) ((reads_exactly m p pointer_limit n b).1 (s.reads, s.short)) ∙ rw (le-leb b e le) refl

-- two parts, each of which was read
record TwoThere (a c : Part) (m : List ℕ) (p e : ℕ) (xs : List ℕ) (b : ℕ) : Type 0 where
  first : List ℕ
  mid : ℕ
  second : List ℕ
  reads_first : a m p e ≡ Ok (first, mid)
  reads_second : c m mid e ≡ Ok (second, b)
  octets : xs ≡ first ++ second

two_there : (a c : Part) (m : List ℕ) (p e : ℕ) (xs : List ℕ) (b : ℕ) → two_parts a c m p e ≡ Ok (xs, b) → TwoThere a c m p e xs b
two_there a c m p e xs b h = go (a m p e) refl h
  where
    behind : (ys : List ℕ) (q : ℕ) (r : Found) → a m p e ≡ Ok (ys, q) → c m q e ≡ r → behind_octets ys r ≡ Ok (xs, b) → TwoThere a c m p e xs b
    behind ys q (Err f) g k t = cc
    behind ys q (Ok (zs, o)) g k t =
        let x : ys ++ zs ≡ xs = ap (λ (x : Found). elim x as (λ _. List ℕ) [ Ok y ↦ y.0 | Err z ↦ xs ]) t in
        let s : o ≡ b = ap (λ (x : Found). elim x as (λ _. ℕ) [ Ok y ↦ y.1 | Err z ↦ b ]) t in
        record { first = ys; mid = q; second = zs; reads_first = g; reads_second = k ∙ ap (λ y. Ok (zs, y)) s; octets = sym x }

    go : (r : Found) → a m p e ≡ r → followed_by c m e r ≡ Ok (xs, b) → TwoThere a c m p e xs b
    go (Err f) g t = cc
    go (Ok (ys, q)) g t = behind ys q (c m q e) g refl t

-- so many octets that were read
record OctetsThere (n : ℕ) (m : List ℕ) (p e : ℕ) (xs : List ℕ) (b : ℕ) : Type 0 where
  octets : xs ≡ slice_range m p (p + n)
  ends : b ≡ p + n

octets_there : (n : ℕ) (m : List ℕ) (p e : ℕ) (xs : List ℕ) (b : ℕ) → octets_part n m p e ≡ Ok (xs, b) → OctetsThere n m p e xs b
octets_there n m p e xs b h = go (leb (p + n) e) h
  where
    go : (t : Bool) → cond {A = Found} t (Ok (slice_range m p (p + n), p + n)) (Err Short) ≡ Ok (xs, b) → OctetsThere n m p e xs b
    go false f = cc
    go true f = record {
      octets = sym (ap (λ (x : Found). elim x as (λ _. List ℕ) [ Ok y ↦ y.0 | Err z ↦ xs ]) f);
      ends = sym (ap (λ (x : Found). elim x as (λ _. ℕ) [ Ok y ↦ y.1 | Err z ↦ b ]) f);
    }

ended_at : (e : ℕ) (xs : List ℕ) → ended e (Ok (xs, e)) ≡ Ok xs
ended_at e xs = rw (eq-eqb e e refl) refl

-- data that were read to their end
ended_there : (e : ℕ) (r : Found) (xs : List ℕ) → ended e r ≡ Ok xs → r ≡ Ok (xs, e)
ended_there e (Err f) xs h = cc
ended_there e (Ok (ys, q)) xs h = go (eqb q e) refl h
  where
    go : (t : Bool) → eqb q e ≡ t → cond t (Ok ys) (Err Malformed) ≡ Ok xs → ◌≡◌ {A = Found} (Ok (ys, q)) (Ok (xs, e))
    go false k f = cc
    go true k f =
        let x : ys ≡ xs = ap (λ (r : Result (List ℕ) ReadFault). elim r as (λ _. List ℕ) [ Ok y ↦ y | Err z ↦ xs ]) f in
        let s : q ≡ e = eqb-true q e k in
        λ i. Ok (x i, s i)

pub ns_is_name : NsIsName
ns_is_name r octets = (
  (λ h. let t = name_there r.octets r.place r.end octets r.end (ended_there r.end (name_part r.octets r.place r.end) octets h) in (t.name, t.stands, t.octets)),
  (λ h. ap (ended r.end) (name_read r.octets r.place r.end r.end h.0 h.1 (omega arith)) ∙ ended_at r.end (wire h.0) ∙ ap Ok (sym h.2)),
)

pub soa_is_names_and_numbers : SoaIsNamesAndNumbers
soa_is_names_and_numbers r octets = (
  (λ h.
      let m = r.octets in
      let e = r.end in
      let one = two_there name_part (two_parts name_part (octets_part 20)) m r.place e octets e (ended_there e (soa_part m r.place e) octets h) in
      let two = two_there name_part (octets_part 20) m one.mid e one.second e one.reads_second in
      let a = name_there m r.place e one.first one.mid one.reads_first in
      let b = name_there m one.mid e two.first two.mid two.reads_first in
      let n = octets_there 20 m two.mid e two.second e two.reads_second in (
        a.name,
        b.name,
        two.second,
        record {
          behind_mname = one.mid;
          behind_rname = two.mid;
          mname_stands = a.stands;
          rname_stands = b.stands;
          all = n.ends;
          numbers_stand = n.octets ∙ ap (slice_range m two.mid) (sym n.ends);
        },
        one.octets ∙ (λ i. a.octets i ++ (two.octets ∙ ap (λ x. x ++ two.second) b.octets) i),
      )),
  (λ h.
      let m = r.octets in
      let e = r.end in
      let s = h.3 in
      let numbers = h.2 in
      let first = name_read m r.place e s.behind_mname h.0 s.mname_stands (omega (arith, s.all, (ends_within s.rname_stands.reads).0)) in
      let second = name_read m s.behind_mname e s.behind_rname h.1 s.rname_stands (omega (arith, s.all)) in
      let third : octets_part 20 m s.behind_rname e ≡ Ok (numbers, e) =
      rw (le-leb (s.behind_rname + 20) e (omega (arith, s.all))) (λ i. Ok ((ap (slice_range m s.behind_rname) (sym s.all) ∙ sym s.numbers_stand) i, sym s.all i)) in
      let whole = two_ok name_part (two_parts name_part (octets_part 20)) m r.place e s.behind_mname e (wire h.0) (wire h.1 ++ numbers) first
      (two_ok name_part (octets_part 20) m s.behind_mname e s.behind_rname e (wire h.1) numbers second third) in
      ap (ended e) whole ∙ ended_at e (wire h.0 ++ (wire h.1 ++ numbers)) ∙ ap Ok (sym h.4)),
)
