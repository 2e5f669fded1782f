-- Octets of a signature over an RRset that was signed tell that RRset, whose it is, and when it was signed.
use Rattle.std.proofs.Common.{◌≡◌, ℕ, false, List, [], eqb, sym, ap, ◌∙◌, arith}
use Rattle.std.specs.Prelude.{Contains}
use Rattle.std.specs.List.{AllByRecursion}
use Rattle.std.proofs.lemmas.Bool.{false≢true, le-ltb}
use Rattle.definitions.specs.Dnskey.{Dnskey}
use Rattle.definitions.specs.Laws.{IsSignable, SignsSame}
use Rattle.definitions.specs.Name.{Name, low}
use Rattle.definitions.specs.Signing.{Fields, label_count, signed_octets, signed_owner}
use Rattle.definitions.proofs.SignedLaws.{signed_octets_spell}
use Rattle.denial_laws.proofs.SignedNames.{whole_owner}
use Rattle.messages.proofs.Lists.{Has}
use Rattle.answer_scheme.specs.Answers.{Answers}
use Rattle.answer_terms.specs.Hashing.{hash_in}
use Rattle.answer_judge.specs.Honest.{IsMadeOver, IsSignedOfKeys, IsSignedOfVersion, Signing, SignedOfKeys, SignedOfVersion, WasSigned, rrset_of_keys}
use Rattle.answer_judge.specs.Versions.{IsRrsetOf, SignedRrset, Version}
use Rattle.answer_judge_facts.specs.Times.{times_of}
use Rattle.answer_judge.proofs.GivenLists.{has_contained}
use Rattle.answer_judge.proofs.HonestVerified.{IsOver}

-- the owner as signed with all its labels
pub owner_whole : (n : ℕ) (q : Name) → n ≡ label_count q → signed_owner n q ≡ low q
owner_whole n q e =
    ap (λ k. signed_owner k q) e
    ∙ whole_owner (record { datas = []; labels = label_count q }) q (le-ltb (label_count q) (label_count q) (omega arith))

-- fields, owner and data are those of an RRset, expanded or not
pub record Tells (f : Fields) (owner : Name) (items : List (List ℕ)) (x : SignedRrset) : Type 0 where
  pub covered : f.covered ≡ x.rtype
  pub owners : signed_owner f.labels owner ≡ low x.owner
  pub contents : items ≡ x.datas

-- by which fields it was signed
pub record IsTold (f g : Fields) (owner : Name) (items : List (List ℕ)) (x : SignedRrset) : Type 0 where
  pub tells : Tells f owner items x
  pub times : times_of f ≡ times_of g

told : (apex : Name) (f g : Fields) (owner : Name) (items : List (List ℕ)) (x : SignedRrset) → IsSignable f owner 1 items → IsMadeOver apex x g (signed_octets f owner 1 items) → IsTold f g owner items x
told apex f g owner items x fits over =
    let same : SignsSame f g owner x.owner 1 1 items x.datas = signed_octets_spell f g owner x.owner 1 1 items x.datas fits over.fits over.is in
    record {
      tells = record {
        covered = same.covered ∙ over.covered;
        owners = same.owners ∙ owner_whole g.labels x.owner over.labels;
        contents = same.contents;
      };
      times = λ i. record { inception = same.inception i; expiration = same.expiration i };
    }

-- one of a version's RRsets
pub record IsOf (apex : Name) (hash : Name → List ℕ) (v : Version) (f : Fields) (owner : Name) (items : List (List ℕ)) : Type 0 where
  pub rrset : SignedRrset
  pub of : IsRrsetOf apex hash v rrset
  pub tells : Tells f owner items rrset

-- of a version that was signed then
pub record IsOfSigning (a : Answers) (apex : Name) (signings : List Signing) (f : Fields) (owner : Name) (items : List (List ℕ)) : Type 0 where
  pub signing : Signing
  pub there : Has signings signing
  pub is : IsOf apex (hash_in a.hash signing.version.mode) signing.version f owner items
  pub times : times_of f ≡ signing.times

-- the DNSKEY RRset of published keys
pub record IsOfKeys (apex : Name) (published : List Dnskey) (f : Fields) (owner : Name) (items : List (List ℕ)) : Type 0 where
  pub present : List Dnskey
  pub published_are : AllByRecursion (Contains published) present
  pub tells : Tells f owner items (rrset_of_keys apex present)

module _ (a : Answers) (apex : Name) (published : List Dnskey) (signings : List Signing) (f : Fields) (owner : Name) (items : List (List ℕ)) (fits : IsSignable f owner 1 items) where
  of_keys : IsSignedOfKeys apex published (signed_octets f owner 1 items) → IsOfKeys apex published f owner items
  of_keys s = record { present = s.present; published_are = s.published_are; tells = (told apex f s.fields owner items (rrset_of_keys apex s.present) fits s.over).tells }

  of_version : IsSignedOfVersion a apex signings (signed_octets f owner 1 items) → IsOfSigning a apex signings f owner items
  of_version s =
      let t : IsTold f s.fields owner items s.rrset = told apex f s.fields owner items s.rrset fits s.over in
      record { signing = s.signing; there = has_contained signings s.signing s.there; is = record { rrset = s.rrset; of = s.of; tells = t.tells }; times = t.times ∙ s.times_are }

-- an RRset of another type than DNSKEY is of a version
pub signed_of_version : (a : Answers) (apex : Name) (published : List Dnskey) (signings : List Signing) (f : Fields) (owner : Name) (items : List (List ℕ)) → IsOver (WasSigned a apex published signings) f owner items → eqb f.covered 48 ≡ false
    → IsOfSigning a apex signings f owner items
signed_of_version a apex published signings f owner items over other = go over.there
  where
    go : WasSigned a apex published signings (signed_octets f owner 1 items) → IsOfSigning a apex signings f owner items
    go (SignedOfVersion s) = of_version a apex published signings f owner items over.fits s
    go (SignedOfKeys s) =
        let k : IsOfKeys apex published f owner items = of_keys a apex published signings f owner items over.fits s in
        absurd (false≢true (sym other ∙ ap (λ n. eqb n 48) k.tells.covered))

-- what was signed, of keys or of a version
pub data IsSignedOf (a : Answers) (apex : Name) (published : List Dnskey) (signings : List Signing) (f : Fields) (owner : Name) (items : List (List ℕ)) : Type 0 where
  OfKeys : IsOfKeys apex published f owner items → IsSignedOf a apex published signings f owner items
  OfVersion : IsOfSigning a apex signings f owner items → IsSignedOf a apex published signings f owner items

pub signed_of : (a : Answers) (apex : Name) (published : List Dnskey) (signings : List Signing) (f : Fields) (owner : Name) (items : List (List ℕ)) → IsOver (WasSigned a apex published signings) f owner items → IsSignedOf a apex published signings f owner items
signed_of a apex published signings f owner items over = go over.there
  where
    go : WasSigned a apex published signings (signed_octets f owner 1 items) → IsSignedOf a apex published signings f owner items
    go (SignedOfVersion s) = OfVersion (of_version a apex published signings f owner items over.fits s)
    go (SignedOfKeys s) = OfKeys (of_keys a apex published signings f owner items over.fits s)
