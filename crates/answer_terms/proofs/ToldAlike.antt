-- Messages that read alike tell alike.
use Rattle.std.proofs.Common.{◌≡◌, ℕ, Bool, List, [], ◌∷◌, ◌++◌, refl, sym, ap, subst, ◌∙◌}
use Rattle.std.specs.List.{AllZip}
use Rattle.std.specs.Prelude.{if◌then◌else◌}
use Rattle.definitions.specs.Name.{Name, low}
use Rattle.definitions.specs.Dnskey.{Dnskey}
use Rattle.messages.specs.Message.{Message, Asked, Spelled}
use Rattle.answer_terms.specs.Served.{ServedRrset}
use Rattle.answer_terms.specs.Told.{AreRecords, AreSignatures, IsValidSignature, Tells, TellsGroups}
use Rattle.answer_terms.specs.Alike.{IsLike, ReadsAlike}

-- what is paired with two lists in a row is two lists in a row
parted : {A B : Type 0} (R : A → B → Type 0) (xs ys : List A) (zs : List B) → AllZip R (xs ++ ys) zs → (us : List B) × (vs : List B) × (zs ≡ us ++ vs) × AllZip R xs us × AllZip R ys vs
parted R [] ys zs h = ([], zs, refl, tt, h)
parted R (x ∷ xs) ys [] h = absurd h
parted R (x ∷ xs) ys (z ∷ zs) h =
    let p = parted R xs ys zs h.1 in
    (z ∷ p.0, p.1, ap (λ l. z ∷ l) p.2, (h.0, p.3), p.4)

none_paired : {A B : Type 0} (R : A → B → Type 0) (zs : List B) → AllZip R [] zs → zs ≡ []
none_paired R [] h = refl
none_paired R (z ∷ zs) h = absurd h

records_alike : (k : ℕ) (m n : List ℕ) (rs ss : List Spelled) (g : ServedRrset) (ds : List (List ℕ)) → AllZip (IsLike k m n) rs ss → AreRecords k m rs g ds → AreRecords k n ss g ds
records_alike k m n [] [] g [] z h = tt
records_alike k m n [] [] g (d ∷ ds) z h = absurd h
records_alike k m n [] (s ∷ ss) g ds z h = absurd z
records_alike k m n (r ∷ rs) [] g ds z h = absurd z
records_alike k m n (r ∷ rs) (s ∷ ss) g [] z h = absurd h
records_alike k m n (r ∷ rs) (s ∷ ss) g (d ∷ ds) z h = (
  record {
    owner_is = sym z.0.owner_is ∙ h.0.owner_is;
    type_is = sym z.0.type_is ∙ h.0.type_is;
    class_is = sym z.0.class_is ∙ h.0.class_is;
    data_is = sym z.0.data_are ∙ h.0.data_is;
  },
  records_alike k m n rs ss g ds z.1 h.1,
)

signature_alike : (v : Dnskey → List ℕ → List ℕ → Bool) (k : ℕ) (m n : List ℕ) (r s : Spelled) (apex : Name) (at life : ℕ) (g : ServedRrset) (key : Dnskey) → IsLike k m n r s → IsValidSignature v k m r apex at life g key → IsValidSignature v k n s apex at life g key
signature_alike v k m n r s apex at life g key like is = record {
  signature = is.signature;
  owner_is = sym like.owner_is ∙ is.owner_is;
  type_is = sym like.type_is ∙ is.type_is;
  class_is = sym like.class_is ∙ is.class_is;
  fields_are = sym (like.signature_is is.type_is) ∙ is.fields_are;
  passes = is.passes;
}

signatures_alike : (v : Dnskey → List ℕ → List ℕ → Bool) (k : ℕ) (m n : List ℕ) (rs ss : List Spelled) (apex : Name) (at life : ℕ) (g : ServedRrset) (keys : List Dnskey) → AllZip (IsLike k m n) rs ss
    → AreSignatures v k m rs apex at life g keys → AreSignatures v k n ss apex at life g keys
signatures_alike v k m n [] [] apex at life g [] z h = tt
signatures_alike v k m n [] [] apex at life g (key ∷ keys) z h = absurd h
signatures_alike v k m n [] (s ∷ ss) apex at life g keys z h = absurd z
signatures_alike v k m n (r ∷ rs) [] apex at life g keys z h = absurd z
signatures_alike v k m n (r ∷ rs) (s ∷ ss) apex at life g [] z h = absurd h
signatures_alike v k m n (r ∷ rs) (s ∷ ss) apex at life g (key ∷ keys) z h =
    (signature_alike v k m n r s apex at life g key z.0 h.0, signatures_alike v k m n rs ss apex at life g keys z.1 h.1)

groups_alike : (v : Dnskey → List ℕ → List ℕ → Bool) (k : ℕ) (m n : List ℕ) (rs ss : List Spelled) (apex : Name) (at life : ℕ) (keys : List Dnskey) (gs : List ServedRrset) → AllZip (IsLike k m n) rs ss
    → TellsGroups v k m rs apex at life keys gs → TellsGroups v k n ss apex at life keys gs
groups_alike v k m n rs ss apex at life keys [] z h = none_paired (IsLike k m n) ss (subst (λ xs. AllZip (IsLike k m n) xs ss) h z)
groups_alike v k m n rs ss apex at life keys (g ∷ gs) z (own, signatures, rest, are, records, signs, more) =
    let R : Spelled → Spelled → Type 0 = IsLike k m n in
    let p = parted R (own ++ signatures) rest ss (subst (λ xs. AllZip R xs ss) are z) in
    let q = parted R own signatures p.0 p.3 in (
      q.0,
      q.1,
      p.1,
      p.2 ∙ ap (λ l. l ++ p.1) q.2,
      records_alike k m n own q.0 g g.datas q.3 records,
      signatures_alike v k m n signatures q.1 apex at life g (if g.signed then keys else []) q.4 signs,
      groups_alike v k m n rest p.1 apex at life keys gs p.4 more,
    )

pub told_alike : (v : Dnskey → List ℕ → List ℕ → Bool) (k : ℕ) (apex : Name) (at life : ℕ) (keys : List Dnskey) (asked : Asked) (groups : List ServedRrset) (m n : List ℕ) → ReadsAlike k m n → Tells v k apex at life keys asked groups m → Tells v k apex at life keys asked groups n
told_alike v k apex at life keys asked groups m n alike t =
    let same : alike.one ≡ t.read = let e = sym alike.reads_one ∙ t.reads in cc in
    record {
      read = alike.other;
      reads = alike.reads_other;
      name_is = sym alike.name_is ∙ ap (λ (x : Message). low x.asked.name) same ∙ t.name_is;
      rtype_is = sym alike.rtype_is ∙ ap (λ (x : Message). x.asked.rtype) same ∙ t.rtype_is;
      class_is = sym alike.class_is ∙ ap (λ (x : Message). x.asked.class) same ∙ t.class_is;
      groups_are = groups_alike v k m n alike.one.records alike.other.records apex at life keys groups alike.records_are
          (subst (λ (x : Message). TellsGroups v k m x.records apex at life keys groups) (sym same) t.groups_are);
    }
