-- Nothing is forged in a message whose signatures were signed, or pass under no published key.
use Rattle.std.proofs.Common.{◌≡◌, ℕ, Bool, true, List, [], ◌∷◌, ◌++◌, Option, Some, Result, Ok, refl, sym, ap, subst, ◌∙◌, inl, inr, ⊎_elim}
use Rattle.std.specs.Prelude.{if◌then◌else◌}
use Rattle.std.specs.List.{AllByRecursion}
use Rattle.std.specs.Int.{w16, to_be_bytes}
use Rattle.std.proofs.lemmas.Bool.{false≢true}
use lib.Pointwise.{bytes_decides}
use Rattle.definitions.specs.Dnskey.{Dnskey, key_tag}
use Rattle.definitions.specs.Name.{Name}
use Rattle.definitions.specs.Signing.{Fields}
use Rattle.definitions.proofs.SignedLaws.{pieces}
use Rattle.messages.specs.declared.error.MessageError.{MessageError}
use Rattle.messages.specs.Message.{AreOctets, Asked, Message, Spelled}
use Rattle.messages.proofs.Lists.{Has, some_is}
use Rattle.answer_terms.specs.Served.{ServedRrset}
use Rattle.answer_terms.specs.Told.{AreRecords, AreSignatures, IsRecord, IsValidSignature, Tells, TellsGroups, fields_for, octets_for}
use Rattle.answer_judge.proofs.GivenFacts.{from_joined}
use Rattle.answer_judge.proofs.GivenLists.{contained_has, has_contained}
use Rattle.answer_judge.proofs.HonestMade.{signed_only}
use Rattle.answer_judge.specs.Honest.{IsHonest, WasSigned, over}
use Rattle.answer_scheme.specs.Answers.{Answers}
use Rattle.answer_judge.specs.Judging.{JudgeInput}
use Rattle.answer_judge_facts.specs.Sought.{Sought}
use Rattle.answer_judge.specs.Splices.{AreSigned, Binds, IsSpliced, PassesNowhere, PlainSchemeBinds, ToldIsSpliced, SplicesAreHonest, WasCarried}

-- whatever was signed
pub spliced_honest : (a : Answers) (k : ℕ) (h : JudgeInput) (published : List Dnskey) (Signed : List ℕ → Type 0) (sought : List Spelled → Sought) (m : List ℕ)
    → Binds a → AreOctets m → IsSpliced a k h.now published Signed m → IsHonest a k h published Signed sought m
spliced_honest a k h published Signed sought m binds octets spliced = record {
  octets_are = octets;
  unforged = λ read r f signature key reads used inside usable some passes.
      let made : List ℕ = over (sought read.records) r f in
      ⊎_elim
      (λ (c : WasCarried a Signed signature). subst Signed (binds c.key key c.octets made signature c.passes passes) c.there)
      (λ (n : PassesNowhere a published signature). absurd (false≢true (sym (n key made inside) ∙ passes)))
      (spliced read r f signature reads used.there used.rtype_is used.reads used.timely);
}

pub splices_are_honest : SplicesAreHonest
splices_are_honest a k h published keys apex signings sought m binds octets spliced = spliced_honest a k h published (WasSigned a apex keys signings) sought m binds octets spliced

pub plain_scheme_binds : PlainSchemeBinds
plain_scheme_binds digest hash j k octets others signature p q =
    let first = (bytes_decides signature (to_be_bytes w16 (key_tag j) ++ octets)).0 p in
    let second = (bytes_decides signature (to_be_bytes w16 (key_tag k) ++ others)).0 q in
    (pieces (to_be_bytes w16 (key_tag j)) (to_be_bytes w16 (key_tag k)) octets others refl (sym first ∙ second)).1

-- ---- signatures of a message that tells it

abbrev message_ok : Message → Result Message MessageError
message_ok x = Ok x

abbrev f_and : Fields × List ℕ → Option (Fields × List ℕ)
f_and x = Some x

-- a record is a signature of one of the RRsets by one of the keys
pub record IsSignatureOf (v : Dnskey → List ℕ → List ℕ → Bool) (k : ℕ) (m : List ℕ) (r : Spelled) (apex : Name) (at life : ℕ) (keys : List Dnskey) (gs : List ServedRrset) : Type 0 where
  pub group : ServedRrset
  pub inside : Has gs group
  pub signed : group.signed ≡ true
  pub key : Dnskey
  pub signs : Has keys key
  pub is : IsValidSignature v k m r apex at life group key

own_type : (k : ℕ) (m : List ℕ) (rs : List Spelled) (g : ServedRrset) (ds : List (List ℕ)) (r : Spelled) → AreRecords k m rs g ds → Has rs r → r.rtype ≡ g.rtype
own_type k m [] g ds r h i = absurd i
own_type k m (x ∷ rs) g [] r h i = absurd h
own_type k m (x ∷ rs) g (d ∷ ds) r h i = elim i [
  | inl e ↦ (let is : IsRecord k m x g.owner g.rtype d = h.0 in ap (λ (y : Spelled). y.rtype) e ∙ is.type_is)
  | inr j ↦ own_type k m rs g ds r h.1 j
]

its_signature : (v : Dnskey → List ℕ → List ℕ → Bool) (k : ℕ) (m : List ℕ) (rs : List Spelled) (apex : Name) (at life : ℕ) (g : ServedRrset) (keys : List Dnskey) (r : Spelled) → AreSignatures v k m rs apex at life g keys → Has rs r → (key : Dnskey) × Has keys key × IsValidSignature v k m r apex at life g key
its_signature v k m [] apex at life g keys r h i = absurd i
its_signature v k m (x ∷ rs) apex at life g [] r h i = absurd h
its_signature v k m (x ∷ rs) apex at life g (key ∷ keys) r h i = elim i [
  | inl e ↦ (key, inl refl, subst (λ (y : Spelled). IsValidSignature v k m y apex at life g key) (sym e) h.0)
  | inr j ↦ let s = its_signature v k m rs apex at life g keys r h.1 j in (s.0, inr s.1, s.2)
]

pub signature_of : (v : Dnskey → List ℕ → List ℕ → Bool) (k : ℕ) (m : List ℕ) (rs : List Spelled) (apex : Name) (at life : ℕ) (keys : List Dnskey) (gs : List ServedRrset) (r : Spelled) → AllByRecursion (λ (g : ServedRrset). g.rtype ≡ 46 → ⊥) gs → TellsGroups v k m rs apex at life keys gs → Has rs r → r.rtype ≡ 46
    → IsSignatureOf v k m r apex at life keys gs
signature_of v k m rs apex at life keys [] r types tells i e = absurd (subst (λ xs. Has xs r) tells i)
signature_of v k m rs apex at life keys (g ∷ gs) r types (own, signatures, rest, split, records, signs, more) i e =
    elim (from_joined (own ++ signatures) rest r (subst (λ xs. Has xs r) split i)) [
      | inl front ↦ elim (from_joined own signatures r front) [
        | inl here ↦ absurd (types.0 (sym (own_type k m own g g.datas r records here) ∙ e))
        | inr here ↦
            let s = its_signature v k m signatures apex at life g (if g.signed then keys else []) r signs here in
            let by = signed_only g.signed keys s.0 s.1 in
            record { group = g; inside = inl refl; signed = by.0; key = s.0; signs = by.1; is = s.2 }
      ]
      | inr later ↦
          let x = signature_of v k m rest apex at life keys gs r types.1 more later e in
          record { group = x.group; inside = inr x.inside; signed = x.signed; key = x.key; signs = x.signs; is = x.is }
    ]

pub ok_is : (x y : Message) → message_ok x ≡ message_ok y → x ≡ y
ok_is x y e = cc

pub told_spliced : (a : Answers) (k now : ℕ) (published signers : List Dnskey) (Signed : List ℕ → Type 0) (apex : Name) (at life : ℕ) (asked : Asked) (groups : List ServedRrset) (m : List ℕ)
    → AllByRecursion (λ (g : ServedRrset). g.rtype ≡ 46 → ⊥) groups → AreSigned Signed apex at life groups → Tells a.verifies k apex at life signers asked groups m → IsSpliced a k now published Signed m
told_spliced a k now published signers Signed apex at life asked groups m types signed tells read r f signature reads inside kind fields time =
    let same : read ≡ tells.read = ok_is read tells.read (sym reads ∙ tells.reads) in
    let here : Has tells.read.records r = subst (λ (x : Message). Has x.records r) same (has_contained read.records r inside) in
    let x = signature_of a.verifies k m tells.read.records apex at life signers groups r types tells.groups_are here kind in
    let one : f_and (f, signature) ≡ f_and (fields_for apex at life x.group x.key, x.is.signature) = sym fields ∙ x.is.fields_are in
    let octets : signature ≡ x.is.signature = ap (λ (y : Fields × List ℕ). y.1) (some_is _ _ one) in
    inl (record {
      key = x.key;
      octets = octets_for apex at life x.group x.key;
      there = signed x.group x.key (contained_has groups x.group x.inside) x.signed;
      passes = ap (a.verifies x.key (octets_for apex at life x.group x.key)) octets ∙ x.is.passes;
    })

pub told_is_spliced : ToldIsSpliced
told_is_spliced a k now published keys signers signings apex at life asked groups m types signed tells = told_spliced a k now published signers (WasSigned a apex keys signings) apex at life asked groups m types signed tells
