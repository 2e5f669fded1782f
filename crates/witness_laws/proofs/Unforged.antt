-- Nothing is forged in a message whose signatures are those of RRsets that were signed, whatever is sought in it.
use Rattle.std.proofs.Common.{◌≡◌, ◌⊎◌, ℕ, ◌<◌, Bool, true, false, ◌&&◌, List, [], ◌∷◌, ◌++◌, length, get_or, drop, eqb, nat_lt, nat_le, Some, Result, Ok, Err, refl, sym, ap, subst, ◌∙◌, inl, inr}
use Rattle.std.specs.Prelude.{◌==◌, Contains}
use Rattle.std.specs.List.{AllByRecursion, list_all, list_any}
use Rattle.std.proofs.lemmas.Bool.{and_parts, eq-eqb, false≢true, leb-false, ltb-true}
use lib.Pointwise.{bytes_decides}
use Rattle.definitions.specs.Dnskey.{Dnskey, key_tag}
use Rattle.definitions.specs.Laws.{IsSignable}
use Rattle.definitions.specs.Limits.{pointer_limit}
use Rattle.definitions.specs.Name.{IsName, Name, low}
use Rattle.definitions.specs.Signing.{Fields}
use Rattle.definitions.proofs.Members.{In}
use Rattle.denial_laws.proofs.ChainBits.{all_at}
use Rattle.messages.specs.declared.error.MessageError.{MessageError}
use Rattle.messages.specs.Message.{AreOctets, Message, Spelled, message, rrsig_at}
use Rattle.messages.proofs.Lists.{all_fail, all_more, some_is}
use Rattle.answer_judge.specs.Honest.{IsMadeOver, NothingForged, Signing, SignedOfVersion, WasSigned}
use Rattle.answer_judge.specs.Honest as honest
use Rattle.answer_judge.specs.Judging.{JudgeInput}
use Rattle.answer_judge.specs.Versions.{IsRrsetOf, SignedRrset}
use Rattle.answer_judge_facts.specs.Sought.{Sought}
use Rattle.answer_judge_table.specs.Table.{tried}
use Rattle.answer_terms.specs.Hashing.{hash_in}
use Rattle.witness_laws.specs.Signed.{Rrset, fields, passes, signed}
use Rattle.witness_laws.proofs.Ordered.{in_list}
use Rattle.witness_laws.proofs.Ready.{ready}

small_octets : (m : List ℕ) → list_any (nat_le 256) m ≡ false → AreOctets m
small_octets m e = all_more (λ x. nat_le 256 x ≡ false) (λ x. x < 256) m (λ x h. leb-false 256 x h) (all_fail (nat_le 256) m e)

-- ---- what was signed

-- an RRset under its own owner
abbrev pub plain_rrset : Rrset → SignedRrset
plain_rrset x = record { owner = x.source; rtype = x.rtype; datas = x.datas }

all_short : (ds : List (List ℕ)) → list_all (λ (d : List ℕ). nat_lt (length d) 65536) ds ≡ true → AllByRecursion (λ (d : List ℕ). length d < 65536) ds
all_short [] e = tt
all_short (d ∷ ds) e =
    let both = and_parts (nat_lt (length d) 65536) (list_all (λ (x : List ℕ). nat_lt (length x) 65536) ds) e in
    (ltb-true (length d) 65536 both.0, all_short ds both.1)

-- numbers fit their places
abbrev fits_places : Dnskey → Rrset → Bool
fits_places k x =
    nat_lt x.rtype 65536 && nat_lt x.times.expiration 4294967296 && nat_lt x.times.inception 4294967296 && nat_lt (key_tag k) 65536 && nat_lt 0 (length x.datas)
    && list_all (λ (d : List ℕ). nat_lt (length d) 65536) x.datas

pub fits : (k : Dnskey) (x : Rrset) → IsName x.apex → IsName x.source → fits_places k x ≡ true → IsSignable (fields k x) x.source 1 x.datas
fits k x apex source e =
    let a = nat_lt x.rtype 65536 in
    let b = nat_lt x.times.expiration 4294967296 in
    let c = nat_lt x.times.inception 4294967296 in
    let d = nat_lt (key_tag k) 65536 in
    let some = nat_lt 0 (length x.datas) in
    let short = list_all (λ (y : List ℕ). nat_lt (length y) 65536) x.datas in
    let p5 = and_parts (a && b && c && d && some) short e in
    let p4 = and_parts (a && b && c && d) some p5.0 in
    let p3 = and_parts (a && b && c) d p4.0 in
    let p2 = and_parts (a && b) c p3.0 in
    let p1 = and_parts a b p2.0 in
    record {
      covered = ltb-true x.rtype 65536 p1.0;
      ttl = ltb-true 3600 4294967296 refl;
      expiration = ltb-true x.times.expiration 4294967296 p1.1;
      inception = ltb-true x.times.inception 4294967296 p2.1;
      tag = ltb-true (key_tag k) 65536 p3.1;
      signer = apex;
      named = source;
      classed = ltb-true 1 65536 refl;
      some = ltb-true 0 (length x.datas) p4.1;
      short = all_short x.datas p5.1;
    }

abbrev pub MadeOver : Dnskey → Rrset → Type 0
MadeOver k x = IsMadeOver x.apex (plain_rrset x) (fields k x) (signed k x)

pub made_over : (k : Dnskey) (x : Rrset) → low x.apex ≡ x.apex → IsName x.apex → IsName x.source → fits_places k x ≡ true → MadeOver k x
made_over k x lower apex source e = record { covered = refl; labels = refl; signer = sym lower; fits = fits k x apex source e; is = refl }

module _ (apex : Name) (keys : List Dnskey) (signings : List Signing) where
  abbrev pub WereSigned : List ℕ → Type 0
  WereSigned = WasSigned (ready passes) apex keys signings

  pub of_version : (k : Dnskey) (x : Rrset) (signing : Signing) → x.apex ≡ apex → Contains signings signing → signing.times ≡ x.times
      → IsRrsetOf apex (hash_in (ready passes).hash signing.version.mode) signing.version (plain_rrset x) → MadeOver k x → WereSigned (signed k x)
  of_version k x signing is there times of over = SignedOfVersion (record {
    signing = signing;
    there = there;
    rrset = plain_rrset x;
    of = of;
    fields = fields k x;
    times_are = sym times;
    over = subst (λ (n : Name). IsMadeOver n (plain_rrset x) (fields k x) (signed k x)) is over;
  })

  -- ---- records of a message

  -- a record is no signature that passes under one of the zone's keys, but over octets that were signed
  abbrev pub IsDealt : List ℕ → Spelled → Type 0
  IsDealt m r =
      (f : Fields) (signature octets : List ℕ) (key : Dnskey) → In key keys → r.rtype ≡ 46 → rrsig_at pointer_limit m r ≡ Some (f, signature)
      → passes (tried key octets signature) ≡ true → WereSigned octets

  pub no_signature : (m : List ℕ) (r : Spelled) → eqb r.rtype 46 ≡ false → IsDealt m r
  no_signature m r e f signature octets key there kind reads passing = absurd (false≢true (sym e ∙ eq-eqb r.rtype 46 kind))

  -- what a signature's record says, it says alone
  says_alone : (m : List ℕ) (r : Spelled) (f g : Fields) (x y : List ℕ) → rrsig_at pointer_limit m r ≡ Some (f, x) → rrsig_at pointer_limit m r ≡ Some (g, y) → x ≡ y
  says_alone m r f g x y first second =
      let one : (f, x) ≡ (g, y) = some_is (f, x) (g, y) (sym first ∙ second) in
      ap (λ (q : Fields × List ℕ). q.1) one

  -- a key of two octets: the one of which the second is this, or another
  abbrev pub OfOctet : ℕ → Dnskey → Type 0
  OfOctet x key = (y : ℕ) × (key.octets ≡ 0 ∷ y ∷ []) × ((y ≡ x) ⊎ ((y == x) ≡ false))

  pub of_key : (x : ℕ) (over : List ℕ) (m : List ℕ) (r : Spelled) (g : Fields) → AllByRecursion (OfOctet x) keys → rrsig_at pointer_limit m r ≡ Some (g, 0 ∷ x ∷ over) → WereSigned over → IsDealt m r
  of_key x over m r g each is were f signature octets key there kind reads passing =
      let fit : OfOctet x key = all_at (OfOctet x) keys key each there in
      let made : signature ≡ key.octets ++ octets = (bytes_decides signature (key.octets ++ octets)).0 passing in
      let alike : 0 ∷ x ∷ over ≡ 0 ∷ fit.0 ∷ octets = sym (says_alone m r f g signature (0 ∷ x ∷ over) reads is) ∙ made ∙ ap (λ k. k ++ octets) fit.1 in
      elim (fit.2) [
        | inl same ↦ subst WereSigned (ap (drop 2) alike) were
        | inr unlike ↦ absurd (false≢true (sym unlike ∙ eq-eqb fit.0 x (sym (ap (λ xs. get_or xs 1 0) alike))))
      ]

  abbrev message_ok : Message → Result Message MessageError
  message_ok x = Ok x

  ok_is : (x y : Message) → message_ok x ≡ message_ok y → x ≡ y
  ok_is x y e = cc

  unforged : (m : List ℕ) (read : Message) → message pointer_limit m ≡ Ok read → AllByRecursion (IsDealt m) read.records
      → (h : JudgeInput) (sought : List Spelled → Sought) → NothingForged (ready passes) pointer_limit h keys WereSigned sought m
  unforged m read reads dealt h sought other r f signature key is used inside usable some verifies =
      let alike : other ≡ read = ok_is other read (sym is ∙ reads) in
      let there : In r read.records = subst (λ (x : Message). In r x.records) alike (in_list other.records r used.there) in
      let octets : List ℕ = honest.over (sought other.records) r f in
      all_at (IsDealt m) read.records r dealt there f signature octets key (in_list keys key inside) used.rtype_is used.reads verifies

  -- octets in which nothing is forged
  pub record IsUnforged (m : List ℕ) : Type 0 where
    pub octets_are : AreOctets m
    pub unforged_is : (h : JudgeInput) (sought : List Spelled → Sought) → NothingForged (ready passes) pointer_limit h keys WereSigned sought m

  pub is_unforged : (m : List ℕ) (read : Message) → list_any (nat_le 256) m ≡ false → message pointer_limit m ≡ Ok read → AllByRecursion (IsDealt m) read.records → IsUnforged m
  is_unforged m read small reads dealt = record { octets_are = small_octets m small; unforged_is = unforged m read reads dealt }

-- ---- a message as it reads

abbrev pub read_by : Result Message MessageError → Message
read_by (Ok r) = r
read_by (Err e) = record { asked = record { name = []; rtype = 0; class = 0 }; records = [] }

abbrev pub read_of : List ℕ → Message
read_of m = read_by (message pointer_limit m)

-- the record at a place
abbrev pub item : List ℕ → ℕ → Spelled
item m i = get_or (read_of m).records i (record { owner = []; rtype = 0; class = 0; ttl = 0; start = 0; length = 0 })
