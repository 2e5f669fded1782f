-- What verifies in an honest message is an RRset that was signed.
use Rattle.std.proofs.Common.{◌≡◌, ℕ, ◌<◌, Bool, true, false, not, ◌&&◌, cond, List, [], ◌∷◌, ◌++◌, ◌-◌, ◌^◌, drop, length, Option, Some, None, Ok, refl, sym, ap, subst, ◌∙◌, inl, inr, arith, lit<, lit≤}
use Rattle.std.specs.Prelude.{◌==◌, Contains, if◌then◌else◌, nat_lt}
use Rattle.std.specs.List.{AllByRecursion, find, flat_map}
use Rattle.std.specs.Ordering.{is_lt, nat_cmp}
use Rattle.std.specs.Cmp.Lexicographic.{slice_cmp}
use Rattle.std.specs.Int.{w16, w32, to_be_bytes}
use Rattle.std.proofs.lemmas.Bool.{and_parts, eqb-true, false≢true}
use Rattle.std.proofs.lemmas.Cmp.{nat_list_cmp_total}
use Rattle.definitions.specs.Dnskey.{Dnskey}
use Rattle.definitions.specs.Laws.{IsSignable}
use Rattle.definitions.specs.Name.{Name, IsLabel, IsName, low, same, wire}
use Rattle.definitions.specs.Signing.{Fields, ascending, canonical_record, fields_data, in_time, label_count, signed_octets, signed_owner}
use Rattle.definitions.specs.Zone.{sorted_data}
use Rattle.definitions.proofs.Members.{Rises, sort_rises}
use Rattle.denial_laws.proofs.Found.{first_from}
use Rattle.messages.specs.Message.{AreOctets, Message, Spelled, message, rrsig_at}
use Rattle.messages.proofs.Lists.{Has, all_at, all_more, found, some_is}
use Rattle.messages.proofs.ZoneNames.{same_labels}
use Rattle.answer_scheme.specs.Answers.{Answers}
use Rattle.answer_judge_facts.specs.Trusted.{fits_key, is_due, is_signature, is_usable, labels_fit, signs}
use Rattle.answer_judge.specs.Honest.{IsHonest, MayBeUsed, over}
use Rattle.answer_judge.specs.Judged.{trusting}
use Rattle.answer_judge.specs.Judging.{JudgeInput}
use Rattle.answer_judge_facts.specs.Sought.{Sought}
use Rattle.answer_judge_facts.specs.Verified.{Trusting, is_verified, verified_by, verified_with, verifies_with}
use Rattle.answer_judge.proofs.FirstSigns.{opened, read_of}
use Rattle.answer_judge.proofs.GivenLists.{contained_has}
use Rattle.answer_judge_facts.proofs.GivenSorted.{in_has}
use Rattle.answer_judge_facts.proofs.JudgeCase.{signed_octets-owner}
use Rattle.answer_judge.proofs.HonestReads.{IsDatum, IsRead, ReadsFields, ReadsRecord, all_drop, fields_read, lowered_read, message_read, octets_16, octets_32, octets_join, wire_octets}

-- ---- a signature that verifies

pub record Verifying (w : Trusting) (k : ℕ) (m : List ℕ) (owner : Name) (t : ℕ) (items : List (List ℕ)) (r : Spelled) : Type 0 where
  pub fields : Fields
  pub signature : List ℕ
  pub type_is : r.rtype ≡ 46
  pub owner_is : low r.owner ≡ low owner
  pub reads : rrsig_at k m r ≡ Some (fields, signature)
  pub covered : fields.covered ≡ t
  pub some : 0 < length items
  pub due : is_due w.apex w.now owner fields ≡ true
  pub key : Dnskey
  pub trusted : Has w.keys key
  pub passes : w.answers.verifies key (signed_octets fields owner 1 items) signature ≡ true

find_has : (p : Dnskey → Bool) (ks : List Dnskey) (x : Dnskey) → find p ks ≡ Some x → Has ks x
find_has p [] x e = cc
find_has p (y ∷ ks) x e = go (p y) e (λ i. find_has p ks x i)
  where
    go : (b : Bool) → cond b (Some y) (find p ks) ≡ Some x → (find p ks ≡ Some x → Has ks x) → Has (y ∷ ks) x
    go true h later = inl (some_is x y (sym h))
    go false h later = inr (later h)

some_items : (items : List (List ℕ)) → not (length items == 0) ≡ true → 0 < length items
some_items [] e = absurd (false≢true e)
some_items (x ∷ items) e = omega arith

-- what the signature of a record says of them
abbrev says : Trusting → Name → ℕ → List (List ℕ) → Option (Fields × List ℕ) → Bool
says w owner t items o = elim o as (λ _. Bool) [ None ↦ false | Some f ↦ (f.0.covered == t) && signs w.answers w.apex w.keys w.now owner items f.0 f.1 ]

abbrev by_key : Trusting → Name → List (List ℕ) → Fields → List ℕ → Option Dnskey → Bool
by_key w owner items f signature o = elim o as (λ _. Bool) [ None ↦ false | Some key ↦ w.answers.verifies key (signed_octets f owner 1 items) signature ]

-- under a key
keyed : (w : Trusting) (owner : Name) (items : List (List ℕ)) (f : Fields) (signature : List ℕ) (o : Option Dnskey) → find (fits_key f) w.keys ≡ o → by_key w owner items f signature o ≡ true
    → (key : Dnskey) × Has w.keys key × (w.answers.verifies key (signed_octets f owner 1 items) signature ≡ true)
keyed w owner items f signature None i p = absurd (false≢true p)
keyed w owner items f signature (Some key) i p = (key, find_has (fits_key f) w.keys key i, p)

said_by : (w : Trusting) (k : ℕ) (m : List ℕ) (owner : Name) (t : ℕ) (items : List (List ℕ)) (r : Spelled) → (is_signature r && (r.class == 1) && same r.owner owner) ≡ true
    → (o : Option (Fields × List ℕ)) → rrsig_at k m r ≡ o → says w owner t items o ≡ true → Verifying w k m owner t items r
said_by w k m owner t items r gate None i p = absurd (false≢true p)
said_by w k m owner t items r gate (Some f) i p =
    let both = and_parts (f.0.covered == t) (signs w.answers w.apex w.keys w.now owner items f.0 f.1) p in
    let open_gate = opened (not (length items == 0) && is_due w.apex w.now owner f.0) (by_key w owner items f.0 f.1 (find (fits_key f.0) w.keys)) both.1 in
    let parts = and_parts (not (length items == 0)) (is_due w.apex w.now owner f.0) open_gate.0 in
    let by = keyed w owner items f.0 f.1 (find (fits_key f.0) w.keys) refl open_gate.1 in
    let outer = and_parts (is_signature r && (r.class == 1)) (same r.owner owner) gate in
    record {
      fields = f.0;
      signature = f.1;
      owner_is = same_labels (low r.owner) (low owner) outer.1;
      type_is = eqb-true r.rtype 46 (and_parts (is_signature r) (r.class == 1) outer.0).0;
      reads = i;
      covered = eqb-true f.0.covered t both.0;
      some = some_items items parts.0;
      due = parts.1;
      key = by.0;
      trusted = by.1;
      passes = by.2;
    }

pub verifying : (w : Trusting) (k : ℕ) (m : List ℕ) (owner : Name) (t : ℕ) (items : List (List ℕ)) (r : Spelled) → verifies_with w k m owner t items r ≡ true → Verifying w k m owner t items r
verifying w k m owner t items r e =
    let gate = opened (is_signature r && (r.class == 1) && same r.owner owner) (says w owner t items (rrsig_at k m r)) e in
    said_by w k m owner t items r gate.0 (rrsig_at k m r) refl gate.1

-- one of some records verifies them
pub record Found (w : Trusting) (k : ℕ) (m : List ℕ) (rs : List Spelled) (owner : Name) (t : ℕ) (items : List (List ℕ)) : Type 0 where
  pub spelled : Spelled
  pub there : Has rs spelled
  pub by : Verifying w k m owner t items spelled

pub found_verifying : (w : Trusting) (k : ℕ) (m : List ℕ) (rs : List Spelled) (owner : Name) (t : ℕ) (items : List (List ℕ)) → is_verified w k m rs owner t items ≡ true → Found w k m rs owner t items
found_verifying w k m rs owner t items e =
    let r = found (verifies_with w k m owner t items) rs e in
    record { spelled = r.0; there = r.1; by = verifying w k m owner t items r.0 r.2 }

pub first_verifying : (w : Trusting) (k : ℕ) (m : List ℕ) (rs : List Spelled) (owner : Name) (t : ℕ) (items : List (List ℕ)) (f : Fields) → verified_by w k m rs owner t items ≡ Some f → (x : Found w k m rs owner t items) × (x.by.fields ≡ f)
first_verifying w k m rs owner t items f e =
    let r = first_from (verified_with w k m owner t items) rs f e in
    let got = read_of (verifies_with w k m owner t items r.0) (rrsig_at k m r.0) f r.1.1 in
    let by : Verifying w k m owner t items r.0 = verifying w k m owner t items r.0 got.0 in
    let one : (by.fields, by.signature) ≡ (f, got.1) = some_is (by.fields, by.signature) (f, got.1) (sym by.reads ∙ got.2) in
    (record { spelled = r.0; there = in_has rs r.0 r.1.0; by = by }, ap (λ (x : Fields × List ℕ). x.0) one)

pub timely : (apex : Name) (now : ℕ) (owner : Name) (f : Fields) → is_due apex now owner f ≡ true → in_time f now ≡ true
timely apex now owner f e = (and_parts (labels_fit apex owner f) (in_time f now) (and_parts (labels_fit apex owner f && in_time f now) (same f.signer apex) e).0).1

pub due_labels : (apex : Name) (now : ℕ) (owner : Name) (f : Fields) → is_due apex now owner f ≡ true → labels_fit apex owner f ≡ true
due_labels apex now owner f e = (and_parts (labels_fit apex owner f) (in_time f now) (and_parts (labels_fit apex owner f && in_time f now) (same f.signer apex) e).0).0

pub of_apex : (apex : Name) (now : ℕ) (owner : Name) (f : Fields) → is_due apex now owner f ≡ true → same f.signer apex ≡ true
of_apex apex now owner f e = (and_parts (labels_fit apex owner f && in_time f now) (same f.signer apex) e).1

-- a published key that may sign
pub record IsSigner (published : List Dnskey) (key : Dnskey) : Type 0 where
  pub known : Contains published key
  pub usable : is_usable key ≡ true

-- ---- data in order ascend

abbrev chosen : List ℕ → List (List ℕ) → Bool → Bool
chosen e ds b = elim b [ true ↦ ascending (e ∷ ds) | false ↦ false ]

climb : (ds : List (List ℕ)) → Rises (slice_cmp nat_cmp) nat_list_cmp_total ds → ascending ds ≡ true
climb [] h = refl
climb (d ∷ []) h = refl
climb (d ∷ e ∷ ds) h = ap (λ r. chosen e ds (is_lt r)) (h.0 e (inl refl)) ∙ climb (e ∷ ds) h.1

pub sorted_ascend : (ds : List (List ℕ)) → ascending (sorted_data ds) ≡ true
sorted_ascend ds = climb (sorted_data ds) (sort_rises (slice_cmp nat_cmp) nat_list_cmp_total ds)

-- ---- signed octets are octets

star_label : IsLabel (42 ∷ [])
star_label = record { some = lit< tt; short = lit≤ tt }

owner_octets : (n : ℕ) (owner : Name) → IsRead owner → AreOctets (wire (signed_owner n owner))
owner_octets n owner h = go (nat_lt n (label_count owner))
  where
    lower : IsRead (low owner)
    lower = lowered_read owner h

    go : (b : Bool) → AreOctets (wire (if b then (42 ∷ []) ∷ drop (length owner - n) (low owner) else low owner))
    go true =
        wire_octets ((42 ∷ []) ∷ drop (length owner - n) (low owner))
        (star_label, all_drop IsLabel (length owner - n) (low owner) lower.name.labels)
        ((lit< tt, tt), all_drop AreOctets (length owner - n) (low owner) lower.octets)
    go false = wire_octets (low owner) lower.name.labels lower.octets

record_octets : (o : Name) (t class ttl : ℕ) (d : List ℕ) → AreOctets (wire o) → AreOctets d → AreOctets (canonical_record o t class ttl d)
record_octets o t class ttl d h i =
    let type_are = octets_join (wire o) (to_be_bytes w16 t) h (octets_16 t) in
    let class_are = octets_join (wire o ++ to_be_bytes w16 t) (to_be_bytes w16 class) type_are (octets_16 class) in
    let ttl_are = octets_join (wire o ++ to_be_bytes w16 t ++ to_be_bytes w16 class) (to_be_bytes w32 ttl) class_are (octets_32 ttl) in
    let length_are = octets_join (wire o ++ to_be_bytes w16 t ++ to_be_bytes w16 class ++ to_be_bytes w32 ttl) (to_be_bytes w16 (length d)) ttl_are (octets_16 (length d)) in
    octets_join (wire o ++ to_be_bytes w16 t ++ to_be_bytes w16 class ++ to_be_bytes w32 ttl ++ to_be_bytes w16 (length d)) d length_are i

records_octets : (o : Name) (t class ttl : ℕ) (ds : List (List ℕ)) → AreOctets (wire o) → AllByRecursion IsDatum ds → AreOctets (flat_map (canonical_record o t class ttl) ds)
records_octets o t class ttl [] h i = tt
records_octets o t class ttl (d ∷ ds) h i = octets_join (canonical_record o t class ttl d) _ (record_octets o t class ttl d h i.0.octets) (records_octets o t class ttl ds h i.1)

fields_octets : (f : Fields) → ReadsFields f → AreOctets (fields_data f)
fields_octets f h =
    let signer : IsRead (low f.signer) = lowered_read f.signer h.signer in
    let front : List ℕ = f.algorithm ∷ f.labels ∷ to_be_bytes w32 f.ttl in
    let front_are : AreOctets front = (h.algorithm, (h.labels, octets_32 f.ttl)) in
    let numbers_are = octets_join (to_be_bytes w16 f.covered) front (octets_16 f.covered) front_are in
    let expiration_are = octets_join (to_be_bytes w16 f.covered ++ front) (to_be_bytes w32 f.expiration) numbers_are (octets_32 f.expiration) in
    let inception_are = octets_join (to_be_bytes w16 f.covered ++ front ++ to_be_bytes w32 f.expiration) (to_be_bytes w32 f.inception) expiration_are (octets_32 f.inception) in
    let tag_are = octets_join (to_be_bytes w16 f.covered ++ front ++ to_be_bytes w32 f.expiration ++ to_be_bytes w32 f.inception) (to_be_bytes w16 f.tag) inception_are (octets_16 f.tag) in
    octets_join (to_be_bytes w16 f.covered ++ front ++ to_be_bytes w32 f.expiration ++ to_be_bytes w32 f.inception ++ to_be_bytes w16 f.tag) (wire (low f.signer)) tag_are (wire_octets (low f.signer) signer.name.labels signer.octets)

pub signed_are_octets : (f : Fields) (owner : Name) (ds : List (List ℕ)) → ReadsFields f → IsRead owner → AllByRecursion IsDatum ds → AreOctets (signed_octets f owner 1 ds)
signed_are_octets f owner ds h i d =
    octets_join (fields_data f) _ (fields_octets f h) (records_octets (signed_owner f.labels owner) f.covered 1 f.ttl ds (owner_octets f.labels owner i) d)

-- ---- what a verifying signature is over

pub signable : (f : Fields) (owner : Name) (items : List (List ℕ)) → ReadsFields f → IsName owner → 0 < length items → AllByRecursion IsDatum items → IsSignable f owner 1 items
signable f owner items h name some data_are = record {
  covered = h.covered;
  ttl = h.ttl;
  expiration = h.expiration;
  inception = h.inception;
  tag = h.tag;
  signer = h.signer.name;
  named = name;
  classed = lit< tt;
  some = some;
  short = all_more IsDatum (λ (d : List ℕ). length d < 2 ^ 16) items (λ d i. i.short) data_are;
}

-- fields and octets of a signature over an RRset that is read
pub record IsOver (Signed : List ℕ → Type 0) (f : Fields) (owner : Name) (items : List (List ℕ)) : Type 0 where
  pub fits : IsSignable f owner 1 items
  pub there : Signed (signed_octets f owner 1 items)

-- its owner is spelled as the signature's
pub over_signed : (a : Answers) (k : ℕ) (h : JudgeInput) (published : List Dnskey) (Signed : List ℕ → Type 0) (sought : List Spelled → Sought) (m : List ℕ) (read : Message) → IsHonest a k h published Signed sought m → message k m ≡ Ok read
    → (keys : List Dnskey) → ((key : Dnskey) → Has keys key → IsSigner published key) → (owner : Name) (t : ℕ) (items : List (List ℕ)) → AllByRecursion IsDatum items
    → (x : Found (trusting a h keys) k m read.records owner t items) → (sought read.records).is x.spelled.owner x.by.fields.covered ≡ true → (sought read.records).datas x.spelled.owner x.by.fields.covered ≡ items
    → IsOver Signed x.by.fields x.spelled.owner items
over_signed a k h published Signed sought m read honest reads keys signers owner t items data_are x is covers =
    let f : Fields = x.by.fields in
    let r : Spelled = x.spelled in
    let octets : List ℕ = signed_octets f r.owner 1 items in
    let here : over (sought read.records) r f ≡ octets = ap (signed_octets f r.owner 1) covers in
    let name : IsRead r.owner = (all_at ReadsRecord read.records r (message_read k m read honest.octets_are reads) x.there).owner in
    let there : ReadsFields f = fields_read k m r (f, x.by.signature) honest.octets_are x.by.reads in
    let fits : IsSignable f r.owner 1 items = signable f r.owner items there name.name x.by.some data_are in
    let passes : a.verifies x.by.key octets x.by.signature ≡ true = ap (λ o. a.verifies x.by.key o x.by.signature) (signed_octets-owner f r.owner owner items x.by.owner_is) ∙ x.by.passes in
    let signer : IsSigner published x.by.key = signers x.by.key x.by.trusted in
    let used : MayBeUsed k h (sought read.records) m read r f x.by.signature = record {
      there = contained_has read.records r x.there;
      rtype_is = x.by.type_is;
      reads = x.by.reads;
      timely = timely h.apex h.now owner f x.by.due;
      signer_is = of_apex h.apex h.now owner f x.by.due;
      sought_is = is;
    } in
    record {
      fits = fits;
      there = subst Signed here (honest.unforged read r f x.by.signature x.by.key reads used signer.known signer.usable
          (subst (λ ds. 0 < length ds) (sym covers) x.by.some) (ap (λ o. a.verifies x.by.key o x.by.signature) here ∙ passes));
    }
