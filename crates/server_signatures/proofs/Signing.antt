-- What is signed by a table is signed so by each scheme that signs as its entries say.
use Rattle.std.proofs.Common.{◌≡◌, ◌∙◌, ℕ, Bool, true, List, [], ◌∷◌, Option, Some, None, refl, ap, subst}
use Rattle.std.specs.Prelude.{◌≢◌, if◌then◌else◌}
use Rattle.std.specs.List.{AllZip}
use Rattle.std.proofs.lemmas.Bool.{false≢true}
use Rattle.std.proofs.lemmas.Slice.Eq.{bytes_eq-Decides}
use Rattle.definitions.specs.Name.{Name}
use Rattle.definitions.specs.Dnskey.{Dnskey}
use Rattle.messages.specs.Message.{Asked, Spelled}
use Rattle.messages.specs.Written.{Written}
use Rattle.answer_terms.specs.Given.{AreGroups, Gives}
use Rattle.answer_terms.specs.GroupView.{GroupView, IsRrsigData, octets_of}
use Rattle.answer_terms.specs.Hashing.{Hasher}
use Rattle.answer_terms.specs.Served.{ServedRrset, Served}
use Rattle.answer_terms.specs.Told.{AreSignatures, IsValidSignature, octets_for}
use Rattle.answer_publisher.specs.Answering.{AnswersApex, AnswersZone, RefusesAnswer, RefusesApex}
use Rattle.answer_publisher.specs.Composed.{IsAnswer, IsSection, IsTooLong, IsWritten}
use Rattle.answer_publisher.specs.declared.fault.AnswerFault.{AnswerFault}
use Rattle.answer_publisher.specs.declared.fault.AnswerFault.TheVariants as fault
use Rattle.server_signatures.specs.Table.{Made, SignsAs, is_signature, sign_by, verify_by}

zip_too : {A B : Type 0} (P Q : A → B → Type 0) → ((a : A) (b : B) → P a b → Q a b) → (xs : List A) (ys : List B) → AllZip P xs ys → AllZip Q xs ys
zip_too P Q f [] [] h = h
zip_too P Q f [] (y ∷ ys) h = h
zip_too P Q f (x ∷ xs) [] h = h
zip_too P Q f (x ∷ xs) (y ∷ ys) h = (f x y h.0, zip_too P Q f xs ys h.1)

-- a table signs as its own entries say
pub own_entries : (table : List Made) → SignsAs table (sign_by table) (verify_by table)
own_entries table key octets signature e = (e, ap (λ o. is_signature o signature) e ∙ (bytes_eq-Decides signature signature).1 refl)

module _ (table : List Made) (sign : Dnskey → List ℕ → Option (List ℕ)) (verifies : Dnskey → List ℕ → List ℕ → Bool) (entries : SignsAs table sign verifies) where
  -- a signature that a table verifies passes
  passes_by : (key : Dnskey) (octets signature : List ℕ) (o : Option (List ℕ)) → sign_by table key octets ≡ o → is_signature o signature ≡ true → verifies key octets signature ≡ true
  passes_by key octets signature None e h = absurd (false≢true h)
  passes_by key octets signature (Some s) e h = subst (λ x. verifies key octets x ≡ true) ((bytes_eq-Decides s signature).0 h) (entries key octets s e).1

  -- ---- messages as they are written

  data_too : (apex : Name) (at life : ℕ) (g : GroupView) (key : Dnskey) (d : List ℕ) → IsRrsigData (sign_by table) (verify_by table) apex at life g key d → IsRrsigData sign verifies apex at life g key d
  data_too apex at life g key d is =
      let both = entries key (octets_of apex at life g key) is.signature is.made in
      record { signature = is.signature; made = both.0; passes = both.1; data_is = is.data_is; tag_fits = is.tag_fits }

  written_too : (apex : Name) (at life : ℕ) (keys : List Dnskey) (g : GroupView) (ws : List Written) → IsWritten (sign_by table) (verify_by table) apex at life keys g ws → IsWritten sign verifies apex at life keys g ws
  written_too apex at life keys g ws w =
      (w.0, (zip_too (IsRrsigData (sign_by table) (verify_by table) apex at life g) (IsRrsigData sign verifies apex at life g) (data_too apex at life g) (if g.signed then keys else []) w.0 w.1.0, w.1.1))

  pieces_too : (apex : Name) (at life : ℕ) (keys : List Dnskey) (gs : List GroupView) (pieces : List (List Written)) → AllZip (IsWritten (sign_by table) (verify_by table) apex at life keys) gs pieces → AllZip (IsWritten sign verifies apex at life keys) gs pieces
  pieces_too apex at life keys gs pieces h = zip_too (IsWritten (sign_by table) (verify_by table) apex at life keys) (IsWritten sign verifies apex at life keys) (written_too apex at life keys) gs pieces h

  section_too : (apex : Name) (at life : ℕ) (keys : List Dnskey) (gs : List GroupView) (octets : List ℕ) (count : ℕ) → IsSection (sign_by table) (verify_by table) apex at life keys gs octets count → IsSection sign verifies apex at life keys gs octets count
  section_too apex at life keys gs octets count s = (s.0, (pieces_too apex at life keys gs s.0 s.1.0, s.1.1, s.1.2))

  answer_too : (apex : Name) (at life : ℕ) (keys : List Dnskey) (flags : ℕ) (asked : Asked) (answer authority : List GroupView) (m : List ℕ)
      → IsAnswer (sign_by table) (verify_by table) apex at life keys flags asked answer authority m → IsAnswer sign verifies apex at life keys flags asked answer authority m
  answer_too apex at life keys flags asked answer authority m is = record {
    answers = is.answers;
    authorities = is.authorities;
    answers_are = pieces_too apex at life keys answer is.answers is.answers_are;
    authorities_are = pieces_too apex at life keys authority is.authorities is.authorities_are;
    octets_are = is.octets_are;
    short = is.short;
  }

  pub zone_too : (s : Served) (apex : Name) (at life : ℕ) (keys : List Dnskey) (asked : Asked) (m : List ℕ) → AnswersZone (sign_by table) (verify_by table) s apex at life keys asked m → AnswersZone sign verifies s apex at life keys asked m
  zone_too s apex at life keys asked m is = record {
    answer = is.answer;
    authority = is.authority;
    groups_are = is.groups_are;
    split = is.split;
    written = answer_too apex at life keys _ asked is.answer is.authority m is.written;
  }

  pub apex_too : (apex : Name) (at life : ℕ) (keys : List Dnskey) (of : ServedRrset) (m : List ℕ) → AnswersApex (sign_by table) (verify_by table) apex at life keys of m → AnswersApex sign verifies apex at life keys of m
  apex_too apex at life keys of m is = record {
    group = is.group;
    presents = is.presents;
    written = answer_too apex at life keys 33792 _ (is.group ∷ []) [] m is.written;
  }

  -- ---- what they read as

  signature_too : (k : ℕ) (m : List ℕ) (r : Spelled) (apex : Name) (at life : ℕ) (g : ServedRrset) (key : Dnskey) → IsValidSignature (verify_by table) k m r apex at life g key → IsValidSignature verifies k m r apex at life g key
  signature_too k m r apex at life g key is = record {
    signature = is.signature;
    owner_is = is.owner_is;
    type_is = is.type_is;
    class_is = is.class_is;
    fields_are = is.fields_are;
    passes = passes_by key (octets_for apex at life g key) is.signature (sign_by table key (octets_for apex at life g key)) refl is.passes;
  }

  signatures_too : (k : ℕ) (m : List ℕ) (rs : List Spelled) (apex : Name) (at life : ℕ) (g : ServedRrset) (keys : List Dnskey) → AreSignatures (verify_by table) k m rs apex at life g keys → AreSignatures verifies k m rs apex at life g keys
  signatures_too k m [] apex at life g [] h = h
  signatures_too k m [] apex at life g (key ∷ keys) h = h
  signatures_too k m (r ∷ rs) apex at life g [] h = h
  signatures_too k m (r ∷ rs) apex at life g (key ∷ keys) h = (signature_too k m r apex at life g key h.0, signatures_too k m rs apex at life g keys h.1)

  groups_too : (k : ℕ) (m : List ℕ) (rs : List Spelled) (apex : Name) (at life : ℕ) (keys : List Dnskey) (gs : List ServedRrset) → AreGroups (verify_by table) k m rs apex at life keys gs → AreGroups verifies k m rs apex at life keys gs
  groups_too k m rs apex at life keys [] h = h
  groups_too k m rs apex at life keys (g ∷ gs) h =
      (h.0, h.1, h.2, h.3, h.4, signatures_too k m h.1 apex at life g (if g.signed then keys else []) h.5, groups_too k m h.2 apex at life keys gs h.6, h.7, h.8)

  pub gives_too : (k : ℕ) (apex : Name) (at life : ℕ) (keys : List Dnskey) (asked : Asked) (groups : List ServedRrset) (m : List ℕ) → Gives (verify_by table) k apex at life keys asked groups m → Gives verifies k apex at life keys asked groups m
  gives_too k apex at life keys asked groups m is = record {
    read = is.read;
    reads = is.reads;
    name_is = is.name_is;
    rtype_is = is.rtype_is;
    class_is = is.class_is;
    groups_are = groups_too k m is.read.records apex at life keys groups is.groups_are;
  }

  -- ---- why there is none

  long_too : (apex : Name) (at life : ℕ) (keys : List Dnskey) (more : ℕ) (gs : List GroupView) → IsTooLong (sign_by table) (verify_by table) apex at life keys more gs → IsTooLong sign verifies apex at life keys more gs
  long_too apex at life keys more gs h = (h.0, h.1, h.2, h.3, h.4, section_too apex at life keys h.0 h.2 h.3 h.5, h.6)

  pub refusal_too : (hash : Hasher) (s : Served) (apex : Name) (at life : ℕ) (keys : List Dnskey) (asked : Asked) (f : AnswerFault) → f ≢ fault.SignFailed
      → RefusesAnswer (sign_by table) (verify_by table) hash s apex at life keys asked f → RefusesAnswer sign verifies hash s apex at life keys asked f
  refusal_too hash s apex at life keys asked fault.QuestionNotAllowed other h = h
  refusal_too hash s apex at life keys asked fault.HashFailed other h = h
  refusal_too hash s apex at life keys asked fault.SignFailed other h = absurd (other refl)
  refusal_too hash s apex at life keys asked fault.TooLong other h = (h.0, h.1, long_too apex at life keys _ h.0 h.2)
  refusal_too hash s apex at life keys asked fault.Memory other h = h

  pub apex_refusal_too : (apex : Name) (at life : ℕ) (keys : List Dnskey) (of : ServedRrset) (f : AnswerFault) → f ≢ fault.SignFailed
      → RefusesApex (sign_by table) (verify_by table) apex at life keys of f → RefusesApex sign verifies apex at life keys of f
  apex_refusal_too apex at life keys of fault.QuestionNotAllowed other h = (h.0, h.1, h.2)
  apex_refusal_too apex at life keys of fault.HashFailed other h = (h.0, h.1, h.2)
  apex_refusal_too apex at life keys of fault.SignFailed other h = absurd (other refl)
  apex_refusal_too apex at life keys of fault.TooLong other h = (h.0, h.1, long_too apex at life keys _ (h.0 ∷ []) h.2)
  apex_refusal_too apex at life keys of fault.Memory other h = h
