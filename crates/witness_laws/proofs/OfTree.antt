-- The evidence is of the tree: in its messages nothing is forged, for whichever questions of their class they are judged.
use Rattle.std.proofs.Common.{◌≡◌, ◌⊎◌, ℕ, ◌<◌, Bool, true, false, cond, ◌&&◌, List, [], ◌∷◌, ◌++◌, Some, bytes_eq, find, nat_eq, unwrap_or, option_map, refl, sym, ap, subst, ◌∙◌, inl, inr}
use Rattle.std.specs.Prelude.{Contains}
use Rattle.std.specs.List.{AllByRecursion}
use Rattle.std.proofs.lemmas.Bool.{and_parts, false≢true, ltb-true}
use lib.Pointwise.{bytes_decides}
use Rattle.definitions.specs.Dnskey.{Dnskey, Ds, same_key}
use Rattle.definitions.specs.Limits.{pointer_limit}
use Rattle.definitions.specs.Name.{IsName, Name, at_or_above, low}
use Rattle.definitions.proofs.Members.{In}
use Rattle.definitions.specs.Bitmap.{octet_of, window_count, window_size}
use Rattle.definitions.proofs.ZoneNames.{above_itself, above_lowered}
use Rattle.messages.specs.Message.{Asked}
use Rattle.messages.specs.WrittenLaws.{IsQuestion}
use Rattle.messages.proofs.Lists.{some_is}
use Rattle.answer_judge.specs.Honest.{IsHonestInput, IsVersion, NoStranger, Signing, sought_of_answer, sought_of_keys}
use Rattle.answer_judge.specs.Judging.{JudgeInput}
use Rattle.answer_judge_table.specs.Table.{AreTrue, Checked, Tried, answers_with, is_entry_of, is_same_try, passes_in}
use Rattle.answer_scheme.specs.Answers.{Answers}
use Rattle.evidence_laws.specs.Given.{IsOf, Message, judge_input, message_of}
use Rattle.evidence_laws.specs.Truth.{SignedZone}
use Rattle.resolution_step.specs.Truth.{AreHonestBeside}
use Rattle.witness_laws.specs.Evidence.{evidence}
use Rattle.witness_laws.specs.Signed.{passes}
use Rattle.witness_laws.proofs.Lookup.{answered}
use Rattle.witness_laws.proofs.Lookup as lookup
use Rattle.witness_laws.proofs.Names.{name_above, name_like}
use Rattle.witness_laws.proofs.Ready.{ready, ready_is}
use Rattle.witness_laws.proofs.Unforged.{IsUnforged}

-- ---- one zone

-- of a message: a question at or below the apex, octets in which nothing is forged, and names at or above its own
pub record IsFine (apex : Name) (keys : List Dnskey) (signings : List Signing) (Apart : Name → Type 0) (m : Message) : Type 0 where
  pub question : IsQuestion m.asked
  pub inside : at_or_above apex m.asked.name ≡ true
  pub unforged : IsUnforged apex keys signings m.octets
  pub near : (o : Name) → at_or_above o m.asked.name ≡ true → at_or_above apex o ≡ true → Apart o

-- a zone of the tree: its DNSKEY answer, what it has published and signed, and what is asked of names
pub record IsSigned (Apart : Name → Type 0) (z : SignedZone) (ds : List Ds) : Type 0 where
  pub keys : List Dnskey
  pub signings : List Signing
  pub octets : List ℕ
  pub apex_is : IsName z.apex
  pub keys_found : message_of evidence z.apex z.apex 48 ≡ Some octets
  pub ds_some : ds ≡ [] → ⊥
  pub fine : (m : Message) → In m evidence.messages → low m.zone ≡ low z.apex → IsFine z.apex keys signings Apart m
  pub version_is : (asked : Asked) (answer : List ℕ) → Apart asked.name → IsVersion (ready passes) (judge_input evidence z.apex ds asked octets answer) z.version
  pub flags_are : AllByRecursion (λ (key : Dnskey). key.flags < 65536) keys
  pub of_versions : AllByRecursion (λ (x : Signing). Contains (z.version ∷ []) x.version) signings
  pub keys_unforged : IsUnforged z.apex keys signings octets
  pub no_stranger : (asked : Asked) (answer : List ℕ) → NoStranger (ready passes) pointer_limit (judge_input evidence z.apex ds asked octets answer) keys

small_type : (t n : ℕ) → t ≡ n → n < 65536 → t < 65536
small_type t n e h = subst (λ m. m < 65536) (sym e) h

beside_type : (t : ℕ) → (t ≡ 2) ⊎ ((t ≡ 5) ⊎ ((t ≡ 39) ⊎ (t ≡ 43))) → t < 65536
beside_type t (inl e) = small_type t 2 e (ltb-true 2 65536 refl)
beside_type t (inr (inl e)) = small_type t 5 e (ltb-true 5 65536 refl)
beside_type t (inr (inr (inl e))) = small_type t 39 e (ltb-true 39 65536 refl)
beside_type t (inr (inr (inr e))) = small_type t 43 e (ltb-true 43 65536 refl)

module _ (Apart : Name → Type 0) (z : SignedZone) (ds : List Ds) (signed : IsSigned Apart z ds) where
  abbrev judged_for : Asked → List ℕ → JudgeInput
  judged_for asked answer = judge_input evidence z.apex ds asked signed.octets answer

  honest_for : (asked : Asked) (answer : List ℕ) → IsQuestion asked → IsUnforged z.apex signed.keys signed.signings answer → Apart asked.name → IsHonestInput (ready passes) pointer_limit (judged_for asked answer) (z.version ∷ [])
  honest_for asked answer question unforged apart =
      let h : JudgeInput = judged_for asked answer in
      record {
        published = signed.keys;
        signings = signed.signings;
        apex_is = signed.apex_is;
        one = λ e. cc;
        versions_are = (signed.version_is asked answer apart, tt);
        asked_is = question;
        ds_some = signed.ds_some;
        flags_are = signed.flags_are;
        of_versions = signed.of_versions;
        settled = inl refl;
        keys_honest = record { octets_are = signed.keys_unforged.octets_are; unforged = signed.keys_unforged.unforged_is h (sought_of_keys h) };
        keys_known = signed.no_stranger asked answer;
        answer_honest = record { octets_are = unforged.octets_are; unforged = unforged.unforged_is h (sought_of_answer pointer_limit h) };
      }

  -- whichever message answers a question
  module _ (asked : Asked) (h : JudgeInput) (in_class : asked.class ≡ 1) (of : IsOf evidence z.apex ds asked h) where
    found : lookup.Answers z.apex asked.name asked.rtype of.answer
    found = answered z.apex asked.name asked.rtype of.answer of.answer_is

    fine : IsFine z.apex signed.keys signed.signings Apart found.message
    fine = signed.fine found.message found.there found.zone_is

    unforged : IsUnforged z.apex signed.keys signed.signings of.answer
    unforged = subst (IsUnforged z.apex signed.keys signed.signings) found.octets_are fine.unforged

    alike : (o : Name) → at_or_above o asked.name ≡ at_or_above o found.message.asked.name
    alike o = sym (above_lowered o asked.name) ∙ ap (at_or_above o) (sym found.name_is) ∙ above_lowered o found.message.asked.name

    near : (o : Name) → at_or_above o asked.name ≡ true → at_or_above z.apex o ≡ true → Apart o
    near o above inside = fine.near o (sym (alike o) ∙ above) inside

    question : IsQuestion asked
    question = record {
      name = name_like asked.name found.message.asked.name (sym found.name_is) fine.question.name;
      rtype = subst (λ n. n < 65536) found.rtype_is fine.question.rtype;
      class = subst (λ n. n < 65536) (sym in_class) (ltb-true 1 65536 refl);
    }

    is : h ≡ judged_for asked of.answer
    is = of.is ∙ (λ i. judge_input evidence z.apex ds asked (some_is of.keys signed.octets (sym of.keys_are ∙ signed.keys_found) i) of.answer)

    abbrev AreHonest : JudgeInput → Type 0
    AreHonest x = AreHonestBeside (ready passes) pointer_limit x (z.version ∷ [])

    honest_ready : AreHonest h
    honest_ready = subst AreHonest (sym is) (record {
      itself = honest_for asked of.answer question unforged (near asked.name (above_itself asked.name) (alike z.apex ∙ fine.inside));
      beside = λ other x.
          let about : IsQuestion other = record {
            name = name_above other.name asked.name x.above question.name;
            rtype = beside_type other.rtype x.rtype;
            class = subst (λ n. n < 65536) (sym (x.class ∙ in_class)) (ltb-true 1 65536 refl);
          } in
          honest_for other of.answer about unforged (near other.name x.above x.inside);
    })

    pub honest : AreHonestBeside (answers_with passes) pointer_limit h (z.version ∷ [])
    honest = subst (λ (a : Answers). AreHonestBeside a pointer_limit h (z.version ∷ [])) (sym (ready_is passes)) honest_ready

-- ---- signatures that pass

pub true_try : (t v : Tried) → is_same_try t v ≡ true → passes v ≡ true → passes t ≡ true
true_try t v alike h =
    let parts = and_parts (bytes_eq v.signature t.signature && bytes_eq v.octets t.octets) (same_key v.key t.key) alike in
    let first = and_parts (bytes_eq v.signature t.signature) (bytes_eq v.octets t.octets) parts.0 in
    let key = and_parts (nat_eq v.key.flags t.key.flags && nat_eq v.key.protocol t.key.protocol && nat_eq v.key.algorithm t.key.algorithm) (bytes_eq v.key.octets t.key.octets) parts.1 in
    let signature_is : v.signature ≡ t.signature = (bytes_decides v.signature t.signature).0 first.0 in
    let octets_are : v.octets ≡ t.octets = (bytes_decides v.octets t.octets).0 first.1 in
    let key_is : v.key.octets ≡ t.key.octets = (bytes_decides v.key.octets t.key.octets).0 key.1 in
    sym (λ i. bytes_eq (signature_is i) (key_is i ++ octets_are i)) ∙ h

true_in : (t : Tried) (cs : List Checked) → AllByRecursion (λ (c : Checked). passes c.tried ≡ true) cs → passes_in cs t ≡ true → passes t ≡ true
true_in t [] are e = absurd (false≢true e)
true_in t (c ∷ cs) are e = go (is_entry_of t c) refl e (true_in t cs are.1)
  where
    go : (b : Bool) → is_entry_of t c ≡ b → unwrap_or (option_map (λ (x : Checked). x.passes) (cond b (Some c) (find (is_entry_of t) cs))) false ≡ true → (passes_in cs t ≡ true → passes t ≡ true) → passes t ≡ true
    go true alike k rest = true_try t c.tried alike are.0
    go false other k rest = rest k

pub true_are : AreTrue (passes_in evidence.table) passes
unfolding octet_of window_size window_count
true_are t e = true_in t evidence.table (refl, (refl, (refl, (refl, (refl, (refl, (refl, (refl, (refl, (refl, (refl, (refl, (refl, tt))))))))))))) e
