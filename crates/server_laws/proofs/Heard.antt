-- A judge says of a whole response what it says of the message that it is made of.
use Rattle.std.proofs.Common.{◌≡◌, ◌⊎◌, ℕ, ◌/◌, ◌%◌, ◌≤◌, ◌<◌, Bool, true, false, not, ◌&&◌, ◌||◌, List, [], ◌∷◌, ◌++◌, length, map, nat_eq, nat_le, Option, Some, None, Result, Ok, cond, eqb, inl, inr, refl, sym, subst, ap, ◌∙◌, ⊎_elim, arith, length-append, lit<}
use Rattle.std.specs.Prelude.{◌==◌, if◌then◌else◌}
use Rattle.std.specs.List.{AllByRecursion, AllZip, flat_map, list_any}
use Rattle.std.proofs.lemmas.Bool.{and_parts, eqb-true, or_cases, or_parts}
use Rattle.std.proofs.lemmas.List.Concat.{flat_map-append}
use Rattle.definitions.specs.Dnskey.{Dnskey}
use Rattle.definitions.specs.Limits.{pointer_limit}
use Rattle.definitions.specs.Name.{IsName, Name, at_or_above, low, same}
use Rattle.definitions.specs.Zone.{Delegated, NoName, NoType, Open, Records, StarNoType, StarRecords, Unsigned, Verdict, verdict}
use Rattle.definitions.specs.ZoneChain.{Mode, Nsec, Nsec3}
use Rattle.denial_laws.specs.Truth.{IsServable}
use Rattle.messages.specs.Handed.{AreHanded}
use Rattle.messages.specs.HandedRr.{HandedRr, among}
use Rattle.messages.specs.Message.{Asked, Message, Spelled, message, pair}
use Rattle.messages.specs.Written.{Written, record_octets}
use Rattle.messages.specs.WrittenLaws.{IsQuestion, IsRecord, first_place, spelled_from}
use Rattle.messages.proofs.Lists.{eqb-back, zip_append}
use Rattle.messages.proofs.MessageWhole.{records_stand}
use Rattle.messages.proofs.ZoneNames.{same_labels}
use Rattle.answer_publisher_keys.specs.Bindings.{ZoneKeys}
use Rattle.answer_scheme.specs.Answers.{Answers}
use Rattle.answer_scheme.specs.Moments.{second_of}
use Rattle.answer_terms.specs.Accepting.{sorted_records, zone_with}
use Rattle.answer_terms.specs.Asking.{is_allowed}
use Rattle.answer_terms.specs.GroupView.{GroupView, Presents, view_of}
use Rattle.answer_terms.specs.Hashing.{hash_in}
use Rattle.answer_zone.specs.ZoneAnswers.{flags_for}
use Rattle.alias_laws.proofs.Orderly.{servable}
use Rattle.answer_terms.specs.Served.{ServedRrset, Served, answer_groups, key_group, served_of, ttl_among}
use Rattle.answer_judge.specs.Judging.{Answer, JudgeInput, Refuses, Says, is_judged, message_refusal}
use Rattle.answer_judge.specs.declared.verdict.Refusal.{Refusal}
use Rattle.answer_judge.specs.declared.verdict.Refusal.TheVariants as r
use Rattle.answer_judge.specs.Judged.{AnswersAs, judged, judged_bytes}
use Rattle.answer_judge.proofs.GivenAnswers.{answers_given}
use Rattle.message_laws.specs.SeenAlike.{ProvesAlike, SeenAlike, is_covering, is_used_type}
use Rattle.message_laws.proofs.GivenShown.{answered, given_is_shown}
use Rattle.message_laws.proofs.JudgedAlike.{bare_prove, keys_alike, proven_judged, seen_prove}
use Rattle.message_laws.proofs.ShownAlike.{alike_shows_alike}
use Rattle.server_answers.specs.Composed.{IsAnswer, IsWritten, joined}
use Rattle.server_answers.specs.World.{AnswersKeysQuestion, AnswersQuestion, World, present_keys, served_in}
use Rattle.server_answers.proofs.WritesAnswer.{all_behind, all_presented}
use Rattle.server_answers.proofs.WritesData.{of_chain}
use Rattle.server_answers.proofs.WritesGroups.{Holds, IsFormed, all_hold, all_records, count_of}
use Rattle.server_answers.proofs.WritesZone.{keys_formed, parameters_formed}
use Rattle.server_queries.specs.Queries.{Queried}
use Rattle.server_answers.specs.Glue.{IsAddress, glue, glue_in}
use Rattle.server_responses.specs.Links.{shows_link}
use Rattle.server_responses.specs.Responses.{AnswersQuery, is_dnssec_ok, response_of}
use Rattle.server_responses.specs.Sections.{written_as_handed}
use Rattle.server_answers.specs.Outcomes.{AnswersParametersEach, signed_by}
use Rattle.server_answers.specs.Parameters.{IsParameters, is_for_parameters}
use Rattle.server_answers.specs.Table.{sign_by, verify_by}
use Rattle.server_answers.proofs.Signing.{own_entries}
use Rattle.server_answers.specs.Glued.{AnswersGlued}
use Rattle.server_answers.specs.Responding.{IsMessage, Serving, is_for_keys}
use Rattle.server_laws.specs.Heard.{ClientsAreShown, ClientsAreTold, IsJudgedAs, IsWhole, ParametersJudgedAlike, ResponsesJudgedAlike, SuggestsAlike, is_truncated}
use Rattle.server_answers.specs.Zones.{IsZone}
use Rattle.server_laws.proofs.Alone.{IsOther, NoSignature, SignsOther, StandsAlone, groups_alone, groups_other}
use Rattle.server_laws.proofs.Replied.{IsUnused}
use Rattle.server_laws.proofs.Shown.{IsAlone, all_seen, all_suggests, all_where_clear, flags_told, in_message, message_read, none_covers, spelled_all, unasked, whole_all}
use Rattle.server_laws.proofs.ZoneGroups.{are_handed, groups_formed, groups_unsigned, referral_other}
use Rattle.server_laws.proofs.Lists.{nothing}

-- ---- a publisher's message

all_front : {A : Type 0} (P : A → Type 0) (xs ys : List A) → AllByRecursion P (xs ++ ys) → AllByRecursion P xs
all_front P [] ys h = tt
all_front P (x ∷ xs) ys h = (h.0, all_front P xs ys h.1)

-- its records say the same wherever they stand
written_alone : (sign : Dnskey → List ℕ → Option (List ℕ)) (verifies : Dnskey → List ℕ → List ℕ → Bool) (apex : Name) (at life : ℕ) (keys : List Dnskey) (flags : ℕ) (asked : Asked) (answer authority : List GroupView) (groups : List ServedRrset) (m : List ℕ)
    → IsName apex → IsQuestion asked → AllByRecursion IsFormed groups → AllByRecursion NoSignature groups → AllZip Presents (answer ++ authority) groups
    → (w : IsAnswer sign verifies apex at life keys flags asked answer authority m) → IsAlone flags asked (joined w.answers) (joined w.authorities) m
written_alone sign verifies apex at life keys flags asked answer authority groups m name is formed none presents w =
    let Whole = IsWritten sign verifies apex at life keys in
    let first : List Written = joined w.answers in
    let second : List Written = joined w.authorities in
    let pieces : List (List Written) = w.answers ++ w.authorities in
    let both : joined pieces ≡ first ++ second = flat_map-append (λ p. p) w.answers w.authorities in
    let written : AllZip Whole (map view_of groups) pieces =
    subst (λ vs. AllZip Whole vs pieces) (all_presented (answer ++ authority) groups presents) (zip_append Whole answer w.answers authority w.authorities w.answers_are w.authorities_are) in
    let stands = records_stand m flags asked first second w.octets_are in
    let octets = flat_map record_octets (first ++ second) in
    let short : length octets ≤ 65535 = omega (arith, w.short, ap length stands.whole, length-append stands.front (octets ++ []), length-append octets []) in
    let each : AllByRecursion IsRecord (first ++ second) =
    all_records (first ++ second) 65535 (subst (AllByRecursion _) both (all_hold sign verifies apex at life keys groups pieces formed written)) short (omega arith) in
    let count : length (first ++ second) ≤ 65535 = omega (arith, count_of (first ++ second), short) in
    let sizes = length-append first second in
    record {
      octets_are = w.octets_are;
      question = is;
      sections = record {
        answers_are = all_front IsRecord first second each;
        authority_are = all_behind IsRecord first second each;
        answers_fit = omega (arith, count, sizes);
        authority_fit = omega (arith, count, sizes);
      };
      answers_alone = subst (AllByRecursion StandsAlone) both (groups_alone sign verifies apex at life name keys groups pieces formed none written);
      short = w.short;
    }

-- its signatures cover other types than one that none of its RRsets is of
written_other : (u : ℕ) (sign : Dnskey → List ℕ → Option (List ℕ)) (verifies : Dnskey → List ℕ → List ℕ → Bool) (apex : Name) (at life : ℕ) (keys : List Dnskey) (flags : ℕ) (asked : Asked) (answer authority : List GroupView) (groups : List ServedRrset) (m : List ℕ)
    → IsName apex → AllByRecursion IsFormed groups → AllByRecursion NoSignature groups → AllByRecursion (IsOther u) groups → AllZip Presents (answer ++ authority) groups
    → (w : IsAnswer sign verifies apex at life keys flags asked answer authority m) → AllByRecursion (SignsOther u) (joined w.answers ++ joined w.authorities)
written_other u sign verifies apex at life keys flags asked answer authority groups m name formed none other presents w =
    let Whole = IsWritten sign verifies apex at life keys in
    let pieces : List (List Written) = w.answers ++ w.authorities in
    let written : AllZip Whole (map view_of groups) pieces =
    subst (λ vs. AllZip Whole vs pieces) (all_presented (answer ++ authority) groups presents) (zip_append Whole answer w.answers authority w.authorities w.answers_are w.authorities_are) in
    subst (AllByRecursion (SignsOther u)) (flat_map-append (λ p. p) w.answers w.authorities) (groups_other sign verifies apex at life name u keys groups pieces formed none other written)

-- ---- glue

-- a message that is authoritative has none
pub no_glue : (flags : ℕ) (asked : Asked) (first second : List Written) (m : List ℕ) (addresses : List HandedRr) → IsAlone flags asked first second m → (f : ℕ) → flags ≡ f → f < 65536 → eqb (f / 1024 % 2) 1 ≡ true → glue addresses m ≡ []
no_glue flags asked first second m addresses alone f is few set =
    let told : pair m 2 ≡ f = flags_told flags asked first second m alone (omega (arith, is, few)) ∙ is in
    ap (λ b. cond b [] (glue_in addresses m (message pointer_limit m))) (ap (λ n. eqb (n / 1024 % 2) 1) told ∙ set)

pub hold_all : (rs : List HandedRr) → AllByRecursion IsAddress rs → AllByRecursion Holds (map written_as_handed rs)
hold_all [] h = tt
hold_all (r ∷ rs) h =
    let internet : r.class ≡ 1 = eqb-true r.class 1 (and_parts (eqb r.class 1) (eqb r.rtype 1 || eqb r.rtype 28) h.0.is).0 in
    (record { owner = h.0.handed.owner; rtype = h.0.handed.rtype; class = omega (arith, internet); ttl = h.0.handed.ttl }, hold_all rs h.1)

-- a judge uses no address where none is asked for
pub unused_all : (t : ℕ) (rs : List HandedRr) → (eqb t 1 || eqb t 28) ≡ false → AllByRecursion IsAddress rs → AllByRecursion (IsUnused t) (map written_as_handed rs)
unused_all t [] e h = tt
unused_all t (r ∷ rs) e h =
    let p = or_parts (eqb t 1) (eqb t 28) e in
    let of : (eqb r.rtype 1 || eqb r.rtype 28) ≡ true = (and_parts (eqb r.class 1) (eqb r.rtype 1 || eqb r.rtype 28) h.0.is).1 in (
      ⊎_elim
          (λ k. ap (is_used_type t) (eqb-true r.rtype 1 k) ∙ eqb-back 1 t ∙ p.0)
          (λ k. ap (is_used_type t) (eqb-true r.rtype 28 k) ∙ eqb-back 28 t ∙ p.1)
          (or_cases (eqb r.rtype 1) (eqb r.rtype 28) of),
      unused_all t rs e h.1,
    )

-- ---- what a judge says of two messages that it sees alike

never : (c x : Bool) → ((c && false) && x) ≡ false
never true x = refl
never false x = refl

-- no question is judged for a type that is not asked for
pub type_unjudged : (u : ℕ) (h : JudgeInput) → among (5 ∷ 39 ∷ []) u ≡ false → among (46 ∷ 47 ∷ 48 ∷ 50 ∷ 51 ∷ 5 ∷ 39 ∷ 0 ∷ 41 ∷ []) u ≡ true → h.asked.rtype ≡ u → is_judged h ≡ false
type_unjudged u h alias signing e =
    let here = eqb h.asked.class 1 && at_or_above h.apex h.asked.name in
    (λ i. (h.other_question && (among (5 ∷ 39 ∷ []) (e i) && eqb h.asked.class 1 && at_or_above h.apex h.asked.name)) || is_allowed h.apex h.asked)
    ∙ ap (λ b. (h.other_question && (b && eqb h.asked.class 1 && at_or_above h.apex h.asked.name)) || is_allowed h.apex h.asked) alias
    ∙ ap (λ b. b || is_allowed h.apex h.asked) (nothing h.other_question)
    ∙ (λ i. here && not (among (46 ∷ 47 ∷ 48 ∷ 50 ∷ 51 ∷ 5 ∷ 39 ∷ 0 ∷ 41 ∷ []) (e i)) && not (nat_le 128 h.asked.rtype && nat_le h.asked.rtype 255))
    ∙ ap (λ b. here && not b && not (nat_le 128 h.asked.rtype && nat_le h.asked.rtype 255)) signing
    ∙ never here (not (nat_le 128 h.asked.rtype && nat_le h.asked.rtype 255))

-- as OPT
pub opt_unjudged : (h : JudgeInput) → h.asked.rtype ≡ 41 → is_judged h ≡ false
opt_unjudged h e = type_unjudged 41 h refl refl e

abbrev judged_by : Bool → Bool → Option Refusal → Answer → Answer
judged_by asked none later answer = elim (if not asked then Some r.QuestionNotAllowed else if none then None else later) [
  | Some e ↦ Refuses e
  | None ↦ if none then Says Unsigned else answer
]

pub unjudged : (a : Answers) (h : JudgeInput) → is_judged h ≡ false → judged a pointer_limit h ≡ Refuses r.QuestionNotAllowed
unjudged a h e = ap (λ b. judged_by b (nat_eq (length h.ds) 0) (message_refusal pointer_limit h) (judged_bytes a pointer_limit h)) e

seen_judged : (m n : List ℕ) → SeenAlike pointer_limit 48 m n → ((t : ℕ) → (t == 41) ≡ false → ProvesAlike pointer_limit t m n) → SuggestsAlike m n → IsJudgedAs m n
seen_judged m n keys proves suggests = record {
  answers = λ a h. of_type a h (h.asked.rtype == 41) refl;
  keys = λ a h. keys_alike a pointer_limit h m n keys;
  proves = proves;
  seen = keys;
  suggests = suggests;
}
  where
    of_type : (a : Answers) (h : JudgeInput) (b : Bool) → (h.asked.rtype == 41) ≡ b → judged a pointer_limit (record h { answer_bytes = m }) ≡ judged a pointer_limit (record h { answer_bytes = n })
    of_type a h true e =
        let opt : is_judged h ≡ false = opt_unjudged h (eqb-true h.asked.rtype 41 e) in
        unjudged a (record h { answer_bytes = m }) opt ∙ sym (unjudged a (record h { answer_bytes = n }) opt)
    of_type a h false e = proven_judged a pointer_limit h m n (proves h.asked.rtype e)

-- ---- a response of it

pub ok_is : {A E : Type 0} (x y : A) → (the_ok : Result A E) → the_ok ≡ Ok x → the_ok ≡ Ok y → x ≡ y
ok_is x y o e f = let h = sym e ∙ f in cc

-- where addresses are asked for, there are none, or no signature covers one
abbrev pub AreBare : List HandedRr → List Written → Type 0
AreBare gs ws = (t : ℕ) → (eqb t 1 || eqb t 28) ≡ true → (gs ≡ []) ⊎ AllByRecursion (SignsOther t) ws

module _ (flags : ℕ) (asked : Asked) (first second : List Written) (m : List ℕ) (limit size : ℕ) (q : Queried) (alone : IsAlone flags asked first second m) (small : size < 65536) (fits : limit ≤ 65535) (is : IsQuestion q.asked) (wanted : is_dnssec_ok q ≡ true) (name : low q.asked.name ≡ low asked.name) (rtype : q.asked.rtype ≡ asked.rtype) (class : q.asked.class ≡ asked.class) (gs : List HandedRr) (each : AllByRecursion IsAddress gs) (bare : AreBare gs (first ++ second)) (silent : shows_link q m (spelled_from (first_place asked) (first ++ second)) ≡ false) where
  abbrev more : List Written
  more = map written_as_handed gs

  abbrev the_whole : List ℕ
  the_whole = whole_all flags asked first second m alone size q small is wanted more (hold_all gs each) silent

  abbrev the_records : List Spelled
  the_records = spelled_all flags asked first second m alone

  back : message pointer_limit m ≡ Ok (in_message flags asked first second m alone)
  back = message_read flags asked first second m alone

  seen : length the_whole ≤ 65535 → (t : ℕ) → AllByRecursion (IsUnused t) more → eqb 41 t ≡ false → SeenAlike pointer_limit t the_whole m
  seen few t spare other = all_seen flags asked first second m alone size q small is wanted more (hold_all gs each) silent t spare other name rtype class few

  -- where an address is asked for that no signature covers
  covered : length the_whole ≤ 65535 → (t : ℕ) → AllByRecursion (SignsOther t) (first ++ second) → ProvesAlike pointer_limit t the_whole m
  covered few t others =
      let alike = seen few 46 (unused_all 46 gs refl each) refl in
      let there = ok_is (in_message flags asked first second m alone) alike.other (message pointer_limit m) back alike.reads_other in
      bare_prove pointer_limit t the_whole m alike
      (subst (λ (x : Message). list_any (is_covering pointer_limit m t) x.records ≡ false) there (none_covers flags asked first second m alone t others))

  -- where there is none
  without : length the_whole ≤ 65535 → (t : ℕ) → eqb 41 t ≡ false → gs ≡ [] → ProvesAlike pointer_limit t the_whole m
  without few t other none =
      seen_prove pointer_limit t the_whole m
      (seen few t (subst (λ (xs : List HandedRr). AllByRecursion (IsUnused t) (map written_as_handed xs)) (sym none) tt) other)

  of_type : length the_whole ≤ 65535 → (t : ℕ) → eqb 41 t ≡ false → (b : Bool) → (eqb t 1 || eqb t 28) ≡ b → ProvesAlike pointer_limit t the_whole m
  of_type few t other false e = seen_prove pointer_limit t the_whole m (seen few t (unused_all t gs e each) other)
  of_type few t other true e = ⊎_elim (without few t other) (covered few t) (bare t e)

  whole_judged : length the_whole ≤ 65535 → IsJudgedAs the_whole m
  whole_judged few =
      seen_judged the_whole m (seen few 48 (unused_all 48 gs refl each) refl) (λ t other. of_type few t (eqb-back 41 t ∙ other) (eqb t 1 || eqb t 28) refl)
      (all_suggests flags asked first second m alone size q small is wanted more (hold_all gs each) silent (unused_all 39 gs refl each) few)

  response_judged : (octets : List ℕ) → is_truncated octets ≡ false → AnswersQuery limit size q m gs octets → IsJudgedAs octets m
  response_judged octets clear (read, reads, are) =
      let same : response_of limit size q m read.records more ≡ response_of limit size q m the_records more = ap (λ (x : Message). response_of limit size q m x.records more) (ok_is read _ (message pointer_limit m) reads back) in
      let found = all_where_clear flags asked first second m alone size q small is wanted more (hold_all gs each) silent limit (ap is_truncated (sym (are ∙ same)) ∙ clear) in
      subst (λ o. IsJudgedAs o m) (sym (are ∙ same ∙ found.0)) (whole_judged (omega (arith, found.1, fits)))

-- ---- by a server

pub plain_parts : (t : ℕ) → among (46 ∷ 47 ∷ 50 ∷ []) t ≡ false → (eqb t 46 ≡ false) × (of_chain t ≡ false)
plain_parts t plain =
    let p46 = or_parts (eqb t 46) _ plain in
    let p47 = or_parts (eqb t 47) _ p46.1 in
    let p50 = or_parts (eqb t 50) false p47.1 in
    (p46.0, λ i. (p47.0 i || p50.0 i))

module _ (w : World) (z : IsZone w) where
  abbrev served_sorted : List HandedRr → Served
  served_sorted rs = served_of w.zone.apex w.zone.mode (hash_in w.answers.hash w.zone.mode) rs

  pub zone_formed : (asked : Asked) → IsQuestion asked → of_chain asked.rtype ≡ false → AllByRecursion IsFormed (answer_groups (served_sorted w.zone.records) asked.name asked.rtype)
  zone_formed asked is plain =
      subst (λ rs. AllByRecursion IsFormed (answer_groups (served_sorted rs) asked.name asked.rtype)) (sym z.sorted)
      (groups_formed w.answers.hash w.zone.apex w.zone.limit z.records w.zone.mode z.apex_is z.records_are z.accepted asked.name asked.rtype is.name is.rtype plain)

  pub zone_servable : IsServable (served_in w).zone
  zone_servable = subst (λ rs. IsServable (zone_with w.zone.apex rs)) (sym z.sorted) (servable w.answers.hash w.zone.apex w.zone.mode w.zone.limit z.records z.accepted)

  -- the zone's message for a question
  pub answer_alone : (keys : ZoneKeys) (at : ℕ) (asked : Asked) → IsQuestion asked → among (46 ∷ 47 ∷ 50 ∷ []) asked.rtype ≡ false → (m : List ℕ) → (is : AnswersQuestion w keys at asked m)
      → IsAlone (flags_for (verdict (served_in w).zone false asked.name asked.rtype)) asked (joined is.written.answers) (joined is.written.authorities) m
  answer_alone keys at asked question plain m is =
      let groups = answer_groups (served_in w) asked.name asked.rtype in
      let parts = plain_parts asked.rtype plain in
      written_alone w.sign w.answers.verifies w.zone.apex (second_of at) w.life _ _ asked is.answer is.authority groups m
      z.apex_is question (zone_formed asked question parts.1) (groups_unsigned (served_in w) asked.name asked.rtype parts.0) is.groups_are is.written

  pub answer_other : (keys : ZoneKeys) (at : ℕ) (asked : Asked) → IsQuestion asked → among (46 ∷ 47 ∷ 50 ∷ []) asked.rtype ≡ false → (m : List ℕ) → (is : AnswersQuestion w keys at asked m)
      → (u : ℕ) → AllByRecursion (IsOther u) (answer_groups (served_in w) asked.name asked.rtype) → AllByRecursion (SignsOther u) (joined is.written.answers ++ joined is.written.authorities)
  answer_other keys at asked question plain m is u other =
      let groups = answer_groups (served_in w) asked.name asked.rtype in
      let parts = plain_parts asked.rtype plain in
      written_other u w.sign w.answers.verifies w.zone.apex (second_of at) w.life _ _ asked is.answer is.authority groups m
      z.apex_is (zone_formed asked question parts.1) (groups_unsigned (served_in w) asked.name asked.rtype parts.0) other is.groups_are is.written

  key_formed : (ks : List Dnskey) → IsFormed (key_group w.zone.apex (ttl_among w.zone.records (low w.zone.apex) 6) ks)
  key_formed ks =
      subst (λ rs. IsFormed (key_group w.zone.apex (ttl_among rs (low w.zone.apex) 6) ks)) (sym z.sorted)
      (keys_formed w.zone.apex (sorted_records z.records) (are_handed w.answers.hash w.zone.apex w.zone.limit z.records w.zone.mode z.apex_is z.records_are z.accepted) ks)

-- whichever scheme signs
pub zone_signed : (w : World) (sign : Dnskey → List ℕ → Option (List ℕ)) (verifies : Dnskey → List ℕ → List ℕ → Bool) → IsZone w → IsZone (signed_by w sign verifies)
zone_signed w sign verifies z = record { records = z.records; apex_is = z.apex_is; records_are = z.records_are; accepted = z.accepted; sorted = z.sorted }

module _ (s : Serving) (q : Queried) (octets : List ℕ) (h : IsWhole s q octets) (m : List ℕ) where
  abbrev pub by_table : World
  by_table = signed_by s.world (sign_by s.table) (verify_by s.table)

  pub zone_table : IsZone by_table
  zone_table = zone_signed s.world (sign_by s.table) (verify_by s.table) h.zone

  -- it is no question for NSEC
  pub link_unasked : eqb q.asked.rtype 47 ≡ false
  link_unasked = let p46 = or_parts (eqb q.asked.rtype 46) _ h.plain in (or_parts (eqb q.asked.rtype 47) _ p46.1).0

  abbrev the_served : Served
  the_served = served_sorted by_table zone_table s.world.zone.records

  module _ (is : AnswersQuestion by_table s.keys s.at q.asked m) where
    abbrev pub told : Verdict
    told = verdict the_served.zone false q.asked.name q.asked.rtype

    pub alone : IsAlone (flags_for told) q.asked (joined is.written.answers) (joined is.written.authorities) m
    alone = answer_alone by_table zone_table s.keys s.at q.asked h.asked h.plain m is

    authoritative : (f : ℕ) → flags_for told ≡ f → f < 65536 → eqb (f / 1024 % 2) 1 ≡ true → glue s.addresses m ≡ []
    authoritative f e few set = no_glue (flags_for told) q.asked (joined is.written.answers) (joined is.written.authorities) m s.addresses alone f e few set

    -- only a referral has glue, and nothing there signs an address
    pub bare : (v : Verdict) → told ≡ v → AreBare (glue s.addresses m) (joined is.written.answers ++ joined is.written.authorities)
    bare Delegated e t address =
        inr (answer_other by_table zone_table s.keys s.at q.asked h.asked h.plain m is t (referral_other the_served q.asked.name q.asked.rtype t address e))
    bare NoName e t address = inl (authoritative 33795 (ap flags_for e) (lit< tt) refl)
    bare (Records ds) e t address = inl (authoritative 33792 (ap flags_for e) (lit< tt) refl)
    bare NoType e t address = inl (authoritative 33792 (ap flags_for e) (lit< tt) refl)
    bare (StarRecords ds) e t address = inl (authoritative 33792 (ap flags_for e) (lit< tt) refl)
    bare StarNoType e t address = inl (authoritative 33792 (ap flags_for e) (lit< tt) refl)
    bare Open e t address = inl (authoritative 33792 (ap flags_for e) (lit< tt) refl)
    bare Unsigned e t address = inl (authoritative 33792 (ap flags_for e) (lit< tt) refl)

    answer_judged : AnswersGlued s.limit s.size q s.addresses m octets → IsJudgedAs octets m
    answer_judged glued =
        response_judged (flags_for told) q.asked (joined is.written.answers) (joined is.written.authorities) m s.limit s.size q alone h.size h.limit h.asked h.wanted refl refl refl (glue s.addresses m) glued.each (bare told refl)
        (unasked q m (spelled_from (first_place q.asked) (joined is.written.answers ++ joined is.written.authorities)) link_unasked) octets h.whole glued.answers

  -- of an RRset of the apex
  apex_judged : (g : ServedRrset) (keys : List Dnskey) (v : GroupView) → IsFormed g → NoSignature g → Presents v g
      → IsAnswer by_table.sign by_table.answers.verifies s.world.zone.apex (second_of s.at) s.world.life keys 33792 (record { name = s.world.zone.apex; rtype = g.rtype; class = 1 }) (v ∷ []) [] m
      → same q.asked.name s.world.zone.apex ≡ true → q.asked.rtype ≡ g.rtype → q.asked.class ≡ 1 → AnswersGlued s.limit s.size q s.addresses m octets → IsJudgedAs octets m
  apex_judged g keys v formed unsigned presents written name rtype class glued =
      let apex = s.world.zone.apex in
      let asked : Asked = record { name = apex; rtype = g.rtype; class = 1 } in
      let fits : IsQuestion asked = record { name = h.zone.apex_is; rtype = formed.rtype; class = lit< tt } in
      let alone = written_alone by_table.sign by_table.answers.verifies apex (second_of s.at) s.world.life keys 33792 asked (v ∷ []) [] (g ∷ []) m
      h.zone.apex_is fits (formed, tt) (unsigned, tt) (presents, tt) written in
      let none : glue s.addresses m ≡ [] = no_glue 33792 asked (joined written.answers) (joined written.authorities) m s.addresses alone 33792 refl (lit< tt) refl in
      response_judged 33792 asked (joined written.answers) (joined written.authorities) m s.limit s.size q alone h.size h.limit h.asked h.wanted
      (same_labels (low q.asked.name) (low apex) name) rtype class (glue s.addresses m) glued.each (λ t address. inl none) (unasked q m (spelled_from (first_place asked) (joined written.answers ++ joined written.authorities)) link_unasked) octets h.whole glued.answers

  keys_judged : is_for_keys s.world.zone.apex q.asked ≡ true → AnswersKeysQuestion by_table s.keys s.at m → AnswersGlued s.limit s.size q s.addresses m octets → IsJudgedAs octets m
  keys_judged for_keys is glued =
      let apex = s.world.zone.apex in
      let parts = and_parts (eqb q.asked.rtype 48 && eqb q.asked.class 1) (same q.asked.name apex) for_keys in
      let numbers = and_parts (eqb q.asked.rtype 48) (eqb q.asked.class 1) parts.0 in
      apex_judged (key_group apex (ttl_among s.world.zone.records (low apex) 6) (present_keys s.keys)) _ is.group (key_formed by_table zone_table (present_keys s.keys)) refl is.presents is.written
      parts.1 (eqb-true q.asked.rtype 48 numbers.0) (eqb-true q.asked.class 1 numbers.1) glued

  -- of the NSEC3PARAM RRset, which a chain of names does not have
  abbrev at_mode : Mode → World
  at_mode mode = record s.world { zone = record s.world.zone { mode = mode } }

  chain_judged : (mode : Mode) → s.world.zone.mode ≡ mode → AnswersParametersEach s.table s.world s.keys s.at m → same q.asked.name s.world.zone.apex ≡ true → q.asked.rtype ≡ 51 → q.asked.class ≡ 1
      → AnswersGlued s.limit s.size q s.addresses m octets → IsJudgedAs octets m
  chain_judged Nsec e each name rtype class glued =
      absurd (subst (λ (mode : Mode). AnswersParametersEach s.table (at_mode mode) s.keys s.at m) e each (sign_by s.table) (verify_by s.table) (own_entries s.table)).0
  chain_judged (Nsec3 iterations salt optout) e each name rtype class glued =
      let is = (subst (λ (mode : Mode). AnswersParametersEach s.table (at_mode mode) s.keys s.at m) e each (sign_by s.table) (verify_by s.table) (own_entries s.table)).0 in
      let handed : AreHanded s.world.zone.apex s.world.zone.records =
      subst (AreHanded s.world.zone.apex) (sym h.zone.sorted) (are_handed s.world.answers.hash s.world.zone.apex s.world.zone.limit h.zone.records s.world.zone.mode h.zone.apex_is h.zone.records_are h.zone.accepted) in
      apex_judged _ _ is.group (parameters_formed s.world.zone.apex s.world.zone.records handed iterations salt) refl is.presents is.written name rtype class glued

  parameters_judged_of : is_for_parameters s.world.zone.apex s.world.zone.mode q.asked ≡ true → AnswersParametersEach s.table s.world s.keys s.at m → AnswersGlued s.limit s.size q s.addresses m octets → IsJudgedAs octets m
  parameters_judged_of asked each glued =
      let apex = s.world.zone.apex in
      let chained = and_parts (eqb q.asked.rtype 51 && eqb q.asked.class 1 && same q.asked.name apex) _ asked in
      let parts = and_parts (eqb q.asked.rtype 51 && eqb q.asked.class 1) (same q.asked.name apex) chained.0 in
      let numbers = and_parts (eqb q.asked.rtype 51) (eqb q.asked.class 1) parts.0 in
      chain_judged s.world.zone.mode refl each parts.1 (eqb-true q.asked.rtype 51 numbers.0) (eqb-true q.asked.class 1 numbers.1) glued

  message_judged : (keys : Bool) → is_for_keys s.world.zone.apex q.asked ≡ keys → IsMessage s q.asked keys true m → AnswersGlued s.limit s.size q s.addresses m octets → IsJudgedAs octets m
  message_judged true e is glued = keys_judged e (is (sign_by s.table) (verify_by s.table) (own_entries s.table)).0 glued
  message_judged false e is glued = answer_judged (is.0 (sign_by s.table) (verify_by s.table) (own_entries s.table)).0 glued

pub responses_judged : ResponsesJudgedAlike
responses_judged s q old new octets h r =
    message_judged s q octets h r.m (is_for_keys s.world.zone.apex q.asked) refl (subst (λ b. IsMessage s q.asked (is_for_keys s.world.zone.apex q.asked) b r.m) h.wanted r.is_message) r.answers

pub parameters_judged : ParametersJudgedAlike
parameters_judged s q m octets h asked is glued = parameters_judged_of s q octets h m asked (subst (λ b. IsParameters s b m) h.wanted is) glued

pub clients_told : ClientsAreTold
clients_told s t q p old new before behind key_octets octets whole d other r a h mode rs small given answer exact =
    let keys = (responses_judged s q old new key_octets whole d).keys a (record h { answer_bytes = octets }) in
    let answers = (responses_judged t p before behind octets other r).answers a (record h { dnskey_bytes = d.m }) in
    answers_given a pointer_limit (record h { dnskey_bytes = d.m; answer_bytes = r.m }) answer small (subst (AnswersAs answer) (keys ∙ answers) exact) mode rs given

pub clients_shown : ClientsAreShown
clients_shown s t q p old new before behind key_octets octets whole d other r a h mode rs small given =
    alike_shows_alike a pointer_limit h mode rs key_octets d.m octets r.m (responses_judged s q old new key_octets whole d).seen (λ u plain. ((responses_judged t p before behind octets other r).proves u plain).verified)
    (inl (answered a pointer_limit (record h { dnskey_bytes = d.m; answer_bytes = r.m }) mode rs small given))
    (given_is_shown a pointer_limit (record h { dnskey_bytes = d.m; answer_bytes = r.m }) mode rs small given)
