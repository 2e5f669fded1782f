-- The alias that a zone gives stands in front of its answer, and suggests its question.
use Rattle.std.proofs.Common.{◌≡◌, ℕ, ◌<◌, Bool, true, false, not, ◌&&◌, ◌||◌, List, [], ◌∷◌, ◌++◌, length, Option, Some, None, Result, Ok, Err, cond, eqb, refl, sym, ap, subst, ◌∙◌, arith}
use Rattle.std.specs.Prelude.{◌==◌, nat_lt, if◌then◌else◌}
use Rattle.std.specs.List.{AllByRecursion, filter, find, list_any}
use Rattle.std.specs.Option.{option_map}
use Rattle.std.proofs.lemmas.Bool.{and_from, and_parts, eq-eqb, false≢true}
use Rattle.definitions.specs.Dnskey.{Dnskey}
use Rattle.definitions.specs.Name.{Name, at_or_above, low, same, strictly_above}
use Rattle.definitions.specs.Zone.{NoName, NoType, Delegated, Open, StarNoType, StarRecords, Verdict, Zone, apex_of, ce, cut, data_at, exists, has, is_delegation, is_live, is_open, star_under, verdict}
use Rattle.definitions.specs.ZoneChain.{Mode, optout_of}
use Rattle.definitions.proofs.VerdictCases.{verdict-open, verdict-said}
use Rattle.definitions.proofs.VerdictCases as cases
use Rattle.denial_laws.specs.OwnFacts as proof
use Rattle.denial_laws.specs.Truth.{is_signed}
use Rattle.denial_laws.proofs.Verdicts.{verdict_signed}
use Rattle.denial_laws.proofs.VerdictView.{View, Signed, Missing, Cut, Starred, Unstarred, Gone, view}
use Rattle.messages.specs.HandedRr.{HandedRr}
use Rattle.messages.specs.Message.{Asked, Message, Spelled}
use Rattle.messages.specs.declared.error.MessageError.{MessageError}
use Rattle.messages.proofs.ZoneNames.{labels_eq-same}
use Rattle.answer_scheme.specs.Answers.{Answers}
use Rattle.answer_terms.specs.Accepting.{sorted_records, zone_of}
use Rattle.answer_terms.specs.Hashing.{hash_in}
use Rattle.answer_terms.specs.Served.{ServedRrset, Served, ahead, ahead_open, answer_groups, by_tag, chain_names, expanded, proofs_of, rrset, speaks_for, under}
use Rattle.answer_terms.specs.Told.{AreRecords, AreSignatures, TellsGroups}
use Rattle.answer_zone.specs.Finding.{finds}
use Rattle.answer_zone.specs.ZoneAnswers.{answered}
use Rattle.answer_judge.specs.Meeting.{served_from}
use Rattle.answer_judge.proofs.GivenRrset.{all_joined, verified_rrset_missing}
use Rattle.answer_judge.proofs.OwnAnswer.{some_data}
use Rattle.answer_judge.specs.Judging.{JudgeInput}
use Rattle.answer_judge.specs.Judged.{trusting}
use Rattle.answer_judge_facts.specs.Verified.{Trusting, verified_rrset}
use Rattle.answer_findings.specs.Hints.{answer_records, has_cname_hint}
use Rattle.answer_findings.specs.Judgements.{alias_hint, asking}
use Rattle.message_laws.specs.Given.{WasGivenWithAliases}
use Rattle.message_laws.proofs.GivenAliases.{usable, zone_servable}
use Rattle.message_laws.proofs.Whether.{of_chain, unsigned}

-- records that suggest a DNAME above the name, and a CNAME at it
abbrev hints_dname : JudgeInput → Spelled → Bool
hints_dname h r = (r.class == 1) && ((r.rtype == 39) && at_or_above h.apex r.owner && strictly_above r.owner h.asked.name)

abbrev hints_cname : JudgeInput → Spelled → Bool
hints_cname h r = (r.class == 1) && ((r.rtype == 5) && same r.owner h.asked.name)

no_and : (b : Bool) → (b && false) ≡ false
no_and true = refl
no_and false = refl

-- of some items none passes
none_found : {A : Type 0} (p : A → Bool) (xs : List A) → AllByRecursion (λ x. p x ≡ false) xs → find p xs ≡ None
none_found p [] h = refl
none_found p (x ∷ xs) h = ap (λ b. cond b (Some x) (find p xs)) h.0 ∙ none_found p xs h.1

-- a record of a type that is not among those of some RRsets and their signatures
module _ (v : Dnskey → List ℕ → List ℕ → Bool) (k : ℕ) (m : List ℕ) (apex : Name) (at life : ℕ) (t : ℕ) where
  abbrev Unlike : List Spelled → Type 0
  Unlike rs = AllByRecursion (λ (r : Spelled). eqb r.rtype t ≡ false) rs

  records_unlike : (rs : List Spelled) (g : ServedRrset) (ds : List (List ℕ)) → eqb g.rtype t ≡ false → AreRecords k m rs g ds → Unlike rs
  records_unlike [] g [] e h = tt
  records_unlike [] g (d ∷ ds) e h = absurd h
  records_unlike (r ∷ rs) g [] e h = absurd h
  records_unlike (r ∷ rs) g (d ∷ ds) e h = (ap (λ u. eqb u t) h.0.type_is ∙ e, records_unlike rs g ds e h.1)

  signatures_unlike : (rs : List Spelled) (g : ServedRrset) (keys : List Dnskey) → eqb 46 t ≡ false → AreSignatures v k m rs apex at life g keys → Unlike rs
  signatures_unlike [] g [] e h = tt
  signatures_unlike [] g (key ∷ keys) e h = absurd h
  signatures_unlike (r ∷ rs) g [] e h = absurd h
  signatures_unlike (r ∷ rs) g (key ∷ keys) e h = (ap (λ u. eqb u t) h.0.type_is ∙ e, signatures_unlike rs g keys e h.1)

  groups_unlike : (rs : List Spelled) (keys : List Dnskey) (gs : List ServedRrset) → eqb 46 t ≡ false → AllByRecursion (λ (g : ServedRrset). eqb g.rtype t ≡ false) gs → TellsGroups v k m rs apex at life keys gs → Unlike rs
  groups_unlike rs keys [] e h told = subst Unlike (sym told) tt
  groups_unlike rs keys (g ∷ gs) e h (own, signatures, rest, are, records, signs, more) =
      subst Unlike (sym are)
      (all_joined (λ (r : Spelled). eqb r.rtype t ≡ false) (own ++ signatures) rest
      (all_joined (λ (r : Spelled). eqb r.rtype t ≡ false) own signatures (records_unlike own g g.datas h.0 records) (signatures_unlike signatures g (if g.signed then keys else []) e signs))
      (groups_unlike rest keys gs e h.1 more))

module _ (a : Answers) (k : ℕ) (h : JudgeInput) (mode : Mode) (rs : List HandedRr) (given : WasGivenWithAliases a k h mode rs) where
  abbrev z : Zone
  z = zone_of h.apex rs

  abbrev s : Served
  s = served_from a h mode rs

  abbrev read : Message
  read = given.told.read

  abbrev m : List ℕ
  m = h.answer_bytes

  abbrev signers : List Dnskey
  signers = by_tag given.zonesigners

  abbrev w : Trusting
  w = trusting a h (usable a k h mode rs given)

  -- ---- an RRset that is found stands in front

  pub record IsAhead (q : Name) (u : ℕ) : Type 0 where
    pub first : ServedRrset
    pub behind : List Name
    pub are : answer_groups s q u ≡ first ∷ proofs_of s behind
    pub rtype_is : first.rtype ≡ u
    pub owner_is : low first.owner ≡ low q
    pub some : 0 < length first.datas

  pub unfound : {P : Type 0} (q : Name) (u : ℕ) (v : Verdict) → finds z q u ≡ true → verdict z false q u ≡ v → nat_lt 0 (answered v) ≡ false → P
  unfound q u v f is none = absurd (false≢true (sym none ∙ sym (ap (λ (x : Verdict). nat_lt 0 (answered x)) is) ∙ f))

  has_signed : (o : Name) (u : ℕ) → is_signed z o u ≡ true → has z o u ≡ true
  has_signed o u x = (and_parts (is_live z o && (not (is_delegation z o) || (u == 43))) (has z o u) x).1

  -- what is said of a name that opt-out does not leave open is said without it
  pub closed : (q : Name) (u : ℕ) → is_open z (optout_of mode) (low q) ≡ false → verdict z (optout_of mode) q u ≡ verdict z false q u
  closed q u o =
      verdict-said z (optout_of mode) q (low q) u refl ∙ ap (λ b. cases.said z (low q) u b (cut z (low q)) (exists z (low q)) (ce z (low q))) o
      ∙ sym (verdict-said z false q (low q) u refl)

  abbrev pub groups_of : Name → ℕ → Verdict → Verdict → List ServedRrset
  groups_of q u told v = ahead s q u v ++ proofs_of s (proof.spoken z mode (low q) told v)

  abbrev starred : Name → ℕ → List Name → Option Name → List ServedRrset
  starred q u behind o = (elim o as (λ _. List ServedRrset) [ None ↦ [] | Some y ↦ expanded s (star_under y) q u ]) ++ proofs_of s behind

  pub front : (q : Name) (u : ℕ) → at_or_above (apex_of z) (low q) ≡ true → finds z q u ≡ true → IsAhead q u
  front q u inside f = go (view z (zone_servable a k h mode rs given) q u inside)
    where
      by_star : (e : Name) → ce z (low q) ≡ Some e → is_signed z (star_under e) u ≡ true → verdict z false q u ≡ StarRecords (data_at z (star_under e) u) → (b : Bool) → is_open z (optout_of mode) (low q) ≡ b → IsAhead q u
      by_star e c x v false o = record {
        first = under q (rrset s (star_under e) u);
        behind = proof.spoken z mode (low q) (verdict z false q u) (StarRecords (data_at z (star_under e) u));
        are = ap (groups_of q u (verdict z false q u)) (closed q u o ∙ v) ∙ ap (starred q u (proof.spoken z mode (low q) (verdict z false q u) (StarRecords (data_at z (star_under e) u)))) c;
        rtype_is = refl;
        owner_is = refl;
        some = some_data z (star_under e) u (has_signed (star_under e) u x);
      }
      by_star e c x v true o = record {
        first = under q (rrset s (star_under e) u);
        behind = proof.spoken z mode (low q) (verdict z false q u) Open;
        are =
            ap (groups_of q u (verdict z false q u)) (verdict-open z (optout_of mode) q (low q) u refl o)
            ∙ ap (λ (y : Verdict). ahead_open s q u y ++ proofs_of s (proof.spoken z mode (low q) (verdict z false q u) Open)) v
            ∙ ap (starred q u (proof.spoken z mode (low q) (verdict z false q u) Open)) c;
        rtype_is = refl;
        owner_is = refl;
        some = some_data z (star_under e) u (has_signed (star_under e) u x);
      }

      go : View z q u → IsAhead q u
      go (Signed x v) = record {
        first = under q (rrset s (low q) u);
        behind = [];
        are = ap (groups_of q u (verdict z false q u)) (verdict_signed z (optout_of mode) q u x);
        rtype_is = refl;
        owner_is = refl;
        some = some_data z (low q) u (has_signed (low q) u x);
      }
      go (Starred e x c y v) = by_star e c y v (is_open z (optout_of mode) (low q)) refl
      go (Missing x y v) = unfound q u NoType f v refl
      go (Cut c e y v) = unfound q u Delegated f v refl
      go (Unstarred e x c y t v) = unfound q u StarNoType f v refl
      go (Gone e x c y v) = unfound q u NoName f v refl

  -- ---- the message's records

  module _ (q : Name) (u : ℕ) (plain : eqb u 46 ≡ false) (told : TellsGroups a.verifies k m read.records h.apex given.at given.life signers (answer_groups s q u)) (x : IsAhead q u) where
    abbrev groups : List ServedRrset
    groups = x.first ∷ proofs_of s x.behind

    pub tells : TellsGroups a.verifies k m read.records h.apex given.at given.life signers groups
    tells = subst (TellsGroups a.verifies k m read.records h.apex given.at given.life signers) x.are told

    -- the first one
    pub record IsFirst : Type 0 where
      pub spelled : Spelled
      pub later : List Spelled
      pub are : read.records ≡ spelled ∷ later
      pub owner_is : low spelled.owner ≡ low q
      pub type_is : spelled.rtype ≡ u
      pub class_is : spelled.class ≡ 1

    pub first_record : IsFirst
    first_record = go tells
      where
        by_records : (own signatures rest : List Spelled) (datas : List (List ℕ)) → read.records ≡ own ++ signatures ++ rest → 0 < length datas → AreRecords k m own x.first datas → IsFirst
        by_records [] signatures rest [] are some is = absurd (omega (arith, some))
        by_records [] signatures rest (d ∷ ds) are some is = absurd is
        by_records (y ∷ ys) signatures rest [] are some is = absurd is
        by_records (y ∷ ys) signatures rest (d ∷ ds) are some is = record {
          spelled = y;
          later = ys ++ signatures ++ rest;
          are = are;
          owner_is = is.0.owner_is ∙ x.owner_is;
          type_is = is.0.type_is ∙ x.rtype_is;
          class_is = is.0.class_is;
        }

        go : TellsGroups a.verifies k m read.records h.apex given.at given.life signers groups → IsFirst
        go (own, signatures, rest, are, records, signs, more) = by_records own signatures rest x.first.datas are x.some records

    -- no other types are there, but those of signatures and chains
    pub types : (t : ℕ) → eqb u t ≡ false → eqb 47 t ≡ false → eqb 50 t ≡ false → AllByRecursion (λ (g : ServedRrset). eqb g.rtype t ≡ false) groups
    types t other names hashes = (ap (λ y. eqb y t) x.rtype_is ∙ other, of_chain mode (hash_in a.hash mode) h.apex (sorted_records rs) t names hashes (filter (λ o. list_any (speaks_for s o) x.behind) (chain_names s)))

    pub missing : (o : Name) (t : ℕ) → eqb u t ≡ false → eqb 47 t ≡ false → eqb 50 t ≡ false → verified_rrset w k m read.records o t ≡ None
    missing o t other names hashes = verified_rrset_missing w k m read.records h.apex given.at given.life signers groups o t tells (types 46 plain refl refl) (unsigned o t groups (types t other names hashes))

    records_are : answer_records k h ≡ read.records
    records_are = ap (λ (o : Result Message MessageError). elim o as (λ _. List Spelled) [ Err e ↦ [] | Ok y ↦ y.records ]) given.told.reads

    abbrev owner_found : List Spelled → Option Name
    owner_found ys = option_map (λ (y : Spelled). y.owner) (find (hints_dname h) ys)

    abbrev by_owner : Option Name → Option Asked
    by_owner o = elim o [ Some owner ↦ Some (asking h owner 39) | None ↦ if at_or_above h.apex h.asked.name && not (h.asked.rtype == 5) && has_cname_hint k h then Some (asking h h.asked.name 5) else None ]

    -- a DNAME above the name suggests itself
    pub dname_hinted : u ≡ 39 → at_or_above h.apex first_record.spelled.owner ≡ true → strictly_above first_record.spelled.owner h.asked.name ≡ true
        → alias_hint k h ≡ Some (asking h first_record.spelled.owner 39)
    dname_hinted is inside above =
        let y : IsFirst = first_record in
        let hints : hints_dname h y.spelled ≡ true =
        and_from _ _ (eq-eqb y.spelled.class 1 y.class_is) (and_from _ _ (and_from _ _ (eq-eqb y.spelled.rtype 39 (y.type_is ∙ is)) inside) above) in
        let found : owner_found (answer_records k h) ≡ Some y.spelled.owner =
        ap (owner_found) (records_are ∙ y.are)
        ∙ ap (λ b. option_map (λ (x : Spelled). x.owner) (cond b (Some y.spelled) (find (hints_dname h) y.later))) hints in
        ap by_owner found

    -- a CNAME at the name does, where no DNAME is there
    pub cname_hinted : u ≡ 5 → low q ≡ low h.asked.name → at_or_above h.apex h.asked.name ≡ true → (h.asked.rtype == 5) ≡ false → alias_hint k h ≡ Some (asking h h.asked.name 5)
    cname_hinted is named inside other =
        let y : IsFirst = first_record in
        let hints : hints_cname h y.spelled ≡ true =
        and_from _ _ (eq-eqb y.spelled.class 1 y.class_is) (and_from _ _ (eq-eqb y.spelled.rtype 5 (y.type_is ∙ is)) (labels_eq-same (low y.spelled.owner) (low h.asked.name) (y.owner_is ∙ named))) in
        let none : owner_found (answer_records k h) ≡ None =
        ap (owner_found) records_are
        ∙ ap (option_map (λ (x : Spelled). x.owner)) (none_found (hints_dname h) read.records (unhinted read.records
        (groups_unlike a.verifies k m h.apex given.at given.life 39 read.records signers groups refl (types 39 (ap (λ t. eqb t 39) is) refl refl) tells))) in
        let there : has_cname_hint k h ≡ true = ap (list_any (hints_cname h)) (records_are ∙ y.are) ∙ ap (λ b. b || list_any (hints_cname h) y.later) hints in
        (λ i. elim (none i) as (λ _. Option Asked) [ Some owner ↦ Some (asking h owner 39) | None ↦ if inside i && not (other i) && there i then Some (asking h h.asked.name 5) else None ])
      where
        unhinted : (ys : List Spelled) → AllByRecursion (λ (r : Spelled). eqb r.rtype 39 ≡ false) ys → AllByRecursion (λ r. hints_dname h r ≡ false) ys
        unhinted [] e = tt
        unhinted (y ∷ ys) e = (ap (λ b. (y.class == 1) && (b && at_or_above h.apex y.owner && strictly_above y.owner h.asked.name)) e.0 ∙ no_and (y.class == 1), unhinted ys e.1)
