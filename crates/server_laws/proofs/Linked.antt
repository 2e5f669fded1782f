-- A judge says of a response that shows the NSEC record which was asked for what it says of the message, but of the zone's SOA record.
use Rattle.std.proofs.Common.{◌≡◌, ℕ, ◌+◌, ◌/◌, ◌%◌, ◌≤◌, ◌<◌, Bool, true, false, not, ◌&&◌, ◌||◌, List, [], ◌∷◌, ◌++◌, length, map, Option, Some, None, cond, eqb, nat_le, refl, sym, subst, ap, ◌∙◌, ⊎_elim, append_assoc, arith, lit<}
use Rattle.std.specs.Prelude.{if◌then◌else◌, slice_range}
use Rattle.std.specs.List.{AllByRecursion, AllZip, filter, flat_map, list_any}
use Rattle.std.proofs.lemmas.Bool.{and_from, and_parts, eqb-true, eq-eqb, false_from_ne_true, true≢false}
use Rattle.std.proofs.lemmas.List.{append-nil}
use Rattle.std.proofs.lemmas.List.Concat.{flat_map-append}
use Rattle.definitions.specs.Limits.{pointer_limit}
use Rattle.definitions.specs.Name.{Name, labels_eq, low, same, wire}
use Rattle.definitions.specs.Signing.{Fields}
use Rattle.definitions.specs.Zone.{Delegated, verdict}
use Rattle.messages.specs.HandedRr.{HandedRr}
use Rattle.messages.specs.Message.{Spelled, behind, data_of, fits, if_true, message, name_in, pair, rrsig_at, rrsig_fields}
use Rattle.messages.specs.Written.{Written, record_octets}
use Rattle.messages.specs.WrittenLaws.{IsQuestion, IsRecord, first_place, spelled_from}
use Rattle.messages.proofs.Lists.{all_more, zip_append}
use Rattle.messages.proofs.MessageWritten.{StandsAt, end_of}
use Rattle.messages.proofs.ZoneNames.{labels_eq-same, same_labels}
use Rattle.answer_publisher_keys.specs.Bindings.{ZoneKeys, keys_by_tag}
use Rattle.answer_scheme.specs.Answers.{Answers}
use Rattle.answer_scheme.specs.Moments.{second_of}
use Rattle.answer_terms.specs.Alike.{IsLike}
use Rattle.answer_terms.specs.FactsCase.{low_facts}
use Rattle.answer_terms.specs.GroupView.{GroupView, view_of}
use Rattle.answer_terms.specs.Served.{ServedRrset, Served, answer_groups, soa, spelled_among}
use Rattle.answer_terms.proofs.ZoneData.{low-owner_among, low-spelled_among}
use Rattle.answer_zone.specs.ZoneAnswers.{answered, flags_for}
use Rattle.answer_judge.specs.Judging.{JudgeInput, is_judged}
use Rattle.answer_judge.specs.Judged.{judged}
use Rattle.answer_judge_facts.specs.Times.{proof_times}
use Rattle.answer_judge_facts.specs.Verified.{verified_facts}
use Rattle.message_laws.specs.SeenAlike.{is_used}
use Rattle.message_laws.proofs.FactsAlike.{all_times, facts_alike}
use Rattle.server_answers.specs.Composed.{IsWritten, joined}
use Rattle.server_answers.specs.Glue.{glue}
use Rattle.server_answers.specs.Glued.{AnswersGlued}
use Rattle.server_answers.specs.Synthesized.{reserved}
use Rattle.server_answers.specs.World.{AnswersQuestion, World, served_in, signing_in}
use Rattle.server_answers.proofs.WritesAnswer.{all_behind, all_presented}
use Rattle.server_answers.proofs.WritesGroups.{Holds, IsFormed}
use Rattle.server_queries.specs.Queries.{Queried}
use Rattle.server_responses.specs.Links.{is_authoritative, is_link_of, is_link_or_its_signature, shows_link}
use Rattle.server_responses.specs.Responses.{answers_shown, authority_shown, counted, is_dnssec_ok, reply_octets, response_flags, response_of, whole_response}
use Rattle.server_responses.specs.Sections.{all_shown, answer_section, authority_section, is_added, negative_ttl, shown, written_as_handed}
use Rattle.server_laws.specs.Heard.{asks_soa, has_link_in, is_link_shown, is_truncated}
use Rattle.server_answers.specs.Zones.{IsZone}
use Rattle.server_laws.proofs.Alone.{IsOf, IsRecordOf, SameButTtl, StandsAlone, piece_of, records_alike, records_of}
use Rattle.server_laws.proofs.AnyQuestion.{answers_judged}
use Rattle.server_laws.proofs.Heard.{answer_alone, no_glue, ok_is, type_unjudged, unjudged, zone_formed, zone_servable}
use Rattle.server_laws.proofs.Idle.{IsIdle, LooksAt, facts_same, proof_times_same}
use Rattle.server_laws.proofs.OneLink.{IsLinked, IsNoLink, Linked, Linking, Referred, Unlinked, linking}
use Rattle.server_laws.proofs.Lists.{all_joined, as_many, is_empty, nothing}
use Rattle.server_laws.proofs.Replied.{limited, message_of, opts, replied, replied_reads, replied_stands, unused_opts, whole_where_clear}
use Rattle.server_laws.proofs.Shown.{IsAlone, all_turned, alone_read, behind_none, behind_stands, both_used, datas, flags_told, length_spelled, place_behind, records_stand, same_hold, same_shown, second_part, shown_with, spelled_all, spelled_more, zip_front}

-- ---- what a signature covers

module _ (m : List ℕ) (r : Spelled) (said : Fields × List ℕ) where
  abbrev by : Name × ℕ → Option (Fields × List ℕ)
  by signer =
      let signature = slice_range m signer.1 (behind r) in
      if_true (fits (slice_range m r.start (r.start + 18) ++ (wire signer.0 ++ signature))) (rrsig_fields m r.start (low signer.0), signature)

  by_fit : (b : Bool) (x : Fields × List ℕ) → if_true b x ≡ Some said → x ≡ said
  by_fit true x e = cc
  by_fit false x e = absurd (let none : None ≡ Some said = e in cc)

  by_signer : (o : Option (Name × ℕ)) → (elim o as (λ _. Option (Fields × List ℕ)) [ None ↦ None | Some signer ↦ by signer ]) ≡ Some said → pair m r.start ≡ said.0.covered
  by_signer None e = absurd (let none : None ≡ Some said = e in cc)
  by_signer (Some signer) e = ap (λ (f : Fields × List ℕ). f.0.covered) (by_fit _ _ e)

  by_length : (b : Bool) → (elim b as (λ _. Option (Fields × List ℕ)) [ false ↦ None | true ↦ elim (name_in pointer_limit m r (r.start + 18)) as (λ _. Option (Fields × List ℕ)) [ None ↦ None | Some signer ↦ by signer ] ]) ≡ Some said → pair m r.start ≡ said.0.covered
  by_length false e = absurd (let none : None ≡ Some said = e in cc)
  by_length true e = by_signer (name_in pointer_limit m r (r.start + 18)) e

  covered_there : rrsig_at pointer_limit m r ≡ Some said → pair m r.start ≡ said.0.covered
  covered_there e = by_length (nat_le 18 r.length) e

-- ---- which messages show it

-- no NSEC record of the name
abbrev IsUnlinked : Name → Written → Type 0
IsUnlinked n w = (eqb w.rtype 47 && same w.owner n) ≡ false

unlinked_of : (n : Name) (g : ServedRrset) (ws : List Written) → IsNoLink n g → AllByRecursion (IsOf g) ws → AllByRecursion (IsUnlinked n) ws
unlinked_of n g [] none h = tt
unlinked_of n g (w ∷ ws) none h = (
  ⊎_elim
      (λ type. (λ i. eqb (type i) 47 && labels_eq (h.0.owner_is i) (low n)) ∙ none)
      (λ c. ap (λ u. eqb u 47 && same w.owner n) c.0)
      h.0.covers,
  unlinked_of n g ws none h.1,
)

none_linked : (n : Name) (p : ℕ) (ws : List Written) → AllByRecursion (IsUnlinked n) ws → list_any (is_link_of n) (spelled_from p ws) ≡ false
none_linked n p [] h = refl
none_linked n p (w ∷ ws) h = λ i. h.0 i || none_linked n (end_of p w) ws h.1 i

-- records of two RRsets
record TwoPieces (W : GroupView → List Written → Type 0) (v w : GroupView) (ps : List (List Written)) : Type 0 where
  one : List Written
  other : List Written
  one_is : W v one
  other_is : W w other
  joined_is : joined ps ≡ one ++ other

two_pieces : (W : GroupView → List Written → Type 0) (v w : GroupView) (ps : List (List Written)) → AllZip W (v ∷ w ∷ []) ps → TwoPieces W v w ps
two_pieces W v w [] h = absurd h
two_pieces W v w (x ∷ []) h = absurd h.1
two_pieces W v w (x ∷ y ∷ []) h = record { one = x; other = y; one_is = h.0; other_is = h.1.0; joined_is = ap (λ z. x ++ z) (append-nil y) }
two_pieces W v w (x ∷ y ∷ z ∷ ps) h = absurd h.1.1

module _ (w : World) (zone : IsZone w) (keys : ZoneKeys) (at : ℕ) (q : Queried) (question : IsQuestion q.asked) (m : List ℕ) (is : AnswersQuestion w keys at (reserved q.asked) m) where
  abbrev n : Name
  n = q.asked.name

  abbrev s : Served
  s = served_in w

  reserved_fits : IsQuestion (reserved q.asked)
  reserved_fits = record { name = question.name; rtype = lit< tt; class = question.class }

  abbrev flags : ℕ
  flags = flags_for (verdict s.zone false n 65535)

  abbrev first : List Written
  first = joined is.written.answers

  abbrev second : List Written
  second = joined is.written.authorities

  abbrev Whole : GroupView → List Written → Type 0
  Whole = IsWritten w.sign w.answers.verifies w.zone.apex (second_of at) w.life (keys_by_tag keys (signing_in w (reserved q.asked)))

  is_alone : IsAlone flags (reserved q.asked) first second m
  is_alone = answer_alone w zone keys at (reserved q.asked) reserved_fits refl m is

  abbrev records : List Spelled
  records = spelled_all flags (reserved q.asked) first second m is_alone

  formed : AllByRecursion IsFormed (answer_groups s n 65535)
  formed = zone_formed w zone (reserved q.asked) reserved_fits refl

  spelled_there : (o : Name) → low o ≡ o → low (s.owner_of o 47) ≡ o
  spelled_there o lowered = (λ i. low (spelled_among w.zone.records (sym lowered i))) ∙ low-spelled_among w.zone.records o ∙ lowered

  -- ---- messages without it

  pieces_unlinked : (gs : List ServedRrset) (pieces : List (List Written)) → AllByRecursion IsFormed gs → AllByRecursion (IsNoLink n) gs → AllZip Whole (map view_of gs) pieces → AllByRecursion (IsUnlinked n) (joined pieces)
  pieces_unlinked [] [] f none written = tt
  pieces_unlinked [] (x ∷ pieces) f none written = absurd written
  pieces_unlinked (g ∷ gs) [] f none written = absurd written
  pieces_unlinked (g ∷ gs) (x ∷ pieces) f none written =
      all_joined (IsUnlinked n) x (joined pieces)
      (unlinked_of n g x none.0 (piece_of w.sign w.answers.verifies w.zone.apex (second_of at) w.life zone.apex_is (keys_by_tag keys (signing_in w (reserved q.asked))) g x f.0 written.0))
      (pieces_unlinked gs pieces f.1 none.1 written.1)

  all_written : AllZip Whole (map view_of (answer_groups s n 65535)) (is.written.answers ++ is.written.authorities)
  all_written =
      subst (λ vs. AllZip Whole vs (is.written.answers ++ is.written.authorities)) (all_presented (is.answer ++ is.authority) (answer_groups s n 65535) is.groups_are)
      (zip_append Whole is.answer is.written.answers is.authority is.written.authorities is.written.answers_are is.written.authorities_are)

  unlinked : AllByRecursion (IsNoLink n) (answer_groups s n 65535) → shows_link q m records ≡ false
  unlinked none =
      let each : AllByRecursion (IsUnlinked n) (first ++ second) =
      subst (AllByRecursion (IsUnlinked n)) (flat_map-append (λ p. p) is.written.answers is.written.authorities)
      (pieces_unlinked (answer_groups s n 65535) (is.written.answers ++ is.written.authorities) formed none all_written) in
      ap (λ rs. eqb q.asked.rtype 47 && is_authoritative m && list_any (is_link_of n) rs) (second_part flags (reserved q.asked) first second m is_alone)
      ∙ ap (λ b. eqb q.asked.rtype 47 && is_authoritative m && b) (none_linked n (place_behind (first_place (reserved q.asked)) first) second (all_behind (IsUnlinked n) first second each))
      ∙ nothing (eqb q.asked.rtype 47 && is_authoritative m)

  referred : verdict s.zone false n 65535 ≡ Delegated → shows_link q m records ≡ false
  referred e =
      let told : flags ≡ 32768 = ap flags_for e in
      let aa : is_authoritative m ≡ false = ap (λ f. eqb (f / 1024 % 2) 1) (flags_told flags (reserved q.asked) first second m is_alone (omega (arith, told)) ∙ told) in
      ap (λ b. eqb q.asked.rtype 47 && b && list_any (is_link_of n) (authority_section m records)) aa
      ∙ ap (λ b. b && list_any (is_link_of n) (authority_section m records)) (nothing (eqb q.asked.rtype 47))

  linked : shows_link q m records ≡ true → IsLinked s n 65535
  linked e = go (linking s (zone_servable w zone) spelled_there n 65535 refl refl)
    where
      go : Linking s n 65535 → IsLinked s n 65535
      go (Linked l) = l
      go (Unlinked none) = absurd (true≢false (sym e ∙ unlinked none))
      go (Referred told) = absurd (true≢false (sym e ∙ referred told))

  -- ---- the records of a message with it

  module _ (l : IsLinked s n 65535) where
    views_are : is.answer ++ is.authority ≡ view_of (soa s) ∷ view_of l.link ∷ []
    views_are = all_presented (is.answer ++ is.authority) (answer_groups s n 65535) is.groups_are ∙ ap (map view_of) l.groups_are

    no_answer : is.answer ≡ []
    no_answer = is_empty is.answer (is.split ∙ ap answered l.told_is)

    authority_is : is.authority ≡ view_of (soa s) ∷ view_of l.link ∷ []
    authority_is = ap (λ vs. vs ++ is.authority) (sym no_answer) ∙ views_are

    no_first : first ≡ []
    no_first = ap joined (is_empty is.written.answers (sym (as_many Whole is.answer is.written.answers is.written.answers_are) ∙ ap length no_answer))

    two : TwoPieces Whole (view_of (soa s)) (view_of l.link) is.written.authorities
    two = two_pieces Whole (view_of (soa s)) (view_of l.link) is.written.authorities (subst (λ vs. AllZip Whole vs is.written.authorities) authority_is is.written.authorities_are)

    abbrev soa_records : List Written
    soa_records = two.one

    abbrev link_records : List Written
    link_records = two.other

    all_are : first ++ second ≡ soa_records ++ link_records
    all_are = λ i. no_first i ++ two.joined_is i

    both_formed : AllByRecursion IsFormed (soa s ∷ l.link ∷ [])
    both_formed = subst (AllByRecursion IsFormed) l.groups_are formed

    abbrev piece : (g : ServedRrset) (ws : List Written) → IsFormed g → Whole (view_of g) ws → AllByRecursion (IsOf g) ws
    piece = piece_of w.sign w.answers.verifies w.zone.apex (second_of at) w.life zone.apex_is (keys_by_tag keys (signing_in w (reserved q.asked)))

    abbrev place : ℕ
    place = first_place (reserved q.asked)

    abbrev later : ℕ
    later = place_behind place soa_records

    soa_stand : StandsAt m place (flat_map record_octets soa_records ++ (flat_map record_octets link_records ++ []))
    soa_stand =
        subst (StandsAt m place)
        (ap (λ ws. flat_map record_octets ws ++ []) all_are ∙ ap (λ x. x ++ []) (flat_map-append record_octets soa_records link_records) ∙ append_assoc (flat_map record_octets soa_records) (flat_map record_octets link_records) [])
        (records_stand flags (reserved q.asked) first second m is_alone)

    link_stand : StandsAt m later (flat_map record_octets link_records ++ [])
    link_stand = behind_stands m place soa_records (flat_map record_octets link_records ++ []) soa_stand

    abbrev soa_spelled : List Spelled
    soa_spelled = spelled_from place soa_records

    abbrev link_spelled : List Spelled
    link_spelled = spelled_from later link_records

    soa_there : AllByRecursion (IsRecordOf (soa s) m) soa_spelled
    soa_there = records_of (soa s) m place soa_records (flat_map record_octets link_records ++ []) is_alone.short (piece (soa s) soa_records both_formed.0 two.one_is) soa_stand

    link_there : AllByRecursion (IsRecordOf l.link m) link_spelled
    link_there = records_of l.link m later link_records [] is_alone.short (piece l.link link_records both_formed.1.0 two.other_is) link_stand

    records_are : records ≡ soa_spelled ++ link_spelled
    records_are = ap (spelled_from place) all_are ∙ spelled_more place soa_records link_records

    section_is : authority_section m records ≡ soa_spelled ++ link_spelled
    section_is =
        second_part flags (reserved q.asked) first second m is_alone
        ∙ (λ i. spelled_from (place_behind place (no_first i)) (two.joined_is i))
        ∙ ap (λ p. spelled_from p (soa_records ++ link_records)) (behind_none place)
        ∙ spelled_more place soa_records link_records

    -- ---- what is shown of them

    -- what the answer section has of a record of the authority section, and of all of them
    abbrev one_there : Spelled → List Written
    one_there r = shown (record { is_authority = false; dnssec_ok = is_dnssec_ok q; asked = q.asked.rtype; negative_ttl = None }) m r

    abbrev link_there_of : Spelled → List Written
    link_there_of r = if is_link_or_its_signature m n r then one_there r else []

    abbrev links_there : List Spelled → List Written
    links_there rs = flat_map link_there_of rs

    abbrev is_told : Spelled → ℕ → ℕ → Bool
    is_told r kind covered = eqb kind 47 || (eqb kind 46 && eqb covered 47)

    soa_untold : (r : Spelled) → IsRecordOf (soa s) m r → is_told r r.rtype (pair m r.start) ≡ false
    soa_untold r h = ⊎_elim
        (λ type. ap (λ u. is_told r u (pair m r.start)) type)
        (λ c. let covered : pair m r.start ≡ 6 = covered_there m r c.1 c.3 ∙ c.2 in λ i. is_told r (c.0 i) (covered i))
        h.covers

    link_told : (r : Spelled) → IsRecordOf l.link m r → is_told r r.rtype (pair m r.start) ≡ true
    link_told r h = ⊎_elim
        (λ type. ap (λ u. is_told r u (pair m r.start)) (type ∙ l.link_is))
        (λ c. let covered : pair m r.start ≡ 47 = covered_there m r c.1 c.3 ∙ c.2 ∙ l.link_is in λ i. is_told r (c.0 i) (covered i))
        h.covers

    soa_unshown : (rs : List Spelled) → AllByRecursion (IsRecordOf (soa s) m) rs → links_there rs ≡ []
    soa_unshown [] h = refl
    soa_unshown (r ∷ rs) h =
        let test : is_link_or_its_signature m n r ≡ false = ap (λ b. same r.owner n && b) (soa_untold r h.0) ∙ nothing (same r.owner n) in
        (λ i. (if test i then one_there r else []) ++ soa_unshown rs h.1 i)

    module _ (wanted : is_dnssec_ok q ≡ true) where
      links_are : (rs : List Spelled) → AllByRecursion (IsRecordOf l.link m) rs → links_there rs ≡ map (shown_with None m) rs
      links_are [] h = refl
      links_are (r ∷ rs) h =
          let own : same r.owner n ≡ true = ap (λ o. labels_eq o (low n)) h.0.owner_is ∙ l.owner_is in
          let test : is_link_or_its_signature m n r ≡ true = λ i. own i && link_told r h.0 i in
          let all : one_there r ≡ shown_with None m r ∷ [] = ap (λ b. cond (not b && (is_added r.rtype && not (eqb r.rtype q.asked.rtype))) [] (shown_with None m r ∷ [])) wanted in
          (λ i. (if test i then one_there r else []) ++ links_are rs h.1 i)
          ∙ ap (λ ws. ws ++ map (shown_with None m) rs) all

      module _ (shows : shows_link q m records ≡ true) (size : ℕ) (small : size < 65536) where
        abbrev fs : List Written
        fs = map (shown_with None m) link_spelled

        answers_are : answers_shown q m records ≡ fs
        answers_are =
            ap (λ b. if b then links_there (authority_section m records) else flat_map one_there (answer_section m records)) shows
            ∙ ap links_there section_is
            ∙ flat_map-append link_there_of soa_spelled link_spelled
            ∙ (λ i. soa_unshown soa_spelled soa_there i ++ links_are link_spelled link_there i)

        authority_are : authority_shown q m records ≡ []
        authority_are = ap (λ b. if b then [] else all_shown (record { is_authority = true; dnssec_ok = is_dnssec_ok q; asked = q.asked.rtype; negative_ttl = negative_ttl m (authority_section m records) }) m (authority_section m records)) shows

        abbrev Data : Spelled → Written → Type 0
        Data r v = data_of m r ≡ v.octets

        link_datas : AllZip Data link_spelled link_records
        link_datas =
            (zip_front Data soa_spelled link_spelled soa_records link_records (length_spelled place soa_records)
            (subst (λ rs. AllZip Data rs (soa_records ++ link_records)) (spelled_more place soa_records link_records)
            (subst (λ ws. AllZip Data (spelled_from place ws) ws) all_are (datas flags (reserved q.asked) first second m is_alone)))).1

        same_written : AllZip SameButTtl link_records fs
        same_written = same_shown None m later link_records link_datas

        behind_soa : (P : Written → Type 0) → AllByRecursion P (first ++ second) → AllByRecursion P link_records
        behind_soa P h = all_behind P soa_records link_records (subst (AllByRecursion P) all_are h)

        hold : AllByRecursion Holds fs
        hold = same_hold link_records fs same_written (behind_soa IsRecord (all_joined IsRecord first second is_alone.sections.answers_are is_alone.sections.authority_are))

        counted_is : length fs + 0 + 0 ≡ length fs
        counted_is = omega arith

        abbrev reply : List ℕ
        reply = replied size q small question (pair m 2) (length fs) 0 0 fs counted_is hold

        whole_is : whole_response size q m records [] ≡ reply
        whole_is =
            (λ i. reply_octets size q (response_flags q.header (pair m 2) false) (counted (length (answers_are i)) (length (authority_are i)) 0) (flat_map record_octets (answers_are i) ++ flat_map record_octets (authority_are i) ++ []))
            ∙ ap (reply_octets size q (response_flags q.header (pair m 2) false) (counted (length fs) 0 0)) (append-nil (flat_map record_octets fs ++ []) ∙ append-nil (flat_map record_octets fs))

        abbrev there : ℕ
        there = first_place q.asked

        reply_stands : StandsAt reply there (flat_map record_octets fs ++ (flat_map record_octets (opts size q.edns) ++ []))
        reply_stands =
            subst (StandsAt reply there)
            (ap (λ x. x ++ []) (flat_map-append record_octets fs (opts size q.edns)) ∙ append_assoc (flat_map record_octets fs) (flat_map record_octets (opts size q.edns)) [])
            (replied_stands size q small question (pair m 2) (length fs) 0 0 fs counted_is hold)

        abbrev all_spelled : List Spelled
        all_spelled = spelled_from there (fs ++ opts size q.edns)

        -- the NSEC record and its signatures, in the message and in the response
        links_alike : length reply ≤ 65535 → (t : ℕ) → eqb 41 t ≡ false → AllZip (IsLike pointer_limit reply m) (filter (is_used t) all_spelled) (filter (is_used t) link_spelled)
        links_alike few t other =
            all_turned pointer_limit m reply (filter (is_used t) link_spelled) (filter (is_used t) all_spelled)
            (subst (λ rs. AllZip (IsLike pointer_limit m reply) (filter (is_used t) link_spelled) (filter (is_used t) rs)) (sym (spelled_more there fs (opts size q.edns)))
            (both_used t (place_behind there fs) (opts size q.edns) pointer_limit m reply link_spelled (spelled_from there fs) (unused_opts t size q.edns other)
            (records_alike m reply later there link_records fs [] (flat_map record_octets (opts size q.edns) ++ []) is_alone.short few (behind_soa StandsAlone is_alone.answers_alone) same_written link_stand reply_stands)))

        -- ---- what a judge says

        module _ (few : length reply ≤ 65535) (a : Answers) (h : JudgeInput) (any : h.other_question ≡ true) (apart : asks_soa w.zone.apex h.asked ≡ false) where
          abbrev Same : Type 0
          Same = judged a pointer_limit (record h { answer_bytes = reply }) ≡ judged a pointer_limit (record h { answer_bytes = m })

          soa_named : low (soa s).owner ≡ low w.zone.apex
          soa_named = low-owner_among w.zone.records w.zone.apex 6

          -- an SOA record is not looked at
          not_soa : (o : Name) (u : ℕ) → LooksAt h.asked.name h.asked.rtype o u → (r : Spelled) → IsRecordOf (soa s) m r → (eqb 6 u && same r.owner o) ≡ false
          not_soa o u looks r there = false_from_ne_true (eqb 6 u && same r.owner o) (λ e.
              let both = and_parts (eqb 6 u) (same r.owner o) e in
              let six : 6 ≡ u = eqb-true 6 u both.0 in
              ⊎_elim
              (λ nsec. absurd (omega (arith, six, nsec)))
              (λ more. ⊎_elim
              (λ nsec3. absurd (omega (arith, six, nsec3)))
              (λ asked.
              let type : eqb h.asked.rtype 6 ≡ true = eq-eqb h.asked.rtype 6 (asked.0 ∙ sym six) in
              let name : low h.asked.name ≡ low w.zone.apex = sym asked.1 ∙ sym (same_labels (low r.owner) (low o) both.1) ∙ there.owner_is ∙ soa_named in
              true≢false (sym (and_from (eqb h.asked.rtype 6) (same h.asked.name w.zone.apex) type (labels_eq-same (low h.asked.name) (low w.zone.apex) name)) ∙ apart))
              more)
              looks)

          not_signature : eqb 46 h.asked.rtype ≡ false → (o : Name) (u : ℕ) → LooksAt h.asked.name h.asked.rtype o u → eqb 46 u ≡ false
          not_signature other o u looks = ⊎_elim
              (λ nsec. ap (eqb 46) nsec)
              (λ more. ⊎_elim (λ nsec3. ap (eqb 46) nsec3) (λ asked. ap (eqb 46) (sym asked.0) ∙ other) more)
              looks

          idle_of : eqb 46 h.asked.rtype ≡ false → (r : Spelled) → IsRecordOf (soa s) m r → IsIdle pointer_limit m h.asked.name h.asked.rtype r
          idle_of other r there = record {
            unlike = λ o u looks. ⊎_elim
                (λ type. ap (λ k. eqb k u && same r.owner o) type ∙ not_soa o u looks r there)
                (λ c. ap (λ k. eqb k u && same r.owner o) c.0 ∙ ap (λ b. b && same r.owner o) (not_signature other o u looks))
                there.covers;
            signs = λ o u looks is46. ⊎_elim
                (λ type. absurd (omega (arith, type, is46)))
                (λ c. record { said = c.1; reads = c.3; other = ap (λ k. eqb k u && same r.owner o) c.2 ∙ not_soa o u looks r there })
                there.covers;
          }

          all_idle : eqb 46 h.asked.rtype ≡ false → AllByRecursion (IsIdle pointer_limit m h.asked.name h.asked.rtype) soa_spelled
          all_idle other = all_more (IsRecordOf (soa s) m) (IsIdle pointer_limit m h.asked.name h.asked.rtype) soa_spelled (idle_of other) soa_there

          looked : eqb 46 h.asked.rtype ≡ false → eqb 41 h.asked.rtype ≡ false → Same
          looked signature opt =
              let alike = links_alike few h.asked.rtype opt in
              let idle = all_idle signature in
              answers_judged a pointer_limit h any reply m (message_of q.asked (fs ++ opts size q.edns)) (message_of (reserved q.asked) (first ++ second))
              (replied_reads size q small question (pair m 2) (length fs) 0 0 fs counted_is hold few) (alone_read flags (reserved q.asked) first second m is_alone)
              (λ t. facts_alike pointer_limit reply m h.asked.rtype all_spelled link_spelled alike t h.asked.name
              ∙ sym (ap low_facts (ap (λ rs. verified_facts t pointer_limit m rs h.asked.name h.asked.rtype) records_are ∙ facts_same t pointer_limit m h.asked.name h.asked.rtype soa_spelled link_spelled idle)))
              (λ t. all_times pointer_limit reply m h.asked.rtype all_spelled link_spelled alike t h.asked.name
              ∙ sym (ap (λ rs. proof_times t pointer_limit m rs h.asked.name h.asked.rtype) records_are ∙ proof_times_same t pointer_limit m h.asked.name h.asked.rtype soa_spelled link_spelled idle))

          never_judged : is_judged h ≡ false → Same
          never_judged e = unjudged a (record h { answer_bytes = reply }) e ∙ sym (unjudged a (record h { answer_bytes = m }) e)

          by_type : (b c : Bool) → eqb 46 h.asked.rtype ≡ b → eqb 41 h.asked.rtype ≡ c → Same
          by_type true c e f = never_judged (type_unjudged 46 h refl refl (sym (eqb-true 46 h.asked.rtype e)))
          by_type false true e f = never_judged (type_unjudged 41 h refl refl (sym (eqb-true 41 h.asked.rtype f)))
          by_type false false e f = looked e f

          reply_judged : Same
          reply_judged = by_type (eqb 46 h.asked.rtype) (eqb 41 h.asked.rtype) refl refl

        -- the response that the message was made of
        linked_judged : (limit : ℕ) (addresses : List HandedRr) (octets : List ℕ) → limit ≤ 65535 → is_truncated octets ≡ false → AnswersGlued limit size q addresses m octets
            → (a : Answers) (h : JudgeInput) → h.other_question ≡ true → asks_soa w.zone.apex h.asked ≡ false → judged a pointer_limit (record h { answer_bytes = octets }) ≡ judged a pointer_limit (record h { answer_bytes = m })
        linked_judged limit addresses octets fits clear glued a h any apart =
            let read = glued.answers.0 in
            let none : glue addresses m ≡ [] = no_glue flags (reserved q.asked) first second m addresses is_alone 33792 (ap flags_for l.told_is) (lit< tt) refl in
            let message_is : read ≡ message_of (reserved q.asked) (first ++ second) = ok_is read _ (message pointer_limit m) glued.answers.1 (alone_read flags (reserved q.asked) first second m is_alone) in
            let same_response : octets ≡ limited size q m limit reply = glued.answers.2 ∙ (λ i. response_of limit size q m (message_is i).records (map written_as_handed (none i))) ∙ ap (limited size q m limit) whole_is in
            let found = whole_where_clear size q m limit reply (ap is_truncated (sym same_response) ∙ clear) in
            subst (λ (o : List ℕ). judged a pointer_limit (record h { answer_bytes = o }) ≡ judged a pointer_limit (record h { answer_bytes = m })) (sym (same_response ∙ found.0))
            (reply_judged (omega (arith, found.1, fits)) a h any apart)

  -- of a response that shows the NSEC record
  pub link_judged : is_link_shown q m ≡ true → is_dnssec_ok q ≡ true → (limit size : ℕ) (addresses : List HandedRr) (octets : List ℕ) → size < 65536 → limit ≤ 65535 → is_truncated octets ≡ false → AnswersGlued limit size q addresses m octets
      → (a : Answers) (h : JudgeInput) → h.other_question ≡ true → asks_soa w.zone.apex h.asked ≡ false → judged a pointer_limit (record h { answer_bytes = octets }) ≡ judged a pointer_limit (record h { answer_bytes = m })
  link_judged shown_there wanted limit size addresses octets small fits clear glued =
      let shows : shows_link q m records ≡ true = sym (ap (has_link_in q m) (alone_read flags (reserved q.asked) first second m is_alone)) ∙ shown_there in
      linked_judged (linked shows) wanted shows size small limit addresses octets fits clear glued
