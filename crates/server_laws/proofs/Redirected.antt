-- The message for a DNAME above a name has that DNAME, and a judge says of the response of it what it says of the message.
use Rattle.std.proofs.Common.{◌≡◌, ◌⊎◌, ℕ, ◌+◌, ◌≤◌, ◌<◌, Bool, true, false, not, ◌&&◌, ◌||◌, List, [], ◌∷◌, ◌++◌, length, map, Option, Some, None, cond, eqb, inl, inr, refl, sym, subst, ap, ◌∙◌, length-append, arith, lit<}
use Rattle.std.specs.Prelude.{if◌then◌else◌, unwrap_or}
use Rattle.std.specs.List.{AllByRecursion, AllZip, find, flat_map, list_any}
use Rattle.std.specs.Option.{is_some, option_map}
use Rattle.std.proofs.lemmas.Bool.{and_parts, eqb-true}
use Rattle.std.proofs.lemmas.List.{append-nil}
use Rattle.definitions.specs.Dnskey.{Dnskey}
use Rattle.definitions.specs.Name.{IsName, Name, labels_eq, low, strictly_above}
use Rattle.definitions.specs.Zone.{Records, Zone, data_at, is_delegation, verdict}
use Rattle.definitions.specs.ZoneChain.{Mode, optout_of}
use Rattle.definitions.proofs.Members.{In, contained}
use Rattle.denial_laws.specs.Aliases.{is_alias_type}
use Rattle.denial_laws.specs.Leading.{Lead, To, TooLong, exchanged}
use Rattle.denial_laws.specs.Truth.{is_signed}
use Rattle.denial_laws.proofs.NameFacts.{strictly_shorter}
use Rattle.denial_laws.proofs.Verdicts.{verdict_signed}
use Rattle.messages.specs.HandedRr.{HandedRr, among}
use Rattle.messages.specs.Message.{Asked, Spelled, data_of, pair}
use Rattle.messages.specs.NameOctets.{name_of_octets}
use Rattle.messages.specs.Written.{Written, record_octets}
use Rattle.messages.specs.WrittenLaws.{IsQuestion, IsRecord, first_place, spelled_at, spelled_from}
use Rattle.messages.proofs.Lists.{list_any-map}
use Rattle.messages.proofs.MessageWritten.{end_of}
use Rattle.messages.proofs.NameLaws.{wire_len-cons}
use Rattle.answer_publisher_keys.specs.Bindings.{ZoneKeys, keys_by_tag}
use Rattle.answer_scheme.specs.Moments.{second_of}
use Rattle.answer_terms.specs.Accepting.{rr_of, sorted_records}
use Rattle.answer_terms.specs.GroupView.{GroupView, view_of}
use Rattle.answer_terms.specs.Served.{ServedRrset, ahead, answer_groups, chain_names, chain_record, written_under, proofs_of, rrset, spoken, under, written_of_handed}
use Rattle.answer_zone.specs.Finding.{finds, redirecting, zone_redirects}
use Rattle.answer_zone.specs.ZoneAnswers.{answered, flags_for}
use Rattle.answer_zone_records.specs.AliasFaults.{HasTarget}
use Rattle.answer_zone_records.proofs.Targets.{spelled}
use Rattle.answer_zone_records.proofs.ZoneInOrder.{records_in_order}
use Rattle.alias_laws.proofs.Aliases.{targets}
use Rattle.alias_laws.proofs.Leading.{Redirects, redirector}
use Rattle.server_answers.specs.Aliases.{alias_in_place, alias_of, asks_all, asks_beside, for_type, may_lead}
use Rattle.server_answers.specs.Composed.{IsWritten, joined, rrsig_of}
use Rattle.server_answers.specs.Outcomes.{signed_by}
use Rattle.server_answers.specs.Blank.{sign_blank, verify_blank}
use Rattle.server_answers.specs.Responding.{IsMessage, Serving}
use Rattle.server_answers.specs.Subset.{wants_signatures}
use Rattle.server_answers.specs.Table.{sign_by, verify_by}
use Rattle.server_answers.specs.World.{AnswersQuestion, World, served_in, signing_in}
use Rattle.server_answers.proofs.Signing.{own_entries}
use Rattle.server_answers.proofs.WritesAnswer.{all_presented}
use Rattle.server_answers.proofs.WritesGroups.{Holds}
use Rattle.server_queries.specs.Queries.{Queried}
use Rattle.server_responses.specs.Links.{is_authoritative, is_link_of, shows_link}
use Rattle.server_responses.specs.Redirects.{Redirected, is_dname_above, made_cname, redirect_flags, redirect_in, redirect_of, redirect_response, redirected, redirected_by_first, redirected_in, whole_redirect}
use Rattle.server_responses.specs.Responses.{counted, error_response, is_dnssec_ok, reply_octets, response_flags}
use Rattle.server_laws.specs.Heard.{HoldsAll, ShowsAlike, is_truncated}
use Rattle.server_answers.specs.Zones.{IsZone}
use Rattle.server_laws.specs.Redirected.{IsRedirected, RedirectsAreMade, RedirectsJudgedAlike}
use Rattle.server_laws.proofs.Alone.{IsOther, SignsOther}
use Rattle.server_laws.proofs.Beside.{AreSpare, shown_judged, whole_shows}
use Rattle.server_laws.proofs.Heard.{answer_alone, answer_other, zone_servable, zone_signed}
use Rattle.server_laws.proofs.Replied.{IsUnused, limited, whole_where_clear}
use Rattle.server_laws.proofs.Shown.{IsAlone, datas, first_part, firsts, message_read, second_part, seconds, seconds_as_many, spelled_all, whole}
use Rattle.server_laws.proofs.ZoneGroups.{are_handed}
use Rattle.server_laws.proofs.Lists.{FirstKept, as_many, first_kept, is_empty, mapped_some, none_kept, nothing}

-- ---- a DNAME above the name answers

-- the question for the DNAME RRset of a name
abbrev asking : Name → Asked → Asked
asking d a = record { name = d; rtype = 39; class = a.class }

record IsBelow (z : Zone) (a alias : Asked) : Type 0 where
  owner : Name
  found : redirecting z a.name ≡ Some owner
  alias_is : alias ≡ asking owner a

module _ (mode : Mode) (z : Zone) (a alias : Asked) (above : strictly_above alias.name a.name ≡ true) where
  -- no name stands above itself
  no_own : {P : Type 0} (b : Asked) → b.name ≡ a.name → Some b ≡ Some alias → P
  no_own b same e =
      let is : b ≡ alias = cc in
      let short : length alias.name < length a.name = strictly_shorter alias.name a.name above in
      absurd (omega (arith, short, ap length (sym same ∙ ap (λ (x : Asked). x.name) is)))

  none_told : {P : Type 0} → None ≡ Some alias → P
  none_told e = absurd cc

  in_place : (f c : Bool) → (if f then Some (for_type 39 a) else (if c then Some (for_type 5 a) else option_map (λ d. asking d a) (redirecting z a.name))) ≡ Some alias → IsBelow z a alias
  in_place true c e = no_own (for_type 39 a) refl e
  in_place false true e = no_own (for_type 5 a) refl e
  in_place false false e =
      let found = mapped_some (λ d. asking d a) (redirecting z a.name) alias e in
      record { owner = found.0; found = found.1; alias_is = sym found.2 }

  by_found : (f k : Bool) → (if f then (if k then Some a else None) else alias_in_place mode z a) ≡ Some alias → IsBelow z a alias
  by_found true true e = no_own a refl e
  by_found true false e = none_told e
  by_found false k e = in_place (asks_all a && finds z a.name 39) (not (asks_beside mode z a) && finds z a.name 5) e

  below : alias_of mode z a ≡ Some alias → IsBelow z a alias
  below e = go (may_lead z.name a) e
    where
      go : (l : Bool) → (if not l then None else (if finds z a.name a.rtype then (if is_alias_type a.rtype then Some a else None) else alias_in_place mode z a)) ≡ Some alias → IsBelow z a alias
      go true e = by_found (finds z a.name a.rtype) (is_alias_type a.rtype) e
      go false e = none_told e

tail_name : (l : List ℕ) (n : Name) → IsName (l ∷ n) → IsName n
tail_name l n h = record { labels = h.labels.1; short = omega (arith, h.short, wire_len-cons l n) }

redirecting_name : (z : Zone) (n d : Name) → IsName n → redirecting z n ≡ Some d → IsName d
redirecting_name z [] d h e = absurd (let none : None ≡ Some d = e in cc)
redirecting_name z (l ∷ n) d h e = go (zone_redirects z (low n)) e (λ later. redirecting_name z n d (tail_name l n h) later)
  where
    go : (b : Bool) → cond b (Some n) (redirecting z n) ≡ Some d → (redirecting z n ≡ Some d → IsName d) → IsName d
    go true e more = subst IsName (let same : Some n ≡ Some d = e in cc) (tail_name l n h)
    go false e more = more e

-- ---- what the zone answers for it

-- the DNAME record that is written first
record IsDname (d : Name) (ws : List Written) : Type 0 where
  first : Written
  rest : List Written
  all_are : ws ≡ first ∷ rest
  type_is : first.rtype ≡ 39
  owner_is : first.owner ≡ d
  target : Name
  data_are : name_of_octets first.octets ≡ Some target

module _ (w : World) (zone : IsZone w) (n d : Name) (name : IsName n) (found : redirecting (served_in w).zone n ≡ Some d) where
  abbrev z : Zone
  z = (served_in w).zone

  is_signed_there : is_signed z (low d) 39 ≡ true
  is_signed_there =
      let r : Redirects z d = redirector z n d found in
      let plain : is_delegation z (low d) ≡ false = (zone_servable w zone).aliases.uncut (low d) r.dname in
      λ i. r.live i && (not (plain i) || eqb 39 43) && r.dname i

  told_is : (optout : Bool) → verdict z optout d 39 ≡ Records (data_at z (low d) 39)
  told_is optout = verdict_signed z optout d 39 is_signed_there

  abbrev dnames : ServedRrset
  dnames = under d (rrset (served_in w) (low d) 39)

  groups_are : answer_groups (served_in w) d 39 ≡ dnames ∷ []
  groups_are =
      (λ i. ahead (served_in w) d 39 (told_is (optout_of w.zone.mode) i) ++ proofs_of (served_in w) (spoken (served_in w) (low d) (told_is false i) (told_is (optout_of w.zone.mode) i)))
      ∙ ap (λ ns. dnames ∷ map (chain_record (served_in w)) ns) (none_kept (chain_names (served_in w)))

  -- ---- its records

  abbrev is_there : HandedRr → Bool
  is_there r = labels_eq (low r.owner) (low d) && eqb r.rtype 39

  has_dname : list_any is_there w.zone.records ≡ true
  has_dname = sym (list_any-map (λ r. labels_eq (low r.spelled) (low d) && eqb r.rtype 39) rr_of w.zone.records) ∙ (redirector z n d found).dname

  abbrev kept : FirstKept is_there w.zone.records
  kept = first_kept is_there w.zone.records has_dname

  abbrev written_first : Written
  written_first = written_under d (written_of_handed kept.item)

  type_there : kept.item.rtype ≡ 39
  type_there = eqb-true kept.item.rtype 39 (and_parts (labels_eq (low kept.item.owner) (low d)) (eqb kept.item.rtype 39) kept.passes).1

  target_there : HasTarget kept.item
  target_there =
      let sorted = sorted_records zone.records in
      let ordered = records_in_order w.answers.hash w.zone.apex w.zone.mode zone.records zone.accepted.faultless.plain zone.accepted.faultless.aliases zone.accepted.chained in
      let handed = are_handed w.answers.hash w.zone.apex w.zone.limit zone.records w.zone.mode zone.apex_is zone.records_are zone.accepted in
      let inside : In kept.item sorted = subst (In kept.item) zone.sorted kept.inside in
      targets w.zone.apex sorted kept.item ordered handed (contained sorted kept.item inside) (ap (among (5 ∷ 39 ∷ [])) type_there)

  dname_first : (ws : List Written) → IsDname d (dnames.written ++ ws)
  dname_first ws = record {
    first = written_first;
    rest = map (written_under d) (map written_of_handed kept.rest) ++ ws;
    all_are = ap (λ rs. map (written_under d) (map written_of_handed rs) ++ ws) kept.kept_is;
    type_is = type_there;
    owner_is = refl;
    target = target_there.name;
    data_are = spelled kept.item.written target_there.name (record { octets = sym target_there.written_is; name = target_there.is });
  }

-- ---- the message for it

first_piece : (sign : Dnskey → List ℕ → Option (List ℕ)) (verifies : Dnskey → List ℕ → List ℕ → Bool) (apex : Name) (at life : ℕ) (keys : List Dnskey) (v : GroupView) (ps : List (List Written))
    → AllZip (IsWritten sign verifies apex at life keys) (v ∷ []) ps → (ws : List Written) × (joined ps ≡ v.written ++ ws)
first_piece sign verifies apex at life keys v [] h = absurd h
first_piece sign verifies apex at life keys v (p ∷ []) h = (map (rrsig_of v) h.0.0, append-nil p ∙ h.0.1.1)
first_piece sign verifies apex at life keys v (p ∷ r ∷ ps) h = absurd h.1

only_first : {A : Type 0} (xs ys : List A) (x : A) → xs ++ ys ≡ x ∷ [] → length xs ≡ 1 → (xs ≡ x ∷ []) × (ys ≡ [])
only_first [] ys x e l = absurd (omega (arith, l))
only_first (y ∷ []) [] x e l = (e, refl)
only_first (y ∷ []) (v ∷ ys) x e l = absurd (omega (arith, ap length e))
only_first (y ∷ u ∷ xs) ys x e l = absurd (omega (arith, l))

module _ (w : World) (zone : IsZone w) (keys : ZoneKeys) (at : ℕ) (q : Queried) (d : Name) (question : IsQuestion q.asked) (found : redirecting (served_in w).zone q.asked.name ≡ Some d) (above : strictly_above d q.asked.name ≡ true) (m : List ℕ) (is : AnswersQuestion w keys at (asking d q.asked) m) where
  asking_fits : IsQuestion (asking d q.asked)
  asking_fits = record { name = redirecting_name (served_in w).zone q.asked.name d question.name found; rtype = lit< tt; class = question.class }

  abbrev flags : ℕ
  flags = flags_for (verdict (served_in w).zone false d 39)

  abbrev first : List Written
  first = joined is.written.answers

  abbrev second : List Written
  second = joined is.written.authorities

  abbrev Whole : GroupView → List Written → Type 0
  Whole = IsWritten w.sign w.answers.verifies w.zone.apex (second_of at) w.life (keys_by_tag keys (signing_in w (asking d q.asked)))

  is_alone : IsAlone flags (asking d q.asked) first second m
  is_alone = answer_alone w zone keys at (asking d q.asked) asking_fits refl m is

  abbrev group : ServedRrset
  group = dnames w zone q.asked.name d question.name found

  one_group : answer_groups (served_in w) d 39 ≡ group ∷ []
  one_group = groups_are w zone q.asked.name d question.name found

  views_are : (is.answer ≡ view_of group ∷ []) × (is.authority ≡ [])
  views_are =
      only_first is.answer is.authority (view_of group)
      (all_presented (is.answer ++ is.authority) (answer_groups (served_in w) d 39) is.groups_are ∙ ap (map view_of) one_group)
      (is.split ∙ ap answered (told_is w zone q.asked.name d question.name found false))

  no_second : second ≡ []
  no_second =
      let many = as_many Whole is.authority is.written.authorities is.written.authorities_are in
      ap joined (is_empty is.written.authorities (sym many ∙ ap length views_are.1))

  dname : IsDname d first
  dname =
      let piece = first_piece w.sign w.answers.verifies w.zone.apex (second_of at) w.life (keys_by_tag keys (signing_in w (asking d q.asked))) (view_of group) is.written.answers (subst (λ (vs : List GroupView). AllZip Whole vs is.written.answers) views_are.0 is.written.answers_are) in
      subst (IsDname d) (sym piece.1) (dname_first w zone q.asked.name d question.name found piece.0)

  -- its signatures cover no CNAME
  others : AllByRecursion (SignsOther 5) (first ++ second)
  others = answer_other w zone keys at (asking d q.asked) asking_fits refl m is 5 (subst (AllByRecursion (IsOther 5)) (sym one_group) (refl, tt))

  abbrev place : ℕ
  place = first_place (asking d q.asked)

  abbrev records : List Spelled
  records = spelled_all flags (asking d q.asked) first second m is_alone

  -- ---- where it leads

  abbrev dname_there : Spelled
  dname_there = spelled_at place dname.first

  abbrev leads : Redirected
  leads = redirected dname_there (exchanged q.asked.name dname.first.owner dname.target)

  found_first : find (is_dname_above q.asked.name) (spelled_from place first) ≡ Some dname_there
  found_first =
      let is_it : is_dname_above q.asked.name dname_there ≡ true = (λ i. eqb (dname.type_is i) 39 && strictly_above (dname.owner_is i) q.asked.name) ∙ above in
      ap (λ xs. find (is_dname_above q.asked.name) (spelled_from place xs)) dname.all_are
      ∙ ap (λ b. cond b (Some dname_there) (find (is_dname_above q.asked.name) (spelled_from (end_of place dname.first) dname.rest))) is_it

  octets_there : data_of m dname_there ≡ dname.first.octets
  octets_there =
      (subst (λ (ws : List Written). AllZip (λ r v. data_of m r ≡ v.octets) (spelled_from place ws) ws) (ap (λ ws. ws ++ second) dname.all_are)
      (datas flags (asking d q.asked) first second m is_alone)).0

  led : redirected_in m q.asked.name records ≡ Some leads
  led =
      ap (λ rs. redirected_by_first m q.asked.name (find (is_dname_above q.asked.name) rs)) (first_part flags (asking d q.asked) first second m is_alone)
      ∙ ap (redirected_by_first m q.asked.name) found_first
      ∙ ap (option_map (λ t. redirected dname_there (exchanged q.asked.name dname.first.owner t))) (ap name_of_octets octets_there ∙ dname.data_are)

  response_is : (limit size : ℕ) → redirect_response limit size q m ≡ Some (redirect_of limit size q m records leads)
  response_is limit size =
      ap (redirect_in limit size q m) (message_read flags (asking d q.asked) first second m is_alone)
      ∙ ap (option_map (redirect_of limit size q m records)) led

  -- ---- the response of it

  -- the authority section is empty
  silent : shows_link q m records ≡ false
  silent =
      ap (λ rs. eqb q.asked.rtype 47 && is_authoritative m && list_any (is_link_of q.asked.name) rs) (second_part flags (asking d q.asked) first second m is_alone ∙ ap (spelled_from _) no_second)
      ∙ nothing (eqb q.asked.rtype 47 && is_authoritative m)

  -- the record that is made, if one is
  abbrev made : List Written
  made = made_cname q.asked.name dname_there leads.lead

  made_hold : (lead : Lead) → AllByRecursion Holds (made_cname q.asked.name dname_there lead)
  made_hold (To t) =
      let r : IsRecord dname.first = (subst (AllByRecursion IsRecord) dname.all_are is_alone.sections.answers_are).0 in
      (record { owner = question.name; rtype = lit< tt; class = r.class; ttl = r.ttl }, tt)
  made_hold TooLong = tt

  made_unused : (t : ℕ) → eqb 5 t ≡ false → (lead : Lead) → AllByRecursion (IsUnused t) (made_cname q.asked.name dname_there lead)
  made_unused t other (To n) = (other, tt)
  made_unused t other TooLong = tt

  spare : AreSpare made (first ++ second)
  spare t = go (eqb 5 t) refl
    where
      go : (b : Bool) → eqb 5 t ≡ b → AllByRecursion (IsUnused t) made ⊎ AllByRecursion (SignsOther t) (first ++ second)
      go false e = inl (made_unused t e leads.lead)
      go true e = inr (subst (λ u. AllByRecursion (SignsOther u) (first ++ second)) (eqb-true 5 t e) others)

  module _ (limit size : ℕ) (small : size < 65536) (fits : limit ≤ 65535) (wanted : is_dnssec_ok q ≡ true) where
    abbrev fs : List Written
    fs = firsts flags (asking d q.asked) first second m is_alone size q small question wanted made (made_hold leads.lead) silent

    abbrev ss : List Written
    ss = seconds flags (asking d q.asked) first second m is_alone size q small question wanted made (made_hold leads.lead) silent

    none_behind : ss ≡ []
    none_behind = is_empty ss (seconds_as_many flags (asking d q.asked) first second m is_alone size q small question wanted made (made_hold leads.lead) silent ∙ ap length no_second)

    abbrev bits : ℕ
    bits = redirect_flags (pair m 2) leads.lead

    counted_is : length (fs ++ made) + length ss + 0 ≡ length (fs ++ ss ++ made)
    counted_is = omega (arith, length-append fs made, length-append (fs ++ ss) made, length-append fs ss)

    abbrev the_whole : List ℕ
    the_whole = whole flags (asking d q.asked) first second m is_alone size q small question wanted made (made_hold leads.lead) silent bits (length (fs ++ made)) (length ss) 0 counted_is

    octets_are : flat_map record_octets (fs ++ made) ++ flat_map record_octets ss ≡ flat_map record_octets (fs ++ ss ++ made)
    octets_are =
        (λ i. flat_map record_octets (fs ++ made) ++ flat_map record_octets (none_behind i))
        ∙ append-nil (flat_map record_octets (fs ++ made))
        ∙ ap (λ ws. flat_map record_octets (ws ++ made)) (sym (append-nil fs))
        ∙ (λ i. flat_map record_octets (fs ++ sym none_behind i ++ made))

    whole_is : whole_redirect size q m records leads ≡ the_whole
    whole_is = ap (reply_octets size q (response_flags q.header bits false) (counted (length (fs ++ made)) (length ss) 0)) octets_are

    redirect_shows : (octets : List ℕ) → is_truncated octets ≡ false → octets ≡ redirect_of limit size q m records leads → ShowsAlike octets m
    redirect_shows octets clear are =
        let same : octets ≡ limited size q m limit the_whole = are ∙ ap (limited size q m limit) whole_is in
        let found = whole_where_clear size q m limit the_whole (ap is_truncated (sym same) ∙ clear) in
        subst (λ (o : List ℕ). ShowsAlike o m) (sym (same ∙ found.0))
        (whole_shows flags (asking d q.asked) first second m size q is_alone small question wanted made (made_hold leads.lead) (made_unused 46 refl leads.lead) spare silent bits (length (fs ++ made)) (length ss) 0 counted_is (made_unused 39 refl leads.lead) (omega (arith, found.1, fits)))

-- ---- by a server

module _ (s : Serving) (q : Queried) (alias : Asked) (m : List ℕ) (zone : IsZone s.world) (question : IsQuestion q.asked) (r : IsRedirected s q alias m) where
  abbrev the_zone : Zone
  the_zone = (served_in s.world).zone

  led_there : IsBelow the_zone q.asked alias
  led_there = below s.world.zone.mode the_zone q.asked alias r.above r.answers

  above_it : strictly_above led_there.owner q.asked.name ≡ true
  above_it = ap (λ (x : Asked). strictly_above x.name q.asked.name) (sym led_there.alias_is) ∙ r.above

  for_it : IsMessage s (asking led_there.owner q.asked) false (wants_signatures q) m
  for_it = subst (λ (x : Asked). IsMessage s x false (wants_signatures q) m) led_there.alias_is r.is_message

  -- under each scheme
  is_made : (sign : Dnskey → List ℕ → Option (List ℕ)) (verifies : Dnskey → List ℕ → List ℕ → Bool) → AnswersQuestion (signed_by s.world sign verifies) s.keys s.at (asking led_there.owner q.asked) m → is_some (redirect_response s.limit s.size q m) ≡ true
  is_made sign verifies is =
      ap is_some (response_is (signed_by s.world sign verifies) (zone_signed s.world sign verifies zone) s.keys s.at q led_there.owner question led_there.found above_it m is s.limit s.size)

  by_wish : (b : Bool) → IsMessage s (asking led_there.owner q.asked) false b m → is_some (redirect_response s.limit s.size q m) ≡ true
  by_wish true h = is_made (sign_by s.table) (verify_by s.table) (h.0 (sign_by s.table) (verify_by s.table) (own_entries s.table)).0
  by_wish false h = is_made sign_blank verify_blank h.0

pub redirects_made : RedirectsAreMade
redirects_made s q alias m zone question r = by_wish s q alias m zone question r (wants_signatures q) (for_it s q alias m zone question r)

-- the response of the message for a DNAME above the name
pub redirected_shows : (s : Serving) (q : Queried) (alias : Asked) (m octets : List ℕ) → HoldsAll s q octets → IsRedirected s q alias m
    → octets ≡ unwrap_or (redirect_response s.limit s.size q m) (error_response s.size q 2) → ShowsAlike octets m
redirected_shows s q alias m octets h r are =
    let there = led_there s q alias m h.zone h.asked r in
    let signs : wants_signatures q ≡ true = ap (λ b. b || eqb q.asked.rtype 46) h.wanted in
    let made = subst (λ (b : Bool). IsMessage s (asking there.owner q.asked) false b m) signs (for_it s q alias m h.zone h.asked r) in
    let is = (made.0 (sign_by s.table) (verify_by s.table) (own_entries s.table)).0 in
    let w : World = signed_by s.world (sign_by s.table) (verify_by s.table) in
    let zone : IsZone w = zone_signed s.world (sign_by s.table) (verify_by s.table) h.zone in
    let above = above_it s q alias m h.zone h.asked r in
    let said = response_is w zone s.keys s.at q there.owner h.asked there.found above m is s.limit s.size in
    redirect_shows w zone s.keys s.at q there.owner h.asked there.found above m is s.limit s.size h.size h.limit h.wanted octets h.whole
    (are ∙ ap (λ (o : Option (List ℕ)). unwrap_or o (error_response s.size q 2)) said)

pub redirects_judged : RedirectsJudgedAlike
redirects_judged s q alias m octets h r are = shown_judged octets m (redirected_shows s q alias m octets h r are)
