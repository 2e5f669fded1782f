-- What a response has of a message, read as it stands there.
use Rattle.std.proofs.Common.{◌≡◌, ℕ, suc, ◌+◌, ◌<◌, ◌≤◌, Bool, true, false, not, ◌&&◌, ◌||◌, List, [], ◌∷◌, ◌++◌, length, map, take, drop, Option, Some, None, Result, Ok, cond, eqb, refl, sym, subst, ap, ◌∙◌, append_assoc, length-append, arith, le_refl}
use Rattle.std.specs.List.{AllByRecursion, AllZip, filter, flat_map, list_any}
use Rattle.std.proofs.Math.Nat.{min-le_left}
use Rattle.std.proofs.lemmas.List.{append-nil}
use Rattle.std.proofs.lemmas.List.Concat.{flat_map-append}
use Rattle.definitions.specs.Limits.{pointer_limit}
use Rattle.definitions.specs.Name.{IsName, low}
use Rattle.messages.specs.declared.error.MessageError.{MessageError}
use Rattle.messages.specs.Message.{Asked, Message, Spelled, data_of, message, pair}
use Rattle.messages.specs.Written.{Written, message_octets, record_octets}
use Rattle.messages.specs.WrittenLaws.{AreSections, IsQuestion, IsRecord, first_place, spelled_at, spelled_from}
use Rattle.messages.proofs.MessageWhole.{message_here}
use Rattle.messages.proofs.MessageWritten.{StandsAt, end_of}
use Rattle.answer_terms.specs.Alike.{IsLike}
use Rattle.answer_judge.specs.Judging.{JudgeInput}
use Rattle.answer_findings.specs.Judgements.{alias_hint}
use Rattle.message_laws.specs.SeenAlike.{SeenAlike, is_covering, is_used, is_used_type}
use Rattle.server_answers.proofs.WritesGroups.{Holds}
use Rattle.server_answers.proofs.WritesRecords.{rest_stands}
use Rattle.server_queries.specs.Queries.{Queried}
use Rattle.server_responses.specs.Links.{is_authoritative, is_link_of, shows_link}
use Rattle.server_responses.specs.Responses.{answers_shown, authority_shown, counted, is_dnssec_ok, reply_octets, response_flags, response_of, whole_response}
use Rattle.server_responses.specs.Sections.{answer_section, authority_section, is_added, is_soa_or_its_signature, negative_ttl, no_greater, written_at}
use Rattle.server_laws.proofs.Alone.{SameButTtl, SignsOther, StandsAlone, records_alike, uncovered}
use Rattle.server_laws.proofs.Hints.{named_like, no_dnames, suggested}
use Rattle.server_laws.proofs.Framed.{answers_of, authority_of, flags_of, framed, message_framed, records_of}
use Rattle.server_laws.proofs.Lists.{all_joined}
use Rattle.server_laws.proofs.Replied.{IsUnused, limited, message_of, opts, replied, replied_reads, replied_stands, unused_opts, whole_where_clear}
use Rattle.server_laws.specs.Heard.{is_truncated}

-- ---- sections of a message

pub length_spelled : (p : ℕ) (rs : List Written) → length (spelled_from p rs) ≡ length rs
length_spelled p [] = refl
length_spelled p (r ∷ rs) = ap suc (length_spelled (end_of p r) rs)

-- the place behind some records
pub place_behind : ℕ → List Written → ℕ
place_behind p [] = p
place_behind p (r ∷ rs) = place_behind (end_of p r) rs

pub behind_none : (p : ℕ) → place_behind p [] ≡ p
unfolding place_behind
behind_none p = refl

pub spelled_more : (p : ℕ) (rs ss : List Written) → spelled_from p (rs ++ ss) ≡ spelled_from p rs ++ spelled_from (place_behind p rs) ss
unfolding place_behind
spelled_more p [] ss = refl
spelled_more p (r ∷ rs) ss = ap (λ x. spelled_at p r ∷ x) (spelled_more (end_of p r) rs ss)

-- octets stand there that stand behind those records
pub behind_stands : (m : List ℕ) (p : ℕ) (rs : List Written) (rest : List ℕ) → StandsAt m p (flat_map record_octets rs ++ rest) → StandsAt m (place_behind p rs) rest
unfolding place_behind
behind_stands m p [] rest s = s
behind_stands m p (r ∷ rs) rest s = behind_stands m (end_of p r) rs rest (rest_stands m p r rs rest s)

take_front : {A : Type 0} (xs ys : List A) → take (length xs) (xs ++ ys) ≡ xs
take_front [] [] = refl
take_front [] (y ∷ ys) = refl
take_front (x ∷ xs) ys = ap (λ zs. x ∷ zs) (take_front xs ys)

take_whole : {A : Type 0} (xs : List A) → take (length xs) xs ≡ xs
take_whole [] = refl
take_whole (x ∷ xs) = ap (λ zs. x ∷ zs) (take_whole xs)

drop_front : {A : Type 0} (xs ys : List A) → drop (length xs) (xs ++ ys) ≡ ys
drop_front [] ys = refl
drop_front (x ∷ xs) ys = drop_front xs ys

-- ---- what is shown of records

-- the TTL of a record where a denial is kept for no longer than a limit
abbrev pub ttl_with : Option ℕ → List ℕ → Spelled → ℕ
ttl_with limit m r = cond (is_soa_or_its_signature m r) (no_greater limit r.ttl) r.ttl

abbrev pub shown_with : Option ℕ → List ℕ → Spelled → Written
shown_with limit m r = written_at m (ttl_with limit m r) r

-- what a choice comes to where its condition does not hold
unless : {A : Type 0} (b : Bool) (held other same : A) → b ≡ false → other ≡ same → cond b held other ≡ same
unless b held other same fails is = ap (λ x. cond x held other) fails ∙ is

-- where each comes to one, all come to as many
pub each_one : (f : Spelled → List Written) (g : Spelled → Written) → ((r : Spelled) → f r ≡ g r ∷ []) → (rs : List Spelled) → flat_map f rs ≡ map g rs
each_one f g same [] = refl
each_one f g same (r ∷ rs) = λ i. same r i ++ each_one f g same rs i

lesser : (o : Option ℕ) (ttl : ℕ) → no_greater o ttl ≤ ttl
lesser None ttl = le_refl _
lesser (Some limit) ttl = min-le_left ttl limit

ttl_lesser : (limit : Option ℕ) (m : List ℕ) (r : Spelled) → ttl_with limit m r ≤ r.ttl
ttl_lesser limit m r = choose (is_soa_or_its_signature m r)
  where
    choose : (b : Bool) → cond b (no_greater limit r.ttl) r.ttl ≤ r.ttl
    choose true = lesser limit r.ttl
    choose false = le_refl _

-- the records as they were written, but for TTLs
pub same_shown : (limit : Option ℕ) (m : List ℕ) (p : ℕ) (vs : List Written) → AllZip (λ r v. data_of m r ≡ v.octets) (spelled_from p vs) vs → AllZip SameButTtl vs (map (shown_with limit m) (spelled_from p vs))
same_shown limit m p [] h = tt
same_shown limit m p (v ∷ vs) h = (
  record { owner_is = refl; type_is = refl; class_is = refl; octets_are = sym h.0; ttl_is = ttl_lesser limit m (spelled_at p v) },
  same_shown limit m (end_of p v) vs h.1,
)

same_length : (vs ws : List Written) → AllZip SameButTtl vs ws → length vs ≡ length ws
same_length [] [] h = refl
same_length [] (w ∷ ws) h = absurd h
same_length (v ∷ vs) [] h = absurd h
same_length (v ∷ vs) (w ∷ ws) h = ap suc (same_length vs ws h.1)

pub same_hold : (vs ws : List Written) → AllZip SameButTtl vs ws → AllByRecursion IsRecord vs → AllByRecursion Holds ws
same_hold [] [] h is = tt
same_hold [] (w ∷ ws) h is = absurd h
same_hold (v ∷ vs) [] h is = absurd h
same_hold (v ∷ vs) (w ∷ ws) h is = (
  record {
    owner = subst IsName h.0.owner_is is.0.owner;
    rtype = omega (arith, h.0.type_is, is.0.rtype);
    class = omega (arith, h.0.class_is, is.0.class);
    ttl = omega (arith, h.0.ttl_is, is.0.ttl);
  },
  same_hold vs ws h.1 is.1,
)

same_append : (vs ws xs ys : List Written) → AllZip SameButTtl vs ws → AllZip SameButTtl xs ys → AllZip SameButTtl (vs ++ xs) (ws ++ ys)
same_append [] [] xs ys h k = k
same_append [] (w ∷ ws) xs ys h k = absurd h
same_append (v ∷ vs) [] xs ys h k = absurd h
same_append (v ∷ vs) (w ∷ ws) xs ys h k = (h.0, same_append vs ws xs ys h.1 k)

pub zip_front : {A B : Type 0} (R : A → B → Type 0) (us vs : List A) (xs ys : List B) → length us ≡ length xs → AllZip R (us ++ vs) (xs ++ ys) → AllZip R us xs × AllZip R vs ys
zip_front R [] vs [] ys e h = (tt, h)
zip_front R [] vs (x ∷ xs) ys e h = absurd (omega (arith, e))
zip_front R (u ∷ us) vs [] ys e h = absurd (omega (arith, e))
zip_front R (u ∷ us) vs (x ∷ xs) ys e h = let rest = zip_front R us vs xs ys (omega (arith, e)) h.1 in ((h.0, rest.0), rest.1)

none_used : (t p : ℕ) (ws : List Written) → AllByRecursion (IsUnused t) ws → filter (is_used t) (spelled_from p ws) ≡ []
none_used t p [] h = refl
none_used t p (w ∷ ws) h =
    let rest = filter (is_used t) (spelled_from (end_of p w) ws) in
    ap (λ b. cond b (spelled_at p w ∷ rest) rest) h.0 ∙ none_used t (end_of p w) ws h.1

-- ---- filters

zip_used : (t : ℕ) (k : ℕ) (m n : List ℕ) (rs ss : List Spelled) → AllZip (IsLike k m n) rs ss → AllZip (IsLike k m n) (filter (is_used t) rs) (filter (is_used t) ss)
zip_used t k m n [] [] z = tt
zip_used t k m n [] (s ∷ ss) z = absurd z
zip_used t k m n (r ∷ rs) [] z = absurd z
zip_used t k m n (r ∷ rs) (s ∷ ss) z =
    let rest = zip_used t k m n rs ss z.1 in
    subst (λ b. AllZip (IsLike k m n) (cond (is_used t r) (r ∷ filter (is_used t) rs) (filter (is_used t) rs)) (cond b (s ∷ filter (is_used t) ss) (filter (is_used t) ss))) (ap (is_used_type t) z.0.type_is)
    (both_ways (is_used t r) rest)
  where
    both_ways : (b : Bool) → AllZip (IsLike k m n) (filter (is_used t) rs) (filter (is_used t) ss) → AllZip (IsLike k m n) (cond b (r ∷ filter (is_used t) rs) (filter (is_used t) rs)) (cond b (s ∷ filter (is_used t) ss) (filter (is_used t) ss))
    both_ways true rest = (z.0, rest)
    both_ways false rest = rest

filter_append : {A : Type 0} (p : A → Bool) (xs ys : List A) → filter p (xs ++ ys) ≡ filter p xs ++ filter p ys
filter_append p [] ys = refl
filter_append p (x ∷ xs) ys = go (p x) (filter_append p xs ys)
  where
    go : (b : Bool) → filter p (xs ++ ys) ≡ filter p xs ++ filter p ys → cond b (x ∷ filter p (xs ++ ys)) (filter p (xs ++ ys)) ≡ cond b (x ∷ filter p xs) (filter p xs) ++ filter p ys
    go true rest = ap (λ zs. x ∷ zs) rest
    go false rest = rest

-- ---- the other way round

like_turned : (k : ℕ) (m n : List ℕ) (r s : Spelled) → IsLike k m n r s → IsLike k n m s r
like_turned k m n r s like = record {
  owner_is = sym like.owner_is;
  type_is = sym like.type_is;
  class_is = sym like.class_is;
  data_are = sym like.data_are;
  signature_is = λ is. sym (like.signature_is (like.type_is ∙ is));
}

pub all_turned : (k : ℕ) (m n : List ℕ) (rs ss : List Spelled) → AllZip (IsLike k m n) rs ss → AllZip (IsLike k n m) ss rs
all_turned k m n [] [] z = tt
all_turned k m n [] (s ∷ ss) z = absurd z
all_turned k m n (r ∷ rs) [] z = absurd z
all_turned k m n (r ∷ rs) (s ∷ ss) z = (like_turned k m n r s z.0, all_turned k m n rs ss z.1)

-- ---- the whole response

pub both_used : (t p : ℕ) (extras : List Written) (k : ℕ) (m n : List ℕ) (rs ss : List Spelled) → AllByRecursion (IsUnused t) extras → AllZip (IsLike k m n) rs ss
    → AllZip (IsLike k m n) (filter (is_used t) rs) (filter (is_used t) (ss ++ spelled_from p extras))
both_used t p extras k m n rs ss unused z =
    let all : filter (is_used t) (ss ++ spelled_from p extras) ≡ filter (is_used t) ss =
    filter_append (is_used t) ss (spelled_from p extras) ∙ ap (λ xs. filter (is_used t) ss ++ xs) (none_used t p extras unused) ∙ append-nil (filter (is_used t) ss) in
    subst (AllZip (IsLike k m n) (filter (is_used t) rs)) (sym all) (zip_used t k m n rs ss z)

-- a message of a publisher, whose records say the same wherever they stand
pub record IsAlone (flags : ℕ) (asked : Asked) (answers authority : List Written) (m : List ℕ) : Type 0 where
  pub octets_are : m ≡ message_octets flags asked answers authority
  pub question : IsQuestion asked
  pub sections : AreSections answers authority
  pub answers_alone : AllByRecursion StandsAlone (answers ++ authority)
  pub short : length m ≤ 65535

-- the flags that it has
pub flags_told : (flags : ℕ) (asked : Asked) (answers authority : List Written) (m : List ℕ) → IsAlone flags asked answers authority m → flags < 65536 → pair m 2 ≡ flags
flags_told flags asked answers authority m is few = flags_of m 0 flags (length answers) (length authority) 0 asked _ (is.octets_are ∙ message_framed flags asked answers authority) few

-- and what it reads as
pub alone_read : (flags : ℕ) (asked : Asked) (answers authority : List Written) (m : List ℕ) → IsAlone flags asked answers authority m
    → message pointer_limit m ≡ Ok (message_of asked (answers ++ authority))
alone_read flags asked answers authority m is = (message_here m flags asked answers authority is.octets_are is.question is.sections).reads

-- only a response to a question for NSEC has a record of the chain alone
pub unasked : (q : Queried) (m : List ℕ) (rs : List Spelled) → eqb q.asked.rtype 47 ≡ false → shows_link q m rs ≡ false
unasked q m rs e = ap (λ b. b && is_authoritative m && list_any (is_link_of q.asked.name) (authority_section m rs)) e

module _ (flags : ℕ) (asked : Asked) (answers authority : List Written) (m : List ℕ) (is : IsAlone flags asked answers authority m) where
  abbrev place : ℕ
  place = first_place asked

  abbrev pub spelled_all : List Spelled
  spelled_all = spelled_from place (answers ++ authority)

  frame : m ≡ framed 0 flags (length answers) (length authority) 0 asked (flat_map record_octets (answers ++ authority) ++ [])
  frame = is.octets_are ∙ message_framed flags asked answers authority

  pub records_stand : StandsAt m place (flat_map record_octets (answers ++ authority) ++ [])
  records_stand = records_of m 0 flags (length answers) (length authority) 0 asked _ frame

  abbrev pub in_message : Message
  in_message = record { asked = asked; records = spelled_all }

  pub message_read : message pointer_limit m ≡ Ok in_message
  message_read = alone_read flags asked answers authority m is

  pub datas : AllZip (λ r v. data_of m r ≡ v.octets) spelled_all (answers ++ authority)
  datas = (message_here m flags asked answers authority is.octets_are is.question is.sections).octets

  parts : spelled_all ≡ spelled_from place answers ++ spelled_from (place_behind place answers) authority
  parts = spelled_more place answers authority

  pub first_part : answer_section m spelled_all ≡ spelled_from place answers
  first_part =
      ap (λ k. take k spelled_all) (answers_of m 0 flags (length answers) (length authority) 0 asked _ frame is.sections.answers_fit ∙ sym (length_spelled place answers))
      ∙ ap (take (length (spelled_from place answers))) parts
      ∙ take_front (spelled_from place answers) (spelled_from (place_behind place answers) authority)

  pub second_part : authority_section m spelled_all ≡ spelled_from (place_behind place answers) authority
  second_part =
      (λ i. take (authority_of m 0 flags (length answers) (length authority) 0 asked _ frame is.sections.authority_fit i) (drop (answers_of m 0 flags (length answers) (length authority) 0 asked _ frame is.sections.answers_fit i) (parts i)))
      ∙ ap (λ k. take (length authority) (drop k (spelled_from place answers ++ spelled_from (place_behind place answers) authority))) (sym (length_spelled place answers))
      ∙ ap (take (length authority)) (drop_front (spelled_from place answers) (spelled_from (place_behind place answers) authority))
      ∙ ap (λ k. take k (spelled_from (place_behind place answers) authority)) (sym (length_spelled (place_behind place answers) authority))
      ∙ take_whole (spelled_from (place_behind place answers) authority)

  both_datas : AllZip (λ r v. data_of m r ≡ v.octets) (spelled_from place answers) answers × AllZip (λ r v. data_of m r ≡ v.octets) (spelled_from (place_behind place answers) authority) authority
  both_datas = zip_front (λ r v. data_of m r ≡ v.octets) (spelled_from place answers) (spelled_from (place_behind place answers) authority) answers authority (length_spelled place answers) (subst (λ rs. AllZip (λ r v. data_of m r ≡ v.octets) rs (answers ++ authority)) parts datas)

  -- no signature of the message covers a type that none of its signatures is of
  pub none_covers : (u : ℕ) → AllByRecursion (SignsOther u) (answers ++ authority) → list_any (is_covering pointer_limit m u) spelled_all ≡ false
  none_covers u others = uncovered u m place (answers ++ authority) [] is.short others records_stand

  -- ---- what is shown of each section

  module _ (size : ℕ) (q : Queried) (small : size < 65536) (fits : IsQuestion q.asked) (wanted : is_dnssec_ok q ≡ true) (more : List Written) (more_hold : AllByRecursion Holds more) (silent : shows_link q m (spelled_from (first_place asked) (answers ++ authority)) ≡ false) where
    -- with DO nothing is left out of the answer section, nor of the authority section
    answers_are : answers_shown q m spelled_all ≡ map (shown_with None m) (answer_section m spelled_all)
    answers_are =
        unless _ _ _ _ silent (each_one _ (shown_with None m) (λ r. ap (λ b. cond (not b && (is_added r.rtype && not (eqb r.rtype q.asked.rtype))) [] (shown_with None m r ∷ [])) wanted) (answer_section m spelled_all))

    abbrev kept_for : Option ℕ
    kept_for = negative_ttl m (authority_section m spelled_all)

    authority_are : authority_shown q m spelled_all ≡ map (shown_with kept_for m) (authority_section m spelled_all)
    authority_are =
        unless _ _ _ _ silent (each_one _ (shown_with kept_for m) (λ r. ap (λ b. cond (not b && (is_added r.rtype || eqb r.rtype 43)) [] (shown_with kept_for m r ∷ [])) wanted) (authority_section m spelled_all))

    shown_answers : AllZip SameButTtl answers (answers_shown q m spelled_all)
    shown_answers = subst (AllZip SameButTtl answers) (sym (answers_are ∙ ap (map (shown_with None m)) first_part)) (same_shown None m place answers both_datas.0)

    shown_authority : AllZip SameButTtl authority (authority_shown q m spelled_all)
    shown_authority = subst (AllZip SameButTtl authority) (sym (authority_are ∙ ap (map (shown_with kept_for m)) second_part)) (same_shown kept_for m (place_behind place answers) authority both_datas.1)

    abbrev pub firsts : List Written
    firsts = answers_shown q m spelled_all

    abbrev pub seconds : List Written
    seconds = authority_shown q m spelled_all

    pub seconds_as_many : length seconds ≡ length authority
    seconds_as_many = sym (same_length authority seconds shown_authority)

    abbrev pub shown : List Written
    shown = firsts ++ seconds ++ more

    abbrev pub shown_message : Message
    shown_message = message_of q.asked (shown ++ opts size q.edns)

    pub shown_hold : AllByRecursion Holds shown
    shown_hold =
        all_joined Holds (firsts ++ seconds) more
        (all_joined Holds firsts seconds (same_hold answers firsts shown_answers is.sections.answers_are) (same_hold authority seconds shown_authority is.sections.authority_are))
        more_hold

    -- a response with these flags of a message, whose header counts all of these records
    module _ (bits a u e : ℕ) (counted_is : a + u + e ≡ length shown) where
      abbrev pub whole : List ℕ
      whole = replied size q small fits bits a u e shown counted_is shown_hold

      pub whole_reads : length whole ≤ 65535 → message pointer_limit whole ≡ Ok shown_message
      whole_reads = replied_reads size q small fits bits a u e shown counted_is shown_hold

      -- those of the message, and those behind them
      abbrev extras : List Written
      extras = more ++ opts size q.edns

      two_parts : shown ++ opts size q.edns ≡ (firsts ++ seconds) ++ extras
      two_parts = append_assoc (firsts ++ seconds) more (opts size q.edns)

      stand_there : StandsAt whole (first_place q.asked) (flat_map record_octets (firsts ++ seconds) ++ (flat_map record_octets extras ++ []))
      stand_there =
          subst (StandsAt whole (first_place q.asked))
          (ap (λ ws. flat_map record_octets ws ++ []) two_parts ∙ ap (λ x. x ++ []) (flat_map-append record_octets (firsts ++ seconds) extras) ∙ append_assoc (flat_map record_octets (firsts ++ seconds)) (flat_map record_octets extras) [])
          (replied_stands size q small fits bits a u e shown counted_is shown_hold)

      -- the records of the message and of the response, one by one
      records_same : length whole ≤ 65535 → AllZip (IsLike pointer_limit m whole) spelled_all (spelled_from (first_place q.asked) (firsts ++ seconds))
      records_same few =
          records_alike m whole place (first_place q.asked) (answers ++ authority) (firsts ++ seconds) [] (flat_map record_octets extras ++ []) is.short few is.answers_alone (same_append answers firsts authority seconds shown_answers shown_authority)
          records_stand stand_there

      pub whole_used : (t : ℕ) → AllByRecursion (IsUnused t) more → eqb 41 t ≡ false → length whole ≤ 65535 → AllZip (IsLike pointer_limit whole m) (filter (is_used t) shown_message.records) (filter (is_used t) spelled_all)
      whole_used t spare other few =
          let behind : ℕ = place_behind (first_place q.asked) (firsts ++ seconds) in
          let used : AllZip (IsLike pointer_limit m whole) (filter (is_used t) spelled_all) (filter (is_used t) (spelled_from (first_place q.asked) (firsts ++ seconds) ++ spelled_from behind extras)) =
          both_used t behind extras pointer_limit m whole spelled_all (spelled_from (first_place q.asked) (firsts ++ seconds)) (all_joined (IsUnused t) more (opts size q.edns) spare (unused_opts t size q.edns other)) (records_same few) in
          all_turned pointer_limit m whole (filter (is_used t) spelled_all) (filter (is_used t) shown_message.records)
          (subst (λ xs. AllZip (IsLike pointer_limit m whole) (filter (is_used t) spelled_all) (filter (is_used t) xs)) (sym (ap (spelled_from (first_place q.asked)) two_parts ∙ spelled_more (first_place q.asked) (firsts ++ seconds) extras)) used)

      abbrev reads_as : List Spelled → Result Message MessageError
      reads_as rs = Ok (record { asked = q.asked; records = rs })

      -- of aliases it suggests what the message does
      pub whole_suggests : AllByRecursion (IsUnused 39) more → length whole ≤ 65535
          → (h : JudgeInput) (alias : Asked) → alias_hint pointer_limit (record h { answer_bytes = m }) ≡ Some alias → alias_hint pointer_limit (record h { answer_bytes = whole }) ≡ Some alias
      whole_suggests spare few h alias e =
          let behind : ℕ = place_behind (first_place q.asked) (firsts ++ seconds) in
          suggested pointer_limit h whole m q.asked asked spelled_all (spelled_from (first_place q.asked) (firsts ++ seconds)) (spelled_from behind extras) message_read
          (whole_reads few ∙ ap reads_as (ap (spelled_from (first_place q.asked)) two_parts ∙ spelled_more (first_place q.asked) (firsts ++ seconds) extras))
          (named_like place (first_place q.asked) (answers ++ authority) (firsts ++ seconds) (same_append answers firsts authority seconds shown_answers shown_authority))
          (no_dnames behind extras (all_joined (IsUnused 39) more (opts size q.edns) spare (unused_opts 39 size q.edns refl))) alias e

    -- ---- responses that have all records of the message and the others

    -- whose header counts the others as those of the additional section
    pub counts_are : length firsts + length seconds + length more ≡ length shown
    counts_are = omega (arith, length-append (firsts ++ seconds) more, length-append firsts seconds)

    abbrev pub whole_all : List ℕ
    whole_all = whole (pair m 2) (length firsts) (length seconds) (length more) counts_are

    pub all_seen : (t : ℕ) → AllByRecursion (IsUnused t) more → eqb 41 t ≡ false → low q.asked.name ≡ low asked.name → q.asked.rtype ≡ asked.rtype → q.asked.class ≡ asked.class → length whole_all ≤ 65535 → SeenAlike pointer_limit t whole_all m
    all_seen t spare other name rtype class few = record {
      one = shown_message;
      other = in_message;
      reads_one = whole_reads (pair m 2) (length firsts) (length seconds) (length more) counts_are few;
      reads_other = message_read;
      name_is = name;
      rtype_is = rtype;
      class_is = class;
      records_are = whole_used (pair m 2) (length firsts) (length seconds) (length more) counts_are t spare other few;
    }

    pub all_suggests : AllByRecursion (IsUnused 39) more → length whole_all ≤ 65535
        → (h : JudgeInput) (alias : Asked) → alias_hint pointer_limit (record h { answer_bytes = m }) ≡ Some alias → alias_hint pointer_limit (record h { answer_bytes = whole_all }) ≡ Some alias
    all_suggests spare few = whole_suggests (pair m 2) (length firsts) (length seconds) (length more) counts_are spare few

    all_is : whole_response size q m spelled_all more ≡ whole_all
    all_is =
        ap (λ x. reply_octets size q (response_flags q.header (pair m 2) false) (counted (length firsts) (length seconds) (length more)) (x ++ flat_map record_octets more)) (sym (flat_map-append record_octets firsts seconds))
        ∙ ap (reply_octets size q (response_flags q.header (pair m 2) false) (counted (length firsts) (length seconds) (length more))) (sym (flat_map-append record_octets (firsts ++ seconds) more))

    -- where TC is clear the response is whole, and has no more octets than its limit
    pub all_where_clear : (limit : ℕ) → is_truncated (response_of limit size q m spelled_all more) ≡ false → (response_of limit size q m spelled_all more ≡ whole_all) × (length whole_all ≤ limit)
    all_where_clear limit clear =
        let same : response_of limit size q m spelled_all more ≡ limited size q m limit whole_all = ap (limited size q m limit) all_is in
        let found = whole_where_clear size q m limit whole_all (ap is_truncated (sym same) ∙ clear) in
        (same ∙ found.0, found.1)
