-- Responses with the CNAME that is made from a DNAME.
use Rattle.std.proofs.Common.{◌≡◌, ◌∙◌, ℕ, ◌+◌, ◌<◌, ◌≤◌, Bool, false, List, [], ◌++◌, ap, arith, length, length-append, sym}
use Rattle.std.specs.Prelude.{if◌then◌else◌}
use Rattle.std.specs.List.{flat_map}
use Rattle.std.proofs.lemmas.Bool.{le-leb, lt-leb}
use Rattle.std.proofs.lemmas.Grind.{flat_map-append}
use Rattle.definitions.specs.Name.{Name}
use Rattle.denial_laws.specs.Leading.{Lead, To, TooLong}
use Rattle.messages.specs.Message.{Spelled, pair}
use Rattle.messages.specs.Written.{Written, question_octets, record_octets}
use Rattle.server_queries.specs.Queries.{Queried}
use Rattle.server_queries.specs.Replies.{edns_octets, one_if_some}
use Rattle.server_responses.specs.Redirects.{Redirected, made_cname, redirect_answers, redirect_flags, redirect_of, whole_redirect}
use Rattle.server_responses.specs.Responses.{answers_shown, authority_shown, counted, head_octets, reply_octets, response_flags, truncated_response}
use Rattle.server_responses.proofs.Sizes.{elevens, inside}

-- one record is made at most
pub few_made : (n : Name) (r : Spelled) (l : Lead) → length (made_cname n r l) ≤ 1
few_made n r (To t) = omega arith
few_made n r TooLong = omega arith

-- records of which the octets fit a message are not many
pub few_records : (ws : List Written) (octets : List ℕ) → length (flat_map record_octets ws) ≤ length octets → length octets ≤ 65535 → length ws ≤ 5957
few_records ws octets within short = omega (arith, elevens ws, within, short)

module _ (size : ℕ) (q : Queried) (m : List ℕ) (rs : List Spelled) (r : Redirected) where
  abbrev shown : List Written
  shown = answers_shown q m rs

  abbrev made : List Written
  made = made_cname q.asked.name r.dname r.lead

  abbrev authority : List Written
  authority = authority_shown q m rs

  abbrev pub written : List ℕ
  written = (flat_map record_octets shown ++ flat_map record_octets made) ++ flat_map record_octets authority

  joined : written ≡ flat_map record_octets (redirect_answers q m rs r) ++ flat_map record_octets authority
  joined = ap (λ xs. xs ++ flat_map record_octets authority) (sym (flat_map-append record_octets shown made))

  pub whole_is : (flags n k j : ℕ) (octets whole : List ℕ) → flags ≡ response_flags q.header (redirect_flags (pair m 2) r.lead) false → n ≡ length shown → k ≡ length made → j ≡ length authority
      → octets ≡ written → whole ≡ reply_octets size q flags (counted (n + k) j 0) octets → whole ≡ whole_redirect size q m rs r
  whole_is flags n k j octets whole flags_are shown_are made_are authority_are octets_are is =
      let answers : n + k ≡ length (redirect_answers q m rs r) = (λ i. shown_are i + made_are i) ∙ sym (length-append shown made) in
      is ∙ (λ i. reply_octets size q (flags_are i) (counted (answers i) (authority_are i) 0) ((octets_are ∙ joined) i))

  -- the records of the answer section are among its octets
  pub shown_in : length (flat_map record_octets shown) ≤ length written
  shown_in = omega (arith, length-append (flat_map record_octets shown ++ flat_map record_octets made) (flat_map record_octets authority), length-append (flat_map record_octets shown) (flat_map record_octets made))

  -- and all of them among those of the response
  written_in : length written ≤ length (whole_redirect size q m rs r)
  written_in =
      let front = head_octets q.header.id (response_flags q.header (redirect_flags (pair m 2) r.lead) false) (length (redirect_answers q m rs r)) (length authority) (0 + one_if_some q.edns) ++ question_octets q.asked.name q.asked.rtype q.asked.class in
      let own : length (flat_map record_octets (redirect_answers q m rs r) ++ flat_map record_octets authority) ≤ length (whole_redirect size q m rs r) =
      inside front [] (flat_map record_octets (redirect_answers q m rs r) ++ flat_map record_octets authority) (edns_octets size 0 q.edns) in
      omega (arith, own, ap length joined)

  module _ (limit : ℕ) where
    pub cut : limit < length (whole_redirect size q m rs r) → truncated_response size q m ≡ redirect_of limit size q m rs r
    cut long = ap (λ (b : Bool). if b then whole_redirect size q m rs r else truncated_response size q m) (sym (lt-leb (length (whole_redirect size q m rs r)) limit long))

    pub cut_early : (octets : List ℕ) → octets ≡ written → limit < length octets → truncated_response size q m ≡ redirect_of limit size q m rs r
    cut_early octets is long = cut (omega (arith, written_in, ap length is, long))

    pub whole_fits : (whole : List ℕ) → whole ≡ whole_redirect size q m rs r → length whole ≤ limit → whole ≡ redirect_of limit size q m rs r
    whole_fits whole is fits =
        is ∙ ap (λ (b : Bool). if b then whole_redirect size q m rs r else truncated_response size q m) (sym (le-leb (length (whole_redirect size q m rs r)) limit (omega (arith, fits, ap length is))))
