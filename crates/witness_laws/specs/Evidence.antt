-- Evidence of the tree of these zones: messages as a name server sends them, with signatures that pass, at second 1500.
use Rattle.std.specs.Prelude.{ℕ, true, List, [], ◌∷◌}
use Rattle.definitions.specs.Dnskey.{dnskey_data}
use Rattle.definitions.specs.Name.{Name, wire}
use Rattle.messages.specs.Message.{Asked}
use Rattle.answer_judge_facts.specs.declared.validity.Validity.{Validity}
use Rattle.answer_judge_table.specs.Table.{Checked}
use Rattle.evidence_laws.specs.Given.{Given, Message}
use Rattle.witness_laws.specs.Signed.{alias, child_ds_set, child_keys, early, hashed_p, hashed_s, last_link, late, parent_keys, passing, redirect, response, rr, rrsig, wildcard}
use Rattle.witness_laws.specs.Signed as signing
use Rattle.witness_laws.specs.Zones.{address, c_s, d_s, ds_data, e_s, new_key, old_key, p, parent_ds, parent_key, s, star_e, u, x_u, y_d, y_e}

-- the question for an address
abbrev pub asking : Name → Asked
asking name = record { name = name; rtype = 1; class = 1 }

abbrev pub message_of : Name → Name → ℕ → List ℕ → Message
message_of zone name t octets = record { zone = zone; asked = record { name = name; rtype = t; class = 1 }; octets = octets }

-- ---- of the parent

abbrev pub parent_answer : List ℕ
parent_answer = response 132 p 48 (rr p 48 (dnskey_data parent_key) ∷ rrsig p parent_key parent_keys ∷ []) []

-- a referral to the child
abbrev pub referral : Name → List ℕ
referral name = response 128 name 1 [] (rr s 2 (wire s) ∷ rr s 43 ds_data ∷ rrsig s parent_key child_ds_set ∷ [])

-- records of the chain, each with its signature
abbrev pub chain_records : List (List ℕ)
chain_records =
    rr hashed_p.source 50 (signing.nsec3 signing.hash_s (6 ∷ 46 ∷ 48 ∷ 51 ∷ [])) ∷ rrsig hashed_p.source parent_key hashed_p
    ∷ rr hashed_s.source 50 (signing.nsec3 signing.hash_p (2 ∷ 43 ∷ 46 ∷ [])) ∷ rrsig hashed_s.source parent_key hashed_s ∷ []

-- a referral that is not signed: the parent's hash is matched, and that of the delegation covered
abbrev pub open_referral : List ℕ
open_referral = response 128 x_u 1 [] (rr u 2 (wire u) ∷ chain_records)

-- the same of a question for DS at the delegation
abbrev pub no_ds : List ℕ
no_ds = response 132 u 43 [] chain_records

-- ---- of the child

abbrev pub child_answer : List ℕ
child_answer = response 132 s 48 (rr s 48 (dnskey_data old_key) ∷ rr s 48 (dnskey_data new_key) ∷ rrsig s old_key child_keys ∷ rrsig s new_key child_keys ∷ []) []

-- The alias, which is followed: the DNAME, the CNAME that is made from it, which nothing signs, and the address that the wildcard gives,
-- with the record of the chain that covers the name. All signatures are of one moment.
abbrev pub alias_answer : List ℕ
alias_answer = response 132 c_s 1 (
    rr c_s 5 (wire y_d) ∷ rrsig c_s old_key alias
    ∷ rr d_s 39 (wire e_s) ∷ rrsig d_s old_key (redirect early)
    ∷ rr y_d 5 (wire y_e)
    ∷ rr y_e 1 address ∷ rrsig y_e old_key (wildcard early) ∷ []
    ) (
    rr star_e 47 (signing.last_data) ∷ rrsig star_e old_key (last_link early) ∷ []
    )

-- the DNAME, and the CNAME that is made from it
abbrev pub redirect_answer : List ℕ
redirect_answer = response 132 y_d 1 (rr d_s 39 (wire e_s) ∷ rrsig d_s new_key (redirect late) ∷ rr y_d 5 (wire y_e) ∷ []) []

-- the address that the wildcard gives
abbrev pub star_answer : List ℕ
star_answer = response 132 y_e 1 (rr y_e 1 address ∷ rrsig y_e new_key (wildcard late) ∷ []) (rr star_e 47 signing.last_data ∷ rrsig star_e new_key (last_link late) ∷ [])

-- ---- evidence

abbrev pub messages : List Message
messages =
    message_of p p 48 parent_answer ∷ message_of p c_s 1 (referral c_s) ∷ message_of p y_d 1 (referral y_d) ∷ message_of p y_e 1 (referral y_e)
    ∷ message_of p x_u 1 open_referral ∷ message_of p u 43 no_ds
    ∷ message_of s s 48 child_answer ∷ message_of s c_s 1 alias_answer ∷ message_of s y_d 1 redirect_answer ∷ message_of s y_e 1 star_answer ∷ []

abbrev pub table : List Checked
table =
    passing parent_key parent_keys ∷ passing parent_key child_ds_set ∷ passing parent_key hashed_p ∷ passing parent_key hashed_s
    ∷ passing old_key child_keys ∷ passing new_key child_keys
    ∷ passing old_key alias ∷ passing old_key (redirect early) ∷ passing old_key (wildcard early) ∷ passing old_key (last_link early)
    ∷ passing new_key (redirect late) ∷ passing new_key (wildcard late) ∷ passing new_key (last_link late) ∷ []

abbrev pub evidence : Given
evidence = record {
  anchor = p;
  ds = parent_ds ∷ [];
  messages = messages;
  table = table;
  algorithms = [];
  at = 1500000000000;
  limit = 0;
  one_moment = true;
}

-- How long what it tells lasts: the TTL, and the seconds up to the last one of the signatures that end first.
abbrev pub validity : Validity
validity = record { ttl = 3600; seconds = 500 }
