-- Responses as they are written read back.
use Rattle.std.proofs.Common.{◌≡◌, ℕ, ◌+◌, ◌*◌, ◌/◌, ◌%◌, ◌<◌, ◌≤◌, Bool, true, false, List, [], ◌∷◌, ◌++◌, length, Option, Some, None, Ok, cond, nat_le, refl, sym, ap, ◌∙◌, append_assoc, eqb, length-append, arith, leb-true, lit<, lit≤}
use Rattle.std.specs.Int.{w16, to_be_bytes}
use Rattle.std.specs.List.{AllByRecursion, flat_map}
use Rattle.std.proofs.Math.Nat.{mod-lt}
use Rattle.std.proofs.lemmas.Bool.{eq-eqb, true≢false}
use Rattle.std.proofs.lemmas.List.{append-nil}
use Rattle.std.proofs.lemmas.List.Concat.{flat_map-append}
use Rattle.definitions.specs.Limits.{pointer_limit}
use Rattle.definitions.specs.Name.{wire}
use Rattle.messages.specs.Message.{Asked, Message, message, pair}
use Rattle.messages.specs.Written.{Written, question_octets, record_octets, written}
use Rattle.messages.specs.WrittenLaws.{IsQuestion, IsRecord, first_place, spelled_from}
use Rattle.messages.proofs.MessageWritten.{StandsAt}
use Rattle.message_laws.specs.SeenAlike.{is_used_type}
use Rattle.server_answers.proofs.WritesGroups.{Holds, all_records, count_of}
use Rattle.server_queries.specs.Headers.{has_flag}
use Rattle.server_queries.specs.Queries.{Queried}
use Rattle.server_queries.specs.Replies.{edns_octets, one_if_some, opt_bits, opt_octets}
use Rattle.server_queries.specs.declared.edns.Edns.{Edns}
use Rattle.server_responses.specs.Responses.{counted, head_octets, reply_octets, response_flags, truncated_response}
use Rattle.server_laws.specs.Heard.{is_truncated}
use Rattle.server_laws.proofs.Framed.{flags_of, framed, read_framed, records_of}
use Rattle.server_laws.proofs.Lists.{all_joined}

-- what records that are written from their first place on read as
abbrev pub message_of : Asked → List Written → Message
message_of asked ws = record { asked = asked; records = spelled_from (first_place asked) ws }

-- ---- OPT records

-- as a record: of the root, without data (RFC 6891, 6.1.2)
pub opts : ℕ → Option Edns → List Written
opts size None = []
opts size (Some e) = written [] 41 size (opt_bits 0 e.dnssec_ok) [] ∷ []

opts_octets : (size : ℕ) (e : Option Edns) → edns_octets size 0 e ≡ flat_map record_octets (opts size e)
unfolding opts opt_octets record_octets
opts_octets size None = refl
opts_octets size (Some e) = refl

opts_count : (size : ℕ) (e : Option Edns) → one_if_some e ≡ length (opts size e)
unfolding opts
opts_count size None = refl
opts_count size (Some e) = refl

bits_small : (b : Bool) → opt_bits 0 b < 4294967296
bits_small true = lit< tt
bits_small false = lit< tt

opts_hold : (size : ℕ) (e : Option Edns) → size < 65536 → AllByRecursion Holds (opts size e)
unfolding opts
opts_hold size None small = tt
opts_hold size (Some e) small = (record { owner = record { labels = tt; short = lit≤ tt }; rtype = lit< tt; class = small; ttl = bits_small e.dnssec_ok }, tt)

-- records of types that are not used
abbrev pub IsUnused : ℕ → Written → Type 0
IsUnused t w = is_used_type t w.rtype ≡ false

pub unused_opts : (t size : ℕ) (e : Option Edns) → eqb 41 t ≡ false → AllByRecursion (IsUnused t) (opts size e)
unfolding opts
unused_opts t size None other = tt
unused_opts t size (Some e) other = (other, tt)

-- ---- responses as they are written

parted : (z f o a u e w t c x d : List ℕ) → z ++ f ++ o ++ (a ++ u ++ e) ++ (w ++ t ++ c) ++ x ++ d ≡ z ++ (f ++ (o ++ (a ++ (u ++ (e ++ (w ++ (t ++ (c ++ (x ++ d)))))))))
parted z f o a u e w t c x d = simp append_assoc refl

reply_framed : (size : ℕ) (q : Queried) (flags a u e : ℕ) (records : List ℕ)
    → reply_octets size q flags (counted a u e) records ≡ framed q.header.id flags a u (e + one_if_some q.edns) q.asked (records ++ edns_octets size 0 q.edns)
unfolding head_octets question_octets
reply_framed size q flags a u e records =
    parted (to_be_bytes w16 q.header.id) (to_be_bytes w16 flags) (to_be_bytes w16 1) (to_be_bytes w16 a) (to_be_bytes w16 u) (to_be_bytes w16 (e + one_if_some q.edns)) (wire q.asked.name) (to_be_bytes w16 q.asked.rtype) (to_be_bytes w16 q.asked.class) records (edns_octets size 0 q.edns)

-- ---- flags with TC

tc_small : (a b c : ℕ) → a < 2 → b < 2 → c < 16 → 32768 + a * 1024 + 512 + b * 256 + c < 65536
tc_small a b c p q r = omega (arith, p, q, r)

tc_set : (a b c : ℕ) → b < 2 → c < 16 → (32768 + a * 1024 + 512 + b * 256 + c) / 512 % 2 ≡ 1
tc_set a b c q r = omega (arith, q, r)

-- ---- the response that has TC

module _ (size : ℕ) (q : Queried) (m : List ℕ) where
  flags_small : response_flags q.header (pair m 2) true < 65536
  flags_small = tc_small (pair m 2 / 1024 % 2) (q.header.flags / 256 % 2) (pair m 2 % 16) (mod-lt (pair m 2 / 1024) (lit< tt)) (mod-lt (q.header.flags / 256) (lit< tt)) (mod-lt (pair m 2) (lit< tt))

  cut_flags : pair (truncated_response size q m) 2 ≡ response_flags q.header (pair m 2) true
  cut_flags = flags_of (truncated_response size q m) q.header.id (response_flags q.header (pair m 2) true) 0 0 (0 + one_if_some q.edns) q.asked _ (reply_framed size q (response_flags q.header (pair m 2) true) 0 0 0 []) flags_small

  cut_is_told : is_truncated (truncated_response size q m) ≡ true
  cut_is_told = ap (λ n. has_flag 512 n) cut_flags ∙ eq-eqb (response_flags q.header (pair m 2) true / 512 % 2) 1
      (tc_set (pair m 2 / 1024 % 2) (q.header.flags / 256 % 2) (pair m 2 % 16) (mod-lt (q.header.flags / 256) (lit< tt)) (mod-lt (pair m 2) (lit< tt)))

  -- or all octets, where they are no more than a limit
  abbrev pub limited : ℕ → List ℕ → List ℕ
  limited limit whole = cond (nat_le (length whole) limit) whole (truncated_response size q m)

  -- where TC is clear all are there
  pub whole_where_clear : (limit : ℕ) (whole : List ℕ) → is_truncated (limited limit whole) ≡ false → (limited limit whole ≡ whole) × (length whole ≤ limit)
  whole_where_clear limit whole clear = choose (nat_le (length whole) limit) refl clear
    where
      choose : (b : Bool) → nat_le (length whole) limit ≡ b → is_truncated (cond b whole (truncated_response size q m)) ≡ false → (limited limit whole ≡ whole) × (length whole ≤ limit)
      choose true e c = (ap (λ b. cond b whole (truncated_response size q m)) e, leb-true (length whole) limit e)
      choose false e c = absurd (true≢false (sym cut_is_told ∙ c))

-- ---- responses with records

-- with these flags of a message, and these records, as many as the header counts
module _ (size : ℕ) (q : Queried) (small : size < 65536) (fits : IsQuestion q.asked) (bits a u e : ℕ) (rs : List Written) (counted_is : a + u + e ≡ length rs) (hold : AllByRecursion Holds rs) where
  abbrev pub replied : List ℕ
  replied = reply_octets size q (response_flags q.header bits false) (counted a u e) (flat_map record_octets rs)

  -- its records, of which OPT is the last
  abbrev pub all_replied : List Written
  all_replied = rs ++ opts size q.edns

  abbrev extra : ℕ
  extra = e + one_if_some q.edns

  octets_are : flat_map record_octets rs ++ edns_octets size 0 q.edns ≡ flat_map record_octets all_replied ++ []
  octets_are =
      ap (λ x. flat_map record_octets rs ++ x) (opts_octets size q.edns)
      ∙ sym (flat_map-append record_octets rs (opts size q.edns))
      ∙ sym (append-nil (flat_map record_octets all_replied))

  is_framed : replied ≡ framed q.header.id (response_flags q.header bits false) a u extra q.asked (flat_map record_octets all_replied ++ [])
  is_framed =
      reply_framed size q (response_flags q.header bits false) a u e (flat_map record_octets rs)
      ∙ ap (framed q.header.id (response_flags q.header bits false) a u extra q.asked) octets_are

  counted_all : a + u + extra ≡ length all_replied
  counted_all = omega (arith, counted_is, length-append rs (opts size q.edns), opts_count size q.edns)

  pub replied_stands : StandsAt replied (first_place q.asked) (flat_map record_octets all_replied ++ [])
  replied_stands = records_of replied q.header.id (response_flags q.header bits false) a u extra q.asked _ is_framed

  -- records of a message of at most 65,535 octets
  all_short : length replied ≤ 65535 → length (flat_map record_octets all_replied) ≤ 65535
  all_short few =
      let octets = flat_map record_octets all_replied in
      omega (arith, few, ap length replied_stands.whole, length-append replied_stands.front (octets ++ []), length-append octets [])

  each_record : length replied ≤ 65535 → AllByRecursion IsRecord all_replied
  each_record few = all_records all_replied 65535 (all_joined Holds rs (opts size q.edns) hold (opts_hold size q.edns small)) (all_short few) (lit< tt)

  -- the header can count so many
  total_fits : length replied ≤ 65535 → a + u + extra ≤ 65535
  total_fits few = omega (arith, all_short few, count_of all_replied, counted_all)

  pub replied_reads : length replied ≤ 65535 → message pointer_limit replied ≡ Ok (message_of q.asked all_replied)
  replied_reads few =
      let fit = total_fits few in
      read_framed replied q.header.id (response_flags q.header bits false) a u extra q.asked all_replied [] is_framed fits
      (omega (arith, fit)) (omega (arith, fit)) (omega (arith, fit)) (each_record few) counted_all
