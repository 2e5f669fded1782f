-- Messages in front of octets.
use Rattle.std.proofs.Common.{◌≡◌, ℕ, ◌<◌, List, ◌++◌, Some, None, sym, ap, ◌∙◌}
use Rattle.std.specs.Int.{w16, to_be_bytes, from_be_bytes}
use Rattle.std.proofs.lemmas.Nat.{be_bytes_2}
use Rattle.names_rdata.specs.Composing.{with_length}
use Rattle.answer_judge_octets.specs.EntryLaws.{once_short}
use Rattle.answer_judge_octets.specs.Written.{IsLong, IsShort, Splits, with_long_length}
use Rattle.answer_judge_octets.proofs.PartsSplit.{AreOctets, IsFirst, front_length, small_front, whole}
use Rattle.resolution_octets.specs.Sent.{FitsSent, IsTwoOctets, Sent, sent_octets}
use Rattle.resolution_octets.specs.SentOnce.{once_number, parted}

-- a number in two octets, and what stands behind it
pub number_in_front : (octets front rest : List ℕ) (n : ℕ) → AreOctets octets → IsFirst 2 octets front rest → n ≡ from_be_bytes w16 front → n < 65536 → Splits IsTwoOctets (to_be_bytes w16) octets (Some (n, rest))
number_in_front octets front rest n small is says fits =
    let spelled : to_be_bytes w16 n ≡ front = be_bytes_2 front n (front_length 2 octets front rest is) (small_front 2 octets front rest small is) says in
    (fits, whole 2 octets front rest is ∙ ap (λ (f : List ℕ). f ++ rest) (sym spelled))

pub no_zone_part : (octets : List ℕ) → Splits IsShort with_length octets None → Splits FitsSent sent_octets octets None
no_zone_part octets none s behind fits e = none s.zone _ fits.zone (e ∙ parted s behind)

module _ (octets zone second : List ℕ) (short : IsShort zone) (is : octets ≡ with_length zone ++ second) where
  -- what stands behind the zone of a message
  behind_zone : (s : Sent) (behind : List ℕ) → FitsSent s → octets ≡ sent_octets s ++ behind
      → (zone ≡ s.zone) × (second ≡ with_length s.name ++ (to_be_bytes w16 s.rtype ++ (with_long_length s.octets ++ behind)))
  behind_zone s behind fits e = once_short zone s.zone second _ short fits.zone (sym is ∙ e ∙ parted s behind)

  pub no_name_part : Splits IsShort with_length second None → Splits FitsSent sent_octets octets None
  no_name_part none s behind fits e = none s.name _ fits.name (behind_zone s behind fits e).1

  module _ (name third : List ℕ) (small : IsShort name) (second_is : second ≡ with_length name ++ third) where
    behind_name : (s : Sent) (behind : List ℕ) → FitsSent s → octets ≡ sent_octets s ++ behind
        → (name ≡ s.name) × (third ≡ to_be_bytes w16 s.rtype ++ (with_long_length s.octets ++ behind))
    behind_name s behind fits e = once_short name s.name third _ small fits.name (sym second_is ∙ (behind_zone s behind fits e).1)

    pub no_type_part : Splits IsTwoOctets (to_be_bytes w16) third None → Splits FitsSent sent_octets octets None
    no_type_part none s behind fits e = none s.rtype _ fits.rtype (behind_name s behind fits e).1

    module _ (rtype : ℕ) (fourth : List ℕ) (two_octets : IsTwoOctets rtype) (third_is : third ≡ to_be_bytes w16 rtype ++ fourth) where
      behind_type : (s : Sent) (behind : List ℕ) → FitsSent s → octets ≡ sent_octets s ++ behind
          → (rtype ≡ s.rtype) × (fourth ≡ with_long_length s.octets ++ behind)
      behind_type s behind fits e = once_number rtype s.rtype fourth _ two_octets fits.rtype (sym third_is ∙ (behind_name s behind fits e).1)

      pub no_message_part : Splits IsLong with_long_length fourth None → Splits FitsSent sent_octets octets None
      no_message_part none s behind fits e = none s.octets behind fits.octets (behind_type s behind fits e).1

      -- a message, part by part
      pub some_sent_part : (message behind : List ℕ) → IsLong message → fourth ≡ with_long_length message ++ behind
          → Splits FitsSent sent_octets octets (Some (record { zone = zone; name = name; rtype = rtype; octets = message }, behind))
      some_sent_part message behind long fourth_is =
          let s : Sent = record { zone = zone; name = name; rtype = rtype; octets = message } in
          let parts : with_length zone ++ second ≡ with_length zone ++ (with_length name ++ (to_be_bytes w16 rtype ++ (with_long_length message ++ behind))) =
          ap (λ (r : List ℕ). with_length zone ++ r) (second_is ∙ ap (λ (r : List ℕ). with_length name ++ r) (third_is ∙ ap (λ (r : List ℕ). to_be_bytes w16 rtype ++ r) fourth_is))
          in
          (record { zone = short; name = small; rtype = two_octets; octets = long }, is ∙ parts ∙ sym (parted s behind))
