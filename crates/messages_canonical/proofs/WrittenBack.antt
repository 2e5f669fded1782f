-- What is written in canonical form reads back.
use Rattle.std.proofs.Common.{◌≡◌, ℕ, ◌+◌, ◌<◌, ◌≤◌, List, [], ◌∷◌, ◌++◌, length, take, drop, Result, Ok, refl, sym, ap, ◌∙◌, append_assoc, length-append, length-take, arith}
use Rattle.std.specs.Int.{w16, to_be_bytes}
use Rattle.std.specs.List.{AllByRecursion, flat_map}
use Rattle.std.proofs.lemmas.List.{append-nil, length-map, take-append-drop}
use Rattle.definitions.specs.Name.{wire, wire_len}
use Rattle.definitions.specs.Limits.{pointer_limit}
use Rattle.messages.specs.declared.error.MessageError.{MessageError}
use Rattle.messages.specs.Message.{AreOctets, Asked, Message, Spelled, ◌>>=◌, asked_at, message, one_question, owner_at, records_at, u16_at}
use Rattle.messages.specs.Written.{Written, question_octets, record_octets}
use Rattle.messages.specs.WrittenLaws.{IsRecord, ReadsBack, first_place, spelled_from}
use Rattle.messages.proofs.MessageWritten.{StandsAt, bind_ok, data_here, owner_here, past, records_here, u16_here, wire-length}
use Rattle.messages_canonical.specs.Canonical.{canonical_octets, canonical_record, canonical_records, head_octets, most_octets}
use Rattle.messages_canonical.specs.Laws.{CanonicalReadsBack}
use Rattle.messages_canonical.proofs.NamesRead.{ReadsRecord}
use Rattle.messages_canonical.proofs.Pieces.{data_fit}
use Rattle.messages_canonical.proofs.HeadRead.{HeadOf, head_of, number_front}

-- ---- records that fit

all_fit : (k : ℕ) (m : List ℕ) (rs : List Spelled) → AllByRecursion ReadsRecord rs → length (flat_map record_octets (canonical_records k m rs)) ≤ most_octets → AllByRecursion IsRecord (canonical_records k m rs)
all_fit k m [] h short = tt
all_fit k m (r ∷ rs) h short =
    let w = canonical_record k m r in
    let both = length-append (record_octets w) (flat_map record_octets (canonical_records k m rs)) in
    let fit = data_fit w in
    (record { owner = h.0.owner; rtype = h.0.rtype; class = h.0.class; ttl = h.0.ttl; octets = omega (arith, both, fit, short) }, all_fit k m rs h.1 (omega (arith, both, short)))

-- ---- the whole

module _ (m : List ℕ) (read : Message) (o : AreOctets m) (reads : message pointer_limit m ≡ Ok read) (short : length (canonical_octets pointer_limit m read) ≤ most_octets) where
  abbrev new : List ℕ
  new = canonical_octets pointer_limit m read

  abbrev q : Asked
  q = read.asked

  abbrev ws : List Written
  ws = canonical_records pointer_limit m read.records

  abbrev body : List ℕ
  body = flat_map record_octets ws

  head : HeadOf pointer_limit m read
  head = head_of pointer_limit m read o reads

  twelve : length (take 12 m) ≡ 12
  twelve = omega (arith, length-take 12 m, head.long)

  apart : new ≡ take 12 m ++ (question_octets q.name q.rtype q.class ++ body)
  apart = append_assoc (take 12 m) (question_octets q.name q.rtype q.class) body

  old_is : m ≡ take 12 m ++ drop 12 m
  old_is = sym (take-append-drop 12 m)

  same_number : (p : ℕ) → p + 1 < 12 → u16_at new p ≡ u16_at m p
  same_number p h =
      let inside : p + 1 < length (take 12 m) = omega (arith, twelve, h) in
      ap (λ (l : List ℕ). u16_at l p) apart ∙ number_front (take 12 m) (question_octets q.name q.rtype q.class ++ body) (drop 12 m) p inside ∙ ap (λ (l : List ℕ). u16_at l p) (sym old_is)

  question_stands : StandsAt new 12 (wire q.name ++ (to_be_bytes w16 q.rtype ++ (to_be_bytes w16 q.class ++ (body ++ []))))
  unfolding question_octets
  question_stands =
      let w = wire q.name in
      let t = to_be_bytes w16 q.rtype in
      let c = to_be_bytes w16 q.class in
      let grouped : (w ++ t ++ c) ++ body ≡ w ++ (t ++ (c ++ (body ++ []))) = append_assoc (w ++ t) c body ∙ append_assoc w t (c ++ body) ∙ ap (λ (l : List ℕ). w ++ (t ++ (c ++ l))) (sym (append-nil body)) in
      record { front = take 12 m; whole = apart ∙ ap (λ (l : List ℕ). take 12 m ++ l) grouped; place = sym twelve }

  type_stands : StandsAt new (12 + wire_len q.name) (to_be_bytes w16 q.rtype ++ (to_be_bytes w16 q.class ++ (body ++ [])))
  type_stands = past new 12 (12 + wire_len q.name) (wire q.name) _ question_stands (ap (λ k. 12 + k) (sym (wire-length q.name)))

  class_stands : StandsAt new (12 + wire_len q.name + 2) (to_be_bytes w16 q.class ++ (body ++ []))
  class_stands = past new (12 + wire_len q.name) (12 + wire_len q.name + 2) (to_be_bytes w16 q.rtype) _ type_stands refl

  records_stand : StandsAt new (first_place q) (body ++ [])
  records_stand = past new (12 + wire_len q.name + 2) (first_place q) (to_be_bytes w16 q.class) _ class_stands (omega arith)

  asked_here : asked_at pointer_limit new 12 ≡ Ok (q, first_place q)
  asked_here =
      let n = 12 + wire_len q.name in
      bind_ok (owner_at pointer_limit new 12) (q.name, n) _ _ (owner_here new 12 q.name _ head.asked.name question_stands)
      (bind_ok (u16_at new n) q.rtype _ _ (u16_here new n q.rtype _ head.asked.rtype type_stands)
      (bind_ok (u16_at new (n + 2)) q.class _ _ (u16_here new (n + 2) q.class _ head.asked.class class_stands) refl))

  body_short : length body ≤ most_octets
  body_short = omega (arith, length-append (head_octets m q) body, short)

  count_is : head.parts.answers + head.parts.authority + head.parts.additional ≡ length ws
  count_is = head.count ∙ sym (length-map read.records (canonical_record pointer_limit m))

  records_are : records_at (head.parts.answers + head.parts.authority + head.parts.additional) pointer_limit new (first_place q) ≡ Ok (spelled_from (first_place q) ws)
  records_are =
      ap (λ n. records_at n pointer_limit new (first_place q)) count_is
      ∙ records_here ws new (first_place q) [] (all_fit pointer_limit m read.records head.records body_short) records_stand

  -- what follows the question
  abbrev behind_question : ℕ → Asked × ℕ → Result Message MessageError
  behind_question count a = records_at count pointer_limit new a.1 >>= λ rs. Ok (record { asked = a.0; records = rs })

  -- what follows the counts
  abbrev behind_counts : ℕ → ℕ → Result Message MessageError
  behind_counts questions count = one_question questions >>= λ only. (asked_at pointer_limit new 12 >>= λ a. behind_question count a)

  pub reads_back : ReadsBack new q ws
  reads_back =
      let total = head.parts.answers + head.parts.authority + head.parts.additional in
      record {
        reads =
            bind_ok (u16_at new 4) head.parts.questions _ _ (same_number 4 (omega arith) ∙ head.parts.questions_at)
            (bind_ok (u16_at new 6) head.parts.answers _ _ (same_number 6 (omega arith) ∙ head.parts.answers_at)
            (bind_ok (u16_at new 8) head.parts.authority _ _ (same_number 8 (omega arith) ∙ head.parts.authority_at)
            (bind_ok (u16_at new 10) head.parts.additional (λ k. behind_counts head.parts.questions (head.parts.answers + head.parts.authority + k)) _ (same_number 10 (omega arith) ∙ head.parts.additional_at)
            (bind_ok (one_question head.parts.questions) head.parts.only (λ only. asked_at pointer_limit new 12 >>= λ a. behind_question total a) _ head.parts.one
            (bind_ok (asked_at pointer_limit new 12) (q, first_place q) (behind_question total) _ asked_here
            (bind_ok (records_at total pointer_limit new (first_place q)) (spelled_from (first_place q) ws) (λ rs. Ok (record { asked = q; records = rs })) _ records_are refl))))));
        octets = data_here ws new (first_place q) [] records_stand;
      }

pub canonical_back : CanonicalReadsBack
canonical_back m read o reads short = reads_back m read o reads short
