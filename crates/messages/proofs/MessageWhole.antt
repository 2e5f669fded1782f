-- A whole message that is written reads back.
use Rattle.std.proofs.Common.{◌≡◌, ℕ, ◌+◌, List, [], ◌∷◌, ◌++◌, length, Result, Ok, refl, sym, ap, ◌∙◌, append_assoc, length-append, lit<, arith}
use Rattle.std.specs.List.{AllByRecursion, flat_map}
use Rattle.std.specs.Int.{w16, to_be_bytes}
use Rattle.std.proofs.lemmas.List.{append-nil}
use Rattle.std.proofs.lemmas.List.Concat.{flat_map-append}
use Rattle.definitions.specs.Name.{wire, wire_len}
use Rattle.definitions.specs.Limits.{pointer_limit}
use Rattle.messages.specs.declared.error.MessageError.{MessageError}
use Rattle.messages.specs.Message.{Asked, Message, ◌>>=◌, u16_at, owner_at, asked_at, records_at}
use Rattle.messages.specs.Written.{Written, header_octets, question_octets, record_octets, message_octets}
use Rattle.messages.specs.WrittenLaws.{IsQuestion, IsRecord, AreSections, ReadsBack, first_place, spelled_from}
use Rattle.messages.proofs.MessageWritten.{StandsAt, past, bind_ok, u16_here, owner_here, wire-length, records_here, data_here}

parted : (z f o a u e w t c x y : List ℕ) → z ++ f ++ o ++ a ++ u ++ e ++ (w ++ t ++ c) ++ x ++ y ≡ z ++ (f ++ (o ++ (a ++ (u ++ (e ++ (w ++ (t ++ (c ++ (x ++ y)))))))))
parted z f o a u e w t c x y = simp append_assoc refl

-- the records of both sections
abbrev bodies : List Written → List Written → List ℕ
bodies answers authority = flat_map record_octets (answers ++ authority) ++ []

joined : (answers authority : List Written) → flat_map record_octets answers ++ flat_map record_octets authority ≡ bodies answers authority
joined answers authority = sym (flat_map-append record_octets answers authority) ∙ sym (append-nil (flat_map record_octets (answers ++ authority)))

message_parts : (flags : ℕ) (q : Asked) (answers authority : List Written) → message_octets flags q answers authority
    ≡ to_be_bytes w16 0 ++ (to_be_bytes w16 flags ++ (to_be_bytes w16 1 ++ (to_be_bytes w16 (length answers) ++ (to_be_bytes w16 (length authority) ++ (to_be_bytes w16 0 ++ (wire q.name ++ (to_be_bytes w16 q.rtype ++ (to_be_bytes w16 q.class ++ bodies answers authority))))))))
unfolding header_octets question_octets
message_parts flags q answers authority =
    parted (to_be_bytes w16 0) (to_be_bytes w16 flags) (to_be_bytes w16 1) (to_be_bytes w16 (length answers)) (to_be_bytes w16 (length authority)) (to_be_bytes w16 0) (wire q.name) (to_be_bytes w16 q.rtype) (to_be_bytes w16 q.class) (flat_map record_octets answers) (flat_map record_octets authority)
    ∙ ap (λ b. to_be_bytes w16 0 ++ (to_be_bytes w16 flags ++ (to_be_bytes w16 1 ++ (to_be_bytes w16 (length answers) ++ (to_be_bytes w16 (length authority) ++ (to_be_bytes w16 0 ++ (wire q.name ++ (to_be_bytes w16 q.rtype ++ (to_be_bytes w16 q.class ++ b))))))))) (joined answers authority)

-- the parts of a message, each with the octets from it on
record Parts (m : List ℕ) (flags : ℕ) (q : Asked) (answers authority : List Written) : Type 0 where
  questions : StandsAt m 4 (to_be_bytes w16 1 ++ (to_be_bytes w16 (length answers) ++ (to_be_bytes w16 (length authority) ++ (to_be_bytes w16 0 ++ (wire q.name ++ (to_be_bytes w16 q.rtype ++ (to_be_bytes w16 q.class ++ bodies answers authority)))))))
  answers_at : StandsAt m 6 (to_be_bytes w16 (length answers) ++ (to_be_bytes w16 (length authority) ++ (to_be_bytes w16 0 ++ (wire q.name ++ (to_be_bytes w16 q.rtype ++ (to_be_bytes w16 q.class ++ bodies answers authority))))))
  authority_at : StandsAt m 8 (to_be_bytes w16 (length authority) ++ (to_be_bytes w16 0 ++ (wire q.name ++ (to_be_bytes w16 q.rtype ++ (to_be_bytes w16 q.class ++ bodies answers authority)))))
  additional : StandsAt m 10 (to_be_bytes w16 0 ++ (wire q.name ++ (to_be_bytes w16 q.rtype ++ (to_be_bytes w16 q.class ++ bodies answers authority))))
  name : StandsAt m 12 (wire q.name ++ (to_be_bytes w16 q.rtype ++ (to_be_bytes w16 q.class ++ bodies answers authority)))
  rtype : StandsAt m (12 + wire_len q.name) (to_be_bytes w16 q.rtype ++ (to_be_bytes w16 q.class ++ bodies answers authority))
  class : StandsAt m (12 + wire_len q.name + 2) (to_be_bytes w16 q.class ++ bodies answers authority)
  records : StandsAt m (first_place q) (bodies answers authority)

parts : (m : List ℕ) (flags : ℕ) (q : Asked) (answers authority : List Written) → m ≡ message_octets flags q answers authority → Parts m flags q answers authority
parts m flags q answers authority e =
    let first = past m 0 2 (to_be_bytes w16 0) _ (record { front = []; whole = e ∙ message_parts flags q answers authority; place = refl }) refl in
    let questions = past m 2 4 (to_be_bytes w16 flags) _ first refl in
    let answers_at = past m 4 6 (to_be_bytes w16 1) _ questions refl in
    let authority_at = past m 6 8 (to_be_bytes w16 (length answers)) _ answers_at refl in
    let additional = past m 8 10 (to_be_bytes w16 (length authority)) _ authority_at refl in
    let name = past m 10 12 (to_be_bytes w16 0) _ additional refl in
    let rtype = past m 12 (12 + wire_len q.name) (wire q.name) _ name (ap (λ k. 12 + k) (sym (wire-length q.name))) in
    let class = past m (12 + wire_len q.name) (12 + wire_len q.name + 2) (to_be_bytes w16 q.rtype) _ rtype refl in
    record {
      questions = questions;
      answers_at = answers_at;
      authority_at = authority_at;
      additional = additional;
      name = name;
      rtype = rtype;
      class = class;
      records = past m (12 + wire_len q.name + 2) (first_place q) (to_be_bytes w16 q.class) _ class (omega arith);
    }

-- the records stand behind the question, to the end
pub records_stand : (m : List ℕ) (flags : ℕ) (q : Asked) (answers authority : List Written) → m ≡ message_octets flags q answers authority → StandsAt m (first_place q) (flat_map record_octets (answers ++ authority) ++ [])
records_stand m flags q answers authority e = (parts m flags q answers authority e).records

asked_here : (m : List ℕ) (flags : ℕ) (q : Asked) (answers authority : List Written) → IsQuestion q → Parts m flags q answers authority → asked_at pointer_limit m 12 ≡ Ok (q, first_place q)
asked_here m flags q answers authority is p =
    let n = 12 + wire_len q.name in
    bind_ok (owner_at pointer_limit m 12) (q.name, n) _ _ (owner_here m 12 q.name _ is.name p.name)
    (bind_ok (u16_at m n) q.rtype _ _ (u16_here m n q.rtype _ is.rtype p.rtype)
    (bind_ok (u16_at m (n + 2)) q.class _ _ (u16_here m (n + 2) q.class _ is.class p.class) refl))

all_append : (rs ss : List Written) → AllByRecursion IsRecord rs → AllByRecursion IsRecord ss → AllByRecursion IsRecord (rs ++ ss)
all_append [] ss h k = k
all_append (r ∷ rs) ss h k = (h.0, all_append rs ss h.1 k)

-- what follows the question
abbrev behind_question : List ℕ → ℕ → Asked × ℕ → Result Message MessageError
behind_question m count q = records_at count pointer_limit m q.1 >>= λ rs. Ok (record { asked = q.0; records = rs })

-- what follows the counts
abbrev body : List ℕ → ℕ → Result Message MessageError
body m count = asked_at pointer_limit m 12 >>= λ q. behind_question m count q

pub message_here : (m : List ℕ) (flags : ℕ) (q : Asked) (answers authority : List Written) → m ≡ message_octets flags q answers authority → IsQuestion q → AreSections answers authority → ReadsBack m q (answers ++ authority)
message_here m flags q answers authority e is are =
    let p = parts m flags q answers authority e in
    let rs = answers ++ authority in
    let each = all_append answers authority are.answers_are are.authority_are in
    let total = length answers + length authority + 0 in
    let count : total ≡ length rs = omega (arith, length-append answers authority) in
    let records = ap (λ n. records_at n pointer_limit m (first_place q)) count ∙ records_here rs m (first_place q) [] each p.records in
    record {
      reads =
          bind_ok (u16_at m 4) 1 _ _ (u16_here m 4 1 _ (lit< tt) p.questions)
          (bind_ok (u16_at m 6) (length answers) _ _ (u16_here m 6 (length answers) _ are.answers_fit p.answers_at)
          (bind_ok (u16_at m 8) (length authority) _ _ (u16_here m 8 (length authority) _ are.authority_fit p.authority_at)
          (bind_ok (u16_at m 10) 0 (λ k. body m (length answers + length authority + k)) _ (u16_here m 10 0 _ (lit< tt) p.additional)
          (bind_ok (asked_at pointer_limit m 12) (q, first_place q) (behind_question m total) _ (asked_here m flags q answers authority is p)
          (bind_ok (records_at total pointer_limit m (first_place q)) (spelled_from (first_place q) rs) (λ found. Ok (record { asked = q; records = found })) _ records refl)))));
      octets = data_here rs m (first_place q) [] p.records;
    }
