-- Messages whose header may say anything read back.
use Rattle.std.proofs.Common.{◌≡◌, ℕ, ◌+◌, ◌<◌, List, [], ◌++◌, length, Result, Ok, refl, sym, ap, ◌∙◌, append_assoc, lit<, arith}
use Rattle.std.specs.List.{AllByRecursion, flat_map}
use Rattle.std.specs.Int.{w16, to_be_bytes}
use Rattle.std.proofs.lemmas.List.{append-nil}
use Rattle.std.proofs.lemmas.List.Concat.{flat_map-append}
use Rattle.definitions.specs.Limits.{pointer_limit}
use Rattle.definitions.specs.Name.{wire, wire_len}
use Rattle.messages.specs.declared.error.MessageError.{MessageError}
use Rattle.messages.specs.Message.{Asked, Message, ◌>>=◌, asked_at, message, owner_at, pair, records_at, u16_at}
use Rattle.messages.specs.Written.{Written, header_octets, message_octets, question_octets, record_octets}
use Rattle.messages.specs.WrittenLaws.{IsQuestion, IsRecord, first_place, spelled_from}
use Rattle.messages.proofs.MessageSignatures.{pair_here}
use Rattle.messages.proofs.MessageWritten.{StandsAt, bind_ok, owner_here, past, records_here, u16_here, wire-length}

-- a question and what stands behind it
abbrev pub class_then : Asked → List ℕ → List ℕ
class_then q rest = to_be_bytes w16 q.class ++ rest

abbrev pub type_then : Asked → List ℕ → List ℕ
type_then q rest = to_be_bytes w16 q.rtype ++ class_then q rest

abbrev pub name_then : Asked → List ℕ → List ℕ
name_then q rest = wire q.name ++ type_then q rest

-- a header's counts, of records in three sections, and what stands behind them
abbrev pub two_then : ℕ → ℕ → Asked → List ℕ → List ℕ
two_then u e q rest = to_be_bytes w16 u ++ (to_be_bytes w16 e ++ name_then q rest)

abbrev pub counts_then : ℕ → ℕ → ℕ → Asked → List ℕ → List ℕ
counts_then a u e q rest = to_be_bytes w16 a ++ two_then u e q rest

-- a message of an id, flags, counts, and a question, before other octets
abbrev pub framed : ℕ → ℕ → ℕ → ℕ → ℕ → Asked → List ℕ → List ℕ
framed id flags a u e q rest = to_be_bytes w16 id ++ (to_be_bytes w16 flags ++ (to_be_bytes w16 1 ++ counts_then a u e q rest))

-- where its parts stand
record Parts (m : List ℕ) (flags a u e : ℕ) (q : Asked) (rest : List ℕ) : Type 0 where
  flags_at : StandsAt m 2 (to_be_bytes w16 flags ++ (to_be_bytes w16 1 ++ counts_then a u e q rest))
  questions : StandsAt m 4 (to_be_bytes w16 1 ++ counts_then a u e q rest)
  answers : StandsAt m 6 (counts_then a u e q rest)
  authority : StandsAt m 8 (two_then u e q rest)
  additional : StandsAt m 10 (to_be_bytes w16 e ++ name_then q rest)
  name : StandsAt m 12 (name_then q rest)
  rtype : StandsAt m (12 + wire_len q.name) (type_then q rest)
  class : StandsAt m (12 + wire_len q.name + 2) (class_then q rest)
  records : StandsAt m (first_place q) rest

parts : (m : List ℕ) (id flags a u e : ℕ) (q : Asked) (rest : List ℕ) → m ≡ framed id flags a u e q rest → Parts m flags a u e q rest
parts m id flags a u e q rest is =
    let flags_at = past m 0 2 (to_be_bytes w16 id) _ (record { front = []; whole = is; place = refl }) refl in
    let questions = past m 2 4 (to_be_bytes w16 flags) _ flags_at refl in
    let answers = past m 4 6 (to_be_bytes w16 1) _ questions refl in
    let authority = past m 6 8 (to_be_bytes w16 a) _ answers refl in
    let additional = past m 8 10 (to_be_bytes w16 u) _ authority refl in
    let name = past m 10 12 (to_be_bytes w16 e) _ additional refl in
    let rtype = past m 12 (12 + wire_len q.name) (wire q.name) _ name (ap (λ k. 12 + k) (sym (wire-length q.name))) in
    let class = past m (12 + wire_len q.name) (12 + wire_len q.name + 2) (to_be_bytes w16 q.rtype) _ rtype refl in
    record {
      flags_at = flags_at;
      questions = questions;
      answers = answers;
      authority = authority;
      additional = additional;
      name = name;
      rtype = rtype;
      class = class;
      records = past m (12 + wire_len q.name + 2) (first_place q) (to_be_bytes w16 q.class) _ class (omega arith);
    }

module _ (m : List ℕ) (id flags a u e : ℕ) (q : Asked) (rest : List ℕ) (is : m ≡ framed id flags a u e q rest) where
  pub flags_of : flags < 65536 → pair m 2 ≡ flags
  flags_of small = pair_here m 2 flags _ small (parts m id flags a u e q rest is).flags_at

  pub answers_of : a < 65536 → pair m 6 ≡ a
  answers_of small = pair_here m 6 a _ small (parts m id flags a u e q rest is).answers

  pub authority_of : u < 65536 → pair m 8 ≡ u
  authority_of small = pair_here m 8 u _ small (parts m id flags a u e q rest is).authority

  pub records_of : StandsAt m (first_place q) rest
  records_of = (parts m id flags a u e q rest is).records

asked_here : (m : List ℕ) (flags a u e : ℕ) (q : Asked) (rest : List ℕ) → IsQuestion q → Parts m flags a u e q rest → asked_at pointer_limit m 12 ≡ Ok (q, first_place q)
asked_here m flags a u e q rest is p =
    let n = 12 + wire_len q.name in
    bind_ok (owner_at pointer_limit m 12) (q.name, n) _ _ (owner_here m 12 q.name _ is.name p.name)
    (bind_ok (u16_at m n) q.rtype _ _ (u16_here m n q.rtype _ is.rtype p.rtype)
    (bind_ok (u16_at m (n + 2)) q.class _ _ (u16_here m (n + 2) q.class _ is.class p.class) refl))

abbrev behind_question : List ℕ → ℕ → Asked × ℕ → Result Message MessageError
behind_question m count q = records_at count pointer_limit m q.1 >>= λ rs. Ok (record { asked = q.0; records = rs })

abbrev body : List ℕ → ℕ → Result Message MessageError
body m count = asked_at pointer_limit m 12 >>= λ q. behind_question m count q

-- its records, as many as it counts
pub read_framed : (m : List ℕ) (id flags a u e : ℕ) (q : Asked) (rs : List Written) (rest : List ℕ) → m ≡ framed id flags a u e q (flat_map record_octets rs ++ rest) → IsQuestion q → a < 65536 → u < 65536 → e < 65536 → AllByRecursion IsRecord rs
    → a + u + e ≡ length rs → message pointer_limit m ≡ Ok (record { asked = q; records = spelled_from (first_place q) rs })
read_framed m id flags a u e q rs rest is fits answers authority additional each count =
    let p = parts m id flags a u e q (flat_map record_octets rs ++ rest) is in
    let total = a + u + e in
    let records = ap (λ n. records_at n pointer_limit m (first_place q)) count ∙ records_here rs m (first_place q) rest each p.records in
    bind_ok (u16_at m 4) 1 _ _ (u16_here m 4 1 _ (lit< tt) p.questions)
    (bind_ok (u16_at m 6) a _ _ (u16_here m 6 a _ answers p.answers)
    (bind_ok (u16_at m 8) u _ _ (u16_here m 8 u _ authority p.authority)
    (bind_ok (u16_at m 10) e (λ k. body m (a + u + k)) _ (u16_here m 10 e _ additional p.additional)
    (bind_ok (asked_at pointer_limit m 12) (q, first_place q) (behind_question m total) _ (asked_here m flags a u e q _ fits p)
    (bind_ok (records_at total pointer_limit m (first_place q)) (spelled_from (first_place q) rs) (λ found. Ok (record { asked = q; records = found })) _ records refl)))))

-- ---- messages of a publisher

parted : (z f o a u e w t c x y : List ℕ) → z ++ f ++ o ++ a ++ u ++ e ++ (w ++ t ++ c) ++ x ++ y ≡ z ++ (f ++ (o ++ (a ++ (u ++ (e ++ (w ++ (t ++ (c ++ (x ++ y)))))))))
parted z f o a u e w t c x y = simp append_assoc refl

pub both : (answers authority : List Written) → flat_map record_octets answers ++ flat_map record_octets authority ≡ flat_map record_octets (answers ++ authority) ++ []
both answers authority = sym (flat_map-append record_octets answers authority) ∙ sym (append-nil (flat_map record_octets (answers ++ authority)))

pub message_framed : (flags : ℕ) (q : Asked) (answers authority : List Written) → message_octets flags q answers authority ≡ framed 0 flags (length answers) (length authority) 0 q (flat_map record_octets (answers ++ authority) ++ [])
unfolding header_octets question_octets
message_framed flags q answers authority =
    parted (to_be_bytes w16 0) (to_be_bytes w16 flags) (to_be_bytes w16 1) (to_be_bytes w16 (length answers)) (to_be_bytes w16 (length authority)) (to_be_bytes w16 0) (wire q.name) (to_be_bytes w16 q.rtype) (to_be_bytes w16 q.class) (flat_map record_octets answers) (flat_map record_octets authority)
    ∙ ap (framed 0 flags (length answers) (length authority) 0 q) (both answers authority)
