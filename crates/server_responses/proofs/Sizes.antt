-- How many octets records have, at least.
use Rattle.std.proofs.Common.{◌≡◌, ℕ, ◌+◌, ◌*◌, ◌<◌, ◌≤◌, Bool, true, false, List, [], ◌∷◌, ◌++◌, Some, None, ap, arith, cond, length, length-append, nat_le, refl, sym, ◌∙◌}
use Rattle.std.specs.Prelude.{if◌then◌else◌}
use Rattle.std.specs.Int.{w16, w32, to_be_bytes}
use Rattle.std.specs.List.{flat_map}
use Rattle.std.proofs.lemmas.List.{append-nil}
use Rattle.definitions.specs.Name.{wire}
use Rattle.messages.specs.Message.{Spelled, pair}
use Rattle.messages.specs.Written.{Written, question_octets, record_octets}
use Rattle.messages.proofs.Lists.{some_is}
use Rattle.messages.proofs.MessageWritten.{record_parts, wire-length}
use Rattle.messages.proofs.NameLaws.{wire_len-some}
use Rattle.server_queries.specs.Queries.{Queried}
use Rattle.server_queries.specs.Replies.{edns_octets, one_if_some}
use Rattle.server_responses.specs.Responses.{answers_shown, authority_shown, head_octets, response_flags, whole_response}

-- an owner of one octet, type, class, TTL and length (RFC 1035, 4.1.3)
eleven : (r : Written) → 11 ≤ length (record_octets r)
eleven r =
    let tail = to_be_bytes w16 (length r.octets) ++ (r.octets ++ []) in
    let rest = to_be_bytes w16 r.rtype ++ (to_be_bytes w16 r.class ++ (to_be_bytes w32 r.ttl ++ tail)) in
    omega (
      arith,
      ap length (sym (append-nil (record_octets r)) ∙ record_parts r []),
      length-append (wire r.owner) rest,
      length-append (to_be_bytes w16 r.rtype) (to_be_bytes w16 r.class ++ (to_be_bytes w32 r.ttl ++ tail)),
      length-append (to_be_bytes w16 r.class) (to_be_bytes w32 r.ttl ++ tail),
      length-append (to_be_bytes w32 r.ttl) tail,
      length-append (to_be_bytes w16 (length r.octets)) (r.octets ++ []),
      wire-length r.owner,
      wire_len-some r.owner,
    )

pub elevens : (rs : List Written) → length rs * 11 ≤ length (flat_map record_octets rs)
elevens [] = omega arith
elevens (r ∷ rs) = omega (arith, length-append (record_octets r) (flat_map record_octets rs), eleven r, elevens rs)

-- octets within others
pub inside : (a b c d : List ℕ) → length c ≤ length (a ++ (b ++ c) ++ d)
inside a b c d = omega (arith, length-append (a ++ (b ++ c)) d, length-append a (b ++ c), length-append b c)

-- more records than a message has room for
pub too_many : (size : ℕ) (q : Queried) (m : List ℕ) (rs : List Spelled) (more : List Written) → 5957 < length more → 65535 < length (whole_response size q m rs more)
too_many size q m rs more many =
    let answers = answers_shown q m rs in
    let authority = authority_shown q m rs in
    let front = head_octets q.header.id (response_flags q.header (pair m 2) false) (length answers) (length authority) (length more + one_if_some q.edns) ++ question_octets q.asked.name q.asked.rtype q.asked.class in
    let before = flat_map record_octets answers ++ flat_map record_octets authority in
    let own : length (flat_map record_octets more) ≤ length (whole_response size q m rs more) = inside front before (flat_map record_octets more) (edns_octets size 0 q.edns) in
    omega (arith, many, elevens more, own)

-- ---- whether a response is whole

no_some : (x : List ℕ) → Some x ≡ None → ⊥
no_some x e = cc

no_none : (x : List ℕ) → None ≡ Some x → ⊥
no_none x e = cc

pub when_whole : (limit : ℕ) (w t x : List ℕ) → Some x ≡ (if nat_le (length w) limit then Some w else None) → x ≡ (if nat_le (length w) limit then w else t)
when_whole limit w t x e = go (nat_le (length w) limit) e
  where
    go : (b : Bool) → Some x ≡ cond b (Some w) None → x ≡ cond b w t
    go true h = some_is x w h
    go false h = absurd (no_some x h)

pub when_cut : (limit : ℕ) (w t : List ℕ) → None ≡ (if nat_le (length w) limit then Some w else None) → t ≡ (if nat_le (length w) limit then w else t)
when_cut limit w t e = go (nat_le (length w) limit) e
  where
    go : (b : Bool) → None ≡ cond b (Some w) None → t ≡ cond b w t
    go true h = absurd (no_none w h)
    go false h = refl
