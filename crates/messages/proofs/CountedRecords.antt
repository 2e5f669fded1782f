-- A message has no more records than its header counts.
use Rattle.std.proofs.Common.{arith, Fits, w8, ◌≡◌, ℕ, ◌+◌, ◌≤◌, length, List, [], get_or, refl, sym, map, ap, ◌∙◌}
use Rattle.std.specs.Prelude.{IfOk, IsOk, Result, Ok, Err}
use Rattle.std.proofs.lemmas.List.{length-map}
use Rattle.messages.specs.Record.{spelled}
use Rattle.messages.specs.declared.view.ViewRecord.{ViewRecord}
use Rattle.messages.specs.View.{Gives, records_read}
use Rattle.messages.specs.declared.error.MessageError.{MessageError}
use Rattle.messages.specs.Message.{AreOctets, Message, Spelled, records_at, message}
use Rattle.messages.proofs.MessageParts.{headed, number_there, octets_all, records_at-length}
use Rattle.definitions.specs.Limits.{pointer_limit}

-- of records that are known to be there
pub read_length : (n : ℕ) (m : List ℕ) (p : ℕ) → IsOk (records_at n pointer_limit m p) → length (records_read n m p) ≡ n
read_length n m p h = go (records_at n pointer_limit m p) refl h
  where
    go : (r : Result (List Spelled) MessageError) → records_at n pointer_limit m p ≡ r → IsOk r → length (elim r as (λ _. List Spelled) [ Ok rs ↦ rs | Err e ↦ [] ]) ≡ n
    go (Ok rs) e h = records_at-length n pointer_limit m p rs e
    go (Err f) e h = cc

-- three counts of 16 bits
pub few_records : (k : ℕ) (m : List ℕ) (r : Message) → AreOctets m → message k m ≡ Ok r → length r.records ≤ 196605
few_records k m r o reads =
    let h = headed k m r reads in
    let len = records_at-length (h.answers + h.authority + h.additional) k m h.behind r.records h.records in
    omega (arith, len, (number_there m 6 h.answers o h.answers_at).1, (number_there m 8 h.authority o h.authority_at).1, (number_there m 10 h.additional o h.additional_at).1)

-- what was read of octets
pub few_read : (m : List ℕ) (result : Result Message MessageError) → ((i : ℕ) → Fits w8 (get_or m i 0)) → Gives (λ v. v) result (message pointer_limit m) → IfOk result (λ v. length v.records ≤ 196605)
few_read m (Ok v) small gives = few_records pointer_limit m v (octets_all m (λ i. let s = small i in omega arith)) gives
few_read m (Err e) small gives = tt

pub same_count : (rs : List ViewRecord) (ss : List Spelled) → map spelled rs ≡ ss → length rs ≡ length ss
same_count rs ss e = sym (length-map rs spelled) ∙ ap length e
