use Rattle.std.proofs.Common.{◌≡◌, ◌++◌, List, ℕ, Ok, length, map, ap, ◌∙◌, arith, Some, subst}
use Rattle.std.specs.List.{flat_map}
use Rattle.definitions.specs.Limits.{pointer_limit}
use Rattle.messages.specs.Record.{spelled}
use Rattle.messages.specs.Written.{record_octets}
use Rattle.messages_canonical.specs.Canonical.{canonical_records, head_octets}
use Rattle.messages_canonical.proofs.Pieces.{when_true}
use Rattle.messages_canonical.specs.Walking.{FindsRecords}
use Rattle.messages_canonical.proofs.Seen.{all_stand}
use Rattle.messages_canonical.proofs.Whole.{canonical_is, head_short}
use Rattle.messages_canonical.proofs.message.canonical_message.Goals as goal

pub push_records-requires-clause-short : goal.push_records-requires-clause-short
push_records-requires-clause-short c =
    let m = c.args.bytes.now in
    let read = c.in_ok-view.view in
    let head : c.push_head.new.octets.items ≡ head_octets m read.asked = c.in_ok-push_head.ensures ∙ ap (λ (l : List ℕ). l ++ head_octets m read.asked) c.in_ok-octets.ensures.items in
    let short = head_short m read (λ i. (c.type_inv.bytes i).fits) c.in_ok-view.ensures.exact in
    omega (arith, ap length head, short)

pub push_records-requires-clause-placed : goal.push_records-requires-clause-placed
push_records-requires-clause-placed c =
    let m = c.args.bytes.now in
    let read = c.in_ok-view.view in
    let rs = c.deref.result.now in
    let was : c.in_ok-view.listed ≡ Ok c.in_ok-listed.field-0 = c.in_ok-listed.was in
    let listed = rw was at c.in_ok-view.ensures.listed in
    let all : map spelled rs ≡ read.records = ap (map spelled) c.deref.ensures.value ∙ listed ∙ ap (λ l. map spelled l ++ read.records) c.new-records.ensures.items in
    let finds : FindsRecords m (Some (c.unwrap-first.result.0, c.unwrap-first.result.1)) = subst (FindsRecords m) c.unwrap-first.ensures c.records_place.ensures in
    all_stand m read rs c.unwrap-first.result.0 c.unwrap-first.result.1 finds c.in_ok-view.ensures.exact all

pub returns-clause-ok : goal.returns-clause-ok
returns-clause-ok c =
    let m = c.args.bytes.now in
    let read = c.in_ok-view.view in
    let rs = c.deref.result.now in
    let head : c.push_head.new.octets.items ≡ head_octets m read.asked = c.in_ok-push_head.ensures ∙ ap (λ (l : List ℕ). l ++ head_octets m read.asked) c.in_ok-octets.ensures.items in
    let was : c.in_ok-view.listed ≡ Ok c.in_ok-listed.field-0 = c.in_ok-listed.was in
    let listed = rw was at c.in_ok-view.ensures.listed in
    let all : map spelled rs ≡ read.records = ap (map spelled) c.deref.ensures.value ∙ listed ∙ ap (λ l. map spelled l ++ read.records) c.new-records.ensures.items in
    let body = flat_map record_octets (canonical_records pointer_limit m (map spelled rs)) in
    let written = when_true c.in_ok-push_records.field-0 c.push_head.new.octets.items c.push_records.new.octets.items body c.in_ok-push_records.ensures c.if-not-branch.false in
    canonical_is m read rs (λ i. (c.type_inv.bytes i).fits) c.in_ok-view.ensures.exact all c.push_head.new.octets.items c.push_records.new.octets.items head written.0 written.1
