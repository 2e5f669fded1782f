use Rattle.std.proofs.Common.{◌≡◌, ℕ, true, None, sym, ap, subst, ◌∙◌}
use Rattle.std.specs.Prelude.{if◌then◌else◌}
use Rattle.std.specs.List.{find, list_any}
use Rattle.std.proofs.lemmas.Bool.{false≢true}
use Rattle.definitions.specs.Name.{Name, low}
use Rattle.definitions.specs.Zone.{data_at}
use Rattle.answer_terms.specs.Accepting.{zone_with}
use Rattle.answer_terms.specs.GroupView.{Presents}
use Rattle.answer_terms.specs.Served.{ServedRrset, chain_ttl, owner_among, rrset, spelled_among, ttl_among, written_among}
use Rattle.answer_terms.proofs.ZoneData.{if_ok_map}
use Rattle.messages.specs.HandedRr.{HandedRr}
use Rattle.answer_zone_records.specs.OwnedRecords.{is_of_type}
use Rattle.answer_zone_records.proofs.OwnedFacts.{has_first, owner_or, owner_owned}
use Rattle.answer_zone.proofs.Placing.{has_owned}
use Rattle.answer_zone_records.specs.GroupRecords.{rrset_from}
use Rattle.answer_zone.specs.HashedZone.{served_by}
use Rattle.answer_zone.proofs.zone.ZoneRecords.spelled_rrset.Goals as goal
use Rattle.answer_zone.proofs.zone.ZoneRecords.spelled_rrset.Goals.{in-Some, in-None}

pub returns : goal.returns
returns g c =
    let apex = c.args.self.now.apex in
    let rs = c.args.self.now.records in
    let n = c.args.name.now in
    let t = c.args.rtype in
    let copied = c.in_ok-copy_name.field-0 in
    let there : c.match-first.owner.now ≡ owner_among rs (low n) t = elim c.match-first.branch [
      | in-Some w ↦ ap (λ o. o.now) w.owner-is ∙ w.owner-owner.ensures ∙ ap (owner_or (low n)) (w.in-Some.ensures ∙ ap (find (is_of_type t)) c.requires.owned) ∙ owner_owned n t rs
      | in-None w ↦ absurd (false≢true (has_first {A = HandedRr} (λ r. r) (is_of_type t) c.args.owned.now None w.in-None.ensures ∙ ap (list_any (is_of_type t)) c.requires.owned ∙ has_owned apex rs n t ∙ c.requires.there))
    ] in
    let G : Name → ℕ → ServedRrset = λ o m. record { owner = o; source = low n; rtype = t; ttl = m; written = written_among rs (low n) t; datas = data_at (zone_with apex rs) (low n) t; signed = true } in
    let owned = c.in_ok-copy_name.ensures ∙ there ∙ sym (ap (λ b. if b then spelled_among rs (low n) else owner_among rs (low n) t) c.requires.plain) in
    let ttl = sym (ap (λ b. if b then chain_ttl apex rs else ttl_among rs (low n) t) c.requires.plain) in
    let s = served_by g.H.Nsec3Hasher.hash_of c.args.self.now in
    if_ok_map (λ v. Presents v (rrset_from true apex rs n copied t)) (λ v. Presents v (rrset s (low n) t)) c.rrset.result
    (λ v h. subst (Presents v) (λ i. G (owned i) (ttl i)) h)
    c.rrset.ensures
