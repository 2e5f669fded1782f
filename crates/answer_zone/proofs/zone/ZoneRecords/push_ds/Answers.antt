use Rattle.std.proofs.Common.{◌≡◌, [], ◌∷◌, true, false, sym, ap, subst, ◌∙◌}
use Rattle.std.specs.Prelude.{if◌then◌else◌}
use Rattle.definitions.specs.Name.{low}
use Rattle.definitions.specs.Zone.{has}
use Rattle.answer_terms.specs.Accepting.{zone_with}
use Rattle.answer_terms.specs.GroupView.{Adds}
use Rattle.answer_terms.specs.Served.{rrset}
use Rattle.answer_zone.specs.HashedZone.{served_by}
use Rattle.std.specs.List.{list_any}
use Rattle.answer_zone_records.specs.OwnedRecords.{is_of_type}
use Rattle.answer_zone.proofs.Placing.{has_owned}
use Rattle.answer_zone_records.proofs.ZoneLinks.{adds_none, adds_one}
use Rattle.answer_zone.proofs.zone.ZoneRecords.push_ds.Goals as goal

pub returns-then-not-has : goal.returns-then-not-has
returns-then-not-has g c =
    let z = c.args.self.now in
    let s = served_by g.H.Nsec3Hasher.hash_of z in
    let n = low c.args.cut.now.name.now in
    let none : has (zone_with z.apex z.records) n 43 ≡ false = sym (c.has.ensures ∙ ap (list_any (is_of_type 43)) c.requires ∙ has_owned z.apex z.records c.args.cut.now.name.now 43) ∙ c.if-not-has.true in
    let old = c.args.groups.now.items in
    subst (Adds old old) (sym (ap (λ b. if b then rrset s n 43 ∷ [] else []) none)) (adds_none old)

pub spelled_rrset-requires-clause-there : goal.spelled_rrset-requires-clause-there
spelled_rrset-requires-clause-there g c =
    let z = c.args.self.now in
    sym (c.has.ensures ∙ ap (list_any (is_of_type 43)) c.requires ∙ has_owned z.apex z.records c.args.cut.now.name.now 43) ∙ c.if-not-has.false

pub returns : goal.returns
returns g c =
    let z = c.args.self.now in
    let s = served_by g.H.Nsec3Hasher.hash_of z in
    let n = low c.args.cut.now.name.now in
    let there : has (zone_with z.apex z.records) n 43 ≡ true = sym (c.has.ensures ∙ ap (list_any (is_of_type 43)) c.requires ∙ has_owned z.apex z.records c.args.cut.now.name.now 43) ∙ c.if-not-has.false in
    let old = c.args.groups.now.items in
    let new = c.push.new.self.items in
    subst (Adds old new) (sym (ap (λ b. if b then rrset s n 43 ∷ [] else []) there))
    (adds_one old new c.in_ok-spelled_rrset.field-0 (rrset s n 43) c.in_ok-spelled_rrset.ensures c.in_ok-push.ensures.items)
