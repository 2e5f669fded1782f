use Rattle.std.proofs.Common.{◌≡◌, ◌++◌, ◌∷◌, [], ◌∙◌, List, ℕ, map, subst, sym, ap, refl, inl}
use Rattle.std.specs.Vec.Iter.{into_iter_items}
use Rattle.definitions.proofs.Members.{In}
use Rattle.definitions.specs.ZoneChain.{links}
use Rattle.denial_nsec3_hash.specs.Hashing.{FitsName}
use Rattle.denial_nsec3_names.specs.declared.hashed.HashedName.{HashedName}
use Rattle.denial_nsec3_chain.specs.Linked.{linked, links_around}
use Rattle.denial_nsec3_chain.specs.Made.{making_of}
use Rattle.denial_nsec3_chain.proofs.Linking.{Fitting, ended_linked, fitting_in, fitting_more, link_more, wider_fault}
use Rattle.denial_nsec3_chain.proofs.Short.{fitting_short}
use Rattle.denial_nsec3_chain.proofs.links.nsec3s_of.Goals as goal

pub returns-in-Err-clause-refused : goal.returns-in-Err-clause-refused
returns-in-Err-clause-refused g c =
    let hash : HashedName g.row.N.Denot g.row.D.Denot → List ℕ = λ h. h.hash.items in
    let all = c.args.hashed.items in
    let first = c.in-Some.first in
    let whole : all ≡ first ∷ into_iter_items c.next.new.self = sym c.into_iter-rest.ensures.rest ∙ c.in-Some.ensures.items in
    wider_fault hash (g.N.Labels.name c.args.apex.now) all first c.in-Err.error (subst (In first) (sym whole) (inl refl)) c.in-Err.ensures.refused

pub loop-next-init : goal.loop-next-init
loop-next-init g c =
    let apex = g.N.Labels.name c.args.apex.now in
    let made = linked g.N.Labels.name g.D.RecordData.type_of apex (making_of c.args.settings.now) in
    let all = c.args.hashed.items in
    let first = c.in-Some.first in
    let rest = into_iter_items c.next.new.self in
    let whole : all ≡ first ∷ rest = sym c.into_iter-rest.ensures.rest ∙ c.in-Some.ensures.items in (
      first,
      record {
        begun = c.in-Ok.ensures.ok;
        records = ap (λ r. r ++ map made (links first (first ∷ rest))) c.in_ok-records.ensures.items ∙ ap (λ a. map made (links_around a)) (sym whole);
        fit = record { done = first ∷ []; parts = whole; are = (c.in-Ok.ensures.fits, tt) };
        short = fitting_short apex first.hash.items c.in-Ok.ensures.fits;
      },
    )

pub returns-in-Err-begin-clause-refused : goal.returns-in-Err-begin-clause-refused
returns-in-Err-begin-clause-refused g c =
    let apex = g.N.Labels.name c.args.apex.now in
    let hash : HashedName g.row.N.Denot g.row.D.Denot → List ℕ = λ h. h.hash.items in
    let all = c.args.hashed.items in
    let next = c.in-Some-next.next in
    let left = into_iter_items c.loop-next.rest in
    wider_fault hash apex all next c.in-Err-begin.error
    (fitting_in (λ h. FitsName apex (hash h)) all left next c.loop-next.invariant.1.fit (subst (In next) (sym c.in-Some-next.ensures.items) (inl refl)))
    c.in-Err-begin.ensures.refused

pub push_link-requires : goal.push_link-requires
push_link-requires g c = fitting_short (g.N.Labels.name c.args.apex.now) c.in-Some-next.next.hash.items c.in-Ok-begin.ensures.fits

pub loop-next-preserved : goal.loop-next-preserved
loop-next-preserved g c =
    let apex = g.N.Labels.name c.args.apex.now in
    let making = making_of c.args.settings.now in
    let made = linked g.N.Labels.name g.D.RecordData.type_of apex making in
    let fits : HashedName g.row.N.Denot g.row.D.Denot → Type 0 = λ h. FitsName apex h.hash.items in
    let all = c.args.hashed.items in
    let prev = c.loop-next.invariant.0 in
    let next = c.in-Some-next.next in
    let left = into_iter_items c.loop-next.rest in
    let rest = into_iter_items c.next-in-loop-next.new.self in
    let old = c.loop-next.records.items in
    let e : left ≡ next ∷ rest = c.in-Some-next.ensures.items in
    let pushed : c.push_link.new.records.items ≡ old ++ made (prev, next) ∷ [] =
    c.in_ok-push_link.ensures.ok
    ∙ ap (λ r. old ++ r ∷ []) (ended_linked g.N.Labels.name g.D.RecordData.type_of apex making prev next c.loop-next.last c.loop-next.invariant.1.begun) in (
      next,
      record {
        begun = c.in-Ok-begin.ensures.ok;
        records = link_more made c.in-Some.first prev next left rest old c.push_link.new.records.items (map made (links_around all)) e pushed c.loop-next.invariant.1.records;
        fit = fitting_more fits all rest next (subst (Fitting fits all) e c.loop-next.invariant.1.fit) c.in-Ok-begin.ensures.fits;
        short = c.loop-next.invariant.1.short;
      },
    )
