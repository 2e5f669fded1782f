use Rattle.std.proofs.Common.{◌≡◌, ◌≤◌, ◌++◌, ◌∷◌, length, map}
use Rattle.std.specs.Vec.Iter.{into_iter_items, into_iter_len}
use Rattle.definitions.specs.ZoneChain.{links}
use Rattle.denial_nsec3_names.specs.declared.hashed.HashedName.{HashedName}
use Rattle.denial_nsec3_hash.specs.Hashing.{FitsName}
use Rattle.denial_nsec3_chain.specs.Linked.{linked, links_around}
use Rattle.denial_nsec3_chain.specs.Made.{IsBegun, making_of}
use Rattle.denial_nsec3_chain.proofs.Linking.{Fitting}
use Rattle.denial_nsec3_chain.proofs.links.nsec3s_of.Given as goal

abbrev pub invariant-loop-next : goal.invariant-loop-next
invariant-loop-next g l =
    let apex = g.N.Labels.name l.apex in
    let made = linked g.N.Labels.name g.D.RecordData.type_of apex (making_of l.settings) in
    (prev : HashedName g.row.N.Denot g.row.D.Denot) × record {
      begun : IsBegun apex prev l.last;
      records : l.records.items ++ map made (links l.first (prev ∷ into_iter_items l.rest)) ≡ map made (links_around l.fn.hashed.items);
      fit : Fitting (λ h. FitsName apex h.hash.items) l.fn.hashed.items (into_iter_items l.rest);
      short : length l.first.hash.items ≤ 255;
    }

abbrev pub decreases-loop-next : goal.decreases-loop-next
decreases-loop-next g l = into_iter_len l.rest
