-- Items in a row, or references to some.
use Rattle.std.specs.Prelude.{List, map}
use Rattle.denial_rrsets.specs.declared.slices.SliceRefs.{SliceRefs}
use Rattle.denial_rrsets.specs.declared.slices.SliceRefsOrOwned.{SliceRefsOrOwned}
use Rattle.denial_rrsets.specs.declared.slices.SliceRefsOrOwned.TheVariants.{Refs, Owned}

abbrev pub referred : {T : Type 0} → SliceRefs T → List T
referred s = map (λ r. r.now) s.items.now

abbrev pub items_of : {T : Type 0} → SliceRefsOrOwned T → List T
items_of (Refs s) = referred s
items_of (Owned s) = s.now
