-- What a zone that C holds owns: the memory of one that is open.
use Rattle.std.specs.Prelude.{Option, Some, None}
use base.Fml.{Fml, ftrue}
use denote.RawPtr.{Ptr}
use Rattle.std.specs.declared.alloc.Global.{Global}
use Rattle.std.specs.contracts.impls.GlobalAllocator.TheImpl.{ghosts}
use Rattle.std_alloc.specs.Box.Ownership.{box_owns}
use Rattle.zermuita_zone.specs.declared.opened.OpenZone.{OpenZone}
use Rattle.zermuita_zone.specs.contracts.opened.OpenZone.{the_row}

-- a handle of the allocator: each gives back what another gave
abbrev pub heap : Global
heap = record { memory = record { seal = tt } }

abbrev pub holds : Ptr → Option OpenZone → Fml
holds at None = ftrue
holds at (Some z) = box_owns (ghosts.dealloc_token heap) the_row at z
