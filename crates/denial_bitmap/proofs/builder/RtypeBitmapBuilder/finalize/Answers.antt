use Rattle.std.proofs.Common.{ap, ◌∙◌}
use Rattle.definitions.specs.Bitmap.{is_bitmap}
use Rattle.definitions.proofs.BitmapLaws.{spells_set}
use Rattle.denial_bitmap.proofs.builder.RtypeBitmapBuilder.finalize.Goals as goal

pub of_built-requires : goal.of_built-requires
of_built-requires g c = ap is_bitmap (g.met.B.BuiltOctets.kept c.self.inside.octets ∙ c.self.invariant.1) ∙ (spells_set c.self.invariant.0).spelled
