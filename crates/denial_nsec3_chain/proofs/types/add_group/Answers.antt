use Rattle.std.proofs.Common.{[], ◌≡◌, subst, sym, ◌∙◌}
use Rattle.std.specs.Prelude.{OnOk}
use Rattle.definitions.specs.Bitmap.{bitmap}
use Rattle.denial_nsec3_chain.proofs.Cut.{cut_group}
use Rattle.denial_nsec3_chain.proofs.types.add_group.Goals as goal

pub returns-then-is_cut : goal.returns-then-is_cut
returns-then-is_cut g c =
    subst (λ ts. OnOk c.add_cut_types.result (c.add_cut_types.new.types ≡ bitmap ts)) (cut_group g.N.Labels.name g.D.RecordData.type_of (g.N.Labels.name c.args.apex.now) c.args.dnskey c.args.owner.now (sym c.is_cut.ensures ∙ c.if-is_cut.true)) (c.add_cut_types.ensures [] c.requires)
