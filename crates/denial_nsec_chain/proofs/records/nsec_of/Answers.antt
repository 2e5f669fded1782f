use Rattle.std.proofs.Common.{◌≡◌, true, false}
use Rattle.denial_nsec_chain.specs.Groups.{group_types}
use Rattle.denial_nsec_chain.proofs.Fits.{data_fits}
use Rattle.denial_nsec_chain.proofs.records.nsec_of.Goals as goal

pub unreachable-requires : goal.unreachable-requires
unreachable-requires g c =
    let refused : false ≡ true = c.in_default.ensures.accepts.1 (data_fits (g.N.Labels.name c.args.next.now) (group_types g.N.Labels.name g.D.RecordData.type_of (g.N.Labels.name c.args.apex.now) c.args.config.assume_dnskeys_will_be_added c.args.owner.now) c.in_ok-types.types c.label_count-name.ensures.name c.in_ok-types.ensures) in
    cc
