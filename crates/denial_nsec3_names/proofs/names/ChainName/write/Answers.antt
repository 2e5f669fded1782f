use Rattle.std.proofs.Common.{◌≡◌, List, ℕ, subst}
use Rattle.std.specs.Prelude.{OnOk}
use Rattle.denial_nsec3_names.proofs.Named.{written_name}
use Rattle.denial_nsec3_names.proofs.names.ChainName.write.Goals as goal

pub returns : goal.returns
returns g c =
    let P : List ℕ → Type 0 = λ octets. OnOk c.write_lower_wire.result (c.write_lower_wire.new.buffer.items ≡ octets) in
    subst P (written_name g.N.Labels.name c.args.self.now.group.now c.owner.result.now c.args.self.now.skipped c.owner.ensures) c.write_lower_wire.ensures
