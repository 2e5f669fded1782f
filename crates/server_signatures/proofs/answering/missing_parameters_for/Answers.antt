use Rattle.std.proofs.Common.{◌∙◌, ◌<◌, List, ap, length, subst, sym}
use Rattle.answer_publisher.specs.Inputs.{Input}
use Rattle.answer_publisher.specs.World.{world_of}
use Rattle.server_signatures.specs.Table.{missing}
use Rattle.server_signatures.proofs.EachScheme.{parameters_memory, parameters_missing}
use Rattle.server_signatures.proofs.answering.missing_parameters_for.Goals as goal

pub returns-in-Err-clause-fault : goal.returns-in-Err-clause-fault
returns-in-Err-clause-fault g c =
    let p = c.args.publisher.now in
    let w = world_of g.S.Scheme.signature_of g.S.Scheme.verifies g.S.Scheme.digest_of g.H.Nsec3Hasher.hash_of p in
    parameters_memory c.args.table.now w p.keys c.args.now.now c.requires.0

pub returns-in-Ok-clause-signed : goal.returns-in-Ok-clause-signed
returns-in-Ok-clause-signed g c =
    let p = c.args.publisher.now in
    let w = world_of g.S.Scheme.signature_of g.S.Scheme.verifies g.S.Scheme.digest_of g.H.Nsec3Hasher.hash_of p in
    let is = c.missing.ensures ∙ ap (missing c.args.table.now) c.in-Ok.ensures in
    parameters_missing c.args.table.now w p.keys c.args.now.now c.missing.result c.requires.0 is (subst (λ (l : List Input). 0 < length l) (sym is) c.requires.1)
