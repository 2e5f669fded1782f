use Rattle.std.proofs.Common.{List, map, subst}
use Rattle.std.proofs.lemmas.Result.{on_ok_weaker}
use Rattle.definitions.specs.Name.{Name, low}
use Rattle.answer_zone_records.specs.MadeLinks.{IsChain}
use Rattle.answer_zone.proofs.ChainProofs.{hashed_circle, hashed_proofs, named_hashed, named_proofs, named_round}
use Rattle.answer_zone.proofs.zone.ZoneRecords.push_proofs.Goals as goal

pub returns-in-Names-clause-adds : goal.returns-in-Names-clause-adds
returns-in-Names-clause-adds g c =
    let z = c.args.self.now in
    let hash = g.H.Nsec3Hasher.hash_of z.hasher in
    let qs : List Name = map (λ n. low n.now) c.args.names.now in
    let kept = subst (λ z. IsChain (g.H.Nsec3Hasher.hash_of z.hasher) z.apex z.mode z.records c.self.inside.chain) c.self.view_is c.self.invariant.2 in
    let chain = subst (IsChain hash z.apex z.mode z.records) c.in-Names.is kept in
    on_ok_weaker c.push_named_proofs.result (named_proofs hash z.apex z.mode z.records qs _ _ _ chain) c.push_named_proofs.ensures.adds

pub returns-in-Names-clause-hashed : goal.returns-in-Names-clause-hashed
returns-in-Names-clause-hashed g c =
    let z = c.args.self.now in
    let hash = g.H.Nsec3Hasher.hash_of z.hasher in
    let qs : List Name = map (λ n. low n.now) c.args.names.now in
    let kept = subst (λ z. IsChain (g.H.Nsec3Hasher.hash_of z.hasher) z.apex z.mode z.records c.self.inside.chain) c.self.view_is c.self.invariant.2 in
    let chain = subst (IsChain hash z.apex z.mode z.records) c.in-Names.is kept in
    named_hashed hash z.apex z.mode z.records qs _ c.push_named_proofs.result chain c.push_named_proofs.ensures.failed

pub returns-in-Hashes-clause-adds : goal.returns-in-Hashes-clause-adds
returns-in-Hashes-clause-adds g c =
    let z = c.args.self.now in
    let hash = g.H.Nsec3Hasher.hash_of z.hasher in
    let kept = subst (λ z. IsChain (g.H.Nsec3Hasher.hash_of z.hasher) z.apex z.mode z.records c.self.inside.chain) c.self.view_is c.self.invariant.2 in
    let chain = subst (IsChain hash z.apex z.mode z.records) c.in-Hashes.is kept in
    on_ok_weaker c.push_hashed_proofs.result (hashed_proofs hash z.apex z.mode z.records (λ n. n.now) c.args.names.now _ _ _ chain) c.push_hashed_proofs.ensures.adds

pub push_named_proofs-requires : goal.push_named_proofs-requires
push_named_proofs-requires g c =
    let z = c.args.self.now in
    let hash = g.H.Nsec3Hasher.hash_of z.hasher in
    let kept = subst (λ z. IsChain (g.H.Nsec3Hasher.hash_of z.hasher) z.apex z.mode z.records c.self.inside.chain) c.self.view_is c.self.invariant.2 in
    named_round hash z.apex z.mode z.records _ (subst (IsChain hash z.apex z.mode z.records) c.in-Names.is kept)

pub push_hashed_proofs-requires : goal.push_hashed_proofs-requires
push_hashed_proofs-requires g c =
    let z = c.args.self.now in
    let hash = g.H.Nsec3Hasher.hash_of z.hasher in
    let kept = subst (λ z. IsChain (g.H.Nsec3Hasher.hash_of z.hasher) z.apex z.mode z.records c.self.inside.chain) c.self.view_is c.self.invariant.2 in
    hashed_circle hash z.apex z.mode z.records _ (subst (IsChain hash z.apex z.mode z.records) c.in-Hashes.is kept)
