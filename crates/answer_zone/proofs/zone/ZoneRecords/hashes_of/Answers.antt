use Rattle.std.proofs.Common.{ℕ, List, Vec, Global, arith, rules}
use Rattle.definitions.specs.Name.{low}
use Rattle.answer_terms.specs.Hashing.{hash_in}
use Rattle.answer_zone.proofs.Failures.{fails_one, hashed_all, hashed_more, none_hashed}
use Rattle.answer_zone_records.proofs.ZoneGroups.{written_more}
use Rattle.answer_zone.proofs.zone.ZoneRecords.hashes_of.Goals as goal

pub loop-name-init : goal.loop-name-init
loop-name-init g c =
    let z = c.args.self.now in
    record {
      hashes = search rules;
      hashed = none_hashed (g.H.Nsec3Hasher.hash_of z.hasher) z.mode;
    }

pub loop-name-preserved : goal.loop-name-preserved
loop-name-preserved g c =
    let z = c.args.self.now in
    let hash = hash_in (g.H.Nsec3Hasher.hash_of z.hasher) z.mode in
    let octets : Vec ℕ Global → List ℕ = λ v. v.items in
    record {
      hashes = written_more octets (λ n. hash n.now) c.loop-name.hashes.items c.push_hash.new.hashes.items c.in-Ok.hash c.args.names.now c.loop-name.name-index c.name-item.result c.in_ok-push_hash.ensures.ok (omega arith) c.name-item.is c.in-Ok.ensures.hash c.loop-name.invariant.hashes;
      hashed = hashed_more (g.H.Nsec3Hasher.hash_of z.hasher) z.mode (λ n. low n.now) c.args.names.now c.loop-name.name-index c.name-item.result (omega arith) c.name-item.is c.loop-name.invariant.hashed c.in-Ok.ensures.hashed;
    }

pub returns-in-Err-clause-hashed : goal.returns-in-Err-clause-hashed
returns-in-Err-clause-hashed g c =
    fails_one (g.H.Nsec3Hasher.hash_of c.args.self.now.hasher) c.args.self.now.mode (λ n. low n.now) c.args.names.now c.loop-name.name-index c.name-item.result c.in-Err.error (omega arith) c.name-item.is c.in-Err.ensures.hashed

pub returns-clause-hashed : goal.returns-clause-hashed
returns-clause-hashed g c =
    hashed_all (g.H.Nsec3Hasher.hash_of c.args.self.now.hasher) c.args.self.now.mode (λ n. low n.now) c.args.names.now c.loop-name.name-index (omega arith) c.loop-name.invariant.hashed
