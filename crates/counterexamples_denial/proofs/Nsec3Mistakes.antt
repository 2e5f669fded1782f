-- Zones of whose NSEC3 records wrong rules make what the zone does not say, by computing. Hashes are wire octets.
use Rattle.std.proofs.Common.{◌≡◌, [], ◌∷◌, refl, arith}
use Rattle.std.specs.Prelude.{codes, true, false, Some}
use Rattle.definitions.specs.Name.{wire}
use Rattle.definitions.specs.Zone.{Records, NoType, NoName, StarRecords, Delegated, Open}
use Rattle.definitions.specs.ZoneChain.{Nsec3}
use Rattle.denial_laws.specs.Truth.{IsTrueHashLink}
use Rattle.counterexamples_denial.specs.Mistakes.{all_open, without_delegations, without_child_types, without_wildcards, without_label_counts, without_opt_out}
use Rattle.counterexamples_denial.specs.Falsely.{DecidesFalsely}
use Rattle.counterexamples_denial.proofs.NsecMistakes.{star_rrset, star_rrset_holds}
use Rattle.counterexamples_denial.proofs.ChainsSay.{hashes_say}
use Rattle.counterexamples_denial.proofs.Zones.{example, star, b, d, bare, delegating, starred, beside, bare_served, delegating_served, starred_served, beside_served, hash_link, by_hashes, hashed_apex_bits, hashed_address_bits, hashed_delegation_bits, hashed_apex_spelled, hashed_address_spelled, hashed_delegation_spelled}

-- nothing is looked at: the SOA record is there, and is left open
pub hashed_open_falsely : DecidesFalsely all_open (Nsec3 0 [] true)
hashed_open_falsely = record {
  zone = bare;
  hash = wire;
  facts = by_hashes [];
  name = example;
  rtype = 6;
  said = Open;
  servable = bare_served;
  fits = omega arith;
  holds = record { rrset = tt; said = hashes_say bare bare_served true example (by_hashes []) (refl, tt) };
  says = refl;
  otherwise = λ e. let n : Open ≡ Records ((1 ∷ []) ∷ []) = e.0 in cc;
}

-- in order of hash: the delegation, the apex
cut_holds : IsTrueHashLink delegating wire false (hash_link false d example hashed_delegation_bits)
cut_holds = record {
  name = d;
  named = (0, omega arith, refl);
  owner = refl;
  next = refl;
  bits = hashed_delegation_spelled;
  opts = refl;
}

above_holds : IsTrueHashLink delegating wire false (hash_link false example d hashed_apex_bits)
above_holds = record {
  name = example;
  named = (1, omega arith, refl);
  owner = refl;
  next = refl;
  bits = hashed_apex_spelled;
  opts = refl;
}

-- the delegation's record covers a name below it, the apex's the wildcard under it
pub hashed_delegations_falsely : DecidesFalsely without_delegations (Nsec3 0 [] false)
hashed_delegations_falsely = record {
  zone = delegating;
  hash = wire;
  facts = by_hashes (hash_link false d example hashed_delegation_bits ∷ hash_link false example d hashed_apex_bits ∷ []);
  name = codes "y" ∷ d;
  rtype = 1;
  said = NoName;
  servable = delegating_served;
  fits = omega arith;
  holds = record { rrset = tt; said = hashes_say delegating delegating_served false (codes "y" ∷ d) (by_hashes (hash_link false d example hashed_delegation_bits ∷ hash_link false example d hashed_apex_bits ∷ [])) (refl, (cut_holds, (above_holds, tt))) };
  says = refl;
  otherwise = λ e. let n : NoName ≡ Delegated = e.0 in cc;
}

-- and it lists no type of the child zone
pub hashed_child_types_falsely : DecidesFalsely without_child_types (Nsec3 0 [] false)
hashed_child_types_falsely = record {
  zone = delegating;
  hash = wire;
  facts = by_hashes (hash_link false d example hashed_delegation_bits ∷ []);
  name = d;
  rtype = 1;
  said = NoType;
  servable = delegating_served;
  fits = omega arith;
  holds = record { rrset = tt; said = hashes_say delegating delegating_served false d (by_hashes (hash_link false d example hashed_delegation_bits ∷ [])) (refl, (cut_holds, tt)) };
  says = refl;
  otherwise = λ e. let n : NoType ≡ Delegated = e.0 in cc;
}

-- in order of hash: the wildcard, the apex
star_holds : IsTrueHashLink starred wire false (hash_link false star example hashed_address_bits)
star_holds = record {
  name = star;
  named = (0, omega arith, refl);
  owner = refl;
  next = refl;
  bits = hashed_address_spelled;
  opts = refl;
}

apex_holds : IsTrueHashLink starred wire false (hash_link false example star hashed_apex_bits)
apex_holds = record {
  name = example;
  named = (1, omega arith, refl);
  owner = refl;
  next = refl;
  bits = hashed_apex_spelled;
  opts = refl;
}

-- the wildcard's record covers a name for which the wildcard answers
pub hashed_wildcards_falsely : DecidesFalsely without_wildcards (Nsec3 0 [] false)
hashed_wildcards_falsely = record {
  zone = starred;
  hash = wire;
  facts = by_hashes (hash_link false star example hashed_address_bits ∷ hash_link false example star hashed_apex_bits ∷ []);
  name = b;
  rtype = 1;
  said = NoName;
  servable = starred_served;
  fits = omega arith;
  holds = record { rrset = tt; said = hashes_say starred starred_served false b (by_hashes (hash_link false star example hashed_address_bits ∷ hash_link false example star hashed_apex_bits ∷ [])) (refl, (star_holds, (apex_holds, tt))) };
  says = refl;
  otherwise = λ e. let n : NoName ≡ StarRecords ((192 ∷ 0 ∷ 2 ∷ 1 ∷ []) ∷ []) = e.0 in cc;
}

-- the wildcard's RRset beside the record of `b`, which covers a name below `b`: its closest encloser is `b`
beside_holds : IsTrueHashLink beside wire false (hash_link false b example hashed_address_bits)
beside_holds = record {
  name = b;
  named = (1, omega arith, refl);
  owner = refl;
  next = refl;
  bits = hashed_address_spelled;
  opts = refl;
}

pub hashed_label_counts_falsely : DecidesFalsely without_label_counts (Nsec3 0 [] false)
hashed_label_counts_falsely = record {
  zone = beside;
  hash = wire;
  facts = record { rrset = Some star_rrset; links = []; hash_links = hash_link false b example hashed_address_bits ∷ [] };
  name = codes "x" ∷ b;
  rtype = 1;
  said = StarRecords ((192 ∷ 0 ∷ 2 ∷ 1 ∷ []) ∷ []);
  servable = beside_served;
  fits = omega arith;
  holds = record { rrset = star_rrset_holds; said = hashes_say beside beside_served false (codes "x" ∷ b) (record { rrset = Some star_rrset; links = []; hash_links = hash_link false b example hashed_address_bits ∷ [] }) (refl, (beside_holds, tt)) };
  says = refl;
  otherwise = λ e. let n : StarRecords ((192 ∷ 0 ∷ 2 ∷ 1 ∷ []) ∷ []) ≡ NoName = e.0 in cc;
}

-- the only record of a chain under opt-out, which leaves the unsigned delegation out
alone_holds : IsTrueHashLink delegating wire true (hash_link true example example hashed_apex_bits)
alone_holds = record {
  name = example;
  named = (0, omega arith, refl);
  owner = refl;
  next = refl;
  bits = hashed_apex_spelled;
  opts = refl;
}

-- it covers the delegation and the wildcard
pub opt_out_falsely : DecidesFalsely without_opt_out (Nsec3 0 [] true)
opt_out_falsely = record {
  zone = delegating;
  hash = wire;
  facts = by_hashes (hash_link true example example hashed_apex_bits ∷ []);
  name = d;
  rtype = 1;
  said = NoName;
  servable = delegating_served;
  fits = omega arith;
  holds = record { rrset = tt; said = hashes_say delegating delegating_served true d (by_hashes (hash_link true example example hashed_apex_bits ∷ [])) (refl, (alone_holds, tt)) };
  says = refl;
  otherwise = λ e. let n : NoName ≡ Open = e.0 in cc;
}
