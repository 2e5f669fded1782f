-- Zones of whose NSEC records wrong rules make what the zone does not say, by computing.
use Rattle.std.proofs.Common.{◌≡◌, [], ◌∷◌, refl, arith}
use Rattle.std.specs.Prelude.{codes, Some}
use Rattle.definitions.specs.Name.{wire}
use Rattle.definitions.specs.Zone.{Records, NoType, NoName, StarRecords, Delegated, Open}
use Rattle.definitions.specs.ZoneChain.{Nsec}
use Rattle.denial_laws.specs.Facts.{Rrset}
use Rattle.denial_laws.specs.Truth.{IsTrueLink, IsTrueRrset}
use Rattle.counterexamples_denial.specs.Mistakes.{all_open, nothing, without_delegations, without_child_types, without_wildcards, without_label_counts, by_wire_octets, without_non_terminals}
use Rattle.counterexamples_denial.specs.Falsely.{DecidesFalsely, MissesOwnAnswer}
use Rattle.counterexamples_denial.proofs.ChainsSay.{links_say}
use Rattle.counterexamples_denial.proofs.Zones.{example, star, b, d, a_b, star_a, aa_b, b_b, bare, delegating, starred, beside, deep, crossed, bare_served, delegating_served, starred_served, beside_served, deep_served, crossed_served, link, by_links, apex_bits, address_bits, delegation_bits, apex_spelled, address_spelled, delegation_spelled}

-- nothing is looked at: the SOA record is there, and is left open
pub open_falsely : DecidesFalsely all_open Nsec
open_falsely = record {
  zone = bare;
  hash = wire;
  facts = by_links [];
  name = example;
  rtype = 6;
  said = Open;
  servable = bare_served;
  fits = omega arith;
  holds = record { rrset = tt; said = links_say bare bare_served example (by_links []) (tt, refl) };
  says = refl;
  otherwise = λ e. let n : Open ≡ Records ((1 ∷ []) ∷ []) = e.0 in cc;
}

-- nothing is said of the SOA record
pub nothing_misses : MissesOwnAnswer nothing Nsec
nothing_misses = record {
  zone = bare;
  hash = wire;
  name = example;
  rtype = 6;
  servable = bare_served;
  unshared = tt;
  fits = omega arith;
  inside = refl;
  asked = refl;
  unaliased = refl;
  misses = λ e. cc;
}

-- the delegation's record covers a name below it, and the wildcard under it
cut_holds : IsTrueLink delegating (link d example delegation_bits)
cut_holds = record { owner = (1, omega arith, refl); next = refl; bits = delegation_spelled }

pub delegations_falsely : DecidesFalsely without_delegations Nsec
delegations_falsely = record {
  zone = delegating;
  hash = wire;
  facts = by_links (link d example delegation_bits ∷ []);
  name = codes "y" ∷ d;
  rtype = 1;
  said = NoName;
  servable = delegating_served;
  fits = omega arith;
  holds = record { rrset = tt; said = links_say delegating delegating_served (codes "y" ∷ d) (by_links (link d example delegation_bits ∷ [])) ((cut_holds, tt), refl) };
  says = refl;
  otherwise = λ e. let n : NoName ≡ Delegated = e.0 in cc;
}

-- and it lists no type of the child zone
pub child_types_falsely : DecidesFalsely without_child_types Nsec
child_types_falsely = record {
  zone = delegating;
  hash = wire;
  facts = by_links (link d example delegation_bits ∷ []);
  name = d;
  rtype = 1;
  said = NoType;
  servable = delegating_served;
  fits = omega arith;
  holds = record { rrset = tt; said = links_say delegating delegating_served d (by_links (link d example delegation_bits ∷ [])) ((cut_holds, tt), refl) };
  says = refl;
  otherwise = λ e. let n : NoType ≡ Delegated = e.0 in cc;
}

-- the wildcard's record covers a name for which the wildcard answers
star_holds : IsTrueLink starred (link star example address_bits)
star_holds = record { owner = (1, omega arith, refl); next = refl; bits = address_spelled }

pub wildcards_falsely : DecidesFalsely without_wildcards Nsec
wildcards_falsely = record {
  zone = starred;
  hash = wire;
  facts = by_links (link star example address_bits ∷ []);
  name = b;
  rtype = 1;
  said = NoName;
  servable = starred_served;
  fits = omega arith;
  holds = record { rrset = tt; said = links_say starred starred_served b (by_links (link star example address_bits ∷ [])) ((star_holds, tt), refl) };
  says = refl;
  otherwise = λ e. let n : NoName ≡ StarRecords ((192 ∷ 0 ∷ 2 ∷ 1 ∷ []) ∷ []) = e.0 in cc;
}

-- the wildcard's RRset beside the record of `b`, which covers a name below `b`: its closest encloser is `b`
abbrev pub star_rrset : Rrset
star_rrset = record { datas = (192 ∷ 0 ∷ 2 ∷ 1 ∷ []) ∷ []; labels = 1 }

pub star_rrset_holds : IsTrueRrset beside (codes "x" ∷ b) 1 star_rrset
star_rrset_holds = record { signed = refl; datas = refl; inside = λ _. omega arith }

beside_holds : IsTrueLink beside (link b example address_bits)
beside_holds = record { owner = (2, omega arith, refl); next = refl; bits = address_spelled }

pub label_counts_falsely : DecidesFalsely without_label_counts Nsec
label_counts_falsely = record {
  zone = beside;
  hash = wire;
  facts = record { rrset = Some star_rrset; links = link b example address_bits ∷ []; hash_links = [] };
  name = codes "x" ∷ b;
  rtype = 1;
  said = StarRecords ((192 ∷ 0 ∷ 2 ∷ 1 ∷ []) ∷ []);
  servable = beside_served;
  fits = omega arith;
  holds = record { rrset = star_rrset_holds; said = links_say beside beside_served (codes "x" ∷ b) (record { rrset = Some star_rrset; links = link b example address_bits ∷ []; hash_links = [] }) ((beside_holds, tt), refl) };
  says = refl;
  otherwise = λ e. let n : StarRecords ((192 ∷ 0 ∷ 2 ∷ 1 ∷ []) ∷ []) ≡ NoName = e.0 in cc;
}

-- By wire octets the last record covers the second name under `b`, which has an address, and the record of `*.a` the wildcard
-- under `b`.
last_holds : IsTrueLink crossed (link b_b example address_bits)
last_holds = record { owner = (3, omega arith, refl); next = refl; bits = address_spelled }

first_holds : IsTrueLink crossed (link star_a aa_b address_bits)
first_holds = record { owner = (1, omega arith, refl); next = refl; bits = address_spelled }

pub wire_octets_falsely : DecidesFalsely by_wire_octets Nsec
wire_octets_falsely = record {
  zone = crossed;
  hash = wire;
  facts = by_links (link star_a aa_b address_bits ∷ link b_b example address_bits ∷ []);
  name = aa_b;
  rtype = 1;
  said = NoName;
  servable = crossed_served;
  fits = omega arith;
  holds = record { rrset = tt; said = links_say crossed crossed_served aa_b (by_links (link star_a aa_b address_bits ∷ link b_b example address_bits ∷ [])) ((first_holds, (last_holds, tt)), refl) };
  says = refl;
  otherwise = λ e. let n : NoName ≡ Records ((192 ∷ 0 ∷ 2 ∷ 1 ∷ []) ∷ []) = e.0 in cc;
}

-- the record of the apex covers `b`, below which the next name stands, and the wildcard beside it
deep_holds : IsTrueLink deep (link example a_b apex_bits)
deep_holds = record { owner = (0, omega arith, refl); next = refl; bits = apex_spelled }

pub non_terminals_falsely : DecidesFalsely without_non_terminals Nsec
non_terminals_falsely = record {
  zone = deep;
  hash = wire;
  facts = by_links (link example a_b apex_bits ∷ []);
  name = b;
  rtype = 1;
  said = NoName;
  servable = deep_served;
  fits = omega arith;
  holds = record { rrset = tt; said = links_say deep deep_served b (by_links (link example a_b apex_bits ∷ [])) ((deep_holds, tt), refl) };
  says = refl;
  otherwise = λ e. let n : NoName ≡ NoType = e.0 in cc;
}
