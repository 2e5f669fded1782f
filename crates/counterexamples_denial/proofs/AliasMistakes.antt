-- Zones with aliases of whose records wrong rules make a verdict, by computing: the zone says none of an alias. Hashes are wire
-- octets.
use Rattle.std.proofs.Common.{◌≡◌, true, false, [], ◌∷◌, refl, arith}
use Rattle.std.specs.Prelude.{codes}
use Rattle.definitions.specs.Name.{Name, wire}
use Rattle.definitions.specs.Zone.{NoType, NoName}
use Rattle.definitions.specs.ZoneChain.{Nsec, Nsec3}
use Rattle.denial_laws.specs.Truth.{IsTrueLink, IsTrueHashLink}
use Rattle.counterexamples_denial.specs.Mistakes.{without_aliases, without_redirections}
use Rattle.counterexamples_denial.specs.Falsely.{DecidesFalsely}
use Rattle.counterexamples_denial.proofs.ChainsSay.{hashes_say, links_say}
use Rattle.counterexamples_denial.proofs.Zones.{example, b, link, hash_link, by_links, by_hashes, hashed_apex_bits, hashed_apex_spelled}
use Rattle.counterexamples_denial.proofs.AliasZones.{aliasing, redirecting, aliasing_served, redirecting_served, cname_bits, dname_bits, hashed_cname_bits, hashed_dname_bits, cname_spelled, dname_spelled, hashed_cname_spelled, hashed_dname_spelled}

-- ---- the record of `b` lists CNAME, and no address: the alias answers in its place

alias_holds : IsTrueLink aliasing (link b example cname_bits)
alias_holds = record { owner = (1, omega arith, refl); next = refl; bits = cname_spelled }

pub aliases_falsely : DecidesFalsely without_aliases Nsec
aliases_falsely = record {
  zone = aliasing;
  hash = wire;
  facts = by_links (link b example cname_bits ∷ []);
  name = b;
  rtype = 1;
  said = NoType;
  servable = aliasing_served;
  fits = omega arith;
  holds = record { rrset = tt; said = links_say aliasing aliasing_served b (by_links (link b example cname_bits ∷ [])) ((alias_holds, tt), refl) };
  says = refl;
  otherwise = λ e. let n : true ≡ false = e.1 in cc;
}

-- in order of hash: `b`, the apex
hashed_alias_holds : IsTrueHashLink aliasing wire false (hash_link false b example hashed_cname_bits)
hashed_alias_holds = record {
  name = b;
  named = (0, omega arith, refl);
  owner = refl;
  next = refl;
  bits = hashed_cname_spelled;
  opts = refl;
}

pub hashed_aliases_falsely : DecidesFalsely without_aliases (Nsec3 0 [] false)
hashed_aliases_falsely = record {
  zone = aliasing;
  hash = wire;
  facts = by_hashes (hash_link false b example hashed_cname_bits ∷ []);
  name = b;
  rtype = 1;
  said = NoType;
  servable = aliasing_served;
  fits = omega arith;
  holds = record { rrset = tt; said = hashes_say aliasing aliasing_served false b (by_hashes (hash_link false b example hashed_cname_bits ∷ [])) (refl, (hashed_alias_holds, tt)) };
  says = refl;
  otherwise = λ e. let n : true ≡ false = e.1 in cc;
}

-- ---- the record of `b` covers a name below `b`, which the DNAME at `b` redirects, and the wildcard under `b`

abbrev x_b : Name
x_b = codes "x" ∷ b

redirect_holds : IsTrueLink redirecting (link b example dname_bits)
redirect_holds = record { owner = (1, omega arith, refl); next = refl; bits = dname_spelled }

pub redirections_falsely : DecidesFalsely without_redirections Nsec
redirections_falsely = record {
  zone = redirecting;
  hash = wire;
  facts = by_links (link b example dname_bits ∷ []);
  name = x_b;
  rtype = 1;
  said = NoName;
  servable = redirecting_served;
  fits = omega arith;
  holds = record { rrset = tt; said = links_say redirecting redirecting_served x_b (by_links (link b example dname_bits ∷ [])) ((redirect_holds, tt), refl) };
  says = refl;
  otherwise = λ e. let n : true ≡ false = e.1 in cc;
}

-- by hashes it covers the name, and the record of the apex the wildcard
hashed_redirect_holds : IsTrueHashLink redirecting wire false (hash_link false b example hashed_dname_bits)
hashed_redirect_holds = record {
  name = b;
  named = (0, omega arith, refl);
  owner = refl;
  next = refl;
  bits = hashed_dname_spelled;
  opts = refl;
}

above_holds : IsTrueHashLink redirecting wire false (hash_link false example b hashed_apex_bits)
above_holds = record {
  name = example;
  named = (1, omega arith, refl);
  owner = refl;
  next = refl;
  bits = hashed_apex_spelled;
  opts = refl;
}

pub hashed_redirections_falsely : DecidesFalsely without_redirections (Nsec3 0 [] false)
hashed_redirections_falsely = record {
  zone = redirecting;
  hash = wire;
  facts = by_hashes (hash_link false b example hashed_dname_bits ∷ hash_link false example b hashed_apex_bits ∷ []);
  name = x_b;
  rtype = 1;
  said = NoName;
  servable = redirecting_served;
  fits = omega arith;
  holds = record { rrset = tt; said = hashes_say redirecting redirecting_served false x_b (by_hashes (hash_link false b example hashed_dname_bits ∷ hash_link false example b hashed_apex_bits ∷ [])) (refl, (hashed_redirect_holds, (above_holds, tt))) };
  says = refl;
  otherwise = λ e. let n : true ≡ false = e.1 in cc;
}
