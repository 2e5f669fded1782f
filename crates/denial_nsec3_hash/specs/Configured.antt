-- How a chain of hashed names is configured (RFC 5155, 4, 6 and 7.1).
use Rattle.std.specs.Prelude.{ℕ, ◌%◌, ◌==◌}
use Rattle.definitions.specs.ZoneChain.{ChainParameters}
use Rattle.denial_nsec3_hash.specs.declared.config.GenerateNsec3Config.{GenerateNsec3Config}
use Rattle.denial_nsec3_hash.specs.declared.config.Nsec3ParamTtlMode.{Nsec3ParamTtlMode}
use Rattle.denial_nsec3_hash.specs.declared.config.Nsec3ParamTtlMode.TheVariants.{Fixed, Soa, SoaMinimum}

-- the TTL of the NSEC3PARAM record beside a SOA record of this TTL and minimum
abbrev pub parameter_ttl : Nsec3ParamTtlMode → ℕ → ℕ → ℕ
parameter_ttl (Fixed ttl) soa minimum = ttl
parameter_ttl Soa soa minimum = soa
parameter_ttl SoaMinimum soa minimum = minimum

-- how the chain is made
abbrev pub parameters : {O : Type 0} → GenerateNsec3Config O → ChainParameters
parameters c = record {
  dnskey = c.assume_dnskeys_will_be_added;
  algorithm = c.params.algorithm;
  iterations = c.params.iterations;
  salt = c.params.salt;
  opt_out = c.params.flags % 2 == 1;
  excluding = c.opt_out_exclude_owner_names_of_unsigned_delegations;
}
