-- Signatures without octets.
use Rattle.std.specs.Prelude.{ℕ, Bool, List, [], length, Option, Some, nat_eq}
use Rattle.definitions.specs.Dnskey.{Dnskey}

abbrev pub sign_blank : Dnskey → List ℕ → Option (List ℕ)
sign_blank key octets = Some []

abbrev pub verify_blank : Dnskey → List ℕ → List ℕ → Bool
verify_blank key octets signature = nat_eq (length signature) 0
