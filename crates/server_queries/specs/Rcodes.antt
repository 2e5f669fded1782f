-- Numbers of response codes (RFC 1035, 4.1.1; RFC 6891, 9).
use Rattle.std.specs.Prelude.{ℕ}
use Rattle.server_queries.specs.declared.rcode.Rcode.{Rcode}
use Rattle.server_queries.specs.declared.rcode.Rcode.TheVariants.{FormErr, NotImp, BadVers}

abbrev pub rcode_number : Rcode → ℕ
rcode_number FormErr = 1
rcode_number NotImp = 4
rcode_number BadVers = 16
