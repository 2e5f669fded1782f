-- The codes of extended errors (RFC 8914, 4; RFC 9276, 6).
use Rattle.std.specs.Prelude.{ℕ}
use Rattle.answer_extended_errors.specs.declared.error.ExtendedError.{ExtendedError}
use Rattle.answer_extended_errors.specs.declared.error.ExtendedError.TheVariants as e

abbrev pub code_of : ExtendedError → ℕ
code_of e.Other = 0
code_of e.UnsupportedDnskeyAlgorithm = 1
code_of e.UnsupportedDsDigestType = 2
code_of e.DnssecBogus = 6
code_of e.SignatureExpired = 7
code_of e.SignatureNotYetValid = 8
code_of e.DnskeyMissing = 9
code_of e.RrsigsMissing = 10
code_of e.NsecMissing = 12
code_of e.IncompleteDenial = 12
code_of e.UnsupportedNsec3Iterations = 27
