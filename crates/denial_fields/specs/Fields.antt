-- Fields of record data as text (RFC 4034, 2.2 and 5.3).
use Rattle.std.specs.Prelude.{ℕ, List, [], ◌∷◌}
use Rattle.base64.specs.Engines.{standard}
use Rattle.base64.specs.GeneralPurpose.{encode_of}

-- the text of octets in base64 behind a blank; empty where there are none
abbrev pub base64_field : List ℕ → List ℕ
base64_field [] = []
base64_field (o ∷ octets) = 32 ∷ encode_of standard (o ∷ octets)
