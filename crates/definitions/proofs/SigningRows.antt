-- A signature over one address, and what it is made over.
use Rattle.std.proofs.Common.{◌≡◌, ℕ, List, [], ◌∷◌, ◌++◌, refl, arith}
use Rattle.std.specs.Prelude.{codes}
use Rattle.definitions.specs.Signing.{Fields, signed_octets}
use Rattle.definitions.specs.Laws.{IsSignable}
use Rattle.definitions.proofs.NameRows.{example}

abbrev fields : Fields
fields = record { covered = 1; algorithm = 13; labels = 2; ttl = 3600; expiration = 86400; inception = 7200; tag = 1038; signer = codes "EXAMPLE" ∷ [] }

abbrev address : List ℕ
address = 192 ∷ 0 ∷ 2 ∷ 1 ∷ []

signable : IsSignable fields (codes "A" ∷ example) 1 (address ∷ [])
signable = record {
  covered = omega arith;
  ttl = omega arith;
  expiration = omega arith;
  inception = omega arith;
  tag = omega arith;
  signer = record { labels = (record { some = omega arith; short = omega arith }, tt); short = omega arith };
  named = record { labels = (record { some = omega arith; short = omega arith }, (record { some = omega arith; short = omega arith }, tt)); short = omega arith };
  classed = omega arith;
  some = omega arith;
  short = (omega arith, tt);
}

-- the signer and the owner in lower case
octets : signed_octets fields (codes "A" ∷ example) 1 (address ∷ [])
    ≡ (0 ∷ 1 ∷ 13 ∷ 2 ∷ 0 ∷ 0 ∷ 14 ∷ 16 ∷ 0 ∷ 1 ∷ 81 ∷ 128 ∷ 0 ∷ 0 ∷ 28 ∷ 32 ∷ 4 ∷ 14 ∷ 7 ∷ []) ++ codes "example" ++ (0 ∷ 1 ∷ 97 ∷ 7 ∷ []) ++ codes "example" ++ 0 ∷ 0 ∷ 1 ∷ 0 ∷ 1 ∷ 0 ∷ 0 ∷ 14 ∷ 16 ∷ 0 ∷ 4 ∷ address
octets = refl
