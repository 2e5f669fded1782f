-- Signatures in which the octets of a key stand first.
use Rattle.std.proofs.Common.{◌≡◌, ℕ, ◌&&◌, true, List, ◌++◌, length, take, drop, refl}
use Rattle.std.specs.Str.{bytes_eq}
use Rattle.std.proofs.Math.Seq.{take-append_seam, drop-append_seam}
use Rattle.std.proofs.lemmas.Slice.Eq.{bytes_eq-Decides}

-- what stands behind a key's octets passes
pub passes : (key octets signature : List ℕ) → signature ≡ key ++ octets → bytes_eq (take (length key) signature) key && bytes_eq octets (drop (length key) signature) ≡ true
passes key octets signature e =
    rw e (rw (take-append_seam key octets) (rw (drop-append_seam key octets)
    (rw ((bytes_eq-Decides key key).1 refl) ((bytes_eq-Decides octets octets).1 refl))))
