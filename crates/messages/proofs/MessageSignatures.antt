-- The data of a signature that is written reads back.
use Rattle.std.proofs.Common.{◌≡◌, ℕ, ◌+◌, ◌*◌, ◌<◌, ◌≤◌, Bool, true, false, List, [], ◌∷◌, ◌++◌, length, Option, Some, None, Result, Ok, Err, refl, sym, subst, ap, ◌∙◌, append_assoc, length-append, arith, leb}
use Rattle.std.specs.Prelude.{slice_index, slice_range}
use Rattle.std.specs.Int.{w16, w32, to_be_bytes, byte_at}
use Rattle.std.proofs.lemmas.Bool.{le-leb}
use Rattle.std.proofs.lemmas.Nat.{from_be_bytes-to_be_bytes_2, from_be_bytes-to_be_bytes_4}
use Rattle.std.proofs.lemmas.Option.{get_or_from_slice_get}
use Rattle.definitions.specs.Name.{Name, IsName, wire, wire_len, low}
use Rattle.definitions.specs.Signing.{Fields}
use Rattle.definitions.specs.Limits.{pointer_limit}
use Rattle.messages.specs.declared.error.MessageError.{MessageError}
use Rattle.messages.specs.Message.{Spelled, owner_at, fits, if_true, pair, quad, name_upto, name_in, rrsig_at, rrsig_fields}
use Rattle.messages.specs.Message as message
use Rattle.messages.specs.Rrsig.{rrsig_data, fields_numbers}
use Rattle.messages.specs.WrittenLaws.{AreFields}
use Rattle.messages.proofs.MessageWritten.{StandsAt, past, owner_here, wire-length}
use Rattle.messages.proofs.NameWritten.{octet_there, range_there}

index_here : (m : List ℕ) (p x : ℕ) (xs : List ℕ) → StandsAt m p (x ∷ xs) → slice_index m p ≡ x
index_here m p x xs s = get_or_from_slice_get m p x 0 (octet_there m s.front x xs p s.whole s.place)

-- two octets
two_here : (m : List ℕ) (p a b : ℕ) (xs : List ℕ) → StandsAt m p (a ∷ b ∷ xs) → pair m p ≡ a * 256 + b
two_here m p a b xs s = (λ i. index_here m p a (b ∷ xs) s i * 256 + index_here m (p + 1) b xs (past m p (p + 1) (a ∷ []) (b ∷ xs) s refl) i)

pub pair_here : (m : List ℕ) (p n : ℕ) (xs : List ℕ) → n < 65536 → StandsAt m p (to_be_bytes w16 n ++ xs) → pair m p ≡ n
pair_here m p n xs small s =
    let back = from_be_bytes-to_be_bytes_2 n small in
    let value : byte_at 1 n * 256 + byte_at 0 n ≡ n = omega (arith, back) in
    two_here m p (byte_at 1 n) (byte_at 0 n) xs s ∙ value

pub quad_here : (m : List ℕ) (p n : ℕ) (xs : List ℕ) → n < 4294967296 → StandsAt m p (to_be_bytes w32 n ++ xs) → quad m p ≡ n
quad_here m p n xs small s =
    let a = byte_at 3 n in
    let b = byte_at 2 n in
    let c = byte_at 1 n in
    let d = byte_at 0 n in
    let back = from_be_bytes-to_be_bytes_4 n small in
    let value : (a * 256 + b) * 65536 + (c * 256 + d) ≡ n = omega (arith, back) in
    let high = two_here m p a b (c ∷ d ∷ xs) s in
    let low_half = two_here m (p + 2) c d xs (past m p (p + 2) (a ∷ b ∷ []) (c ∷ d ∷ xs) s refl) in
    (λ i. high i * 65536 + low_half i) ∙ value

-- the octets of the numbers, and those behind them
abbrev pub behind_ttl : Fields → List ℕ → List ℕ
behind_ttl f xs = to_be_bytes w32 f.expiration ++ (to_be_bytes w32 f.inception ++ (to_be_bytes w16 f.tag ++ xs))

abbrev pub numbers_then : Fields → List ℕ → List ℕ
numbers_then f xs = to_be_bytes w16 f.covered ++ (f.algorithm ∷ (f.labels ∷ (to_be_bytes w32 f.ttl ++ behind_ttl f xs)))

pub numbers_here : (m : List ℕ) (p : ℕ) (f : Fields) (xs : List ℕ) (signer : Name) → AreFields f → StandsAt m p (numbers_then f xs) → rrsig_fields m p signer ≡ record f { signer = signer }
numbers_here m p f xs signer are s =
    let ttls = to_be_bytes w32 f.ttl in
    let ends = to_be_bytes w32 f.expiration in
    let begins = to_be_bytes w32 f.inception in
    let at2 = past m p (p + 2) (to_be_bytes w16 f.covered) (f.algorithm ∷ (f.labels ∷ (ttls ++ behind_ttl f xs))) s refl in
    let at3 = past m (p + 2) (p + 3) (f.algorithm ∷ []) (f.labels ∷ (ttls ++ behind_ttl f xs)) at2 (omega arith) in
    let at4 = past m (p + 3) (p + 4) (f.labels ∷ []) (ttls ++ behind_ttl f xs) at3 (omega arith) in
    let at8 = past m (p + 4) (p + 8) ttls (behind_ttl f xs) at4 (omega arith) in
    let at12 = past m (p + 8) (p + 12) ends (begins ++ (to_be_bytes w16 f.tag ++ xs)) at8 (omega arith) in
    let at16 = past m (p + 12) (p + 16) begins (to_be_bytes w16 f.tag ++ xs) at12 (omega arith) in
    let covered = pair_here m p f.covered _ are.covered s in
    let algorithm = index_here m (p + 2) f.algorithm _ at2 in
    let labels = index_here m (p + 3) f.labels _ at3 in
    let ttl = quad_here m (p + 4) f.ttl _ are.ttl at4 in
    let expiration = quad_here m (p + 8) f.expiration _ are.expiration at8 in
    let inception = quad_here m (p + 12) f.inception _ are.inception at12 in
    let tag = pair_here m (p + 16) f.tag _ are.tag at16 in
    (λ i. record { covered = covered i; algorithm = algorithm i; labels = labels i; ttl = ttl i; expiration = expiration i; inception = inception i; tag = tag i; signer = signer })

-- the signer and the signature behind the numbers
abbrev signer_then : Fields → List ℕ → List ℕ → List ℕ
signer_then f signature behind = wire f.signer ++ (signature ++ behind)

data_parts : (f : Fields) (signature behind : List ℕ) → rrsig_data f signature ++ behind ≡ numbers_then f (signer_then f signature behind)
data_parts f signature behind =
    append_assoc (fields_numbers f ++ wire f.signer) signature behind ∙ append_assoc (fields_numbers f) (wire f.signer) (signature ++ behind)

abbrev from_signer : List ℕ → Spelled → Option (Name × ℕ) → Option (Fields × List ℕ)
from_signer m r None = None
from_signer m r (Some s) =
    let signature = slice_range m s.1 (message.behind r) in
    if_true (fits (slice_range m r.start (r.start + 18) ++ (wire s.0 ++ signature))) (rrsig_fields m r.start (low s.0), signature)

abbrev when : List ℕ → Spelled → Bool → Option (Fields × List ℕ)
when m r true = from_signer m r (name_in pointer_limit m r (r.start + 18))
when m r false = None

abbrev upto : ℕ → Result (Name × ℕ) MessageError → Option (Name × ℕ)
upto limit (Err e) = None
upto limit (Ok n) = if_true (leb n.1 limit) n

abbrev when_inside : Bool → Option (Name × ℕ) → Option (Name × ℕ)
when_inside b o = elim b [ false ↦ None | true ↦ o ]

-- data that stand in a message
pub data_inside : (m : List ℕ) (r : Spelled) (d rest : List ℕ) → StandsAt m r.start (d ++ rest) → r.length ≡ length d → message.behind r ≤ length m
data_inside m r d rest s size = omega (arith, ap length s.whole, length-append s.front (d ++ rest), length-append d rest, s.place, size)

-- a name within a record's data
pub name_here : (m : List ℕ) (r : Spelled) (p q : ℕ) (n : Name) (rest : List ℕ) → message.behind r ≤ length m → IsName n → StandsAt m p (wire n ++ rest) → q ≡ p + wire_len n → q ≤ message.behind r → name_in pointer_limit m r p ≡ Some (n, q)
name_here m r p q n rest inside name s e near =
    let limit = message.behind r in
    ap (λ b. when_inside b (upto limit (owner_at pointer_limit m p))) (le-leb limit (length m) inside) ∙ ap (upto limit) (owner_here m p n rest name s) ∙ ap (λ k. upto limit (Ok (n, k))) (sym e) ∙ ap (λ b. if_true b (n, q)) (le-leb q limit near)

pub signature_here : (m : List ℕ) (f : Fields) (signature behind : List ℕ) (r : Spelled) → AreFields f → length (rrsig_data f signature) ≤ 65535 → StandsAt m r.start (rrsig_data f signature ++ behind) → r.length ≡ length (rrsig_data f signature) → rrsig_at pointer_limit m r ≡ Some (record f { signer = low f.signer }, signature)
signature_here m f signature behind r are few stands size =
    let start = r.start in
    let n = f.signer in
    let q = start + 18 + wire_len n in
    let s = subst (StandsAt m start) (data_parts f signature behind) stands in
    let at_signer = past m start (start + 18) (fields_numbers f) (signer_then f signature behind) s refl in
    let at_signature = past m (start + 18) q (wire n) (signature ++ behind) at_signer (ap (λ k. start + 18 + k) (sym (wire-length n))) in
    let whole : r.length ≡ 18 + wire_len n + length signature = omega (arith, size, length-append (fields_numbers f ++ wire n) signature, length-append (fields_numbers f) (wire n), wire-length n) in
    let long : 18 ≤ r.length = omega (arith, whole) in
    let near : q ≤ message.behind r = omega (arith, whole) in
    let signer : name_in pointer_limit m r (start + 18) ≡ Some (n, q) = name_here m r (start + 18) q n _ (data_inside m r (rrsig_data f signature) behind stands size) are.signer at_signer refl near in
    let fields = numbers_here m start f (signer_then f signature behind) (low n) are s in
    let octets = range_there m at_signature.front signature behind q (message.behind r) at_signature.whole at_signature.place (omega (arith, whole)) in
    let numbers = range_there m s.front (fields_numbers f) (signer_then f signature behind) start (start + 18) s.whole s.place refl in
    let sizes : length (fields_numbers f ++ (wire n ++ signature)) ≤ 65535 = omega (arith, few, length-append (fields_numbers f ++ wire n) signature, length-append (fields_numbers f) (wire n), length-append (fields_numbers f) (wire n ++ signature), length-append (wire n) signature) in
    let fitting : fits (slice_range m start (start + 18) ++ (wire n ++ slice_range m q (message.behind r))) ≡ true =
    (λ i. fits (numbers i ++ (wire n ++ octets i))) ∙ le-leb (length (fields_numbers f ++ (wire n ++ signature))) 65535 sizes in
    ap (when m r) (le-leb 18 r.length long) ∙ ap (from_signer m r) signer ∙ ap (λ b. if_true b (rrsig_fields m start (low n), slice_range m q (message.behind r))) fitting ∙ (λ i. Some (fields i, octets i))
