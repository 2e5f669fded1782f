-- Octets that are written in a message read back: numbers, records, and the whole.
use Rattle.std.proofs.Common.{◌≡◌, ℕ, ◌+◌, ◌*◌, ◌<◌, ◌≤◌, Bool, true, false, List, [], ◌∷◌, ◌++◌, length, Option, Some, None, Result, Ok, Err, refl, sym, subst, ap, ◌∙◌, append_assoc, length-append, arith}
use Rattle.std.specs.List.{AllByRecursion, AllZip, flat_map}
use Rattle.std.specs.Int.{w16, w32, to_be_bytes, byte_at}
use Rattle.std.proofs.lemmas.Bool.{le-leb}
use Rattle.std.proofs.lemmas.Nat.{from_be_bytes-to_be_bytes_2, from_be_bytes-to_be_bytes_4}
use Rattle.definitions.specs.Name.{Name, IsName, wire, wire_len}
use Rattle.definitions.specs.Limits.{pointer_limit}
use Rattle.messages.specs.declared.error.MessageError.{MessageError}
use Rattle.messages.specs.declared.error.MessageError.TheVariants.{ShortInput}
use Rattle.messages.specs.Message.{◌>>=◌, octet_at, u16_at, u32_at, owner_at, within, record_at, records_at, data_of}
use Rattle.messages.specs.Written.{Written, record_octets}
use Rattle.messages.specs.WrittenLaws.{IsRecord, spelled_at, spelled_from}
use Rattle.messages.proofs.NameLaws.{wire_len-cons}
use Rattle.messages.proofs.NameWritten.{octet_there, owner_wire, range_there}

-- these octets stand from a place on, to the end of the message
pub record StandsAt (m : List ℕ) (p : ℕ) (xs : List ℕ) : Type 0 where
  pub front : List ℕ
  pub whole : m ≡ front ++ xs
  pub place : p ≡ length front

pub past : (m : List ℕ) (p q : ℕ) (xs ys : List ℕ) → StandsAt m p (xs ++ ys) → q ≡ p + length xs → StandsAt m q ys
past m p q xs ys s e = record { front = s.front ++ xs; whole = s.whole ∙ sym (append_assoc s.front xs ys); place = omega (arith, e, s.place, length-append s.front xs) }

pub bind_ok : {A B : Type 0} (r : Result A MessageError) (x : A) (f : A → Result B MessageError) (y : Result B MessageError) → r ≡ Ok x → f x ≡ y → (r >>= f) ≡ y
bind_ok r x f y e h = ap (λ o. o >>= f) e ∙ h

-- ---- numbers

abbrev given : Option ℕ → Result ℕ MessageError
given None = Err ShortInput
given (Some b) = Ok b

octet_here : (m : List ℕ) (p x : ℕ) (xs : List ℕ) → StandsAt m p (x ∷ xs) → octet_at m p ≡ Ok x
octet_here m p x xs s = ap given (octet_there m s.front x xs p s.whole s.place)

u16_pair : (m : List ℕ) (p a b : ℕ) (xs : List ℕ) → StandsAt m p (a ∷ b ∷ xs) → u16_at m p ≡ Ok (a * 256 + b)
u16_pair m p a b xs s =
    bind_ok (octet_at m p) a (λ x. octet_at m (p + 1) >>= λ y. Ok (x * 256 + y)) (Ok (a * 256 + b)) (octet_here m p a (b ∷ xs) s)
    (bind_ok (octet_at m (p + 1)) b (λ y. Ok (a * 256 + y)) (Ok (a * 256 + b)) (octet_here m (p + 1) b xs (past m p (p + 1) (a ∷ []) (b ∷ xs) s refl)) refl)

pub u16_here : (m : List ℕ) (p n : ℕ) (xs : List ℕ) → n < 65536 → StandsAt m p (to_be_bytes w16 n ++ xs) → u16_at m p ≡ Ok n
u16_here m p n xs small s =
    let back = from_be_bytes-to_be_bytes_2 n small in
    let value : byte_at 1 n * 256 + byte_at 0 n ≡ n = omega (arith, back) in
    u16_pair m p (byte_at 1 n) (byte_at 0 n) xs s ∙ ap Ok value

pub u32_here : (m : List ℕ) (p n : ℕ) (xs : List ℕ) → n < 4294967296 → StandsAt m p (to_be_bytes w32 n ++ xs) → u32_at m p ≡ Ok n
u32_here m p n xs small s =
    let a = byte_at 3 n in
    let b = byte_at 2 n in
    let c = byte_at 1 n in
    let d = byte_at 0 n in
    let back = from_be_bytes-to_be_bytes_4 n small in
    let value : (a * 256 + b) * 65536 + (c * 256 + d) ≡ n = omega (arith, back) in
    bind_ok (u16_at m p) (a * 256 + b) (λ x. u16_at m (p + 2) >>= λ y. Ok (x * 65536 + y)) (Ok n) (u16_pair m p a b (c ∷ d ∷ xs) s)
    (bind_ok (u16_at m (p + 2)) (c * 256 + d) (λ y. Ok ((a * 256 + b) * 65536 + y)) (Ok n) (u16_pair m (p + 2) c d xs (past m p (p + 2) (a ∷ b ∷ []) (c ∷ d ∷ xs) s refl)) (ap Ok value))

-- ---- records

pub wire-length : (n : Name) → length (wire n) ≡ wire_len n
wire-length [] = refl
wire-length (l ∷ n) = omega (arith, wire-length n, wire_len-cons l n, length-append (length l ∷ l) (wire n), ap length (append_assoc (length l ∷ l) (flat_map (λ k. length k ∷ k) n) (0 ∷ [])))

abbrev if_inside : ℕ → Bool → Result ℕ MessageError
if_inside e true = Ok e
if_inside e false = Err ShortInput

within_here : (m : List ℕ) (p len : ℕ) → p + len ≤ length m → within m p len ≡ Ok (p + len)
within_here m p len h = ap (if_inside (p + len)) (le-leb (p + len) (length m) h)

-- the octets of a record, each part before the rest
parted : (w t c l s d rest : List ℕ) → w ++ t ++ c ++ l ++ s ++ d ++ rest ≡ w ++ (t ++ (c ++ (l ++ (s ++ (d ++ rest)))))
parted w t c l s d rest = simp append_assoc refl

pub record_parts : (r : Written) (rest : List ℕ) → record_octets r ++ rest ≡ wire r.owner ++ (to_be_bytes w16 r.rtype ++ (to_be_bytes w16 r.class ++ (to_be_bytes w32 r.ttl ++ (to_be_bytes w16 (length r.octets) ++ (r.octets ++ rest)))))
unfolding record_octets
record_parts r rest = parted (wire r.owner) (to_be_bytes w16 r.rtype) (to_be_bytes w16 r.class) (to_be_bytes w32 r.ttl) (to_be_bytes w16 (length r.octets)) r.octets rest

pub moved : (m : List ℕ) (p : ℕ) (xs ys : List ℕ) → xs ≡ ys → StandsAt m p xs → StandsAt m p ys
moved m p xs ys e s = subst (StandsAt m p) e s

-- the type of a record that is written at a place, and what stands behind it
type_behind : (m : List ℕ) (p : ℕ) (r : Written) (rest : List ℕ) → StandsAt m p (record_octets r ++ rest) → StandsAt m (p + wire_len r.owner) (to_be_bytes w16 r.rtype ++ (to_be_bytes w16 r.class ++ (to_be_bytes w32 r.ttl ++ (to_be_bytes w16 (length r.octets) ++ (r.octets ++ rest)))))
type_behind m p r rest s = past m p (p + wire_len r.owner) (wire r.owner) _ (moved m p _ _ (record_parts r rest) s) (ap (λ k. p + k) (sym (wire-length r.owner)))

class_behind : (m : List ℕ) (p : ℕ) (r : Written) (rest : List ℕ) → StandsAt m p (record_octets r ++ rest) → StandsAt m (p + wire_len r.owner + 2) (to_be_bytes w16 r.class ++ (to_be_bytes w32 r.ttl ++ (to_be_bytes w16 (length r.octets) ++ (r.octets ++ rest))))
class_behind m p r rest s = past m (p + wire_len r.owner) (p + wire_len r.owner + 2) (to_be_bytes w16 r.rtype) _ (type_behind m p r rest s) refl

ttl_behind : (m : List ℕ) (p : ℕ) (r : Written) (rest : List ℕ) → StandsAt m p (record_octets r ++ rest) → StandsAt m (p + wire_len r.owner + 4) (to_be_bytes w32 r.ttl ++ (to_be_bytes w16 (length r.octets) ++ (r.octets ++ rest)))
ttl_behind m p r rest s = past m (p + wire_len r.owner + 2) (p + wire_len r.owner + 4) (to_be_bytes w16 r.class) _ (class_behind m p r rest s) (omega arith)

size_behind : (m : List ℕ) (p : ℕ) (r : Written) (rest : List ℕ) → StandsAt m p (record_octets r ++ rest) → StandsAt m (p + wire_len r.owner + 8) (to_be_bytes w16 (length r.octets) ++ (r.octets ++ rest))
size_behind m p r rest s = past m (p + wire_len r.owner + 4) (p + wire_len r.owner + 8) (to_be_bytes w32 r.ttl) _ (ttl_behind m p r rest s) (omega arith)

pub data_behind : (m : List ℕ) (p : ℕ) (r : Written) (rest : List ℕ) → StandsAt m p (record_octets r ++ rest) → StandsAt m (p + wire_len r.owner + 10) (r.octets ++ rest)
data_behind m p r rest s = past m (p + wire_len r.owner + 8) (p + wire_len r.owner + 10) (to_be_bytes w16 (length r.octets)) _ (size_behind m p r rest s) (omega arith)

-- the place behind a record
abbrev pub end_of : ℕ → Written → ℕ
end_of p r = p + wire_len r.owner + 10 + length r.octets

-- what stands behind it
pub next_behind : (m : List ℕ) (p : ℕ) (r : Written) (rest : List ℕ) → StandsAt m p (record_octets r ++ rest) → StandsAt m (end_of p r) rest
next_behind m p r rest s = past m (p + wire_len r.owner + 10) (end_of p r) r.octets rest (data_behind m p r rest s) refl

inside : (m : List ℕ) (p : ℕ) (r : Written) (rest : List ℕ) → StandsAt m p (record_octets r ++ rest) → end_of p r ≤ length m
inside m p r rest s =
    let t = next_behind m p r rest s in
    omega (arith, t.place, ap length t.whole, length-append t.front rest)

pub owner_here : (m : List ℕ) (p : ℕ) (n : Name) (rest : List ℕ) → IsName n → StandsAt m p (wire n ++ rest) → owner_at pointer_limit m p ≡ Ok (n, p + wire_len n)
owner_here m p n rest name s = owner_wire pointer_limit n s.front rest m p name s.whole s.place

pub record_here : (m : List ℕ) (p : ℕ) (r : Written) (rest : List ℕ) → IsRecord r → StandsAt m p (record_octets r ++ rest) → record_at pointer_limit m p ≡ Ok (spelled_at p r, end_of p r)
record_here m p r rest is s =
    let q = p + wire_len r.owner in
    let size = length r.octets in
    bind_ok (owner_at pointer_limit m p) (r.owner, q) _ _ (owner_here m p r.owner _ is.owner (moved m p _ _ (record_parts r rest) s))
    (bind_ok (u16_at m q) r.rtype _ _ (u16_here m q r.rtype _ is.rtype (type_behind m p r rest s))
    (bind_ok (u16_at m (q + 2)) r.class _ _ (u16_here m (q + 2) r.class _ is.class (class_behind m p r rest s))
    (bind_ok (u32_at m (q + 4)) r.ttl _ _ (u32_here m (q + 4) r.ttl _ is.ttl (ttl_behind m p r rest s))
    (bind_ok (u16_at m (q + 8)) size _ _ (u16_here m (q + 8) size _ is.octets (size_behind m p r rest s))
    (bind_ok (within m (q + 10) size) (q + 10 + size) _ _ (within_here m (q + 10) size (inside m p r rest s)) refl)))))

pub records_here : (rs : List Written) (m : List ℕ) (p : ℕ) (rest : List ℕ) → AllByRecursion IsRecord rs → StandsAt m p (flat_map record_octets rs ++ rest) → records_at (length rs) pointer_limit m p ≡ Ok (spelled_from p rs)
records_here [] m p rest is s = refl
records_here (r ∷ rs) m p rest is s =
    let others = flat_map record_octets rs ++ rest in
    let t : StandsAt m p (record_octets r ++ others) = moved m p _ _ (append_assoc (record_octets r) (flat_map record_octets rs) rest) s in
    bind_ok (record_at pointer_limit m p) (spelled_at p r, end_of p r) _ _ (record_here m p r others is.0 t)
    (bind_ok (records_at (length rs) pointer_limit m (end_of p r)) (spelled_from (end_of p r) rs) _ _ (records_here rs m (end_of p r) rest is.1 (next_behind m p r others t)) refl)

pub data_here : (rs : List Written) (m : List ℕ) (p : ℕ) (rest : List ℕ) → StandsAt m p (flat_map record_octets rs ++ rest) → AllZip (λ s r. data_of m s ≡ r.octets) (spelled_from p rs) rs
data_here [] m p rest s = tt
data_here (r ∷ rs) m p rest s =
    let others = flat_map record_octets rs ++ rest in
    let t : StandsAt m p (record_octets r ++ others) = moved m p _ _ (append_assoc (record_octets r) (flat_map record_octets rs) rest) s in
    let d = data_behind m p r others t in
    (range_there m d.front r.octets others (p + wire_len r.owner + 10) (end_of p r) d.whole d.place refl, data_here rs m (end_of p r) rest (next_behind m p r others t))
