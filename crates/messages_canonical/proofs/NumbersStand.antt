-- The numbers of a record that reads, and its data, as they stand behind its owner.
use Rattle.std.proofs.Common.{◌≡◌, ℕ, zero, suc, ◌+◌, ◌-◌, ◌*◌, ◌<◌, ◌≤◌, List, [], ◌∷◌, ◌++◌, length, Option, Some, None, Result, Ok, Err, get_or, refl, sym, ap, ◌∙◌, append_assoc, arith}
use Rattle.std.specs.Prelude.{slice_get, slice_range}
use Rattle.std.specs.Int.{w16, w32, to_be_bytes}
use Rattle.std.proofs.lemmas.Nat.{be_bytes_2, be_bytes_4}
use Rattle.definitions.specs.Limits.{pointer_limit}
use Rattle.definitions.specs.Name.{wire}
use Rattle.definitions.proofs.ReadingLaws.{length-range}
use Rattle.messages.specs.declared.error.MessageError.{MessageError}
use Rattle.messages.specs.declared.error.MessageError.TheVariants.{ShortInput}
use Rattle.messages.specs.Message.{◌>>=◌, AreOctets, Spelled, behind, data_of, octet_at, u16_at, u32_at}
use Rattle.messages.specs.Rrsig.{record_numbers}
use Rattle.messages.specs.Written.{record_octets}
use Rattle.messages.proofs.MessageParts.{bound, octet_there, placed_record}
use Rattle.messages_canonical.specs.Canonical.{with_data}
use Rattle.messages_canonical.specs.Walking.{StandsAt}
use Rattle.messages_canonical.proofs.InPlace.{range_join}
use Rattle.messages_canonical.proofs.NamesPut.{empty, range_more}
use Rattle.messages_canonical.proofs.Pieces.{record_pieces}

-- ---- numbers

abbrev given : Option ℕ → Result ℕ MessageError
given o = elim o [ None ↦ Err ShortInput | Some b ↦ Ok b ]

octet_got : (m : List ℕ) (p b : ℕ) → octet_at m p ≡ Ok b → slice_get m p ≡ Some b
octet_got m p b h = go (slice_get m p) h
  where
    go : (o : Option ℕ) → given o ≡ Ok b → o ≡ Some b
    go (Some x) e = let is : x ≡ b = cc in ap Some is
    go None e = cc

small_2 : (a b i : ℕ) → a < 256 → b < 256 → get_or (a ∷ b ∷ []) i 0 < 256
small_2 a b zero h k = h
small_2 a b (suc zero) h k = k
small_2 a b (suc (suc i)) h k = omega arith

small_4 : (a b c d i : ℕ) → a < 256 → b < 256 → c < 256 → d < 256 → get_or (a ∷ b ∷ c ∷ d ∷ []) i 0 < 256
small_4 a b c d zero h k r s = h
small_4 a b c d (suc zero) h k r s = k
small_4 a b c d (suc (suc i)) h k r s = small_2 c d i r s

-- two octets that stand at a place, and the number that they are
pub record Pair (m : List ℕ) (p x : ℕ) : Type 0 where
  pub high : ℕ
  pub low : ℕ
  pub high_small : high < 256
  pub low_small : low < 256
  pub octets : slice_range m p (p + 2) ≡ high ∷ low ∷ []
  pub number : x ≡ high * 256 + low

pair_there : (m : List ℕ) (p x : ℕ) → AreOctets m → u16_at m p ≡ Ok x → Pair m p x
pair_there m p x o h =
    let one = bound (octet_at m p) (λ (a : ℕ). octet_at m (p + 1) >>= (λ b. Ok (a * 256 + b))) x h in
    let two = bound (octet_at m (p + 1)) (λ (b : ℕ). Ok (one.0 * 256 + b)) x one.2 in
    let ok = two.2 in
    let place : p + 1 + 1 ≡ p + 2 = omega arith in
    let first = range_more m p (p + 2) one.0 (octet_got m p one.0 one.1) (omega arith) in
    let second = range_more m (p + 1) (p + 2) two.0 (octet_got m (p + 1) two.0 two.1) (omega arith) in
    let none : slice_range m (p + 1 + 1) (p + 2) ≡ [] = ap (λ q. slice_range m q (p + 2)) place ∙ empty m (p + 2) in
    let is : x ≡ one.0 * 256 + two.0 = cc in
    record {
      high = one.0;
      low = two.0;
      high_small = (octet_there m p one.0 o one.1).1;
      low_small = (octet_there m (p + 1) two.0 o two.1).1;
      octets = first ∙ ap (λ (l : List ℕ). one.0 ∷ l) (second ∙ ap (λ (l : List ℕ). two.0 ∷ l) none);
      number = is;
    }

two_octets : (m : List ℕ) (p x : ℕ) → AreOctets m → u16_at m p ≡ Ok x → to_be_bytes w16 x ≡ slice_range m p (p + 2)
two_octets m p x o h =
    let w = pair_there m p x o h in
    be_bytes_2 (w.high ∷ w.low ∷ []) x refl (λ i. small_2 w.high w.low i w.high_small w.low_small) (omega (arith, w.number)) ∙ sym w.octets

four_octets : (m : List ℕ) (p x : ℕ) → AreOctets m → u32_at m p ≡ Ok x → to_be_bytes w32 x ≡ slice_range m p (p + 4)
four_octets m p x o h =
    let one = bound (u16_at m p) (λ (a : ℕ). u16_at m (p + 2) >>= (λ b. Ok (a * 65536 + b))) x h in
    let two = bound (u16_at m (p + 2)) (λ (b : ℕ). Ok (one.0 * 65536 + b)) x one.2 in
    let ok = two.2 in
    let is : x ≡ one.0 * 65536 + two.0 = cc in
    let a = pair_there m p one.0 o one.1 in
    let b = pair_there m (p + 2) two.0 o two.1 in
    let place : p + 2 + 2 ≡ p + 4 = omega arith in
    be_bytes_4 (a.high ∷ a.low ∷ b.high ∷ b.low ∷ []) x refl (λ i. small_4 a.high a.low b.high b.low i a.high_small a.low_small b.high_small b.low_small) (omega (arith, is, a.number, b.number))
    ∙ (λ i. sym a.octets i ++ sym b.octets i)
    ∙ ap (λ e. slice_range m p (p + 2) ++ slice_range m (p + 2) e) place
    ∙ sym (range_join m p (p + 2) (p + 4) (omega arith) (omega arith))

-- the four numbers between a record's owner and its data
numbers_there : (m : List ℕ) (p t c ttl len : ℕ) → AreOctets m → u16_at m p ≡ Ok t → u16_at m (p + 2) ≡ Ok c → u32_at m (p + 4) ≡ Ok ttl → u16_at m (p + 8) ≡ Ok len → slice_range m p (p + 10) ≡ record_numbers t c ttl len
unfolding record_numbers
numbers_there m p t c ttl len o h k r s =
    let a : slice_range m p (p + 2) ≡ to_be_bytes w16 t = sym (two_octets m p t o h) in
    let b : slice_range m (p + 2) (p + 4) ≡ to_be_bytes w16 c = let e : p + 2 + 2 ≡ p + 4 = omega arith in ap (slice_range m (p + 2)) (sym e) ∙ sym (two_octets m (p + 2) c o k) in
    let d : slice_range m (p + 4) (p + 8) ≡ to_be_bytes w32 ttl = let e : p + 4 + 4 ≡ p + 8 = omega arith in ap (slice_range m (p + 4)) (sym e) ∙ sym (four_octets m (p + 4) ttl o r) in
    let f : slice_range m (p + 8) (p + 10) ≡ to_be_bytes w16 len = let e : p + 8 + 2 ≡ p + 10 = omega arith in ap (slice_range m (p + 8)) (sym e) ∙ sym (two_octets m (p + 8) len o s) in
    range_join m p (p + 2) (p + 10) (omega arith) (omega arith)
    ∙ ap (λ (l : List ℕ). slice_range m p (p + 2) ++ l)
    (range_join m (p + 2) (p + 4) (p + 10) (omega arith) (omega arith) ∙ ap (λ (l : List ℕ). slice_range m (p + 2) (p + 4) ++ l) (range_join m (p + 4) (p + 8) (p + 10) (omega arith) (omega arith)))
    ∙ (λ i. a i ++ (b i ++ (d i ++ f i)))

-- ---- a record with its own data

pub record Own (m : List ℕ) (p : ℕ) (r : Spelled) : Type 0 where
  pub behind_numbers : 10 ≤ r.start
  pub inside : behind r ≤ length m
  pub octets : slice_range m (r.start - 10) (behind r) ≡ record_numbers r.rtype r.class r.ttl (length (data_of m r)) ++ data_of m r

pub own_data : (m : List ℕ) (p : ℕ) (r : Spelled) → AreOctets m → StandsAt m p r → Own m p r
own_data m p r o h =
    let w = placed_record pointer_limit m p (r, behind r) h in
    let size : length (data_of m r) ≡ r.length = length-range m r.start r.length w.inside in
    let from : r.start - 10 ≡ w.end = omega (arith, w.start) in
    let numbers = numbers_there m w.end r.rtype r.class r.ttl r.length o w.rtype w.class w.ttl w.length_at in
    record {
      behind_numbers = omega (arith, w.start);
      inside = w.inside;
      octets =
          ap (λ q. slice_range m q (behind r)) from
          ∙ range_join m w.end (w.end + 10) (behind r) (omega arith) (omega (arith, w.start))
          ∙ (λ i. numbers i ++ slice_range m (sym w.start i) (behind r))
          ∙ ap (λ n. record_numbers r.rtype r.class r.ttl n ++ data_of m r) (sym size);
    }

pub own_record : (m : List ℕ) (p : ℕ) (r : Spelled) (old a b : List ℕ) → AreOctets m → StandsAt m p r → a ≡ old ++ wire r.owner → b ≡ a ++ slice_range m (r.start - 10) (behind r) → b ≡ old ++ record_octets (with_data r (data_of m r))
own_record m p r old a b o h owner rest =
    let w = with_data r (data_of m r) in
    let numbers = record_numbers r.rtype r.class r.ttl (length (data_of m r)) in
    record_pieces w old a (a ++ numbers) b owner refl (rest ∙ ap (λ (l : List ℕ). a ++ l) (own_data m p r o h).octets ∙ sym (append_assoc a numbers (data_of m r)))
