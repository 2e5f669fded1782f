-- What stands before the records of a message that was read.
use Rattle.std.proofs.Common.{◌≡◌, ℕ, zero, suc, ◌+◌, ◌*◌, ◌<◌, ◌≤◌, List, [], ◌∷◌, ◌++◌, length, Option, Some, None, Result, Ok, Err, refl, sym, arith}
use Rattle.std.specs.Prelude.{slice_get}
use Rattle.std.specs.List.{AllByRecursion}
use Rattle.messages.specs.declared.error.MessageError.{MessageError}
use Rattle.messages.specs.declared.error.MessageError.TheVariants.{ShortInput}
use Rattle.messages.specs.Message.{◌>>=◌, AreOctets, Message, message, u16_at}
use Rattle.messages.specs.WrittenLaws.{IsQuestion}
use Rattle.messages.proofs.MessageParts.{Headed, headed, number_there, records_at-length}
use Rattle.messages_canonical.proofs.NamesRead.{ReadsRecord, owner_name, records_read}

-- the parts of a message of octets, its question and its records as octets read
pub record HeadOf (k : ℕ) (m : List ℕ) (read : Message) : Type 0 where
  pub parts : Headed k m read
  pub count : parts.answers + parts.authority + parts.additional ≡ length read.records
  pub long : 12 ≤ length m
  pub asked : IsQuestion read.asked
  pub records : AllByRecursion ReadsRecord read.records

pub head_of : (k : ℕ) (m : List ℕ) (r : Message) → AreOctets m → message k m ≡ Ok r → HeadOf k m r
head_of k m r o reads =
    let h = headed k m r reads in
    let q = h.question in
    record {
      parts = h;
      count = sym (records_at-length (h.answers + h.authority + h.additional) k m h.behind r.records h.records);
      long = omega (arith, (number_there m 10 h.additional o h.additional_at).0);
      asked = record {
        name = owner_name k m 12 (r.asked.name, q.end) q.name;
        rtype = (number_there m q.end r.asked.rtype o q.rtype).1;
        class = (number_there m (q.end + 2) r.asked.class o q.class).1;
      };
      records = records_read (h.answers + h.authority + h.additional) k m h.behind r.records o h.records;
    }

-- ---- numbers in front of others

slice_get_front : (xs ys zs : List ℕ) (p : ℕ) → p < length xs → slice_get (xs ++ ys) p ≡ slice_get (xs ++ zs) p
slice_get_front [] ys zs p h = absurd (omega arith)
slice_get_front (x ∷ xs) ys zs zero h = refl
slice_get_front (x ∷ xs) ys zs (suc p) h = slice_get_front xs ys zs p (omega arith)

abbrev given : Option ℕ → Result ℕ MessageError
given None = Err ShortInput
given (Some b) = Ok b

abbrev number_of : Option ℕ → Option ℕ → Result ℕ MessageError
number_of a b = given a >>= λ x. given b >>= λ y. Ok (x * 256 + y)

-- a number that stands in octets is there whatever stands behind them
pub number_front : (xs ys zs : List ℕ) (p : ℕ) → p + 1 < length xs → u16_at (xs ++ ys) p ≡ u16_at (xs ++ zs) p
number_front xs ys zs p h =
    let low : p < length xs = omega (arith, h) in
    let one = slice_get_front xs ys zs p low in
    let two = slice_get_front xs ys zs (p + 1) h in
    λ i. number_of (one i) (two i)
