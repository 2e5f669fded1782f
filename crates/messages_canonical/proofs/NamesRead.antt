-- What is read of a message of octets: names, and numbers that fit.
use Rattle.std.proofs.Common.{◌≡◌, ℕ, ◌+◌, ◌<◌, ◌≤◌, List, length, Ok, ap, ◌∙◌, arith}
use Rattle.std.specs.Prelude.{slice_range}
use Rattle.std.specs.List.{AllByRecursion}
use Rattle.definitions.specs.Name.{Name, IsLabel, IsName}
use Rattle.definitions.specs.Reading.{Reads, root, label, pointer}
use Rattle.definitions.proofs.ReadingLaws.{length-range, reads_exactly}
use Rattle.messages.specs.Message.{AreOctets, Spelled, owner_at, records_at}
use Rattle.messages.proofs.Lists.{all_more}
use Rattle.messages.proofs.MessageParts.{Stands, each_stands, long_there, number_there, owner_reads}

-- ---- names

pub labels_read : {m : List ℕ} {p k b : ℕ} {ls : Name} → Reads m p k ls b → AllByRecursion IsLabel ls
labels_read (root h e) = tt
labels_read {m} {p} (label {n = n} {e = e} {l = l} h a b c d f r) =
    let inside : p + 1 + n ≤ length m = omega (arith, c, d) in
    let len : length l ≡ n = ap length f ∙ ap (λ x. length (slice_range m (p + 1) x)) c ∙ length-range m (p + 1) n inside in
    (record { some = omega (arith, len, a); short = omega (arith, len, b) }, labels_read r)
labels_read (pointer h a b c d e r) = labels_read r

pub owner_name : (k : ℕ) (m : List ℕ) (p : ℕ) (n : Name × ℕ) → owner_at k m p ≡ Ok n → IsName n.0
owner_name k m p n h =
    let r = (reads_exactly m p k n.0 n.1).0 (owner_reads k m p n h) in
    record { labels = labels_read r.0; short = r.1 }

-- ---- records

-- what a record that was read holds
pub record ReadsRecord (r : Spelled) : Type 0 where
  pub owner : IsName r.owner
  pub rtype : r.rtype < 65536
  pub class : r.class < 65536
  pub ttl : r.ttl < 4294967296

pub records_read : (n k : ℕ) (m : List ℕ) (p : ℕ) (rs : List Spelled) → AreOctets m → records_at n k m p ≡ Ok rs → AllByRecursion ReadsRecord rs
records_read n k m p rs o h = all_more (Stands k m) ReadsRecord rs holds (each_stands n k m p rs h)
  where
    holds : (r : Spelled) → Stands k m r → ReadsRecord r
    holds r s =
        let w = s.placed in
        record {
          owner = owner_name k m s.place (r.owner, w.end) w.owner;
          rtype = (number_there m w.end r.rtype o w.rtype).1;
          class = (number_there m (w.end + 2) r.class o w.class).1;
          ttl = long_there m (w.end + 4) r.ttl o w.ttl;
        }
