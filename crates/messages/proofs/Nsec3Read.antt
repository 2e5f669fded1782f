-- The data of NSEC3 records: what is written reads back, and what the parser reads is what is defined.
use Rattle.std.proofs.Common.{◌≡◌, ℕ, zero, suc, ◌+◌, ◌-◌, ◌<◌, ◌≤◌, Bool, true, false, List, [], ◌∷◌, ◌++◌, length, take, drop, get_or, Option, Some, None, Result, Ok, Err, refl, sym, subst, ap, ◌∙◌, append_assoc, leb, arith, length-append}
use Rattle.std.specs.Prelude.{slice_range, slice_index, if◌then◌else◌}
use Rattle.std.specs.Int.{w16, to_be_bytes, byte_at}
use Rattle.std.proofs.lemmas.Bool.{le-leb, leb-false, lt-leb}
use Rattle.std.proofs.lemmas.Nat.{from_be_bytes-to_be_bytes_2}
use Rattle.std.proofs.lemmas.List.{append-nil, take_rest}
use Rattle.std.proofs.lemmas.List.Folds.{drop_split}
use Rattle.definitions.specs.Bitmap.{bitmap, is_bitmap}
use Rattle.definitions.specs.Name.{Name}
use Rattle.definitions.specs.Reading.{ReadFault, Short, Malformed}
use Rattle.definitions.specs.Zone.{Zone}
use Rattle.definitions.specs.ZoneChain.{ChainParameters, excludes, flags_of, nsec3_next, nsec3_types}
use Rattle.definitions.specs.ZoneChain as chain
use Rattle.definitions.proofs.BitmapLaws.{spells_set}
use Rattle.names_rdata.specs.Reading.{behind_octets, data_at, ended, followed_by, if_short, octets_part}
use Rattle.names_parser.specs.Reader.{Reader}
use Rattle.denial_fields.specs.Counted.{counted, counted_by, counted_part}
use Rattle.denial_data.specs.Bitmaps.{bitmap_part}
use Rattle.denial_data.specs.Hashed.{Nsec3Data, nsec3_octets, nsec3_part, tail_part}
use Rattle.messages.specs.Message.{HashedNext, Spelled, data_of, hashed_next, if_true, next_of, nsec3_at, nsec3_data, nsec3_of, of_octets}
use Rattle.messages.specs.Message as message
use Rattle.messages.specs.Record.{hashed_link_of}
use Rattle.messages.proofs.DataParts.{Matches, at_end, matched, unmatched}
use Rattle.messages.proofs.MessageWritten.{StandsAt}
use Rattle.messages.proofs.NameWritten.{range_there}

-- ---- data that are written

-- the fields behind one another, the number of iterations in two octets
abbrev fields : ℕ → ℕ → ℕ → ℕ → List ℕ → List ℕ → List ℕ → List ℕ
fields a f high lo salt next bits = a ∷ f ∷ high ∷ lo ∷ length salt ∷ (salt ++ (length next ∷ (next ++ bits)))

abbrev said : ℕ → ℕ → ℕ → List ℕ → List ℕ → List ℕ → HashedNext
said a f iterations salt next bits = record { algorithm = a; flags = f; iterations = iterations; salt = salt; next = next; bits = bits }

index_at : (pre : List ℕ) (x : ℕ) (post : List ℕ) → slice_index (pre ++ x ∷ post) (length pre) ≡ x
index_at [] x post = refl
index_at (y ∷ pre) x post = index_at pre x post

index_there : (d pre : List ℕ) (x : ℕ) (post : List ℕ) (p : ℕ) → d ≡ pre ++ x ∷ post → p ≡ length pre → slice_index d p ≡ x
index_there d pre x post p e s = (λ t. slice_index (e t) (s t)) ∙ index_at pre x post

-- what follows the salt, by the length of the next hash
abbrev next_from : List ℕ → ℕ → ℕ → Option HashedNext
next_from d e n = elim (leb (e + 1 + n) (length d)) as (λ _. Option HashedNext) [
  | false ↦ None
  | true ↦ if_true (is_bitmap (slice_range d (e + 1 + n) (length d))) (hashed_next d e (e + 1 + n))
]

abbrev if_long : Bool → Option HashedNext → Option HashedNext
if_long b o = elim b as (λ _. Option HashedNext) [ false ↦ None | true ↦ o ]

fields_read : (a f high lo : ℕ) (salt next bits : List ℕ) → is_bitmap bits ≡ true → nsec3_of (fields a f high lo salt next bits) ≡ Some (said a f (of_octets high lo) salt next bits)
fields_read a f high lo salt next bits valid =
    let d = fields a f high lo salt next bits in
    let head = a ∷ f ∷ high ∷ lo ∷ length salt ∷ [] in
    let e = 5 + length salt in
    let q = e + 1 + length next in
    let n = length next in
    let tail = n ∷ (next ++ bits) in
    let size : length d ≡ q + length bits = omega (arith, length-append salt tail, length-append next bits) in
    let at_next : d ≡ (head ++ salt ++ n ∷ []) ++ (next ++ bits) = sym (append_assoc (head ++ salt) (n ∷ []) (next ++ bits)) in
    let at_bits : d ≡ (head ++ salt ++ n ∷ next) ++ (bits ++ []) = sym (append_assoc (head ++ salt) (n ∷ next) (bits ++ []) ∙ ap (λ l. head ++ salt ++ (n ∷ next ++ l)) (append-nil bits)) in
    let salt_is : slice_range d 5 e ≡ salt = range_there d head salt tail 5 e refl refl refl in
    let next_is : slice_range d (e + 1) q ≡ next = range_there d (head ++ salt ++ n ∷ []) next bits (e + 1) q at_next (omega (arith, length-append salt (n ∷ []))) refl in
    let bits_are : slice_range d q (length d) ≡ bits = range_there d (head ++ salt ++ n ∷ next) bits [] q (length d) at_bits (omega (arith, length-append salt (n ∷ next))) size in
    let count_is : slice_index d e ≡ n = index_there d (head ++ salt) n (next ++ bits) e refl (omega arith) in
    ap (λ b. if_long b (next_of d e)) (le-leb 5 (length d) (omega (arith, size)))
    ∙ ap (λ b. if_long b (next_from d e (slice_index d e))) (le-leb (e + 1) (length d) (omega (arith, size)))
    ∙ ap (next_from d e) count_is
    ∙ ap (λ b. if_long b (if_true (is_bitmap (slice_range d q (length d))) (hashed_next d e q))) (le-leb q (length d) (omega (arith, size)))
    ∙ (λ i. if_true (is_bitmap (bits_are i)) (said a f (of_octets high lo) (salt_is i) (next_is i) (bits_are i)))
    ∙ ap (λ b. if_true b (said a f (of_octets high lo) salt next bits)) valid

-- Data as they are written read as what they say, whatever the lengths of salt and next hash.
pub nsec3_reads : (a f iterations : ℕ) (salt next bits : List ℕ) → iterations < 65536 → is_bitmap bits ≡ true
    → nsec3_of (a ∷ f ∷ to_be_bytes w16 iterations ++ length salt ∷ salt ++ length next ∷ next ++ bits) ≡ Some (record { algorithm = a; flags = f; iterations = iterations; salt = salt; next = next; bits = bits })
nsec3_reads a f iterations salt next bits small valid =
    let high = byte_at 1 iterations in
    let lo = byte_at 0 iterations in
    let value : of_octets high lo ≡ iterations = omega (arith, from_be_bytes-to_be_bytes_2 iterations small) in
    ap nsec3_of (append_assoc (a ∷ f ∷ high ∷ lo ∷ length salt ∷ salt) (length next ∷ next) bits)
    ∙ fields_read a f high lo salt next bits valid
    ∙ ap (λ n. Some (said a f n salt next bits)) value

-- those of a zone's chain
pub chain_reads : (hash : Name → List ℕ) (z : Zone) (p : ChainParameters) (o : Name) → p.iterations < 65536
    → nsec3_of (chain.nsec3_data hash z p o) ≡ Some (record { algorithm = p.algorithm; flags = flags_of p; iterations = p.iterations; salt = p.salt; next = nsec3_next hash z (excludes p) o; bits = bitmap (nsec3_types z p.dnskey o) })
chain_reads hash z p o small =
    let types = nsec3_types z p.dnskey o in
    nsec3_reads p.algorithm (flags_of p) p.iterations p.salt (nsec3_next hash z (excludes p) o) (bitmap types) small (spells_set types).spelled

-- wherever they stand in a message
abbrev as_data : List ℕ → Option HashedNext → Option (List ℕ)
as_data d o = elim o as (λ _. Option (List ℕ)) [ None ↦ None | Some n ↦ Some d ]

pub nsec3_here : (m : List ℕ) (r : Spelled) (d rest : List ℕ) (n : HashedNext) → nsec3_of d ≡ Some n → StandsAt m r.start (d ++ rest) → r.length ≡ length d → nsec3_data m r ≡ Some d
nsec3_here m r d rest n reads s size =
    let there : data_of m r ≡ d = range_there m s.front d rest r.start (message.behind r) s.whole s.place (ap (λ k. r.start + k) size) in
    ap (λ l. as_data l (nsec3_of l)) there ∙ ap (as_data d) reads

-- ---- data that are read

-- a reader of octets alone
abbrev pub whole : List ℕ → Reader
whole d = record { octets = d; place = 0; end = length d }

-- the octets that were read are all
abbrev pub AllOf : List ℕ → List ℕ → HashedNext → Type 0
AllOf d octets n = octets ≡ d

-- the octets before the count of the next hash, that count and the hash
abbrev front : List ℕ → ℕ → List ℕ
front d e = slice_range d 0 4 ++ (slice_range d 4 5 ++ slice_range d 5 e)

abbrev hash_octets : List ℕ → ℕ → ℕ → List ℕ
hash_octets d e q = slice_range d e (e + 1) ++ slice_range d (e + 1) q

regrouped : (a b c x y z : List ℕ) → (a ++ (b ++ c)) ++ ((x ++ y) ++ z) ≡ a ++ (b ++ (c ++ (x ++ (y ++ z))))
regrouped a b c x y z = simp append_assoc refl

joined : (d : List ℕ) (e q : ℕ) → 5 ≤ e → e + 1 ≤ q → front d e ++ (hash_octets d e q ++ slice_range d q (length d)) ≡ d
joined d e q long le =
    let a = slice_range d 0 4 in
    let b = slice_range d 4 5 in
    let c = slice_range d 5 e in
    let x = slice_range d e (e + 1) in
    let y = slice_range d (e + 1) q in
    let split : d ≡ a ++ (b ++ (c ++ (x ++ (y ++ drop q d)))) =
    drop_split d 0 4 (omega arith) ∙ ap (λ l. a ++ l) (drop_split d 4 5 (omega arith) ∙ ap (λ l. b ++ l) (drop_split d 5 e long ∙ ap (λ l. c ++ l) (drop_split d e (e + 1) (omega arith) ∙ ap (λ l. x ++ l) (drop_split d (e + 1) q le)))) in
    ap (λ l. front d e ++ (hash_octets d e q ++ l)) (take_rest d q) ∙ regrouped a b c x y (drop q d) ∙ sym split

-- the octet at a place
first_of_one : (l : List ℕ) → get_or (take 1 l) 0 0 ≡ get_or l 0 0
first_of_one [] = refl
first_of_one (x ∷ l) = refl

first_behind : (p : ℕ) (d : List ℕ) → get_or (drop p d) 0 0 ≡ get_or d p 0
first_behind zero d = refl
first_behind (suc p) [] = refl
first_behind (suc p) (x ∷ d) = first_behind p d

octet_is : (d : List ℕ) (p : ℕ) → slice_index (slice_range d p (p + 1)) 0 ≡ slice_index d p
octet_is d p =
    let one : p + 1 - p ≡ 1 = omega arith in
    ap (λ n. get_or (take n (drop p d)) 0 0) one ∙ first_of_one (drop p d) ∙ first_behind p d

all_read : (d : List ℕ) (n : HashedNext) → length d ≤ 65535 → Matches (AllOf d) (ended (length d) (if_short (Ok (d, length d)))) (Some n)
all_read d n few =
    subst (λ b. Matches (AllOf d) (ended (length d) (if b then Ok (d, length d) else Err Malformed)) (Some n)) (sym (le-leb (length d) 65535 few))
    (at_end (AllOf d) (length d) d n refl)

bits_read : (d : List ℕ) (e q : ℕ) → length d ≤ 65535 → 5 ≤ e → e + 1 ≤ q → (b : Bool) (f : ReadFault)
    → Matches (AllOf d) (ended (length d) (if_short (behind_octets (front d e) (behind_octets (hash_octets d e q) (if b then Ok (slice_range d q (length d), length d) else Err f))))) (if_true b (hashed_next d e q))
bits_read d e q few long le true f =
    subst (λ l. Matches (AllOf d) (ended (length d) (if_short (Ok (l, length d)))) (Some (hashed_next d e q))) (sym (joined d e q long le)) (all_read d (hashed_next d e q) few)
bits_read d e q few long le false f = tt

hash_read : (d : List ℕ) (e n : ℕ) → length d ≤ 65535 → 5 ≤ e → (b : Bool)
    → Matches (AllOf d) (ended (length d) (if_short (behind_octets (front d e) (followed_by bitmap_part d (length d) (behind_octets (slice_range d e (e + 1)) (if b then Ok (slice_range d (e + 1) (e + 1 + n), e + 1 + n) else Err Short))))))
    (if_long b (if_true (is_bitmap (slice_range d (e + 1 + n) (length d))) (hashed_next d e (e + 1 + n))))
hash_read d e n few long true = bits_read d e (e + 1 + n) few long (omega arith) (is_bitmap (slice_range d (e + 1 + n) (length d))) _
hash_read d e n few long false = tt

-- what is read behind the salt, by the length of the next hash
abbrev behind_salt : List ℕ → ℕ → ℕ → Result (List ℕ) ReadFault
behind_salt d e n = ended (length d) (if_short (behind_octets (front d e) (followed_by bitmap_part d (length d) (behind_octets (slice_range d e (e + 1)) (octets_part n d (e + 1) (length d))))))

count_read : (d : List ℕ) (e : ℕ) → length d ≤ 65535 → 5 ≤ e → (b : Bool)
    → Matches (AllOf d) (ended (length d) (if_short (behind_octets (front d e) (followed_by bitmap_part d (length d) (counted_by d (length d) (if b then Ok (slice_range d e (e + 1), e + 1) else Err Short)))))) (if_long b (next_from d e (slice_index d e)))
count_read d e few long true =
    let n = slice_index d e in
    subst (λ k. Matches (AllOf d) (behind_salt d e k) (next_from d e n)) (sym (octet_is d e)) (hash_read d e n few long (leb (e + 1 + n) (length d)))
count_read d e few long false = tt

salt_read : (d : List ℕ) (s : ℕ) → length d ≤ 65535 → (b : Bool) → leb (5 + s) (length d) ≡ b
    → Matches (AllOf d) (ended (length d) (if_short (followed_by tail_part d (length d) (behind_octets (slice_range d 0 4) (behind_octets (slice_range d 4 5) (if b then Ok (slice_range d 5 (5 + s), 5 + s) else Err Short)))))) (next_of d (5 + s))
salt_read d s few true h = count_read d (5 + s) few (omega arith) (leb (5 + s + 1) (length d))
salt_read d s few false h =
    let none : next_of d (5 + s) ≡ None = ap (λ b. if_long b (next_from d (5 + s) (slice_index d (5 + s)))) (lt-leb (5 + s + 1) (length d) (omega (arith, leb-false (5 + s) (length d) h))) in
    subst (Matches (AllOf d) (Err Short)) (sym none) tt

-- what is read behind the first four octets, by the length of the salt
abbrev behind_head : List ℕ → ℕ → Result (List ℕ) ReadFault
behind_head d s = ended (length d) (if_short (followed_by tail_part d (length d) (behind_octets (slice_range d 0 4) (behind_octets (slice_range d 4 5) (octets_part s d 5 (length d))))))

size_read : (d : List ℕ) → length d ≤ 65535 → (b : Bool)
    → Matches (AllOf d) (ended (length d) (if_short (followed_by tail_part d (length d) (behind_octets (slice_range d 0 4) (counted_by d (length d) (if b then Ok (slice_range d 4 5, 5) else Err Short)))))) (if_long b (next_of d (5 + slice_index d 4)))
size_read d few true =
    let s = slice_index d 4 in
    subst (λ k. Matches (AllOf d) (behind_head d k) (next_of d (5 + s))) (sym (octet_is d 4)) (salt_read d s few (leb (5 + s) (length d)) refl)
size_read d few false = tt

head_read : (d : List ℕ) → length d ≤ 65535 → (b : Bool) → leb 4 (length d) ≡ b
    → Matches (AllOf d) (ended (length d) (if_short (followed_by tail_part d (length d) (followed_by counted_part d (length d) (if b then Ok (slice_range d 0 4, 4) else Err Short))))) (nsec3_of d)
head_read d few true h = size_read d few (leb 5 (length d))
head_read d few false h =
    let none : nsec3_of d ≡ None = ap (λ b. if_long b (next_of d (5 + slice_index d 4))) (lt-leb 5 (length d) (omega (arith, leb-false 4 (length d) h))) in
    subst (Matches (AllOf d) (Err Short)) (sym none) tt

nsec3_matches : (d : List ℕ) → length d ≤ 65535 → Matches (AllOf d) (data_at nsec3_part (whole d)) (nsec3_of d)
nsec3_matches d few = head_read d few (leb 4 (length d)) refl

pub nsec3_found : (d : List ℕ) (l : Nsec3Data) → length d ≤ 65535 → l.params.iterations < 65536 → is_bitmap l.types ≡ true → data_at nsec3_part (whole d) ≡ Ok (nsec3_octets l) → nsec3_of d ≡ Some (hashed_link_of l)
nsec3_found d l few small valid found =
    let x = matched (AllOf d) (data_at nsec3_part (whole d)) (nsec3_of d) (nsec3_octets l) (nsec3_matches d few) found in
    let p = l.params in
    ap nsec3_of (sym x.2 ∙ sym (append_assoc (p.algorithm ∷ p.flags ∷ to_be_bytes w16 p.iterations ++ counted p.salt) (counted l.next_owner) l.types))
    ∙ nsec3_reads p.algorithm p.flags p.iterations p.salt l.next_owner l.types small valid

pub nsec3_unread : (d : List ℕ) (f : ReadFault) → length d ≤ 65535 → data_at nsec3_part (whole d) ≡ Err f → nsec3_of d ≡ None
nsec3_unread d f few h = unmatched (AllOf d) (data_at nsec3_part (whole d)) (nsec3_of d) f (nsec3_matches d few) h
