-- What signed octets are made of, record by record.
use Rattle.std.proofs.Common.{[], ◌≡◌, ℕ, ◌+◌, ◌-◌, ◌<◌, List, ◌∷◌, ◌++◌, length, get_or, take, drop, map, refl, ap, ◌∙◌, sym, append_assoc}
use Rattle.std.specs.List.{flat_map}
use Rattle.std.specs.Int.{w16, w32, to_be_bytes}
use Rattle.std.proofs.lemmas.List.{append-nil, drop-map}
use Rattle.std.proofs.lemmas.List.Concat.{flat_map-append}
use Rattle.std.proofs.Math.Seq.{take-length}
use Rattle.std.proofs.lemmas.Bool.{lt-ltb}
use Rattle.std.specs.Prelude.{Err, Ok, OnOk, Result, if◌then◌else◌}
use Rattle.std.specs.Result.{is_ok}
use Rattle.std.specs.Str.{str_to_ascii_lowercase}
use Rattle.definitions.specs.Name.{Name, wire, low}
use Rattle.definitions.specs.Signing.{Fields, fields_data, label_count, signed_owner, signed_octets, canonical_record}
use Rattle.messages.specs.Rrsig.{record_head, record_numbers, with_length}
use Rattle.messages.proofs.Lists.{take_next}

-- an owner with more labels than are counted is signed as a star and its last labels
pub signed_owner-star : (count : ℕ) (owner : Name) → count < label_count owner → wire (signed_owner count owner) ≡ 1 ∷ 42 ∷ wire (low (drop (length owner - count) owner))
signed_owner-star count owner h =
    ap (λ b. wire (if b then (42 ∷ []) ∷ drop (length owner - count) (low owner) else low owner)) (lt-ltb count (label_count owner) h)
    ∙ ap (λ n. 1 ∷ 42 ∷ wire n) (drop-map str_to_ascii_lowercase (length owner - count) owner)

-- canonical records are one head with each of the data behind it
pub flat_map-heads : {X : Type 0} (h : X → List ℕ) (owner : Name) (t class ttl : ℕ) (xs : List X) → flat_map (λ v. record_head owner t class ttl ++ with_length (h v)) xs ≡ flat_map (canonical_record owner t class ttl) (map h xs)
flat_map-heads h owner t class ttl [] = refl
flat_map-heads h owner t class ttl (x ∷ xs) =
    let head = record_head owner t class ttl in
    let len = to_be_bytes w16 (length (h x)) in
    ap (λ p. p ++ flat_map (λ v. head ++ with_length (h v)) xs) (sym (append_assoc head len (h x)))
    ∙ ap (λ r. ((head ++ len) ++ h x) ++ r) (flat_map-heads h owner t class ttl xs)

-- a star and the last labels were written
pub star_written : (count from : ℕ) (owner source : Name) (old mid new : List ℕ) → count < label_count owner → mid ≡ old ++ (1 ∷ 42 ∷ []) → source ≡ drop (length owner - from) owner → from ≡ count → new ≡ mid ++ wire (low source) → new ≡ old ++ wire (signed_owner count owner)
star_written count from owner source old mid new below m s f n =
    let at : source ≡ drop (length owner - count) owner = s ∙ ap (λ k. drop (length owner - k) owner) f in
    n ∙ ap (λ x. x ++ wire (low source)) m ∙ append_assoc old (1 ∷ 42 ∷ []) (wire (low source))
    ∙ ap (λ x. old ++ (1 ∷ 42 ∷ wire (low x))) at ∙ ap (λ x. old ++ x) (sym (signed_owner-star count owner below))

-- all records were written
pub signed_octets_written : {X : Type 0} (h : X → List ℕ) (f : Fields) (owner : Name) (class : ℕ) (xs : List X) (i : ℕ) (out : List ℕ) → (let head = record_head (signed_owner f.labels owner) f.covered class f.ttl in out ≡ fields_data f ++ flat_map (λ v. head ++ with_length (h v)) (take i xs)) → i ≡ length xs → out ≡ signed_octets f owner class (map h xs)
signed_octets_written h f owner class xs i out o n =
    let head = record_head (signed_owner f.labels owner) f.covered class f.ttl in
    o ∙ ap (λ ys. fields_data f ++ flat_map (λ v. head ++ with_length (h v)) ys) (ap (λ k. take k xs) n ∙ take-length xs)
    ∙ ap (λ b. fields_data f ++ b) (flat_map-heads h (signed_owner f.labels owner) f.covered class f.ttl xs)

-- what was appended, unless it was refused
pub if_appended : {T E : Type 0} (r : Result T E) (new more same : List ℕ) → new ≡ (if is_ok r then more else same) → OnOk r (new ≡ more)
if_appended (Ok x) new more same e = e
if_appended (Err f) new more same e = tt

-- a record more was written
pub one_more_signed : {X : Type 0} (old fields : List ℕ) (octets : X → List ℕ) (xs : List X) (i : ℕ) (x : X) → i < length xs → x ≡ get_or xs i x
    → (old ++ (fields ++ flat_map octets (take i xs))) ++ octets x ≡ old ++ (fields ++ flat_map octets (take (i + 1) xs))
one_more_signed old fields octets xs i x inside is =
    let so_far = flat_map octets (take i xs) in
    append_assoc old (fields ++ so_far) (octets x)
    ∙ ap (λ v. old ++ v) (append_assoc fields so_far (octets x)
    ∙ ap (λ v. fields ++ v) (sym (ap (flat_map octets) (take_next xs i x inside is) ∙ flat_map-append octets (take i xs) (x ∷ []) ∙ ap (λ v. so_far ++ v) (append-nil (octets x)))))

-- owner, numbers and data are a record
pub record_written : (old owner octets : List ℕ) (t class ttl : ℕ) → ((old ++ owner) ++ record_numbers t class ttl (length octets)) ++ octets
    ≡ old ++ ((owner ++ to_be_bytes w16 t ++ to_be_bytes w16 class ++ to_be_bytes w32 ttl) ++ with_length octets)
unfolding record_numbers
record_written old owner octets t class ttl = simp append_assoc
