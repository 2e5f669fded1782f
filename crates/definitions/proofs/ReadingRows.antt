-- Reading names out of a message, by computing.
use Rattle.std.proofs.Common.{◌≡◌, ℕ, ◌*◌, ◌+◌, ◌-◌, ◌/◌, ◌%◌, List, [], ◌∷◌, ◌++◌, refl}
use Rattle.std.specs.Prelude.{codes, nat_eq, if◌then◌else◌, Result, Ok, Err, replicate}
use Rattle.std.specs.List.{flat_map}
use Rattle.definitions.specs.Name.{Name, wire_len}
use Rattle.definitions.specs.Reading.{ReadFault, Short, Malformed, name_at, end_at, most_heads}
use Rattle.definitions.specs.Bitmap.{below}

abbrev three : List ℕ
three = 3 ∷ codes "com" ++ 0 ∷ 7 ∷ codes "example" ++ 192 ∷ 0 ∷ 3 ∷ codes "www" ++ 192 ∷ 5 ∷ []

-- two pointers are followed, and the name ends behind the first
two_pointers : name_at 255 three 15 ≡ Ok (codes "www" ∷ codes "example" ∷ codes "com" ∷ [], 21)
unfolding most_heads
two_pointers = refl

-- with none left a pointer is malformed
no_pointers : name_at 0 three 15 ≡ Err Malformed
unfolding most_heads
no_pointers = refl

one_pointer : name_at 1 three 15 ≡ Err Malformed
unfolding most_heads
one_pointer = refl

to_itself : name_at 255 (192 ∷ 0 ∷ 49 ∷ 50 ∷ []) 0 ≡ Err Malformed
unfolding most_heads
to_itself = refl

forward : name_at 255 (192 ∷ 2 ∷ 0 ∷ []) 0 ≡ Err Malformed
unfolding most_heads
forward = refl

at_each_other : name_at 255 (192 ∷ 2 ∷ 192 ∷ 0 ∷ []) 2 ≡ Err Malformed
unfolding most_heads
at_each_other = refl

half_a_pointer : name_at 255 (0 ∷ 192 ∷ []) 1 ≡ Err Short
unfolding most_heads
half_a_pointer = refl

cut_label : name_at 0 (3 ∷ 119 ∷ 119 ∷ []) 0 ≡ Err Short
unfolding most_heads
cut_label = refl

no_octets : name_at 0 [] 0 ≡ Err Short
unfolding most_heads
no_octets = refl

other_label_types : name_at 255 (102 ∷ 0 ∷ []) 0 ≡ Err Malformed
unfolding most_heads
other_label_types = refl

-- three labels of 63 octets and one of 61 fill a name; one octet more is malformed
abbrev label : ℕ → List ℕ
label n = n ∷ replicate n 97

abbrev size : Result (Name × ℕ) ReadFault → List ℕ
size (Ok r) = wire_len r.0 ∷ r.1 ∷ []
size (Err f) = []

full_name : size (name_at 0 (label 63 ++ label 63 ++ label 63 ++ label 61 ++ 0 ∷ []) 0) ≡ 255 ∷ 255 ∷ []
unfolding most_heads
full_name = refl

over_full_name : name_at 0 (label 63 ++ label 63 ++ label 63 ++ label 62 ++ 0 ∷ []) 0 ≡ Err Malformed
unfolding most_heads
over_full_name = refl

-- 127 labels behind as many pointers, and then 129 pointers more
abbrev to : ℕ → List ℕ
to p = (192 + p / 256) ∷ p % 256 ∷ []

abbrev unit : ℕ → List ℕ
unit k = 1 ∷ 97 ∷ to (if nat_eq k 0 then 0 else 4 * k - 3)

abbrev chain : List ℕ
chain = 0 ∷ flat_map unit (below 127) ++ flat_map (λ k. to (if nat_eq k 0 then 505 else 509 + 2 * (k - 1))) (below 129)

chain_of_255_pointers : size (name_at 255 chain 763) ≡ 255 ∷ 765 ∷ []
unfolding most_heads
chain_of_255_pointers = refl

chain_of_256_pointers : name_at 255 chain 765 ≡ Err Malformed
unfolding most_heads
chain_of_256_pointers = refl

chain_end : end_at 255 chain 765 ≡ Ok 767
unfolding most_heads
chain_end = refl
