-- What a name feeds a hasher.
use Rattle.std.proofs.Common.{◌≡◌, ℕ, List, [], ◌∷◌, ◌++◌, refl, sym, ap, ◌∙◌, append_assoc}
use Rattle.std.specs.Prelude.{IsTrue}
use Rattle.std.specs.List.{flat_map}
use Rattle.std.specs.Str.{bytes_eq, str_to_ascii_lowercase}
use Rattle.std.proofs.lemmas.Slice.Eq.{bytes_eq-Decides}
use Rattle.std.proofs.lemmas.Bool.{and_parts}
use Rattle.names_wire.specs.Name.{Name, same}
use Rattle.names_wire.specs.Label.{label_hash}

-- each label, with ASCII letters lowered
abbrev pub labels_feed : Name → List (List ℕ)
labels_feed n = flat_map (λ l. label_hash (str_to_ascii_lowercase l)) n

-- the labels of an absolute name, the root's last
abbrev pub name_feed : Name → List (List ℕ)
name_feed n = labels_feed (n ++ [] ∷ [])

-- names that are the same feed the same
pub labels_feed-same : (m n : Name) → IsTrue (same m n) → labels_feed m ≡ labels_feed n
labels_feed-same [] [] h = refl
labels_feed-same [] (l ∷ n) h = cc
labels_feed-same (k ∷ m) [] h = cc
labels_feed-same (k ∷ m) (l ∷ n) h =
    let b = and_parts (bytes_eq (str_to_ascii_lowercase k) (str_to_ascii_lowercase l)) (same m n) h in
    let e = (bytes_eq-Decides (str_to_ascii_lowercase k) (str_to_ascii_lowercase l)).0 b.0 in
    λ t. label_hash (e t) ++ labels_feed-same m n b.1 t

behind : (m n : Name) (root : List (List ℕ)) → labels_feed m ≡ labels_feed n → labels_feed m ++ root ≡ labels_feed n ++ root
behind m n root e = ap (λ s. s ++ root) e

rooted : (n : Name) → name_feed n ≡ labels_feed n ++ (label_hash [] ++ [])
rooted [] = refl
rooted (l ∷ n) = ap (λ s. label_hash (str_to_ascii_lowercase l) ++ s) (rooted n) ∙ sym (append_assoc (label_hash (str_to_ascii_lowercase l)) (labels_feed n) (label_hash [] ++ []))

pub name_feed-same : (m n : Name) → IsTrue (same m n) → name_feed m ≡ name_feed n
name_feed-same m n h = rooted m ∙ behind m n (label_hash [] ++ []) (labels_feed-same m n h) ∙ sym (rooted n)
