-- A name and a bitmap fit the data of a record.
use Rattle.std.proofs.Common.{◌≡◌, ℕ, ◌+◌, ◌*◌, ◌≤◌, Bool, true, false, List, [], ◌∷◌, ◌++◌, length, ap, arith, length-append, cond}
use Rattle.std.specs.Prelude.{◌==◌}
use Rattle.std.specs.List.{flat_map}
use Rattle.definitions.specs.Bitmap.{below, bitmap, window, window_count, window_octets}
use Rattle.definitions.specs.Name.{Name, IsName, wire, wire_len}
use Rattle.definitions.proofs.BitmapLaws.{length-below, length-window}
use Rattle.names_labels.proofs.Checks.{length-wire}

flat_length : (f : ℕ → List ℕ) (n : ℕ) → ((x : ℕ) → length (f x) ≤ n) → (xs : List ℕ) → length (flat_map f xs) ≤ n * length xs
flat_length f n h [] = omega arith
flat_length f n h (x ∷ xs) =
    let one : length (f x) ≤ n = h x in
    let rest : length (flat_map f xs) ≤ n * length xs = flat_length f n h xs in
    let both : length (f x ++ flat_map f xs) ≡ length (f x) + length (flat_map f xs) = length-append (f x) (flat_map f xs) in
    omega arith

window_short : (ts : List ℕ) (w : ℕ) → length (window ts w) ≤ 34
window_short ts w = go (length (window_octets ts w) == 0) (length-window ts w)
  where
    go : (b : Bool) → length (window_octets ts w) ≤ 32 → length (cond b [] (w ∷ length (window_octets ts w) ∷ window_octets ts w)) ≤ 34
    go true h = omega arith
    go false h = omega arith

bitmap_short : (ts : List ℕ) → length (bitmap ts) ≤ 34 * 256
unfolding window_count
bitmap_short ts =
    let few : length (flat_map (window ts) (below window_count)) ≤ 34 * length (below window_count) = flat_length (window ts) 34 (window_short ts) (below window_count) in
    let count : length (below 256) ≡ 256 = length-below 256 in
    omega arith

pub data_fits : (n : Name) (ts types : List ℕ) → IsName n → types ≡ bitmap ts → length (wire n ++ types) ≤ 65535
data_fits n ts types h e =
    let name : length (wire n) ≡ wire_len n = length-wire n in
    let short : wire_len n ≤ 255 = h.short in
    let bits : length types ≡ length (bitmap ts) = ap length e in
    let few : length (bitmap ts) ≤ 34 * 256 = bitmap_short ts in
    let both : length (wire n ++ types) ≡ length (wire n) + length types = length-append (wire n) types in
    omega arith
