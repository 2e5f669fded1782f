-- Type bitmaps, by computing.
use Rattle.std.proofs.Common.{◌≡◌, ℕ, true, false, List, [], ◌∷◌, ◌++◌, refl, map}
use Rattle.std.specs.Prelude.{replicate}
use Rattle.definitions.specs.Bitmap.{bitmap, bitmap_has, is_bitmap, octet_of, window_size, window_count}

abbrev five : List ℕ
five = 1234 ∷ 1 ∷ 15 ∷ 46 ∷ 47 ∷ []

-- RFC 4034, 4.3
octets_of_five : bitmap five ≡ (0 ∷ 6 ∷ 64 ∷ 1 ∷ 0 ∷ 0 ∷ 0 ∷ 3 ∷ 4 ∷ 27 ∷ []) ++ replicate 26 0 ++ 32 ∷ []
unfolding octet_of window_size window_count
octets_of_five = refl

order_means_nothing : bitmap (47 ∷ 15 ∷ 1234 ∷ 46 ∷ 1 ∷ 15 ∷ []) ≡ bitmap five
unfolding octet_of window_size window_count
order_means_nothing = refl

members : map (bitmap_has (bitmap five)) (1 ∷ 2 ∷ 15 ∷ 46 ∷ 47 ∷ 48 ∷ 1234 ∷ 1235 ∷ []) ≡ true ∷ false ∷ true ∷ true ∷ true ∷ false ∷ true ∷ false ∷ []
unfolding octet_of window_size window_count
members = refl

no_types : bitmap [] ≡ []
unfolding octet_of window_size window_count
no_types = refl

-- of windows with one number the first is seen
first_window : is_bitmap (0 ∷ 1 ∷ 64 ∷ 0 ∷ 1 ∷ 32 ∷ []) ∷ bitmap_has (0 ∷ 1 ∷ 64 ∷ 0 ∷ 1 ∷ 32 ∷ []) 1 ∷ bitmap_has (0 ∷ 1 ∷ 64 ∷ 0 ∷ 1 ∷ 32 ∷ []) 2 ∷ [] ≡ true ∷ true ∷ false ∷ []
first_window = refl

malformed_windows : map is_bitmap ((0 ∷ []) ∷ (0 ∷ 0 ∷ []) ∷ (0 ∷ 2 ∷ 64 ∷ []) ∷ (0 ∷ 33 ∷ replicate 33 1) ∷ []) ≡ false ∷ false ∷ false ∷ false ∷ []
malformed_windows = refl
