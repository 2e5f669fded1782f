-- The greatest TTL, record by record.
use Rattle.std.proofs.Common.{◌≡◌, ◌∙◌, ℕ, ◌+◌, ◌<◌, ◌≤◌, List, ◌∷◌, length, drop, get_or, map, max, sym, ap}
use Rattle.std.proofs.lemmas.List.{drop_all, drop_more}
use Rattle.messages.specs.HandedRr.{HandedRr}
use Rattle.server_zone.specs.States.{greatest_ttl}

-- a record more
pub ttl_more : {A : Type 0} (f : A → HandedRr) (ttl whole : ℕ) (rs : List A) (i : ℕ) (x : A) → i < length rs → x ≡ get_or rs i x → greatest_ttl ttl (map f (drop i rs)) ≡ whole
    → greatest_ttl (max ttl (f x).ttl) (map f (drop (i + 1) rs)) ≡ whole
ttl_more {A = A} f ttl whole rs i x inside is h =
    let at_place : drop i rs ≡ x ∷ drop (i + 1) rs = drop_more rs i x inside ∙ ap (λ (v : A). v ∷ drop (i + 1) rs) (sym is) in
    sym (ap (λ (l : List A). greatest_ttl ttl (map f l)) at_place) ∙ h

-- no record is left
pub ttl_end : {A : Type 0} (f : A → HandedRr) (ttl whole : ℕ) (rs : List A) (i : ℕ) → length rs ≤ i → greatest_ttl ttl (map f (drop i rs)) ≡ whole → ttl ≡ whole
ttl_end {A = A} f ttl whole rs i past h = sym (ap (λ (l : List A). greatest_ttl ttl (map f l)) (drop_all i rs past)) ∙ h
