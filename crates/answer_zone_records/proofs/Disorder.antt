-- Aliases that are out of order among a zone's records, and what stands at their owners and below them.
use Rattle.std.proofs.Common.{◌≡◌, Bool, true, false, ◌&&◌, ◌||◌, List, [], ◌∷◌, refl, ap, ◌∙◌, cond}
use Rattle.std.specs.List.{AllByRecursion, list_any, filter}
use Rattle.definitions.specs.Name.{Name, same}
use Rattle.messages.specs.HandedRr.{HandedRr}
use Rattle.messages.proofs.Lists.{all_fail, all_sorted}
use Rattle.answer_terms.specs.Accepting.{is_alias, record_cmp, sorted_records}
use Rattle.answer_zone_records.specs.AliasFaults.{crowds, has_disorder, is_below_dname, is_disorderly, lacks_target, redirects_star, rivals}
use Rattle.answer_zone_records.specs.OwnedRecords.{owned_by}

-- ---- two tests at once

shuffled : (p q s a b : Bool) → s ≡ (a || b) → ((p || q) || s) ≡ ((p || a) || (q || b))
shuffled true q s a b h = refl
shuffled false true s true b h = refl
shuffled false true s false b h = refl
shuffled false false s a b h = h

split_first : {A : Type 0} (b c d : Bool) (p : A → Bool) (x : A) (ys : List A) (t s : Bool) → c ≡ p x → s ≡ (list_any p ys || t) → (((b && c) || d) || s) ≡ (list_any p (cond b (x ∷ ys) ys) || (d || t))
split_first true c d p x ys t s e h = shuffled c d s (list_any p ys) t h ∙ ap (λ k. (k || list_any p ys) || (d || t)) e
split_first false c d p x ys t s e h = shuffled false d s (list_any p ys) t h

any_split : {A : Type 0} (k p q : A → Bool) (xs : List A) → list_any (λ x. (k x && p x) || q x) xs ≡ (list_any p (filter k xs) || list_any q xs)
any_split k p q [] = refl
any_split k p q (x ∷ xs) = split_first (k x) (p x) (q x) p x (filter k xs) (list_any q xs) (list_any (λ y. (k y && p y) || q y) xs) refl (any_split k p q xs)

pub any_under : {A : Type 0} (b : Bool) (q : A → Bool) (xs : List A) → list_any (λ x. b && q x) xs ≡ (b && list_any q xs)
any_under true q xs = refl
any_under false q [] = refl
any_under false q (x ∷ xs) = any_under false q xs

-- what crowds an alias is a rival of its owner, or is below it
pub crowded : (apex : Name) (r : HandedRr) (rs : List HandedRr) → list_any (crowds apex r) rs ≡ (list_any (rivals apex r) (owned_by r.owner rs) || list_any (is_below_dname r) rs)
crowded apex r rs = any_split (λ (s : HandedRr). same s.owner r.owner) (rivals apex r) (is_below_dname r) rs

-- ---- records without aliases

no_alias_orderly : (apex : Name) (among : List HandedRr) (rs : List HandedRr) → AllByRecursion (λ r. is_alias r ≡ false) rs → list_any (is_disorderly apex among) rs ≡ false
no_alias_orderly apex among [] h = refl
no_alias_orderly apex among (r ∷ rs) h =
    (λ i. (h.0 i && (lacks_target r || redirects_star r || list_any (crowds apex r) among)) || no_alias_orderly apex among rs h.1 i)

pub no_disorder : (apex : Name) (rs : List HandedRr) → list_any is_alias rs ≡ false → has_disorder apex (sorted_records rs) ≡ false
no_disorder apex rs h = no_alias_orderly apex (sorted_records rs) (sorted_records rs) (all_sorted (λ r. is_alias r ≡ false) record_cmp rs (all_fail is_alias rs h))
