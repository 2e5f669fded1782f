-- Signatures that keys made, one after another.
use Rattle.std.proofs.Common.{◌≡◌, ℕ, ◌+◌, ◌<◌, Bool, true, List, [], ◌∷◌, ◌++◌, Option, Some, length, take, map, get_or, ap, ◌∙◌, sym, subst}
use Rattle.std.specs.List.{AllZip}
use Rattle.std.proofs.lemmas.List.{take_more, map-append}
use Rattle.definitions.specs.Name.{Name}
use Rattle.definitions.specs.Dnskey.{Dnskey, key_tag}
use Rattle.definitions.specs.Signing.{Fields, signed_octets}
use Rattle.messages.specs.Rrsig.{spelled_fields}
use Rattle.answer_terms.specs.GroupView.{GroupView, IsRrsigData, fields_of, octets_of}

-- what was signed and written is the data of an RRSIG record
pub rrsig_made : (sign : Dnskey → List ℕ → Option (List ℕ)) (verifies : Dnskey → List ℕ → List ℕ → Bool) (apex : Name) (at life : ℕ) (g : GroupView) (key k : Dnskey) (f : Fields) (owner : Name) (ds : List (List ℕ)) (made o s start mid d : List ℕ)
    → f ≡ fields_of apex at life g key → owner ≡ g.owner → ds ≡ g.canonical → made ≡ signed_octets f owner 1 ds → o ≡ made → k ≡ key
    → sign k o ≡ Some s → verifies k o s ≡ true → start ≡ [] → mid ≡ start ++ spelled_fields f → d ≡ mid ++ s → key_tag key < 65536 → IsRrsigData sign verifies apex at life g key d
rrsig_made sign verifies apex at life g key k f owner ds made o s start mid d f_is owner_is ds_is made_is o_is k_is answers passes empty written all fits =
    let fs = fields_of apex at life g key in
    let octets : o ≡ octets_of apex at life g key =
    o_is ∙ made_is ∙ ap (λ x. signed_octets x owner 1 ds) f_is ∙ ap (λ n. signed_octets fs n 1 ds) owner_is ∙ ap (λ c. signed_octets fs g.owner 1 c) ds_is in
    record {
      signature = s;
      made = sym (ap (λ x. sign x o) k_is ∙ ap (λ x. sign key x) octets) ∙ answers;
      passes = sym (ap (λ x. verifies x o s) k_is ∙ ap (λ x. verifies key x s) octets) ∙ passes;
      data_is = all ∙ ap (λ x. x ++ s) (written ∙ ap (λ x. x ++ spelled_fields f) empty ∙ ap spelled_fields f_is);
      tag_fits = fits;
    }

-- one more pair
pub AllZip-snoc : {A B : Type 0} (R : A → B → Type 0) (xs : List A) (ys : List B) (x : A) (y : B) → AllZip R xs ys → R x y → AllZip R (xs ++ x ∷ []) (ys ++ y ∷ [])
AllZip-snoc R [] [] x y h r = (r, tt)
AllZip-snoc R [] (b ∷ ys) x y h r = elim h [ ]
AllZip-snoc R (a ∷ xs) [] x y h r = elim h [ ]
AllZip-snoc R (a ∷ xs) (b ∷ ys) x y h r = (h.0, AllZip-snoc R xs ys x y h.1 r)

-- the next place of a list
pub AllZip-next : {A B : Type 0} (R : A → B → Type 0) (xs : List A) (i : ℕ) (ys : List B) (x : A) (y : B) → i < length xs → x ≡ get_or xs i x → AllZip R (take i xs) ys → R x y → AllZip R (take (i + 1) xs) (ys ++ y ∷ [])
AllZip-next R xs i ys x y h e z r =
    subst (λ l. AllZip R l (ys ++ y ∷ [])) (sym (take_more xs i x h ∙ ap (λ v. take i xs ++ v ∷ []) (sym e))) (AllZip-snoc R (take i xs) ys x y z r)

-- the same where the second list is what a vector's items are seen as
pub AllZip-pushed : {A V B : Type 0} (R : A → B → Type 0) (h : V → B) (xs : List A) (i : ℕ) (vs ws : List V) (x : A) (v : V) → i < length xs → x ≡ get_or xs i x → ws ≡ vs ++ v ∷ [] → AllZip R (take i xs) (map h vs) → R x (h v) → AllZip R (take (i + 1) xs) (map h ws)
AllZip-pushed R h xs i vs ws x v b e w z r =
    subst (λ l. AllZip R (take (i + 1) xs) l) (sym (ap (map h) w ∙ map-append h vs (v ∷ []))) (AllZip-next R xs i (map h vs) x (h v) b e z r)
