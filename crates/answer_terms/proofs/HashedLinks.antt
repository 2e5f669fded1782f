-- The records of a chain of hashes that are kept are those of the definitions.
use Rattle.std.proofs.Common.{◌≡◌, ℕ, Bool, true, false, ◌||◌, cond, List, [], ◌∷◌, map, refl, sym, ap, ◌∙◌}
use Rattle.std.specs.Prelude.{if◌then◌else◌}
use Rattle.std.specs.List.{filter, list_any}
use Rattle.std.specs.Str.{bytes_eq}
use Rattle.definitions.specs.Base32hex.{base32hex}
use Rattle.definitions.specs.Covering.{hash_covers}
use Rattle.definitions.specs.Name.{Name, low}
use Rattle.definitions.specs.ZoneChain.{Nsec3, hashed_names, nsec3_data, nsec3_next, parameters_of}
use Rattle.definitions.proofs.NameLaws.{labels_decide}
use Rattle.messages.specs.HandedRr.{HandedRr}
use Rattle.messages.proofs.Lists.{list_any-map}
use Rattle.answer_terms.specs.Accepting.{zone_with}
use Rattle.answer_terms.specs.HashedLinks.{hashed_group_of, hashed_link_at, hashed_link_at_or_around, hashed_link_speaks, hashed_links_of, hashed_said_of}
use Rattle.answer_terms.specs.Served.{canonical_group, chain_record, chain_ttl, proofs_of, served_of, spelled_as, spelled_among}

chosen_alike : {A B D : Type 0} (L : A → B) (S : B → Bool) (T : A → Bool) (G : B → D) (C : A → D) → ((x : A) → S (L x) ≡ T x) → ((x : A) → G (L x) ≡ C x) → (xs : List A) → map G (filter S (map L xs)) ≡ map C (filter T xs)
chosen_alike L S T G C s g [] = refl
chosen_alike {A} {B} {D} L S T G C s g (x ∷ xs) =
    let rest = chosen_alike L S T G C s g xs in
    let left : List B = filter S (map L xs) in
    let right : List A = filter T xs in
    ap (λ b. map G (cond b (L x ∷ left) left)) (s x)
    ∙ elim (T x) as (λ b. map G (cond b (L x ∷ left) left) ≡ map C (cond b (x ∷ right) right)) [
      | true ↦ (λ i. g x i ∷ rest i)
      | false ↦ rest
    ]

-- the apex is spelled as it was handed in
pub apex_spelled : (apex : Name) (rs : List HandedRr) → spelled_as apex rs (low apex) ≡ apex
apex_spelled apex rs = ap (λ b. if b then apex else spelled_among rs (low apex)) ((labels_decide (low apex) (low apex)).1 refl)

-- the records that are said of hashes are those that speak for the names
pub proofs_are_hashed : (apex : Name) (iterations : ℕ) (salt : List ℕ) (optout : Bool) (hash : Name → List ℕ) (rs : List HandedRr) (qs : List Name)
    → hashed_said_of (chain_ttl apex rs) (map hash qs) (hashed_links_of hash (Nsec3 iterations salt optout) apex rs) ≡ proofs_of (served_of apex (Nsec3 iterations salt optout) hash rs) qs
proofs_are_hashed apex iterations salt optout hash rs qs =
    let mode = Nsec3 iterations salt optout in
    let z = zone_with apex rs in
    let s = served_of apex mode hash rs in
    chosen_alike (hashed_link_at hash mode apex rs) (hashed_link_speaks (map hash qs)) (λ o. list_any (λ q. bytes_eq (hash o) (hash q) || hash_covers (hash o) (nsec3_next hash z optout o) (hash q)) qs)
    (hashed_group_of (chain_ttl apex rs)) (chain_record s)
    (λ o. list_any-map (hashed_link_at_or_around (hashed_link_at hash mode apex rs o)) hash qs)
    (λ o i. let owner = base32hex (hash o) ∷ sym (apex_spelled apex rs) i in canonical_group owner owner 50 (chain_ttl apex rs) (nsec3_data hash z (parameters_of mode) o ∷ []))
    (hashed_names hash z optout)
