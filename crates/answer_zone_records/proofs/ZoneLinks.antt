-- Records of the chain that match or cover names, one after another.
use Rattle.std.proofs.Common.{◌≡◌, ℕ, Bool, true, false, ◌&&◌, ◌||◌, List, [], ◌∷◌, ◌++◌, map, inl, inr, refl, sym, ap, subst, ◌∙◌, ⊎_elim, cond, Ordering, append_assoc, if◌then◌else◌}
use Rattle.std.specs.declared.cmp.Ordering.TheVariants.{Less, Equal, Greater}
use Rattle.std.specs.List.{AllByRecursion, AllZip, filter}
use Rattle.std.specs.Ordering.{is_lt}
use Rattle.std.proofs.lemmas.Bool.{cases_Bool, false_from_ne_true}
use Rattle.std.proofs.lemmas.List.{append-nil}
use Rattle.definitions.specs.Bitmap.{bitmap}
use Rattle.definitions.specs.Name.{Name, low, labels_eq, same, name_cmp, wire}
use Rattle.definitions.specs.Covering.{before, covers}
use Rattle.definitions.specs.ZoneChain.{Nsec, nsec_names, nsec_next, nsec_types}
use Rattle.definitions.proofs.Members.{In}
use Rattle.definitions.proofs.ZoneNames.{live_owner, owner_lowered}
use Rattle.messages.specs.HandedRr.{HandedRr}
use Rattle.answer_terms.specs.Accepting.{zone_with}
use Rattle.answer_terms.specs.GroupView.{Adds, GroupView, Presents}
use Rattle.answer_terms.specs.Links.{group_of, link_at, link_speaks, links_of, said_of}
use Rattle.answer_terms.specs.Served.{ServedRrset, canonical_group, chain_record, chain_ttl, proofs_of, served_of, spelled_among, spelled_as}
use Rattle.answer_terms.proofs.ZoneData.{low-spelled_among}
use Rattle.answer_terms.proofs.ZoneNaming.{next_of}
use Rattle.messages.proofs.ZoneNames.{labels_eq-same, low-low, same_labels, low_from_Equal, name_cmp-low, name_cmp-same, same-low}
use Rattle.messages.proofs.Lists.{zip_append}

pub speaks_equal : (apex owner next q : Name) → name_cmp owner q ≡ Equal → true ≡ (same owner q || covers (low apex) (low owner) (low next) (low q))
speaks_equal apex owner next q e = sym (ap (λ b. b || covers (low apex) (low owner) (low next) (low q)) (labels_eq-same (low owner) (low q) (low_from_Equal owner q e)))

unlike_names : (owner q : Name) (o : Ordering) → (o ≡ Equal → ⊥) → name_cmp owner q ≡ o → same owner q ≡ false
unlike_names owner q o n e = false_from_ne_true _ (λ h. n (sym e ∙ name_cmp-same owner q (same_labels (low owner) (low q) h)))

-- a name that is not the owner: what the link covers
speaks_parts : (apex owner next q : Name) (o : Ordering) → (o ≡ Equal → ⊥) → name_cmp owner q ≡ o
    → (same owner q || covers (low apex) (low owner) (low next) (low q)) ≡ (is_lt o && (same next apex || is_lt (name_cmp q next)))
speaks_parts apex owner next q o n e =
    ap (λ b. b || covers (low apex) (low owner) (low next) (low q)) (unlike_names owner q o n e)
    ∙ ap (λ p. is_lt p && (same (low next) (low apex) || before (low q) (low next))) (name_cmp-low owner q ∙ e)
    ∙ ap (λ b. is_lt o && (b || before (low q) (low next))) (same-low next apex)
    ∙ ap (λ p. is_lt o && (same next apex || is_lt p)) (name_cmp-low q next)

pub speaks_greater : (apex owner next q : Name) → name_cmp owner q ≡ Greater → false ≡ (same owner q || covers (low apex) (low owner) (low next) (low q))
speaks_greater apex owner next q e = sym (speaks_parts apex owner next q Greater (λ x. cc) e)

pub speaks_last : (apex owner next q : Name) → name_cmp owner q ≡ Less → same next apex ≡ true → true ≡ (same owner q || covers (low apex) (low owner) (low next) (low q))
speaks_last apex owner next q e s = sym (speaks_parts apex owner next q Less (λ x. cc) e ∙ ap (λ b. b || is_lt (name_cmp q next)) s)

pub speaks_less : (apex owner next q : Name) → name_cmp owner q ≡ Less → same next apex ≡ false → is_lt (name_cmp q next) ≡ (same owner q || covers (low apex) (low owner) (low next) (low q))
speaks_less apex owner next q e s = sym (speaks_parts apex owner next q Less (λ x. cc) e ∙ ap (λ b. b || is_lt (name_cmp q next)) s)

-- nothing more, one part more
pub adds_none : (old : List GroupView) → Adds old old []
adds_none old = ([], tt, sym (append-nil old))

pub adds_then : (a b c : List GroupView) (gs hs : List ServedRrset) → Adds a b gs → Adds b c hs → Adds a c (gs ++ hs)
adds_then a b c gs hs h k =
    (h.0 ++ k.0, zip_append Presents h.0 gs k.0 hs h.1 k.1, k.2 ∙ ap (λ x. x ++ k.0) h.2 ∙ append_assoc a h.0 k.0)

pub adds_one : (old new : List GroupView) (g : GroupView) (is : ServedRrset) → Presents g is → new ≡ old ++ g ∷ [] → Adds old new (is ∷ [])
adds_one old new g is h e = (g ∷ [], (h, tt), e)

-- behind what was there
pub added : (old new : List GroupView) (gs hs : List ServedRrset) → AllZip Presents old gs → Adds old new hs → AllZip Presents new (gs ++ hs)
added old new gs hs h k = subst (λ vs. AllZip Presents vs (gs ++ hs)) (sym k.2) (zip_append Presents old gs k.0 hs h k.1)

-- ---- the chain of the zone

-- a name in lower case, and the name that its record leads to
abbrev Fits : Name → List HandedRr → Name → Type 0
Fits apex rs o = (low o ≡ o) × (low (nsec_next (zone_with apex rs) o) ≡ nsec_next (zone_with apex rs) o)

all_from : {A : Type 0} (P : A → Type 0) (xs : List A) → ((x : A) → In x xs → P x) → AllByRecursion P xs
all_from P [] f = tt
all_from P (x ∷ xs) f = (f x (inl refl), all_from P xs (λ y i. f y (inr i)))

all_fit : (apex : Name) (rs : List HandedRr) → AllByRecursion (Fits apex rs) (nsec_names (zone_with apex rs))
all_fit apex rs =
    let z = zone_with apex rs in
    let lowered = λ (o : Name) (i : In o (nsec_names z)). owner_lowered z o (live_owner z o i).0 in
    let all : AllByRecursion (λ o. low o ≡ o) (nsec_names z) = all_from (λ o. low o ≡ o) (nsec_names z) lowered in
    all_from (Fits apex rs) (nsec_names z) (λ o i. (lowered o i, next_of (λ n. low n ≡ n) (low apex) o (nsec_names z) (low-low apex) all))

-- a spelling of a name in lower case is that name
pub spelled_low : (rs : List HandedRr) (o : Name) → low o ≡ o → low (spelled_among rs o) ≡ o
spelled_low rs o e = ap (λ n. low (spelled_among rs n)) (sym e) ∙ low-spelled_among rs o ∙ e

pub next_low : (apex : Name) (rs : List HandedRr) (o : Name) → low o ≡ o → low (spelled_as apex rs o) ≡ o
next_low apex rs o e = ⊎_elim
    (λ (t : labels_eq (low apex) o ≡ true). ap (λ b. low (if b then apex else spelled_among rs o)) t ∙ same_labels (low apex) o t)
    (λ (f : labels_eq (low apex) o ≡ false). ap (λ b. low (if b then apex else spelled_among rs o)) f ∙ spelled_low rs o e)
    (cases_Bool (labels_eq (low apex) o))

-- those that are said of names, and the RRsets of each
chosen_alike : {A B D : Type 0} (L : A → B) (S : B → Bool) (T : A → Bool) (G : B → D) (C : A → D) (xs : List A) → AllByRecursion (λ x. (S (L x) ≡ T x) × (G (L x) ≡ C x)) xs → map G (filter S (map L xs)) ≡ map C (filter T xs)
chosen_alike L S T G C [] h = refl
chosen_alike {A} {B} {D} L S T G C (x ∷ xs) h =
    let rest = chosen_alike L S T G C xs h.1 in
    let left : List B = filter S (map L xs) in
    let right : List A = filter T xs in
    ap (λ b. map G (cond b (L x ∷ left) left)) h.0.0
    ∙ elim (T x) as (λ b. map G (cond b (L x ∷ left) left) ≡ map C (cond b (x ∷ right) right)) [
      | true ↦ (λ i. h.0.1 i ∷ rest i)
      | false ↦ rest
    ]

alike : (apex : Name) (hash : Name → List ℕ) (rs : List HandedRr) (qs : List Name) (ns : List Name) → AllByRecursion (Fits apex rs) ns
    → AllByRecursion (λ o. (link_speaks apex qs (low (link_at apex rs o).owner) (low (link_at apex rs o).next) ≡ link_speaks apex qs o (nsec_next (zone_with apex rs) o)) × (group_of (chain_ttl apex rs) (link_at apex rs o) ≡ chain_record (served_of apex Nsec hash rs) o)) ns
alike apex hash rs qs [] h = tt
alike apex hash rs qs (o ∷ ns) h =
    let z = zone_with apex rs in
    let own = spelled_low rs o h.0.0 in
    let next = next_low apex rs (nsec_next z o) h.0.1 in
    ((λ i. link_speaks apex qs (own i) (next i), (λ i. canonical_group (spelled_among rs o) (own i) 47 (chain_ttl apex rs) ((wire (spelled_as apex rs (nsec_next z o)) ++ bitmap (nsec_types z true o)) ∷ []))), alike apex hash rs qs ns h.1)

-- the records of the chain that are kept are those of the definitions
pub proofs_are_said : (apex : Name) (hash : Name → List ℕ) (rs : List HandedRr) (qs : List Name) → said_of apex (chain_ttl apex rs) qs (links_of apex rs) ≡ proofs_of (served_of apex Nsec hash rs) qs
proofs_are_said apex hash rs qs =
    let z = zone_with apex rs in
    chosen_alike (link_at apex rs) (λ l. link_speaks apex qs (low l.owner) (low l.next)) (λ o. link_speaks apex qs o (nsec_next z o)) (group_of (chain_ttl apex rs)) (chain_record (served_of apex Nsec hash rs)) (nsec_names z)
    (alike apex hash rs qs (nsec_names z) (all_fit apex rs))
