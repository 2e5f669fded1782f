-- Names and TTLs of a zone's records.
use Rattle.std.proofs.Common.{◌≡◌, ℕ, ◌<◌, Bool, true, false, ◌&&◌, List, [], ◌∷◌, map, refl, arith, cond, eqb, subst, sym}
use Rattle.std.specs.List.{AllByRecursion, filter}
use Rattle.std.specs.Char.{to_ascii_lowercase}
use Rattle.std.specs.Str.{str_to_ascii_lowercase}
use Rattle.std.proofs.Math.Nat.{min-le_left}
use Rattle.std.proofs.lemmas.List.{length-map}
use Rattle.definitions.specs.Name.{Name, IsLabel, IsName, labels_eq, low, name_cmp, same, wire_len}
use Rattle.definitions.specs.Zone.{is_kept, kept_owners, owner_of, owners}
use Rattle.definitions.specs.ZoneChain.{behind, links, nsec_names}
use Rattle.messages.specs.HandedRr.{HandedRr}
use Rattle.answer_terms.specs.Accepting.{rr_of, soas, zone_with}
use Rattle.messages.specs.Handed.{IsHanded}
use Rattle.answer_terms.specs.Served.{chain_ttl, chain_ttl_of, minimum_of, owner_among, spelled_among, spelled_as, ttl_among}
use Rattle.messages.proofs.Lists.{all_sorted, map-map}
use Rattle.messages.proofs.NameLaws.{wire_len-cons}

lower_labels : (n : Name) → AllByRecursion IsLabel n → AllByRecursion IsLabel (low n)
lower_labels [] h = tt
lower_labels (l ∷ n) h = (record { some = omega (arith, h.0.some, length-map l to_ascii_lowercase); short = omega (arith, h.0.short, length-map l to_ascii_lowercase) }, lower_labels n h.1)

pub lower_len : (n : Name) → wire_len (low n) ≡ wire_len n
lower_len [] = refl
lower_len (l ∷ n) = omega (arith, wire_len-cons l n, wire_len-cons (str_to_ascii_lowercase l) (low n), lower_len n, length-map l to_ascii_lowercase)

pub lower_name : (n : Name) → IsName n → IsName (low n)
lower_name n h = record { labels = lower_labels n h.labels; short = omega (arith, h.short, lower_len n) }

-- of two things that hold either holds
pub either : {A : Type 0} (P : A → Type 0) (b : Bool) (x y : A) → P x → P y → P (cond b x y)
either P true x y h k = h
either P false x y h k = k

pub all_filter : {A : Type 0} (P : A → Type 0) (p : A → Bool) (xs : List A) → AllByRecursion P xs → AllByRecursion P (filter p xs)
all_filter P p [] h = tt
all_filter P p (x ∷ xs) h = either (AllByRecursion P) (p x) (x ∷ filter p xs) (filter p xs) (h.0, all_filter P p xs h.1) (all_filter P p xs h.1)

pub owner_name : (rs : List HandedRr) (o : Name) (t : ℕ) → AllByRecursion IsHanded rs → IsName o → IsName (owner_among rs o t)
owner_name [] o t h is = is
owner_name (r ∷ rs) o t h is = either IsName (labels_eq (low r.owner) o && eqb r.rtype t) r.owner (owner_among rs o t) h.0.owner (owner_name rs o t h.1 is)

pub first_name : (rs : List HandedRr) (o : Name) → AllByRecursion IsHanded rs → IsName o → IsName (spelled_among rs o)
first_name [] o h is = is
first_name (r ∷ rs) o h is = either IsName (labels_eq (low r.owner) o) r.owner (spelled_among rs o) h.0.owner (first_name rs o h.1 is)

pub spelled_name : (apex : Name) (rs : List HandedRr) (o : Name) → IsName apex → AllByRecursion IsHanded rs → IsName o → IsName (spelled_as apex rs o)
spelled_name apex rs o a h is = either IsName (labels_eq (low apex) o) apex (spelled_among rs o) a (first_name rs o h is)

-- the owners, lowered
pub owner_names : (rs : List HandedRr) → AllByRecursion IsHanded rs → AllByRecursion IsName (map (λ r. low r.owner) rs)
owner_names [] h = tt
owner_names (r ∷ rs) h = (lower_name r.owner h.0.owner, owner_names rs h.1)

-- the names of a zone's NSEC chain
pub chain_named : (apex : Name) (rs : List HandedRr) → AllByRecursion IsHanded rs → AllByRecursion IsName (nsec_names (zone_with apex rs))
chain_named apex rs h =
    let z = zone_with apex rs in
    let all : AllByRecursion IsName (owners z) = subst (AllByRecursion IsName) (sym (map-map owner_of rr_of rs)) (owner_names rs h) in
    all_sorted IsName name_cmp (kept_owners z false) (all_filter IsName (is_kept z false) (owners z) all)

-- ---- next names

module _ (P : Name → Type 0) where
  abbrev Leads : Name × Name → Type 0
  Leads l = P l.1

  all_lead : (first : Name) (ns : List Name) → P first → AllByRecursion P ns → AllByRecursion Leads (links first ns)
  all_lead first [] f h = tt
  all_lead first (n ∷ []) f h = (f, tt)
  all_lead first (n ∷ o ∷ ns) f h = (h.1.0, all_lead first (o ∷ ns) f h.1)

  name_behind : (d o : Name) (ls : List (Name × Name)) → P d → AllByRecursion Leads ls → P (behind labels_eq d o ls)
  name_behind d o [] is h = is
  name_behind d o (l ∷ ls) is h = either P (labels_eq o l.0) l.1 (behind labels_eq d o ls) h.0 (name_behind d o ls is h.1)

  -- what follows a name round a circle is one of its names
  pub next_of : (first o : Name) (ns : List Name) → P first → AllByRecursion P ns → P (behind labels_eq first o (links first ns))
  next_of first o ns f h = name_behind first o (links first ns) f (all_lead first ns f h)

pub next_name : (first o : Name) (ns : List Name) → IsName first → AllByRecursion IsName ns → IsName (behind labels_eq first o (links first ns))
next_name = next_of IsName

-- ---- TTLs

abbrev Below : ℕ → HandedRr → Type 0
Below most r = r.ttl < most

pub ttl_small : (most : ℕ) → 0 < most → (rs : List HandedRr) (o : Name) (t : ℕ) → AllByRecursion (Below most) rs → ttl_among rs o t < most
ttl_small most some [] o t h = some
ttl_small most some (r ∷ rs) o t h = either (λ n. n < most) (labels_eq (low r.owner) o && eqb r.rtype t) r.ttl (ttl_among rs o t) h.0 (ttl_small most some rs o t h.1)

first_small : (most : ℕ) → 0 < most → (rs : List HandedRr) → AllByRecursion (Below most) rs → chain_ttl_of rs < most
first_small most some [] h = some
first_small most some (r ∷ rs) h = omega (arith, h.0, min-le_left r.ttl (minimum_of r.bytes))

pub chain_small : (most : ℕ) → 0 < most → (apex : Name) (rs : List HandedRr) → AllByRecursion (Below most) rs → chain_ttl apex rs < most
chain_small most some apex rs h = first_small most some (soas apex rs) (all_filter (Below most) (λ (r : HandedRr). same r.owner apex && eqb r.rtype 6) rs h)
