-- What an accepted zone has of an owner and a type, found among its records in order.
use Rattle.std.proofs.Common.{◌≡◌, ℕ, Bool, true, false, ◌&&◌, ◌||◌, List, ◌∷◌, sym, ap, ◌∙◌, cond, eqb, ◌+◌, ◌<◌, length, drop, get_or, drop-cons, add-one}
use Rattle.std.specs.List.{list_any}
use Rattle.std.specs.Prelude.{if◌then◌else◌, min}
use Rattle.definitions.specs.Name.{Name, low, labels_eq, same}
use Rattle.definitions.specs.Zone.{Rr, owner_of, has}
use Rattle.messages.specs.HandedRr.{HandedRr}
use Rattle.answer_terms.specs.Accepting.{soas, rr_of, zone_with}
use Rattle.answer_terms.specs.Served.{chain_ttl, chain_ttl_of, minimum_of, owner_among, ttl_among}
use Rattle.answer_terms.specs.ZoneView.{is_of}
use Rattle.messages.proofs.Lists.{list_any-map}

pub has_is : (apex : Name) (rs : List HandedRr) (q : Name) (t : ℕ) → has (zone_with apex rs) (low q) t ≡ list_any (is_of q t) rs
has_is apex rs q t = list_any-map (λ (r : Rr). labels_eq (owner_of r) (low q) && eqb r.rtype t) rr_of rs

-- what stands at the front of what is left
pub ahead_is : (rs : List HandedRr) (i : ℕ) (r : HandedRr) → i < length rs → r ≡ get_or rs i r → drop i rs ≡ r ∷ drop (i + 1) rs
ahead_is rs i r h e = drop-cons rs i r h ∙ (λ j. sym e j ∷ drop (sym (add-one i) j) rs)

pub ttl_later : (rs : List HandedRr) (q : Name) (t i : ℕ) (r : HandedRr) → i < length rs → r ≡ get_or rs i r → is_of q t r ≡ false → ttl_among (drop (i + 1) rs) (low q) t ≡ ttl_among (drop i rs) (low q) t
ttl_later rs q t i r h e n = sym (ap (λ xs. ttl_among xs (low q) t) (ahead_is rs i r h e) ∙ ap (λ b. if b then r.ttl else ttl_among (drop (i + 1) rs) (low q) t) n)

pub ttl_here : (rs : List HandedRr) (q : Name) (t i : ℕ) (r : HandedRr) → i < length rs → r ≡ get_or rs i r → is_of q t r ≡ true → ttl_among (drop i rs) (low q) t ≡ r.ttl
ttl_here rs q t i r h e n = ap (λ xs. ttl_among xs (low q) t) (ahead_is rs i r h e) ∙ ap (λ b. if b then r.ttl else ttl_among (drop (i + 1) rs) (low q) t) n

pub any_later : (p : HandedRr → Bool) (rs : List HandedRr) (i : ℕ) (r : HandedRr) → i < length rs → r ≡ get_or rs i r → p r ≡ false → list_any p (drop (i + 1) rs) ≡ list_any p (drop i rs)
any_later p rs i r h e n = sym (ap (list_any p) (ahead_is rs i r h e) ∙ ap (λ b. b || list_any p (drop (i + 1) rs)) n)

pub owner_later : (rs : List HandedRr) (q : Name) (t i : ℕ) (r : HandedRr) → i < length rs → r ≡ get_or rs i r → is_of q t r ≡ false → owner_among (drop (i + 1) rs) (low q) t ≡ owner_among (drop i rs) (low q) t
owner_later rs q t i r h e n = sym (ap (λ xs. owner_among xs (low q) t) (ahead_is rs i r h e) ∙ ap (λ b. if b then r.owner else owner_among (drop (i + 1) rs) (low q) t) n)

pub owner_here : (rs : List HandedRr) (q : Name) (t i : ℕ) (r : HandedRr) → i < length rs → r ≡ get_or rs i r → is_of q t r ≡ true → owner_among (drop i rs) (low q) t ≡ r.owner
owner_here rs q t i r h e n = ap (λ xs. owner_among xs (low q) t) (ahead_is rs i r h e) ∙ ap (λ b. if b then r.owner else owner_among (drop (i + 1) rs) (low q) t) n

pub chain_ttl_later : (apex : Name) (rs : List HandedRr) (i : ℕ) (r : HandedRr) → i < length rs → r ≡ get_or rs i r → (same r.owner apex && eqb r.rtype 6) ≡ false → chain_ttl apex (drop (i + 1) rs) ≡ chain_ttl apex (drop i rs)
chain_ttl_later apex rs i r h e n = sym (ap (chain_ttl apex) (ahead_is rs i r h e) ∙ ap (λ b. chain_ttl_of (cond b (r ∷ soas apex (drop (i + 1) rs)) (soas apex (drop (i + 1) rs)))) n)

pub chain_ttl_here : (apex : Name) (rs : List HandedRr) (i : ℕ) (r : HandedRr) → i < length rs → r ≡ get_or rs i r → (same r.owner apex && eqb r.rtype 6) ≡ true → chain_ttl apex (drop i rs) ≡ min r.ttl (minimum_of r.bytes)
chain_ttl_here apex rs i r h e n = ap (chain_ttl apex) (ahead_is rs i r h e) ∙ ap (λ b. chain_ttl_of (cond b (r ∷ soas apex (drop (i + 1) rs)) (soas apex (drop (i + 1) rs)))) n
