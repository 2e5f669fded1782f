-- The parent's chain can be made, and no name that a question of the evidence concerns shares a hash with one of the chain.
use Rattle.std.proofs.Common.{◌≡◌, ℕ, ◌<◌, Bool, true, false, not, ◌||◌, List, [], ◌∷◌, nat_lt, refl, sym, ap, ◌∙◌, inl, inr}
use Rattle.std.specs.Prelude.{Contains}
use Rattle.std.specs.List.{AllByRecursion, list_all}
use Rattle.std.specs.Str.{bytes_eq}
use Rattle.std.proofs.lemmas.Bool.{and_parts, false≢true, ltb-true}
use lib.Pointwise.{bytes_decides}
use Rattle.definitions.specs.Laws.{NoneShare, SharesNone}
use Rattle.definitions.specs.Name.{Name, at_or_above, labels_eq, low, same}
use Rattle.definitions.specs.Zone.{apex_of}
use Rattle.definitions.specs.ZoneChain.{Mode, Nsec3, nsec3_names, with_parents}
use Rattle.definitions.proofs.Members.{In, either}
use Rattle.definitions.proofs.ZoneNames.{above_lowered}
use Rattle.denial_laws.specs.Truth.{NoSharedHash, concerned}
use Rattle.denial_laws.proofs.ChainBits.{all_at}
use Rattle.denial_nsec3_hash.specs.Hashing.{FitsName}
use Rattle.messages.proofs.ZoneNames.{same_labels}
use Rattle.answer_terms.specs.Chainable.{HasHash, IsChainable}
use Rattle.answer_terms.specs.Hashing.{hash_in}
use Rattle.witness_laws.specs.Signed.{hash_p, hash_s, passes}
use Rattle.witness_laws.specs.Zones.{p, s}
use Rattle.witness_laws.proofs.Names.{is_name}
use Rattle.witness_laws.proofs.Ordered.{in_list, parent_zone}
use Rattle.witness_laws.proofs.Ready.{ready}

abbrev pub mode : Mode
mode = Nsec3 0 [] true

abbrev pub hash : Name → List ℕ
hash = hash_in (ready passes).hash mode

abbrev names : List Name
names = nsec3_names parent_zone true

-- what holds of both names of the chain
of_names : (P : Name → Type 0) → P p → P s → (n : Name) → Contains names n → P n
of_names P one other n there = all_at P names n (one, (other, tt)) (in_list names n there)

-- ---- by a test

abbrev is_apart : Name → Name → Bool
is_apart q n = not (bytes_eq (hash n) (hash q)) || labels_eq n q

apart_by : (q n : Name) → is_apart q n ≡ true → hash n ≡ hash q → n ≡ q
apart_by q n e same_hash = go (bytes_eq (hash n) (hash q)) refl e
  where
    go : (b : Bool) → bytes_eq (hash n) (hash q) ≡ b → (not b || labels_eq n q) ≡ true → n ≡ q
    go true is f = same_labels n q f
    go false is f = absurd (false≢true (sym is ∙ (bytes_decides (hash n) (hash q)).1 same_hash))

all_tested : {X : Type 0} (test : X → Bool) (xs : List X) → list_all test xs ≡ true → (x : X) → In x xs → test x ≡ true
all_tested test [] e x there = absurd there
all_tested test (y ∷ xs) e x (inl is) = ap test is ∙ (and_parts (test y) (list_all test xs) e).0
all_tested test (y ∷ xs) e x (inr later) = all_tested test xs (and_parts (test y) (list_all test xs) e).1 x later

none_shares : (q : Name) → list_all (is_apart q) names ≡ true → SharesNone hash names q
none_shares q e n there same_hash = apart_by q n (all_tested (is_apart q) names e n (in_list names n there)) same_hash

-- the names that a question concerns
abbrev are_apart : Name → Bool
are_apart lower = list_all (λ q. list_all (is_apart q) names) (concerned (apex_of parent_zone) lower)

none_share : NoneShare hash names
none_share a b there other = none_shares b (of_names (λ n. list_all (is_apart n) names ≡ true) refl refl b other) a there

abbrev pub Apart : Name → Type 0
Apart q = NoSharedHash parent_zone hash mode q

apart : (q : Name) → are_apart (low q) ≡ true → Apart q
apart q e = (none_share, λ n there. none_shares n (all_tested (λ x. list_all (is_apart x) names) (concerned (apex_of parent_zone) (low q)) e n (in_list (concerned (apex_of parent_zone) (low q)) n there)))

-- ---- names above a name

abbrev pub tests : Name → Bool
tests n = not (at_or_above p n) || are_apart (low n)

at_name : (o n : Name) → low o ≡ low n → at_or_above p o ≡ true → tests n ≡ true → Apart o
at_name o n is inside e = go (at_or_above p n) (sym (above_lowered p n) ∙ ap (at_or_above p) (sym is) ∙ above_lowered p o ∙ inside) e
  where
    go : (b : Bool) → b ≡ true → (not b || are_apart (low n)) ≡ true → Apart o
    go true k f = apart o (ap are_apart is ∙ f)
    go false k f = absurd (false≢true k)

pub near : (q : Name) → list_all tests (with_parents q) ≡ true → (o : Name) → at_or_above o q ≡ true → at_or_above p o ≡ true → Apart o
near [] e o above inside = at_name o [] (same_labels (low o) (low []) above) inside (and_parts (tests []) true e).0
near (l ∷ q) e o above inside =
    let both = and_parts (tests (l ∷ q)) (list_all tests (with_parents q)) e in
    elim (either (same o (l ∷ q)) (at_or_above o q) above) [
      | inl here ↦ at_name o (l ∷ q) (same_labels (low o) (low (l ∷ q)) here) inside both.0
      | inr more ↦ near q both.1 o more inside
    ]

-- ---- the chain

pub chainable : IsChainable (ready passes).hash 0 [] true parent_zone
chainable = record {
  hashed = λ n there. of_names (λ m. (h : List ℕ) × HasHash (ready passes).hash 0 [] m h) (hash_p, refl) (hash_s, refl) n there;
  octets = λ n there. of_names (λ m. AllByRecursion (λ (x : ℕ). x < 256) (hash m)) (small hash_p refl) (small hash_s refl) n there;
  fit = λ n there. of_names (λ m. FitsName p (hash m)) (is_name _ refl refl) (is_name _ refl refl) n there;
  apart = none_share;
}
  where
    small : (xs : List ℕ) → list_all (λ x. nat_lt x 256) xs ≡ true → AllByRecursion (λ (x : ℕ). x < 256) xs
    small [] e = tt
    small (x ∷ xs) e = let both = and_parts (nat_lt x 256) (list_all (λ y. nat_lt y 256) xs) e in (ltb-true x 256 both.0, small xs both.1)
