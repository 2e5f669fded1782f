-- What the keys of every life keep: their roles, their tags, and that a wait that is accepted has waited.
use Rattle.std.proofs.Common.{◌≡◌, ℕ, ◌-◌, ◌*◌, ◌≤◌, Bool, true, false, cond, not, List, [], ◌∷◌, map, refl, sym, ap, subst, ◌∙◌, T, ◌&&◌, ◌||◌, ◌⊎◌, inl, inr, ⊎_elim, nat_eq}
use Rattle.std.specs.Prelude.{Option, Some}
use Rattle.std.specs.List.{list_any}
use Rattle.std.specs.Ordering.{eq_by_cmp}
use Rattle.std.specs.FinMap.Entries.{find, is_sorted}
use Rattle.std.proofs.lemmas.Bool.{eqb-true, false≢true, or_left, or_right, true≢false}
use Rattle.keyset_keys.specs.declared.keys.KeyType.{KeyType}
use Rattle.keyset_rolls.specs.declared.rolls.RollState.{RollState}
use Rattle.keyset_rolls.specs.declared.rolls.RollState.TheVariants.{CacheExpire1, Propagation2, CacheExpire2, Done}
use Rattle.keyset_rolls.specs.declared.rolls.RollType.{RollType}
use Rattle.keyset_rolls.specs.declared.rolls.Turn.{Turn as Which}
use Rattle.keyset_rolls.specs.declared.rolls.Turn.TheVariants.{First, Second}
use Rattle.keyset_rolls.specs.Rolls.{touches, waited1, waited2, watched}
use Rattle.keyset.specs.KeyState.{Key, KeySetState, Reference, ds, is_at_parent, is_present, key_of, kind_cmp, ksk_is, listed, main_is, on_keys, phase_of, present, reference_cmp, wait1, wait2}
use Rattle.keyset.specs.KeyRuns.{is_accepted}
use Rattle.keyset.specs.KeyRunLaws.{Reports, is_awaited, some_awaited}
use Rattle.keyset.proofs.KeyFinds.{from_before, is_equal, is_itself, later, passed, sorted_rest, first_found, both_first}
use Rattle.keyset.proofs.KeyKinds.{touches_alike}
use Rattle.keyset.proofs.KeyMaps.{kind_same}
use Rattle.keyset.proofs.KeyRunEnds.{exact, wait1_in, wait2_in}
use Rattle.keyset.proofs.KeyRunSteps.{Holds}
use Rattle.keyset.proofs.KeyRunSteps as runs
use Rattle.keyset.proofs.KeyRunTags.{Apart}
use Rattle.keyset.proofs.KeyTables.{join}
use Rattle.keyset_laws.specs.KeyLife.{DsSet, differ, tags_of}
use Rattle.keyset_laws.specs.Sides.{OfKeys, Side, is_empty, is_lasting, is_ready, is_shown}
use Rattle.keyset_laws.specs.Anchors.{HasKey}
use Rattle.keyset_laws.proofs.SideWords.{agrees, is_first, is_settled}
use Rattle.keyset_laws.proofs.Contents.{found_named, none_empty}
use Rattle.keyset_laws.proofs.Effects.{Calm, IsFresh, Moved}
use Rattle.keyset_laws.proofs.SideTables.{fresh_agrees, fresh_settled, fresh_unshown, keeps_all, signs_late, watched1, watched2, witness}
use Rattle.keyset_laws.proofs.Sided.{of_lasting, of_ready}

-- ---- roles

-- a key whose ZSK role is to sign from the first wait of its roll on
abbrev pub IsUnsettled : KeySetState → KeyType → Type 0
IsUnsettled s t = (b : RollType) × (signs_late b ≡ true) × (touches b t ≡ true) × (is_first (phase_of s b) ≡ true)

pub record Roles (s : KeySetState) : Type 0 where
  pub agree : (q : Reference) (k : Key) → key_of s q ≡ Some k → agrees k.roles ≡ true
  pub settled : (q : Reference) (k : Key) → key_of s q ≡ Some k → (is_settled k.roles ≡ true) ⊎ IsUnsettled s k.roles

pub calm_roles : (s x : KeySetState) → Calm s x → Roles s → Roles x
calm_roles s x c h = record {
  agree = λ q l f. ⊎_elim (λ (w : IsFresh l). ap agrees w.2 ∙ fresh_agrees w.0 w.1) (λ (w : (k : Key) × (key_of s q ≡ Some k) × (l.roles ≡ k.roles)). ap agrees w.2 ∙ h.agree q w.0 w.1) (c.from q l f);
  settled = λ q l f.
      ⊎_elim
      (λ (w : IsFresh l). inl (ap is_settled w.2 ∙ fresh_settled w.0 w.1))
      (λ (w : (k : Key) × (key_of s q ≡ Some k) × (l.roles ≡ k.roles)).
      ⊎_elim
      (λ (y : is_settled w.0.roles ≡ true). inl (ap is_settled w.2 ∙ y))
      (λ (y : IsUnsettled s w.0.roles). inr (y.0, y.1, ap (touches y.0) w.2 ∙ y.2, ap is_first (c.rolls y.0) ∙ y.3))
      (h.settled q w.0 w.1))
      (c.from q l f);
}

module _ (a : RollType) (o n : Option RollState) (g : Reference → Key → Key) (s x : KeySetState) (w : Moved a o n g s x) (h : Roles s)
    (agreeing : (q : Reference) (k : Key) → key_of s q ≡ Some k → touches a k.roles ≡ true → agrees (g q k).roles ≡ true)
    (from_settled : (q : Reference) (k : Key) → key_of s q ≡ Some k → touches a k.roles ≡ true → is_settled k.roles ≡ true → (is_settled (g q k).roles ≡ true) ⊎ ((signs_late a ≡ true) × (is_first n ≡ true)))
    (from_late : (q : Reference) (k : Key) → key_of s q ≡ Some k → touches a k.roles ≡ true → signs_late a ≡ true → is_first o ≡ true → (is_settled (g q k).roles ≡ true) ⊎ (is_first n ≡ true)) where
  before : (q : Reference) (l : Key) → key_of x q ≡ Some l → (k : Key) × (key_of s q ≡ Some k) × (l ≡ g q k)
  before q l f = from_before g s.keys q l (ap (find reference_cmp q) (sym w.turn.keys) ∙ f)

  agree_one : (q : Reference) (k : Key) → key_of s q ≡ Some k → (b : Bool) → touches a k.roles ≡ b → agrees (g q k).roles ≡ true
  agree_one q k f true e = agreeing q k f e
  agree_one q k f false e = ap (λ (k : Key). agrees k.roles) (w.moves.still q k f e) ∙ h.agree q k f

  touched_still : (b : RollType) (q : Reference) (k : Key) → touches b k.roles ≡ true → touches b (g q k).roles ≡ true
  touched_still b q k e = touches_alike b (g q k).roles k.roles (w.moves.kind q k) ∙ e

  settle : (q : Reference) (k : Key) → key_of s q ≡ Some k → (b : Bool) → touches a k.roles ≡ b → (is_settled k.roles ≡ true) ⊎ IsUnsettled s k.roles → (is_settled (g q k).roles ≡ true) ⊎ IsUnsettled x (g q k).roles
  settle q k f true e (inl y) = ⊎_elim
      (λ (v : is_settled (g q k).roles ≡ true). inl v)
      (λ (v : (signs_late a ≡ true) × (is_first n ≡ true)). inr (a, v.0, touched_still a q k e, ap is_first w.turn.becomes ∙ v.1))
      (from_settled q k f e y)
  settle q k f false e (inl y) = inl (ap (λ (k : Key). is_settled k.roles) (w.moves.still q k f e) ∙ y)
  settle q k f c e (inr y) = at (eq_by_cmp kind_cmp y.0 a) refl c e
    where
      same : eq_by_cmp kind_cmp y.0 a ≡ true → y.0 ≡ a
      same i = kind_same y.0 a (is_equal (kind_cmp y.0 a) i)

      at : (b : Bool) → eq_by_cmp kind_cmp y.0 a ≡ b → (c : Bool) → touches a k.roles ≡ c → (is_settled (g q k).roles ≡ true) ⊎ IsUnsettled x (g q k).roles
      at true i true e = ⊎_elim
          (λ (v : is_settled (g q k).roles ≡ true). inl v)
          (λ (v : is_first n ≡ true). inr (a, ap signs_late (sym (same i)) ∙ y.1, touched_still a q k e, ap is_first w.turn.becomes ∙ v))
          (from_late q k f e (ap signs_late (sym (same i)) ∙ y.1) (ap is_first (sym w.turn.was) ∙ ap (λ b. is_first (phase_of s b)) (sym (same i)) ∙ y.3))
      at true i false e = absurd (false≢true (sym e ∙ ap (λ b. touches b k.roles) (sym (same i)) ∙ y.2))
      at false i c e = inr (y.0, y.1, touched_still y.0 q k y.2, ap is_first (w.turn.others y.0 i) ∙ y.3)

  pub turn_roles : Roles x
  turn_roles = record {
    agree = λ q l f. (let b = before q l f in ap (λ (k : Key). agrees k.roles) b.2 ∙ agree_one q b.0 b.1 (touches a b.0.roles) refl);
    settled = λ q l f.
        (let b = before q l f in
        let z : (is_settled (g q b.0).roles ≡ true) ⊎ IsUnsettled x (g q b.0).roles = settle q b.0 b.1 (touches a b.0.roles) refl (h.settled q b.0 b.1) in
        subst (λ (k : Key). (is_settled k.roles ≡ true) ⊎ IsUnsettled x k.roles) (sym b.2) z);
  }

-- ---- the DS set

pub unshown_empty : (s : KeySetState) → T (is_sorted reference_cmp s.keys) → ((q : Reference) (k : Key) → key_of s q ≡ Some k → is_shown OfKeys DsSet k.roles ≡ false) → is_empty (ds s) ≡ true
unshown_empty s sorted h = none_empty (ksk_is is_at_parent) s sorted h

not_listed : (qs : List Reference) (q : Reference) → is_empty qs ≡ true → listed qs q ≡ true → ⊥
not_listed [] q e h = cc
not_listed (p ∷ qs) q e h = cc

pub empty_unshown : (s : KeySetState) → is_empty (ds s) ≡ true → (q : Reference) (k : Key) → key_of s q ≡ Some k → is_shown OfKeys DsSet k.roles ≡ false
empty_unshown s e q k f = at (ksk_is is_at_parent k.roles) refl
  where
    at : (b : Bool) → ksk_is is_at_parent k.roles ≡ b → ksk_is is_at_parent k.roles ≡ false
    at true i = absurd (not_listed (ds s) q e (found_named (ksk_is is_at_parent) s q k f i))
    at false i = i

pub calm_unshown : (s x : KeySetState) → Calm s x → ((q : Reference) (k : Key) → key_of s q ≡ Some k → is_shown OfKeys DsSet k.roles ≡ false) → (q : Reference) (k : Key) → key_of x q ≡ Some k → is_shown OfKeys DsSet k.roles ≡ false
calm_unshown s x c h q l f =
    ⊎_elim (λ (w : IsFresh l). ap (is_shown OfKeys DsSet) w.2 ∙ fresh_unshown w.0 w.1) (λ (w : (k : Key) × (key_of s q ≡ Some k) × (l.roles ≡ k.roles)). ap (is_shown OfKeys DsSet) w.2 ∙ h q w.0 w.1) (c.from q l f)

-- ---- tags

module _ (s : KeySetState) (p : KeyType → Bool) where
  abbrev tags : List (Reference × Key) → List ℕ
  tags es = tags_of s (map (λ (e : Reference × Key). e.0) (Rattle.std.specs.List.filter (λ (e : Reference × Key). p e.1.roles) es))

  abbrev Within : List (Reference × Key) → Type 0
  Within es = (q : Reference) (k : Key) → find reference_cmp q es ≡ Some k → key_of s q ≡ Some k

  tag_first : (e : Reference × Key) (qs : List Reference) → key_of s e.0 ≡ Some e.1 → tags_of s (e.0 ∷ qs) ≡ e.1.tag ∷ tags_of s qs
  tag_first e qs f = rw (f, tags_of) refl

  absent : (tag : ℕ) (es : List (Reference × Key)) → T (is_sorted reference_cmp es) → Within es → ((q : Reference) (k : Key) → find reference_cmp q es ≡ Some k → tag ≡ k.tag → ⊥) → list_any (nat_eq tag) (tags es) ≡ false
  absent tag [] sorted inside none = refl
  absent tag (e ∷ es) sorted inside none = at (p e.1.roles) (absent tag es (sorted_rest es e sorted) (λ q k f. inside q k (later es e sorted q k f)) (λ q k f i. none q k (later es e sorted q k f) i))
    where
      other : (b : Bool) → nat_eq tag e.1.tag ≡ b → b ≡ false
      other true i = absurd (none e.0 e.1 (first_found es e sorted) (eqb-true tag e.1.tag i))
      other false i = refl

      at : (b : Bool) → list_any (nat_eq tag) (tags es) ≡ false → list_any (nat_eq tag) (tags_of s (map (λ (e : Reference × Key). e.0) (cond b (e ∷ Rattle.std.specs.List.filter (λ (e : Reference × Key). p e.1.roles) es) (Rattle.std.specs.List.filter (λ (e : Reference × Key). p e.1.roles) es)))) ≡ false
      at true rest =
          ap (list_any (nat_eq tag)) (tag_first e (map (λ (e : Reference × Key). e.0) (Rattle.std.specs.List.filter (λ (e : Reference × Key). p e.1.roles) es)) (inside e.0 e.1 (first_found es e sorted)))
          ∙ ap (λ b. b || list_any (nat_eq tag) (tags es)) (other (nat_eq tag e.1.tag) refl) ∙ rest
      at false rest = rest

  differs : Apart s.keys → (es : List (Reference × Key)) → T (is_sorted reference_cmp es) → Within es → differ (tags es) ≡ true
  differs apart [] sorted inside = refl
  differs apart (e ∷ es) sorted inside = at (p e.1.roles) (differs apart es (sorted_rest es e sorted) (λ q k f. inside q k (later es e sorted q k f)))
    where
      behind : (q : Reference) (k : Key) → find reference_cmp q es ≡ Some k → e.1.tag ≡ k.tag → ⊥
      behind q k f i =
          let same : e.0 ≡ q = apart e.0 q e.1 k (inside e.0 e.1 (first_found es e sorted)) (inside q k (later es e sorted q k f)) i in
          true≢false (sym (is_itself e.0) ∙ ap (λ q. eq_by_cmp reference_cmp q e.0) same ∙ passed e.0 q k es (both_first (Rattle.std.specs.FinMap.Entries.below_all reference_cmp e.0 es) (is_sorted reference_cmp es) sorted) f)

      at : (b : Bool) → differ (tags es) ≡ true → differ (tags_of s (map (λ (e : Reference × Key). e.0) (cond b (e ∷ Rattle.std.specs.List.filter (λ (e : Reference × Key). p e.1.roles) es) (Rattle.std.specs.List.filter (λ (e : Reference × Key). p e.1.roles) es)))) ≡ true
      at true rest =
          ap differ (tag_first e (map (λ (e : Reference × Key). e.0) (Rattle.std.specs.List.filter (λ (e : Reference × Key). p e.1.roles) es)) (inside e.0 e.1 (first_found es e sorted)))
          ∙ ap (λ b. not b && differ (tags es)) (absent e.1.tag es (sorted_rest es e sorted) (λ q k f. inside q k (later es e sorted q k f)) behind) ∙ rest
      at false rest = rest

-- tags of the present keys differ
pub present_differ : (s : KeySetState) → T (is_sorted reference_cmp s.keys) → Apart s.keys → differ (tags_of s (present s)) ≡ true
present_differ s sorted apart = differs s (main_is is_present) apart s.keys sorted (λ q k f. f)

-- ---- waits that are accepted

found_any : (t : Which) (r : RollType) (es : List (Reference × Key)) (q : Reference) (k : Key) → find reference_cmp q es ≡ Some k → is_awaited t r k ≡ true → list_any (λ (e : Reference × Key). is_awaited t r e.1) es ≡ true
found_any t r [] q k f h = cc
found_any t r (e ∷ es) q k f h = at (eq_by_cmp reference_cmp q e.0) f (λ g. found_any t r es q k g h)
  where
    at : (b : Bool) → cond b (Some e.1) (find reference_cmp q es) ≡ Some k → (find reference_cmp q es ≡ Some k → list_any (λ (e : Reference × Key). is_awaited t r e.1) es ≡ true) → (is_awaited t r e.1 || list_any (λ (e : Reference × Key). is_awaited t r e.1) es) ≡ true
    at true g more = let same : e.1 ≡ k = cc in or_left (is_awaited t r e.1) (list_any (λ (e : Reference × Key). is_awaited t r e.1) es) (ap (is_awaited t r) same ∙ h)
    at false g more = or_right (is_awaited t r e.1) (list_any (λ (e : Reference × Key). is_awaited t r e.1) es) (more g)

-- a new key that is ready is looked at by the first wait, one that lasts by the second
pub ready_awaited : (side : Side) (r : RollType) (s : KeySetState) (q : Reference) → ((k : Key) → key_of s q ≡ Some k → keeps_all k.roles ≡ true) → HasKey s q (is_ready side r) → some_awaited First r s ≡ true
ready_awaited side r s q keep h =
    found_any First r s.keys q h.0 h.1
    (join (touches r h.0.roles) (watched First r h.0.roles) (of_ready side r h.0.roles h.2).0 (watched1 side r h.0.roles (join (keeps_all h.0.roles) (is_ready side r h.0.roles) (keep h.0 h.1) h.2)))

pub lasting_awaited : (r : RollType) (s : KeySetState) (q : Reference) → ((k : Key) → key_of s q ≡ Some k → keeps_all k.roles ≡ true) → HasKey s q (is_lasting (witness r) r) → some_awaited Second r s ≡ true
lasting_awaited r s q keep h =
    found_any Second r s.keys q h.0 h.1
    (join (touches r h.0.roles) (watched Second r h.0.roles) (of_lasting (witness r) r h.0.roles h.2).0 (watched2 r h.0.roles (join (keeps_all h.0.roles) (is_lasting (witness r) r h.0.roles) (keep h.0 h.1) h.2)))

-- a wait that is accepted has waited for the TTL of its report
pub ran1 : (r : RollType) (s : KeySetState) (p : Reports) (ttl now : ℕ) → Holds r s p → phase_of s r ≡ Some (CacheExpire1 ttl) → is_accepted (wait1 r now s) ≡ true → some_awaited First r s ≡ true
    → (since : ℕ) × (p.first ≡ Some (since, ttl)) × (ttl * 1000000000 ≤ now - since)
ran1 r s p ttl now h at yes_accepted some =
    let k : runs.Kept r p s.keys (Some (CacheExpire1 ttl)) = subst (runs.Kept r p s.keys) at h.kept in
    let e = exact First r Propagation2 ttl now k.0 (on_keys r (waited1 r now) s.keys) s h.sorted (λ q l f t w. k.2 q l f t w) in
    (k.0, k.1, e.0 (ap is_accepted (sym (wait1_in r ttl now s at)) ∙ yes_accepted) some)

pub ran2 : (r : RollType) (s : KeySetState) (p : Reports) (ttl now : ℕ) → Holds r s p → phase_of s r ≡ Some (CacheExpire2 ttl) → is_accepted (wait2 r now s) ≡ true → some_awaited Second r s ≡ true
    → (since : ℕ) × (p.second ≡ Some (since, ttl)) × (ttl * 1000000000 ≤ now - since)
ran2 r s p ttl now h at yes_accepted some =
    let k : runs.Kept r p s.keys (Some (CacheExpire2 ttl)) = subst (runs.Kept r p s.keys) at h.kept in
    let e = exact Second r Done ttl now k.0 (on_keys r (waited2 r now) s.keys) s h.sorted (λ q l f t w. k.2 q l f t w) in
    (k.0, k.1, e.0 (ap is_accepted (sym (wait2_in r ttl now s at)) ∙ yes_accepted) some)
