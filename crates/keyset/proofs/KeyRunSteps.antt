-- What runs of calls keep: what the stamps of a roll's keys say of its reports.
use Rattle.std.proofs.Common.{◌≡◌, ℕ, Bool, true, false, cond, List, refl, sym, ap, subst, ◌∙◌, T}
use Rattle.std.specs.Prelude.{Option, Some, None, is_some}
use Rattle.std.specs.Ordering.{eq_by_cmp}
use Rattle.std.specs.FinMap.Entries.{find, find-put, is_sorted}
use Rattle.std.proofs.lemmas.Bool.{false≢true, eqb-true, eq-eqb}
use Rattle.keyset_rolls.specs.declared.rolls.RollState.{RollState}
use Rattle.keyset_rolls.specs.declared.rolls.RollState.TheVariants.{Propagation1, CacheExpire1, Propagation2, CacheExpire2, Done}
use Rattle.keyset_rolls.specs.declared.rolls.RollType.{RollType}
use Rattle.keyset_rolls.specs.declared.rolls.RollType.TheVariants.{KskRoll, KskDoubleDsRoll, ZskRoll, ZskDoubleSignatureRoll, CskRoll, AlgorithmRoll}
use Rattle.keyset_rolls.specs.declared.rolls.Turn.TheVariants.{First, Second}
use Rattle.keyset_keys.specs.declared.keys.KeyType.{KeyType}
use Rattle.keyset_keys.specs.declared.keys.KeyTimestamps.{KeyTimestamps}
use Rattle.keyset_rolls.specs.Rolls.{touches, conflicts, watched, stamp_read, report1_stamps, reported1, reported2}
use Rattle.keyset.specs.KeyState.{Key, KeySetState, Reference, current, entered, index_of, is_present, kind_cmp, ksk_is, phase_of, reference_cmp, see, see_ds, see_rrsig, zsk_is}
use Rattle.keyset.specs.KeyRunLaws.{Reports, keeps_roles, same_roll}
use Rattle.keyset.proofs.KeyFinds.{changed, from_before, is_equal, sorted_changed}
use Rattle.keyset.proofs.KeyKinds.{apart, conflicts_both, kind_of, touches_alike}
use Rattle.keyset.proofs.KeyMaps.{index_same, kind_same, kind_total}
use Rattle.keyset.proofs.KeyWaits.{kind_itself}
use Rattle.keyset.proofs.KeyTables.{signing_is_present}

-- ---- keys that a roll touches

abbrev pub At : List (Reference × Key) → Reference → Key → Type 0
At es q k = find reference_cmp q es ≡ Some k

abbrev pub AllTouched : RollType → (Key → Type 0) → List (Reference × Key) → Type 0
AllTouched r F es = (q : Reference) (k : Key) → At es q k → touches r k.roles ≡ true → F k

-- behind a first report
abbrev pub Stamped1 : RollType → ℕ → Key → Type 0
Stamped1 r since k = watched First r k.roles ≡ true → stamp_read First r k.stamps ≡ Some since

-- behind a second report
abbrev pub Stamped2 : RollType → ℕ → Key → Type 0
Stamped2 r since k = watched Second r k.roles ≡ true → stamp_read Second r k.stamps ≡ Some since

-- what the keys say of a roll's reports in each of its phases
abbrev pub Kept : RollType → Reports → List (Reference × Key) → Option RollState → Type 0
Kept r p es None = Unit {0}
Kept r p es (Some Propagation1) = Unit {0}
Kept r p es (Some (CacheExpire1 ttl)) = (since : ℕ) × (p.first ≡ Some (since, ttl)) × AllTouched r (Stamped1 r since) es
Kept r p es (Some Propagation2) = Unit {0}
Kept r p es (Some (CacheExpire2 ttl)) = (since : ℕ) × (p.second ≡ Some (since, ttl)) × AllTouched r (Stamped2 r since) es
Kept r p es (Some Done) = Unit {0}

abbrev pub AllKeep : List (Reference × Key) → Type 0
AllKeep es = (q : Reference) (k : Key) → At es q k → keeps_roles k.roles ≡ true

abbrev pub Together : KeySetState → Type 0
Together s = (a b : RollType) → is_some (phase_of s a) ≡ true → is_some (phase_of s b) ≡ true → conflicts a b ≡ true → a ≡ b

pub record Holds (r : RollType) (s : KeySetState) (p : Reports) : Type 0 where
  pub sorted : T (is_sorted reference_cmp s.keys)
  pub keeps : AllKeep s.keys
  pub together : Together s
  pub kept : Kept r p s.keys (phase_of s r)

-- ---- a change of the keys that one roll touches

pub record Moves (r : RollType) (g : Reference → Key → Key) (es : List (Reference × Key)) : Type 0 where
  pub still : (q : Reference) (k : Key) → At es q k → touches r k.roles ≡ false → g q k ≡ k
  pub kind : (q : Reference) (k : Key) → kind_of (g q k).roles ≡ kind_of k.roles
  pub keeps : (q : Reference) (k : Key) → At es q k → touches r k.roles ≡ true → keeps_roles k.roles ≡ true → keeps_roles (g q k).roles ≡ true

module _ (a : RollType) (g : Reference → Key → Key) (es : List (Reference × Key)) (m : Moves a g es) where
  keeps_one : (q : Reference) (k : Key) (t : Bool) → touches a k.roles ≡ t → At es q k → keeps_roles k.roles ≡ true → keeps_roles (g q k).roles ≡ true
  keeps_one q k true t f h = m.keeps q k f t h
  keeps_one q k false t f h = ap (λ (k : Key). keeps_roles k.roles) (m.still q k f t) ∙ h

  pub keys_keep : AllKeep es → AllKeep (changed g es)
  keys_keep h q l f =
      let b = from_before g es q l f in
      ap (λ (k : Key). keeps_roles k.roles) b.2 ∙ keeps_one q b.0 (touches a b.0.roles) refl b.1 (h q b.0 b.1)

  -- another roll's keys stay
  others : (r : RollType) (F : Key → Type 0) → conflicts a r ≡ false → AllTouched r F es → AllTouched r F (changed g es)
  others r F c h q l f t =
      let b = from_before g es q l f in
      let k = b.0 in
      let touched : touches r k.roles ≡ true = sym (touches_alike r (g q k).roles k.roles (m.kind q k)) ∙ ap (λ (k : Key). touches r k.roles) (sym b.2) ∙ t in
      let same : l ≡ k = b.2 ∙ m.still q k b.1 (apart r a k.roles (conflicts_both r a ∙ c) touched) in
      subst F (sym same) (h q k b.1 touched)

  pub kept_by_others : (r : RollType) (p : Reports) (o : Option RollState) → (is_some o ≡ true → conflicts a r ≡ false) → Kept r p es o → Kept r p (changed g es) o
  kept_by_others r p None c h = tt
  kept_by_others r p (Some Propagation1) c h = tt
  kept_by_others r p (Some (CacheExpire1 ttl)) c h = (h.0, h.1, others r (Stamped1 r h.0) (c refl) h.2)
  kept_by_others r p (Some Propagation2) c h = tt
  kept_by_others r p (Some (CacheExpire2 ttl)) c h = (h.0, h.1, others r (Stamped2 r h.0) (c refl) h.2)
  kept_by_others r p (Some Done) c h = tt

  -- the keys of the roll itself
  pub own : (F : Key → Type 0) → ((q : Reference) (k : Key) → At es q k → touches a k.roles ≡ true → F (g q k)) → AllTouched a F (changed g es)
  own F h q l f t =
      let b = from_before g es q l f in
      let touched : touches a b.0.roles ≡ true = sym (touches_alike a (g q b.0).roles b.0.roles (m.kind q b.0)) ∙ ap (λ (k : Key). touches a k.roles) (sym b.2) ∙ t in
      subst F (sym b.2) (h q b.0 b.1 touched)

-- ---- what reports and waits do to one key

read1 : (r : RollType) (now : ℕ) (t : KeyType) (s : KeyTimestamps) → stamp_read First r (report1_stamps r now t s) ≡ Some now
read1 KskRoll now t s = refl
read1 KskDoubleDsRoll now t s = refl
read1 ZskRoll now t s = refl
read1 ZskDoubleSignatureRoll now t s = refl
read1 CskRoll now t s = refl
read1 AlgorithmRoll now t s = elim (zsk_is (λ _. true) t) as (λ b. (cond b (see_rrsig now (see now s)) (see now s)).visible ≡ Some now) [ true ↦ refl | false ↦ refl ]

pub stamps1 : (r : RollType) (now : ℕ) (k : Key) → Stamped1 r now (reported1 r now k)
stamps1 r now k = λ w. ap (λ b. stamp_read First r (cond b (report1_stamps r now k.roles k.stamps) k.stamps)) w ∙ read1 r now k.roles k.stamps

pub stamps2 : (r : RollType) (now : ℕ) (k : Key) → keeps_roles k.roles ≡ true → Stamped2 r now (reported2 r now k)
stamps2 KskRoll now k h = λ w. ap (λ b. (cond b (see_ds now k.stamps) k.stamps).ds_visible) w
stamps2 KskDoubleDsRoll now k h = λ w. ap (λ b. (cond b (see now k.stamps) k.stamps).visible) w
stamps2 ZskRoll now k h = λ w. ap (λ b. (cond b (see_rrsig now k.stamps) k.stamps).rrsig_visible) w
stamps2 ZskDoubleSignatureRoll now k h = λ w. ap (λ b. (cond b (see_rrsig now k.stamps) k.stamps).rrsig_visible) w
stamps2 CskRoll now k h = λ w. (let before : KeyTimestamps = cond (ksk_is (current is_present) k.roles) (see_ds now k.stamps) k.stamps in ap (λ b. (cond b (see_rrsig now before) before).rrsig_visible) w)
stamps2 AlgorithmRoll now k h = λ w. ap (λ b. (cond b (see_ds now k.stamps) k.stamps).ds_visible) (signing_is_present k.roles h w)

-- ---- a step of one roll

pub roll_itself : (r : RollType) → same_roll r r ≡ true
roll_itself r = eq-eqb (index_of r) (index_of r) refl

pub other_roll : (a r : RollType) → eq_by_cmp kind_cmp r a ≡ false → same_roll a r ≡ false
other_roll a r h = at (same_roll a r) refl
  where
    at : (t : Bool) → same_roll a r ≡ t → t ≡ false
    at true e = let same : a ≡ r = index_same a r (eqb-true (index_of a) (index_of r) e) in absurd (false≢true (sym h ∙ ap (λ b. eq_by_cmp kind_cmp r b) same ∙ kind_itself r))
    at false e = refl

kind_equal : (a b : RollType) → eq_by_cmp kind_cmp a b ≡ true → a ≡ b
kind_equal a b e = kind_same a b (is_equal (kind_cmp a b) e)

pub phase_put : (s : KeySetState) (ks : List (Reference × Key)) (a b : RollType) (ph : RollState) → phase_of (entered a ph ks s) b ≡ cond (eq_by_cmp kind_cmp b a) (Some ph) (phase_of s b)
phase_put s ks a b ph = find-put kind_cmp kind_total b a ph s.rolls

-- a roll that runs behind a step of a running roll ran before it
ran : (s : KeySetState) (a b : RollType) (ph : RollState) (t : Bool) → is_some (phase_of s a) ≡ true → eq_by_cmp kind_cmp b a ≡ t → is_some (cond t (Some ph) (phase_of s b)) ≡ true → is_some (phase_of s b) ≡ true
ran s a b ph true running e h = ap (λ c. is_some (phase_of s c)) (kind_equal b a e) ∙ running
ran s a b ph false running e h = h

module _ (r : RollType) (s : KeySetState) (p : Reports) (h : Holds r s p) (a : RollType) (g : Reference → Key → Key) (ph : RollState) (m : Moves a g s.keys) where
  together_then : is_some (phase_of s a) ≡ true → Together (entered a ph (changed g s.keys) s)
  together_then running b c k l =
      let run = λ (b : RollType) (k : is_some (phase_of (entered a ph (changed g s.keys) s) b) ≡ true). ran s a b ph (eq_by_cmp kind_cmp b a) running refl (ap is_some (sym (phase_put s (changed g s.keys) a b ph)) ∙ k) in
      h.together b c (run b k) (run c l)

  -- a roll that runs beside another doesn't conflict with it
  no_conflict : (b : RollType) → is_some (phase_of s a) ≡ true → eq_by_cmp kind_cmp b a ≡ false → is_some (phase_of s b) ≡ true → conflicts a b ≡ false
  no_conflict b running e k = at (conflicts a b) refl
    where
      at : (t : Bool) → conflicts a b ≡ t → t ≡ false
      at true c = absurd (false≢true (sym e ∙ ap (λ x. eq_by_cmp kind_cmp b x) (h.together a b running k c) ∙ kind_itself b))
      at false c = refl

  stepped_kept : (q : Reports) (t : Bool) → eq_by_cmp kind_cmp r a ≡ t → (eq_by_cmp kind_cmp r a ≡ true → Kept r q (changed g s.keys) (Some ph)) → (eq_by_cmp kind_cmp r a ≡ false → q ≡ p)
      → (is_some (phase_of s r) ≡ true → eq_by_cmp kind_cmp r a ≡ false → conflicts a r ≡ false) → Kept r q (changed g s.keys) (cond t (Some ph) (phase_of s r))
  stepped_kept q true e mine same apart = mine e
  stepped_kept q false e mine same apart = subst (λ q. Kept r q (changed g s.keys) (phase_of s r)) (sym (same e)) (kept_by_others a g s.keys m r p (phase_of s r) (λ k. apart k e) h.kept)

  pub step_holds : (q : Reports) → Together (entered a ph (changed g s.keys) s) → (is_some (phase_of s r) ≡ true → eq_by_cmp kind_cmp r a ≡ false → conflicts a r ≡ false)
      → (eq_by_cmp kind_cmp r a ≡ true → Kept r q (changed g s.keys) (Some ph)) → (eq_by_cmp kind_cmp r a ≡ false → q ≡ p) → Holds r (entered a ph (changed g s.keys) s) q
  step_holds q t c mine same = record {
    sorted = sorted_changed g s.keys h.sorted;
    keeps = keys_keep a g s.keys m h.keeps;
    together = t;
    kept = subst (Kept r q (changed g s.keys)) (sym (phase_put s (changed g s.keys) a r ph)) (stepped_kept q (eq_by_cmp kind_cmp r a) refl mine same c);
  }

  -- of a roll that runs
  pub running_holds : (q : Reports) → is_some (phase_of s a) ≡ true → (eq_by_cmp kind_cmp r a ≡ true → Kept r q (changed g s.keys) (Some ph)) → (eq_by_cmp kind_cmp r a ≡ false → q ≡ p) → Holds r (entered a ph (changed g s.keys) s) q
  running_holds q running mine same = step_holds q (together_then running) (λ k e. no_conflict r running e k) mine same
