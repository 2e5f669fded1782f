-- The closest encloser, sought label by label.
use Rattle.std.proofs.Common.{◌≡◌, ℕ, zero, suc, ◌+◌, ◌-◌, ◌<◌, ◌≤◌, Bool, true, false, ◌&&◌, List, [], ◌∷◌, length, drop, drop-cons, get_or, refl, sym, ap, ◌∙◌, arith}
use Rattle.std.specs.Prelude.{if◌then◌else◌}
use Rattle.std.proofs.lemmas.Bool.{false_from_ne_true, or_right}
use Rattle.std.specs.Str.{str_to_ascii_lowercase}
use Rattle.std.proofs.lemmas.List.{drop_all, drop-map, length-drop, length-map}
use Rattle.definitions.specs.Name.{Name, at_or_above, labels_eq, low, same, strictly_above}
use Rattle.definitions.specs.Zone.{Zone, kept}
use Rattle.definitions.proofs.NameLaws.{labels_decide}
use Rattle.definitions.proofs.ZoneNames.{above_itself}
use Rattle.denial_laws.specs.OwnFacts.{kept_ancestor, next_closer}
use Rattle.answer_zone_records.specs.Near.{shows}
use Rattle.answer_zone_records.specs.declared.near.Neighbours.{Neighbours}
use Rattle.answer_zone.specs.Placed.{shown_ancestor}
use Rattle.denial_laws.proofs.NameFacts.{strictly_at}

low-drop : (k : ℕ) (n : Name) → low (drop k n) ≡ drop k (low n)
low-drop k n = sym (drop-map str_to_ascii_lowercase k n)

-- ---- the longest ancestor that neighbours show

module _ (apex : Name) (near : Neighbours) where
  abbrev shown : Name → Bool
  shown a = at_or_above apex a && shows near a

  -- what is looked at next, after so many labels are left
  next_up : (name : Name) (count : ℕ) → 0 < count → count ≤ length name
      → shown_ancestor apex near (drop (length name - count) name) ≡ (if shown (drop (length name - (count - 1)) name) then drop (length name - (count - 1)) name else shown_ancestor apex near (drop (length name - (count - 1)) name))
  next_up name count a b =
      let k : suc (length name - count) ≡ length name - (count - 1) = omega arith in
      ap (shown_ancestor apex near) (drop-cons name (length name - count) [] (omega arith))
      ∙ ap (λ j. if shown (drop j name) then drop j name else shown_ancestor apex near (drop j name)) k

  pub encloser_here : (name a : Name) (count : ℕ) → 0 < count → count ≤ length name → a ≡ drop (length name - (count - 1)) name
      → shown_ancestor apex near name ≡ shown_ancestor apex near (drop (length name - count) name) → shown a ≡ true → a ≡ shown_ancestor apex near name
  encloser_here name a count h k is so e =
      let j = length name - (count - 1) in
      is ∙ sym (so ∙ next_up name count h k ∙ ap (λ b. if b then drop j name else shown_ancestor apex near (drop j name)) (ap shown (sym is) ∙ e))

  pub encloser_past : (name a : Name) (count : ℕ) → 0 < count → count ≤ length name → a ≡ drop (length name - (count - 1)) name
      → shown_ancestor apex near name ≡ shown_ancestor apex near (drop (length name - count) name) → shown a ≡ false → shown_ancestor apex near name ≡ shown_ancestor apex near (drop (length name - (count - 1)) name)
  encloser_past name a count h k is so e =
      let j = length name - (count - 1) in
      so ∙ next_up name count h k ∙ ap (λ b. if b then drop j name else shown_ancestor apex near (drop j name)) (ap shown (sym is) ∙ e)

  pub encloser_none : (name : Name) (count : ℕ) → count ≡ 0 → shown_ancestor apex near name ≡ shown_ancestor apex near (drop (length name - count) name) → [] ≡ shown_ancestor apex near name
  encloser_none name count e so = sym (so ∙ ap (shown_ancestor apex near) (drop_all (length name - count) name (omega (arith, e))))

  -- of neighbours that show what is kept, the longest kept ancestor
  pub shown_is_kept : (z : Zone) (ex : Bool) (name : Name) → ((a : Name) → strictly_above a name ≡ true → kept z ex (low a) ≡ shown a) → low (shown_ancestor apex near name) ≡ kept_ancestor z ex (low name)
  shown_is_kept z ex [] f = refl
  shown_is_kept z ex (l ∷ q) f = go (shown q) (f q (above_itself q)) (shown_is_kept z ex q (λ a s. f a (strictly_at a q s)))
    where
      go : (b : Bool) → kept z ex (low q) ≡ b → low (shown_ancestor apex near q) ≡ kept_ancestor z ex (low q) → low (if b then q else shown_ancestor apex near q) ≡ (if kept z ex (low q) then low q else kept_ancestor z ex (low q))
      go true e later = sym (ap (λ b. if b then low q else kept_ancestor z ex (low q)) e)
      go false e later = later ∙ sym (ap (λ b. if b then low q else kept_ancestor z ex (low q)) e)

-- ---- the next closer name

-- an ancestor is what is left behind some labels, fewer than all but one
record IsBehind (q e : Name) : Type 0 where
  skipped : ℕ
  within : skipped < length q
  is : e ≡ drop (suc skipped) q

root_either : (b : Bool) → if◌then◌else◌ {A = Name} b [] [] ≡ []
root_either true = refl
root_either false = refl

-- every kept ancestor is one, or the root
ancestor_behind : (z : Zone) (ex : Bool) (l : List ℕ) (q : Name) → IsBehind (l ∷ q) (kept_ancestor z ex (l ∷ q))
ancestor_behind z ex l [] =
    record { skipped = 0; within = omega arith; is = root_either (kept z ex []) }
ancestor_behind z ex l (m ∷ q) = go (kept z ex (m ∷ q)) (ancestor_behind z ex m q)
  where
    go : (b : Bool) → IsBehind (m ∷ q) (kept_ancestor z ex (m ∷ q)) → IsBehind (l ∷ m ∷ q) (if b then m ∷ q else kept_ancestor z ex (m ∷ q))
    go true r = record { skipped = 0; within = omega arith; is = refl }
    go false r = record { skipped = suc r.skipped; within = (let w = r.within in omega arith); is = r.is }

unlike_lengths : (a b : Name) → (length a ≡ length b → ⊥) → labels_eq a b ≡ false
unlike_lengths a b f = false_from_ne_true (labels_eq a b) (λ e. f (ap length ((labels_decide a b).0 e)))

closer_behind : (k : ℕ) (q : Name) → k < length q → next_closer (drop (suc k) q) q ≡ drop k q
closer_behind k [] h = absurd (omega arith)
closer_behind zero (l ∷ q) h = ap (λ b. if b then l ∷ q else next_closer q q) ((labels_decide q q).1 refl)
closer_behind (suc k) (l ∷ q) h =
    let inside : k < length q = omega arith in
    let shorter : labels_eq (drop (suc k) q) q ≡ false = unlike_lengths (drop (suc k) q) q (λ e. let n = length-drop (suc k) q in omega arith) in
    ap (λ b. if b then l ∷ q else next_closer (drop (suc k) q) q) shorter ∙ closer_behind k q inside

-- the last labels of a name, one more than its kept ancestor has
pub closer_found : (z : Zone) (ex : Bool) (name e c : Name) (count : ℕ) → low e ≡ kept_ancestor z ex (low name) → c ≡ drop (length name - count) name → (length e < length name → count ≡ length e + 1) → low c ≡ next_closer (kept_ancestor z ex (low name)) (low name)
closer_found z ex [] e c count is so few = ap low (so ∙ drop_all (0 - count) [] (omega arith))
closer_found z ex (l ∷ n) e c count is so few =
    let name : Name = l ∷ n in
    let q : Name = low name in
    let r : IsBehind q (kept_ancestor z ex q) = ancestor_behind z ex (str_to_ascii_lowercase l) (low n) in
    let long : length q ≡ length name = length-map name str_to_ascii_lowercase in
    let short : length (low e) ≡ length e = length-map e str_to_ascii_lowercase in
    let same : length (low e) ≡ length (drop (suc r.skipped) q) = ap length (is ∙ r.is) in
    let left : length (drop (suc r.skipped) q) ≡ length q - suc r.skipped = length-drop (suc r.skipped) q in
    let w : r.skipped < length q = r.within in
    let fewer : length e < length name = omega (arith, long, short, same, left, w) in
    let counted : count ≡ length e + 1 = few fewer in
    let place : length name - count ≡ r.skipped = omega (arith, long, short, same, left, w, counted) in
    ap low so ∙ low-drop (length name - count) name ∙ ap (λ k. drop k q) place
    ∙ sym (ap (λ m. next_closer m q) r.is ∙ closer_behind r.skipped q w)

-- the next closer name is at or above the name, and below the ancestor
pub record IsCloser (q e c : Name) : Type 0 where
  pub above : at_or_above c q ≡ true
  pub below : (n : Name) → at_or_above n e ≡ true → at_or_above n c ≡ true
  pub lowered : low q ≡ q → low c ≡ c

behind_above : (n : ℕ) (q : Name) → at_or_above (drop n q) q ≡ true
behind_above zero q = above_itself q
behind_above (suc n) [] = refl
behind_above (suc n) (l ∷ q) = or_right (same (drop n q) (l ∷ q)) (at_or_above (drop n q) q) (behind_above n q)

pub closer_there : (z : Zone) (ex : Bool) (l : List ℕ) (q : Name) → IsCloser (l ∷ q) (kept_ancestor z ex (l ∷ q)) (next_closer (kept_ancestor z ex (l ∷ q)) (l ∷ q))
closer_there z ex l q =
    let r : IsBehind (l ∷ q) (kept_ancestor z ex (l ∷ q)) = ancestor_behind z ex l q in
    let k = r.skipped in
    let is : next_closer (kept_ancestor z ex (l ∷ q)) (l ∷ q) ≡ drop k (l ∷ q) = ap (λ m. next_closer m (l ∷ q)) r.is ∙ closer_behind k (l ∷ q) r.within in
    record {
      above = ap (λ c. at_or_above c (l ∷ q)) is ∙ behind_above k (l ∷ q);
      below = λ n a. ap (at_or_above n) (is ∙ drop-cons (l ∷ q) k [] r.within) ∙ strictly_at n (get_or (l ∷ q) k [] ∷ drop (suc k) (l ∷ q)) (ap (at_or_above n) (sym r.is) ∙ a);
      lowered = λ lq. ap low is ∙ low-drop k (l ∷ q) ∙ ap (drop k) lq ∙ sym is;
    }
