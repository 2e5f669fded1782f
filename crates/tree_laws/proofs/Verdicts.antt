-- What verdicts say of where a question is referred, and what is so below a name.
use Rattle.std.proofs.Common.{◌≡◌, ℕ, Bool, true, false, ◌&&◌, not, List, Option, Some, None, refl, sym, ap, ◌∙◌, inl, inr}
use Rattle.std.specs.Prelude.{◌==◌, if◌then◌else◌}
use Rattle.std.specs.List.{list_any}
use Rattle.std.proofs.lemmas.Bool.{and_parts, eqb-true, false≢true, false_from_ne_true, not-true}
use Rattle.definitions.specs.Name.{Name, low, labels_eq, at_or_above, strictly_above}
use Rattle.definitions.specs.Zone.{Zone, Verdict, Records, NoType, NoName, StarRecords, StarNoType, Delegated, Open, Unsigned, apex_of, cut, has, is_delegation, is_live, is_open, kept, kept_cut_above, data_at, verdict}
use Rattle.definitions.proofs.NameLaws.{labels_decide}
use Rattle.definitions.proofs.ZoneNames.{low-low, above_itself}
use Rattle.denial_laws.specs.Aliases.{IsOrderly, is_aliased}
use Rattle.denial_laws.specs.Saying.{IsAnswered, IsDelegated, IsVerdict}
use Rattle.denial_laws.proofs.NameFacts.{above_cases, above-low, above_either, names_same, same_above, same_names, strictly_at}
use Rattle.denial_laws.proofs.OneVerdict.{each_question_has_one_verdict}
use Rattle.denial_laws.proofs.Unaliased.{unaliased, unaliased_parts, unredirected, no_redirector}
use Rattle.denial_laws.proofs.ZoneCuts.{IsCut, IsBelowKeptCut, below_cut, cut_from, cut_is, cut_live, cut_below, has_owner, kept_inside, kept_up, live_kept, owner_kept, uncut, uncut_live}
use Rattle.tree_laws.specs.Tree.{TreeZone, Secure, SaysItself, is_bound, refers_to}
use Rattle.tree_laws.specs.Orderly.{HasDsAtCuts}
use Rattle.tree_laws.proofs.Trees.{no_data, refers, refers_none}

-- what a verdict rests on
pub verdict_told : (z : Zone) (ex : Bool) (name : Name) (t : ℕ) (v : Verdict) → verdict z ex name t ≡ v → IsVerdict z ex name t v
verdict_told z ex name t v e = (each_question_has_one_verdict z ex name t v).1 (sym e)

-- ---- the zone's own

-- at the delegation itself, DS is the zone's
own_ds : (z : Zone) (q : Name) (t : ℕ) → cut z (low q) ≡ Some (low q) → t ≡ 43 → refers_to z q t ≡ None
own_ds z q t e d =
    let itself : labels_eq (low q) (low q) ≡ true = (labels_decide (low q) (low q)).1 refl in
    (λ i. elim (e i) as (λ _. Option Name) [ None ↦ None | Some c ↦ if labels_eq c (low q) && (t == 43) then None else Some c ])
    ∙ (λ i. if itself i && (d i == 43) then None else Some (low q))

pub answered_unreferred : (z : Zone) (q : Name) (t : ℕ) → IsAnswered z (low q) t → refers_to z q t ≡ None
answered_unreferred z q t a = elim a [
  | inl b ↦ refers_none z q t b.0
  | inr b ↦ own_ds z q t b.0 b.1
]

-- a verdict of the zone itself: not of a delegation, and not left open
abbrev pub IsOwn : Verdict → Type 0
IsOwn Delegated = ⊥
IsOwn Open = ⊥
IsOwn Unsigned = ⊥
IsOwn v = Unit {0}

own_unreferred : (z : Zone) (ex : Bool) (q : Name) (t : ℕ) (v : Verdict) → IsOwn v → IsVerdict z ex q t v → (is_open z ex (low q) ≡ false) × (refers_to z q t ≡ None)
own_unreferred z ex q t (Records ds) o is = (is.0, answered_unreferred z q t is.1.0)
own_unreferred z ex q t NoType o is = (is.0, answered_unreferred z q t is.1.0)
own_unreferred z ex q t NoName o is = (is.0, refers_none z q t is.1.missing.uncut)
own_unreferred z ex q t (StarRecords ds) o is = (is.0, refers_none z q t is.1.1.missing.uncut)
own_unreferred z ex q t StarNoType o is = (is.0, refers_none z q t is.1.1.missing.uncut)
own_unreferred z ex q t Delegated o is = absurd o
own_unreferred z ex q t Open o is = absurd o
own_unreferred z ex q t Unsigned o is = absurd o

pub own_verdict : (knows : List ℕ → Bool) (q : Name) (t : ℕ) (z : TreeZone) (v : Verdict) → IsOwn v → verdict z.zone z.optout q t ≡ v → is_aliased z.zone z.optout q t ≡ false → SaysItself knows q t z (Secure z.zone.name v)
own_verdict knows q t z v o e plain =
    let both = own_unreferred z.zone z.optout q t v o (verdict_told z.zone z.optout q t v e) in
    (refl, both.1, both.0, plain, sym e)

-- ---- delegations

-- a name that is delegated is referred to its cut
pub delegated_refers : (z : Zone) (ex : Bool) (q : Name) (t : ℕ) (c : Name) → verdict z ex q t ≡ Delegated → cut z (low q) ≡ Some c → refers_to z q t ≡ Some c
delegated_refers z ex q t c e k =
    let d : IsDelegated z (low q) t = (verdict_told z ex q t Delegated e).1 in
    let is : d.delegation ≡ c = (let both : Some d.delegation ≡ Some c = sym d.cut ∙ k in cc) in
    refers z q t c k (false_from_ne_true (labels_eq c (low q) && (t == 43)) (λ h.
    let both = and_parts (labels_eq c (low q)) (t == 43) h in
    d.other (is ∙ (labels_decide c (low q)).0 both.0, eqb-true t 43 both.1)))

-- a delegation is that of each name at or below it
pub cut_down : (z : Zone) (n q : Name) → cut z (low n) ≡ Some (low n) → at_or_above n q ≡ true → cut z (low q) ≡ Some (low n)
cut_down z n q e a =
    let k : IsCut z (low n) (low n) = cut_is z (low n) (low n) (low-low n) e in
    cut_from z (low q) (low n) (low-low q) k.delegation (cut_live z (low n) (low n) k) (above-low n q ∙ a)

-- a live delegation is its own cut
pub own_cut : (z : Zone) (n : Name) → is_delegation z (low n) ≡ true → is_live z (low n) ≡ true → cut z (low n) ≡ Some (low n)
own_cut z n d l = cut_from z (low n) (low n) (low-low n) d l (above_itself (low n))

answered_live : (z : Zone) (n : Name) (t : ℕ) → IsAnswered z (low n) t → is_live z (low n) ≡ true
answered_live z n t a = elim a [
  | inl b ↦ uncut_live z (low n) (low-low n) (kept_inside z false (low n) b.1) (λ d h up. uncut z (low n) (low-low n) b.0 d h (strictly_at d (low n) up))
  | inr b ↦ cut_live z (low n) (low n) (cut_is z (low n) (low n) (low-low n) b.0)
]

-- DS that the zone answers stands at a delegation
pub ds_cut : (z : Zone) (ex : Bool) (n : Name) (ds : List (List ℕ)) → HasDsAtCuts z → verdict z ex n 43 ≡ Records ds → (cut z (low n) ≡ Some (low n)) × (ds ≡ data_at z (low n) 43)
ds_cut z ex n ds o e =
    let is = verdict_told z ex n 43 (Records ds) e in
    let live : is_live z (low n) ≡ true = answered_live z n 43 is.1.0 in
    (own_cut z n (o (low n) is.1.1 live) live, is.1.2)

-- where it answers that there is none, a delegation has none
pub no_ds_cut : (z : Zone) (ex : Bool) (n : Name) → verdict z ex n 43 ≡ NoType → is_delegation z (low n) ≡ true → (cut z (low n) ≡ Some (low n)) × (has z (low n) 43 ≡ false)
no_ds_cut z ex n e d = let is = verdict_told z ex n 43 NoType e in (own_cut z n d (answered_live z n 43 is.1.0), is.1.1)

pub no_ds_uncut : (z : Zone) (ex : Bool) (n : Name) → verdict z ex n 43 ≡ NoType → (is_delegation z (low n) ≡ true → ⊥) → cut z (low n) ≡ None
no_ds_uncut z ex n e none = elim (verdict_told z ex n 43 NoType e).1.0 [
  | inl b ↦ b.0
  | inr b ↦ absurd (none (cut_is z (low n) (low n) (low-low n) b.0).delegation)
]

pub unbound : (knows : List ℕ → Bool) (z : Zone) (c : Name) → has z c 43 ≡ false → is_bound knows z c ≡ false
unbound knows z c h = ap (list_any knows) (no_data z c 43 h)

-- ---- names that opt-out leaves open

left_open : (ex k c : Bool) → ex ≡ true → k ≡ false → c ≡ false → (ex && not k && not c) ≡ true
left_open ex k c e f g = λ i. e i && not (f i) && not (g i)

pub record IsOpen (z : Zone) (ex : Bool) (q : Name) : Type 0 where
  pub optout : ex ≡ true
  pub gone : kept z ex q ≡ false
  pub uncut : kept_cut_above z ex q ≡ false

pub open_parts : (z : Zone) (ex : Bool) (q : Name) → is_open z ex q ≡ true → IsOpen z ex q
open_parts z ex q h =
    let both = and_parts (ex && not (kept z ex q)) (not (kept_cut_above z ex q)) h in
    let parts = and_parts ex (not (kept z ex q)) both.0 in
    record { optout = parts.0; gone = not-true (kept z ex q) parts.1; uncut = not-true (kept_cut_above z ex q) both.1 }

module _ (z : Zone) (ex : Bool) (n q : Name) (inside : at_or_above (apex_of z) (low n) ≡ true) (a : at_or_above (low n) (low q) ≡ true) where
  -- what is kept below a name keeps it
  gone_down : kept z ex (low n) ≡ false → kept z ex (low q) ≡ false
  gone_down g = false_from_ne_true (kept z ex (low q)) (λ h. false≢true (sym g ∙ kept_up z ex (low n) (low q) h a inside))

  uncut_down : kept z ex (low n) ≡ false → kept_cut_above z ex (low n) ≡ false → kept_cut_above z ex (low q) ≡ false
  uncut_down g c = false_from_ne_true (kept_cut_above z ex (low q)) (λ h.
      let k : IsBelowKeptCut z ex (low q) = below_cut z ex (low q) h in
      let there : kept z ex k.cut ≡ true = owner_kept z ex k.cut (has_owner z k.cut 2 (and_parts (has z k.cut 2) (strictly_above (apex_of z) k.cut) k.delegation).0) k.kept in
      elim (above_either (low n) k.cut (low q) a (strictly_at k.cut (low q) k.above)) [
        | inl up ↦ false≢true (sym g ∙ kept_up z ex (low n) k.cut there up inside)
        | inr down ↦ elim (above_cases k.cut (low n) down) [
          | inl s ↦ false≢true (sym g ∙ kept_up z ex (low n) k.cut there (same_above (low n) k.cut (names_same (low n) k.cut (sym (same_names k.cut (low n) s)))) inside)
          | inr s ↦ false≢true (sym c ∙ cut_below z ex (low n) (low-low n) (record { cut = k.cut; delegation = k.delegation; kept = k.kept; above = s }))
        ]
      ])

  pub open_down : is_open z ex (low n) ≡ true → is_open z ex (low q) ≡ true
  open_down h =
      let k : IsOpen z ex (low n) = open_parts z ex (low n) h in
      left_open ex (kept z ex (low q)) (kept_cut_above z ex (low q)) k.optout (gone_down k.gone) (uncut_down k.gone k.uncut)

  -- nor is it an alias, where the name above it is none
  pub unaliased_down : (t : ℕ) → IsOrderly z → is_open z ex (low n) ≡ true → is_aliased z ex n 43 ≡ false → is_aliased z ex q t ≡ false
  unaliased_down t s h plain =
      let k : IsOpen z ex (low n) = open_parts z ex (low n) h in
      unaliased z ex q t (unredirected z (low q) (λ d r.
      let there : kept z ex d ≡ true = owner_kept z ex d (has_owner z d 39 r.redirects) (live_kept z ex d r.live (inl (s.uncut d r.redirects))) in
      elim (above_either (low n) d (low q) a (strictly_at d (low q) r.above)) [
        | inl up ↦ false≢true (sym k.gone ∙ kept_up z ex (low n) d there up inside)
        | inr down ↦ elim (above_cases d (low n) down) [
          | inl m ↦ false≢true (sym k.gone ∙ kept_up z ex (low n) d there (same_above (low n) d (names_same (low n) d (sym (same_names d (low n) m)))) inside)
          | inr m ↦ no_redirector z (low n) d (low-low n) (unaliased_parts z ex n 43 plain).unredirected (record { redirects = r.redirects; live = r.live; above = m })
        ]
      ])) (λ closed_is. absurd (false≢true (sym closed_is ∙ open_down h)))
