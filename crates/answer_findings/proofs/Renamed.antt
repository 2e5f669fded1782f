-- Where CNAME and DNAME records lead that a zone answers.
use Rattle.std.proofs.Common.{◌≡◌, ℕ, Bool, true, false, not, ◌&&◌, ◌||◌, [], ◌∷◌, Option, Some, None, sym, ap, ◌∙◌, refl, inl, inr, ◌++◌, length, take}
use Rattle.std.specs.Prelude.{◌==◌, ◌-◌, nat_le, if◌then◌else◌}
use Rattle.std.proofs.lemmas.Bool.{and_from, not_from_false}
use Rattle.definitions.specs.Name.{Name, low, wire, wire_len}
use Rattle.definitions.specs.Zone.{Zone, Verdict, Records, StarRecords, Open, has, is_live, is_open, cut, exists, ce, star_under, verdict}
use Rattle.definitions.proofs.ZoneNames.{low-low, same-length}
use Rattle.denial_laws.specs.Aliases.{has_alias, has_own_alias, is_redirected}
use Rattle.denial_laws.specs.Leading.{To, TooLong, exchanged, source_of}
use Rattle.denial_laws.specs.Saying.{IsAnswered, IsVerdict, HasStar}
use Rattle.denial_laws.proofs.NameFacts.{names_same, strictly-low, strictly_at}
use Rattle.denial_laws.proofs.OneVerdict.{each_question_has_one_verdict}
use Rattle.denial_laws.proofs.Unaliased.{unaliased_parts}
use Rattle.denial_laws.proofs.ZoneCuts.{cut_is, cut_live, uncut, uncut_live, kept_inside}
use Rattle.answer_findings.specs.Laws.{OpenWhateverAsked, OwnCnamesRename, StarCnamesRename, DnamesRedirect, HasRecords, RecordsAreThere}

-- what a verdict rests on
pub told : (z : Zone) (optout : Bool) (name : Name) (t : ℕ) (v : Verdict) → verdict z optout name t ≡ v → IsVerdict z optout name t v
told z optout name t v e = (each_question_has_one_verdict z optout name t v).1 (sym e)

-- ---- CNAME

-- CNAME is no DS, so what answers for it is below no delegation
pub answered_there : (z : Zone) (q : Name) (t : ℕ) → (t ≡ 43 → ⊥) → IsAnswered z q t → (cut z q ≡ None) × (exists z q ≡ true)
answered_there z q t n a = elim a [ inl b ↦ b | inr b ↦ absurd (n b.1) ]

own_source : (z : Zone) (q : Name) → cut z q ≡ None → exists z q ≡ true → source_of z q ≡ Some q
own_source z q c x = λ i. elim (c i) as (λ _. Option Name) [
  | Some d ↦ None
  | None ↦ elim (x i) [
    | true ↦ Some q
    | false ↦ elim (ce z q) [ None ↦ None | Some e ↦ Some (star_under e) ]
  ]
]

star_source : (z : Zone) (q e : Name) → cut z q ≡ None → exists z q ≡ false → ce z q ≡ Some e → source_of z q ≡ Some (star_under e)
star_source z q e c x k = λ i. elim (c i) as (λ _. Option Name) [
  | Some d ↦ None
  | None ↦ elim (x i) [
    | true ↦ Some q
    | false ↦ elim (k i) [ None ↦ None | Some e ↦ Some (star_under e) ]
  ]
]

answers_as_alias : (z : Zone) (o : Name) (t : ℕ) → has z o 5 ≡ true → (t == 5) ≡ false → has_alias z o t ≡ true
answers_as_alias z o t h n = and_from (has z o 5) (not (t == 5)) h (not_from_false (t == 5) n)

pub own_cnames_rename : OwnCnamesRename
own_cnames_rename z optout name target t v plain other =
    let q : Name = low name in
    let p = told z optout name 5 (Records (wire target ∷ [])) v in
    let a = answered_there z q 5 (λ e. absurd cc) p.1.0 in
    record {
      direct = (unaliased_parts z optout name 5 plain).unredirected;
      closed = p.0;
      owner = q;
      target = target;
      source = own_source z q a.0 a.1;
      answers = answers_as_alias z q t p.1.1 other;
      datas = sym p.1.2;
      is = refl;
    }

pub star_cnames_rename : StarCnamesRename
star_cnames_rename z optout name target t v plain other =
    let q : Name = low name in
    let p = told z optout name 5 (StarRecords (wire target ∷ [])) v in
    let star : Name = p.1.0 in
    let s : HasStar z q star = p.1.1 in
    record {
      direct = (unaliased_parts z optout name 5 plain).unredirected;
      closed = p.0;
      owner = star;
      target = target;
      source = star_source z q s.encloser s.missing.uncut s.missing.gone s.closest ∙ ap (λ n. Some n) (sym s.named);
      answers = answers_as_alias z star t p.1.2 other;
      datas = sym p.1.3;
      is = refl;
    }

-- ---- opt-out

pub open_whatever_asked : OpenWhateverAsked
open_whatever_asked z optout name t u v plain =
    let q : Name = low name in
    let left : is_open z optout q ≡ true = told z optout name t Open v in
    let direct : is_redirected z q ≡ false = (unaliased_parts z optout name t plain).unredirected in (
      sym ((each_question_has_one_verdict z optout name u Open).0 left),
      ap (λ b. b || (not (is_open z optout q) && has_own_alias z q u)) direct ∙ ap (λ b. not b && has_own_alias z q u) left,
    )

-- ---- records

-- a name that the zone answers for is live
pub answered_live : (z : Zone) (q : Name) (t : ℕ) → low q ≡ q → IsAnswered z q t → is_live z q ≡ true
answered_live z q t lq a = elim a [
  | inl b ↦ uncut_live z q lq (kept_inside z false q b.1) (λ d h up. uncut z q lq b.0 d h (strictly_at d q up))
  | inr b ↦ cut_live z q q (cut_is z q q lq b.0)
]

pub records_are_there : RecordsAreThere
records_are_there z optout name t datas v =
    let p = told z optout name t (Records datas) v in
    record { live = answered_live z (low name) t (low-low name) p.1.0; there = p.1.1; datas_are = p.1.2 }

-- ---- DNAME

exchanged_low : (name owner target : Name) → exchanged name owner target ≡ exchanged name (low owner) target
exchanged_low name owner target = ap (λ k. let n = take (length name - k) name ++ target in if nat_le (wire_len n) 255 then To n else TooLong) (sym (same-length (low owner) owner (names_same (low owner) owner (low-low owner))))

pub dnames_redirect : DnamesRedirect
dnames_redirect z optout owner target name v above =
    let r : HasRecords z owner 39 (wire target ∷ []) = records_are_there z optout owner 39 (wire target ∷ []) v in
    record {
      owner = low owner;
      target = target;
      stands = r.there;
      live = r.live;
      above = strictly-low owner name ∙ above;
      datas = sym r.datas_are;
      is = exchanged_low name owner target;
    }
