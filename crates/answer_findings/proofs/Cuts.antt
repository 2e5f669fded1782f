-- What verdicts on NS and DS say of a delegation.
use Rattle.std.proofs.Common.{◌≡◌, Bool, true, Some, None, sym, ◌∙◌, inl, inr}
use Rattle.definitions.specs.Name.{Name, low}
use Rattle.definitions.specs.Zone.{Zone, Records, NoType, Delegated, is_delegation, cut, verdict}
use Rattle.definitions.proofs.ZoneNames.{low-low, above_itself}
use Rattle.denial_laws.specs.Saying.{IsAnswered, IsDelegated}
use Rattle.denial_laws.proofs.NameFacts.{above-low}
use Rattle.denial_laws.proofs.OneVerdict.{each_question_has_one_verdict}
use Rattle.denial_laws.proofs.ZoneCuts.{IsCut, cut_from, cut_is, cut_live, uncut}
use Rattle.answer_findings.specs.Laws.{AnswersDs, DsVerdictsTellDelegations, OwnDsVerdictsCut}
use Rattle.answer_findings.proofs.Renamed.{told}

ds_answered : (z : Zone) (optout : Bool) (c : Name) → AnswersDs z optout c → IsAnswered z (low c) 43
ds_answered z optout c a = elim a [
  | inl v ↦ (told z optout c 43 NoType v).1.0
  | inr r ↦ (told z optout c 43 (Records r.0) r.1).1.0
]

-- a name that the zone delegates and whose DS it answers for is its own cut
own_cut : (z : Zone) (optout : Bool) (c : Name) → verdict z optout c 2 ≡ Delegated → AnswersDs z optout c → cut z (low c) ≡ Some (low c)
own_cut z optout c v a =
    let d : IsDelegated z (low c) 2 = (told z optout c 2 Delegated v).1 in
    elim (ds_answered z optout c a) [
      | inl b ↦ absurd (let e : None ≡ Some d.delegation = sym b.0 ∙ d.cut in cc)
      | inr b ↦ b.0
    ]

pub own_ds_verdicts_cut : OwnDsVerdictsCut
own_ds_verdicts_cut z optout c name v a above =
    let k : IsCut z (low c) (low c) = cut_is z (low c) (low c) (low-low c) (own_cut z optout c v a) in
    cut_from z (low name) (low c) (low-low name) k.delegation (cut_live z (low c) (low c) k) (above-low c name ∙ above)

pub ds_verdicts_tell_delegations : DsVerdictsTellDelegations
ds_verdicts_tell_delegations z optout name v =
    let q : Name = low name in
    let p = told z optout name 43 NoType v in
    let own : is_delegation z q ≡ true → cut z q ≡ Some q = λ d. elim p.1.0 [
      | inl b ↦ absurd (uncut z q (low-low name) b.0 q d (above_itself q))
      | inr b ↦ b.0
    ] in
    record {
      delegates = (
        λ e. (cut_is z q q (low-low name) (own_cut z optout name e (inl v))).delegation,
        λ d. sym ((each_question_has_one_verdict z optout name 2 Delegated).0 (p.0, record { delegation = q; cut = own d; other = λ e. absurd cc })),
      );
      topmost = own;
    }
