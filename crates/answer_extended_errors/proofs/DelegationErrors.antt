-- Why no key is trusted, by what is found out of DS records, keys and their signatures.
use Rattle.std.proofs.Common.{◌≡◌, ℕ, Bool, true, false, not, ◌&&◌, ◌||◌, ◌==◌, List, [], ◌∷◌, filter, length, refl, sym, ap, ◌∙◌}
use Rattle.std.specs.Prelude.{Option, Some, None, unwrap_or, if◌then◌else◌}
use Rattle.std.specs.List.{list_any}
use Rattle.definitions.specs.Dnskey.{Dnskey, Ds}
use Rattle.definitions.specs.Limits.{pointer_limit}
use Rattle.definitions.specs.Name.{Name, same}
use Rattle.definitions.specs.Signing.{Fields}
use Rattle.messages.specs.Message.{Spelled}
use Rattle.answer_scheme.specs.Answers.{Answers}
use Rattle.answer_judge_keys.specs.DnskeyAnswer.{keys_in}
use Rattle.answer_judge_keys.specs.Trusted.{is_trusted}
use Rattle.answer_judge_facts.specs.Sought.{keys_sought}
use Rattle.answer_judge_facts.specs.declared.groups.SignedRrset.{SignedRrset}
use Rattle.answer_judge_facts.proofs.JudgeMarks.{or_no}
use Rattle.answer_extended_errors.specs.Extended.{RrsetTest, is_made, signatures_of, untimely, untrusted_keys}
use Rattle.answer_extended_errors.specs.Groups.{is_among}
use Rattle.answer_extended_errors.specs.declared.error.ExtendedError.{ExtendedError}
use Rattle.answer_extended_errors.specs.declared.error.ExtendedError.TheVariants as e

-- digests are made, no key is named, signatures cannot be used
abbrev pub untrusted_by : Bool → Bool → Option ExtendedError → ExtendedError
untrusted_by made lacking late =
    if not made then e.UnsupportedDsDigestType
    else if lacking then e.DnskeyMissing
    else elim late [ Some error ↦ error | None ↦ e.DnssecBogus ]

-- what is said where none was found before
pub late_or_bogus : (late : Option ExtendedError) → unwrap_or late e.DnssecBogus ≡ untrusted_by true false late
late_or_bogus None = refl
late_or_bogus (Some error) = refl

module _ (a : Answers) (apex : Name) (ds : List Ds) (m : List ℕ) (rs : List Spelled) (now : ℕ) where
  abbrev keys : List Dnskey
  keys = keys_in m apex rs

  abbrev late : RrsetTest → Option ExtendedError
  late is = untimely now (signatures_of pointer_limit m apex is rs)

  pub none_made : list_any (is_made a) ds ≡ false → e.UnsupportedDsDigestType ≡ untrusted_keys a pointer_limit apex ds m rs now
  none_made made = sym (ap (λ b. untrusted_by b (length (filter (is_trusted a apex ds) keys) == 0) (late (keys_sought apex keys).is)) made)

  pub none_named : list_any (is_made a) ds ≡ true → (length (filter (is_trusted a apex ds) keys) == 0) ≡ true → e.DnskeyMissing ≡ untrusted_keys a pointer_limit apex ds m rs now
  none_named made lacking = sym (λ i. untrusted_by (made i) (lacking i) (late (keys_sought apex keys).is))

  -- the RRset of the keys
  module _ (g : SignedRrset) (owner : g.owner ≡ apex) (rtype : g.rtype ≡ 48) where
    among : is_among (g ∷ []) ≡ (keys_sought apex keys).is
    among = λ i o t. ((λ j. ((rtype j == t) && same o (owner j)) || false) ∙ or_no ((48 == t) && same o apex)) i

    pub signed_late : (fs : List Fields) → list_any (is_made a) ds ≡ true → (length (filter (is_trusted a apex ds) keys) == 0) ≡ false → fs ≡ signatures_of pointer_limit m apex (is_among (g ∷ [])) rs
        → untrusted_by true false (untimely now fs) ≡ untrusted_keys a pointer_limit apex ds m rs now
    signed_late fs made lacking are =
        ap (λ ss. untrusted_by true false (untimely now ss)) are
        ∙ (λ i. untrusted_by (sym made i) (sym lacking i) (late (among i)))
