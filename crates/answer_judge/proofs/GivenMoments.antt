-- The signatures of bytes that tell a zone's answer are of one moment.
use Rattle.std.proofs.Common.{◌≡◌, ℕ, ◌+◌, false, ◌&&◌, List, sym, ap, ◌∙◌}
use Rattle.std.specs.Prelude.{◌%◌, ◌==◌}
use Rattle.std.specs.List.{AllByRecursion}
use Rattle.std.specs.Option.{option_map}
use Rattle.std.proofs.lemmas.Bool.{eq-eqb, false≢true}
use Rattle.definitions.specs.Dnskey.{Dnskey}
use Rattle.definitions.specs.Name.{Name}
use Rattle.definitions.specs.Signing.{Fields}
use Rattle.definitions.specs.ZoneChain.{Mode}
use Rattle.messages.specs.HandedRr.{HandedRr}
use Rattle.messages.specs.Message.{Asked, Spelled}
use Rattle.messages.proofs.Lists.{Has, all_more, some_is}
use Rattle.answer_terms.specs.Accepting.{sorted_records, zone_of}
use Rattle.answer_terms.specs.Hashing.{hash_in}
use Rattle.answer_terms.specs.Served.{ServedRrset, answer_groups, served_of}
use Rattle.answer_terms.specs.Told.{TellsGroups, fields_for}
use Rattle.answer_judge.specs.OwnFacts.{TellsZone}
use Rattle.answer_judge_facts.specs.Sought.{answer_sought}
use Rattle.answer_judge_facts.specs.Times.{Times, are_unlike, proof_times, times_at, times_of}
use Rattle.answer_judge_facts.specs.Verified.{Trusting, rrset_in, verified_by}
use Rattle.answer_judge_facts.proofs.JudgeTimes.{alike_all}
use Rattle.answer_judge_facts.proofs.KeptItems.{kept_from, mapped, when}
use Rattle.answer_judge.proofs.GivenFacts.{fitting, groups_ordinary, told_by}
use Rattle.answer_judge.proofs.GivenRrset.{is_ordinary}
use Rattle.answer_judge.proofs.HonestVerified.{first_verifying}
use Rattle.answer_judge.proofs.Spliced.{signature_of}

-- the times of a moment and a life
abbrev moment_of : ℕ → ℕ → Times
moment_of at life = record { inception = at % 4294967296; expiration = (at + life) % 4294967296 }

no_signatures : (g : ServedRrset) → is_ordinary g → g.rtype ≡ 46 → ⊥
no_signatures g n e = false≢true (sym n ∙ eq-eqb g.rtype 46 e)

module _ (w : Trusting) (k : ℕ) (m : List ℕ) (rs : List Spelled) (apex : Name) (at life : ℕ) (keys : List Dnskey) (gs : List ServedRrset) (ordinary : AllByRecursion is_ordinary gs) (tells : TellsGroups w.answers.verifies k m rs apex at life keys gs) (q : Name) (t : ℕ) where
  of_moment : (x : Times) → Has (proof_times w k m rs q t) x → x ≡ moment_of at life
  of_moment x h =
      let r = kept_from (times_at w k m rs q t) rs x h in
      let o : Name = r.0.owner in
      let u : ℕ = r.0.rtype in
      let there = when ((r.0.class == 1) && (answer_sought k m w.apex rs q t).is o u) (option_map times_of (verified_by w k m rs o u (rrset_in k m rs o u))) x r.2 in
      let f = mapped times_of (verified_by w k m rs o u (rrset_in k m rs o u)) x there.1 in
      let first = first_verifying w k m rs o u (rrset_in k m rs o u) f.0 f.1 in
      let by = first.0.by in
      let s = signature_of w.answers.verifies k m rs apex at life keys gs first.0.spelled (all_more is_ordinary (λ (g : ServedRrset). g.rtype ≡ 46 → ⊥) gs no_signatures ordinary) tells first.0.there by.type_is in
      let one = some_is (by.fields, by.signature) (fields_for apex at life s.group s.key, s.is.signature) (sym by.reads ∙ s.is.fields_are) in
      sym f.2 ∙ ap times_of (sym first.1) ∙ ap (λ (y : Fields × List ℕ). times_of y.0) one

  pub told_alike : are_unlike (proof_times w k m rs q t) ≡ false
  told_alike = alike_all (moment_of at life) (proof_times w k m rs q t) of_moment

pub zone_alike : (w : Trusting) (k : ℕ) (mode : Mode) (rs : List HandedRr) (asked : Asked) (bytes : List ℕ) → (t : TellsZone w k mode rs asked bytes) → are_unlike (proof_times w k bytes t.told.read.records asked.name asked.rtype) ≡ false
zone_alike w k mode rs asked bytes t =
    let hash : Name → List ℕ = hash_in w.answers.hash mode in
    let told = told_by w k mode rs asked bytes t in
    let fits = fitting w.answers.hash (zone_of w.apex rs) mode t.limit t.short_limit t.accepted.faultless.within_limit t.accepted.chain in
    told_alike w k bytes t.told.read.records w.apex t.at t.life t.keys (answer_groups (served_of w.apex mode hash (sorted_records rs)) asked.name asked.rtype)
    (groups_ordinary w k bytes t.told.read.records w.apex mode hash (sorted_records rs) asked.name asked.rtype told fits) t.told.groups_are asked.name asked.rtype
