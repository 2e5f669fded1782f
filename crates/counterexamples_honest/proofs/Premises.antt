-- With all premises messages are honest, and no verdict on them is false.
use Rattle.std.proofs.Common.{ℕ, List, sym, inr}
use Rattle.std.specs.Prelude.{Contains}
use Rattle.std.specs.List.{AllByRecursion}
use Rattle.definitions.specs.Dnskey.{Dnskey}
use Rattle.definitions.specs.Limits.{pointer_limit}
use Rattle.definitions.specs.Name.{Name}
use Rattle.messages.specs.Message.{Spelled}
use Rattle.messages.proofs.Lists.{all_at, all_more}
use Rattle.answer_scheme.specs.Answers.{Answers}
use Rattle.answer_judge.specs.Honest.{IsVersion, NothingForged, Signing, SignedOfKeys, SignedOfVersion, WasSigned, sought_of_answer, sought_of_keys}
use Rattle.answer_judge.specs.Versions.{Version}
use Rattle.answer_judge_facts.specs.Sought.{Sought}
use Rattle.answer_judge.specs.Judging.{JudgeInput, Says}
use Rattle.answer_judge.proofs.GivenLists.{has_contained}
use Rattle.answer_judge.proofs.HonestJudged.{answers_honest}
use Rattle.counterexamples_honest.specs.Premises.{AllAreHonest, IsVersionIn, NoneIsFalse, all}

is_version : (a : Answers) (h : JudgeInput) (v : Version) → IsVersionIn all a h v → IsVersion a h v
is_version a h v x = record {
  records_are = x.records_are;
  in_order = record {
    apex = x.in_order.apex;
    typed = x.in_order.typed;
    ordinary = x.in_order.ordinary;
    real = x.in_order.real;
    stars = x.in_order.stars;
    aliases = record { alone = x.in_order.alone; uncut = x.in_order.uncut; childless = x.in_order.childless };
  };
  few = x.few;
  chain = x.chain;
  apart = x.apart;
  truly = x.truly;
}

-- what was signed of published keys was signed of published keys
published_signed : (a : Answers) (apex : Name) (published signed : List Dnskey) (signings : List Signing) → AllByRecursion (Contains published) signed → (octets : List ℕ) → WasSigned a apex signed signings octets → WasSigned a apex published signings octets
published_signed a apex published signed signings are octets (SignedOfVersion s) = SignedOfVersion s
published_signed a apex published signed signings are octets (SignedOfKeys s) = SignedOfKeys (record {
  present = s.present;
  published_are = all_more (Contains signed) (Contains published) s.present (λ key c. all_at (Contains published) signed key are (has_contained signed key c)) s.published_are;
  fields = s.fields;
  over = s.over;
})

unforged_too : (a : Answers) (h : JudgeInput) (published signed : List Dnskey) (signings : List Signing) (sought : List Spelled → Sought) (m : List ℕ) → AllByRecursion (Contains published) signed
    → NothingForged a pointer_limit h published (WasSigned a h.apex signed signings) sought m → NothingForged a pointer_limit h published (WasSigned a h.apex published signings) sought m
unforged_too a h published signed signings sought m are unforged read r f signature key reads used inside usable some passes =
    published_signed a h.apex published signed signings are (Rattle.answer_judge.specs.Honest.over (sought read.records) r f) (unforged read r f signature key reads used inside usable some passes)

pub all_honest : AllAreHonest
all_honest a h versions x = record {
  published = x.published;
  signings = x.signings;
  apex_is = x.apex_is;
  one = x.one;
  versions_are = all_more (IsVersionIn all a h) (IsVersion a h) versions (is_version a h) x.versions_are;
  asked_is = x.asked_is;
  ds_some = x.ds_some;
  flags_are = x.flags_are;
  of_versions = x.of_versions;
  settled = x.settled;
  keys_honest = record { octets_are = x.keys_octets; unforged = unforged_too a h x.published x.signed_keys x.signings (sought_of_keys h) h.dnskey_bytes x.keys_published x.keys_unforged };
  keys_known = x.keys_known;
  answer_honest = record { octets_are = x.answer_octets; unforged = unforged_too a h x.published x.signed_keys x.signings (sought_of_answer pointer_limit h) h.answer_bytes x.keys_published x.answer_unforged };
}

pub none_false : NoneIsFalse
none_false x = x.otherwise (answers_honest x.answers pointer_limit x.judge_input (Says x.said) (inr (sym x.says)) x.versions (all_honest x.answers x.judge_input x.versions x.honest))
