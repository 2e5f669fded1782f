-- Each key of a DNSKEY answer that the zone's DS record trusts is the zone's.
use Rattle.std.proofs.Common.{◌≡◌, true, false, [], ◌∷◌, Ok, refl, sym, subst, ◌∙◌}
use Rattle.std.specs.Prelude.{Contains}
use Rattle.std.specs.List.{AllByRecursion}
use Rattle.std.proofs.lemmas.Bool.{false≢true}
use Rattle.definitions.specs.Dnskey.{Dnskey}
use Rattle.definitions.specs.Limits.{pointer_limit}
use Rattle.messages.specs.Message.{Message, message}
use Rattle.messages.proofs.Lists.{all_at}
use Rattle.answer_judge.specs.Honest.{NoStranger}
use Rattle.answer_judge.proofs.GivenLists.{has_contained}
use Rattle.answer_judge.proofs.Spliced.{ok_is}
use Rattle.answer_judge.specs.Judging.{JudgeInput}
use Rattle.answer_judge_keys.specs.DnskeyAnswer.{keys_in}
use Rattle.answer_judge_keys.specs.Trusted.{is_trusted}
use Rattle.counterexamples_honest.specs.World.{ds, example, own_key, plain}
use Rattle.counterexamples_honest.proofs.Dealt.{at_place}

-- the zone's DS record does not trust a key, or it is the zone's
abbrev pub IsKnown : Dnskey → Type 0
IsKnown key = is_trusted plain example (ds ∷ []) key ≡ true → Contains (own_key ∷ []) key

pub no_stranger : (h : JudgeInput) (read : Message) → h.apex ≡ example → h.ds ≡ ds ∷ [] → message pointer_limit h.dnskey_bytes ≡ Ok read → AllByRecursion IsKnown (keys_in h.dnskey_bytes h.apex read.records) → NoStranger plain pointer_limit h (own_key ∷ [])
no_stranger h read apex set reads known other key is there trusted =
    let same : other ≡ read = ok_is other read (sym is ∙ reads) in
    let here : Contains (keys_in h.dnskey_bytes h.apex read.records) key = subst (λ (x : Message). Contains (keys_in h.dnskey_bytes h.apex x.records) key) same there in
    all_at IsKnown (keys_in h.dnskey_bytes h.apex read.records) key known (has_contained (keys_in h.dnskey_bytes h.apex read.records) key here)
    ((λ i. is_trusted plain (sym apex i) (sym set i) key) ∙ trusted)

pub own_known : IsKnown own_key
own_known trusted = at_place (own_key ∷ []) own_key 0 refl refl

-- a key that it does not trust
pub foreign_known : (k : Dnskey) → is_trusted plain example (ds ∷ []) k ≡ false → IsKnown k
foreign_known k unlike trusted = absurd (false≢true (sym unlike ∙ trusted))
