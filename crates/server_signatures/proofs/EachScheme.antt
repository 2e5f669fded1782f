-- What a publisher gives by a table holds under each scheme that signs as its entries say.
use Rattle.std.proofs.Common.{◌≡◌, ◌∙◌, ℕ, ◌<◌, Bool, false, List, [], ◌∷◌, Some, None, Vec, ap, length, refl, sym}
use Rattle.std.specs.declared.alloc.Global.{Global}
use Rattle.std.specs.Prelude.{◌≢◌, ◌↔◌, Ok, IsErrOf, IsSome}
use Rattle.std.proofs.lemmas.Bool.{false≢true}
use Rattle.definitions.specs.Dnskey.{Dnskey}
use Rattle.definitions.specs.Limits.{pointer_limit}
use Rattle.messages.specs.Message.{Asked}
use Rattle.answer_terms.specs.Served.{ServedRrset, answer_groups, by_tag, key_group, keys_ttl}
use Rattle.answer_publisher_keys.specs.Bindings.{ZoneKeys, dnskeys, keys_by_tag, published}
use Rattle.answer_publisher_keys.specs.declared.keys.Publication.TheVariants as publication
use Rattle.answer_terms.specs.Given.{Gives}
use Rattle.answer_publisher.specs.Answering.{AnswersApex, RefusesApex, apex_question}
use Rattle.answer_publisher.specs.Inputs.{Input, RefusesInputs}
use Rattle.answer_publisher.specs.Parameters.{AnswersParameters, RefusesParameters, SpellsParameters, parameters_in, parameters_inputs}
use Rattle.answer_publisher.proofs.BothThere.{beside_both, beside_some, both_too, none_of_both, some_all, some_too}
use Rattle.answer_publisher.specs.World.{AnswersKeysQuestion, AnswersQuestion, HashesNames, RefusesKeysQuestion, RefusesQuestion, SpellsAnswer, SpellsKeys, World, present_keys, served_in, signing_in}
use Rattle.answer_publisher.specs.declared.fault.AnswerFault.{AnswerFault}
use Rattle.answer_publisher.specs.declared.fault.AnswerFault.TheVariants as fault
use Rattle.answer_scheme.specs.Moments.{second_of}
use Rattle.server_signatures.specs.Outcomes.{AnswersEach, AnswersKeysEach, AnswersParametersEach, IsSigned, RefusesEach, RefusesKeysEach, RefusesParametersEach, SignsParameters, is_sign_failed, signed_by}
use Rattle.server_signatures.specs.Table.{Made, missing, sign_by, verify_by}
use Rattle.server_signatures.specs.declared.answering.Signed.{Signed}
use Rattle.server_signatures.specs.declared.answering.Signed.TheVariants as signed
use Rattle.server_signatures.proofs.Signing.{apex_refusal_too, apex_too, gives_too, refusal_too, zone_too}

-- a fault that is another one
pub is_other : (f : AnswerFault) → is_sign_failed f ≡ false → f ≢ fault.SignFailed
is_other f other e = false≢true (sym other ∙ ap is_sign_failed e)

-- what is given is not refused, whatever it is
pub given_too : {A B : Type 0} (x : A) (y : B) (f : AnswerFault) (answered : Bool) → (IsErrOf {T = A} (Ok x) f ↔ (answered ≡ false)) → IsErrOf {T = B} (Ok y) f ↔ (answered ≡ false)
given_too x y f answered iff = ((λ e. cc), (λ none. let e = iff.1 none in cc))

module _ (table : List Made) (w : World) (keys : ZoneKeys) (at : ℕ) where
  pub each_answer : (asked : Asked) (m : List ℕ) → AnswersQuestion (signed_by w (sign_by table) (verify_by table)) keys at asked m → SpellsAnswer (signed_by w (sign_by table) (verify_by table)) keys at asked m
      → HashesNames w asked → AnswersEach table w keys at asked m
  each_answer asked m is spells hashes = (
    (λ sign verifies entries. (
      zone_too table sign verifies entries (served_in w) w.zone.apex (second_of at) w.life (keys_by_tag keys (signing_in w asked)) asked m is,
      gives_too table sign verifies entries pointer_limit w.zone.apex (second_of at) w.life (by_tag (dnskeys (published keys (signing_in w asked)))) asked (answer_groups (served_in w) asked.name asked.rtype) m spells,
    )),
    hashes,
  )

  pub each_keys : (m : List ℕ) → AnswersKeysQuestion (signed_by w (sign_by table) (verify_by table)) keys at m → SpellsKeys (signed_by w (sign_by table) (verify_by table)) keys at m → AnswersKeysEach table w keys at m
  each_keys m is spells sign verifies entries = (
    apex_too table sign verifies entries w.zone.apex (second_of at) w.life (keys_by_tag keys publication.SignsKeys) (key_group w.zone.apex (keys_ttl (served_in w)) (present_keys keys)) m is,
    gives_too table sign verifies entries pointer_limit w.zone.apex (second_of at) w.life (by_tag (dnskeys (published keys publication.SignsKeys))) _ _ m spells,
  )

  pub each_refusal : (asked : Asked) (f : AnswerFault) → f ≢ fault.SignFailed → RefusesQuestion (signed_by w (sign_by table) (verify_by table)) keys at asked f → RefusesEach table w keys at asked f
  each_refusal asked f other h = (
    other,
    (λ sign verifies entries. refusal_too table sign verifies entries w.answers.hash (served_in w) w.zone.apex (second_of at) w.life (keys_by_tag keys (signing_in w asked)) asked f other h),
  )

  pub each_keys_refusal : (f : AnswerFault) → f ≢ fault.SignFailed → RefusesKeysQuestion (signed_by w (sign_by table) (verify_by table)) keys at f → RefusesKeysEach table w keys at f
  each_keys_refusal f other h = (
    other,
    (λ sign verifies entries. apex_refusal_too table sign verifies entries w.zone.apex (second_of at) w.life (keys_by_tag keys publication.SignsKeys) (key_group w.zone.apex (keys_ttl (served_in w)) (present_keys keys)) f other h),
  )

  -- what keeps the octets from being told keeps an answer from being given
  pub inputs_refused : (asked : Asked) (f : AnswerFault) → RefusesInputs w asked f → RefusesEach table w keys at asked f
  inputs_refused asked fault.QuestionNotAllowed h = (is_other fault.QuestionNotAllowed refl, λ sign verifies entries. h)
  inputs_refused asked fault.HashFailed h = (is_other fault.HashFailed refl, λ sign verifies entries. h)
  inputs_refused asked fault.SignFailed h = absurd h
  inputs_refused asked fault.TooLong h = absurd h
  inputs_refused asked fault.Memory h = (is_other fault.Memory refl, λ sign verifies entries. tt)

  pub keys_memory : RefusesKeysEach table w keys at fault.Memory
  keys_memory = (is_other fault.Memory refl, λ sign verifies entries. tt)

  -- ---- of the NSEC3PARAM answer

  abbrev table_world : World
  table_world = signed_by w (sign_by table) (verify_by table)

  abbrev signers : List Dnskey
  signers = keys_by_tag keys publication.SignsZone

  each_parameters : (m : List ℕ) → AnswersParameters table_world keys at (Some m) → SpellsParameters table_world keys at (Some m) → AnswersParametersEach table w keys at m
  each_parameters m is spells sign verifies entries = (
    both_too (AnswersApex (sign_by table) (verify_by table) w.zone.apex (second_of at) w.life signers) (AnswersApex sign verifies w.zone.apex (second_of at) w.life signers)
        (λ of b. apex_too table sign verifies entries w.zone.apex (second_of at) w.life signers of b) (parameters_in w) (Some m) is,
    both_too (λ (of : ServedRrset) b. Gives (verify_by table) pointer_limit w.zone.apex (second_of at) w.life signers (apex_question w.zone.apex of.rtype) (of ∷ []) b)
        (λ of b. Gives verifies pointer_limit w.zone.apex (second_of at) w.life signers (apex_question w.zone.apex of.rtype) (of ∷ []) b)
        (λ of b. gives_too table sign verifies entries pointer_limit w.zone.apex (second_of at) w.life signers (apex_question w.zone.apex of.rtype) (of ∷ []) b) (parameters_in w) (Some m) spells,
  )

  abbrev Signing : ServedRrset → Signed → Type 0
  Signing g x = IsSigned table (AnswersParametersEach table w keys at) (parameters_inputs w keys at) x

  pub parameters_signed : (m : Vec ℕ Global) → AnswersParameters table_world keys at (Some m.items) → SpellsParameters table_world keys at (Some m.items) → SignsParameters table w keys at (Some (signed.Message m))
  parameters_signed m is spells =
      beside_both (AnswersApex (sign_by table) (verify_by table) w.zone.apex (second_of at) w.life signers) Signing (parameters_in w) m.items (signed.Message m) is (λ of. each_parameters m.items is spells)

  pub no_parameters : AnswersParameters table_world keys at None → SignsParameters table w keys at None
  no_parameters is = none_of_both (AnswersApex (sign_by table) (verify_by table) w.zone.apex (second_of at) w.life signers) Signing (parameters_in w) is

  pub parameters_missing : (v : Vec Input Global) → IsSome (parameters_in w) → v.items ≡ missing table (parameters_inputs w keys at) → 0 < length v.items → SignsParameters table w keys at (Some (signed.Missing v))
  parameters_missing v there is some = beside_some Signing (parameters_in w) (signed.Missing v) there (λ of. (is, some))

  pub each_parameters_refusal : (f : AnswerFault) → f ≢ fault.SignFailed → RefusesParameters table_world keys at f → RefusesParametersEach table w keys at f
  each_parameters_refusal f other h = (
    other,
    (λ sign verifies entries.
        some_too (λ of. RefusesApex (sign_by table) (verify_by table) w.zone.apex (second_of at) w.life signers of f) (λ of. RefusesApex sign verifies w.zone.apex (second_of at) w.life signers of f)
        (λ of r. apex_refusal_too table sign verifies entries w.zone.apex (second_of at) w.life signers of f other r) (parameters_in w) h),
  )

  pub parameters_memory : IsSome (parameters_in w) → RefusesParametersEach table w keys at fault.Memory
  parameters_memory there = (is_other fault.Memory refl, λ sign verifies entries. some_all (λ of. RefusesApex sign verifies w.zone.apex (second_of at) w.life signers of fault.Memory) (parameters_in w) there (λ of. tt))
