-- Where a table fails to sign, it lacks a signature of the answer.
use Rattle.std.proofs.Common.{◌≡◌, ◌∙◌, ℕ, zero, suc, ◌<◌, Bool, true, false, cond, List, [], ◌∷◌, ◌++◌, ap, arith, get_or, is_none, length, length-append, refl, subst, sym}
use Rattle.std.specs.Prelude.{IsSome, IsSomeAnd, Option, Some, None, if◌then◌else◌}
use Rattle.std.specs.Option.{option_map_or}
use Rattle.std.proofs.lemmas.Bool.{false≢true}
use Rattle.std.proofs.lemmas.List.Elements.{filter-append}
use Rattle.definitions.specs.Name.{Name}
use Rattle.definitions.specs.Dnskey.{Dnskey}
use Rattle.messages.specs.Message.{Asked}
use Rattle.answer_scheme.specs.Moments.{second_of}
use Rattle.answer_terms.specs.GroupView.{FailsFor, GroupView, octets_of, view_of}
use Rattle.answer_terms.specs.Served.{ServedRrset, answer_groups, key_group, keys_ttl}
use Rattle.answer_publisher_keys.specs.Bindings.{ZoneKeys, keys_by_tag}
use Rattle.answer_publisher_keys.specs.declared.keys.Publication.TheVariants as publication
use Rattle.answer_publisher.specs.Answering.{RefusesApex}
use Rattle.answer_publisher.specs.Composed.{FailsToSign}
use Rattle.answer_publisher.specs.Inputs.{Input, all_inputs, answer_inputs, input, inputs_by, inputs_of, keys_inputs}
use Rattle.answer_publisher.specs.Parameters.{RefusesParameters, parameters_in}
use Rattle.answer_publisher.specs.World.{RefusesKeysQuestion, RefusesQuestion, World, present_keys, served_in, signing_in}
use Rattle.answer_publisher.specs.declared.fault.AnswerFault.{AnswerFault}
use Rattle.answer_publisher.specs.declared.fault.AnswerFault.TheVariants as fault
use Rattle.answer_publisher.proofs.WritesAnswer.{all_presented, presented}
use Rattle.server_signatures.specs.Outcomes.{LacksParameters, is_sign_failed, signed_by}
use Rattle.server_signatures.specs.Table.{Made, is_missing, missing, sign_by, verify_by}

-- a fault that is this one
pub is_failed : (f : AnswerFault) → is_sign_failed f ≡ true → f ≡ fault.SignFailed
is_failed fault.QuestionNotAllowed e = absurd (false≢true e)
is_failed fault.HashFailed e = absurd (false≢true e)
is_failed fault.SignFailed e = refl
is_failed fault.TooLong e = absurd (false≢true e)
is_failed fault.Memory e = absurd (false≢true e)

module _ (table : List Made) where
  -- ---- inputs of which some are missing

  missing_first : (i : Input) (is : List Input) → is_missing table i ≡ true → 0 < length (missing table (i ∷ is))
  missing_first i is e = subst (λ (b : Bool). 0 < length (cond b (i ∷ missing table is) (missing table is))) (sym e) (omega arith)

  missing_later : (i : Input) (is : List Input) → 0 < length (missing table is) → 0 < length (missing table (i ∷ is))
  missing_later i is h = go (is_missing table i)
    where
      go : (b : Bool) → 0 < length (cond b (i ∷ missing table is) (missing table is))
      go true = omega arith
      go false = h

  missing_front : (is js : List Input) → 0 < length (missing table is) → 0 < length (missing table (is ++ js))
  missing_front is js h = omega (arith, h, ap length (filter-append (is_missing table) is js), length-append (missing table is) (missing table js))

  missing_behind : (is js : List Input) → 0 < length (missing table js) → 0 < length (missing table (is ++ js))
  missing_behind is js h = omega (arith, h, ap length (filter-append (is_missing table) is js), length-append (missing table is) (missing table js))

  -- ---- those of RRsets

  module _ (apex : Name) (at life : ℕ) where
    by_keys : (g : GroupView) (keys : List Dnskey) (i : ℕ) (k : Dnskey) → i < length keys → get_or keys i k ≡ k → is_missing table (input k (octets_of apex at life g k)) ≡ true
        → 0 < length (missing table (inputs_by apex at life g keys))
    by_keys g [] i k inside is none = absurd (omega arith)
    by_keys g (x ∷ keys) zero k inside is none =
        missing_first (input x (octets_of apex at life g x)) (inputs_by apex at life g keys) (ap (λ (y : Dnskey). is_missing table (input y (octets_of apex at life g y))) is ∙ none)
    by_keys g (x ∷ keys) (suc i) k inside is none =
        missing_later (input x (octets_of apex at life g x)) (inputs_by apex at life g keys) (by_keys g keys i k (omega arith) is none)

    of_group : (keys : List Dnskey) (g : GroupView) → g.signed ≡ true → FailsFor (sign_by table) apex at life g keys → 0 < length (missing table (inputs_of apex at life keys g))
    of_group keys g signed f =
        subst (λ (b : Bool). 0 < length (missing table (if b then inputs_by apex at life g keys else []))) (sym signed)
        (by_keys g keys f.1.0.0 f.0 f.1.0.1 f.1.0.2 (ap is_none f.1.1))

    of_groups : (keys : List Dnskey) (gs : List GroupView) (i : ℕ) (g : GroupView) → i < length gs → get_or gs i g ≡ g → g.signed ≡ true → FailsFor (sign_by table) apex at life g keys
        → 0 < length (missing table (all_inputs apex at life keys gs))
    of_groups keys [] i g inside is signed f = absurd (omega arith)
    of_groups keys (x ∷ gs) zero g inside is signed f =
        subst (λ (y : GroupView). 0 < length (missing table (inputs_of apex at life keys y ++ all_inputs apex at life keys gs))) (sym is)
        (missing_front (inputs_of apex at life keys g) (all_inputs apex at life keys gs) (of_group keys g signed f))
    of_groups keys (x ∷ gs) (suc i) g inside is signed f =
        missing_behind (inputs_of apex at life keys x) (all_inputs apex at life keys gs) (of_groups keys gs i g (omega arith) is signed f)

    some_missing : (keys : List Dnskey) (gs : List GroupView) → FailsToSign (sign_by table) apex at life keys gs → 0 < length (missing table (all_inputs apex at life keys gs))
    some_missing keys gs f = of_groups keys gs f.1.0 f.0 f.1.1 f.1.2 f.2 f.3

  -- ---- those of answers

  pub answer_wants : (w : World) (keys : ZoneKeys) (at : ℕ) (asked : Asked) (f : AnswerFault) → is_sign_failed f ≡ true → RefusesQuestion (signed_by w (sign_by table) (verify_by table)) keys at asked f
      → 0 < length (missing table (answer_inputs w keys at asked))
  answer_wants w keys at asked f failed refused =
      let signers = keys_by_tag keys (signing_in w asked) in
      let h = subst (λ (g : AnswerFault). RefusesQuestion (signed_by w (sign_by table) (verify_by table)) keys at asked g) (is_failed f failed) refused in
      subst (λ (gs : List GroupView). 0 < length (missing table (all_inputs w.zone.apex (second_of at) w.life signers gs))) (all_presented h.0 (answer_groups (served_in w) asked.name asked.rtype) h.1)
      (some_missing w.zone.apex (second_of at) w.life signers h.0 h.2)

  apex_wants : (apex : Name) (at life : ℕ) (signers : List Dnskey) (of : ServedRrset) (f : AnswerFault) → is_sign_failed f ≡ true → RefusesApex (sign_by table) (verify_by table) apex at life signers of f
      → 0 < length (missing table (all_inputs apex at life signers (view_of of ∷ [])))
  apex_wants apex at life signers of f failed refused =
      let h = subst (λ (g : AnswerFault). RefusesApex (sign_by table) (verify_by table) apex at life signers of g) (is_failed f failed) refused in
      subst (λ (g : GroupView). 0 < length (missing table (all_inputs apex at life signers (g ∷ [])))) (presented h.0 of h.1)
      (some_missing apex at life signers (h.0 ∷ []) h.2)

  pub keys_want : (w : World) (keys : ZoneKeys) (at : ℕ) (f : AnswerFault) → is_sign_failed f ≡ true → RefusesKeysQuestion (signed_by w (sign_by table) (verify_by table)) keys at f
      → 0 < length (missing table (keys_inputs w keys at))
  keys_want w keys at f failed refused =
      apex_wants w.zone.apex (second_of at) w.life (keys_by_tag keys publication.SignsKeys) (key_group w.zone.apex (keys_ttl (served_in w)) (present_keys keys)) f failed refused

  pub parameters_want : (w : World) (keys : ZoneKeys) (at : ℕ) (f : AnswerFault) → is_sign_failed f ≡ true → RefusesParameters (signed_by w (sign_by table) (verify_by table)) keys at f → LacksParameters table w keys at
  parameters_want w keys at f failed refused = lacks (parameters_in w) refused
    where
      lacks : (o : Option ServedRrset) → IsSomeAnd o (λ of. RefusesApex (sign_by table) (verify_by table) w.zone.apex (second_of at) w.life (keys_by_tag keys publication.SignsZone) of f)
          → IsSome o × (0 < length (missing table (option_map_or (λ g. all_inputs w.zone.apex (second_of at) w.life (keys_by_tag keys publication.SignsZone) (view_of g ∷ [])) o [])))
      lacks None h = absurd h
      lacks (Some of) h = (refl, apex_wants w.zone.apex (second_of at) w.life (keys_by_tag keys publication.SignsZone) of f failed h)
