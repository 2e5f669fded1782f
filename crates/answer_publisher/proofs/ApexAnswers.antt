-- Answers of one RRset of the apex.
use Rattle.std.proofs.Common.{ℕ, Bool, List, [], ◌∷◌, Option, Some, subst}
use Rattle.std.specs.Prelude.{IsSomeAnd}
use Rattle.definitions.specs.Limits.{pointer_limit}
use Rattle.definitions.specs.Name.{Name, low}
use Rattle.definitions.specs.Dnskey.{Dnskey}
use Rattle.definitions.specs.ZoneChain.{Mode, Nsec, Nsec3}
use Rattle.messages.specs.Handed.{AreHanded}
use Rattle.messages.specs.HandedRr.{HandedRr}
use Rattle.answer_terms.specs.Given.{Gives}
use Rattle.answer_terms.specs.GroupView.{GroupView, Presents}
use Rattle.answer_terms.specs.Served.{ServedRrset, by_tag, ttl_among}
use Rattle.answer_publisher.specs.Answering.{AnswersApex, RefusesApex, ahead_of_records, apex_question}
use Rattle.answer_publisher.specs.Composed.{IsAnswer, RefusesGroups}
use Rattle.answer_publisher.specs.Parameters.{OfBoth, parameters_group, parameters_of_chain}
use Rattle.answer_publisher.specs.declared.fault.AnswerFault.{AnswerFault}
use Rattle.answer_publisher.proofs.Refusals.{apex_refused}
use Rattle.answer_publisher.proofs.WritesGiven.{apex_given}
use Rattle.answer_publisher.proofs.WritesZone.{parameters_formed}

-- the message of an RRset, as it is seen
pub apex_answered : (sign : Dnskey → List ℕ → Option (List ℕ)) (verifies : Dnskey → List ℕ → List ℕ → Bool) (apex : Name) (at life : ℕ) (keys : List Dnskey) (of : ServedRrset) (g : GroupView) (m : List ℕ)
    → Presents g of → IsAnswer sign verifies apex at life keys 33792 (apex_question apex g.rtype) (g ∷ []) [] m → AnswersApex sign verifies apex at life keys of m
apex_answered sign verifies apex at life keys of g m presents w = record {
  group = g;
  presents = presents;
  written = subst (λ t. IsAnswer sign verifies apex at life keys 33792 (apex_question apex t) (g ∷ []) [] m) presents.rtype_is w;
}

-- ---- of the NSEC3PARAM RRset, whichever chain the zone has

module _ (sign : Dnskey → List ℕ → Option (List ℕ)) (verifies : Dnskey → List ℕ → List ℕ → Bool) (apex : Name) (rs : List HandedRr) (at life : ℕ) where
  abbrev ttl : ℕ
  ttl = ttl_among rs (low apex) 6

  abbrev Seen : Mode → GroupView → Type 0
  Seen mode g = OfBoth (λ of v. Presents v of) (parameters_of_chain apex ttl mode) (Some g)

  pub parameters_given : (signers : List Dnskey) (mode : Mode) (g : GroupView) (m : List ℕ) → AreHanded apex rs → Seen mode g → IsAnswer sign verifies apex at life (by_tag signers) 33792 (apex_question apex g.rtype) (g ∷ []) [] m
      → OfBoth (λ of b. Gives verifies pointer_limit apex at life (by_tag signers) (apex_question apex of.rtype) (of ∷ []) b) (parameters_of_chain apex ttl mode) (Some m)
  parameters_given signers Nsec g m handed seen w = absurd seen
  parameters_given signers (Nsec3 iterations salt optout) g m handed seen w =
      let of = parameters_group apex ttl iterations salt in
      apex_given sign verifies apex at life signers of m handed.apex_is (parameters_formed apex rs handed iterations salt)
      (apex_answered sign verifies apex at life (by_tag signers) of g m seen w)

  pub parameters_refused : (keys : List Dnskey) (mode : Mode) (g : GroupView) (f : AnswerFault) → Seen mode g → RefusesGroups sign verifies apex at life keys (ahead_of_records (apex_question apex g.rtype)) (g ∷ []) f
      → IsSomeAnd (parameters_of_chain apex ttl mode) (λ of. RefusesApex sign verifies apex at life keys of f)
  parameters_refused keys Nsec g f seen r = absurd seen
  parameters_refused keys (Nsec3 iterations salt optout) g f seen r = apex_refused sign verifies apex at life keys (parameters_group apex ttl iterations salt) g f seen r
