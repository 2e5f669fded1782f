-- Messages for the NSEC3PARAM RRset of a zone.
use Rattle.std.proofs.Common.{◌≡◌, ℕ, Bool, true, false, List, [], ◌∷◌, Option, Some, None, Result, Ok, Err, refl}
use Rattle.std.specs.Prelude.{IfOk, IsOk}
use Rattle.std.proofs.lemmas.Bool.{and_parts, false≢true}
use Rattle.definitions.specs.Dnskey.{Dnskey}
use Rattle.definitions.specs.Limits.{pointer_limit}
use Rattle.definitions.specs.Name.{Name}
use Rattle.definitions.specs.ZoneChain.{Mode, Nsec, Nsec3}
use Rattle.messages.specs.Message.{Asked, message}
use Rattle.answer_terms.specs.Given.{Gives}
use Rattle.answer_terms.specs.Served.{ServedRrset}
use Rattle.answer_zone.specs.Finding.{links_names}
use Rattle.answer_publisher.specs.Answering.{apex_question}
use Rattle.answer_publisher.specs.Parameters.{OfBoth, parameters_in}
use Rattle.answer_publisher.specs.declared.fault.AnswerFault.{AnswerFault}
use Rattle.server_signatures.specs.Table.{sign_by, verify_by}
use Rattle.server_signatures.specs.declared.answering.Signed.{Signed}
use Rattle.server_signatures.specs.declared.answering.Signed.TheVariants as signed
use Rattle.server_signatures.proofs.Signing.{own_entries}
use Rattle.server_answers.specs.MadeOf.{ReadsWhole}
use Rattle.server_answers.specs.Parameters.{MakesParameters, is_for_parameters}
use Rattle.server_answers.specs.Responding.{Serving}
use Rattle.server_answers.proofs.Making.{ok_of}

-- a question for it is one of a zone with a chain of hashes
pub is_of_hashes : (apex : Name) (mode : Mode) (asked : Asked) → is_for_parameters apex mode asked ≡ true → links_names mode ≡ false
is_of_hashes apex Nsec asked e = absurd (false≢true (and_parts _ false e).1)
is_of_hashes apex (Nsec3 iterations salt optout) asked e = refl

spells_reads : (verifies : Dnskey → List ℕ → List ℕ → Bool) (apex : Name) (at life : ℕ) (keys : List Dnskey) (o : Option ServedRrset) (m : List ℕ)
    → OfBoth (λ (g : ServedRrset) (b : List ℕ). Gives verifies pointer_limit apex at life keys (apex_question apex g.rtype) (g ∷ []) b) o (Some m) → IsOk (message pointer_limit m)
spells_reads verifies apex at life keys None m h = absurd h
spells_reads verifies apex at life keys (Some g) m h = ok_of (message pointer_limit m) h.read h.reads

pub parameters_read : (s : Serving) (dnssec_ok : Bool) (made : Result Signed AnswerFault) → MakesParameters s dnssec_ok made → IfOk made ReadsWhole
parameters_read s true (Ok (signed.Message m)) h =
    spells_reads (verify_by s.table) s.world.zone.apex _ s.world.life _ (parameters_in s.world) m.items (h (sign_by s.table) (verify_by s.table) (own_entries s.table)).1
parameters_read s false (Ok (signed.Message m)) h = spells_reads _ s.world.zone.apex _ s.world.life _ (parameters_in s.world) m.items h.1
parameters_read s dnssec_ok (Ok (signed.Missing v)) h = tt
parameters_read s dnssec_ok (Err f) h = tt
