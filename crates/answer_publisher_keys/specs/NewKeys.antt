-- What an add of the code hands in, beside what is bound.
use Rattle.std.specs.Prelude.{ℕ, List, [], Result, Ok, Err, string_bytes}
use Rattle.definitions.specs.Dnskey.{key_tag}
use Rattle.answer_publisher_keys.specs.declared.keys.NewKey.{NewKey}
use Rattle.answer_publisher_keys.specs.declared.fault.KeyFault.{KeyFault}
use Rattle.keyset_keys.specs.declared.errors.Error.{Error}
use Rattle.keyset.specs.KeyState.{KeySetState, Answer, text_of, is_available}
use Rattle.keyset.specs.KeyRuns as runs
use Rattle.keyset.specs.KeyAnswers as answers
use Rattle.keyset.specs.KeyAnswers.{Refuses, refusal_of}
use Rattle.answer_publisher_keys.specs.Bindings.{ZoneKeys, BoundKey, bind, lifted, new_in_set}
use Rattle.answer_publisher_keys.specs.KeyCalls.{Gives, IsAccepted}

-- the add to the key set alone, by the key's tag
abbrev pub added_tag : KeySetState → NewKey → ℕ → Answer
added_tag s n tag = runs.on_state (runs.Add (string_bytes n.pubref) (new_in_set n.kind (text_of n.privref) n.algorithm tag n.created (is_available n.available))) n.created s

abbrev pub added_to : ZoneKeys → NewKey → BoundKey → Answer
added_to s n b = added_tag s.keys n (key_tag b.key)

-- the key set takes the key, and the reference is bound to it
abbrev pub AddsBound : {X : Type 0} → ZoneKeys → ZoneKeys → Result X KeyFault → NewKey → BoundKey → Type 0
AddsBound old new result n b = Gives IsAccepted (λ _. []) old new result (lifted (bind (string_bytes n.pubref) b old.bound) (added_to old n b))

-- a check says whether the key set accepts a call, and else why not
abbrev pub Foretells : {X : Type 0} → Result X Error → Answer → Type 0
Foretells (Ok x) answer = answers.IsAccepted answer
Foretells (Err e) answer = Refuses (refusal_of e) answer
