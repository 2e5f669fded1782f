use Rattle.std.proofs.Common.{◌≡◌, [], List, ℕ, false, rules, sym, ap, ◌∙◌, subst}
use Rattle.std.specs.Prelude.{Some, string_bytes}
use Rattle.definitions.specs.Dnskey.{Dnskey, digested, key_tag}
use Rattle.keyset.specs.KeyState.{Answer, Reference, text_of, is_available}
use Rattle.answer_publisher_keys.specs.Bindings.{BoundKey, Outcome, bind, dnskey_for, is_bound_away}
use Rattle.answer_publisher_keys.specs.KeyCalls.{Gives, IsFree}
use Rattle.answer_publisher.specs.World.{digests}
use Rattle.answer_publisher_keys.proofs.AddProofs.{applied, loosened, taking}
use Rattle.answer_publisher.proofs.publishing.Publisher.add_key.Goals as goal

-- the key set takes the key beside its digest
pub returns-clause-keys : goal.returns-clause-keys
returns-clause-keys g c =
    let s = c.args.self.now.keys in
    let made = digests g.S.Scheme.digest_of c.args.self.now in
    let k : Dnskey = c.new_unchecked-key.result in
    let octets : List ℕ = c.args.key.public_key.items in
    let q : Reference = string_bytes c.args.key.pubref in
    let same : k ≡ dnskey_for c.args.kind c.args.key.algorithm octets = search rules in
    let free : is_bound_away s.bound q k ≡ false = search rules in
    let digest : List ℕ = c.in_ok-digest.digest.items in
    let digested_so : made k ≡ Some digest = ap (λ a. g.S.Scheme.digest_of c.args.self.now.scheme.now 2 (digested a k)) (sym c.apex.ensures) ∙ c.in_ok-digest.ensures.ok in
    let a : Answer = taking c.args.kind q (text_of c.args.key.privref) c.args.key.algorithm (key_tag k) c.args.creation_ts (is_available c.args.key.available) s.keys in
    let b : List (Reference × BoundKey) = bind q (record { key = k; digest = digest }) s.bound in
    let P : Outcome → Type 0 = λ o. Gives IsFree (λ _. []) s c.add.new.self c.add.result o in
    subst P (sym (applied made c.args.kind q (text_of c.args.key.privref) c.args.key.algorithm octets (is_available c.args.key.available) c.args.creation_ts s k digest same free digested_so))
    (loosened (λ _. []) s c.add.new.self c.add.result b a c.add.ensures)
