use Rattle.std.proofs.Common.{◌≡◌, ℕ, [], sym, ap, ◌∙◌, subst}
use Rattle.std.specs.Prelude.{Ok, None, string_bytes}
use Rattle.std.specs.Map.{remove_entry}
use Rattle.std.specs.Ordering.{nat_cmp, is_eq}
use Rattle.std.specs.Cmp.Lexicographic.{slice_cmp}
use Rattle.std.specs.FinMap.Entries.{put, find}
use Rattle.definitions.specs.Dnskey.{key_tag}
use Rattle.keyset.specs.KeyState.{reference_cmp}
use Rattle.answer_publisher_keys.specs.Bindings.{ZoneKeys, BoundKey, bind, lifted, bound_at}
use Rattle.answer_publisher_keys.specs.BoundView.{by_text}
use Rattle.answer_publisher_keys.specs.NewKeys.{added_to, added_tag}
use Rattle.answer_publisher_keys.specs.declared.fault.KeyFault.{KeyFault}
use Rattle.keyset.specs.KeyAnswers as answers
use Rattle.keyset.specs.KeyAnswers.{refusal_of}
use Rattle.answer_publisher_keys.specs.KeyCalls.{Fails, IsAccepted, IsNamed, fault_of}
use Rattle.answer_publisher_keys.proofs.BoundKeys.{put-by_text, removed-put}
use Rattle.answer_publisher_keys.proofs.AddProofs.{lifted_ok, refused_named}
use Rattle.answer_publisher_keys.proofs.keys.ZoneKeys.add_first.Goals as goal

pub returns-in-Ok : goal.returns-in-Ok
returns-in-Ok c =
    let es = c.self.inside.bound.entries in
    let tag : c.key_tag-tag.result ≡ key_tag c.args.bound.key = c.key_tag-tag.ensures ∙ ap (λ (b : BoundKey). key_tag b.key) c.bound.view_is in
    let A : ℕ → Type 0 = λ t. added_tag c.self.inside.keys c.args.new t ≡ Ok (c.add_key.new.keys, []) in
    let P : ZoneKeys → Type 0 = λ s. lifted (bind (string_bytes c.args.new.pubref) c.args.bound s.bound) (added_to s c.args.new c.args.bound) ≡ Ok (record { keys = c.add_key.new.keys; bound = by_text c.insert.new.self.entries }, []) in
    subst P c.self.view_is
    (lifted_ok (bind (string_bytes c.args.new.pubref) c.args.bound (by_text es)) (by_text c.insert.new.self.entries) (added_tag c.self.inside.keys c.args.new (key_tag c.args.bound.key)) c.add_key.new.keys (subst A tag c.in-Ok.ensures)
    (ap (λ p. put reference_cmp p c.args.bound (by_text es)) (sym c.in_ok-clone.ensures.cases) ∙ sym (put-by_text es c.in_ok-clone.field-0 c.args.bound) ∙ ap by_text (sym c.in_ok-insert.ensures.entries)))

pub returns : goal.returns
returns c =
    let es = c.self.inside.bound.entries in
    let q = c.as_str.result.now in
    let is_pubref : q ≡ string_bytes c.args.new.pubref = c.as_str.ensures.value ∙ c.in_ok-reference.ensures.cases in
    let absent : find reference_cmp q (by_text es) ≡ None = ap (λ p. find reference_cmp p (by_text es)) is_pubref ∙ ap (λ (s : ZoneKeys). bound_at s.bound (string_bytes c.args.new.pubref)) c.self.view_is ∙ c.requires.unbound in
    let unbound : by_text c.remove.new.self.entries ≡ by_text es = ap by_text (c.remove.ensures.entries ∙ ap (remove_entry (λ k. is_eq (slice_cmp nat_cmp q (string_bytes k)))) c.in_ok-insert.ensures.entries ∙ removed-put es q c.in_ok-clone.field-0 c.args.bound (is_pubref ∙ sym c.in_ok-clone.ensures.cases) absent) in
    let tag : c.key_tag-tag.result ≡ key_tag c.args.bound.key = c.key_tag-tag.ensures ∙ ap (λ (b : BoundKey). key_tag b.key) c.bound.view_is in
    let refused : (c.add_key.new.keys ≡ c.self.inside.keys) × answers.Fails (refusal_of c.in-Err.error) (added_tag c.self.inside.keys c.args.new c.key_tag-tag.result) = c.in-Err.ensures in
    let unchanged : record { keys = c.add_key.new.keys; bound = by_text c.remove.new.self.entries } ≡ c.args.self.now = (λ i. record { keys = refused.0 i; bound = unbound i }) ∙ c.self.view_is in
    let A : ℕ → Type 0 = λ t. answers.Fails (refusal_of c.in-Err.error) (added_tag c.self.inside.keys c.args.new t) in
    let B : ZoneKeys → Type 0 = λ s. answers.Fails (refusal_of c.in-Err.error) (added_to s c.args.new c.args.bound) in
    let bound = bind (string_bytes c.args.new.pubref) c.args.bound c.args.self.now.bound in
    let answer = added_to c.args.self.now c.args.new c.args.bound in
    let named = refused_named c.in-Err.error bound answer (subst B c.self.view_is (subst A tag refused.1)) in
    let N : KeyFault → Type 0 = λ f. IsNamed f in
    let F : KeyFault → Type 0 = λ f. Fails IsAccepted (fault_of f) (lifted bound answer) in
    (unchanged, subst N (sym c.from.ensures) named.0, subst F (sym c.from.ensures) named.1)
