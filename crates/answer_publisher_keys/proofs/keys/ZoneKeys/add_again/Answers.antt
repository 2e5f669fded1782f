use Rattle.std.proofs.Common.{◌≡◌, ℕ, [], sym, ap, ◌∙◌, subst}
use Rattle.std.specs.Prelude.{Ok, string_bytes}
use Rattle.std.specs.Map.{lookup}
use Rattle.std.specs.Ordering.{nat_cmp, is_eq}
use Rattle.std.specs.Cmp.Lexicographic.{slice_cmp}
use Rattle.std.specs.FinMap.Entries.{put}
use Rattle.definitions.specs.Dnskey.{key_tag}
use Rattle.keyset.specs.KeyState.{reference_cmp}
use Rattle.answer_publisher_keys.specs.Bindings.{ZoneKeys, BoundKey, bind, lifted, bound_at}
use Rattle.answer_publisher_keys.specs.BoundView.{by_text}
use Rattle.answer_publisher_keys.specs.NewKeys.{added_to, added_tag}
use Rattle.answer_publisher_keys.proofs.BoundKeys.{put-by_text, find-by_text}
use Rattle.answer_publisher_keys.proofs.AddProofs.{lifted_ok}
use Rattle.answer_publisher_keys.proofs.keys.ZoneKeys.add_again.Goals as goal

pub returns-in_err-insert-in-Ok : goal.returns-in_err-insert-in-Ok
returns-in_err-insert-in-Ok c =
    let es = c.self.inside.bound.entries in
    let q = string_bytes c.args.new.pubref in
    absurd (c.requires.bound (ap (λ (s : ZoneKeys). bound_at s.bound q) (sym c.self.view_is) ∙ find-by_text es q ∙ ap (λ p. lookup (λ k. is_eq (slice_cmp nat_cmp p (string_bytes k))) es) (sym c.in_ok-reference.ensures.cases) ∙ c.in_err-insert-in-Ok.ensures.absent))

pub returns-in_ok-insert-in-Ok : goal.returns-in_ok-insert-in-Ok
returns-in_ok-insert-in-Ok c =
    let es = c.self.inside.bound.entries in
    let tag : c.key_tag-tag.result ≡ key_tag c.args.bound.key = c.key_tag-tag.ensures ∙ ap (λ (b : BoundKey). key_tag b.key) c.bound.view_is in
    let A : ℕ → Type 0 = λ t. added_tag c.self.inside.keys c.args.new t ≡ Ok (c.add_key.new.keys, []) in
    let P : ZoneKeys → Type 0 = λ s. lifted (bind (string_bytes c.args.new.pubref) c.args.bound s.bound) (added_to s c.args.new c.args.bound) ≡ Ok (record { keys = c.add_key.new.keys; bound = by_text c.insert.new.self.entries }, []) in
    subst P c.self.view_is
    (lifted_ok (bind (string_bytes c.args.new.pubref) c.args.bound (by_text es)) (by_text c.insert.new.self.entries) (added_tag c.self.inside.keys c.args.new (key_tag c.args.bound.key)) c.add_key.new.keys (subst A tag c.in-Ok.ensures)
    (ap (λ p. put reference_cmp p c.args.bound (by_text es)) (sym c.in_ok-reference.ensures.cases) ∙ sym (put-by_text es c.in_ok-reference.reference c.args.bound) ∙ ap by_text (sym c.in_ok-insert-in-Ok.ensures.entries)))
