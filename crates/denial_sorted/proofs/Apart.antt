-- A record that comes in between two others in order, and is of neither's owner, parts them.
use Rattle.std.proofs.Common.{◌≡◌, ℕ, zero, suc, ◌+◌, ◌≤◌, Bool, true, false, if◌then◌else◌, List, length, get_or, insert, refl, sym, ap, ◌∙◌, Option, Some, None, arith}
use Rattle.std.proofs.lemmas.List.Edits.{get_or-insert_above, get_or-insert_at, get_or-insert_below, length-insert}
use Rattle.std.proofs.lemmas.Map.Keys.{Less-from_sorted}
use Rattle.std.proofs.lemmas.Option.{get_or_from_slice_get, slice_get_within}
use Rattle.std.specs.declared.cmp.Ordering.{Ordering}
use Rattle.std.specs.declared.cmp.Ordering.TheVariants.{Less}
use Rattle.std.specs.List.{slice_get}
use Rattle.std.specs.List.Sorted.{IsStrictlySortedBy}
use Rattle.definitions.specs.Name.{Name}
use Rattle.plain.specs.Records.{record_canonical_cmp}
use Rattle.plain.specs.declared.record.Record.{Record}
use Rattle.denial_sorted.specs.declared.starts.Neighbour.TheVariants.{Before, Behind, Neither}
use Rattle.denial_rrsets.specs.Groups.{of_one_owner}
use Rattle.denial_sorted.specs.Neighbour.{IsApartAt, are_neighbours, leads}
use Rattle.denial_rrsets.specs.Starts.{follows}
use Rattle.denial_sorted.proofs.Parted.{still_apart}

module _ {N D : Type 0} (name : N → Name) (rtype : D → ℕ) (by_data : D → D → Ordering) where
  unfollowed : (t s : Bool) → (if t then Before else if s then Behind else Neither) ≡ Neither → t ≡ false
  unfollowed true s h = absurd cc
  unfollowed false s h = refl

  pub apart_at : (rs : List (Record N D)) (p : ℕ) (a : Record N D) → p ≤ length rs → IsStrictlySortedBy (record_canonical_cmp name rtype by_data) (insert rs p a) → IsApartAt (of_one_owner name) rs p a
  apart_at rs zero a l s h = refl
  apart_at rs (suc k) a l s h = go (slice_get rs k) refl (slice_get rs (suc k)) refl
    where
      go : (u : Option (Record N D)) → slice_get rs k ≡ u → (v : Option (Record N D)) → slice_get rs (suc k) ≡ v → are_neighbours (of_one_owner name) u v ≡ false
      go None e v f = refl
      go (Some b) e None f = refl
      go (Some b) e (Some n) f =
          let ys = insert rs (suc k) a in
          let within = slice_get_within rs (suc k) n f in
          let size = length-insert rs (suc k) a l in
          let at_b : get_or ys k a ≡ b = get_or-insert_below rs (suc k) a a k (omega arith) l ∙ get_or_from_slice_get rs k b a e in
          let at_a : get_or ys (suc k) a ≡ a = get_or-insert_at rs (suc k) a a l in
          let at_n : get_or ys (suc k + 1) a ≡ n = get_or-insert_above rs (suc k) a a (suc k) (omega arith) l ∙ get_or_from_slice_get rs (suc k) n a f in
          let below : record_canonical_cmp name rtype by_data b a ≡ Less = ap (λ x. record_canonical_cmp name rtype by_data x a) (sym at_b) ∙ ap (record_canonical_cmp name rtype by_data (get_or ys k a)) (sym at_a) ∙ Less-from_sorted (record_canonical_cmp name rtype by_data) ys k (suc k) a s (omega arith) (omega arith) in
          let above : record_canonical_cmp name rtype by_data a n ≡ Less = ap (λ x. record_canonical_cmp name rtype by_data x n) (sym at_a) ∙ ap (record_canonical_cmp name rtype by_data (get_or ys (suc k) a)) (sym at_n) ∙ Less-from_sorted (record_canonical_cmp name rtype by_data) ys (suc k) (suc k + 1) a s (omega arith) (omega arith) in
          let unlike : follows (of_one_owner name) (slice_get rs k) a ≡ false = unfollowed (follows (of_one_owner name) (slice_get rs k) a) (leads (of_one_owner name) a (slice_get rs (suc k))) h in
          let apart : of_one_owner name b a ≡ false = ap (λ o. follows (of_one_owner name) o a) (sym e) ∙ unlike in
          still_apart name rtype by_data b a n below above apart
