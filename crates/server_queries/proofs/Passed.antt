-- Records that are passed over.
use Rattle.std.proofs.Common.{◌≡◌, ℕ, suc, ◌+◌, ◌-◌, ◌<◌, Bool, false, List, ◌∷◌, take, ap, sym, ◌∙◌, arith}
use Rattle.std.specs.Prelude.{◌||◌}
use Rattle.messages.specs.Message.{Spelled}
use Rattle.server_queries.specs.Options.{has_opt, is_opt}

-- one that is no OPT record, among the first
pub passed : (n i : ℕ) (r : Spelled) (old new : List Spelled) (b : Bool) → i < n → old ≡ r ∷ new → is_opt r ≡ false → has_opt (take (n - i) old) ≡ b
    → has_opt (take (n - (i + 1)) new) ≡ b
passed n i r old new b lt e other h =
    let left = n - (i + 1) in
    let less : n - i ≡ suc left = omega arith in
    let whole : has_opt (take (n - i) old) ≡ has_opt (take (suc left) (r ∷ new)) = ap (λ k. has_opt (take k old)) less ∙ ap (λ xs. has_opt (take (suc left) xs)) e in
    sym (ap (λ (b : Bool). b || has_opt (take left new)) other) ∙ sym whole ∙ h
