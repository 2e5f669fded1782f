-- How many names a walk hashes.
use Rattle.std.proofs.Common.{◌≡◌, ◌+◌, ℕ, Result, Ok, Err, IfOk, refl, ap, subst, sym}
use Rattle.std.specs.Prelude.{MatchResult}
use Rattle.evidence_laws.specs.Counted.{CountsHashes, plus}
use Rattle.evidence_laws.specs.Counts.{Counts}
use Rattle.evidence_laws.specs.Told.{StepSeen}
use Rattle.evidence_laws.proofs.Hashed.{added_counted, none_counted, sum_counted, then_counted}
use Rattle.resolution_walk.specs.Judged.{IsUncutTold, counts_of}
use Rattle.resolution_walk.specs.Stopping.{IsAliasOf, IsNoAlias, counts_at}
use Rattle.resolution_walk.specs.declared.ending.End.{End}
use Rattle.resolution_walk.specs.declared.ending.Target.{Target}
use Rattle.resolution_walk.specs.declared.ending.Uncut.{Uncut}
use Rattle.resolution_walk.specs.declared.ending.Uncut.TheVariants as uncut

-- so many names were hashed in between, by which these counts go on from those
abbrev pub HashesOn : ℕ → ℕ → Counts → Counts → Type 0
HashesOn before after from counts = CountsHashes before after from.hashes counts.hashes

-- by no judgement
pub no_more : (before : ℕ) (counts : Counts) → HashesOn before before counts counts
no_more before counts = none_counted before before counts.hashes refl

module _ (before after : ℕ) (from : Counts) where
  -- by one that is added
  pub own_added : (own sums : Counts) → CountsHashes before after 0 own.hashes → sums ≡ plus from own → HashesOn before after from sums
  own_added own sums own_is e = added_counted before after from.hashes own.hashes sums.hashes own_is (ap (λ (n : Counts). n.hashes) e)

  pub name_added : (own sums : Counts) → after ≡ before + own.hashes → sums ≡ plus from own → HashesOn before after from sums
  name_added own sums own_is e = sum_counted before after from.hashes own.hashes sums.hashes own_is (ap (λ (n : Counts). n.hashes) e)

  -- the same counts
  pub same_counts : (counts same : Counts) → same ≡ counts → HashesOn before after from counts → HashesOn before after from same
  same_counts counts same e is = subst (λ (n : Counts). HashesOn before after from n) (sym e) is

  pub from_same : (before_too : Counts) (counts : Counts) → before_too ≡ from → HashesOn before after before_too counts → HashesOn before after from counts
  from_same before_too counts e is = subst (λ (n : Counts). HashesOn before after n counts) e is

  -- where there is a result
  module _ {A E : Type 0} (r : Result A E) (count : A → Counts) where
    pub kept_counts : (counts : Counts) → HashesOn before after from counts → IfOk r (λ x. count x ≡ counts) → IfOk r (λ x. HashesOn before after from (count x))
    kept_counts counts is e = go r e
      where
        go : (r : Result A E) → IfOk r (λ x. count x ≡ counts) → IfOk r (λ x. HashesOn before after from (count x))
        go (Ok x) e = same_counts counts (count x) e is
        go (Err x) e = tt

    pub then_counts : (between : ℕ) (counts : Counts) → HashesOn before between from counts → IfOk r (λ x. HashesOn between after counts (count x)) → IfOk r (λ x. HashesOn before after from (count x))
    then_counts between counts first second = go r second
      where
        go : (r : Result A E) → IfOk r (λ x. HashesOn between after counts (count x)) → IfOk r (λ x. HashesOn before after from (count x))
        go (Ok x) second = then_counted before between after from.hashes counts.hashes (count x).hashes first second
        go (Err x) second = tt

-- where no delegation is told of
pub uncut_counts : (said : StepSeen) (counts : Counts) (u : Uncut) → IsUncutTold said counts u → counts_of u ≡ counts
uncut_counts said counts (uncut.SoFar n) is = is.0
uncut_counts said counts (uncut.Throughout n) is = is.0

-- at the name that an alias leads to, or at the end
pub alias_counts : (end : End) (r : Result Target End) → MatchResult r (IsAliasOf end) (IsNoAlias end) → counts_at r ≡ end.counts
alias_counts end (Ok t) is = is.counts_are
alias_counts end (Err x) is = ap (λ (y : End). y.counts) is.0
