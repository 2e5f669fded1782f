use Rattle.std.proofs.Common.{◌≡◌, false, true, IfOk, Result, ap, inl, refl, subst, sym, ◌∙◌}
use Rattle.std.specs.Prelude.{IfErr}
use Rattle.definitions.specs.Name.{Name, at_or_above}
use Rattle.definitions.proofs.ZoneNames.{above_itself}
use Rattle.resolution_walk.specs.Between.{are_keys_refused}
use Rattle.resolution_walk.specs.Judged.{IsUncut}
use Rattle.resolution_walk.specs.Query.{Query}
use Rattle.resolution_walk.specs.declared.ending.JudgedHop.{JudgedHop}
use Rattle.resolution_walk.specs.declared.ending.Uncut.{Uncut}
use Rattle.resolution_walk.proofs.Hashed.{no_more}
use Rattle.resolution_walk.proofs.Stopping.{all_counted, all_last, unanswered}
use Rattle.resolution_walk.proofs.hops.down_between.Goals as goal

pub search_down_to-requires : goal.search_down_to-requires
search_down_to-requires g c =
    let name = c.query.inside.question.now.name in
    let keys : are_keys_refused c.args.untold.refusal ≡ false = sym c.are_keys_refused.ensures ∙ c.if-are_keys_refused.false in
    record {
      above = subst (λ (x : Query). at_or_above name x.asked.name ≡ true) c.query.view_is (above_itself name);
      untold = unanswered c.args.evidence.now c.args.query.now c.args.untold.refusal c.args.untold.counts c.requires keys;
    }

pub returns-then-are_keys_refused : goal.returns-then-are_keys_refused
returns-then-are_keys_refused g c =
    let keys : are_keys_refused c.args.untold.refusal ≡ true = sym c.are_keys_refused.ensures ∙ c.if-are_keys_refused.true in
    record { stops = tt; counted = inl (keys, refl); last = inl keys; hashed = no_more _ c.args.counts }

pub returns-else-are_keys_refused : goal.returns-else-are_keys_refused
returns-else-are_keys_refused g c =
    let e = c.args.evidence.now in
    let q = c.args.query.now in
    let refusal = c.args.untold.refusal in
    let before = c.args.counts in
    let r = c.search_down_to.result in
    let kept = c.search_down_to.ensures in
    let is = ap (λ (x : Query). x.asked.name) c.query.view_is in
    let uncut = subst (λ (n : Name). IfOk r (λ (y : Result JudgedHop Uncut). IfErr y (IsUncut e q before n))) is kept.uncut in
    let keys : are_keys_refused refusal ≡ false = sym c.are_keys_refused.ensures ∙ c.if-are_keys_refused.false in
    record { stops = kept.stops; counted = all_counted e q refusal before r keys kept.counted uncut; last = all_last e q refusal before r uncut; hashed = kept.hashed }
