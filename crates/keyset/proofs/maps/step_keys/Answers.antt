use Rattle.std.proofs.Common.{ap, ◌∙◌, rules, tests}
use Rattle.std.proofs.lemmas.Map.Made.{map_same_pairs}
use Rattle.keyset.specs.KeyState.{Key, by_reference, when}
use Rattle.keyset.specs.KeySteps.{stepped}
use Rattle.keyset_rolls.specs.Rolls.{touches}
use Rattle.keyset.proofs.KeyMaps.{by_reference-map}
use Rattle.keyset.proofs.maps.step_keys.Goals as goal

pub returns : goal.returns
returns c =
    let g = λ (k : Key). when (touches c.args.rolltype k.roles) (stepped c.args.step c.args.rolltype c.args.now.now) k in
    ap by_reference (map_same_pairs _ g _ (λ k v b w f' t. search (rules, tests)) c.args.keys.now.entries c.retain.new.self.entries c.retain.ensures.filtered)
    ∙ by_reference-map (λ _ k. g k) c.args.keys.now.entries
