use Rattle.std.proofs.Common.{◌∷◌, ◌++◌, [], ◌∙◌, ap}
use Rattle.definitions.specs.Bitmap.{bitmap}
use Rattle.definitions.specs.ZoneChain.{of_keys}
use Rattle.denial_chain_owners.specs.Types.{own_types}
use Rattle.denial_nsec_chain.proofs.records.types_at.Goals as goal

pub returns : goal.returns
returns g c =
    let one = c.in_ok-add.ensures.ok [] c.new_vec-types.ensures in
    let two = c.in_ok-add-2.ensures.ok (47 ∷ []) one in
    let three = c.in_ok-add_keys.ensures (46 ∷ 47 ∷ []) two in
    let four = c.in_ok-add_types.ensures (of_keys c.tells_of_keys-keys.result ++ 46 ∷ 47 ∷ []) three in
    c.finalize.ensures.bitmap ∙ four
    ∙ ap (λ b. bitmap (own_types g.N.Labels.name g.D.RecordData.type_of (g.N.Labels.name c.args.apex.now) c.args.owner.now ++ (of_keys b ++ 46 ∷ 47 ∷ []))) c.tells_of_keys-keys.ensures
