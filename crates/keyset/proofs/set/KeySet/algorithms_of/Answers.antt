use Rattle.std.proofs.Common.{false}
use Rattle.std.proofs.lemmas.List.{get_or-replicate}
use Rattle.keyset.proofs.set.KeySet.algorithms_of.Goals as goal

pub loop-reference-init : goal.loop-reference-init
loop-reference-init g c number h = get_or-replicate 256 number false false h
