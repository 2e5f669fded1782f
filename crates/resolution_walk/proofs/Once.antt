-- A message is wanted once.
use Rattle.std.proofs.Common.{◌≡◌, Bool, true, false, ◌&&◌, ◌||◌, List, [], ◌∷◌, ◌++◌, refl, sym, ap, subst, ◌∙◌}
use Rattle.std.specs.Prelude.{◌==◌}
use Rattle.std.specs.List.{list_any}
use Rattle.definitions.specs.Name.{Name, same}
use Rattle.denial_laws.proofs.NameFacts.{names_same}
use Rattle.messages.specs.Message.{Asked}
use Rattle.evidence_laws.specs.Given.{Given}
use Rattle.resolution_walk.specs.Wanted.{AreOnce, is_for_keys, is_same_wanted, lacking, lacks, lacks_besides, wanted_if, wanted_of}
use Rattle.resolution_walk.specs.declared.ending.Wanted.{Wanted}

module _ (zone : Name) (asked : Asked) where
  other : is_for_keys zone asked ≡ false → list_any (is_same_wanted (wanted_of zone zone 48)) (wanted_of zone asked.name asked.rtype ∷ []) ≡ false
  other is = ap (λ b. b && same zone asked.name && (asked.rtype == 48) || false) (names_same zone zone refl) ∙ ap (λ b. b || false) is

  once_if : (a k b : Bool) → is_for_keys zone asked ≡ k → AreOnce (wanted_if a (wanted_of zone zone 48) ++ wanted_if (lacks_besides a k b) (wanted_of zone asked.name asked.rtype))
  once_if true true true is = (refl, tt)
  once_if true true false is = (refl, tt)
  once_if true false true is = (other is, (refl, tt))
  once_if true false false is = (refl, tt)
  once_if false k true is = (refl, tt)
  once_if false k false is = tt

pub once_of : (e : Given) (zone : Name) (asked : Asked) (ws : List Wanted) → ws ≡ lacking e zone asked → AreOnce ws
once_of e zone asked ws k = subst AreOnce (sym k) (once_if zone asked (lacks e zone zone 48) (is_for_keys zone asked) (lacks e zone asked.name asked.rtype) refl)
