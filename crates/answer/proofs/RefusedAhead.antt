-- What is refused ahead of a replacement's memory is what the replacement would be refused for.
use Rattle.std.proofs.Common.{◌≡◌, ℕ, Bool, true, false, List, refl, sym, subst, inr}
use Rattle.std.specs.Prelude.{Option, Some, None, if◌then◌else◌}
use Rattle.std.specs.Option.{option_map}
use Rattle.std.specs.List.{list_any}
use Rattle.std.proofs.lemmas.Bool.{false≢true}
use Rattle.definitions.specs.Name.{Name}
use Rattle.definitions.specs.ZoneChain.{Mode}
use Rattle.messages.specs.HandedRr.{HandedRr, is_meta}
use Rattle.messages.proofs.Lists.{some_is}
use Rattle.answer_terms.specs.Accepting.{delegates_star, is_added_by_signing, is_alias, is_of_other_class, is_outside, over_limit}
use Rattle.answer_terms.specs.Hashing.{Hasher}
use Rattle.answer_terms.specs.ZoneView.{AcceptedZone}
use Rattle.answer_zone_records.specs.Faults.{IsFault, first_fault}
use Rattle.answer_zone_records.specs.declared.fault.ZoneFault.{ZoneFault}
use Rattle.answer_zone_records.specs.declared.fault.ZoneFault.TheVariants as fault
use Rattle.answer_publisher.specs.Replacing.{RefusesReplacement, is_too_soon, refused_ahead}
use Rattle.answer_publisher.specs.declared.fault.ReplaceFault.{ReplaceFault}
use Rattle.answer_publisher.specs.declared.fault.ReplaceFault.TheVariants.{TooSoon, Zone}

-- a fault of the chain is none of the list by itself
abbrev is_of_chain : ZoneFault → Bool
is_of_chain (fault.Chain e) = true
is_of_chain fault.WrongClass = false
is_of_chain fault.OutsideApex = false
is_of_chain fault.SignedType = false
is_of_chain fault.Alias = false
is_of_chain fault.MetaType = false
is_of_chain fault.StarNs = false
is_of_chain fault.IterationsOverLimit = false
is_of_chain fault.Memory = false

abbrev Listed : Option ZoneFault → Type 0
Listed None = Unit {0}
Listed (Some f) = is_of_chain f ≡ false

abbrev first_of : Bool → Bool → Bool → Bool → Bool → Bool → Bool → Option ZoneFault
first_of a b c d e f g =
    if a then Some fault.WrongClass
    else if b then Some fault.OutsideApex
    else if c then Some fault.SignedType
    else if d then Some fault.Alias
    else if e then Some fault.MetaType
    else if f then Some fault.StarNs
    else if g then Some fault.IterationsOverLimit
    else None

listed : (a b c d e f g : Bool) → Listed (first_of a b c d e f g)
listed true b c d e f g = refl
listed false true c d e f g = refl
listed false false true d e f g = refl
listed false false false true e f g = refl
listed false false false false true f g = refl
listed false false false false false true g = refl
listed false false false false false false true = refl
listed false false false false false false false = tt

first_listed : (apex : Name) (mode : Mode) (limit : ℕ) (rs : List HandedRr) → Listed (first_fault apex mode limit rs)
first_listed apex mode limit rs = listed (list_any is_of_other_class rs) (list_any (is_outside apex) rs) (list_any is_added_by_signing rs) (list_any is_alias rs) (list_any is_meta rs) (list_any delegates_star rs) (over_limit mode limit)

is_first : (hash : Hasher) (apex : Name) (mode : Mode) (limit : ℕ) (rs : List HandedRr) (f : ZoneFault) → first_fault apex mode limit rs ≡ Some f → IsFault hash apex mode limit rs f
is_first hash apex mode limit rs (fault.Chain x) e = absurd (false≢true (sym (subst Listed e (first_listed apex mode limit rs))))
is_first hash apex mode limit rs fault.WrongClass e = e
is_first hash apex mode limit rs fault.OutsideApex e = e
is_first hash apex mode limit rs fault.SignedType e = e
is_first hash apex mode limit rs fault.Alias e = e
is_first hash apex mode limit rs fault.MetaType e = e
is_first hash apex mode limit rs fault.StarNs e = e
is_first hash apex mode limit rs fault.IterationsOverLimit e = e
is_first hash apex mode limit rs fault.Memory e = e

of_list : (hash : Hasher) (z : AcceptedZone) (latest : Option ℕ) (at : ℕ) (rs : List HandedRr) (o : Option ZoneFault) (f : ReplaceFault) → is_too_soon latest at ≡ false → first_fault z.apex z.mode z.limit rs ≡ o → option_map Zone o ≡ Some f → RefusesReplacement hash z latest at rs f
of_list hash z latest at rs None f i e p = absurd (none_some p) where
  none_some : None ≡ Some f → ⊥
  none_some q = cc
of_list hash z latest at rs (Some x) f i e p =
    subst (RefusesReplacement hash z latest at rs) (some_is (Zone x) f p) (i, inr (is_first hash z.apex z.mode z.limit rs x e))

ahead : (hash : Hasher) (z : AcceptedZone) (latest : Option ℕ) (at : ℕ) (rs : List HandedRr) (f : ReplaceFault) (b : Bool) → is_too_soon latest at ≡ b → (if b then Some TooSoon else option_map Zone (first_fault z.apex z.mode z.limit rs)) ≡ Some f → RefusesReplacement hash z latest at rs f
ahead hash z latest at rs f true i p = subst (RefusesReplacement hash z latest at rs) (some_is TooSoon f p) i
ahead hash z latest at rs f false i p = of_list hash z latest at rs (first_fault z.apex z.mode z.limit rs) f i refl p

pub refuses_ahead : (hash : Hasher) (z : AcceptedZone) (latest : Option ℕ) (at : ℕ) (rs : List HandedRr) (f : ReplaceFault) → refused_ahead z latest at rs ≡ Some f → RefusesReplacement hash z latest at rs f
refuses_ahead hash z latest at rs f p = ahead hash z latest at rs f (is_too_soon latest at) refl p
