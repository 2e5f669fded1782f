-- A list of records in which no fault was found.
use Rattle.std.proofs.Common.{◌≡◌, ℕ, Bool, true, false, List, Option, Some, None, inr, refl, sym, ap, ◌∙◌, cond}
use Rattle.std.specs.List.{list_any}
use Rattle.std.proofs.lemmas.Bool.{false≢true}
use Rattle.definitions.specs.Name.{Name}
use Rattle.definitions.specs.ZoneChain.{Mode}
use Rattle.messages.specs.HandedRr.{HandedRr, is_meta}
use Rattle.answer_terms.specs.Accepting.{IsFaultless, delegates_star, is_added_by_signing, is_alias, is_of_other_class, is_outside, over_limit, sorted_records}
use Rattle.answer_terms.specs.Hashing.{Hasher}
use Rattle.answer_zone_records.specs.AliasFaults.{IsOrderlyList, IsPlainList, RefusesZoneWithAliases, first_fault_with_aliases, first_plain_fault, has_disorder}
use Rattle.answer_zone_records.specs.Faults.{first_fault}
use Rattle.answer_zone_records.specs.declared.fault.ZoneFault.{ZoneFault}
use Rattle.answer_zone_records.specs.declared.fault.ZoneFault.TheVariants as fault

unless : (b : Bool) (x : ZoneFault) (o : Option ZoneFault) → cond b (Some x) o ≡ None → (b ≡ false) × (o ≡ None)
unless true x o e = cc
unless false x o e = (refl, e)

pub faultless : (apex : Name) (mode : Mode) (limit : ℕ) (rs : List HandedRr) → first_fault apex mode limit rs ≡ None → IsFaultless apex mode limit rs
faultless apex mode limit rs e =
    let o6 : Option ZoneFault = cond (over_limit mode limit) (Some fault.IterationsOverLimit) None in
    let o5 : Option ZoneFault = cond (list_any delegates_star rs) (Some fault.StarNs) o6 in
    let o4 : Option ZoneFault = cond (list_any is_meta rs) (Some fault.MetaType) o5 in
    let o3 : Option ZoneFault = cond (list_any is_alias rs) (Some fault.Alias) o4 in
    let o2 : Option ZoneFault = cond (list_any is_added_by_signing rs) (Some fault.SignedType) o3 in
    let o1 : Option ZoneFault = cond (list_any (is_outside apex) rs) (Some fault.OutsideApex) o2 in
    let e0 = unless (list_any is_of_other_class rs) fault.WrongClass o1 e in
    let e1 = unless (list_any (is_outside apex) rs) fault.OutsideApex o2 e0.1 in
    let e2 = unless (list_any is_added_by_signing rs) fault.SignedType o3 e1.1 in
    let e3 = unless (list_any is_alias rs) fault.Alias o4 e2.1 in
    let e4 = unless (list_any is_meta rs) fault.MetaType o5 e3.1 in
    let e5 = unless (list_any delegates_star rs) fault.StarNs o6 e4.1 in
    let e6 = unless (over_limit mode limit) fault.IterationsOverLimit None e5.1 in
    record {
      of_class_in = e0.0;
      inside = e1.0;
      unsigned = e2.0;
      no_alias = e3.0;
      known = e4.0;
      no_star_delegation = e5.0;
      within_limit = e6.0;
    }

pub plain_list : (apex : Name) (mode : Mode) (limit : ℕ) (rs : List HandedRr) → IsFaultless apex mode limit rs → IsPlainList apex rs
plain_list apex mode limit rs f = record {
  of_class_in = f.of_class_in;
  inside = f.inside;
  unsigned = f.unsigned;
  known = f.known;
  no_star_delegation = f.no_star_delegation;
}

-- the same, aliases aside
pub record IsPlain (apex : Name) (mode : Mode) (limit : ℕ) (rs : List HandedRr) : Type 0 where
  pub plain : IsPlainList apex rs
  pub within_limit : over_limit mode limit ≡ false

pub plainly : (apex : Name) (mode : Mode) (limit : ℕ) (rs : List HandedRr) → first_plain_fault apex mode limit rs ≡ None → IsPlain apex mode limit rs
plainly apex mode limit rs e =
    let o6 : Option ZoneFault = cond (over_limit mode limit) (Some fault.IterationsOverLimit) None in
    let o5 : Option ZoneFault = cond (list_any delegates_star rs) (Some fault.StarNs) o6 in
    let o4 : Option ZoneFault = cond (list_any is_meta rs) (Some fault.MetaType) o5 in
    let o3 : Option ZoneFault = cond (list_any is_added_by_signing rs) (Some fault.SignedType) o4 in
    let o2 : Option ZoneFault = cond (list_any (is_outside apex) rs) (Some fault.OutsideApex) o3 in
    let e0 = unless (list_any is_of_other_class rs) fault.WrongClass o2 e in
    let e1 = unless (list_any (is_outside apex) rs) fault.OutsideApex o3 e0.1 in
    let e2 = unless (list_any is_added_by_signing rs) fault.SignedType o4 e1.1 in
    let e3 = unless (list_any is_meta rs) fault.MetaType o5 e2.1 in
    let e4 = unless (list_any delegates_star rs) fault.StarNs o6 e3.1 in
    let e5 = unless (over_limit mode limit) fault.IterationsOverLimit None e4.1 in
    record {
      plain = record {
        of_class_in = e0.0;
        inside = e1.0;
        unsigned = e2.0;
        known = e3.0;
        no_star_delegation = e4.0;
      };
      within_limit = e5.0;
    }

pub orderly : (apex : Name) (mode : Mode) (limit : ℕ) (rs : List HandedRr) → first_plain_fault apex mode limit rs ≡ None → has_disorder apex (sorted_records rs) ≡ false → IsOrderlyList apex mode limit rs
orderly apex mode limit rs e o =
    let p = plainly apex mode limit rs e in
    record { plain = p.plain; aliases = o; within_limit = p.within_limit }

-- ---- the first fault where aliases may stand

with_disorder : (apex : Name) (mode : Mode) (limit : ℕ) (rs : List HandedRr) (b : Bool) → first_plain_fault apex mode limit rs ≡ None → has_disorder apex (sorted_records rs) ≡ b → first_fault_with_aliases apex mode limit rs ≡ cond b (Some fault.Alias) None
with_disorder apex mode limit rs b e h =
    ap (λ (o : Option ZoneFault). elim o [ Some f ↦ Some f | None ↦ cond (has_disorder apex (sorted_records rs)) (Some fault.Alias) None ]) e
    ∙ ap (λ d. cond d (Some fault.Alias) None) h

pub faulted_alias : (apex : Name) (mode : Mode) (limit : ℕ) (rs : List HandedRr) → first_plain_fault apex mode limit rs ≡ None → has_disorder apex (sorted_records rs) ≡ true → first_fault_with_aliases apex mode limit rs ≡ Some fault.Alias
faulted_alias apex mode limit rs e h = with_disorder apex mode limit rs true e h

pub unfaulted : (apex : Name) (mode : Mode) (limit : ℕ) (rs : List HandedRr) → first_plain_fault apex mode limit rs ≡ None → has_disorder apex (sorted_records rs) ≡ false → first_fault_with_aliases apex mode limit rs ≡ None
unfaulted apex mode limit rs e h = with_disorder apex mode limit rs false e h

pub faulted_plainly : (apex : Name) (mode : Mode) (limit : ℕ) (rs : List HandedRr) (f : ZoneFault) → first_plain_fault apex mode limit rs ≡ Some f → first_fault_with_aliases apex mode limit rs ≡ Some f
faulted_plainly apex mode limit rs f e =
    ap (λ (o : Option ZoneFault). elim o [ Some f ↦ Some f | None ↦ cond (has_disorder apex (sorted_records rs)) (Some fault.Alias) None ]) e

-- a fault of the chain is none of these
abbrev is_listed : Option ZoneFault → Bool
is_listed None = true
is_listed (Some (fault.Chain e)) = false
is_listed (Some f) = true

either_listed : (b : Bool) (o p : Option ZoneFault) → is_listed o ≡ true → is_listed p ≡ true → is_listed (cond b o p) ≡ true
either_listed true o p g h = g
either_listed false o p g h = h

first_listed : (apex : Name) (mode : Mode) (limit : ℕ) (rs : List HandedRr) → is_listed (first_plain_fault apex mode limit rs) ≡ true
first_listed apex mode limit rs =
    let o6 : Option ZoneFault = cond (over_limit mode limit) (Some fault.IterationsOverLimit) None in
    let o5 : Option ZoneFault = cond (list_any delegates_star rs) (Some fault.StarNs) o6 in
    let o4 : Option ZoneFault = cond (list_any is_meta rs) (Some fault.MetaType) o5 in
    let o3 : Option ZoneFault = cond (list_any is_added_by_signing rs) (Some fault.SignedType) o4 in
    let o2 : Option ZoneFault = cond (list_any (is_outside apex) rs) (Some fault.OutsideApex) o3 in
    either_listed (list_any is_of_other_class rs) (Some fault.WrongClass) o2 refl
    (either_listed (list_any (is_outside apex) rs) (Some fault.OutsideApex) o3 refl
    (either_listed (list_any is_added_by_signing rs) (Some fault.SignedType) o4 refl
    (either_listed (list_any is_meta rs) (Some fault.MetaType) o5 refl
    (either_listed (list_any delegates_star rs) (Some fault.StarNs) o6 refl
    (either_listed (over_limit mode limit) (Some fault.IterationsOverLimit) None refl refl)))))

-- a list with a fault of its own is refused for it
pub refused_plainly : (hash : Hasher) (apex : Name) (mode : Mode) (limit : ℕ) (rs : List HandedRr) (f : ZoneFault) → first_plain_fault apex mode limit rs ≡ Some f → RefusesZoneWithAliases hash apex mode limit rs f
refused_plainly hash apex mode limit rs (fault.Chain e) h = absurd (false≢true (sym (ap is_listed h) ∙ first_listed apex mode limit rs))
refused_plainly hash apex mode limit rs fault.WrongClass h = inr (faulted_plainly apex mode limit rs fault.WrongClass h)
refused_plainly hash apex mode limit rs fault.OutsideApex h = inr (faulted_plainly apex mode limit rs fault.OutsideApex h)
refused_plainly hash apex mode limit rs fault.SignedType h = inr (faulted_plainly apex mode limit rs fault.SignedType h)
refused_plainly hash apex mode limit rs fault.Alias h = inr (faulted_plainly apex mode limit rs fault.Alias h)
refused_plainly hash apex mode limit rs fault.MetaType h = inr (faulted_plainly apex mode limit rs fault.MetaType h)
refused_plainly hash apex mode limit rs fault.StarNs h = inr (faulted_plainly apex mode limit rs fault.StarNs h)
refused_plainly hash apex mode limit rs fault.IterationsOverLimit h = inr (faulted_plainly apex mode limit rs fault.IterationsOverLimit h)
refused_plainly hash apex mode limit rs fault.Memory h = inr (faulted_plainly apex mode limit rs fault.Memory h)
