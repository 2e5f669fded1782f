-- A zone of records without a fault of the list, and its chain.
use Rattle.std.proofs.Common.{◌≡◌, ℕ, false, List, [], ◌∷◌, map, length, None, inl, inr, refl, sym, ap, subst, ◌∙◌}
use Rattle.std.specs.Prelude.{Err, Ok, Result}
use Rattle.std.specs.List.{AllByRecursion, list_any}
use Rattle.std.specs.Result.{IfErr, IfOk}
use Rattle.std.proofs.lemmas.Bool.{false≢true}
use Rattle.definitions.specs.Name.{Name}
use Rattle.definitions.specs.Sorting.{sort_by}
use Rattle.definitions.specs.ZoneChain.{Mode, optout_of}
use Rattle.plain.specs.ZoneData.{zone_canonical, zone_type}
use Rattle.plain.specs.declared.record.Record.{Record}
use Rattle.plain.specs.declared.zone_data.ZoneRecordData.{ZoneRecordData}
use Rattle.denial_chain_owners.specs.Conditions.{IsOneClass}
use Rattle.denial_chain_owners.specs.Ttls.{has_unequal_ttls}
use Rattle.denial_chain_owners.specs.declared.error.SigningError.{SigningError}
use Rattle.denial_chain_owners.specs.declared.error.SigningError.TheVariants.{NoSingleSoa, MultipleTtlValues, HashFailed, HashTooLong, HashCollision, Memory}
use Rattle.messages.specs.HandedRr.{HandedRr, handed_of, is_meta}
use Rattle.messages.proofs.Lists.{all_fail, all_more, all_sorted}
use Rattle.answer_terms.specs.Accepted.{IsAccepted}
use Rattle.answer_terms.specs.Accepting.{has_unlike_ttls, is_of_other_class, record_cmp, soas, sorted_records, zone_with}
use Rattle.answer_terms.specs.Chainable.{HasChain}
use Rattle.answer_terms.specs.Hashing.{Hasher}
use Rattle.answer_zone_records.specs.AliasFaults.{IsAcceptedWithAliases, IsChained, RefusesPlainList, RefusesZoneWithAliases, first_plain_fault, has_disorder}
use Rattle.answer_zone_records.specs.Faults.{IsModeFault, RefusesZone, first_fault, zone_fault}
use Rattle.answer_zone_records.specs.OwnedRecords.{IsInternet}
use Rattle.answer_zone_records.specs.MadeLinks.{IsMade, IsUnmade}
use Rattle.answer_zone_records.specs.declared.fault.ZoneFault.{ZoneFault}
use Rattle.answer_zone_records.specs.declared.fault.ZoneFault.TheVariants as fault
use Rattle.answer_zone_records.proofs.Disorder.{no_disorder}
use Rattle.answer_zone_records.proofs.ZoneFaults.{faulted_alias, faultless, orderly, unfaulted}
use Rattle.answer_zone_records.proofs.ZoneOrder.{all_internet, handed_in_order, sorted_internet, zone_cmp}
use Rattle.answer_zone_records.proofs.ZoneTtls.{no_single_soa, single_soa, ttls_are}

one_class_of : {O : Type 0} (rs : List (Record Name (ZoneRecordData O Name))) → AllByRecursion IsInternet rs → IsOneClass rs
one_class_of [] h = tt
one_class_of (r ∷ rs) h = all_more IsInternet (λ s. s.class ≡ r.class) rs (λ s e. e ∙ sym h.0) h.1

-- records of class IN, and of types that a zone holds
module _ {O : Type 0} (hash : Hasher) (apex : Name) (mode : Mode) (rs : List (Record Name (ZoneRecordData O Name))) (of_class_in : list_any is_of_other_class (map handed_of rs) ≡ false) (known : list_any is_meta (map handed_of rs) ≡ false) where
  internet : AllByRecursion IsInternet rs
  internet = all_internet rs of_class_in

  pub in_order : map handed_of (sort_by zone_cmp rs) ≡ sorted_records (map handed_of rs)
  in_order = handed_in_order rs internet

  pub one_class : IsOneClass (sort_by zone_cmp rs)
  one_class = one_class_of (sort_by zone_cmp rs) (sorted_internet rs internet)

  pub sorted_class : AllByRecursion IsInternet (sort_by zone_cmp rs)
  sorted_class = sorted_internet rs internet

  pub sorted_known : AllByRecursion (λ r. is_meta r ≡ false) (map handed_of (sort_by zone_cmp rs))
  sorted_known = subst (AllByRecursion (λ r. is_meta r ≡ false)) (sym in_order) (all_sorted (λ r. is_meta r ≡ false) record_cmp (map handed_of rs) (all_fail is_meta (map handed_of rs) known))

  unequal : has_unequal_ttls (λ n. n) zone_type (zone_canonical (λ n. n)) apex (optout_of mode) (sort_by zone_cmp rs) ≡ has_unlike_ttls (zone_with apex (sorted_records (map handed_of rs))) (optout_of mode) (sorted_records (map handed_of rs))
  unequal =
      ttls_are (optout_of mode) apex (sort_by zone_cmp rs)
      ∙ ap (λ hs. has_unlike_ttls (zone_with apex hs) (optout_of mode) hs) in_order

  -- a fault of the mode's own
  by_mode : (e : SigningError) → IsModeFault hash mode (zone_with apex (map handed_of (sort_by zone_cmp rs))) e → IsModeFault hash mode (zone_with apex (sorted_records (map handed_of rs))) e
  by_mode e h = subst (λ hs. IsModeFault hash mode (zone_with apex hs) e) in_order h

  pub unchained : (e : SigningError) → has_disorder apex (sorted_records (map handed_of rs)) ≡ false → IsUnmade hash apex mode (sort_by zone_cmp rs) e → RefusesPlainList hash apex mode (map handed_of rs) (zone_fault e)
  unchained NoSingleSoa o h = (o, λ one. no_single_soa apex (sort_by zone_cmp rs) sorted_known h (ap (λ hs. length (soas apex hs)) in_order ∙ one))
  unchained MultipleTtlValues o h = (o, sym unequal ∙ h)
  unchained HashFailed o h = (o, by_mode HashFailed h)
  unchained HashTooLong o h = (o, by_mode HashTooLong h)
  unchained HashCollision o h = (o, by_mode HashCollision h)
  unchained Memory o h = tt

  pub chained : IsMade hash apex mode (sort_by zone_cmp rs) → IsChained hash apex mode (map handed_of rs)
  chained m = record {
    soa = ap (λ hs. length (soas apex hs)) (sym in_order) ∙ single_soa apex (sort_by zone_cmp rs) m.soa;
    ttls = sym unequal ∙ m.ttls;
    chain = subst (λ hs. HasChain hash mode (zone_with apex hs)) in_order m.chain;
  }

-- why a call fails, as why another does
pub if_err_more : {T E : Type 0} (P Q : E → Type 0) (r : Result T E) → ((e : E) → P e → Q e) → IfErr r P → IfErr r Q
if_err_more P Q (Ok x) f h = tt
if_err_more P Q (Err e) f h = f e h

-- what two clauses say of a value, as what another says
pub if_ok_both : {T E : Type 0} (P Q R : T → Type 0) (r : Result T E) → ((x : T) → P x → Q x → R x) → IfOk r P → IfOk r Q → IfOk r R
if_ok_both P Q R (Ok x) f p q = f x p q
if_ok_both P Q R (Err e) f p q = tt

-- a list without a fault of its own
module _ (hash : Hasher) (apex : Name) (mode : Mode) (limit : ℕ) (rs : List HandedRr) (none : first_fault apex mode limit rs ≡ None) where
  pub accepted : IsChained hash apex mode rs → IsAccepted hash apex mode limit rs
  accepted c = record { faultless = faultless apex mode limit rs none; soa = c.soa; ttls = c.ttls; chain = c.chain }

  pub refused : (f : ZoneFault) → RefusesPlainList hash apex mode rs f → RefusesZone hash apex mode limit rs f
  refused fault.Memory h = inl (refl, none)
  refused (fault.Chain e) h = inr (none, h.1)
  refused fault.Alias h = absurd (false≢true (sym (no_disorder apex rs (faultless apex mode limit rs none).no_alias) ∙ h))
  refused fault.WrongClass h = absurd h
  refused fault.OutsideApex h = absurd h
  refused fault.SignedType h = absurd h
  refused fault.MetaType h = absurd h
  refused fault.StarNs h = absurd h
  refused fault.IterationsOverLimit h = absurd h

-- the same where aliases may stand
module _ (hash : Hasher) (apex : Name) (mode : Mode) (limit : ℕ) (rs : List HandedRr) (none : first_plain_fault apex mode limit rs ≡ None) where
  pub accepted_with_aliases : has_disorder apex (sorted_records rs) ≡ false → IsChained hash apex mode rs → IsAcceptedWithAliases hash apex mode limit rs
  accepted_with_aliases o c = record { faultless = orderly apex mode limit rs none o; chained = c }

  pub refused_with_aliases : (f : ZoneFault) → RefusesPlainList hash apex mode rs f → RefusesZoneWithAliases hash apex mode limit rs f
  refused_with_aliases fault.Memory h = inl (refl, none)
  refused_with_aliases (fault.Chain e) h = inr (unfaulted apex mode limit rs none h.0, h.1)
  refused_with_aliases fault.Alias h = inr (faulted_alias apex mode limit rs none h)
  refused_with_aliases fault.WrongClass h = absurd h
  refused_with_aliases fault.OutsideApex h = absurd h
  refused_with_aliases fault.SignedType h = absurd h
  refused_with_aliases fault.MetaType h = absurd h
  refused_with_aliases fault.StarNs h = absurd h
  refused_with_aliases fault.IterationsOverLimit h = absurd h
