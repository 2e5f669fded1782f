-- What chains say of records, said of them as they were handed in.
use Rattle.std.proofs.Common.{◌≡◌, true, List, [], ◌∷◌, ◌++◌, map, refl, sym, ap, ◌∙◌}
use Rattle.std.specs.Prelude.{if◌then◌else◌}
use Rattle.definitions.specs.Bitmap.{bitmap}
use Rattle.definitions.specs.Name.{Name, low, labels_eq, wire}
use Rattle.definitions.specs.Zone.{Zone}
use Rattle.definitions.specs.ZoneChain.{nsec_names, nsec_next, nsec_types}
use Rattle.plain.specs.ZoneData.{zone_canonical, zone_type}
use Rattle.plain.specs.declared.record.Record.{Record}
use Rattle.plain.specs.declared.zone_data.ZoneRecordData.{ZoneRecordData}
use Rattle.denial_chain_owners.specs.Zones as words
use Rattle.denial_nsec_chain.specs.Chain.{nsec_chain, nsec_record}
use Rattle.messages.specs.HandedRr.{handed_of}
use Rattle.messages.proofs.Lists.{map-map}
use Rattle.answer_terms.specs.Accepting.{rr_of, zone_with}
use Rattle.answer_terms.specs.Links.{ChainLink, link_at, links_of}
use Rattle.answer_zone_records.specs.MadeLinks.{link_of}
use Rattle.answer_terms.specs.Served.{spelled_among, spelled_as}

pub map_agree : {A B : Type 0} (f g : A → B) → ((a : A) → f a ≡ g a) → (xs : List A) → map f xs ≡ map g xs
map_agree f g h [] = refl
map_agree f g h (x ∷ xs) = λ i. h x i ∷ map_agree f g h xs i

module _ {O : Type 0} where
  pub zone_is : (apex : Name) (rs : List (Record Name (ZoneRecordData O Name))) → words.zone_of (λ n. n) zone_type (zone_canonical (λ n. n)) apex rs ≡ zone_with apex (map handed_of rs)
  zone_is apex rs = ap (λ xs. record { name = apex; records = xs }) (sym (map-map rr_of handed_of rs))

  spelled_is : (rs : List (Record Name (ZoneRecordData O Name))) (o : Name) → words.spelled_among (λ n. n) rs o ≡ spelled_among (map handed_of rs) o
  spelled_is [] o = refl
  spelled_is (r ∷ rs) o = ap (λ n. if labels_eq (low r.owner) o then r.owner else n) (spelled_is rs o)

  next_spelled_is : (apex : Name) (rs : List (Record Name (ZoneRecordData O Name))) (o : Name) → words.spelled_as (λ n. n) apex rs o ≡ spelled_as apex (map handed_of rs) o
  next_spelled_is apex rs o = ap (λ n. if labels_eq (low apex) o then apex else n) (spelled_is rs o)

  link_is : (apex : Name) (rs : List (Record Name (ZoneRecordData O Name))) (o : Name) → link_of (nsec_record (λ n. n) apex true rs o) ≡ link_at apex (map handed_of rs) o
  link_is apex rs o =
      let of : Zone → ChainLink = λ z. record {
        owner = words.spelled_among (λ n. n) rs o;
        next = words.spelled_as (λ n. n) apex rs (nsec_next z o);
        octets = wire (words.spelled_as (λ n. n) apex rs (nsec_next z o)) ++ bitmap (nsec_types z true o);
      } in
      let z = zone_with apex (map handed_of rs) in
      ap of (zone_is apex rs)
      ∙ (λ i. record {
        owner = spelled_is rs o i;
        next = next_spelled_is apex rs (nsec_next z o) i;
        octets = wire (next_spelled_is apex rs (nsec_next z o) i) ++ bitmap (nsec_types z true o);
      })

  -- the chain of records
  pub links_are_of : (apex : Name) (rs : List (Record Name (ZoneRecordData O Name))) → map link_of (nsec_chain (λ n. n) apex true rs) ≡ links_of apex (map handed_of rs)
  links_are_of apex rs =
      map-map link_of (nsec_record (λ n. n) apex true rs) (nsec_names (words.zone_of (λ n. n) zone_type (zone_canonical (λ n. n)) apex rs))
      ∙ ap (λ z. map (λ o. link_of (nsec_record (λ n. n) apex true rs o)) (nsec_names z)) (zone_is apex rs)
      ∙ map_agree (λ o. link_of (nsec_record (λ n. n) apex true rs o)) (link_at apex (map handed_of rs)) (link_is apex rs) (nsec_names (zone_with apex (map handed_of rs)))
