-- Things that were shown in states of the keys were given by the zone.
use Rattle.std.proofs.Common.{◌≡◌, ℕ, true, false, List, [], ◌∷◌, map, refl, sym, ap, ◌∙◌, inl, inr, ⊎_elim}
use Rattle.std.specs.Prelude.{Contains, Option, ◌&&◌, nat_lt}
use Rattle.std.specs.List.{AllByRecursion}
use Rattle.std.specs.declared.cmp.Ordering.TheVariants.{Equal}
use Rattle.std.specs.FinMap.{nat_cmp-IsAntisymmetric}
use Rattle.definitions.specs.Dnskey.{Dnskey, Ds, key_tag}
use Rattle.definitions.specs.Limits.{pointer_limit}
use Rattle.answer_judge_keys.specs.Trusted.{is_usable}
use Rattle.answer_publisher_keys.specs.declared.keys.Publication.TheVariants as publication
use Rattle.messages.specs.HandedRr.{HandedRr}
use Rattle.answer_terms.specs.Accepting.{zone_of}
use Rattle.answer_publisher_keys.specs.Bindings.{BoundKey, ZoneKeys, dnskeys, ds_cmp, ds_of, ds_set, published}
use Rattle.answer_terms.specs.EqualTags.{has_equal_tags}
use Rattle.answer_terms.specs.Asking.{is_allowed}
use Rattle.answer_judge.specs.Meeting.{HasDs, WasGiven, holds}
use Rattle.messages.specs.Message.{Asked}
use Rattle.answer_publisher.specs.Publishing.{digest_at}
use Rattle.answer_scheme.specs.Moments.{second_of}
use Rattle.answer_terms.specs.Hashing.{HashesHold}
use Rattle.answer_laws.specs.Simulating.{judge_input}
use Rattle.answer_laws.specs.PublishedKeys.{IsKeyOfZone}
use Rattle.answer_laws.specs.Simulations.{IsZoneOf}
use Rattle.answer_laws.specs.Versions.{in_version}
use Rattle.answer_publisher.specs.Signing.{is_for_parent}
use Rattle.answer_publisher.specs.World.{TellsAnswer, TellsKeys, World, found_in, signing_in}
use Rattle.messages.specs.WrittenLaws.{IsQuestion}
use Rattle.answer_judge_keys.proofs.GivenKeys.{one_of_tag}
use Rattle.answer_judge.proofs.GivenLists.{contained_has, has_contained}
use Rattle.answer_judge_keys.proofs.GivenSorted.{all_has, sorted_has}
use Rattle.answer_laws.proofs.KeyLife.{AreBound, IsBound, all_published, published_flags, published_sign}
use Rattle.answer_publisher_keys.proofs.KeyTags.{HasOwnTags}
use Rattle.answer_laws.proofs.KeysMeet.{KeysMeet, meet_so}
use Rattle.answer_publisher_keys.proofs.KeyTagsPublished.{equal_tags}
use Rattle.messages.proofs.Lists.{Has, all_at, some_is}

-- keys that calls have left
pub record AreLeft (w : World) (keys : ZoneKeys) : Type 0 where
  pub bound : AreBound (digest_at w.answers.digest w.zone.apex) keys.bound
  pub own : HasOwnTags keys

-- ---- the DS set

key_in : (bs : List BoundKey) (b : BoundKey) → Has bs b → Has (dnskeys bs) b.key
key_in [] b h = absurd h
key_in (c ∷ bs) b h = ⊎_elim (λ e. inl (ap (λ (x : BoundKey). x.key) e)) (λ later. inr (key_in bs b later)) h

ds_in : (bs : List BoundKey) (b : BoundKey) → Has bs b → Has (map ds_of bs) (ds_of b)
ds_in [] b h = absurd h
ds_in (c ∷ bs) b h = ⊎_elim (λ e. inl (ap ds_of e)) (λ later. inr (ds_in bs b later)) h

-- a DS of one of the keys
pub record IsDsOf (bs : List BoundKey) (d : Ds) : Type 0 where
  pub of : BoundKey
  pub inside : Has bs of
  pub is : d ≡ ds_of of

from_bound : (bs : List BoundKey) (d : Ds) → Has (map ds_of bs) d → IsDsOf bs d
from_bound [] d h = absurd h
from_bound (c ∷ bs) d h = ⊎_elim
    (λ (e : d ≡ ds_of c). record { of = c; inside = inl refl; is = e })
    (λ (later : Has (map ds_of bs) d). let f = from_bound bs d later in record { of = f.of; inside = inr f.inside; is = f.is })
    h

same_ds : (digest : Dnskey → Option (List ℕ)) (a b : BoundKey) → IsBound digest a → IsBound digest b → a.key ≡ b.key → ds_of a ≡ ds_of b
same_ds digest a b ha hb e =
    let d : a.digest ≡ b.digest = some_is a.digest b.digest (sym ha.made ∙ ap digest e ∙ hb.made) in
    λ i. ds_of (record { key = e i; digest = d i })

exact : (digest : Dnskey → Option (List ℕ)) (bs : List BoundKey) → AllByRecursion (IsBound digest) bs → has_equal_tags (dnskeys bs) ≡ false → (a b : Ds) → IsDsOf bs a → IsDsOf bs b → ds_cmp a b ≡ Equal → a ≡ b
exact digest bs made apart a b ha hb e =
    let tags : a.tag ≡ b.tag = nat_cmp-IsAntisymmetric a.tag b.tag e in
    let same : key_tag ha.of.key ≡ key_tag hb.of.key = ap (λ (d : Ds). d.tag) (sym ha.is) ∙ tags ∙ ap (λ (d : Ds). d.tag) hb.is in
    let key : ha.of.key ≡ hb.of.key = one_of_tag (dnskeys bs) ha.of.key hb.of.key apart (key_in bs ha.of ha.inside) (key_in bs hb.of hb.inside) same in
    ha.is ∙ same_ds digest ha.of hb.of (all_at (IsBound digest) bs ha.of made ha.inside) (all_at (IsBound digest) bs hb.of made hb.inside) key ∙ sym hb.is

all_keys : (P : Dnskey → Type 0) (bs : List BoundKey) → ((b : BoundKey) → Has bs b → P b.key) → AllByRecursion P (dnskeys bs)
all_keys P [] f = tt
all_keys P (b ∷ bs) f = (f b (inl refl), all_keys P bs (λ c h. f c (inr h)))

-- each key at the parent has its record in the DS set
pub parents_have_ds : (w : World) (keys : ZoneKeys) → AreLeft w keys → AllByRecursion (HasDs w.answers w.zone.apex (ds_set keys)) (dnskeys (published keys publication.AtParent))
parents_have_ds w keys left =
    let digest = digest_at w.answers.digest w.zone.apex in
    let bs : List BoundKey = published keys publication.AtParent in
    let made = all_published digest keys publication.AtParent left.bound in
    let apart = equal_tags keys publication.AtParent left.own in
    all_keys (HasDs w.answers w.zone.apex (ds_set keys)) bs (λ b h.
    let is : IsBound digest b = all_at (IsBound digest) bs b made h in
    record {
      digest_type = 2;
      digest = b.digest;
      made = is.made;
      held = contained_has (ds_set keys) (ds_of b) (sorted_has ds_cmp (IsDsOf bs) (exact digest bs made apart) (map ds_of bs) (ds_of b) (all_has (IsDsOf bs) (map ds_of bs) (from_bound bs)) (ds_in bs b h));
    })

-- ---- three things

-- a key that is present may sign
present_usable : (w : World) (keys : ZoneKeys) (key : Dnskey) → AreLeft w keys → Contains (dnskeys (published keys publication.Present)) key → is_usable key ≡ true
present_usable w keys key left there =
    let ks : List Dnskey = dnskeys (published keys publication.Present) in
    (all_at IsKeyOfZone ks key (published_sign (digest_at w.answers.digest w.zone.apex) keys publication.Present left.bound) (has_contained ks key there)).usable

-- the DS set of some keys, bytes that tell the DNSKEY answer of others, and bytes that tell an answer of a version of the zone,
-- signed by others again
pub given : (w : World) (rs : List HandedRr) (x y z : ZoneKeys) (keys_at answer_at at : ℕ) (key_bytes bytes : List ℕ) (asked : Asked)
    → IsZoneOf (in_version w rs) rs → AreLeft w x → AreLeft w y → AreLeft w z → TellsKeys w y keys_at key_bytes → IsQuestion asked → is_allowed w.zone.apex asked ≡ true → TellsAnswer (in_version w rs) z answer_at asked bytes
    → KeysMeet x y z → holds (second_of keys_at) w.life (second_of at) ≡ true → holds (second_of answer_at) w.life (second_of at) ≡ true
    → HashesHold w.answers.hash w.zone.mode (zone_of w.zone.apex rs) asked.name → WasGiven w.answers pointer_limit (judge_input w (ds_set x) key_bytes bytes asked at) w.zone.mode rs
given w rs x y z keys_at answer_at at key_bytes bytes asked zone left_x left_y left_z tells is allowed answers meets keys_hold answer_holds hashes =
    let met = meet_so x y z (is_for_parent w.zone.apex asked && nat_lt 0 (found_in (in_version w rs) asked)) meets in
    record {
      parents = dnskeys (published x publication.AtParent);
      present = dnskeys (published y publication.Present);
      keysigners = dnskeys (published y publication.SignsKeys);
      zonesigners = dnskeys (published z (signing_in (in_version w rs) asked));
      life = w.life;
      keys_ttl = tells.0;
      keys_at = second_of keys_at;
      answer_at = second_of answer_at;
      apex_is = zone.apex_is;
      records_are = zone.records_are;
      accepted = zone.accepted;
      hashes = hashes;
      asked_is = is;
      allowed = allowed;
      flags_are = published_flags (digest_at w.answers.digest w.zone.apex) y publication.Present left_y.bound;
      ds_is = parents_have_ds w x left_x;
      meet = met;
      anchor_usable = present_usable w y met.anchor left_y met.anchor_present;
      signer_usable = present_usable w y met.signer left_y met.signer_present;
      present_tags = equal_tags y publication.Present left_y.own;
      keysigner_tags = equal_tags y publication.SignsKeys left_y.own;
      zonesigner_tags = equal_tags z (signing_in (in_version w rs) asked) left_z.own;
      keys_told = tells.1;
      answer_told = answers;
      keys_hold = keys_hold;
      answer_holds = answer_holds;
    }
