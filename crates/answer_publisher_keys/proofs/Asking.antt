-- What a zone's keys ask the parent for is the DS set.
use Rattle.std.proofs.Common.{◌≡◌, ℕ, Bool, true, false, cond, List, [], refl, sym, ap, subst, ◌∙◌}
use Rattle.std.specs.Prelude.{Option, Some, None, Ok, Err, if◌then◌else◌}
use Rattle.std.specs.List.{list_any}
use Rattle.definitions.specs.Dnskey.{Dnskey, Ds}
use Rattle.keyset.specs.KeyState.{Answer, KeyExists, Reference, asks_parent}
use Rattle.keyset.proofs.Asking.{cds_comes_with_ds, created_cds_asks}
use Rattle.keyset_rolls.specs.declared.rolls.Action.{Action}
use Rattle.keyset_rolls.specs.Actions.{awaits_ds}
use Rattle.answer_publisher_keys.specs.declared.keys.Publication.TheVariants.{AtParent}
use Rattle.answer_publisher_keys.specs.Asking.{AsksAll, AsksForDsSet, AsksWhatRollsWaitFor}
use Rattle.answer_publisher_keys.specs.Bindings.{Add, BoundKey, Call, Delete, Finish, Outcome, Report1, Report2, Set, Start, Wait1, Wait2, ZoneKeys, apply, dnskey_for, ds_of, ds_set, is_bound_away, keys_by_tag, lifted, no_keys, on_state, set_call}
use Rattle.answer_publisher_keys.specs.Bindings as bindings
use Rattle.answer_publisher_keys.specs.KeyTags.{behind}
use Rattle.answer_publisher_keys.specs.PublishedKeys.{AreOf}
use Rattle.answer_publisher_keys.proofs.BoundAll.{by_digest}
use Rattle.answer_publisher_keys.proofs.PublishedKeys.{published_are_listed}

pub asks_for_ds_set : AsksForDsSet
asks_for_ds_set digest name cs =
    let s = behind digest (no_keys name) cs in
    let p = published_are_listed digest name cs in (
      λ h. record {
        cds = subst (λ (ds : List Ds). AreOf digest s AtParent ds_of ds) (sym (ap (λ b. if b then ds_set s else []) h)) p.ds;
        cdnskey = subst (λ (ks : List Dnskey). AreOf digest s AtParent (λ (b : BoundKey). b.key) ks) (sym (ap (λ b. if b then keys_by_tag s AtParent else []) h)) (p.signers AtParent);
      },
      λ h. record {
        cds = ap (λ b. if b then ds_set s else []) h;
        cdnskey = ap (λ b. if b then keys_by_tag s AtParent else []) h;
      },
    )

-- ---- a call on the keys is one on the key set

abbrev in_set : Outcome → Answer
in_set (Ok r) = Ok (r.0.keys, r.1)
in_set (Err f) = Err KeyExists

unlifted : (b : List (Reference × BoundKey)) (a : Answer) (t : ZoneKeys) (acts : List Action) → lifted b a ≡ Ok (t, acts) → a ≡ Ok (t.keys, acts)
unlifted b (Ok a) t acts e = ap in_set e
unlifted b (Err f) t acts e = cc

added : (s t : ZoneKeys) (q : Reference) (k : Dnskey) (a : Answer) (o : Option (List ℕ)) (away : Bool) (acts : List Action) → cond away (Err bindings.ReferenceBound) (by_digest s q k a o) ≡ Ok (t, acts) → a ≡ Ok (t.keys, acts)
added s t q k a o true acts e = cc
added s t q k a None false acts e = cc
added s t q k a (Some d) false acts e = unlifted (bindings.bind q (record { key = k; digest = d }) s.bound) a t acts e

on_set : (digest : Dnskey → Option (List ℕ)) (c : Call) (now : ℕ) (s t : ZoneKeys) (acts : List Action) → apply digest c now s ≡ Ok (t, acts) → on_state c now s.keys ≡ Ok (t.keys, acts)
on_set digest (Add kind q private algorithm octets available) now s t acts e =
    let k = dnskey_for kind algorithm octets in
    added s t q k (on_state (Add kind q private algorithm octets available) now s.keys) (digest k) (is_bound_away s.bound q k) acts e
on_set digest (Set q setting) now s t acts e = unlifted s.bound (on_state (Set q setting) now s.keys) t acts e
on_set digest (Delete q) now s t acts e = unlifted s.bound (on_state (Delete q) now s.keys) t acts e
on_set digest (Start r olds news) now s t acts e = unlifted s.bound (on_state (Start r olds news) now s.keys) t acts e
on_set digest (Report1 r ttl) now s t acts e = unlifted s.bound (on_state (Report1 r ttl) now s.keys) t acts e
on_set digest (Wait1 r) now s t acts e = unlifted s.bound (on_state (Wait1 r) now s.keys) t acts e
on_set digest (Report2 r ttl) now s t acts e = unlifted s.bound (on_state (Report2 r ttl) now s.keys) t acts e
on_set digest (Wait2 r) now s t acts e = unlifted s.bound (on_state (Wait2 r) now s.keys) t acts e
on_set digest (Finish r) now s t acts e = unlifted s.bound (on_state (Finish r) now s.keys) t acts e

pub asks_what_rolls_wait_for : AsksWhatRollsWaitFor
asks_what_rolls_wait_for digest c now s after actions e h =
    let on = on_set digest c now s after actions e in
    let creates = sym (cds_comes_with_ds (set_call c now) now s.keys after.keys actions on) ∙ h in
    let asks : asks_parent after.keys ≡ true = created_cds_asks (set_call c now) now s.keys after.keys actions on creates in
    record {
      cds = ap (λ b. if b then ds_set after else []) asks;
      cdnskey = ap (λ b. if b then keys_by_tag after AtParent else []) asks;
    }
