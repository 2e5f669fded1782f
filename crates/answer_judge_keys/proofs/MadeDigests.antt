-- A digest that was made tells whether a DS record of its type names the key.
use Rattle.std.proofs.Common.{◌≡◌, ℕ, ◌&&◌, ◌==◌, Bool, true, false, cond, List, [], ◌∷◌, refl, sym, ap, subst, ◌∙◌, arith}
use Rattle.std.specs.Prelude.{Option, Some, None}
use Rattle.std.specs.Global.{Vec}
use Rattle.std.specs.List.{All, find}
use Rattle.std.specs.Option.{option_map}
use Rattle.std.specs.Str.{bytes_eq}
use Rattle.std.proofs.lemmas.List.Elements.{All-head, All-tail}
use Rattle.std.proofs.lemmas.Bool.{eq-eqb}
use Rattle.definitions.specs.Name.{Name}
use Rattle.definitions.specs.Dnskey.{Dnskey, Ds, digested, key_tag}
use Rattle.answer_scheme.specs.Answers.{Answers}
use Rattle.answer_judge_keys.specs.declared.digests.MadeDigest.{MadeDigest}
use Rattle.answer_judge_keys.specs.Digests.{IsMade, is_digest, is_of_type}
use Rattle.answer_judge_keys.specs.Trusted.{digests_to, matches_key}
use Rattle.answer_judge_keys.proofs.Searching.{found_passes}

found_holds : {X : Type 0} (P : X → Type 0) (p : X → Bool) (xs : List X) (x : X) → All P xs → find p xs ≡ Some x → P x
found_holds P p [] x h e = absurd cc
found_holds {X} P p (y ∷ ys) x h e = go (p y) e (found_holds P p ys x (All-tail P y ys h))
  where
    go : (b : Bool) → cond b (Some y) (find p ys) ≡ Some x → (find p ys ≡ Some x → P x) → P x
    go true k later = let same : y ≡ x = cc in subst P same (All-head P y ys h)
    go false k later = later k

abbrev is_of : List ℕ → Option (List ℕ) → Bool
is_of octets o = elim o [ None ↦ false | Some made ↦ bytes_eq made octets ]

told : (w : Option (Vec ℕ)) (octets : List ℕ) → elim w [ None ↦ false | Some v ↦ bytes_eq v.items octets ] ≡ is_of octets (option_map (λ v. v.items) w)
told None octets = refl
told (Some v) octets = refl

-- the digest of a record's type, of those that were made, is the one that the record is compared with
pub found_names : (a : Answers) (apex : Name) (k : Dnskey) (r : Ds) (ds : List MadeDigest) (d : MadeDigest) → All (IsMade a apex k) ds → Some d ≡ find (is_of_type r.digest_type) ds → is_digest d r.digest ≡ digests_to a apex k r
found_names a apex k r ds d all e =
    let made : IsMade a apex k d = found_holds (IsMade a apex k) (is_of_type r.digest_type) ds d all (sym e) in
    let kind : d.algorithm ≡ r.digest_type = grind (arith, found_passes (is_of_type r.digest_type) ds d (sym e)) in
    told d.octets r.digest ∙ ap (is_of r.digest) (sym made ∙ ap (λ n. a.digest n (digested apex k)) kind)

-- a record of the key's tag and algorithm names it where its digest is the key's
pub names : (a : Answers) (apex : Name) (k : Dnskey) (r : Ds) (b : Bool) → r.tag ≡ key_tag k → r.algorithm ≡ k.algorithm → b ≡ digests_to a apex k r → b ≡ matches_key a apex k r
names a apex k r b tags algorithms e = e ∙ sym (ap (λ t. t && (r.algorithm == k.algorithm) && digests_to a apex k r) (eq-eqb r.tag (key_tag k) tags) ∙ ap (λ t. t && digests_to a apex k r) (eq-eqb r.algorithm k.algorithm algorithms))
