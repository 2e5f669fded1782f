-- When signatures begin and end to hold, round the circle of serial numbers.
use Rattle.std.proofs.Common.{◌≡◌, ℕ, ◌+◌, ◌-◌, ◌<◌, ◌≤◌, Bool, true, false, ◌&&◌, List, ◌++◌, length, refl, sym, ap, subst, ◌∙◌, arith}
use Rattle.std.specs.Prelude.{◌%◌, min, Option, Some, None, nat_le, slice_range, if◌then◌else◌}
use Rattle.std.proofs.Math.Nat.{min-le_left, min-le_right}
use Rattle.std.proofs.lemmas.Bool.{and_from, and_parts, le-ltb, leb-true, lt-ltb, ltb-false, ltb-true}
use Rattle.definitions.specs.Name.{Name, low, wire}
use Rattle.definitions.specs.Serial.{serial_le}
use Rattle.definitions.specs.Signing.{Fields}
use Rattle.messages.specs.Message.{AreOctets, Spelled, behind, fits, if_true, name_in, name_upto, pair, quad, rrsig_at, rrsig_fields}
use Rattle.messages.proofs.Lists.{some_is}
use Rattle.messages.proofs.MessageParts.{octet_index}
use Rattle.answer_judge_facts.specs.Validity.{held_for, idle_for, seconds_to}
use Rattle.answer_judge_facts.specs.Times.{Times, times_of}

-- some seconds later
abbrev pub later : ℕ → ℕ → ℕ
later now d = (now + d) % 4294967296

abbrev pub holds : ℕ → Times → Bool
holds now t = serial_le t.inception now && serial_le now t.expiration

-- times that fit their fields
pub record AreTimes (t : Times) : Type 0 where
  pub inception : t.inception < 4294967296
  pub expiration : t.expiration < 4294967296

still_begun : (i now d : ℕ) → i < 4294967296 → now < 4294967296 → serial_le i now ≡ true → d ≤ 2147483647 - seconds_to i now → serial_le i (later now d) ≡ true
still_begun i now d p q s h =
    let r = ltb-true ((now + 4294967296 - i) % 4294967296) 2147483648 s in
    lt-ltb ((later now d + 4294967296 - i) % 4294967296) 2147483648 (omega (arith, p, q, h, r))

not_ended : (e now d : ℕ) → e < 4294967296 → now < 4294967296 → serial_le now e ≡ true → d ≤ seconds_to now e → serial_le (later now d) e ≡ true
not_ended e now d p q s h =
    let r = ltb-true ((e + 4294967296 - now) % 4294967296) 2147483648 s in
    lt-ltb ((e + 4294967296 - later now d) % 4294967296) 2147483648 (omega (arith, p, q, h, r))

not_begun : (i now d : ℕ) → i < 4294967296 → now < 4294967296 → serial_le i now ≡ false → d ≤ seconds_to now i - 1 → serial_le i (later now d) ≡ false
not_begun i now d p q s h =
    let r = ltb-false ((now + 4294967296 - i) % 4294967296) 2147483648 s in
    le-ltb ((later now d + 4294967296 - i) % 4294967296) 2147483648 (omega (arith, p, q, h, r))

still_ended : (e now d : ℕ) → e < 4294967296 → now < 4294967296 → serial_le now e ≡ false → d ≤ 2147483648 - seconds_to e now → serial_le (later now d) e ≡ false
still_ended e now d p q s h =
    let r = ltb-false ((e + 4294967296 - now) % 4294967296) 2147483648 s in
    le-ltb ((e + 4294967296 - later now d) % 4294967296) 2147483648 (omega (arith, p, q, h, r))

-- ---- signatures

pub still_held : (now d : ℕ) (t : Times) → AreTimes t → now < 4294967296 → holds now t ≡ true → d ≤ held_for now t → holds (later now d) t ≡ true
still_held now d t fit small h k =
    let p = and_parts (serial_le t.inception now) (serial_le now t.expiration) h in
    let ahead : d ≤ seconds_to now t.expiration = omega (arith, k, min-le_left (seconds_to now t.expiration) (2147483647 - seconds_to t.inception now)) in
    let left : d ≤ 2147483647 - seconds_to t.inception now = omega (arith, k, min-le_right (seconds_to now t.expiration) (2147483647 - seconds_to t.inception now)) in
    and_from _ _ (still_begun t.inception now d fit.inception small p.0 left) (not_ended t.expiration now d fit.expiration small p.1 ahead)

and_false : (b c : Bool) → c ≡ false → (b && c) ≡ false
and_false true c h = h
and_false false c h = refl

pub still_idle : (now d : ℕ) (t : Times) → AreTimes t → now < 4294967296 → holds now t ≡ false → d ≤ idle_for now t → holds (later now d) t ≡ false
still_idle now d t fit small h k = go (serial_le t.inception now) refl
  where
    go : (b : Bool) → serial_le t.inception now ≡ b → holds (later now d) t ≡ false
    go false e =
        let few = subst (λ (b : Bool). d ≤ (if b then 2147483648 - seconds_to t.expiration now else seconds_to now t.inception - 1)) e k in
        ap (λ b. b && serial_le (later now d) t.expiration) (not_begun t.inception now d fit.inception small e few)
    go true e =
        let few = subst (λ (b : Bool). d ≤ (if b then 2147483648 - seconds_to t.expiration now else seconds_to now t.inception - 1)) e k in
        let ended : serial_le now t.expiration ≡ false = sym (ap (λ b. b && serial_le now t.expiration) e) ∙ h in
        and_false (serial_le t.inception (later now d)) (serial_le (later now d) t.expiration) (still_ended t.expiration now d fit.expiration small ended few)

-- ---- fields that are read of octets

pair_small : (m : List ℕ) (p : ℕ) → AreOctets m → pair m p < 65536
pair_small m p o = omega (arith, octet_index m p o, octet_index m (p + 1) o)

quad_small : (m : List ℕ) (p : ℕ) → AreOctets m → quad m p < 4294967296
quad_small m p o = omega (arith, pair_small m p o, pair_small m (p + 2) o)

-- the times of a signature stand in the data of its record, which the message has
pub record StandThere (m : List ℕ) (r : Spelled) (f : Fields) : Type 0 where
  pub expiration : f.expiration ≡ quad m (r.start + 8)
  pub inception : f.inception ≡ quad m (r.start + 12)
  pub inside : r.start + 18 ≤ length m

name_inside : (k : ℕ) (m : List ℕ) (r : Spelled) (p : ℕ) (n : Name × ℕ) → name_in k m r p ≡ Some n → behind r ≤ length m
name_inside k m r p n h = go (nat_le (behind r) (length m)) refl h
  where
    go : (b : Bool) → nat_le (behind r) (length m) ≡ b → elim b as (λ _. Option (Name × ℕ)) [ false ↦ None | true ↦ name_upto k m p (behind r) ] ≡ Some n → behind r ≤ length m
    go true e h = leb-true (behind r) (length m) e
    go false e h = cc

held_fields : (b : Bool) (f : Fields) (s : List ℕ) (x : Fields × List ℕ) → if_true b (f, s) ≡ Some x → f ≡ x.0
held_fields true f s x e = ap (λ (y : Fields × List ℕ). y.0) (some_is (f, s) x e)
held_fields false f s x e = cc

pub stand_there : (k : ℕ) (m : List ℕ) (r : Spelled) (x : Fields × List ℕ) → rrsig_at k m r ≡ Some x → StandThere m r x.0
stand_there k m r x h = go (nat_le 18 r.length) (name_in k m r (r.start + 18)) refl refl h
  where
    go : (b : Bool) (o : Option (Name × ℕ)) → nat_le 18 r.length ≡ b → name_in k m r (r.start + 18) ≡ o → elim b as (λ _. Option (Fields × List ℕ)) [
      | false ↦ None
      | true ↦ elim o as (λ _. Option (Fields × List ℕ)) [
        | None ↦ None
        | Some signer ↦
            let signature = slice_range m signer.1 (behind r) in
            if_true (fits (slice_range m r.start (r.start + 18) ++ (wire signer.0 ++ signature))) (rrsig_fields m r.start (low signer.0), signature)
      ]
    ] ≡ Some x → StandThere m r x.0
    go false o l n e = cc
    go true None l n e = cc
    go true (Some s) l n e =
        let signature = slice_range m s.1 (behind r) in
        let long = leb-true 18 r.length l in
        let there = name_inside k m r (r.start + 18) s n in
        let is = held_fields (fits (slice_range m r.start (r.start + 18) ++ (wire s.0 ++ signature))) (rrsig_fields m r.start (low s.0)) signature x e in
        subst (StandThere m r) is (record { expiration = refl; inception = refl; inside = omega (arith, long, there) })

pub are_times : (k : ℕ) (m : List ℕ) (r : Spelled) (x : Fields × List ℕ) → AreOctets m → rrsig_at k m r ≡ Some x → AreTimes (times_of x.0)
are_times k m r x octets h =
    let at = stand_there k m r x h in
    record {
      inception = subst (λ n. n < 4294967296) (sym at.inception) (quad_small m (r.start + 12) octets);
      expiration = subst (λ n. n < 4294967296) (sym at.expiration) (quad_small m (r.start + 8) octets);
    }
