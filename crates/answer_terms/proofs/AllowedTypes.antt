-- A question that is allowed asks for none of the types that signing adds, at or below the apex.
use Rattle.std.proofs.Common.{◌≡◌, ℕ, Bool, true, false, ◌&&◌, ◌||◌, not, [], ◌∷◌, refl, ap, ◌∙◌, eqb, inl, inr}
use Rattle.std.specs.Prelude.{nat_le, ◌==◌}
use Rattle.std.proofs.lemmas.Bool.{and_parts, eqb-true, false≢true, or_cases, or_parts}
use Rattle.definitions.specs.Name.{Name, at_or_above}
use Rattle.denial_laws.specs.Truth.{is_added_type}
use Rattle.messages.specs.HandedRr.{among}
use Rattle.messages.specs.Message.{Asked}
use Rattle.answer_terms.specs.Asking.{asks_alias, is_allowed}

not_true : (b : Bool) → not b ≡ true → b ≡ false
not_true false e = refl
not_true true e = cc

-- what signing adds is not asked for
pub record Unsigned (t : ℕ) : Type 0 where
  pub rrsig : eqb t 46 ≡ false
  pub nsec : eqb t 47 ≡ false
  pub dnskey : eqb t 48 ≡ false
  pub nsec3 : eqb t 50 ≡ false
  pub nsec3param : eqb t 51 ≡ false

pub unsigned_from : (apex : Name) (q : Asked) → is_allowed apex q ≡ true → Unsigned q.rtype
unsigned_from apex q e =
    let t = q.rtype in
    let front = (q.class == 1) && at_or_above apex q.name in
    let listed = among (46 ∷ 47 ∷ 48 ∷ 50 ∷ 51 ∷ 5 ∷ 39 ∷ 0 ∷ 41 ∷ []) t in
    let a = and_parts (front && not listed) (not (nat_le 128 t && nat_le t 255)) e in
    let b = not_true listed (and_parts front (not listed) a.0).1 in
    let c46 = or_parts (eqb t 46) _ b in
    let c47 = or_parts (eqb t 47) _ c46.1 in
    let c48 = or_parts (eqb t 48) _ c47.1 in
    let c50 = or_parts (eqb t 50) _ c48.1 in
    let c51 = or_parts (eqb t 51) _ c50.1 in
    record { rrsig = c46.0; nsec = c47.0; dnskey = c48.0; nsec3 = c50.0; nsec3param = c51.0 }

pub unadded : (t : ℕ) → Unsigned t → is_added_type t ≡ false
unadded t u = λ i. u.rrsig i || (u.nsec i || (u.dnskey i || (u.nsec3 i || (u.nsec3param i || false))))

-- nor are the types of aliases any that signing adds
pub alias_unsigned : (apex : Name) (q : Asked) → asks_alias apex q ≡ true → Unsigned q.rtype
alias_unsigned apex q e =
    let t = q.rtype in
    let listed = among (5 ∷ 39 ∷ []) t in
    let a = and_parts (listed && (q.class == 1)) (at_or_above apex q.name) e in
    elim (or_cases (eqb t 5) (eqb t 39 || false) (and_parts listed (q.class == 1) a.0).0) [
      | inl cname ↦ cname_unsigned t (eqb-true t 5 cname)
      | inr more ↦ elim (or_cases (eqb t 39) false more) [
        | inl dname ↦ dname_unsigned t (eqb-true t 39 dname)
        | inr none ↦ absurd (false≢true none)
      ]
    ]
  where
    cname_unsigned : (t : ℕ) → t ≡ 5 → Unsigned t
    cname_unsigned t e = record { rrsig = ap (λ n. eqb n 46) e; nsec = ap (λ n. eqb n 47) e; dnskey = ap (λ n. eqb n 48) e; nsec3 = ap (λ n. eqb n 50) e; nsec3param = ap (λ n. eqb n 51) e }

    dname_unsigned : (t : ℕ) → t ≡ 39 → Unsigned t
    dname_unsigned t e = record { rrsig = ap (λ n. eqb n 46) e; nsec = ap (λ n. eqb n 47) e; dnskey = ap (λ n. eqb n 48) e; nsec3 = ap (λ n. eqb n 50) e; nsec3param = ap (λ n. eqb n 51) e }

-- a zone has no other answer for types of the chain, since they are not asked for
pub allowed_plain : (apex : Name) (q : Asked) → is_allowed apex q ≡ true → (eqb q.rtype 47 || eqb q.rtype 50) ≡ false
allowed_plain apex q e =
    let u = unsigned_from apex q e in
    ap (λ b. b || eqb q.rtype 50) u.nsec ∙ u.nsec3

pub not_rrsig : (apex : Name) (q : Asked) → is_allowed apex q ≡ true → eqb q.rtype 46 ≡ false
not_rrsig apex q e = (unsigned_from apex q e).rrsig

pub not_nsec : (apex : Name) (q : Asked) → is_allowed apex q ≡ true → eqb q.rtype 47 ≡ false
not_nsec apex q e = (unsigned_from apex q e).nsec

pub inside_apex : (apex : Name) (q : Asked) → is_allowed apex q ≡ true → at_or_above apex q.name ≡ true
inside_apex apex q e =
    let t = q.rtype in
    let front = (q.class == 1) && at_or_above apex q.name in
    let listed = among (46 ∷ 47 ∷ 48 ∷ 50 ∷ 51 ∷ 5 ∷ 39 ∷ 0 ∷ 41 ∷ []) t in
    let a = and_parts (front && not listed) (not (nat_le 128 t && nat_le t 255)) e in
    let b = and_parts front (not listed) a.0 in
    (and_parts (q.class == 1) (at_or_above apex q.name) b.0).1
