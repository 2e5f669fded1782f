-- Records that are read from a line.
use Rattle.std.proofs.Common.{◌≡◌, ℕ, ◌+◌, ◌-◌, ◌≤◌, List, ◌++◌, length, take, drop, Option, Some, None, refl, sym, ap, ◌∙◌, append_assoc, take_all, length-drop, arith, Bool, true, false, not}
use Rattle.std.specs.Prelude.{codes, cond}
use Rattle.std.specs.Int.{w32, to_be_bytes}
use Rattle.std.specs.Result.{result_ok}
use Rattle.std.specs.Str.{bytes_eq}
use Rattle.std.proofs.lemmas.Bool.{eq-eqb}
use Rattle.std.proofs.lemmas.List.{drop-drop, take-append-drop}
use Rattle.definitions.specs.Name.{Name, wire, low}
use Rattle.answer_events.specs.Message.{owner_at}
use Rattle.plain.specs.Soa.{times_octets}
use Rattle.plain.specs.declared.soa.Soa.{Soa}
use Rattle.plain.specs.declared.soa.Times.{Times}
use Rattle.session_grammar.specs.Fields.{hex_field}
use Rattle.session_grammar.specs.Grammar.{◌>>=◌, DataField, name_field, data_octets, soa_octets, soa_field, record_fields}
use Rattle.session_grammar.specs.Numbers.{number_field}
use Rattle.session_grammar.specs.Readings.{soa_view}

pub bind_some : {A B : Type 0} (o : Option A) (x : A) (f : A → Option B) (y : Option B) → o ≡ Some x → f x ≡ y → (o >>= f) ≡ y
bind_some o x f y e h = ap (λ p. p >>= f) e ∙ h

-- four octets from a place on
abbrev fours : ℕ → List ℕ → List ℕ
fours at xs = take 4 (drop at xs)

cut : (xs : List ℕ) (at next : ℕ) → next ≡ at + 4 → fours at xs ++ drop next xs ≡ drop at xs
cut xs at next e = ap (λ n. fours at xs ++ drop n xs) e ∙ ap (λ l. fours at xs ++ l) (sym (drop-drop 4 at xs)) ∙ take-append-drop 4 (drop at xs)

last_four : (xs : List ℕ) → length xs ≡ 20 → fours 16 xs ≡ drop 16 xs
last_four xs size = take_all 4 (drop 16 xs) (omega (arith, size, length-drop {A = ℕ}))

-- twenty octets, four by four
in_fours : (xs : List ℕ) → length xs ≡ 20 → fours 0 xs ++ (fours 4 xs ++ (fours 8 xs ++ (fours 12 xs ++ fours 16 xs))) ≡ xs
in_fours xs size =
    let d = ap (λ l. fours 12 xs ++ l) (last_four xs size) ∙ cut xs 12 16 refl in
    let c = ap (λ l. fours 8 xs ++ l) d ∙ cut xs 8 12 refl in
    let b = ap (λ l. fours 4 xs ++ l) c ∙ cut xs 4 8 refl in
    ap (λ l. fours 0 xs ++ l) b ∙ cut xs 0 4 refl

pub numbers_are : (t : Times) (xs : List ℕ) → length xs ≡ 20 → to_be_bytes w32 t.serial ≡ take 4 (drop 0 xs) → to_be_bytes w32 t.refresh ≡ take 4 (drop 4 xs) → to_be_bytes w32 t.retry ≡ take 4 (drop 8 xs) → to_be_bytes w32 t.expire ≡ take 4 (drop 12 xs) → to_be_bytes w32 t.minimum ≡ take 4 (drop 16 xs) → times_octets t ≡ xs
numbers_are t xs size a b c d e = (λ i. a i ++ (b i ++ (c i ++ (d i ++ e i)))) ∙ in_fours xs size

soa_known : (octets : List ℕ) (m r : Name) (front : ℕ) → front + 20 ≡ length octets → soa_field octets m r front ≡ Some (record { is_unknown = false; written = wire m ++ wire r ++ drop front octets; bytes = wire (low m) ++ wire (low r) ++ drop front octets })
soa_known octets m r front size = ap (λ b. cond b (Some (record { is_unknown = false; written = wire m ++ wire r ++ drop front octets; bytes = wire (low m) ++ wire (low r) ++ drop front octets })) None) (eq-eqb (front + 20) (length octets) size)

pub soa_read : (octets numbers : List ℕ) (s : Soa Name) (m r : Name) (behind front : ℕ) → result_ok (owner_at 0 octets 0) ≡ Some (m, behind) → result_ok (owner_at 0 octets behind) ≡ Some (r, front) → front ≤ length octets → numbers ≡ take (length octets - front) (drop front octets) → length numbers ≡ 20 → s.mname ≡ m → s.rname ≡ r → times_octets s.times ≡ numbers → soa_octets octets ≡ Some (soa_view s)
soa_read octets numbers s m r behind front e f inside cut_off size a b n =
    let whole : numbers ≡ drop front octets = cut_off ∙ take_all (length octets - front) (drop front octets) (omega (arith, length-drop {A = ℕ})) in
    let twenty : front + 20 ≡ length octets = omega (arith, ap length whole, size, length-drop front octets, inside) in
    let rest = n ∙ whole in
    let back = λ (x y : List ℕ). sym (append_assoc x y (drop front octets)) in
    let seen : soa_view s ≡ record { is_unknown = false; written = wire m ++ wire r ++ drop front octets; bytes = wire (low m) ++ wire (low r) ++ drop front octets } =
    (λ i. record { is_unknown = false; written = wire (a i) ++ (wire (b i) ++ rest i); bytes = wire (low (a i)) ++ (wire (low (b i)) ++ rest i) })
    ∙ (λ i. record { is_unknown = false; written = back (wire m) (wire r) i; bytes = back (wire (low m)) (wire (low r)) i }) in
    bind_some (result_ok (owner_at 0 octets 0)) (m, behind) (λ x. result_ok (owner_at 0 octets x.1) >>= λ y. soa_field octets x.0 y.0 y.1) _ e
    (bind_some (result_ok (owner_at 0 octets behind)) (r, front) (λ y. soa_field octets m y.0 y.1) _ f
    (soa_known octets m r front twenty ∙ ap Some (sym seen)))

negated : (b : Bool) → false ≡ not b → b ≡ true
negated true e = refl
negated false e = cc

pub is_word : (word other : List ℕ) → false ≡ not (bytes_eq word other) → bytes_eq word other ≡ true
is_word word other e = negated (bytes_eq word other) e

-- what a record is made of, where its data are known
pub record_read : (word owner ttl class rtype octets : List ℕ) (n own : Name) (s s' c c' t t' kind : ℕ) (o : List ℕ) (d : DataField)
    → bytes_eq word (codes "rr") ≡ true → name_field owner ≡ Some n → number_field 32 ttl ≡ Some s → number_field 16 class ≡ Some c → number_field 16 rtype ≡ Some t → hex_field 65535 octets ≡ Some o → data_octets t' o ≡ Some d
    → own ≡ n → s' ≡ s → c' ≡ c → t' ≡ t → kind ≡ t'
    → record_fields word owner ttl class rtype octets ≡ Some (record { owner = own; class = c'; ttl = s'; rtype = kind; is_unknown = d.is_unknown; written = d.written; bytes = d.bytes })
record_read word owner ttl class rtype octets n own s s' c c' t t' kind o d w e es ec et eo ed same_name same_ttl same_class same_type same_kind =
    let made : Some (record { owner = n; class = c; ttl = s; rtype = t; is_unknown = d.is_unknown; written = d.written; bytes = d.bytes }) ≡ Some (record { owner = own; class = c'; ttl = s'; rtype = kind; is_unknown = d.is_unknown; written = d.written; bytes = d.bytes }) =
    sym (λ i. Some (record { owner = same_name i; class = same_class i; ttl = same_ttl i; rtype = (same_kind ∙ same_type) i; is_unknown = d.is_unknown; written = d.written; bytes = d.bytes })) in
    ap (λ b. cond b (record_fields (codes "rr") owner ttl class rtype octets) None) w
    ∙ bind_some (name_field owner) n _ _ e
    (bind_some (number_field 32 ttl) s _ _ es
    (bind_some (number_field 16 class) c _ _ ec
    (bind_some (number_field 16 rtype) t _ _ et
    (bind_some (hex_field 65535 octets) o _ _ eo
    (bind_some (data_octets t o) d (λ x. Some (record { owner = n; class = c; ttl = s; rtype = t; is_unknown = x.is_unknown; written = x.written; bytes = x.bytes })) _ (ap (λ k. data_octets k o) (sym same_type) ∙ ed) made)))))
