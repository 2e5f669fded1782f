-- Records that a signer made for a question about a name that does not exist (RFC 9824), of which wrong rules make what the zone does
-- not say, by computing.
use Rattle.std.proofs.Common.{◌≡◌, ◌⊎◌, ℕ, List, [], ◌∷◌, Some, false, refl, sym, ap, ◌∙◌, inl, inr, arith}
use Rattle.std.specs.Prelude.{Contains}
use Rattle.std.proofs.lemmas.Bool.{false≢true}
use Rattle.definitions.specs.Bitmap.{bitmap, octet_of, window_size, window_count}
use Rattle.definitions.specs.Covering.{covers}
use Rattle.definitions.specs.Name.{Name, low, wire}
use Rattle.definitions.specs.Zone.{NoType, NoName, StarNoType, ce, exists, star_under}
use Rattle.definitions.specs.ZoneChain.{Nsec, nsec_names}
use Rattle.definitions.proofs.Members.{in_contained}
use Rattle.denial_laws.specs.Facts.{Link}
use Rattle.denial_laws.specs.Truth.{Concerns, IsTrueLink, SaysTruly, Denied, concerned}
use Rattle.denial_laws.proofs.ChainSays.{link_says}
use Rattle.denial_laws.proofs.NameFacts.{covers-low}
use Rattle.counterexamples_denial.specs.Mistakes.{without_denied_names, without_denied_wildcards}
use Rattle.counterexamples_denial.specs.Falsely.{DecidesFalsely}
use Rattle.counterexamples_denial.proofs.Zones.{example, star, b, bare, bare_served, link, by_links, apex_bits, apex_spelled}

-- the bits of RRSIG, NSEC and NXNAME
abbrev pub denied_bits : List ℕ
denied_bits = 0 ∷ 17 ∷ 0 ∷ 0 ∷ 0 ∷ 0 ∷ 0 ∷ 3 ∷ 0 ∷ 0 ∷ 0 ∷ 0 ∷ 0 ∷ 0 ∷ 0 ∷ 0 ∷ 0 ∷ 0 ∷ 128 ∷ []

denied_spelled : denied_bits ≡ bitmap (46 ∷ 47 ∷ 128 ∷ [])
unfolding octet_of window_size window_count
denied_spelled = refl

-- the record of a name, whose next name is the least one below it
abbrev pub denial : Name → Link
denial o = link o ((0 ∷ []) ∷ o) denied_bits

-- the names that a question for `b` concerns
one_of : (x : Name) → Concerns bare b x → (low x ≡ b) ⊎ ((low x ≡ example) ⊎ (low x ≡ star))
one_of x c = elim (in_contained (concerned example b) (low x) c.0 c.1 c.2) [
  | inl e ↦ inl e
  | inr i ↦ elim i [
    | inl e ↦ inr (inl e)
    | inr j ↦ elim j [ inl e ↦ inr (inr e) | inr n ↦ absurd n ]
  ]
]

pub only_apex : (w : Name) → Contains (nsec_names bare) w → w ≡ example
only_apex w c = elim (in_contained (nsec_names bare) w c.0 c.1 c.2) [ inl e ↦ e | inr n ↦ absurd n ]

-- the closest encloser is the apex, under which no wildcard stands
no_star : (o : Name) → ce bare o ≡ Some example → (e : Name) → ce bare o ≡ Some e → exists bare (star_under e) ≡ false
no_star o is e c = let same : Some e ≡ Some example = sym c ∙ is in let apex : e ≡ example = cc in ap (λ n. exists bare (star_under n)) apex

-- a record that covers none of the names that the question concerns
b_silent : (x : Name) → Concerns bare b x → covers example b ((0 ∷ []) ∷ b) x ≡ false
b_silent x c = sym (covers-low example b ((0 ∷ []) ∷ b) x) ∙ (elim (one_of x c) [
  | inl e ↦ ap (covers example b ((0 ∷ []) ∷ b)) e
  | inr i ↦ elim i [ inl e ↦ ap (covers example b ((0 ∷ []) ∷ b)) e | inr e ↦ ap (covers example b ((0 ∷ []) ∷ b)) e ]
])

b_says : SaysTruly bare b (denial b)
b_says = record {
  inside = refl;
  direct = refl;
  owner = Denied (record { nxname = refl; plain = refl; missing = record { missing = record { uncut = refl; gone = refl }; gone = no_star b refl } });
  gap = λ w c. ap (covers example b ((0 ∷ []) ∷ b)) (only_apex w c);
  shown = λ p x asked c up a h. absurd (false≢true (sym (b_silent x asked) ∙ c));
}

-- the name's own record
pub denied_names_falsely : DecidesFalsely without_denied_names Nsec
denied_names_falsely = record {
  zone = bare;
  hash = wire;
  facts = by_links (denial b ∷ []);
  name = b;
  rtype = 1;
  said = NoType;
  servable = bare_served;
  fits = omega arith;
  holds = record { rrset = tt; said = ((b_says, tt), refl) };
  says = refl;
  otherwise = λ e. let n : NoType ≡ NoName = e.0 in cc;
}

-- ---- the wildcard's own record, before that of the apex, which covers the name

star_silent : (x : Name) → Concerns bare b x → covers example star ((0 ∷ []) ∷ star) x ≡ false
star_silent x c = sym (covers-low example star ((0 ∷ []) ∷ star) x) ∙ (elim (one_of x c) [
  | inl e ↦ ap (covers example star ((0 ∷ []) ∷ star)) e
  | inr i ↦ elim i [ inl e ↦ ap (covers example star ((0 ∷ []) ∷ star)) e | inr e ↦ ap (covers example star ((0 ∷ []) ∷ star)) e ]
])

star_says : SaysTruly bare b (denial star)
star_says = record {
  inside = refl;
  direct = refl;
  owner = Denied (record { nxname = refl; plain = refl; missing = record { missing = record { uncut = refl; gone = refl }; gone = no_star star refl } });
  gap = λ w c. ap (covers example star ((0 ∷ []) ∷ star)) (only_apex w c);
  shown = λ p x asked c up a h. absurd (false≢true (sym (star_silent x asked) ∙ c));
}

pub apex_holds : IsTrueLink bare (link example example apex_bits)
apex_holds = record { owner = (0, omega arith, refl); next = refl; bits = apex_spelled }

pub denied_wildcards_falsely : DecidesFalsely without_denied_wildcards Nsec
denied_wildcards_falsely = record {
  zone = bare;
  hash = wire;
  facts = by_links (denial star ∷ link example example apex_bits ∷ []);
  name = b;
  rtype = 1;
  said = StarNoType;
  servable = bare_served;
  fits = omega arith;
  holds = record { rrset = tt; said = ((star_says, (link_says bare bare_served b (link example example apex_bits) apex_holds, tt)), refl) };
  says = refl;
  otherwise = λ e. let n : StarNoType ≡ NoName = e.0 in cc;
}
