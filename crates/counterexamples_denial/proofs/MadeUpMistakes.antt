-- Records whose owners a signer made up for a question (RFC 4470), of which wrong rules make what the zone does not say, by computing.
use Rattle.std.proofs.Common.{◌≡◌, ◌⊎◌, ℕ, List, [], ◌∷◌, ◌||◌, false, true, refl, sym, ap, ◌∙◌, inl, inr, arith}
use Rattle.std.specs.Prelude.{codes, Contains}
use Rattle.std.proofs.lemmas.Bool.{and_parts, or_cases, false≢true}
use Rattle.definitions.specs.Bitmap.{bitmap, octet_of, window_size, window_count}
use Rattle.definitions.specs.Covering.{before, covers}
use Rattle.definitions.specs.Name.{Name, at_or_above, low, same, wire}
use Rattle.definitions.specs.Zone.{Rr, NoType, NoName, StarNoType, StarRecords, exists}
use Rattle.definitions.specs.ZoneChain.{Nsec, nsec_names}
use Rattle.definitions.proofs.Members.{in_contained}
use Rattle.definitions.proofs.NameLaws.{apex_first, name_cmp_total, same_is_equal}
use Rattle.denial_laws.specs.Facts.{Link}
use Rattle.denial_laws.specs.NsecRules.{shows}
use Rattle.denial_laws.specs.Truth.{Concerns, SaysTruly, MadeUp, concerned}
use Rattle.denial_laws.proofs.ChainSays.{link_says}
use Rattle.denial_laws.proofs.NameFacts.{above_both, above_cases, before_less, covers-low, not_after, same_names}
use Rattle.counterexamples_denial.specs.Mistakes.{without_made_up_enclosers, without_made_up_names, without_first_names, without_made_up_wildcards}
use Rattle.counterexamples_denial.specs.Falsely.{DecidesFalsely}
use Rattle.counterexamples_denial.proofs.DeniedMistakes.{apex_holds, only_apex}
use Rattle.counterexamples_denial.proofs.Zones.{example, star, b, bare, bare_served, starred, starred_served, zone_of, link, by_links, apex_bits}

-- the bits of RRSIG and NSEC
abbrev pub made_bits : List ℕ
made_bits = 0 ∷ 6 ∷ 0 ∷ 0 ∷ 0 ∷ 0 ∷ 0 ∷ 3 ∷ []

made_spelled : made_bits ≡ bitmap (46 ∷ 47 ∷ [])
unfolding octet_of window_size window_count
made_spelled = refl

-- a record of two names right below the apex
abbrev pub made : List ℕ → List ℕ → Link
made l k = link (l ∷ example) (k ∷ example) made_bits

-- what it shows above a name that it covers is the apex
module _ (rs : List Rr) (l k : List ℕ) (apex : exists (zone_of rs) example ≡ true) where
  apex_there : (p : Name) → at_or_above p example ≡ true → at_or_above example p ≡ true → exists (zone_of rs) (low p) ≡ true
  apex_there p up a = ap (exists (zone_of rs)) (same_names p example (above_both p example up a)) ∙ apex

  not_next : (p x : Name) → before x (k ∷ example) ≡ true → at_or_above p x ≡ true → same p (k ∷ example) ≡ true → ⊥
  not_next p x b up s = apex_first p x up (name_cmp_total.congr p (k ∷ example) x (same_is_equal p (k ∷ example) s) ∙ not_after x (k ∷ example) (before_less x (k ∷ example) b))

  made_shown : same (k ∷ example) example ≡ false → (p x : Name) → covers example (l ∷ example) (k ∷ example) x ≡ true → at_or_above p x ≡ true → at_or_above example p ≡ true → shows (made l k) p ≡ true → exists (zone_of rs) (low p) ≡ true
  made_shown last p x c up a h =
      let between = (and_parts (before (l ∷ example) x) _ c).1 in
      let behind : before x (k ∷ example) ≡ true = ap (λ b. b || before x (k ∷ example)) (sym last) ∙ between in
      elim (or_cases (at_or_above p example) (at_or_above p (k ∷ example)) h) [
        | inl b ↦ apex_there p b a
        | inr b ↦ elim (above_cases p (k ∷ example) b) [
          | inl s ↦ absurd (not_next p x behind up s)
          | inr s ↦ apex_there p s a
        ]
      ]

-- ---- beside a wildcard, between two names that do not exist

abbrev pub m : Name
m = codes "m" ∷ example

abbrev pub n : Name
n = codes "n" ∷ example

abbrev pub x_m : Name
x_m = codes "x" ∷ m

-- a live owner
two_names : (w : Name) → Contains (nsec_names starred) w → (w ≡ example) ⊎ (w ≡ star)
two_names w c = elim (in_contained (nsec_names starred) w c.0 c.1 c.2) [
  | inl e ↦ inl e
  | inr i ↦ elim i [ inl e ↦ inr e | inr none ↦ absurd none ]
]

gap : (next : Name) → covers example m next example ≡ false → covers example m next star ≡ false → (w : Name) → Contains (nsec_names starred) w → covers example m next w ≡ false
gap next a s w c = elim (two_names w c) [ inl e ↦ ap (covers example m next) e ∙ a | inr e ↦ ap (covers example m next) e ∙ s ]

made_says : (q : Name) → SaysTruly starred q (link m n made_bits)
made_says q = record {
  inside = refl;
  direct = refl;
  owner = MadeUp (record { gone = refl; bare = refl; untold = λ h. refl });
  gap = gap n refl refl;
  shown = λ p x asked c up a h. made_shown starred.records (codes "m") (codes "n") refl refl p x c up a h;
}

-- below the owner
pub made_up_enclosers_falsely : DecidesFalsely without_made_up_enclosers Nsec
made_up_enclosers_falsely = record {
  zone = starred;
  hash = wire;
  facts = by_links (link m n made_bits ∷ []);
  name = x_m;
  rtype = 1;
  said = NoName;
  servable = starred_served;
  fits = omega arith;
  holds = record { rrset = tt; said = ((made_says x_m, tt), refl) };
  says = refl;
  otherwise = λ e. let n : NoName ≡ StarRecords ((192 ∷ 0 ∷ 2 ∷ 1 ∷ []) ∷ []) = e.0 in cc;
}

-- the owner itself
pub made_up_names_falsely : DecidesFalsely without_made_up_names Nsec
made_up_names_falsely = record {
  zone = starred;
  hash = wire;
  facts = by_links (link m n made_bits ∷ []);
  name = m;
  rtype = 1;
  said = NoType;
  servable = starred_served;
  fits = omega arith;
  holds = record { rrset = tt; said = ((made_says m, tt), refl) };
  says = refl;
  otherwise = λ e. let n : NoType ≡ StarRecords ((192 ∷ 0 ∷ 2 ∷ 1 ∷ []) ∷ []) = e.0 in cc;
}

-- the owner itself, the next name below it: it covers none of the names that the question concerns
one_of : (x : Name) → Concerns starred m x → (low x ≡ m) ⊎ ((low x ≡ example) ⊎ (low x ≡ star))
one_of x c = elim (in_contained (concerned example m) (low x) c.0 c.1 c.2) [
  | inl e ↦ inl e
  | inr i ↦ elim i [
    | inl e ↦ inr (inl e)
    | inr j ↦ elim j [ inl e ↦ inr (inr e) | inr none ↦ absurd none ]
  ]
]

m_silent : (x : Name) → Concerns starred m x → covers example m x_m x ≡ false
m_silent x c = sym (covers-low example m x_m x) ∙ (elim (one_of x c) [
  | inl e ↦ ap (covers example m x_m) e
  | inr i ↦ elim i [ inl e ↦ ap (covers example m x_m) e | inr e ↦ ap (covers example m x_m) e ]
])

m_says : SaysTruly starred m (link m x_m made_bits)
m_says = record {
  inside = refl;
  direct = refl;
  owner = MadeUp (record { gone = refl; bare = refl; untold = λ h. refl });
  gap = gap x_m refl refl;
  shown = λ p x asked c up a h. absurd (false≢true (sym (m_silent x asked) ∙ c));
}

pub first_names_falsely : DecidesFalsely without_first_names Nsec
first_names_falsely = record {
  zone = starred;
  hash = wire;
  facts = by_links (link m x_m made_bits ∷ []);
  name = m;
  rtype = 1;
  said = NoType;
  servable = starred_served;
  fits = omega arith;
  holds = record { rrset = tt; said = ((m_says, tt), refl) };
  says = refl;
  otherwise = λ e. let n : NoType ≡ StarRecords ((192 ∷ 0 ∷ 2 ∷ 1 ∷ []) ∷ []) = e.0 in cc;
}

-- ---- at a wildcard that does not exist, before the record of the apex, which covers the name

abbrev pub plus : Name
plus = codes "+" ∷ example

star_says : SaysTruly bare b (link star plus made_bits)
star_says = record {
  inside = refl;
  direct = refl;
  owner = MadeUp (record { gone = refl; bare = refl; untold = λ h. refl });
  gap = λ w c. ap (covers example star plus) (only_apex w c);
  shown = λ p x asked c up a h. made_shown bare.records (codes "*") (codes "+") refl refl p x c up a h;
}

pub made_up_wildcards_falsely : DecidesFalsely without_made_up_wildcards Nsec
made_up_wildcards_falsely = record {
  zone = bare;
  hash = wire;
  facts = by_links (link star plus made_bits ∷ link example example apex_bits ∷ []);
  name = b;
  rtype = 1;
  said = StarNoType;
  servable = bare_served;
  fits = omega arith;
  holds = record { rrset = tt; said = ((star_says, (link_says bare bare_served b (link example example apex_bits) apex_holds, tt)), refl) };
  says = refl;
  otherwise = λ e. let n : StarNoType ≡ NoName = e.0 in cc;
}
