-- The RRsets of a zone's NSEC3 records in an answer: they are apart, and say the links of the zone's own facts.
use Rattle.std.proofs.Common.{◌≡◌, ℕ, ◌/◌, ◌%◌, ◌*◌, ◌+◌, zero, suc, ◌<◌, Bool, true, false, ◌&&◌, List, [], ◌∷◌, map, refl, sym, ap, ◌∙◌, inl, inr, arith}
use Rattle.std.specs.Prelude.{◌==◌, if◌then◌else◌}
use Rattle.std.specs.declared.cmp.Ordering.{Ordering}
use Rattle.std.specs.declared.cmp.Ordering.TheVariants.{Less, Equal}
use Rattle.std.specs.Char.{to_ascii_lowercase}
use Rattle.std.specs.Cmp.{IsTotalOrder}
use Rattle.std.specs.List.{AllByRecursion, AllZip, list_any}
use Rattle.std.specs.Str.{str_to_ascii_lowercase}
use Rattle.std.proofs.lemmas.Bool.{and_parts, cases_lt, eqb-true, false_from_ne_true, or_from}
use Rattle.std.proofs.lemmas.Cmp.{nat_list_cmp_total, on_total, tied_itself}
use Rattle.definitions.specs.Base32hex.{base32hex, digit}
use Rattle.definitions.specs.Bitmap.{bitmap}
use Rattle.definitions.specs.Name.{Name, low, same}
use Rattle.definitions.specs.Zone.{Zone}
use Rattle.definitions.specs.ZoneChain.{ChainParameters, Mode, Nsec3, hash_cmp, nsec3_data, nsec3_next, nsec3_types, parameters_of}
use Rattle.definitions.proofs.Members.{In, Rises}
use Rattle.numbers.specs.Decoding.{decoded}
use Rattle.numbers.proofs.Decodes.{decodes}
use Rattle.denial_laws.specs.Facts.{HashLink}
use Rattle.denial_laws.specs.OwnFacts.{hash_link_of}
use Rattle.messages.specs.HandedRr.{HandedRr}
use Rattle.messages.specs.Message.{HashedNext}
use Rattle.messages.proofs.Nsec3Read.{chain_reads}
use Rattle.messages.proofs.ZoneNames.{low-low, same_labels}
use Rattle.answer_terms.specs.Accepting.{zone_with}
use Rattle.answer_terms.specs.Served.{ServedRrset, chain_record, served_of}
use Rattle.answer_judge_facts.specs.Verified.{is_known}
use Rattle.answer_judge.proofs.GivenGroups.{SaysHashLink, has_twins, is_rrset}
use Rattle.answer_judge.proofs.GivenHashes.{first_label}
use Rattle.answer_judge.proofs.OwnChain.{low-spelled_as}

-- ---- digits are in lower case

abbrev is_low : ℕ → Bool
is_low c = to_ascii_lowercase c == c

abbrev all_low : ℕ → Bool
all_low zero = true
all_low (suc n) = is_low (digit n) && all_low n

low_at : (n d : ℕ) → all_low n ≡ true → d < n → is_low (digit d) ≡ true
low_at zero d h lt = absurd (omega arith)
low_at (suc n) d h lt =
    let parts = and_parts (is_low (digit n)) (all_low n) h in
    elim (cases_lt d n) [
      | inl below ↦ low_at n d parts.1 below
      | inr top ↦
          let e : d ≡ n = omega arith in
          ap (λ x. is_low (digit x)) e ∙ parts.0
    ]

digit_low : (d : ℕ) → d < 32 → to_ascii_lowercase (digit d) ≡ digit d
digit_low d h = eqb-true (to_ascii_lowercase (digit d)) (digit d) (low_at 32 d refl h)

digits_low : (o : List ℕ) → AllByRecursion (λ x. x < 256) o → str_to_ascii_lowercase (base32hex o) ≡ base32hex o
digits_low [] h = refl
digits_low (a ∷ []) h = λ i. digit_low (a / 8) (omega (arith, h.0)) i ∷ digit_low (a % 8 * 4) (omega arith) i ∷ []
digits_low (a ∷ b ∷ []) h = λ i. digit_low (a / 8) (omega (arith, h.0)) i ∷ digit_low (a % 8 * 4 + b / 64) (omega (arith, h.1.0)) i ∷ digit_low (b / 2 % 32) (omega arith) i ∷ digit_low (b % 2 * 16) (omega arith) i ∷ []
digits_low (a ∷ b ∷ c ∷ []) h = λ i.
    digit_low (a / 8) (omega (arith, h.0)) i ∷ digit_low (a % 8 * 4 + b / 64) (omega (arith, h.1.0)) i ∷ digit_low (b / 2 % 32) (omega arith) i
    ∷ digit_low (b % 2 * 16 + c / 16) (omega (arith, h.1.1.0)) i ∷ digit_low (c % 16 * 2) (omega arith) i ∷ []
digits_low (a ∷ b ∷ c ∷ d ∷ []) h = λ i.
    digit_low (a / 8) (omega (arith, h.0)) i ∷ digit_low (a % 8 * 4 + b / 64) (omega (arith, h.1.0)) i ∷ digit_low (b / 2 % 32) (omega arith) i
    ∷ digit_low (b % 2 * 16 + c / 16) (omega (arith, h.1.1.0)) i ∷ digit_low (c % 16 * 2 + d / 128) (omega (arith, h.1.1.1.0)) i
    ∷ digit_low (d / 4 % 32) (omega arith) i ∷ digit_low (d % 4 * 8) (omega arith) i ∷ []
digits_low (a ∷ b ∷ c ∷ d ∷ e ∷ o) h = λ i.
    digit_low (a / 8) (omega (arith, h.0)) i ∷ digit_low (a % 8 * 4 + b / 64) (omega (arith, h.1.0)) i ∷ digit_low (b / 2 % 32) (omega arith) i
    ∷ digit_low (b % 2 * 16 + c / 16) (omega (arith, h.1.1.0)) i ∷ digit_low (c % 16 * 2 + d / 128) (omega (arith, h.1.1.1.0)) i
    ∷ digit_low (d / 4 % 32) (omega arith) i ∷ digit_low (d % 4 * 8 + e / 32) (omega (arith, h.1.1.1.1.0)) i ∷ digit_low (e % 32) (omega arith) i
    ∷ digits_low o h.1.1.1.1.1 i

-- ---- flags

abbrev pub flag : Bool → ℕ
flag b = if b then 1 else 0

pub flag_back : (b : Bool) → (flag b == 1) ≡ b
flag_back true = refl
flag_back false = refl

-- ---- the records

abbrev pub by_hash : (Name → List ℕ) → Name → Name → Ordering
by_hash hash a b = hash_cmp (hash a) (hash b)

pub by_hash_total : (hash : Name → List ℕ) → IsTotalOrder (by_hash hash)
by_hash_total hash = on_total hash nat_list_cmp_total

module _ (apex : Name) (rs : List HandedRr) (hash : Name → List ℕ) (iterations : ℕ) (salt : List ℕ) (optout : Bool) where
  abbrev z : Zone
  z = zone_with apex rs

  abbrev mode : Mode
  mode = Nsec3 iterations salt optout

  abbrev parameters : ChainParameters
  parameters = parameters_of mode

  abbrev pub hashed_group : Name → ServedRrset
  hashed_group o = chain_record (served_of apex mode hash rs) o

  abbrev pub hash_link : Name → HashLink
  hash_link o = hash_link_of z hash iterations salt optout o

  abbrev HasOctets : Name → Type 0
  HasOctets o = AllByRecursion (λ x. x < 256) (hash o)

  pub low-hashed_owner : (o : Name) → HasOctets o → low (hashed_group o).owner ≡ base32hex (hash o) ∷ low apex
  low-hashed_owner o octets = λ i. digits_low (hash o) octets i ∷ low-spelled_as apex rs (low apex) (low-low apex) i

  -- hashes have the digits of one hash only
  unlike : (o n : Name) → HasOctets o → HasOctets n → by_hash hash o n ≡ Less → same (hashed_group n).owner (hashed_group o).owner ≡ false
  unlike o n a b l = false_from_ne_true _ (λ e.
      let alike : base32hex (hash n) ∷ low apex ≡ base32hex (hash o) ∷ low apex = sym (low-hashed_owner n b) ∙ same_labels (low (hashed_group n).owner) (low (hashed_group o).owner) e ∙ low-hashed_owner o a in
      let digits : base32hex (hash n) ≡ base32hex (hash o) = first_label (base32hex (hash n)) (base32hex (hash o)) (low apex) (low apex) alike in
      let is : hash n ≡ hash o = sym (decodes (hash n) b) ∙ ap decoded digits ∙ decodes (hash o) a in
      let even : by_hash hash o n ≡ Equal = ap (hash_cmp (hash o)) is ∙ tied_itself nat_list_cmp_total (hash o) in
      let bad : Less ≡ Equal = sym l ∙ even in
      cc)

  none_later : (o : Name) (ns : List Name) → HasOctets o → ((n : Name) → In n ns → HasOctets n) → ((n : Name) → In n ns → by_hash hash o n ≡ Less) → list_any (is_rrset (hashed_group o).owner 50) (map hashed_group ns) ≡ false
  none_later o [] a b h = refl
  none_later o (n ∷ ns) a b h = or_from _ _ (unlike o n a (b n (inl refl)) (h n (inl refl))) (none_later o ns a (λ x j. b x (inr j)) (λ x j. h x (inr j)))

  pub hashed_apart : (ns : List Name) → ((n : Name) → In n ns → HasOctets n) → Rises (by_hash hash) (by_hash_total hash) ns → has_twins (map hashed_group ns) ≡ false
  hashed_apart [] b h = refl
  hashed_apart (n ∷ ns) b h = or_from _ _ (none_later n ns (b n (inl refl)) (λ x j. b x (inr j)) h.0) (hashed_apart ns (λ x j. b x (inr j)) h.1)

  -- ---- what they say

  abbrev next : Name → HashedNext
  next o = record { algorithm = 1; flags = flag optout; iterations = iterations; salt = salt; next = nsec3_next hash z optout o; bits = bitmap (nsec3_types z true o) }

  next_known : (o : Name) → is_known (next o) ≡ true
  next_known o = go optout
    where
      go : (b : Bool) → is_known (record (next o) { flags = flag b }) ≡ true
      go true = refl
      go false = refl

  pub says : iterations < 65536 → (o : Name) → HasOctets o → SaysHashLink apex (hashed_group o) (hash_link o)
  says small o octets = record {
    octets = octets;
    owner_is = low-hashed_owner o octets;
    datum = nsec3_data hash z parameters o;
    data_are = refl;
    next = next o;
    reads = chain_reads hash z parameters o small;
    known = next_known o;
    is = λ i. record (hash_link o) { opt_out = flag_back optout i };
  }

  pub hashed_say : iterations < 65536 → (ns : List Name) → ((n : Name) → In n ns → HasOctets n) → AllZip (SaysHashLink apex) (map hashed_group ns) (map hash_link ns)
  hashed_say small [] b = tt
  hashed_say small (o ∷ ns) b = (says small o (b o (inl refl)), hashed_say small ns (λ x j. b x (inr j)))
