-- A zone while it is opened.
use Rattle.std.proofs.Common.{◌≡◌, ℕ, true, List, [], refl, sym, ap, subst, ◌∙◌, Option, Some, None}
use Rattle.std.specs.List.{AllByRecursion}
use Rattle.std.specs.Prelude.{if◌then◌else◌, map}
use Rattle.definitions.specs.Name.{IsName, Name}
use Rattle.definitions.specs.ZoneChain.{Mode}
use Rattle.messages.specs.Handed.{IsHanded}
use Rattle.messages.specs.HandedRr.{HandedRr, handed_of}
use Rattle.answer_zone.specs.HashedZone.{HashedZone, accepted_zone}
use Rattle.answer_zone_records.specs.AliasFaults.{IsAcceptedWithAliases, IsOrderlyList, first_plain_fault}
use Rattle.answer_zone_records.specs.declared.fault.ZoneFault.TheVariants as fault
use Rattle.answer_publisher_keys.specs.Bindings.{no_keys}
use Rattle.answer_publisher.specs.World.{zone_by}
use Rattle.answer_terms.specs.Accepting.{sorted_records}
use Rattle.answer_terms.specs.Hashing.{Hasher}
use Rattle.answer_terms.specs.ZoneView.{AcceptedZone}
use Rattle.answer_publisher.specs.declared.publishing.Publisher.{Publisher}
use Rattle.session_grammar.specs.Grammar.{ZoneLine}
use Rattle.server_answers.specs.Zones.{IsAcceptedZone}
use Rattle.server_glue.specs.Glue.{addresses_of}
use Rattle.server_zone.specs.StateLines.{StateLine, Nothing, Added, Replaced, Called, Other, is_event}
use Rattle.server_zone.specs.States.{Digest, HoldsZone, IsRestKept, RefusesLine, RefusesTo, State, after, greatest_ttl, made, state_of}
use Rattle.server_zone.specs.Journals.{IsFresh, IsOpening, RefusesOwn, own_line, ran}
use Rattle.server_zone.specs.declared.open_zone.Zone.{Zone}
use Rattle.server_zone.specs.declared.opening.Phase.{Phase as CodePhase}
use Rattle.server_zone.specs.declared.refusals.Refusal.{Refusal}
use Rattle.server_zone.proofs.JournalLemmas.{own_refused}

-- the first event is followed as by the zone of its own records
pub begun : (digest : Digest) (z : ZoneLine) (rs : List HandedRr) (l : StateLine) → is_event l ≡ true → own_line digest z rs l ≡ ran (after digest l (made z rs))
begun digest z rs Nothing e = absurd (cc)
begun digest z rs (Added r) e = absurd (cc)
begun digest z rs (Replaced at) e = refl
begun digest z rs (Called at c) e = refl
begun digest z rs Other e = refl

pub refused_as : (digest digest' : Digest) (hash hash' : Hasher) (latest latest' : Option ℕ) (s s' : State) (l : StateLine) (f : Refusal) → digest' ≡ digest → hash' ≡ hash → latest' ≡ latest → s' ≡ s → RefusesTo digest' hash' latest' s' l f → RefusesTo digest hash latest s l f
refused_as digest digest' hash hash' latest latest' s s' l f d k n is h =
    subst (λ u. RefusesTo digest hash latest u l f) is
    (subst (λ u. RefusesTo digest hash u s' l f) n
    (subst (λ u. RefusesTo digest u latest' s' l f) k
    (subst (λ u. RefusesTo u hash' latest' s' l f) d h)))

pub begun_refused : (digest digest' : Digest) (hash hash' : Hasher) (latest : Option ℕ) (z : ZoneLine) (rs : List HandedRr) (l : StateLine) (s : State) (f : Refusal) → is_event l ≡ true → digest' ≡ digest → hash' ≡ hash → latest ≡ None → s ≡ made z rs
    → RefusesTo digest' hash' latest s l f → RefusesOwn digest hash z rs l f
begun_refused digest digest' hash hash' latest z rs l s f event d k n is h =
    own_refused digest hash z rs l f event (refused_as digest digest' hash hash' None latest (made z rs) s l f d k n is h)

pub line_refused_as : (digest digest' : Digest) (hash hash' : Hasher) (latest latest' : Option ℕ) (s : State) (line : List ℕ) (f : Refusal) → digest' ≡ digest → hash' ≡ hash → latest' ≡ latest → RefusesLine digest' hash' latest' s line f → RefusesLine digest hash latest s line f
line_refused_as digest digest' hash hash' latest latest' s line f d k n h =
    subst (λ u. RefusesLine digest hash u s line f) n
    (subst (λ u. RefusesLine digest u latest' s line f) k
    (subst (λ u. RefusesLine u hash' latest' s line f) d h))

pub fresh_after : {S H : Type 0} (hash : Hasher) (scheme : S) (hasher : H) (old new : Zone S H) → IsRestKept old.publisher new.publisher → (HoldsZone hash old → HoldsZone hash new) → IsFresh hash scheme hasher old → IsFresh hash scheme hasher new
fresh_after {S = S} {H = H} hash scheme hasher old new rest kept f = record {
  scheme_is = ap (λ (p : Publisher S H). p.scheme.now) rest ∙ f.scheme_is;
  hasher_is = ap (λ (p : Publisher S H). p.zone.hasher) rest ∙ f.hasher_is;
  unanswered = ap (λ (p : Publisher S H). p.latest) rest ∙ f.unanswered;
  holds = kept f.holds;
}

-- a fresh zone is one of its own scheme and hasher
pub own_fresh : {S H : Type 0} (hash_of : H → Hasher) (scheme : S) (hasher : H) (z : Zone S H) → IsFresh (hash_of hasher) scheme hasher z
    → IsFresh (hash_of z.publisher.zone.hasher) z.publisher.scheme.now z.publisher.zone.hasher z
own_fresh hash_of scheme hasher z f = record {
  scheme_is = refl;
  hasher_is = refl;
  unanswered = f.unanswered;
  holds = subst (λ k. HoldsZone (hash_of k) z) (sym f.hasher_is) f.holds;
}

-- and what goes on from it is one of the scheme and the hasher that it was opened with
pub fresh_opened : {S H : Type 0} (hash_of : H → Hasher) (scheme : S) (hasher : H) (z : Zone S H) (q : CodePhase S H) → IsFresh (hash_of hasher) scheme hasher z
    → IsOpening (hash_of z.publisher.zone.hasher) z.publisher.scheme.now z.publisher.zone.hasher q → IsOpening (hash_of hasher) scheme hasher q
fresh_opened hash_of scheme hasher z q f h =
    subst (λ u. IsOpening (hash_of u) scheme u q) f.hasher_is (subst (λ u. IsOpening (hash_of z.publisher.zone.hasher) u z.publisher.zone.hasher q) f.scheme_is h)

-- the zone of its publisher's world is accepted
pub fresh_accepted : {S H : Type 0} (hash_of : H → Hasher) (scheme : S) (hasher : H) (z : Zone S H) → IsFresh (hash_of hasher) scheme hasher z → IsAcceptedZone (hash_of z.publisher.zone.hasher) (accepted_zone z.publisher.zone)
fresh_accepted hash_of scheme hasher z f = (own_fresh hash_of scheme hasher z f).holds.zone

-- ---- a zone of its own records

pub made_of : {S H : Type 0} (zl : ZoneLine) (rs : List HandedRr) (z : Zone S H) (p : Publisher S H) → z.publisher ≡ p → z.gathered.items ≡ [] → z.last ≡ None → z.closed ≡ None → z.life ≡ zl.life → z.ttl ≡ greatest_ttl 0 rs
    → accepted_zone p.zone ≡ zone_by zl.apex zl.mode zl.limit rs → p.keys ≡ no_keys zl.apex → state_of z ≡ made zl rs
made_of {S = S} {H = H} zl rs z p same gathered last closed life ttl zone keys =
    let zone_is = ap (λ (q : Publisher S H). accepted_zone q.zone) same ∙ zone in
    let keys_are = ap (λ (q : Publisher S H). q.keys) same ∙ keys in
    (λ i. record { zone = zone_is i; life = life i; keys = keys_are i; gathered = map handed_of (gathered i); last = last i; closed = closed i; ttl = ttl i })

pub fresh_of : {S H : Type 0} (hash : Hasher) (scheme : S) (hasher : H) (zl : ZoneLine) (rs : List HandedRr) (z : Zone S H) (p : Publisher S H) → z.publisher ≡ p → p.scheme.now ≡ scheme → p.zone.hasher ≡ hasher → p.latest ≡ None
    → accepted_zone p.zone ≡ zone_by zl.apex zl.mode zl.limit rs → p.life ≡ zl.life → IsName zl.apex → AllByRecursion IsHanded rs → IsAcceptedWithAliases hash zl.apex zl.mode zl.limit rs
    → z.addresses ≡ addresses_of rs → z.life ≡ zl.life → IsFresh hash scheme hasher z
fresh_of {S = S} {H = H} hash scheme hasher zl rs z p same scheme_is hasher_is unanswered zone life named handed accepted addresses own_life =
    let zone_is : accepted_zone z.publisher.zone ≡ zone_by zl.apex zl.mode zl.limit rs = ap (λ (q : Publisher S H). accepted_zone q.zone) same ∙ zone in
    record {
      scheme_is = ap (λ (q : Publisher S H). q.scheme.now) same ∙ scheme_is;
      hasher_is = ap (λ (q : Publisher S H). q.zone.hasher) same ∙ hasher_is;
      unanswered = ap (λ (q : Publisher S H). q.latest) same ∙ unanswered;
      holds = record {
        zone = record {
          records = rs;
          apex_is = subst (λ (y : AcceptedZone). IsName y.apex) (sym zone_is) named;
          records_are = handed;
          accepted = subst (λ (y : AcceptedZone). IsAcceptedWithAliases hash y.apex y.mode y.limit rs) (sym zone_is) accepted;
          sorted = ap (λ (y : AcceptedZone). y.records) zone_is;
        };
        addresses = addresses;
        life = ap (λ (q : Publisher S H). q.life) same ∙ life ∙ sym own_life;
      };
    }

-- ---- a zone that lines change

-- whose records stay
pub same_zone : {S H : Type 0} (hash : Hasher) (old new : Zone S H) → new.publisher.zone ≡ old.publisher.zone → new.publisher.life ≡ old.publisher.life → new.addresses ≡ old.addresses → new.life ≡ old.life → HoldsZone hash old → HoldsZone hash new
same_zone {H = H} hash old new zone life addresses own_life h = record {
  zone = record {
    records = h.zone.records;
    apex_is = subst (λ (y : HashedZone H). IsName y.apex) (sym zone) h.zone.apex_is;
    records_are = h.zone.records_are;
    accepted = subst (λ (y : HashedZone H). IsAcceptedWithAliases hash y.apex y.mode y.limit h.zone.records) (sym zone) h.zone.accepted;
    sorted = ap (λ (y : HashedZone H). y.records) zone ∙ h.zone.sorted;
  };
  addresses = addresses ∙ h.addresses;
  life = life ∙ h.life ∙ sym own_life;
}

-- whose records are replaced
pub other_zone : {S H : Type 0} (hash : Hasher) (rs : List HandedRr) (old new : Zone S H) → new.publisher ≡ record old.publisher { zone = record old.publisher.zone { records = sorted_records rs } }
    → AllByRecursion IsHanded rs → IsAcceptedWithAliases hash old.publisher.zone.apex old.publisher.zone.mode old.publisher.zone.limit rs → new.addresses ≡ addresses_of rs → new.life ≡ old.life
    → HoldsZone hash old → HoldsZone hash new
other_zone {S = S} {H = H} hash rs old new publisher handed accepted addresses own_life h = record {
  zone = record {
    records = rs;
    apex_is = subst (λ (p : Publisher S H). IsName p.zone.apex) (sym publisher) h.zone.apex_is;
    records_are = handed;
    accepted = subst (λ (p : Publisher S H). IsAcceptedWithAliases hash p.zone.apex p.zone.mode p.zone.limit rs) (sym publisher) accepted;
    sorted = ap (λ (p : Publisher S H). p.zone.records) publisher;
  };
  addresses = addresses;
  life = ap (λ (p : Publisher S H). p.life) publisher ∙ h.life ∙ sym own_life;
}

-- an accepted list has no fault but of aliases or the chain
pub no_plain : (apex : Name) (mode : Mode) (limit : ℕ) (rs : List HandedRr) → IsOrderlyList apex mode limit rs → first_plain_fault apex mode limit rs ≡ None
no_plain apex mode limit rs f = λ i.
    if f.plain.of_class_in i then Some fault.WrongClass
    else if f.plain.inside i then Some fault.OutsideApex
    else if f.plain.unsigned i then Some fault.SignedType
    else if f.plain.known i then Some fault.MetaType
    else if f.plain.no_star_delegation i then Some fault.StarNs
    else if f.within_limit i then Some fault.IterationsOverLimit
    else None
