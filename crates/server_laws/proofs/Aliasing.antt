-- The responses of a server of a zone with aliases show what the zone answers.
use Rattle.std.proofs.Common.{◌≡◌, ℕ, Bool, true, false, not, ◌&&◌, List, Some, None, Result, Ok, Err, refl, sym, subst, ap, ◌∙◌, inr}
use Rattle.std.specs.Prelude.{MatchBool, if◌then◌else◌, unwrap_or}
use Rattle.std.specs.Option.{option_map}
use Rattle.std.proofs.lemmas.Bool.{false≢true}
use Rattle.definitions.specs.Limits.{pointer_limit}
use Rattle.definitions.specs.Name.{Name, strictly_above}
use Rattle.definitions.specs.Zone.{Zone}
use Rattle.definitions.specs.ZoneChain.{Mode}
use Rattle.denial_laws.specs.Aliases.{is_alias_type}
use Rattle.messages.specs.declared.error.MessageError.{MessageError}
use Rattle.messages.specs.Message.{Asked, Message, message}
use Rattle.answer_zone.specs.Finding.{finds, redirecting}
use Rattle.message_laws.proofs.GivenAliased.{given_with_aliases_is_shown}
use Rattle.message_laws.proofs.ShownAlike.{alike_shows_alike}
use Rattle.message_laws.proofs.ShownLeads.{redirecting_above}
use Rattle.server_answers.specs.Aliases.{alias_in_place, alias_of, asks_all, asks_beside, for_type, may_lead}
use Rattle.server_answers.specs.Glued.{AnswersGlued}
use Rattle.server_answers.specs.Responding.{IsMessage, Serving}
use Rattle.server_answers.specs.Subset.{wants_signatures}
use Rattle.server_answers.specs.World.{served_in}
use Rattle.server_queries.specs.Queries.{Queried}
use Rattle.server_responses.specs.Redirects.{redirect_response}
use Rattle.server_responses.specs.Responses.{error_response}
use Rattle.server_laws.specs.Heard.{AliasedClientsAreShown, ByAlias, HoldsAll, IsAliasAnswered, IsJudgedAs, IsResponse, IsWhole, Itself, ShowsAlike, has_link_in, is_link_shown}
use Rattle.server_laws.proofs.Denied.{alias_shows}
use Rattle.server_laws.proofs.Heard.{link_unasked, responses_judged}
use Rattle.server_laws.proofs.Lists.{mapped_some}
use Rattle.server_laws.proofs.Redirected.{redirected_shows}
use Rattle.server_laws.proofs.Shown.{unasked}

-- ---- an alias that is not above the name stands at it

record IsAtName (a alias : Asked) : Type 0 where
  rtype : ℕ
  is_type : is_alias_type rtype ≡ true
  alias_is : alias ≡ for_type rtype a

module _ (mode : Mode) (z : Zone) (a alias : Asked) (beside : strictly_above alias.name a.name ≡ false) where
  at_name : (t : ℕ) → is_alias_type t ≡ true → Some (for_type t a) ≡ Some alias → IsAtName a alias
  at_name t is e = record { rtype = t; is_type = is; alias_is = (let same : for_type t a ≡ alias = cc in sym same) }

  above_it : option_map (λ d. record { name = d; rtype = 39; class = a.class }) (redirecting z a.name) ≡ Some alias → IsAtName a alias
  above_it e =
      let found = mapped_some (λ (d : Name). record { name = d; rtype = 39; class = a.class }) (redirecting z a.name) alias e in
      absurd (false≢true (sym beside ∙ ap (λ (x : Asked). strictly_above x.name a.name) (sym found.2) ∙ redirecting_above z a.name found.0 found.1))

  in_place : (f c : Bool) → (if f then Some (for_type 39 a) else (if c then Some (for_type 5 a) else option_map (λ d. record { name = d; rtype = 39; class = a.class }) (redirecting z a.name))) ≡ Some alias → IsAtName a alias
  in_place true c e = at_name 39 refl e
  in_place false true e = at_name 5 refl e
  in_place false false e = above_it e

  none_told : None ≡ Some alias → IsAtName a alias
  none_told e = absurd cc

  by_found : (f k : Bool) → is_alias_type a.rtype ≡ k → (if f then (if k then Some a else None) else alias_in_place mode z a) ≡ Some alias → IsAtName a alias
  by_found true true is e = at_name a.rtype is e
  by_found true false is e = none_told e
  by_found false k is e = in_place (asks_all a && finds z a.name 39) (not (asks_beside mode z a) && finds z a.name 5) e

  at_it : alias_of mode z a ≡ Some alias → IsAtName a alias
  at_it e = go (may_lead z.name a) e
    where
      go : (l : Bool) → (if not l then None else (if finds z a.name a.rtype then (if is_alias_type a.rtype then Some a else None) else alias_in_place mode z a)) ≡ Some alias → IsAtName a alias
      go true e = by_found (finds z a.name a.rtype) (is_alias_type a.rtype) refl e
      go false e = none_told e

-- ---- whole responses

all_held : (s : Serving) (q : Queried) (octets : List ℕ) → IsWhole s q octets → HoldsAll s q octets
all_held s q octets w = record { zone = w.zone; asked = w.asked; wanted = w.wanted; limit = w.limit; size = w.size; whole = w.whole }

module _ (s : Serving) (q : Queried) (octets m : List ℕ) (w : IsWhole s q octets) where
  -- it is no question for NSEC
  unlinked : is_link_shown q m ≡ false
  unlinked = never_shown (message pointer_limit m)
    where
      never_shown : (o : Result Message MessageError) → has_link_in q m o ≡ false
      never_shown (Err e) = refl
      never_shown (Ok read) = unasked q m read.records (link_unasked s q octets w m)

  aliased : IsAliasAnswered s q octets m → ShowsAlike octets m
  aliased r = go (strictly_above r.alias.name q.asked.name) refl r.is_response
    where
      go : (b : Bool) → strictly_above r.alias.name q.asked.name ≡ b
          → MatchBool b (octets ≡ unwrap_or (redirect_response s.limit s.size q m) (error_response s.size q 2)) (AnswersGlued s.limit s.size q s.addresses m octets) → ShowsAlike octets m
      go true above are = redirected_shows s q r.alias m octets (all_held s q octets w) (record { answers = r.answers; above = above; is_message = r.is_message }) are
      go false beside glued =
          let there : IsAtName q.asked r.alias = at_it s.world.zone.mode (served_in s.world).zone q.asked r.alias beside r.answers in
          alias_shows s q there.rtype m octets (all_held s q octets w) there.is_type (subst (λ (x : Asked). IsMessage s x false (wants_signatures q) m) there.alias_is r.is_message) glued unlinked

  shows_itself : (other : List ℕ) → IsJudgedAs octets other → ShowsAlike octets other
  shows_itself other j = record { verifies = λ t plain. (j.proves t plain).verified; suggests = j.suggests }

  pub response_shows : IsResponse s q octets m → ShowsAlike octets m
  response_shows (Itself {old} {new} r same) = subst (ShowsAlike octets) same (shows_itself r.m (responses_judged s q old new octets w r))
  response_shows (ByAlias r) = aliased r

pub aliased_clients_shown : AliasedClientsAreShown
aliased_clients_shown s t q p old new key_octets octets m whole d other r a h mode rs given =
    let shows = response_shows t p octets m other r in
    alike_shows_alike a pointer_limit h mode rs key_octets d.m octets m (responses_judged s q old new key_octets whole d).seen shows.verifies (inr (shows.suggests h))
    (given_with_aliases_is_shown a pointer_limit (record h { dnskey_bytes = d.m; answer_bytes = m }) mode rs given)
