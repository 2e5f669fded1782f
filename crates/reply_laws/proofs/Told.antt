-- What is told of the same request twice.
use Rattle.std.proofs.Common.{◌≡◌, ◌∙◌, ℕ, ◌<◌, ◌≤◌, Bool, true, false, List, [], ◌∷◌, ◌++◌, length, drop, Option, Some, None, refl, sym, ap, subst, inl, inr, arith, length-append}
use Rattle.std.specs.Prelude.{◌⊎◌, nat_le, if◌then◌else◌}
use Rattle.std.specs.List.{flat_map}
use Rattle.std.proofs.lemmas.Bool.{false≢true, leb-true, leb-false, le-leb}
use Rattle.messages.specs.HandedRr.{HandedRr}
use Rattle.answer_publisher_keys.specs.Bindings.{ZoneKeys}
use Rattle.answer_publisher.specs.Replacing.{is_too_soon}
use Rattle.answer_judge_octets.specs.Written.{IsList}
use Rattle.server_responses.specs.declared.transport.Transport.{Transport}
use Rattle.server_answers.specs.Requests.{Responds}
use Rattle.server_answers.specs.Table.{Made}
use Rattle.server_answers.specs.World.{World}
use Rattle.server_answers.specs.declared.requests.Response.{Response}
use Rattle.server_answers.specs.declared.requests.Response.TheVariants as response
use Rattle.server_zone_octets.specs.Entries.{FitsMade, entries_of, made_octets}
use Rattle.server_zone_octets.specs.Requests.{AnswersRequest, HasNoResponse, IsAnswerTold, IsResponded, IsTimely, IsToldResponse, TellsResponse, moment_of, serving_of, transport_of}
use Rattle.server_zone_octets.specs.Telling.{CodeAndOctets, IsHandedOut, is_known, only, telling, told_report}
use Rattle.server_zone_octets.specs.declared.code.ZoneCode.{ZoneCode}
use Rattle.server_zone_octets.specs.declared.code.ZoneCode.TheVariants as c
use Rattle.server_zone_octets.specs.declared.report.ZoneReport.{ZoneReport}
use Rattle.server_zone_octets.specs.declared.request.OctetRequest.{OctetRequest}
use Rattle.server_zone_octets.proofs.EntriesMade.{once_made, some_made}
use Rattle.reply_laws.specs.Replies.{AsksOne, IsFailedReply, IsFailure, IsServfail, Replied, SameCallsReplyAlike, SameRequestsAreToldAlike, replied}
use Rattle.reply_laws.proofs.Served.{HasFailed, Said, Silence, Octets, Wants, failed, responds_alike, said_by}

-- ---- tables

-- octets are those of one list of signatures
lists_once : (xs ys : List Made) (octets : List ℕ) → IsList FitsMade made_octets octets xs → IsList FitsMade made_octets octets ys → xs ≡ ys
lists_once [] [] octets p q = refl
lists_once [] (y ∷ ys) octets p q =
    let e : made_octets y ++ flat_map made_octets ys ≡ [] = sym q.octets_are ∙ p.octets_are in
    absurd (omega (arith, some_made y, ap length e, length-append (made_octets y) (flat_map made_octets ys)))
lists_once (x ∷ xs) [] octets p q =
    let e : made_octets x ++ flat_map made_octets xs ≡ [] = sym p.octets_are ∙ q.octets_are in
    absurd (omega (arith, some_made x, ap length e, length-append (made_octets x) (flat_map made_octets xs)))
lists_once (x ∷ xs) (y ∷ ys) octets p q =
    let first = once_made x y (flat_map made_octets xs) (flat_map made_octets ys) p.fit.0 q.fit.0 (sym p.octets_are ∙ q.octets_are) in
    let rest =
    lists_once xs ys (flat_map made_octets xs) (record { fit = p.fit.1; octets_are = refl }) (record { fit = q.fit.1; octets_are = first.1 })
    in
    λ i. first.0 i ∷ rest i

-- ---- what is told of a response

abbrev pub told_by : Said → CodeAndOctets
told_by Silence = only c.NoResponse
told_by (Octets octets) = telling c.Response octets
told_by (Wants inputs) = telling c.Sign (entries_of inputs)

told_as : (x : Response) (said : CodeAndOctets) → IsToldResponse x said → (said ≡ told_by (said_by x)) ⊎ (said.code ≡ c.OutOfMemory)
told_as response.Nothing said h = inl h
told_as (response.Reply v) said h = inl h
told_as (response.Sign v) said (inl h) = inl h.0
told_as (response.Sign v) said (inr h) = inr (ap (λ (x : CodeAndOctets). x.code) h)

-- ---- what is wrong with a request, but that its signatures are none

abbrev pub late_code : ℕ → Option ℕ → OctetRequest → Option ZoneCode
late_code life closed r = if nat_le life r.backdate then Some c.Expired else if is_too_soon closed (moment_of r) then Some c.TooSoon else None

abbrev pub early_in : ℕ → Option ℕ → OctetRequest → Option Transport → Option ZoneCode
early_in life closed r None = Some c.BadCall
early_in life closed r (Some transport) = late_code life closed r

abbrev pub early : ℕ → Option ℕ → OctetRequest → Option ZoneCode
early life closed r = early_in life closed r (transport_of r)

module _ (life : ℕ) (closed : Option ℕ) (r : OctetRequest) where
  carried_early : (transport : Transport) → transport_of r ≡ Some transport → early life closed r ≡ late_code life closed r
  carried_early transport e = ap (early_in life closed r) e

  lives_test : r.backdate < life → nat_le life r.backdate ≡ false
  lives_test h = go (nat_le life r.backdate) refl
    where
      go : (b : Bool) → nat_le life r.backdate ≡ b → b ≡ false
      go false e = refl
      go true e = let back = leb-true life r.backdate e in absurd (omega arith)

  expired_early : life ≤ r.backdate → late_code life closed r ≡ Some c.Expired
  expired_early h = ap (λ (b : Bool). if b then Some c.Expired else if is_too_soon closed (moment_of r) then Some c.TooSoon else None) (le-leb life r.backdate h)

  lives_early : (soon : Bool) → r.backdate < life → is_too_soon closed (moment_of r) ≡ soon → late_code life closed r ≡ (if soon then Some c.TooSoon else None)
  lives_early soon h e = λ i. if lives_test h i then Some c.Expired else if e i then Some c.TooSoon else None

  timely_early : IsTimely life closed r → early life closed r ≡ None
  timely_early t = carried_early t.transport t.carried ∙ lives_early false t.lives t.behind

  -- why there is no response: memory ran out, one of these, or that signatures are none
  abbrev pub NoTable : Type 0
  NoTable = (table : List Made) → IsList FitsMade made_octets r.made.now table → ⊥

  abbrev pub IsReason : ZoneCode → Type 0
  IsReason code = (code ≡ c.OutOfMemory) ⊎ ((early life closed r ≡ Some code) ⊎ ((early life closed r ≡ None) × (code ≡ c.BadSignatures) × NoTable))

  reason : (old new : Option ℕ) (code : ZoneCode) → HasNoResponse life closed r old new code → IsReason code
  reason old new c.BadCall h = inr (inl (ap (early_in life closed r) h.0))
  reason old new c.Expired h = inr (inl (carried_early h.0.transport h.0.carried ∙ expired_early h.0.expired))
  reason old new c.TooSoon h = inr (inl (carried_early h.0.transport h.0.carried ∙ lives_early true h.0.lives h.0.soon))
  reason old new c.BadSignatures h = inr (inr (timely_early h.0, refl, h.1))
  reason old new c.OutOfMemory h = inl refl
  reason old new _ h = absurd h

  none_some : (code : ZoneCode) → early life closed r ≡ None → early life closed r ≡ Some code → ⊥
  none_some code a b = let e : None ≡ Some code = sym a ∙ b in cc

  one_code : (a b : ZoneCode) → early life closed r ≡ Some a → early life closed r ≡ Some b → a ≡ b
  one_code a b p q = let e : Some a ≡ Some b = sym p ∙ q in cc

  reasons : (a b : ZoneCode) → IsReason a → IsReason b → (a ≡ b) ⊎ ((a ≡ c.OutOfMemory) ⊎ (b ≡ c.OutOfMemory))
  reasons a b (inl p) q = inr (inl p)
  reasons a b (inr p) (inl q) = inr (inr q)
  reasons a b (inr (inl p)) (inr (inl q)) = inl (one_code a b p q)
  reasons a b (inr (inr p)) (inr (inr q)) = inl (p.1 ∙ sym q.1)
  reasons a b (inr (inl p)) (inr (inr q)) = absurd (none_some a q.0 p)
  reasons a b (inr (inr p)) (inr (inl q)) = absurd (none_some b p.0 q)

  -- a request that is responded to has none but want of memory
  responded : (table : List Made) (code : ZoneCode) → IsTimely life closed r → IsList FitsMade made_octets r.made.now table → IsReason code → code ≡ c.OutOfMemory
  responded table code t made (inl p) = p
  responded table code t made (inr (inl p)) = absurd (none_some code (timely_early t) p)
  responded table code t made (inr (inr p)) = absurd (p.2 table made)

-- ---- requests

module _ (w : World) (keys : ZoneKeys) (addresses : List HandedRr) (life : ℕ) (closed : Option ℕ) (r : OctetRequest) (old new old' new' : Option ℕ) where
  abbrev pub Alike : CodeAndOctets → CodeAndOctets → Type 0
  Alike a b = (a ≡ b) ⊎ (IsFailure r a ⊎ IsFailure r b)

  failure : (x : Response) (said : CodeAndOctets) → said ≡ told_by (said_by x) → HasFailed r.udp_size r.request.now (said_by x) → IsFailure r said
  failure x said e h = inr (record { q = h.0; query_is = h.1; octets_are = ap (λ (t : CodeAndOctets). t.octets) e ∙ ap (λ (t : Said). (told_by t).octets) h.2 })

  both_responded : (a b : CodeAndOctets) → AsksOne r.request.now → IsResponded w keys addresses life closed r old new a → IsResponded w keys addresses life closed r old' new' b → Alike a b
  both_responded a b one p q = go (told_as p.response a p.told) (told_as q.response b q.told)
    where
      table : q.table ≡ p.table
      table = lists_once q.table p.table r.made.now q.made p.made

      transport : q.timely.transport ≡ p.timely.transport
      transport = let e : Some q.timely.transport ≡ Some p.timely.transport = sym q.timely.carried ∙ p.timely.carried in cc

      there : Responds (serving_of w keys p.table addresses r) p.timely.transport r.request.now old' new' q.response
      there =
          subst (λ (t : Transport). Responds (serving_of w keys p.table addresses r) t r.request.now old' new' q.response) transport
          (subst (λ (t : List Made). Responds (serving_of w keys t addresses r) q.timely.transport r.request.now old' new' q.response) table q.responds)

      go : (a ≡ told_by (said_by p.response)) ⊎ (a.code ≡ c.OutOfMemory) → (b ≡ told_by (said_by q.response)) ⊎ (b.code ≡ c.OutOfMemory) → Alike a b
      go (inr e) k = inr (inl (inl e))
      go (inl e) (inr k) = inr (inr (inl k))
      go (inl e) (inl k) = elim (responds_alike (serving_of w keys p.table addresses r) p.timely.transport r.request.now old new old' new' p.response q.response one p.responds there) [
        | inl same ↦ inl (e ∙ ap told_by same ∙ sym k)
        | inr (inl h) ↦ inr (inl (failure p.response a e h))
        | inr (inr h) ↦ inr (inr (failure q.response b k h))
      ]

  pub tells_alike : (a b : CodeAndOctets) → AsksOne r.request.now → TellsResponse w keys addresses life closed r old new a → TellsResponse w keys addresses life closed r old' new' b → Alike a b
  tells_alike a b one (inl p) (inl q) = both_responded a b one p q
  tells_alike a b one (inl p) (inr q) = inr (inr (inl (responded life closed r p.table b.code p.timely p.made (reason life closed r old' new' b.code q.1))))
  tells_alike a b one (inr p) (inl q) = inr (inl (inl (responded life closed r q.table a.code q.timely q.made (reason life closed r old new a.code p.1))))
  tells_alike a b one (inr p) (inr q) = elim (reasons life closed r a.code b.code (reason life closed r old new a.code p.1) (reason life closed r old' new' b.code q.1)) [
    | inl e ↦ inl (p.0 ∙ ap only e ∙ sym q.0)
    | inr (inl e) ↦ inr (inl (inl e))
    | inr (inr e) ↦ inr (inr (inl e))
  ]

pub told_alike : SameRequestsAreToldAlike
told_alike w keys addresses life closed r old new old' new' a b one p q = tells_alike w keys addresses life closed r old new old' new' a b one p q

-- ---- calls

-- what is told is handed out in one way
handed_once : (said : CodeAndOctets) (before : List ℕ) (x y : Replied) → IsHandedOut said before x.octets x.report x.code → IsHandedOut said before y.octets y.report y.code → x ≡ y
handed_once said before x y p q = go (nat_le (length said.octets) (length before)) refl
  where
    report : x.report ≡ y.report
    report = p.report_is ∙ sym q.report_is

    go : (b : Bool) → nat_le (length said.octets) (length before) ≡ b → x ≡ y
    go true e =
        let room = leb-true (length said.octets) (length before) e in
        let a = p.room room in
        let b = q.room room in
        λ i. replied ((a.0 ∙ sym b.0) i) ((a.1 ∙ sym b.1) i) (report i)
    go false e =
        let small = leb-false (length said.octets) (length before) e in
        let a = p.small small in
        let b = q.small small in
        λ i. replied ((a.0 ∙ sym b.0) i) ((a.1 ∙ sym b.1) i) (report i)

pub replies_alike : SameCallsReplyAlike
replies_alike w keys addresses life closed r old new old' new' report before x y one p q = go (is_known report) refl
  where
    go : (b : Bool) → is_known report ≡ b → (x ≡ y) ⊎ (IsFailedReply r before x ⊎ IsFailedReply r before y)
    go false e =
        let a = (p.unknown e).0 in
        let b = (q.unknown e).0 in
        inl (λ i. replied ((a.code_is ∙ sym b.code_is) i) ((a.octets_are ∙ sym b.octets_are) i) ((a.report_is ∙ sym b.report_is) i))
    go true e =
        let a = p.known e in
        let b = q.known e in
        elim (tells_alike w keys addresses life closed r old new old' new' a.said b.said one a.tells b.tells) [
          | inl same ↦ inl (handed_once b.said before x y (subst (λ (t : CodeAndOctets). IsHandedOut t before x.octets x.report x.code) same a.handed_out) b.handed_out)
          | inr (inl h) ↦ inr (inl (record { said = a.said; failed = h; handed_out = a.handed_out }))
          | inr (inr h) ↦ inr (inr (record { said = b.said; failed = h; handed_out = b.handed_out }))
        ]
