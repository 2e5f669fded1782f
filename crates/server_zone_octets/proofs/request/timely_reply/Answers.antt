use Rattle.std.proofs.Common.{◌≡◌, ℕ, ◌*◌, List, Option, inl, subst, ◌∙◌}
use Rattle.messages.specs.HandedRr.{HandedRr}
use Rattle.answer_publisher_keys.specs.Bindings.{ZoneKeys}
use Rattle.answer_publisher.specs.World.{World, world_of}
use Rattle.server_responses.specs.declared.transport.Transport.{Transport}
use Rattle.server_answers.specs.Moments.{backdated}
use Rattle.server_answers.specs.Requests.{Responds}
use Rattle.server_answers.specs.Responding.{serving}
use Rattle.server_answers.specs.declared.requests.Response.{Response}
use Rattle.server_answers.specs.Table.{Made}
use Rattle.server_zone_octets.specs.Requests.{serving_of}
use Rattle.server_zone_octets.specs.declared.request.OctetRequest.{OctetRequest}
use Rattle.server_zone_octets.proofs.request.timely_reply.Goals as goal

-- what answers by a table and at a moment, by those of the request
of_request : (w : World) (keys : ZoneKeys) (t table : List Made) (at : ℕ) (addresses : List HandedRr) (r : OctetRequest) (by : Transport) (latest latest' : Option ℕ) (response : Response)
    → t ≡ table → at ≡ r.moment * 1000000000 → Responds (serving w keys t (backdated at r.backdate) 0 r.udp_size addresses) by r.request.now latest latest' response
    → Responds (serving_of w keys table addresses r) by r.request.now latest latest' response
of_request w keys t table at addresses r by latest latest' response same moment h =
    let P : List Made → ℕ → Type 0 = λ u m. Responds (serving w keys u (backdated m r.backdate) 0 r.udp_size addresses) by r.request.now latest latest' response in
    subst (P table) moment (subst (λ u. P u at) same h)

-- the moment is one that is answered, and what answers is told
pub returns-in-Ok-respond-clause-told : goal.returns-in-Ok-respond-clause-told
returns-in-Ok-respond-clause-told g c =
    let p = c.args.zone.now.publisher in
    let w = world_of g.S.Scheme.signature_of g.S.Scheme.verifies g.S.Scheme.digest_of g.H.Nsec3Hasher.hash_of p in
    inl (record {
      timely = record { transport = c.args.transport; carried = c.requires.carried; lives = c.requires.lives; behind = c.requires.behind };
      table = c.in-Ok.table.items;
      made = c.in-Ok.ensures.read;
      response = c.in-Ok-respond.response;
      responds =
          of_request w p.keys c.deref.result.now c.in-Ok.table.items c.new.result c.args.zone.now.addresses c.args.octet_request.now c.args.transport p.latest c.respond.new.publisher.latest c.in-Ok-respond.response
          c.deref.ensures.value (c.new.ensures ∙ c.from_secs.ensures) c.in-Ok-respond.ensures.response;
      told = c.told_response.ensures;
    })
