use Rattle.std.proofs.Common.{ap, inl, map, refl, ◌∙◌}
use Rattle.messages.specs.HandedRr.{handed_of}
use Rattle.session_grammar.specs.Readings.{zone_view}
use Rattle.server_glue.specs.Glue.{addresses_of}
use Rattle.server_zone.proofs.OpeningLemmas.{fresh_of, no_plain}
use Rattle.server_zone.proofs.opening.Opener.made.Goals as goal

pub returns-in-Ok-clause-fresh : goal.returns-in-Ok-clause-fresh
returns-in-Ok-clause-fresh g c =
    let hasher = c.args.self.now.hasher.now in
    let rs = map handed_of c.args.records.items in
    let e = c.in_ok-publisher.ensures in
    let n = c.new.ensures in
    let addresses = n.addresses ∙ c.in-Ok.ensures ∙ ap (λ l. addresses_of (map handed_of l)) c.deref.ensures.value in
    fresh_of (g.H.Nsec3Hasher.hash_of hasher) c.args.self.now.scheme.now hasher (zone_view c.args.zone) rs c.new.result c.in_ok-publisher.publisher n.publisher
    e.scheme e.hasher e.unanswered e.zone e.life e.handed.0 e.handed.1 e.accepted addresses n.life

pub returns-clause-err : goal.returns-clause-err
returns-clause-err g c =
    let z = zone_view c.args.zone in
    inl (refl, no_plain z.apex z.mode z.limit (map handed_of c.args.records.items) c.in_ok-publisher.ensures.accepted.faultless)
