use Rattle.std.proofs.Common.{◌∙◌, ◌==◌, ap, length, refl, rules, sym}
use Rattle.std.proofs.lemmas.List.{length-map}
use Rattle.messages.specs.HandedRr.{handed_of}
use Rattle.server_zone_octets.proofs.lines.open_octets.Goals as goal

pub returns-in-Ok-clause-opened : goal.returns-in-Ok-clause-opened
returns-in-Ok-clause-opened g c =
    let e = c.in-Ok.ensures in
    let z = c.in-Ok.opened.zone in (
      record {
        state = e.state;
        opens_again = e.journal;
        fresh = e.fresh;
        whole = e.whole;
        settled = e.settled;
        inside = e.inside;
        last = e.last;
        all = λ none. e.all (ap (λ n. n == 0) (sym (length-map z.gathered.items handed_of) ∙ ap length none));
        report_is = search rules;
      },
      refl,
    )
