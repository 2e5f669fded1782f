use Rattle.std.proofs.Common.{rules, of_calls, ◌∙◌, arith, sym}
use Rattle.std.proofs.lemmas.Fn.{always_returns_same}
use Rattle.definitions.specs.Dnskey.{Dnskey, key_tag}
use Rattle.messages.specs.Record.{fields_read}
use Rattle.answer_judge_keys.specs.KeyOrder.{is_before}
use Rattle.answer_judge_keys.proofs.KeyPlaces.{is_partitioned, searched_end, searched_other, searched_some}
use Rattle.answer_judge_keys.proofs.key_index.searched_key.Goals as goal

pub returns-then-place-ranked : goal.returns-then-place-ranked
returns-then-place-ranked c =
    let f = fields_read c.args.signature.now in
    let xs = c.args.ranked.now in
    let alg = λ (k : Dnskey). k.algorithm in
    let point = c.partition_point-place.ensures.partitioned (is_before f) (always_returns_same _ _ _ (λ a r g k. search (rules, of_calls))) (is_partitioned key_tag alg f.tag f.algorithm xs c.requires) in
    sym (searched_end key_tag alg f.tag f.algorithm xs c.partition_point-place.result c.requires point (omega (arith, c.if-place-ranked.true)))

pub returns-then-fits : goal.returns-then-fits
returns-then-fits c =
    let f = fields_read c.args.signature.now in
    let xs = c.args.ranked.now in
    let alg = λ (k : Dnskey). k.algorithm in
    let point = c.partition_point-place.ensures.partitioned (is_before f) (always_returns_same _ _ _ (λ a r g k. search (rules, of_calls))) (is_partitioned key_tag alg f.tag f.algorithm xs c.requires) in
    sym (searched_some key_tag alg f.tag f.algorithm xs c.partition_point-place.result c.index-ranked-place.result c.requires point (omega arith) c.index-ranked-place.is (sym c.fits.ensures ∙ c.if-fits.true))

pub returns : goal.returns
returns c =
    let f = fields_read c.args.signature.now in
    let xs = c.args.ranked.now in
    let alg = λ (k : Dnskey). k.algorithm in
    let point = c.partition_point-place.ensures.partitioned (is_before f) (always_returns_same _ _ _ (λ a r g k. search (rules, of_calls))) (is_partitioned key_tag alg f.tag f.algorithm xs c.requires) in
    sym (searched_other key_tag alg f.tag f.algorithm xs c.partition_point-place.result c.index-ranked-place.result c.requires point (omega arith) c.index-ranked-place.is (sym c.fits.ensures ∙ c.if-fits.false))
