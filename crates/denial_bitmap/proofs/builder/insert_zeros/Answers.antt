use Rattle.std.proofs.Common.{◌≡◌, ℕ, [], ◌++◌, ◌-◌, length, take, drop, ap, sym, ◌∙◌, arith, length-drop, length-append}
use Rattle.std.proofs.lemmas.List.{take_all, drop_all, append-nil}
use Rattle.denial_bitmap.specs.Building.{zeros, inserted}
use Rattle.denial_bitmap.proofs.Windows.{zeros_taken, turned, length-zeros, length-inserted}
use Rattle.denial_bitmap.proofs.builder.insert_zeros.Goals as goal

pub returns-clause-ok : goal.returns-clause-ok
returns-clause-ok g c =
    let old = g.B.OctetsBuilder.bytes c.args.octets.now in
    let place : ℕ = c.args.place in
    let count : ℕ = c.args.count in
    let xs = c.as_mut_slice.result.now in
    let zs : take c.from-count.result (zeros 34) ≡ zeros count = ap (λ n. take n (zeros 34)) c.from-count.ensures ∙ zeros_taken count 34 c.requires.few in
    let more : xs ≡ old ++ zeros count = c.as_mut_slice.ensures.value ∙ c.in_ok-append_slice.ensures.ok ∙ ap (λ z. old ++ z) zs in
    let tail = drop place (old ++ zeros count) in
    let mid : take (length xs - place) (drop place xs) ≡ tail =
    take_all (length xs - place) (drop place xs) (omega (arith, length-drop place xs)) ∙ ap (drop place) more in
    let n : length tail - c.from-count.result ≡ length tail - length (zeros count) = omega (arith, c.from-count.ensures, length-zeros count) in
    let rot : c.rotate_right.new.self ≡ drop (length tail - length (zeros count)) tail ++ take (length tail - length (zeros count)) tail =
    c.rotate_right.ensures.after ∙ (λ i. drop (length (mid i) - c.from-count.result) (mid i) ++ take (length (mid i) - c.from-count.result) (mid i)) ∙ (λ i. drop (n i) tail ++ take (n i) tail) in
    let nothing : drop (length xs - place) (drop place xs) ≡ [] = drop_all (length xs - place) (drop place xs) (omega (arith, length-drop place xs)) in
    let whole : take place xs ++ (c.rotate_right.new.self ++ drop (length xs - place) (drop place xs)) ≡ inserted old place (zeros count) =
    (λ i. take place (more i) ++ (rot i ++ nothing i)) ∙ ap (λ r. take place (old ++ zeros count) ++ r) (append-nil (drop (length tail - length (zeros count)) tail ++ take (length tail - length (zeros count)) tail))
    ∙ turned old (zeros count) place c.requires.inside in
    g.met.B.OctetsBuilder.shows c.append_slice.new.self (take place xs ++ (c.rotate_right.new.self ++ drop (length xs - place) (drop place xs)))
    (ap length whole ∙ length-inserted old (zeros count) place c.requires.inside ∙ sym (length-append old (zeros count)) ∙ ap length (sym (c.in_ok-append_slice.ensures.ok ∙ ap (λ z. old ++ z) zs)))
    ∙ whole
