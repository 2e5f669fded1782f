use Rattle.std.proofs.Common.{◌≡◌, ◌∙◌, suc, ◌+◌, ◌-◌, ◌<◌, ◌∷◌, length, take, drop, get_or, set, inl, inr, refl, ap, subst, arith, length-drop}
use Rattle.std.proofs.Math.Seq.{drop-cons}
use Rattle.std.proofs.lemmas.List.{take_rest, nil_from_length, drop-drop, length-set}
use Rattle.names_builder.proofs.TextWalks.{Writing, writing_begins, puts, goes_on, reads_plain, ends_label, writing_ends}
use Rattle.names_builder.proofs.walk.write_labels.Goals as goal
use Rattle.names_builder.proofs.walk.write_labels.Goals.{then-first-lt93+then-first-eq46+else-len-eq0+else-len-gt63, then-first-lt93+else-first-eq46+in_ok-octet, else-first-lt93+else-first-gt126}

pub loop-at-init : goal.loop-at-init
loop-at-init c = record { writing = writing_begins c.args.text.now c.args.octets.now (omega (arith, c.requires.room)); within = omega arith; room = omega arith }

pub loop-at-preserved : goal.loop-at-preserved
loop-at-preserved c =
    let text = c.args.text.now in
    let at = c.loop-at.at in
    let first = get_or text at 0 in
    let behind = drop (at + 1) text in
    let now = c.loop-at.octets in
    let head = c.loop-at.head in
    let place = c.loop-at.place in
    let there : place < length now = omega (arith, c.loop-at-test.true, c.loop-at.invariant.room, c.requires.room, c.loop-at.auto.octets) in
    let next : suc at ≡ at + 1 = omega arith in
    let rest : drop at text ≡ first ∷ behind = drop-cons text at 0 c.loop-at-test.true ∙ ap (λ n. first ∷ drop n text) next in
    let whole : take (length text - (at + 1)) behind ≡ behind = take_rest text (at + 1) in
    let begun = rw rest at c.loop-at.invariant.writing in
    let put = puts text (first ∷ behind) now head place first begun there in
    let still : place < length (set now place first) = omega (arith, length-set now place first, there) in
    elim c.if-first-lt93.branch [
      | then-first-lt93+then-first-eq46+else-len-eq0+else-len-gt63 w ↦
          let dotted = subst (λ x. Writing text (x ∷ behind) (set now place first) head place) w.if-first-eq46.true put in
          record {
            writing = rw (w.octets-is, w.head-is, w.at-is) (ends_label text behind (set now place first) head place _ dotted still refl w.if-len-eq0.false w.if-len-gt63.false);
            within = omega (arith, w.at-is, c.loop-at-test.true);
            room = omega (arith, w.at-is, c.loop-at.invariant.room);
          }
      | then-first-lt93+else-first-eq46+in_ok-octet w ↦ record {
        writing = rw (w.octets-is, w.head-is, w.at-is, ← drop-drop w.in_ok-octet.count (at + 1) text) (goes_on text (first ∷ behind) (drop w.in_ok-octet.count behind) (set now place first) head place w.in_ok-octet.octet _ put still refl (rw whole at w.in_ok-octet.ensures.symbol));
        within = omega (arith, w.at-is, w.in_ok-octet.ensures.within, ap length whole, length-drop (at + 1) text, c.loop-at-test.true);
        room = omega (arith, w.at-is, c.loop-at.invariant.room);
      }
      | else-first-lt93+else-first-gt126 w ↦ record {
        writing = rw (w.octets-is, w.head-is, w.at-is) (goes_on text (first ∷ behind) behind now head place first _ begun there refl (reads_plain first behind _ (λ e. omega (arith, e, w.if-first-lt93.false)) (λ e. omega (arith, e, w.if-first-lt93.false)) (omega (arith, w.if-first-lt93.false)) w.if-first-gt126.false));
        within = omega (arith, w.at-is, c.loop-at-test.true);
        room = omega (arith, w.at-is, c.loop-at.invariant.room);
      }
    ]

pub returns-clause-labels : goal.returns-clause-labels
returns-clause-labels c =
    let text = c.args.text.now in
    let rest = drop c.loop-at.at text in
    let now = c.loop-at.octets in
    let head = c.loop-at.head in
    let place = c.loop-at.place in
    let last = place - head - 1 in
    let root : 0 < last → place < length now = λ h. elim c.if-place-octets.either [ inl p ↦ p.1 | inr p ↦ omega (arith, h, p) ] in
    writing_ends text rest now head place last c.loop-at.invariant.writing (nil_from_length rest (omega (arith, length-drop c.loop-at.at text, c.loop-at-test.false))) (omega (arith, c.requires.few, c.loop-at.auto.octets)) refl c.if-place-eq1.false c.if-last-gt63.false root
