use Rattle.std.proofs.Common.{◌≡◌, ℕ, ◌+◌, ◌-◌, ◌*◌, List, ◌++◌, Some, Result, Ok, Err, ap, subst, ◌∙◌, arith}
use Rattle.std.specs.Prelude.{OnOk, if◌then◌else◌, is_ok, slice_get, unwrap_or}
use Rattle.messages_canonical.specs.Walking.{PutsName}
use Rattle.messages_canonical.proofs.NamesPut.{GoesOn, all_heads, begins, behind_label, beyond_pointer, ends_at_root, half_a_pointer, moved, one_head_less, reads_no_further}
use Rattle.messages_canonical.proofs.Seen.{octet_told}
use Rattle.messages_canonical.proofs.names.put_name_at.Goals as goal
use Rattle.messages_canonical.proofs.names.put_name_at.Goals.{then-head-lt192, else-head-lt192+in_ok-put_run+in-Some-copied}

pub loop-init : goal.loop-init
loop-init c = (omega arith, begins c.args.message.now c.args.start c.args.rdata.now.items)

pub returns-in_default : goal.returns-in_default
returns-in_default c =
    let m = c.args.message.now in
    let told = octet_told m c.loop.place c.copied.result (λ d. ap (λ o. unwrap_or o d) c.copied.ensures ∙ c.get.ensures.lookup.4 (omega arith) d) in
    reads_no_further m c.args.start c.loop.from c.loop.place _ c.args.rdata.now.items c.loop.rdata.items c.loop.rdata.items c.loop.invariant.1 (told ∙ c.in_default.is)

-- what is put where there is room
go : {A E : Type 0} (P : List ℕ → Type 0) (new old more : List ℕ) (r : Result A E) → (new ≡ old ++ more → P new) → new ≡ (if is_ok r then old ++ more else old) → OnOk r (P new)
go P new old more (Ok x) put e = put e
go P new old more (Err f) put e = tt

pub returns-then-head-eq0 : goal.returns-then-head-eq0
returns-then-head-eq0 c =
    let m = c.args.message.now in
    let told = octet_told m c.loop.place c.copied.result (λ d. ap (λ o. unwrap_or o d) c.copied.ensures ∙ c.get.ensures.lookup.4 (omega arith) d) in
    let at : slice_get m c.loop.place ≡ Some 0 = told ∙ c.in-Some.is ∙ ap Some c.if-head-eq0.true in
    go (PutsName m c.args.start c.args.rdata.now.items) c.extend_from_slice.new.self.items c.loop.rdata.items _ c.extend_from_slice.result (λ put. ends_at_root m c.args.start c.loop.from c.loop.place _ c.args.rdata.now.items c.loop.rdata.items c.extend_from_slice.new.self.items c.loop.invariant.0 c.loop.invariant.1 at put) c.extend_from_slice.ensures.items

pub returns-in_default-copied : goal.returns-in_default-copied
returns-in_default-copied c =
    let m = c.args.message.now in
    let told = octet_told m c.loop.place c.copied.result (λ d. ap (λ o. unwrap_or o d) c.copied.ensures ∙ c.get.ensures.lookup.4 (omega arith) d) in
    let behind = octet_told m (c.loop.place + 1) c.copied-else-head-lt192.result (λ d. ap (λ o. unwrap_or o d) c.copied-else-head-lt192.ensures ∙ c.get-else-head-lt192.ensures.lookup.4 (omega arith) d) in
    half_a_pointer m c.args.start c.loop.from c.loop.place c.in-Some.head _ c.args.rdata.now.items c.loop.rdata.items c.put_run.new.rdata.items c.loop.invariant.1 (told ∙ c.in-Some.is) c.if-head-lt192.false (behind ∙ c.in_default-copied.is)

pub loop-preserved : goal.loop-preserved
loop-preserved c =
    let m = c.args.message.now in
    let old = c.args.rdata.now.items in
    let told = octet_told m c.loop.place c.copied.result (λ d. ap (λ o. unwrap_or o d) c.copied.ensures ∙ c.get.ensures.lookup.4 (omega arith) d) ∙ c.in-Some.is in
    let less = one_head_less m c.args.start c.loop.from c.loop.place c.loop.counter old c.loop.rdata.items c.loop-test.true c.loop.invariant.1 in
    elim c.if-head-lt192.branch [
      | then-head-lt192 w ↦
          let h = c.in-Some.head in
          let place : c.if-head-lt192.place ≡ c.loop.place + (h + 1) = w.place-is ∙ ap (λ n. c.loop.place + (n + 1)) w.from.ensures in
          let on = behind_label m c.args.start c.loop.from c.loop.place h _ old c.loop.rdata.items c.loop.invariant.0 less told c.if-head-eq0.false w.if-head-lt192.true in
          moved m c.args.start _ old c.loop.rdata.items c.if-head-lt192.rdata.items c.loop.from c.if-head-lt192.from (c.loop.place + (h + 1)) c.if-head-lt192.place w.from-is place (ap (λ v. v.items) w.rdata-is) (omega (arith, c.loop.invariant.0), on)
      | else-head-lt192+in_ok-put_run+in-Some-copied w ↦
          let behind = octet_told m (c.loop.place + 1) w.copied-else-head-lt192.result (λ d. ap (λ o. unwrap_or o d) w.copied-else-head-lt192.ensures ∙ w.get-else-head-lt192.ensures.lookup.4 (omega arith) d) ∙ w.in-Some-copied.is in
          let new = w.put_run.new.rdata.items in
          let to = (c.in-Some.head - 192) * 256 + w.in-Some-copied.low in
          let on = beyond_pointer m c.args.start c.loop.from c.loop.place c.in-Some.head w.in-Some-copied.low _ old c.loop.rdata.items new less told w.if-head-lt192.false behind w.in_ok-put_run.ensures in
          moved m c.args.start _ old new c.if-head-lt192.rdata.items to c.if-head-lt192.from to c.if-head-lt192.place (w.from-is ∙ w.of_pair-place.ensures) (w.place-is ∙ w.of_pair-place.ensures) (ap (λ v. v.items) w.rdata-is) (omega arith, on)
    ]

pub returns : goal.returns
returns c =
    let none : 383 - c.loop.counter ≡ 0 = omega (arith, c.loop-test.false) in
    let m = c.args.message.now in
    let goes = subst (GoesOn m c.args.start c.loop.from c.loop.place c.args.rdata.now.items c.loop.rdata.items) none c.loop.invariant.1 in
    all_heads m c.args.start c.loop.from c.loop.place c.args.rdata.now.items c.loop.rdata.items c.loop.rdata.items goes
