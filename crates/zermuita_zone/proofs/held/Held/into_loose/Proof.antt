-- `into_loose` gives the memory of a box back. Assumes `Logic`.
use Rattle.std.proofs.Common.{◌≡◌, List, [], ◌∷◌, ◌++◌, refl, sym, ap, subst, ◌∙◌}
use Rattle.std.specs.Prelude.{Option, Some}
use mir.Raw.{raw as bare}
use mir.Syntax.{impl, tnil, dnil}
use mir.Val.{Val, vptr}
use base.Logic.{SProp, ent, emp, id⊢, never, fst∗}
use prog.Wp.{WpFn}
use contract.Monad.{fact, fact_i}
use contract.Running.{tables}
use types.Logic.{sem}
use types.Kit.{‵, raw, ◌⊛◌, ◌$◌, ◌∵◌, !, qed, by, keep, move, split, fsplit, fjoin, suffices, use0, rewrite}
use types.Part.{agg, sub, whole}
use types.Run.{stop, fld, of_opd, no_more, and_then, returns, enter}
use types.ByLocal.{alloc_all, pass_all, free_all, look_at, get, get_in, sets}
use denote.Memory.{lone}
use denote.RattleType.{RattleType, owns}
use denote.RawPtr.{Ptr, block_ptr, null_ptr, in_a_block}
use denote.Signature.{types_at, plain}
use denote.Steps.{nothing, heard}
use denote.Triple.Entry.{alive}
use denote.Triple.Walked.{Stays, stay_dropped, walk_of}
use Rattle.core.proofs.alloc.Calls.{Al, Goes-blank, handle_tells}
use Rattle.std.specs.contracts.alloc.Global as global
use Rattle.std.proofs.alloc.Global.TheLaws as global_laws
use Rattle.std.specs.contracts.impls.GlobalAllocator.TheImpl.{ghosts}
use Rattle.std_alloc.specs.Box.Ownership.{box_owns}
use Rattle.std.proofs.raw_atomic.Walks.{proved_at, leaves}
use Rattle.zermuita_zone.specs.declared.opened.OpenZone.{OpenZone}
use Rattle.zermuita_zone.specs.contracts.opened.OpenZone.{the_row}
use Rattle.zermuita_zone.specs.Holding.{heap, holds}
use Rattle.zermuita_zone.proofs.Values.{both, loose_good, loose_in}
use Rattle.zermuita_zone.proofs.HeldValues.{Held, word, held_out}
use Rattle.zermuita_zone.specs.contracts.held.Held.into_loose.{ended, clauses}
use Rattle.zermuita_zone.specs.contracts.held.Held.into_loose.Key.{name as #self}
use Rattle.zermuita_zone.proofs.held.Held.into_loose.Statement.{statement}
use Rattle.zermuita_zone.proofs.held.Held.into_loose.Code as code

abbrev al : Al
al = record { row = global.the_row; laws = global_laws.the_row_laws; g = ghosts; d = impl [] tnil dnil; drops = impl [] tnil dnil }

pub into_loose_spec : {M : Type 1} → statement M
into_loose_spec 𝓤 𝓛 𝓜 𝓡 wired =
    let H = 𝓛.H in let 𝓣 = tables 𝓤 H 𝓜 𝓡 𝓡.env in let c = clauses 𝓛 𝓜.mem 𝓡.returns in
    let Z : RattleType = global.the_row in let LZ = global_laws.the_row_laws in
    let hs : Stays ended.signature.params ended.kept = (stay_dropped (plain (λ _. Held)) ended.kept.0, (stay_dropped (plain (λ _. Z)) ended.kept.1.0, tt)) in
    proved_at 𝓛 ended hs c 𝓜 𝓡 (Goes-blank 𝓛 0 (plain (λ _. Held)) ended.kept.0 (λ κs x f. tt), (Goes-blank 𝓛 0 (plain (λ _. Z)) ended.kept.1.0 (λ κs x f. tt), tt)) #self code.function (code.unfolded 𝓤 H 𝓜 𝓡 wired) (λ z are.
    let κs = z.0.0 in let v = z.0.3.0 in let a = z.0.3.1.0 in let Post : Val → SProp 𝓤 = (walk_of 𝓛 ended hs c).post z in
    let Run : List Val → SProp 𝓤 = λ ws. WpFn 𝓤 H 𝓣.C 𝓣.Λ code.function ws Post in
    qed 𝓛 ((raw (alive 𝓛 ended.signature κs z.0.1) ⊛ ‵ (owns (types_at ended.signature.params κs) z.0.3 z.0.4)) ∷ raw (fact 𝓤 ((x : OpenZone) × (v.value ≡ Some x))) ∷ []) ∵
    move ! (1 ∷ []) $ heard ! ((x : OpenZone) × (v.value ≡ Some x)) (λ there. let x : OpenZone = there.0 in split ! $ move ! (1 ∷ []) $ fsplit ! $ move ! (1 ∷ []) $ fsplit ! $
    -- [the handle; true; what is held; the tokens]
    handle_tells al ! a z.0.4.1.0 (λ h ea fits. move ! (2 ∷ []) $ held_out ! v z.0.4.0 (λ ws.
    -- [true; the memory; the handle; true; the tokens]
    move ! (1 ∷ []) $ rewrite ! 0 (λ (held : Option OpenZone). ‵ (holds v.at held)) there.1 refl $
    in_a_block ! v.at (λ p. box_owns (ghosts.dealloc_token heap) the_row p x) (fst∗ 𝓤 (never 𝓤) (sem 𝓛 (ghosts.dealloc_token heap (bare (lone the_row.mir)) null_ptr))) (λ b o e.
    let us : List Val = word (block_ptr b o) ∷ h ∷ [] in
    let is : z.0.4.0 ≡ word (block_ptr b o) ∷ [] = ws ∙ ap (λ (p : Ptr). word p ∷ []) e in
    suffices ! (Run us) (subst (λ (vs : List Val). ent 𝓤 (Run us) (Run vs)) (sym (λ i. is i ++ (ea i ++ []))) (id⊢ 𝓤 (Run us))) $
    enter ! 𝓣.C 𝓣.Λ code.function us Post $ alloc_all ! (λ l. pass_all ! refl ((tt, (tt, tt)), (fits, tt)) $
    sets ! (of_opd ! (get_in ! (fld ! refl (stop !)) (sub ! 0 refl (whole !)))) refl (tt, tt) $
    sets ! (of_opd ! (get ! refl)) refl (tt, tt) $
    sets ! (agg ! (and_then ! (get ! refl) (and_then ! (get ! refl) (no_more !)))) refl (loose_good the_row Z LZ ghosts b o h fits) $
    move ! (0 ∷ 2 ∷ []) $ loose_in the_row Z LZ ghosts ! b o h a x $
    use0 𝓛 (raw (fact 𝓤 (Some x ≡ v.value))) (fact_i 𝓤 (Some x ≡ v.value) (emp 𝓤) (sym there.1)) $ nothing ! $ nothing ! $ fjoin ! $ nothing ! $ fjoin ! $
    -- [true; the fact; the parts; true; true; the tokens]
    returns ! (look_at ! 0 refl) $ free_all ! refl $ keep ! (5 ∷ 0 ∷ 2 ∷ 1 ∷ []) $
    by ! (leaves 𝓛 ended hs c z (both (vptr b o) h) (record { at = block_ptr b o; alloc = a; value = x }) (tt, (tt, tt)) (tt, (tt, tt)))))))))
