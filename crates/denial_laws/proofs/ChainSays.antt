-- The records of a zone's chain say truly.
use Rattle.std.proofs.Common.{◌≡◌, ℕ, Bool, true, false, ◌||◌, List, [], ◌∷◌, drop, refl, sym, ap, subst, ◌∙◌, inl, inr}
use Rattle.std.specs.Prelude.{if◌then◌else◌}
use Rattle.std.proofs.lemmas.Bool.{or_cases}
use Rattle.std.specs.Str.{bytes_eq, str_to_ascii_lowercase}
use Rattle.std.specs.Cmp.Lexicographic.{bytes_decides}
use Rattle.definitions.specs.Name.{Name, low, same, labels_eq, at_or_above}
use Rattle.definitions.specs.Covering.{covers}
use Rattle.definitions.specs.Zone.{Zone, apex_of, exists, is_live}
use Rattle.definitions.specs.ZoneChain.{Nsec, Nsec3, nsec_names}
use Rattle.definitions.proofs.ChainSpeaks.{all_from}
use Rattle.definitions.proofs.Members.{In, in_contained}
use Rattle.definitions.proofs.ZoneNames.{above_lowered, lowered_above, live_owner, owner_lowered}
use Rattle.denial_laws.specs.Aliases.{is_redirected}
use Rattle.denial_laws.specs.Facts.{Link, HashLink}
use Rattle.denial_laws.specs.NsecRules.{has_nxname, has_more, tells, shown_owner}
use Rattle.denial_laws.specs.Saying.{HasStar, HasNoStar}
use Rattle.denial_laws.specs.Laws.{ChainsSayTruly}
use Rattle.denial_laws.specs.Truth.{IsServable, IsThere, IsSilent, IsTrueLink, IsTrueHashLink, NoSharedHash, SaysOfOwner, SaysTruly, Own, Bare, MadeUp, Denied, Starred, SaysTrulyHash, ShowsTypes}
use Rattle.denial_laws.proofs.Adjacent.{next_in, chain_gap}
use Rattle.denial_laws.proofs.BareTypes.{nsec_more}
use Rattle.denial_laws.proofs.ChainBits.{all_at, nsec_named, nsec_shows}
use Rattle.denial_laws.proofs.HashChain.{matched_kept, matched_shows, covered_gone}
use Rattle.denial_laws.proofs.NameFacts.{above-low, covers-low}
use Rattle.denial_laws.proofs.NsecEncloser.{exists_is, owner_exists}
use Rattle.denial_laws.proofs.Unaliased.{kept_unredirected}

pub link_says : (z : Zone) → IsServable z → (q : Name) (f : Link) → IsTrueLink z f → SaysTruly z q f
link_says z s q f k =
    let o : Name = low f.owner in
    let i : In o (nsec_names z) = in_contained (nsec_names z) o k.owner.0 k.owner.1 k.owner.2 in
    let next : In (low f.next) (nsec_names z) = subst (λ n. In n (nsec_names z)) (sym k.next) (next_in z s o i) in
    let more : has_more f.bits ≡ true = ap has_more k.bits ∙ nsec_more z s o i in
    record {
      inside = (live_owner z o i).1;
      direct = kept_unredirected z s.aliases false o (owner_exists z s o i);
      owner = Own (record {
        exists_is = owner_exists z s o i;
        types = subst (ShowsTypes z o) (sym k.bits) (nsec_shows z s o);
        named = ap has_nxname k.bits ∙ nsec_named z s o;
      }) more;
      gap = λ w c.
          let j : In w (nsec_names z) = in_contained (nsec_names z) w c.0 c.1 c.2 in
          let lw : low w ≡ w = owner_lowered z w (live_owner z w j).0 in
          sym (covers-low z.name f.owner f.next w) ∙ ap (covers (apex_of z) o (low f.next)) lw ∙ ap (λ n. covers (apex_of z) o n w) k.next ∙ chain_gap z s o w i j;
      shown = λ p x asked c up a h.
          let inside : at_or_above (apex_of z) (low p) ≡ true = above_lowered (apex_of z) p ∙ lowered_above z.name p ∙ a in
          elim (or_cases (at_or_above p (shown_owner f)) (at_or_above p f.next) h) [
            | inl b ↦ exists_is z s (low p) o inside i (above-low p f.owner ∙ ap (λ b. at_or_above p (if b then f.owner else drop 1 f.owner)) (sym more) ∙ b)
            | inr b ↦ exists_is z s (low p) (low f.next) inside next (above-low p f.next ∙ b)
          ];
    }

-- ---- however its owner is spelled

low_parent : (o : Name) → low (drop 1 o) ≡ drop 1 (low o)
low_parent [] = refl
low_parent (l ∷ o) = refl

module _ (z : Zone) (q : Name) (l : Link) (o : Name) (e : low o ≡ low l.owner) where
  abbrev respelled : Link
  respelled = record { owner = o; next = l.next; bits = l.bits }

  covers_alike : (x : Name) → covers z.name o l.next x ≡ covers z.name l.owner l.next x
  covers_alike x = sym (covers-low z.name o l.next x) ∙ ap (λ n. covers (apex_of z) n (low l.next) (low x)) e ∙ covers-low z.name l.owner l.next x

  above_alike : (p a b : Name) → low a ≡ low b → at_or_above p a ≡ at_or_above p b
  above_alike p a b e = sym (above-low p a) ∙ ap (at_or_above (low p)) e ∙ above-low p b

  parent_alike : low (drop 1 o) ≡ low (drop 1 l.owner)
  parent_alike = low_parent o ∙ ap (drop 1) e ∙ sym (low_parent l.owner)

  shown_alike : (p : Name) (b : Bool) → at_or_above p (if b then o else drop 1 o) ≡ at_or_above p (if b then l.owner else drop 1 l.owner)
  shown_alike p true = above_alike p o l.owner e
  shown_alike p false = above_alike p (drop 1 o) (drop 1 l.owner) parent_alike

  same_alike : same o q ≡ same l.owner q
  same_alike = ap (λ n. labels_eq n (low q)) e

  tells_alike : tells respelled ≡ tells l
  tells_alike = λ i. has_more l.bits || labels_eq (low l.next) (str_to_ascii_lowercase (0 ∷ []) ∷ e i)

  there_respelled : IsThere z l → IsThere z respelled
  there_respelled i = record { exists_is = ap (exists z) e ∙ i.exists_is; types = subst (λ n. ShowsTypes z n l.bits) (sym e) i.types; named = i.named }

  silent_respelled : IsSilent z q l → IsSilent z q respelled
  silent_respelled h x asked = covers_alike x ∙ h x asked

  owner_says : SaysOfOwner z q l → SaysOfOwner z q respelled
  owner_says (Own i more) = Own (there_respelled i) more
  owner_says (Bare b) = Bare (record { there = there_respelled b.there; silent = silent_respelled b.silent })
  owner_says (MadeUp m) = MadeUp (record { gone = ap (exists z) e ∙ m.gone; bare = m.bare; untold = λ h. tells_alike ∙ m.untold (sym same_alike ∙ h) })
  owner_says (Denied d) = Denied (record { nxname = d.nxname; plain = d.plain; missing = subst (HasNoStar z) (sym e) d.missing })
  owner_says (Starred w) = Starred (record {
    star = w.star;
    by = subst (λ n. HasStar z n w.star) (sym e) w.by;
    types = w.types;
    named = w.named;
    other = same_alike ∙ w.other;
    silent = silent_respelled w.silent;
  })

  pub owner_respelled : SaysTruly z q l → SaysTruly z q respelled
  owner_respelled k = record {
    inside = ap (is_live z) e ∙ k.inside;
    direct = ap (is_redirected z) e ∙ k.direct;
    owner = owner_says k.owner;
    gap = λ w c. covers_alike w ∙ k.gap w c;
    shown = λ p x asked c up a h. k.shown p x asked (sym (covers_alike x) ∙ c) up a (ap (λ b. b || at_or_above p l.next) (sym (shown_alike p (has_more l.bits))) ∙ h);
  }

pub hash_link_says : (z : Zone) (hash : Name → List ℕ) (iterations : ℕ) (salt : List ℕ) (ex : Bool) (q : Name) → IsServable z → NoSharedHash z hash (Nsec3 iterations salt ex) q → (f : HashLink) → IsTrueHashLink z hash ex f → SaysTrulyHash z hash ex q f
hash_link_says z hash iterations salt ex q s apart f k = record {
  matched = λ x c h.
      let at : bytes_eq f.owner (hash (low x)) ≡ true = (bytes_decides f.owner (hash (low x))).1 h in
      (matched_kept z hash ex s apart.0 f k x (apart.1 (low x) c) at, matched_shows z hash ex s apart.0 f k x (apart.1 (low x) c) at);
  covered = λ x c h. covered_gone z hash ex s apart.0 f k x h;
  opts = k.opts;
}

pub chains_say_truly : ChainsSayTruly
chains_say_truly z hash Nsec q f s apart k = (all_from (SaysTruly z q) f.links (λ l i. link_says z s q l (all_at (IsTrueLink z) f.links l k.0 i)), k.1)
chains_say_truly z hash (Nsec3 iterations salt ex) q f s apart k =
    (k.0, all_from (SaysTrulyHash z hash ex q) f.hash_links (λ l i. hash_link_says z hash iterations salt ex q s apart l (all_at (IsTrueHashLink z hash ex) f.hash_links l k.1 i)))
