-- An end that wants messages or asks for signatures is in some zone.
use Rattle.std.proofs.Common.{◌≡◌, ℕ, Bool, true, false, List, Option, refl, sym, ap, subst, ◌∙◌}
use Rattle.std.specs.Prelude.{length, nat_lt, if◌then◌else◌}
use Rattle.std.specs.Global.{Vec}
use Rattle.std.proofs.lemmas.Bool.{false≢true}
use Rattle.definitions.specs.Dnskey.{Ds}
use Rattle.definitions.specs.Name.{Name}
use Rattle.messages.specs.Message.{Asked}
use Rattle.answer_judge_facts.specs.declared.validity.Validity.{Validity}
use Rattle.evidence_laws.specs.Counted.{no_counts}
use Rattle.evidence_laws.specs.Counts.{Counts}
use Rattle.evidence_laws.specs.Given.{Given}
use Rattle.evidence_laws.specs.Walking.{renamed}
use Rattle.resolution_walk.specs.Stopping.{EndsAt, Stops, Here, Below, TooDeep, StopsBehind, AtOnce, Elsewhere, TooMany, Led, StopsWithin, ending_within}
use Rattle.resolution_walk.specs.declared.ending.Ending.{Ending}
use Rattle.resolution_walk.specs.declared.ending.Ending.TheVariants as ends
use Rattle.resolution_walk.specs.declared.ending.Walk.{Walk}
use Rattle.resolution_walk.specs.declared.ending.Wanted.{Wanted}
use Rattle.resolution_walk.specs.declared.walk.Limits.{Limits}

-- an end that more evidence may change
abbrev pub wants_more : Ending → Bool
wants_more (ends.Wants ws) = true
wants_more (ends.Asks asks) = true
wants_more _ = false

pub record EndsSomewhere (e : Given) (ending : Ending) : Type 0 where
  pub asked : Asked
  pub zone : Name
  pub ds : List Ds
  pub validity : Option Validity
  pub ends : EndsAt e asked zone ds ending validity

module _ (e : Given) (ending : Ending) (more : wants_more ending ≡ true) where
  no_limit : (limit : Ending) → ending ≡ limit → wants_more limit ≡ false → ⊥
  no_limit limit is none = false≢true (sym none ∙ ap wants_more (sym is) ∙ more)

  in_zone : (asked : Asked) (cuts : ℕ) (zone : Name) (ds : List Ds) (before after : Counts) (l : Option Validity) → Stops e asked ending cuts zone ds before after l → EndsSomewhere e ending
  in_zone asked cuts zone ds before after l (Here judged stops) = record { asked = asked; zone = zone; ds = ds; validity = l; ends = stops }
  in_zone asked cuts zone ds before after l (Below {cuts = less} {c = c} {below = below} {between = between} {rest = rest} judged way more lasts) = in_zone asked less c below between after rest more
  in_zone asked cuts zone ds before after l (TooDeep judged way is) = absurd (no_limit ends.TooManyCuts is refl)

  behind : (cuts aliases : ℕ) (asked : Asked) (ns : List Name) (before after : Counts) (l : Option Validity) → StopsBehind e cuts ending aliases asked ns before after l → EndsSomewhere e ending
  behind cuts aliases asked ns before after l (AtOnce w stops none) = in_zone asked cuts e.anchor e.ds before after l stops
  behind cuts aliases asked ns before after l (Elsewhere w is same) = absurd (no_limit ends.Outside is refl)
  behind cuts aliases asked ns before after l (TooMany t led is same) = absurd (no_limit ends.TooManyAliases is refl)
  behind cuts aliases asked ns before after l (Led {aliases = less} {ns = later} {rest = rest} t led stops lasts) = behind cuts less (renamed asked t.name) later t.counts after rest stops

-- a limit of messages that is not reached
pub record IsWithin (e : Given) (most : ℕ) (ending : Ending) (inner : Ending) : Type 0 where
  pub same : inner ≡ ending
  pub room : (ws : Vec Wanted) → ending ≡ ends.Wants ws → nat_lt (length e.messages) most ≡ true

pub within : (e : Given) (most : ℕ) (inner ending : Ending) → ending ≡ ending_within most e inner → wants_more ending ≡ true → IsWithin e most ending inner
within e most (ends.Wants xs) ending is more = go (nat_lt (length e.messages) most) refl is
  where
    go : (b : Bool) → nat_lt (length e.messages) most ≡ b → ending ≡ (if b then ends.Wants xs else ends.TooManyMessages) → IsWithin e most ending (ends.Wants xs)
    go true k e = record { same = sym e; room = λ ws wants. k }
    go false k e = absurd (false≢true (sym (ap wants_more e) ∙ more))
within e most (ends.Asks asks) ending is more = record { same = sym is; room = λ ws wants. absurd (let both : ends.Asks asks ≡ ends.Wants ws = sym is ∙ wants in cc) }
within e most (ends.Secure of v) ending is more = absurd (false≢true (sym (ap wants_more is) ∙ more))
within e most (ends.Leads lead) ending is more = absurd (false≢true (sym (ap wants_more is) ∙ more))
within e most (ends.Unsigned c datas) ending is more = absurd (false≢true (sym (ap wants_more is) ∙ more))
within e most (ends.LeftOpen of) ending is more = absurd (false≢true (sym (ap wants_more is) ∙ more))
within e most (ends.Untold of by name t r) ending is more = absurd (false≢true (sym (ap wants_more is) ∙ more))
within e most ends.TooManyCuts ending is more = absurd (false≢true (sym (ap wants_more is) ∙ more))
within e most ends.TooManyAliases ending is more = absurd (false≢true (sym (ap wants_more is) ∙ more))
within e most ends.TooManyMessages ending is more = absurd (false≢true (sym (ap wants_more is) ∙ more))
within e most ends.Outside ending is more = absurd (false≢true (sym (ap wants_more is) ∙ more))

pub ends_somewhere : (e : Given) (asked : Asked) (limits : Limits) (w : Walk) → StopsWithin e asked limits w → wants_more w.ending ≡ true → EndsSomewhere e w.ending
ends_somewhere e asked limits w stops more =
    let k : IsWithin e limits.messages w.ending stops.ending = within e limits.messages stops.ending w.ending stops.is more in
    let inner : wants_more stops.ending ≡ true = ap wants_more k.same ∙ more in
    subst (EndsSomewhere e) k.same (behind e stops.ending inner limits.cuts limits.aliases asked stops.stops.more no_counts w.counts stops.validity stops.stops.stops)
