-- The changes of keys as the code names them.
use Rattle.std.specs.Prelude.{ℕ, Bool, Result, Option, None, String}
use Rattle.keyset_rolls.specs.declared.rolls.RollType.{RollType}
use Rattle.keyset_rolls.specs.Rolls.{reported1, reported2, waited1, waited2}
use Rattle.keyset.specs.declared.maps.Step.{Step}
use Rattle.keyset.specs.declared.maps.Step.TheVariants as step
use Rattle.keyset.specs.declared.settings.Setting.{Setting}
use Rattle.keyset.specs.declared.settings.Setting.TheVariants as setting
use Rattle.keyset_keys.specs.declared.keys.Available.{Available}
use Rattle.keyset_keys.specs.declared.keys.KeyType.TheVariants.{Ksk, Zsk, Csk, Include}
use Rattle.keyset.specs.KeyState.{Key, Refusal, at_parent_to, clear, decoupled_to, ds_seen_at, is_available, new_key, present_to, rrsig_seen_at, seen_at, signer_to, stale_now, text_of}

-- a report or a wait of a roll
abbrev pub stepped : Step → RollType → ℕ → Key → Key
stepped step.Report1 r now = reported1 r now
stepped step.Wait1 r now = waited1 r now
stepped step.Report2 r now = reported2 r now
stepped step.Wait2 r now = waited2 r now

-- a setting of a key
abbrev pub set_to : Setting → Key → Result Key Refusal
set_to (setting.Decoupled b) = decoupled_to b
set_to (setting.Present b now) = present_to b now
set_to (setting.Signer b) = signer_to b
set_to (setting.AtParent b) = at_parent_to b
set_to (setting.Visible time) = seen_at time
set_to (setting.DsVisible time) = ds_seen_at time
set_to (setting.RrsigVisible time) = rrsig_seen_at time
set_to setting.Stale = stale_now

-- what an add of each kind makes of what it is handed
abbrev pub new_ksk : {A : Type 0} → Option (String A) → Available → ℕ → ℕ → ℕ → Key
new_ksk private available algorithm tag created = new_key (text_of private) (Ksk (clear (is_available available))) algorithm tag created

abbrev pub new_zsk : {A : Type 0} → Option (String A) → Available → ℕ → ℕ → ℕ → Key
new_zsk private available algorithm tag created = new_key (text_of private) (Zsk (clear (is_available available))) algorithm tag created

abbrev pub new_csk : {A : Type 0} → Option (String A) → Available → ℕ → ℕ → ℕ → Key
new_csk private available algorithm tag created = new_key (text_of private) (Csk (clear (is_available available)) (clear (is_available available))) algorithm tag created

abbrev pub new_other : Bool → ℕ → ℕ → ℕ → Key
new_other available algorithm tag created = new_key None (Include (clear available)) algorithm tag created
