-- The effect of an event, as C sees it.
use Rattle.std.specs.Prelude.{◌≡◌, ℕ, ◌<◌, ◌==◌, ◌||◌, Bool, if◌then◌else◌, Option, None, Some}
use Rattle.std.specs.FinMap.{get}
use Rattle.hv_defs.specs.declared.sizes.TheConstants.{SINTS}
use Rattle.hv_admit.specs.Effect.{Tells, has_bit, is_number}
use Rattle.hv_admit.specs.declared.effect.Effect.{Effect}
use Rattle.hv_admit.specs.declared.effect.Effect.TheVariants as effect
use Rattle.hv_admit.specs.declared.effect.FlagChange.{FlagChange}
use Rattle.hv_admit.specs.declared.effect.Synic.{Synic}
use Rattle.hv_mail.specs.Words.{numbers_of}
use Rattle.hv_policy.specs.Flat.{Flat}
use Rattle.hv_policy.specs.Mail.{Place, mail_at}
use Rattle.hv_policy.specs.Reading.{has_flag, has_vector}
use Rattle.hv_embed.specs.declared.layout.HvEffect.{HvEffect}
use Rattle.hv_embed.specs.declared.layout.TheConstants.{EFFECT_NOTHING, EFFECT_SYNIC, EFFECT_PAGE}
use Rattle.hv_embed.specs.declared.layout.TheConstants.{EFFECT_PAGES, EFFECT_PROCESSOR, EFFECT_PARTITION}
use Rattle.hv_embed.specs.declared.layout.TheConstants.{FLAG_SET, FLAG_CLEARED}

-- the event flag that changed, its SINT and how it changed, or no flag
abbrev pub IsFlag : Option FlagChange → (flag sint is : ℕ) → Type 0
IsFlag None flag sint is = is ≡ 0
IsFlag (Some change) flag sint is =
    (flag ≡ change.flag) × (sint ≡ change.sint) × (is ≡ (if change.is_set then FLAG_SET else FLAG_CLEARED))

-- the port whose message left its slot, or no port
abbrev pub IsPort : Option ℕ → (port freed : ℕ) → Type 0
IsPort None port freed = freed ≡ 0
IsPort (Some number) port freed = (port ≡ number) × (freed ≡ 1)

-- C sees the effect at one processor. It does not include the vector that the processor took, which is the
-- event's output.
pub record IsSynicShown (s : Synic) (told : HvEffect) : Type 0 where
  pub kind : told.kind ≡ EFFECT_SYNIC
  pub part : told.part ≡ s.part
  pub vp : told.vp ≡ s.vp
  pub raised : numbers_of told.raised ≡ s.raised
  pub shown : told.shown ≡ s.shown
  pub waiting : (sint : ℕ) → sint < SINTS → has_bit told.waiting sint ≡ is_number s.waiting sint
  pub flag : IsFlag s.flag told.flag told.flag_sint told.flag_is
  pub freed : IsPort s.freed told.port told.freed

-- C sees this effect. Fields that its kind does not use may have any value
abbrev pub IsShown : Effect → HvEffect → Type 0
IsShown effect.Nothing told = told.kind ≡ EFFECT_NOTHING
IsShown (effect.Synic s) told = IsSynicShown s told
IsShown (effect.Page page owner pooled) told =
    (told.kind ≡ EFFECT_PAGE) × (told.page ≡ page) × (told.part ≡ owner) ×
    (told.pooled ≡ (if pooled then 1 else 0))
IsShown (effect.Pages from to) told = (told.kind ≡ EFFECT_PAGES) × (told.page ≡ from) × (told.part ≡ to)
IsShown (effect.Processor part vp) told = (told.kind ≡ EFFECT_PROCESSOR) × (told.part ≡ part) × (told.vp ≡ vp)
IsShown (effect.Partition part) told = (told.kind ≡ EFFECT_PARTITION) × (told.part ≡ part)

-- C sees an effect that describes the change from `f` to `g`
pub record IsEffect (told : HvEffect) (f g : Flat) : Type 0 where
  pub effect : Effect
  pub shown : IsShown effect told
  pub tells : Tells effect f g

-- an effect of this kind names at most a page
abbrev pub is_quiet_kind : ℕ → Bool
is_quiet_kind kind = (kind == EFFECT_NOTHING) || (kind == EFFECT_PAGE)

-- messages, event flags and pending vectors are unchanged, at each processor
pub record IsCalm (f g : Flat) : Type 0 where
  pub messages : (at : Place) → mail_at at g.mail ≡ mail_at at f.mail
  pub flags : (at : Place) (flag : ℕ)
      → has_flag (get g.vp (at.part, at.vp)) at.sint flag ≡ has_flag (get f.vp (at.part, at.vp)) at.sint flag
  pub vectors : (part vp vector : ℕ) → has_vector (get g.vp (part, vp)) vector ≡ has_vector
      (get f.vp (part, vp)) vector
