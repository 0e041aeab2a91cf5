-- A processor of the tree in a flat state, and what the accesses of this call group change at it.
use Rattle.std.specs.Prelude.{◌≡◌, ℕ, Some}
use Rattle.std.specs.FinMap.{get}
use Rattle.std.specs.FinSet as set
use Rattle.hv_defs.specs.Vectors.{highest, without}
use Rattle.hv_mail.specs.Mail.{at}
use Rattle.hv_policy.specs.Flat.{Flat, VpRow}
use Rattle.hv_policy.specs.Mail.{mail_at}
use Rattle.hv_admit.specs.Tie.{here, rows_of, vp_row_of}
use Rattle.hv_vp.specs.Vp.{VpState}

-- the flat state has a processor in this state, with its messages
pub record HasState (f : Flat) (part index : ℕ) (v : VpState) : Type 0 where
  pub row : get f.vp (part, index) ≡ Some (vp_row_of v)
  pub mail : (sint : ℕ)
      → mail_at (here part index sint) f.mail ≡ rows_of (here part index sint) (at v.mail sint)

-- the row of a processor after an event flag is cleared
abbrev pub without_flag : ℕ → ℕ → VpRow → VpRow
without_flag sint flag row = record row { flags = set.remove row.flags (sint, flag) }

-- the row of a processor after its highest pending vector is taken
abbrev pub interrupted : VpRow → VpRow
interrupted row = record row { pending = without row.pending (highest row.pending) }
