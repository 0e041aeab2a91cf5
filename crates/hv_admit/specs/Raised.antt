-- When a SINT raises its vector.
use Rattle.std.specs.Prelude.{ℕ, zero, suc, ◌&&◌, not, Bool, cond, Option}
use Rattle.std.specs.FinMap.{FinMap}
use Rattle.std.specs.FinMap as map
use Rattle.std.specs.FinSet as set
use Rattle.std.specs.List.{list_any}
use Rattle.std.specs.Option.{option_map_or}
use Rattle.std.specs.Ordering.{nat_cmp}
use Rattle.hv_defs.specs.Vectors.{VectorSet, raised}
use Rattle.hv_policy.specs.Flat.{Flat, VpRow}
use Rattle.hv_policy.specs.Mail.{is_shown, mail_at, place}

-- the vectors of those SINTs below a number that pass a test, at a processor with these registers. A masked
-- SINT has none
unfoldable pub vectors_of : (ℕ → Bool) → FinMap nat_cmp ℕ → ℕ → VectorSet
vectors_of test registers zero = set.empty
vectors_of test registers (suc sint) = cond (test sint)
    (raised registers sint (vectors_of test registers sint)) (vectors_of test registers sint)

-- whether a SINT of a processor shows a message
abbrev pub shows : ℕ → ℕ → Flat → ℕ → Bool
shows part vp f sint = list_any is_shown (mail_at (place part vp sint) f.mail)

-- whether a SINT shows a message in `g` and showed none in `f`
abbrev pub became_shown : ℕ → ℕ → Flat → Flat → ℕ → Bool
became_shown part vp f g sint = shows part vp g sint && not (shows part vp f sint)

-- the registers of the processor with this row, none if it is missing
abbrev pub registers_of : Option VpRow → FinMap nat_cmp ℕ
registers_of row = option_map_or (λ row. row.registers) row map.empty
