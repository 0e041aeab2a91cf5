-- What is found in the registers of a new processor.
use Rattle.std.proofs.Common.{◌≡◌, ℕ, ◌∙◌, ap, map, cond, Some, nat_cmp}
use Rattle.std.specs.Ordering.{eq_by_cmp}
use Rattle.std.specs.Cmp.{nat_cmp_total}
use Rattle.std.specs.FinMap.{find, from_entries, get, get-insert, get-from_entries}
use Rattle.hv_defs.specs.Registers.{start_registers}
use Rattle.hv_defs.specs.declared.registers.TheConstants.{REGISTERS, VP_INDEX}

-- the index under its name, and else what the table has
pub found_at_start : (index name : ℕ) → get (start_registers index) name ≡ cond (eq_by_cmp nat_cmp name VP_INDEX) (Some index) (find nat_cmp name (map (λ r. (r.name, r.start)) REGISTERS))
found_at_start index name =
    get-insert nat_cmp_total (from_entries (map (λ r. (r.name, r.start)) REGISTERS)) VP_INDEX index name
    ∙ ap (cond (eq_by_cmp nat_cmp name VP_INDEX) (Some index)) (get-from_entries nat_cmp_total (map (λ r. (r.name, r.start)) REGISTERS) name)
