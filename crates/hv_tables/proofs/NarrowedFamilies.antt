-- The masks of a state's partitions once one of them was given a mask, by a search through the rows that the state is made of.
use Rattle.std.proofs.Common.{◌≡◌, ℕ, ◌==◌, ◌∙◌, Bool, true, false, cond, if◌then◌else◌, List, map, Option, Some, ap, option_and_then, option_map, nat_cmp}
use Rattle.std.specs.Cmp.{nat_cmp_total}
use Rattle.std.specs.FinMap.{find, get, get-from_entries}
use Rattle.hv_defs.specs.declared.life.Life.{Life}
use Rattle.hv_policy.proofs.Rows.{get-narrowed, get-with_row}
use Rattle.hv_policy.specs.Boot.{root_row}
use Rattle.hv_policy.specs.Effect.{given, mask_of, narrowed, narrowed_row, property_set, with_row}
use Rattle.hv_policy.specs.Flat.{Flat, PartRow}
use Rattle.hv_policy.specs.Met.{is_active, is_running, test_row}
use Rattle.hv_policy.specs.Subtree.{leads_within}
use Rattle.hv_policy.specs.declared.property.Property.TheVariants.{PrivilegeFlags}
use Rattle.hv_privs.specs.Privileges.{bits_of, of}
use Rattle.hv_tables.specs.Lines.{family, masks_line}

-- the row of a partition then, where `look` finds the rows before
abbrev row_then : (ℕ → Option PartRow) → ℕ → ℕ → ℕ → Option PartRow
row_then look target mask id =
    if test_row (λ row. is_active row.life) (look target)
    then option_map (λ row. if leads_within id (λ id. option_and_then (λ row. row.parent) (look id)) target id then narrowed_row (of mask) row else row) (look id)
    else cond (id == target) (option_map (given (Some PrivilegeFlags) mask) (look target)) (look id)

row_is : (f : Flat) (target mask id : ℕ) → get (property_set f target (Some PrivilegeFlags) mask) id ≡ row_then (get f.part) target mask id
row_is f target mask id = by (is_running f target)
  where
    by : (b : Bool) → get (if b then narrowed f target (of mask) else with_row f.part target (given (Some PrivilegeFlags) mask)) id ≡
        (if b then option_map (λ row. if leads_within id (λ id. option_and_then (λ row. row.parent) (get f.part id)) target id then narrowed_row (of mask) row else row) (get f.part id) else cond
        (id == target) (option_map (given (Some PrivilegeFlags) mask) (get f.part target)) (get f.part id))
    by true = get-narrowed f target (of mask) id
    by false = get-with_row f.part target (given (Some PrivilegeFlags) mask) id

abbrev rows_of : List (ℕ × Option ℕ × Life × ℕ) → List (ℕ × PartRow)
rows_of rows = map (λ (id, parent, life, mask). (id, record (root_row (of mask)) { parent = parent; life = life })) rows

pub masks_found : (rows : List (ℕ × Option ℕ × Life × ℕ)) (target mask : ℕ) (masks : List ℕ) → map (λ row. bits_of (mask_of (row_then (λ id. find nat_cmp id (rows_of rows)) target mask row.0))) rows ≡
    masks → masks_line rows target mask ≡ masks
unfolding masks_line
masks_found rows target mask masks h =
    (λ k. map (λ row. bits_of (mask_of (row_is (family rows) target mask row.0 k))) rows)
    ∙ ap {A = ℕ → Option PartRow} (λ look. map (λ row. bits_of (mask_of (row_then look target mask row.0))) rows) (λ k id. get-from_entries nat_cmp_total (rows_of rows) id k)
    ∙ h
