-- What a lawful state tells of single rows.
use Rattle.std.proofs.Common.{◌≡◌, ℕ, ◌==◌, Bool, true, false, Some, refl, sym, ap, ◌∙◌, arith, eq-eqb, count_by}
use Rattle.std.specs.FinMap.{FinMap, get, entries}
use Rattle.hv_defs.proofs.Counts.{passes}
use Rattle.hv_policy.proofs.Pairs.{pair_cmp_total, pair_cmp_exact}
use Rattle.hv_policy.specs.Count.{conn_count, in_use, port_count, vp_count}
use Rattle.hv_defs.specs.Flags.{pair_cmp}
use Rattle.hv_policy.specs.Met.{is_running}
use Rattle.hv_policy.specs.Flat.{ConnRow, Flat, PartRow, PortRow, VpRow}
use Rattle.hv_invariants.proofs.ChangedRow.{childless}
use Rattle.hv_defs.proofs.Tallies.{none-counted}
use Rattle.hv_invariants.specs.StateInvariant.{StateInvariant}

-- a row by (partition, number) is counted at its partition
not_none : {X : Type 0} (rows : FinMap pair_cmp X) (key : ℕ × ℕ) (x : X) → get rows key ≡ Some x → count_by (λ (e : (ℕ × ℕ) × X). e.0.0 == key.0) (entries rows) ≡ 0 → ⊥
not_none {X = X} rows key x is none =
    let apart = sym (ap (passes (λ (e : (ℕ × ℕ) × X). e.0.0 == key.0) key) is) ∙ none-counted pair_cmp_total pair_cmp_exact (λ (e : (ℕ × ℕ) × X). e.0.0 == key.0) rows none key in
    let both = sym (eq-eqb key.0 key.0 refl) ∙ apart in
    cc

module _ (pages : ℕ) (f : Flat) (l : StateInvariant pages f) where
  running_if : (id : ℕ) → (in_use f id ≡ 0 → ⊥) → is_running f id ≡ true
  running_if id some = by (is_running f id) refl
    where
      by : (b : Bool) → is_running f id ≡ b → b ≡ true
      by true is = refl
      by false is = absurd (some (l.idle id is))

  -- processors, ports, connections and children are of partitions that are there and Active
  pub vp_running : (key : ℕ × ℕ) (row : VpRow) → get f.vp key ≡ Some row → is_running f key.0 ≡ true
  vp_running key row is = running_if key.0 (λ none. not_none f.vp key row is (let all : vp_count f key.0 ≡ 0 = omega arith in all))

  pub port_running : (key : ℕ × ℕ) (row : PortRow) → get f.port key ≡ Some row → is_running f key.0 ≡ true
  port_running key row is = running_if key.0 (λ none. not_none f.port key row is (let all : port_count f key.0 ≡ 0 = omega arith in all))

  pub conn_running : (key : ℕ × ℕ) (row : ConnRow) → get f.conn key ≡ Some row → is_running f key.0 ≡ true
  conn_running key row is = running_if key.0 (λ none. not_none f.conn key row is (let all : conn_count f key.0 ≡ 0 = omega arith in all))

  pub parent_running : (id parent : ℕ) (row : PartRow) → get f.part id ≡ Some row → row.parent ≡ Some parent → is_running f parent ≡ true
  parent_running id parent row is named = running_if parent (λ none. childless f parent id row none is named)
