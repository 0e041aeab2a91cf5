-- Which processor of a listed state takes a message or an event flag, by a search through the list.
use Rattle.std.proofs.Common.{◌≡◌, ℕ, ◌==◌, ◌&&◌, ◌∙◌, Bool, true, false, cond, List, [], ◌∷◌, Option, None, Some, T, find, is_some, refl, sym, ap, option_map, nat_cmp}
use Rattle.std.specs.Cmp.{nat_cmp_total}
use Rattle.std.specs.FinMap as map
use Rattle.std.specs.FinMap.{entries, entries_sorted, from_entries, get, get-entries, get-from_entries, is_sorted}
use Rattle.std.specs.FinMap.Entries.{same_entries}
use Rattle.std.specs.Option.{option_map_or}
use Rattle.std.specs.Ordering.{eq_by_cmp}
use Rattle.hv_defs.specs.Bits.{bits}
use Rattle.hv_defs.specs.Flags.{pair_cmp}
use Rattle.hv_defs.specs.declared.aim.Aim.{Aim}
use Rattle.hv_defs.specs.declared.aim.Aim.TheVariants.{One, Any}
use Rattle.hv_defs.specs.declared.registers.TheConstants.{SCONTROL, SIEFP, SIMP}
use Rattle.hv_policy.proofs.Pairs.{pair_cmp_exact, pair_cmp_total}
use Rattle.hv_policy.specs.Aim.{is_ready_for_flags, is_ready_for_messages, select_vp}
use Rattle.hv_policy.specs.Flat.{VpRow}
use Rattle.hv_tables.specs.Lines.{staffed, takers_line, is_target_line, vp_with, vps_of}

abbrev Listed : Type 0
Listed = ℕ × ℕ × ℕ × ℕ × ℕ

abbrev is_set : ℕ → Bool
is_set value = bits value 0 1 == 1

-- whether a processor of the list is ready, by its values of SCONTROL and of the page's register
abbrev for_messages : ℕ → ℕ → ℕ → Bool
for_messages scontrol siefp simp = is_set scontrol && is_set simp

abbrev for_flags : ℕ → ℕ → ℕ → Bool
for_flags scontrol siefp simp = is_set scontrol && is_set siefp

module _ (scontrol siefp simp : ℕ) where
  at : (name : ℕ) → get (vp_with scontrol siefp simp).registers name ≡ map.find nat_cmp name ((SCONTROL, scontrol) ∷ (SIEFP, siefp) ∷ (SIMP, simp) ∷ [])
  at = get-from_entries nat_cmp_total ((SCONTROL, scontrol) ∷ (SIEFP, siefp) ∷ (SIMP, simp) ∷ [])

  messages_with : is_ready_for_messages (vp_with scontrol siefp simp) ≡ for_messages scontrol siefp simp
  messages_with = λ i. option_map_or is_set (at SCONTROL i) false && option_map_or is_set (at SIMP i) false

  flags_with : is_ready_for_flags (vp_with scontrol siefp simp) ≡ for_flags scontrol siefp simp
  flags_with = λ i. option_map_or is_set (at SCONTROL i) false && option_map_or is_set (at SIEFP i) false

module _ (ready : ℕ → ℕ → ℕ → Bool) where
  -- the first of a partition that is ready, and whether one is
  abbrev first_ready : ℕ → List Listed → Option ℕ
  first_ready id [] = None
  first_ready id (row ∷ rows) = cond ((row.0 == id) && ready row.2 row.3 row.4) (Some row.1) (first_ready id rows)

  abbrev one_ready : ℕ × ℕ → List Listed → Bool
  one_ready key [] = false
  one_ready key (row ∷ rows) = cond (eq_by_cmp pair_cmp key (row.0, row.1)) (ready row.2 row.3 row.4) (one_ready key rows)

  abbrev listed_taker : List Listed → ℕ → Aim → Option ℕ
  listed_taker rows id (One vp) = cond (one_ready (id, vp) rows) (Some vp) None
  listed_taker rows id Any = first_ready id rows

module _ (test : VpRow → Bool) (ready : ℕ → ℕ → ℕ → Bool) (is : (scontrol siefp simp : ℕ) → test (vp_with scontrol siefp simp) ≡ ready scontrol siefp simp) where
  first_found : (id : ℕ) (rows : List Listed) → option_map (λ e. e.0.1) (find (λ e. (e.0.0 == id) && test e.1) (vps_of rows)) ≡ first_ready ready id rows
  first_found id [] = refl
  first_found id (row ∷ rows) = ap (λ b. option_map (λ e. e.0.1) (cond ((row.0 == id) && b) (Some ((row.0, row.1), vp_with row.2 row.3 row.4)) (find (λ e. (e.0.0 == id) && test e.1) (vps_of rows))))
      (is row.2 row.3 row.4) ∙ by ((row.0 == id) && ready row.2 row.3 row.4) (first_found id rows)
    where
      by : (b : Bool) → option_map (λ e. e.0.1) (find (λ e. (e.0.0 == id) && test e.1) (vps_of rows)) ≡ first_ready ready id rows → option_map (λ e. e.0.1)
          (cond b (Some ((row.0, row.1), vp_with row.2 row.3 row.4)) (find (λ e. (e.0.0 == id) && test e.1) (vps_of rows))) ≡ cond b (Some row.1) (first_ready ready id rows)
      by true rest = refl
      by false rest = rest

  one_found : (key : ℕ × ℕ) (rows : List Listed) → option_map_or test (map.find pair_cmp key (vps_of rows)) false ≡ one_ready ready key rows
  one_found key [] = refl
  one_found key (row ∷ rows) = by (eq_by_cmp pair_cmp key (row.0, row.1)) (one_found key rows)
    where
      by : (b : Bool) → option_map_or test (map.find pair_cmp key (vps_of rows)) false ≡ one_ready ready key rows → option_map_or test
          (cond b (Some (vp_with row.2 row.3 row.4)) (map.find pair_cmp key (vps_of rows))) false ≡ cond b (ready row.2 row.3 row.4) (one_ready ready key rows)
      by true rest = is row.2 row.3 row.4
      by false rest = rest

  as_listed : (rows : List Listed) → T (is_sorted pair_cmp (vps_of rows)) → entries (from_entries {R = pair_cmp} (vps_of rows)) ≡ vps_of rows
  as_listed rows sorted = same_entries pair_cmp pair_cmp_total pair_cmp_exact _ (vps_of rows) (entries_sorted (from_entries {R = pair_cmp} (vps_of rows))) sorted
      (λ key. sym (get-entries (from_entries {R = pair_cmp} (vps_of rows)) key) ∙ get-from_entries pair_cmp_total (vps_of rows) key)

  taker_found : (rows : List Listed) → T (is_sorted pair_cmp (vps_of rows)) → (id : ℕ) (aim : Aim) → select_vp test (staffed rows) id aim ≡ listed_taker ready rows id aim
  taker_found rows sorted id (One vp) = ap (λ b. cond b (Some vp) None) (ap (λ o. option_map_or test o false) (get-from_entries pair_cmp_total (vps_of rows) (id, vp)) ∙ one_found (id, vp) rows)
  taker_found rows sorted id Any = ap (λ es. option_map (λ e. e.0.1) (find (λ e. (e.0.0 == id) && test e.1) es)) (as_listed rows sorted) ∙ first_found id rows

pub takers_found : (rows : List Listed) → T (is_sorted pair_cmp (vps_of rows)) → (id : ℕ) (aim : Aim) (takers : Option ℕ × Option ℕ) →
    (listed_taker for_messages rows id aim, listed_taker for_flags rows id aim) ≡ takers → takers_line rows id aim ≡ takers
unfolding takers_line
takers_found rows sorted id aim takers h =
    (λ i. (taker_found is_ready_for_messages for_messages messages_with rows sorted id aim i, taker_found is_ready_for_flags for_flags flags_with rows sorted id aim i)) ∙ h

pub target_found : (rows : List Listed) (id vp : ℕ) (is : Bool) → is_some (map.find pair_cmp (id, vp) (vps_of rows)) ≡ is → is_target_line rows id (One vp) ≡ is
unfolding is_target_line
target_found rows id vp is h = ap is_some (get-from_entries pair_cmp_total (vps_of rows) (id, vp)) ∙ h
