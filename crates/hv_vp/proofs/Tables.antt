-- The table of registers.
use Rattle.std.proofs.Common.{◌≡◌, ℕ, zero, suc, ◌+◌, ◌<◌, Bool, ◌==◌, List, [], ◌∷◌, length, get_or, set as list_set, None, Some, Err, arith, inl, inr, sym, refl, ap, subst, ◌∙◌, zip, find}
use Rattle.std.proofs.Common.{map as list_map, option_map, Option, true, false, ne_eqb, eq-eqb, eqb-true}
use Rattle.std.specs.List.{position_from}
use Rattle.std.specs.Cmp.{nat_cmp_total}
use Rattle.std.specs.FinMap as map
use Rattle.std.proofs.lemmas.Option.{none-some, same_Some}
use Rattle.std.proofs.lemmas.Bool.{agree_below_at, cases_Bool, cases_eq, false≢true}
use Rattle.hv_defs.specs.declared.registers.RegisterRow.{RegisterRow}
use Rattle.hv_defs.specs.declared.registers.TheConstants.{REGISTERS, VP_INDEX}
use Rattle.hv_defs.specs.declared.registers.Takes.TheVariants.{Nothing}
use Rattle.hv_defs.specs.declared.registers.RegFault.TheVariants.{Unknown}
use Rattle.hv_vp.specs.Registers.{msr_place, names, registers_of, place_of, takes_at}
use Rattle.hv_defs.specs.Registers.{has_msr, kept, name_of_msr, row_of, start_registers, take}
use Rattle.hv_vp.proofs.Places.{IsFirst, find_none, get-zip, set-zip}

-- the name stands first in row k, which is the row of the name
pub record IsRow (rows : List RegisterRow) (name k : ℕ) : Type 0 where
  pub first : IsFirst (names rows) name k
  pub found : (d : RegisterRow) → find (λ row. row.name == name) rows ≡ Some (get_or rows k d)

-- no row has the name
pub record IsUnknown (rows : List RegisterRow) (name : ℕ) : Type 0 where
  pub apart : (j : ℕ) → j < length (names rows) → get_or (names rows) j 0 ≡ name → ⊥
  pub found : find (λ row. row.name == name) rows ≡ None

module _ (name : ℕ) where
  abbrev here : RegisterRow → Bool
  here row = row.name == name

  one_more : (row : RegisterRow) (rows : List RegisterRow) (k : ℕ) → (row.name ≡ name → ⊥) → IsRow rows name k → IsRow (row ∷ rows) name (suc k)
  one_more row rows k apart is = record {
    first = record {
      within = omega (arith, is.first.within);
      at = is.first.at;
      before = λ j below. elim j as (λ j. j < suc k → get_or (names (row ∷ rows)) j 0 ≡ name → ⊥) [ zero ↦ λ _. apart | suc j ↦ λ below. is.first.before j (omega arith) ] below;
    };
    found = λ d. rw (ne_eqb row.name name apart) (is.found d);
  }

  -- a scan that finds a row finds the row of the name
  pub row_at : (rows : List RegisterRow) (i p : ℕ) → position_from here i rows ≡ Some p → (k : ℕ) × (i + k ≡ p) × IsRow rows name k
  row_at [] i p e = absurd (none-some p e)
  row_at (row ∷ rows) i p e =
      elim (cases_eq row.name name) [
        | inl is ↦
            let same : Some i ≡ Some p = rw (eq-eqb row.name name is) at e in (
              0,
              omega (arith, same_Some i p same),
              record {
                first = record { within = omega arith; at = is; before = λ j below. absurd (omega arith) };
                found = λ d. rw (eq-eqb row.name name is) refl;
              },
            )
        | inr apart ↦
            let later = row_at rows (i + 1) p (rw (ne_eqb row.name name apart) at e) in
            (suc later.0, omega (arith, later.1), one_more row rows later.0 apart later.2)
      ]

  -- a scan that finds none tells that no row has the name
  pub no_row : (rows : List RegisterRow) (i : ℕ) → position_from here i rows ≡ None → IsUnknown rows name
  no_row [] i e = record { apart = λ j below. absurd (omega arith); found = refl }
  no_row (row ∷ rows) i e =
      elim (cases_eq row.name name) [
        | inl is ↦ absurd (none-some i (sym (rw (eq-eqb row.name name is) at e)))
        | inr apart ↦
            let later = no_row rows (i + 1) (rw (ne_eqb row.name name apart) at e) in
            record {
              apart = λ j below. elim j as (λ j. j < length (names (row ∷ rows)) → get_or (names (row ∷ rows)) j 0 ≡ name → ⊥) [ zero ↦ λ _. apart | suc j ↦ λ below. later.apart j (omega arith) ]
                  below;
              found = rw (ne_eqb row.name name apart) later.found;
            }
      ]

-- the row at a register's place
at_place : (name place : ℕ) → place_of name ≡ Some place → IsRow REGISTERS name place
unfolding place_of
at_place name place scan =
    let row = row_at name REGISTERS 0 place scan in
    let is : row.0 ≡ place = omega (arith, row.1) in
    rw is at row.2

at_none : (name : ℕ) → place_of name ≡ None → IsUnknown REGISTERS name
unfolding place_of
at_none name scan = no_row name REGISTERS 0 scan

-- a place of the table
pub place_within : (name place : ℕ) → place_of name ≡ Some place → place < 40
place_within name place scan = (at_place name place scan).first.within

-- what the table's registers answer, by their places
module _ (name : ℕ) (values : List ℕ) where
  pub read_unknown : place_of name ≡ None → None ≡ map.get (registers_of values) name
  unfolding registers_of
  read_unknown scan = sym (map.get-from_entries nat_cmp_total (zip (names REGISTERS) values) name ∙ find_none name (names REGISTERS) values (at_none name scan).apart)

  pub read_known : (place : ℕ) → length values ≡ 40 → place_of name ≡ Some place → Some (get_or values place 0) ≡ map.get (registers_of values) name
  unfolding registers_of
  read_known place same scan = sym (get-zip (names REGISTERS) values name place same (at_place name place scan).first)

  pub written : (place value : ℕ) → length values ≡ 40 → place_of name ≡ Some place → registers_of (list_set values place value) ≡ map.insert (registers_of values) name value
  unfolding registers_of
  written place value same scan = set-zip (names REGISTERS) values name place same (at_place name place scan).first value

-- what a register keeps, by its place
module _ (name value : ℕ) where
  pub kept_unknown : place_of name ≡ None → kept (row_of name) value ≡ Err Unknown
  unfolding row_of
  kept_unknown scan = ap (λ row. kept row value) (at_none name scan).found

  pub kept_known : (place : ℕ) → place_of name ≡ Some place → kept (row_of name) value ≡ take (takes_at place) value
  unfolding row_of takes_at
  kept_known place scan = ap (λ row. kept row value) ((at_place name place scan).found (record { name = 0; msr = None; privilege = 0; takes = Nothing; start = 0 }))

-- the row of a register, by its place
module _ (name : ℕ) where
  pub row_unknown : place_of name ≡ None → row_of name ≡ None
  unfolding row_of
  row_unknown scan = (at_none name scan).found

  pub row_known : (place : ℕ) (d : RegisterRow) → place_of name ≡ Some place → row_of name ≡ Some (get_or REGISTERS place d)
  unfolding row_of
  row_known place d scan = (at_place name place scan).found d

-- rows with their values are entries
zip-rows : (rows : List RegisterRow) → zip (names rows) (list_map (λ row. row.start) rows) ≡ list_map (λ row. (row.name, row.start)) rows
zip-rows [] = refl
zip-rows (row ∷ rows) = ap (λ es. (row.name, row.start) ∷ es) (zip-rows rows)

vp_index_place : place_of VP_INDEX ≡ Some 18
unfolding place_of
vp_index_place = refl

-- the registers of a new processor
pub started : (index : ℕ) → registers_of (list_set (list_map (λ row. row.start) REGISTERS) 18 index) ≡ start_registers index
unfolding registers_of
started index =
    written VP_INDEX (list_map (λ row. row.start) REGISTERS) 18 index refl vp_index_place
    ∙ ap (λ es. map.insert (map.from_entries es) VP_INDEX index) (zip-rows REGISTERS)

-- the first row at which a test passes
pub found_at : (p : RegisterRow → Bool) (rows : List RegisterRow) (i place : ℕ) (d : RegisterRow) → position_from p i rows ≡ Some place
    → (k : ℕ) × (i + k ≡ place) × (find p rows ≡ Some (get_or rows k d))
found_at p [] i place d e = absurd (none-some place e)
found_at p (row ∷ rows) i place d e =
    elim (cases_Bool (p row)) [
      | inl is ↦
          let same : Some i ≡ Some place = rw is at e in
          (0, omega (arith, same_Some i place same), rw is refl)
      | inr apart ↦
          let later = found_at p rows (i + 1) place d (rw apart at e) in
          (suc later.0, omega (arith, later.1), rw apart later.2)
    ]

pub none_found : (p : RegisterRow → Bool) (rows : List RegisterRow) (i : ℕ) → position_from p i rows ≡ None → find p rows ≡ None
none_found p [] i e = refl
none_found p (row ∷ rows) i e =
    elim (cases_Bool (p row)) [
      | inl is ↦ absurd (none-some i (sym (rw is at e)))
      | inr apart ↦ rw apart (none_found p rows (i + 1) (rw apart at e))
    ]

-- the name of a model-specific register, by its place
pub named : (msr place : ℕ) (d : RegisterRow) → msr_place msr ≡ Some place → name_of_msr msr ≡ Some (get_or REGISTERS place d).name
unfolding msr_place name_of_msr
named msr place d scan =
    let at = found_at (has_msr msr) REGISTERS 0 place d scan in
    let is : at.0 ≡ place = omega (arith, at.1) in
    ap (option_map (λ (row : RegisterRow). row.name)) (rw is at at.2)

pub unnamed : (msr : ℕ) → msr_place msr ≡ None → name_of_msr msr ≡ None
unfolding msr_place name_of_msr
unnamed msr scan = ap (option_map (λ (row : RegisterRow). row.name)) (none_found (has_msr msr) REGISTERS 0 scan)
