-- What finalizing and deleting a partition tell.
use Rattle.std.proofs.Common.{◌≡◌, ◌≢◌, ℕ, ◌==◌, ◌&&◌, ◌||◌, not, Bool, true, false, cond, List, [], ◌∷◌, length, map, is_some, Option, Some}
use Rattle.std.proofs.Common.{None, refl, sym, ap, subst, ◌∙◌, eq-eqb, eqb-true, option_map, nat_cmp}
use Rattle.std.proofs.Math.Bool.{or-true}
use Rattle.std.specs.Cmp.{nat_cmp_total, unsigned_tied}
use Rattle.std.specs.FinMap as finmap
use Rattle.std.specs.FinMap.{FinMap, contains_key, contains_key-keys, entries, get, get-empty, len-entries, nat_cmp-IsAntisymmetric, remove}
use Rattle.std.specs.FinSet as set
use Rattle.std.specs.List.{list_any}
use Rattle.std.specs.Option.{option_map_or}
use Rattle.std.specs.Ordering.{eq_by_cmp}
use Rattle.hv_calls.specs.declared.call.Call.TheVariants.{DeletePartition, FinalizePartition}
use Rattle.hv_defs.proofs.Maps.{get_at-remove}
use Rattle.hv_defs.specs.Flags.{pair_cmp}
use Rattle.hv_defs.specs.declared.life.Life.TheVariants.{Finalized}
use Rattle.hv_admit.proofs.PagesAndVps.{finalized_told, no_pages_told, none_finalized, pages_told, passed_on}
use Rattle.hv_admit.proofs.ProcessorChange.{still_there}
use Rattle.hv_admit.specs.Effect.{HasPage, Tells, was_of}
use Rattle.hv_admit.specs.declared.effect.Effect.TheVariants as variant
use Rattle.hv_pages.specs.PageSet.{Pages}
use Rattle.hv_partition.specs.Partition.{PartitionState, finalized}
use Rattle.hv_policy.proofs.Rows.{get-with_row}
use Rattle.hv_policy.specs.Effect.{rows_but, with_row}
use Rattle.hv_policy.specs.Flat.{ConnRow, Flat, PageRow, PartRow, PortRow}
use Rattle.hv_policy.specs.Mail.{mail_but}
use Rattle.hv_policy.specs.Needs.{target_of}
use Rattle.hv_admit.proofs.MetRules.{admitted_allowed, target_row}
use Rattle.hv_admit.proofs.FoundRow.{content_row}
use Rattle.hv_admit.proofs.StateInvariant.{UsesNothing}
use Rattle.hv_admit.specs.Asked.{IsGranted}
use Rattle.hv_admit.specs.Done.{HasServed}
use Rattle.hv_admit.specs.Tie.{Refines, here, holds, is_held, part_row, rows_of, sint_mail, mail_there, vp_row, vp_row_of}
use Rattle.hv_tree.specs.Rows.{Row, Rows, change, content}
use Rattle.hv_vp.specs.Vp.{VpState}
use Rattle.hv_partition_calls.proofs.DeletedPartition.{deleted_tied}
use Rattle.hv_partition_calls.proofs.LifeChanges.{closed_tied, made_final}
use Rattle.hv_partition_calls.proofs.LentPartition.{is_deleted, was_there}
use Rattle.hv_partition_calls.proofs.Needs.{is_ending}
use Rattle.hv_partition_calls.specs.Change.{HasRoom, HasTakenOver, MayDelete, effect_of_pages, has_vps, is_pageless}

-- the first of some items is one of them
first_item : (item : ℕ) (items : List ℕ) → list_any (eq_by_cmp nat_cmp item) (item ∷ items) ≡ true
first_item item items = ap (λ b. b || list_any (eq_by_cmp nat_cmp item) items) (unsigned_tied item item ∙ eq-eqb item item refl)

-- a map that isn't empty has a key
some_key : {X : Type 0} (m : FinMap nat_cmp X) → finmap.len m == 0 ≡ false → (key : ℕ) × (contains_key m key ≡ true)
some_key {X} m some = by (entries m) refl (ap (λ n. n == 0) (sym (len-entries m)) ∙ some)
  where
    by : (es : List (ℕ × X)) → entries m ≡ es → length (entries m) == 0 ≡ false → (key : ℕ) × (contains_key m key ≡ true)
    by [] is some = let none = sym (ap (λ (es : List (ℕ × X)). length es == 0) is) ∙ some in cc
    by (e ∷ es) is some =
        (e.0, contains_key-keys m e.0 ∙ ap (λ (es : List (ℕ × X)). list_any (eq_by_cmp nat_cmp e.0) (map (λ e. e.0) es)) is ∙ first_item e.0 (map (λ e. e.0) es))

some_page : (s : Pages) → set.len s == 0 ≡ false → (page : ℕ) × (set.contains s page ≡ true)
some_page s some = by (set.items s) refl
  where
    by : (pages : List ℕ) → set.items s ≡ pages → (page : ℕ) × (set.contains s page ≡ true)
    by [] is =
        let empty : s ≡ set.empty = set.same_set nat_cmp_total nat_cmp-IsAntisymmetric s set.empty (λ q. set.contains-items s q
        ∙ ap (list_any (eq_by_cmp nat_cmp q)) is ∙ sym (set.contains-empty nat_cmp q)) in
        let none : true ≡ false = sym (ap (λ s. set.len s == 0) empty ∙ ap (λ n. n == 0) (set.len-empty nat_cmp)) ∙ some in
        cc
    by (page ∷ pages) is = (page, set.contains-items s page ∙ ap (list_any (eq_by_cmp nat_cmp page)) is ∙ first_item page pages)

no_pages : (s : Pages) → set.len s == 0 ≡ true → (page : ℕ) → set.contains s page ≡ false
no_pages s none page = ap (λ s. set.contains s page) (set.empty_of_len s (eqb-true (set.len s) 0 none)) ∙ set.contains-empty nat_cmp page

-- a partition's pages are its loose and its pooled ones
was_held : (id : ℕ) (page : Option PageRow) → was_of id page ≡ is_held id false page || is_held id true page
was_held id None = refl
was_held id (Some page) = by (page.owner == id) page.pooled
  where
    by : (a b : Bool) → a ≡ (a && not b) || (a && b)
    by true true = refl
    by true false = refl
    by false b = refl

module _ (rows : Rows PartitionState) (f : Flat) (flat : Refines rows f) (id : ℕ) (p : PartitionState) (there : content rows id ≡ Some p) where
  page_at : (page : ℕ) → was_of id (get f.page page) ≡ set.contains p.loose.pages page || set.contains p.pooled.pages page
  page_at page =
      let (r, is, same) = content_row rows id p (sym there) in
      was_held id (get f.page page) ∙ (λ i. (flat.rows id).page page false i || (flat.rows id).page page true i) ∙ (λ i. holds false page (is i) || holds true page (is i))
      ∙ ap {A = PartitionState} (λ p. set.contains p.loose.pages page || set.contains p.pooled.pages page) same

  has_page : (a b : Bool) → set.len p.loose.pages == 0 ≡ a → set.len p.pooled.pages == 0 ≡ b → a && b ≡ false → HasPage id f
  has_page true true loose pooled some = cc
  has_page true false loose pooled some =
      let (page, held) = some_page p.pooled.pages pooled in
      record { page = page; is = page_at page ∙ ap (λ b. set.contains p.loose.pages page || b) held ∙ or-true (set.contains p.loose.pages page) }
  has_page false b loose pooled some =
      let (page, held) = some_page p.loose.pages loose in
      record { page = page; is = page_at page ∙ ap (λ b. b || set.contains p.pooled.pages page) held }

  has_none : (a b : Bool) → set.len p.loose.pages == 0 ≡ a → set.len p.pooled.pages == 0 ≡ b → a && b ≡ true → (page : ℕ) → was_of id (get f.page page) ≡ false
  has_none true true loose pooled none page = page_at page ∙ (λ i. no_pages p.loose.pages loose page i || no_pages p.pooled.pages pooled page i)
  has_none true false loose pooled none page = cc
  has_none false b loose pooled none page = cc

  -- its pages pass on
  pub deleting_told : (to : ℕ) (part : FinMap nat_cmp PartRow) → contains_key part id ≡ false → id ≢ to
      → Tells (effect_of_pages id to p) f (passed_on f id to part)
  deleting_told to part left apart = by (is_pageless p) refl
    where
      by : (b : Bool) → is_pageless p ≡ b → Tells (cond b variant.Nothing (variant.Pages id to)) f (passed_on f id to part)
      by true none = no_pages_told f id to part (has_none (set.len p.loose.pages == 0) (set.len p.pooled.pages == 0) refl refl none)
      by false some = pages_told f id to part left (has_page (set.len p.loose.pages == 0) (set.len p.pooled.pages == 0) refl refl some) apart

  vp_at : (vp : ℕ) → contains_key f.vp (id, vp) ≡ contains_key p.vps.vps vp
  vp_at vp =
      let (r, is, same) = content_row rows id p (sym there) in
      ap is_some ((flat.rows id).vp vp ∙ ap (vp_row vp) is) ∙ still_there vp_row_of (get r.1.vps.vps vp) ∙ ap {A = PartitionState} (λ p. contains_key p.vps.vps vp) same

  -- its processors go
  abbrev ended : FinMap nat_cmp PartRow → FinMap pair_cmp PortRow → FinMap pair_cmp ConnRow → Flat
  ended part ports conns = record f { part = part; vp = rows_but id f.vp; port = ports; conn = conns; mail = mail_but id f.mail }

  pub ending_told : (part : FinMap nat_cmp PartRow) (ports : FinMap pair_cmp PortRow) (conns : FinMap pair_cmp ConnRow)
      → option_map (λ row. row.life) (get part id) ≡ Some Finalized → Tells (cond (has_vps p) (variant.Partition id) variant.Nothing) f (ended part ports conns)
  ending_told part ports conns life = by (finmap.len p.vps.vps == 0) refl
    where
      by : (b : Bool) → finmap.len p.vps.vps == 0 ≡ b → Tells (cond (not b) (variant.Partition id) variant.Nothing) f (ended part ports conns)
      by false some =
          let (vp, held) = some_key p.vps.vps some in
          finalized_told f id part ports conns life (record { vp = vp; is = vp_at vp ∙ held })
      by true none =
          let (r, is, same) = content_row rows id p (sym there) in
          let empty : p.vps.vps ≡ finmap.empty = finmap.empty_of_len p.vps.vps (eqb-true (finmap.len p.vps.vps) 0 none) in
          let no_vp : (vp : ℕ) → get p.vps.vps vp ≡ None = (λ vp. ap (λ (vps : FinMap nat_cmp VpState). get vps vp) empty ∙ get-empty nat_cmp vp) in
          none_finalized f id part ports conns (λ vp. vp_at vp ∙ ap is_some (no_vp vp))
          (λ vp sint. (flat.rows id).mail vp sint ∙ ap (λ r. rows_of (here id vp sint) (mail_there vp sint r)) is
          ∙ ap {A = PartitionState} (λ p. rows_of (here id vp sint) (sint_mail sint (get p.vps.vps vp))) same ∙ ap (λ (v : Option VpState). rows_of (here id vp sint) (sint_mail sint v)) (no_vp vp))

-- a finalized partition's processors go
pub has_finalized : (rows : Rows PartitionState) (caller partition id : ℕ) → id ≡ target_of (FinalizePartition partition) caller → IsGranted rows caller (FinalizePartition partition) → (f : Flat)
    → Refines rows f → (staffed : Bool) → staffed ≡ option_map_or has_vps (content rows id) false → (new : Rows PartitionState) → new ≡ change rows id finalized
    → HasServed f caller (FinalizePartition partition) [] (cond staffed (variant.Partition id) variant.Nothing) new
has_finalized rows caller partition id named g f flat staffed is new changed =
    let t = g.admitted.rows in
    let target = target_of (FinalizePartition partition) caller in
    let (r, at) = target_row rows t.flat t.tied caller (FinalizePartition partition) (admitted_allowed rows caller (FinalizePartition partition) g.admitted g.met) in
    let there : content rows target ≡ Some r.1 = ap (option_map (λ r. r.1)) at in
    let life : option_map (λ row. row.life) (get (with_row f.part target made_final) target) ≡ Some Finalized =
    ap (option_map (λ (row : PartRow). row.life)) (get-with_row f.part target made_final target
    ∙ ap (λ t. cond t (option_map made_final (get f.part target)) (get f.part target)) (eq-eqb target target refl)
    ∙ ap (option_map made_final) ((flat.rows target).part ∙ ap (option_map part_row) at)) in
    record {
      output = refl;
      rows = rw (changed, named) (closed_tied rows f flat target);
      told = rw (is, named, there) (ending_told rows f flat target r.1 there _ _ _ life);
    }

-- a deleted partition's pages pass to the caller
pub has_deleted : (rows roomy new : Rows PartitionState) (caller partition id runs : ℕ) → id ≡ target_of (DeletePartition partition) caller → MayDelete rows caller partition runs
    → HasRoom rows roomy caller runs → (gone : PartitionState) → content roomy id ≡ Some gone → HasTakenOver (remove roomy id) new caller gone → (f : Flat) → Refines rows f
    → HasServed f caller (DeletePartition partition) [] (effect_of_pages id caller gone) new
has_deleted rows roomy new caller partition id runs is may room gone was taken f flat =
    let e = is_ending rows caller partition id runs is may in
    let d = is_deleted rows roomy caller id runs e room gone was new taken in
    let same : e.gone ≡ d.gone = (let both = sym e.was ∙ d.was in cc) in
    let idle : UsesNothing rows id d.gone.1 = subst (λ (r : Row PartitionState). UsesNothing rows id r.1) same e.idle in
    record {
      output = refl;
      rows = subst (λ n. Refines new (passed_on f n caller (remove f.part n))) is (deleted_tied rows f flat new caller id e.apart d idle);
      told = subst (λ n. Tells (effect_of_pages id caller gone) f (passed_on f n caller (remove f.part n))) is
          (deleting_told rows f flat id gone (was_there rows roomy caller id runs e room gone was) caller (remove f.part id)
          (ap is_some (get_at-remove f.part id id ∙ ap (λ b. cond b None (get f.part id)) (eq-eqb id id refl))) (λ same. (let both = sym (eq-eqb id caller same) ∙ e.apart in cc)));
    }
