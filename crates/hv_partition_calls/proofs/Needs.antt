-- What the calls of this call group need of the rows, once all their rules are met.
use Rattle.std.proofs.Common.{◌≡◌, ℕ, ◌+◌, ◌≤◌, ◌==◌, true, false, Option, Some, None, is_some, refl, sym, ap, ◌∙◌, arith, ne_eqb, option_map, option_and_then}
use Rattle.std.proofs.lemmas.Bool.{false≢true}
use Rattle.std.specs.FinMap.{get}
use Rattle.hv_calls.specs.declared.call.Call.TheVariants.{CreatePartition, DeletePartition}
use Rattle.hv_defs.specs.declared.life.Life.{Life}
use Rattle.hv_defs.specs.declared.life.Life.TheVariants.{Created, Active, Finalized}
use Rattle.hv_invariants.proofs.MetRules as granted
use Rattle.hv_pages.specs.PageSet.{IsDisjoint, runs_of}
use Rattle.hv_partition.specs.Partition.{PartitionState}
use Rattle.hv_policy.specs.Met.{is_active}
use Rattle.hv_policy.specs.Needs.{is_among, target_of}
use Rattle.hv_policy.specs.declared.need.States.TheVariants as states
use Rattle.hv_privs.specs.declared.Privileges.{Privileges}
use Rattle.hv_admit.proofs.MetRules.{admitted_allowed, caller_row, child_row, state_row}
use Rattle.hv_admit.proofs.CountedRows.{available_counted}
use Rattle.hv_admit.proofs.FoundRow.{content_row}
use Rattle.hv_admit.proofs.PageHolders.{apart_sets}
use Rattle.hv_admit.proofs.StateInvariant.{UsesNothing, few_loose, few_pooled, parents_below, quiet}
use Rattle.hv_admit.specs.Served.{TreeInvariant}
use Rattle.hv_admit.specs.Tie.{holds, part_row}
use Rattle.hv_tree.specs.Rows.{Row, Rows, content, is_leaf, parent}
use Rattle.hv_partition_calls.specs.Change.{CanInsert, HasFewPages, MayCreate, MayDelete}

-- the next id is free
pub free_row : (rows : Rows PartitionState) (t : TreeInvariant rows) → get rows t.flat.next ≡ None
free_row rows t = by (get rows t.flat.next) refl
  where
    by : (r : Option (Row PartitionState)) → get rows t.flat.next ≡ r → r ≡ None
    by None is = refl
    by (Some r) is = absurd (let below = t.lawful.below t.flat.next (part_row r) ((t.tied.rows t.flat.next).part ∙ ap (option_map part_row) is) in omega arith)

pub can_insert : (rows : Rows PartitionState) (caller next : ℕ) (mask : Privileges) → MayCreate rows caller next mask → CanInsert rows caller next
can_insert rows caller next mask may =
    let t = may.granted.admitted.rows in
    let allowed = admitted_allowed rows caller (CreatePartition may.flags) may.granted.admitted may.granted.met in
    let (r, is, active) = caller_row rows t.flat t.tied caller (CreatePartition may.flags) allowed in
    let charge = granted.charge_there t.flat caller (CreatePartition may.flags) allowed allowed.further.1.0 in
    let counted = available_counted rows t.flat t.tied caller r is in
    let pool = few_pooled rows t.flat t.tied t.pages t.lawful caller r is in
    let bounded = t.bounded in
    record {
      there = ap is_some is;
      free = ap is_some (ap (get rows) (sym may.named) ∙ free_row rows may.tree);
      few = omega arith;
    }

-- a partition has no more pages than the machine
pub few_pages : (rows : Rows PartitionState) → TreeInvariant rows → (id : ℕ) (p : PartitionState) → content rows id ≡ Some p → HasFewPages p
few_pages rows t id p there =
    let (r, is, same) = content_row rows id p (sym there) in
    let loose = few_loose rows t.flat t.tied t.pages t.lawful id r is in
    let pooled = few_pooled rows t.flat t.tied t.pages t.lawful id r is in
    let bounded = t.bounded in
    rw (← same) (record { loose = omega arith; pooled = omega arith })

-- a target that may be deleted: it is a leaf, uses nothing of its pool, shares no page with the caller, and has
-- at most this many runs of pages
pub record IsEnding (rows : Rows PartitionState) (caller id runs : ℕ) : Type 0 where
  pub leaf : is_leaf rows id ≡ true
  pub apart : id == caller ≡ false
  pub owner : Row PartitionState
  pub there : get rows caller ≡ Some owner
  pub gone : Row PartitionState
  pub was : get rows id ≡ Some gone
  pub idle : UsesNothing rows id gone.1
  pub loose : IsDisjoint owner.1.loose.pages gone.1.loose.pages
  pub pooled : IsDisjoint owner.1.loose.pages gone.1.pooled.pages
  pub own : IsDisjoint gone.1.loose.pages gone.1.pooled.pages
  pub counted : runs_of gone.1.loose.pages + runs_of gone.1.pooled.pages ≤ runs

idle_state : (life : Life) → is_among life states.CreatedOrFinalized ≡ true → is_active life ≡ false
idle_state Created h = refl
idle_state Active h = cc
idle_state Finalized h = refl

pub is_ending : (rows : Rows PartitionState) (caller partition id runs : ℕ) → id ≡ target_of (DeletePartition partition) caller → MayDelete rows caller partition runs → IsEnding rows caller id runs
is_ending rows caller partition id runs is may =
    let g = may.granted in
    let t = g.admitted.rows in
    let target = target_of (DeletePartition partition) caller in
    let allowed = admitted_allowed rows caller (DeletePartition partition) g.admitted g.met in
    let (owner, there, active) = caller_row rows t.flat t.tied caller (DeletePartition partition) allowed in
    let (gone, was, below) = child_row rows t.flat t.tied caller (DeletePartition partition) allowed refl in
    let (gone2, was2, state) = state_row rows t.flat t.tied caller (DeletePartition partition) allowed allowed.further.0 in
    let same : gone2 ≡ gone = (let both = sym was2 ∙ was in cc) in
    let still : is_active gone.1.life ≡ false = ap {A = Row PartitionState} (λ r. is_active r.1.life) (sym same) ∙ idle_state gone2.1.life state in
    let named : parent rows target ≡ Some caller = ap (option_and_then (λ r. r.0)) was ∙ below in
    let above = parents_below rows t.flat t.tied t.pages t.lawful target caller named in
    let idle = quiet rows t.flat t.tied t.pages t.lawful target gone was still in
    let childless = idle.childless in
    let held : gone.1 ≡ may.gone = (let both = sym (ap (option_map (λ r. r.1)) was) ∙ may.was in cc) in
    let counted = may.counted in
    rw is (record {
      leaf = rw (named, childless) refl;
      apart = ne_eqb target caller (λ e. omega (arith, e, above));
      owner = owner;
      there = there;
      gone = gone;
      was = was;
      idle = idle;
      loose = λ page h. sym (ap (holds false page) was) ∙ apart_sets rows t.flat t.tied caller target false false (λ e. let is = e.0 in omega (arith, is, above))
          page (ap (holds false page) there ∙ h);
      pooled = λ page h. sym (ap (holds true page) was) ∙ apart_sets rows t.flat t.tied caller target false true (λ e. let is = e.0 in omega (arith, is, above)) page (ap (holds false page) there ∙ h);
      own = λ page h. sym (ap (holds true page) was) ∙ apart_sets rows t.flat t.tied target target false true (λ e. false≢true e.1) page (ap (holds false page) was ∙ h);
      counted = rw held (omega arith);
    })
