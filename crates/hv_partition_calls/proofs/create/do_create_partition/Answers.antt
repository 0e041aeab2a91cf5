use Rattle.std.proofs.Common.{◌≡◌, refl, sym, ap, ◌∙◌, rules}
use Rattle.std.specs.FinMap.{get}
use Rattle.hv_defs.specs.declared.life.Life.TheVariants.{Created}
use Rattle.hv_admit.proofs.PagesAndVps.{untold}
use Rattle.hv_partition.specs.Partition.{new_partition}
use Rattle.hv_partition_calls.proofs.CreatedPartition.{created_tied}
use Rattle.hv_partition_calls.proofs.Needs.{can_insert, free_row}
use Rattle.hv_partition_calls.proofs.create.do_create_partition.Goals as goal

pub insert-requires : goal.insert-requires
insert-requires g c = can_insert c.args.tree.now c.args.caller c.args.next c.args.mask c.requires.may

pub returns : goal.returns
returns g c f flags flat named =
    let may = c.requires.may in
    let made : c.in_ok-partition.partition ≡ new_partition Created c.args.mask = search rules in
    record {
      output = search rules;
      rows = rw (c.in_ok-insert.ensures.inserted, made, ← named) (created_tied c.args.tree.now f flat c.args.caller may.creator may.there c.args.mask may.restricted
          (ap (get c.args.tree.now) (named ∙ sym may.named) ∙ free_row c.args.tree.now may.tree));
      told = untold f _ refl refl refl;
    }
