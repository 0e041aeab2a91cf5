use Rattle.std.proofs.Common.{◌≡◌, Some, refl, ap, ◌∙◌}
use Rattle.hv_defs.specs.declared.life.Life.TheVariants.{Active}
use Rattle.hv_admit.specs.Effect.{life_of}
use Rattle.hv_processors.proofs.CreatedProcessor.{added_tied, added_told, create_active, create_free}
use Rattle.hv_tree.specs.Rows.{content}
use Rattle.hv_processors.proofs.create.do_create_vp.Goals as goal

pub add_vp-requires-clause-free : goal.add_vp-requires-clause-free
add_vp-requires-clause-free g c =
    let tree = c.args.tree.now in
    create_free tree c.args.caller c.args.partition c.args.vp c.requires c.in-Some.target.now (c.in-Some.ensures.value ∙ ap (content tree) c.resolve_partition_id-part.ensures)
    c.reserve_vp.new.self.vps.vps c.reserve_vp.ensures.vps

pub returns : goal.returns
returns g c f flat =
    let part = c.resolve_partition_id-part.result in
    let was = c.in-Some.target.now in
    let tree = c.args.tree.now in
    let free = create_free tree c.args.caller c.args.partition c.args.vp c.requires was (c.in-Some.ensures.value ∙ ap (content tree) c.resolve_partition_id-part.ensures) was.vps.vps refl in
    let active : life_of f part ≡ Some Active =
    rw c.resolve_partition_id-part.ensures (create_active c.args.tree.now f flat c.args.caller c.args.partition c.args.vp c.requires) in
    record {
      output = refl;
      rows = rw (← c.resolve_partition_id-part.ensures) (added_tied c.args.tree.now f flat part c.args.vp was c.in-Some.ensures.value free c.reserve_vp.new.self c.add_vp.new.self
          c.in_ok-created.created c.reserve_vp.ensures.rest c.reserve_vp.ensures.vps c.add_vp.ensures.rest c.add_vp.ensures.vps c.in_ok-created.ensures);
      told = rw (← c.resolve_partition_id-part.ensures) (added_told c.args.tree.now f flat part c.args.vp was c.in-Some.ensures.value free active);
    }
