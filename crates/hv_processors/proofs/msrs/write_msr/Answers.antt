use Rattle.std.proofs.Common.{◌≡◌, Some, refl, sym, ap, ◌∙◌, rules}
use Rattle.hv_defs.specs.Registers.{name_of_msr}
use Rattle.hv_partition.specs.Partition.{with_vp_of}
use Rattle.hv_tree.specs.Rows.{change}
use Rattle.hv_vp.specs.Vp.{VpState}
use Rattle.hv_processors.proofs.WrittenRegister.{set_tied, vp_still}
use Rattle.hv_processors.proofs.msrs.write_msr.Goals as goal

pub returns-in-Ok : goal.returns-in-Ok
returns-in-Ok g c f flat =
    let tree = c.args.tree.now in
    let by = c.args.by in
    let met = c.in_ok-vp.ensures.met f flat in
    let named : name_of_msr c.args.msr ≡ Some c.in-Some.name = sym c.name_of_msr-name.ensures ∙ c.in-Some.is in (
      met.0,
      record {
        met = search rules;
        reply = refl;
        rows = rw named (set_tied tree f flat by.part by.vp c.in_ok-vp.vp.now c.write_register.new.vp c.in-Some.name c.args.value c.in_ok-vp.ensures.there c.in-Ok.ensures.state);
        told = rw named (c.in-Ok.ensures.told tree f c.in_ok-vp.ensures.there flat);
      },
    )

pub returns-in-Err : goal.returns-in-Err
returns-in-Err g c f flat =
    let by = c.args.by in
    let met = c.in_ok-vp.ensures.met f flat in
    let named : name_of_msr c.args.msr ≡ Some c.in-Some.name = sym c.name_of_msr-name.ensures ∙ c.in-Some.is in (
      search rules,
      ap {A = VpState} (λ w. change c.args.tree.now by.part (λ p. with_vp_of p by.vp w)) c.in-Err.ensures.unchanged
          ∙ vp_still c.args.tree.now by.part by.vp c.in_ok-vp.vp.now c.in_ok-vp.ensures.there,
    )
