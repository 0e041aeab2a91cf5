use Rattle.std.proofs.Common.{refl, rules}
use Rattle.hv_admit.proofs.PagesAndVps.{untold}
use Rattle.hv_processors.proofs.WrittenRegister.{read_told, vp_still}
use Rattle.hv_processors.proofs.msrs.read_msr.Goals as goal

pub returns : goal.returns
returns g c f flat =
    let by = c.args.by in
    let met = c.in_ok-vp.ensures.met f flat in
    let value = read_told c.args.tree.now f flat by.part by.vp c.in_ok-vp.vp.now c.in-Some.name c.in_ok-vp.ensures.there in (
      met.0,
      record {
        met = rw (← c.name_of_msr-name.ensures) met.1;
        reply = search rules;
        rows = rw (vp_still c.args.tree.now by.part by.vp c.in_ok-vp.vp.now c.in_ok-vp.ensures.there) flat;
        told = untold f f refl refl refl;
      },
    )
