use denote.Param.{param}
use Rattle.hv_shared.proofs.SendHeld.{shared-sync}
use Rattle.hv_threads.proofs.phase.run_tasks.Goals as goal

-- the closure has a reference to each of the three
pub for_each_mut-requires-sync-F : goal.for_each_mut-requires-sync-F
for_each_mut-requires-sync-F g c κs within =
    let yr = c.type_bounds.sync-R in
    let yg = c.type_bounds.sync-G in
    let ys = shared-sync (param 0 g.row.L) g.L.Ledger in
    record {
      shared = λ x b o κ. (
        (
          ((λ q. tt), yr.shared x.0.now x.0.ref_ptr.0 x.0.ref_ptr.1 _),
          (
            ((λ q. tt), ys.shared x.1.now x.1.ref_ptr.0 x.1.ref_ptr.1 _),
            (((λ q. tt), yg.shared x.2.now x.2.ref_ptr.0 x.2.ref_ptr.1 _), tt),
          ),
        ),
        λ q. tt,
      );
    }
