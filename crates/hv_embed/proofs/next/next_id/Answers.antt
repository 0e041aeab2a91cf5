use Rattle.std.proofs.Common.{◌≡◌, true, false, sym, ◌∙◌, arith}
use Rattle.hv_embed.specs.Held.{ids_of}
use Rattle.hv_embed.specs.Next.{is_after}
use Rattle.hv_embed.proofs.Following.{from_on, id_next, past, up_to}
use Rattle.hv_embed.proofs.next.next_id.Goals as goal

pub loop-low-preserved-then-not-is_after : goal.loop-low-preserved-then-not-is_after
loop-low-preserved-then-not-is_after c =
    let l = c.loop-low in
    let off : is_after c.args.previous c.in-Some.id ≡ false = sym c.is_after.ensures ∙ c.if-not-is_after.true in
    record {
      order = omega (arith, c.loop-low-test.true);
      within = l.invariant.within;
      before = up_to c.args.links c.args.partition.now c.args.previous _ c.in-Some.id (sym c.id_at.ensures ∙ c.in-Some.is) off;
      from = l.invariant.from;
    }

pub loop-low-preserved-in-Some-2 : goal.loop-low-preserved-in-Some-2
loop-low-preserved-in-Some-2 c =
    let l = c.loop-low in
    let on : is_after c.args.previous c.in-Some.id ≡ true = sym c.is_after.ensures ∙ c.if-not-is_after.false in
    record {
      order = omega arith;
      within = omega (arith, c.loop-low-test.true, l.invariant.within);
      before = l.invariant.before;
      from = from_on c.args.links c.args.partition.now c.args.previous _ c.in-Some.id (sym c.id_at.ensures ∙ c.in-Some.is) on;
    }

pub loop-low-preserved : goal.loop-low-preserved
loop-low-preserved c =
    let l = c.loop-low in
    record {
      order = omega arith;
      within = omega (arith, c.loop-low-test.true, l.invariant.within);
      before = l.invariant.before;
      from = λ place id le at. absurd (past (ids_of c.args.links c.args.partition.now) _ place id c.in-Some-2.ensures le at);
    }

pub returns : goal.returns
returns c =
    let l = c.loop-low in
    id_next c.args.links c.args.partition.now c.args.previous l.low l.invariant.before (λ place id le. l.invariant.from place id (omega (arith, le, c.loop-low-test.false, l.invariant.order)))
    c.id_at-2.result
    c.id_at-2.ensures
