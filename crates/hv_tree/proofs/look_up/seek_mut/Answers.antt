use Rattle.std.proofs.Common.{◌≡◌, Some, IfSome, is_some, false, ap, sym, subst, ◌∙◌, arith}
use borrow.Follows.Closed.{read_of}
use Rattle.std.specs.Option.{option_copied_mut, ghost_name_of}
use Rattle.hv_tree.specs.declared.index.TheConstants.{MOST}
use Rattle.hv_tree.specs.Index.{parents}
use Rattle.hv_tree.specs.Lines.{lines}
use Rattle.hv_tree.specs.Nest.{has_row}
use Rattle.hv_tree.specs.Put.{reach, put_far}
use Rattle.hv_tree.specs.Way.{depth, line, places, way_to, IsReached}
use Rattle.hv_tree.proofs.WayFound.{laid-rising, few-steps, path-way, reached}
use Rattle.hv_tree.proofs.FoundNode.{some_copied_mut, none_copied_mut}
use Rattle.hv_tree.proofs.look_up.seek_mut.Goals as goal

pub along-requires-clause-rising : goal.along-requires-clause-rising
along-requires-clause-rising g c = laid-rising (parents c.args.index.now) c.args.root.now c.requires

pub toward-requires-clause-rising : goal.toward-requires-clause-rising
toward-requires-clause-rising g c = laid-rising (parents c.args.index.now) c.args.root.now c.requires

pub toward-requires-clause-few : goal.toward-requires-clause-few
toward-requires-clause-few g c =
    let few = few-steps (parents c.args.index.now) c.args.root.now c.requires c.args.id c.in_ok-path.ensures.found in
    omega (arith, c.in_ok-path.ensures.steps, few)

pub returns-in-Some : goal.returns-in-Some
returns-in-Some g c =
    let up = parents c.args.index.now in
    let b = c.args.root.now in
    let id = c.args.id in
    let r = reached up b c.requires id c.in_ok-path.ensures.found in
    let ids = c.in-Some.ids.now in
    let same : places ids b ≡ way_to up id b =
    path-way up b c.requires id c.in_ok-path.path.steps ids c.in_ok-path.ensures.steps
    (c.in-Some.ensures.ids ∙ c.in_ok-path.ensures.ids c.in-Some.ensures.few)
    in
    let led : option_copied_mut c.along.result ≡ Some r.0 = c.along.ensures.value ∙ ap (λ is. reach is b) same ∙ r.1.led in (
      ap (λ is. read_of (ghost_name_of c.along.result) (put_far is b) b) same,
      record {
        writes_back = tt;
        found = some_copied_mut (λ n. IsReached up id b n) c.along.result (subst (λ o. IfSome o (λ n. IsReached up id b n)) (sym led) r.1);
        none = none_copied_mut (has_row id (lines b) ≡ false) c.along.result (ap is_some led);
      },
    )

pub returns-in-None : goal.returns-in-None
returns-in-None g c =
    let up = parents c.args.index.now in
    let b = c.args.root.now in
    let id = c.args.id in
    let s : c.in_ok-path.path.steps ≡ depth up MOST id = c.in_ok-path.ensures.steps in
    let r = reached up b c.requires id c.in_ok-path.ensures.found in
    let led : option_copied_mut c.toward.result ≡ Some r.0 = c.toward.ensures.value ∙ ap (λ s. reach (places (line up s id) b) b) s ∙ r.1.led in (
      ap (λ s. read_of (ghost_name_of c.toward.result) (put_far (places (line up s id) b) b) b) s,
      record {
        writes_back = tt;
        found = some_copied_mut (λ n. IsReached up id b n) c.toward.result (subst (λ o. IfSome o (λ n. IsReached up id b n)) (sym led) r.1);
        none = none_copied_mut (has_row id (lines b) ≡ false) c.toward.result (ap is_some led);
      },
    )
