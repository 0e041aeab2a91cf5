-- A tenant that can look nothing up, over a run.
use Rattle.std.proofs.Common.{◌≡◌, ℕ, ◌<◌, ◌==◌, Bool, true, false, List, Option, Some, None, refl, sym, ap, subst, ◌∙◌, arith, eqb-true}
use Rattle.std.specs.FinMap.{get}
use Rattle.hv_calls.specs.declared.call.Call.{Call}
use Rattle.hv_policy.specs.Call.{called}
use Rattle.hv_policy.specs.Count.{is_parent}
use Rattle.hv_policy.specs.Flat.{Flat, PartRow}
use Rattle.hv_policy.specs.Met.{has_privilege, is_active, is_child, test_row}
use Rattle.hv_policy.specs.Step.{step}
use Rattle.hv_policy.specs.declared.event.Action.{Action}
use Rattle.hv_policy.specs.declared.event.Action.TheVariants.{Hypercall}
use Rattle.hv_policy.specs.declared.event.Event.{Event}
use Rattle.hv_privs.specs.Privileges.{contains}
use Rattle.hv_privs.specs.declared.Privileges.{Privileges}
use Rattle.hv_privs.specs.declared.TheConstants.Privileges as privilege
use Rattle.hv_security.specs.Alike.{AreLowEquivalent, AreClosed}
use Rattle.hv_security.specs.Looks.{ActionLooksAlike, CallLooksAlike, LooksUpNothing}
use Rattle.hv_security.specs.Tenant.{ActionSeesAlike, AreTenantTurns, CallSeesAlike, IsTenant, IsTenantTurn, only}
use Rattle.hv_security.specs.Turns.{AreAnsweredAlike, IsMatched, IsReached, Turn}
use Rattle.hv_security.proofs.StrongerTurns.{comes_narrower, turns_narrower}
use Rattle.hv_invariants.proofs.RowsContinue.{FollowOn, GoesOn, has_begun, runs_begun, step_follows}
use Rattle.hv_security.proofs.Unprivileged.{lacks, looks_through}
use Rattle.hv_security.proofs.MatchedRuns.{IsGood, next_good, reached_good, replies_matched}

module _ (id : ℕ) where
  -- who was a tenant once: it ended perhaps, but looks nothing up and has no children
  record StaysTenant (f : Flat) : Type 0 where
    made : id < f.next
    begun : (row : PartRow) → get f.part id ≡ Some row → has_begun row.life ≡ true
    nothing : LooksUpNothing f id
    childless : (child : ℕ) → is_child f id child ≡ false

  record IsFine (f : Flat) : Type 0 where
    pages : ℕ
    good : IsGood pages f
    stays : StaysTenant f

  started : (f : Flat) (pages : ℕ) → IsGood pages f → IsTenant f id → IsFine f
  started f pages s t = record {
    pages = pages;
    good = s;
    stays = record {
      made = below (get f.part id) refl t.running;
      begun = λ row is. runs_begun row.life (sym (ap (test_row (λ row. is_active row.life)) is) ∙ t.running);
      nothing = t.nothing;
      childless = t.childless;
    };
  }
    where
      below : (r : Option PartRow) → get f.part id ≡ r → test_row (λ row. is_active row.life) r ≡ true → id < f.next
      below None is runs = cc
      below (Some row) is runs = s.lawful.below id row is

  module _ {A : Type 0} (f : Flat) (e : Event A) (pages : ℕ) (s : IsGood pages f) (t : StaysTenant f) where
    abbrev g : Flat
    g = (step f e).0

    on : FollowOn f e.by.part g.part g.next
    on = step_follows f pages s.lawful e

    -- a row of the tenant after the event is one before it
    was : (new : PartRow) → get g.part id ≡ Some new → (old : PartRow) × (get f.part id ≡ Some old) × GoesOn old new
    was new is = by (get f.part id) refl
      where
        by : (r : Option PartRow) → get f.part id ≡ r → (old : PartRow) × (get f.part id ≡ Some old) × GoesOn old new
        by None none = absurd (let made = t.made in let same = (on.news id new none is).0 in omega (arith, made, same))
        by (Some old) there = (old, there, on.olds id old new there is)

    lacking : (p : Privileges) → has_privilege f id p ≡ false → has_privilege g id p ≡ false
    lacking p none = by (get g.part id) refl
      where
        by : (r : Option PartRow) → get g.part id ≡ r → test_row (λ row. contains row.mask p) r ≡ false
        by None is = refl
        by (Some new) is =
            let before = was new is in
            lacks before.0.mask new.mask p (before.2.less (t.begun before.0 before.1)) (sym (ap (test_row (λ row. contains row.mask p)) before.1) ∙ none)

    no_child : (child : ℕ) → is_child g id child ≡ false
    no_child child = by (get g.part child) (get f.part child) refl refl
      where
        by : (r o : Option PartRow) → get g.part child ≡ r → get f.part child ≡ o → test_row (λ row. is_parent id row.parent) r ≡ false
        by None o is before = refl
        by (Some new) (Some old) is before =
            let kept : is_parent id new.parent ≡ is_parent id old.parent = ap (is_parent id) (on.olds child old new before is).parent in
            kept ∙ sym (ap (test_row (λ row. is_parent id row.parent)) before) ∙ t.childless child
        by (Some new) None is before = made (e.by.part == id) refl
          where
            fresh : (new.parent ≡ Some e.by.part) × (has_privilege f e.by.part privilege.CREATE_PARTITIONS ≡ true)
            fresh = let came = on.news child new before is in (came.1, came.2)

            made : (b : Bool) → e.by.part == id ≡ b → is_parent id new.parent ≡ false
            made true own =
                let may : has_privilege f id privilege.CREATE_PARTITIONS ≡ true = ap (λ n. has_privilege f n privilege.CREATE_PARTITIONS) (sym (eqb-true e.by.part id own)) ∙ fresh.1 in
                let clash = sym t.nothing.partitions ∙ may in cc
            made false off = ap (is_parent id) fresh.0 ∙ off

    stays_on : StaysTenant g
    stays_on = record {
      made = (let before = t.made in let rises = on.rises in omega (arith, before, rises));
      begun = λ new is. (let before = was new is in before.2.begun (t.begun before.0 before.1));
      nothing = record {
        partitions = lacking privilege.CREATE_PARTITIONS t.nothing.partitions;
        pools = lacking privilege.ACCESS_MEMORY_POOL t.nothing.pools;
        ports = lacking privilege.CREATE_PORT t.nothing.ports;
        connections = lacking privilege.CONNECT_PORT t.nothing.connections;
      };
      childless = no_child;
    }

  -- it alone has with itself its children
  closed : (f : Flat) → StaysTenant f → AreClosed (only id) f
  closed f t parent child own is = let clash = sym (t.childless child) ∙ ap (λ n. is_child f n child) (sym (eqb-true parent id own)) ∙ is in cc

  module _ (f g : Flat) (caller : ℕ) (own : only id caller ≡ true) (none : LooksUpNothing f caller) where
    called_sees : (call : Option Call) → CallSeesAlike (only id) call caller f g → CallLooksAlike (only id) call caller f g
    called_sees None sees = tt
    called_sees (Some call) sees = looks_through (only id) f g caller own none call sees

    action_sees : {A : Type 0} (what : Action A) → ActionSeesAlike (only id) what caller f g → ActionLooksAlike (only id) what caller f g
    action_sees (Hypercall frame) sees = called_sees (called frame) sees
    action_sees what sees = tt

  module _ {A : Type 0} where
    event_sees : (e : Event A) (f g : Flat) → IsFine f → IsFine g → IsTenantTurn id e f g → IsMatched (only id) e f g
    event_sees e f g s t m = (
      closed f s.stays,
      closed g t.stays,
      comes_narrower (only id e.by.part) _ _ (only id) e f g
          (λ own sees. action_sees f g e.by.part own (subst (LooksUpNothing f) (sym (eqb-true e.by.part id own)) s.stays.nothing) e.what sees) m,
    )

    pub replies_of_tenant : (turns : List (Turn A)) (f g : Flat) → IsReached A f → IsReached A g → IsTenant f id → IsTenant g id → AreLowEquivalent (only id) f g → AreTenantTurns id turns f g →
        AreAnsweredAlike (only id) turns f g
    replies_of_tenant turns f g r q t u a m =
        let s = reached_good f r in
        let k = reached_good g q in
        replies_matched (only id) turns f g r q a
        (turns_narrower (only id) (IsTenantTurn id) (IsMatched (only id)) IsFine (λ f e h. record { pages = h.pages; good = next_good h.pages f e h.good; stays = stays_on f e h.pages h.good h.stays })
        event_sees turns f g (started f s.0 s.1 t) (started g k.0 k.1 u) m)
