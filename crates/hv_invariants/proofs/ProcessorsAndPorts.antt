-- Processors, ports, connections and messages that come, go and change.
use Rattle.std.proofs.Common.{◌≡◌, ℕ, ◌+◌, ◌≤◌, ◌==◌, Bool, true, false, cond, List, Option, Some, None, is_some, refl, sym, ap, subst, ◌∙◌, arith, eqb-true, option_map}
use Rattle.std.specs.Cmp.{Equal-is}
use Rattle.std.specs.FinMap.{FinMap, get, insert, remove, contains_key}
use Rattle.std.specs.Ordering.{eq_by_cmp}
use Rattle.hv_policy.proofs.Pairs.{pair_cmp_exact}
use Rattle.hv_policy.proofs.Rows.{get-with_vp}
use Rattle.hv_policy.specs.Count.{available, in_use, pooled_count}
use Rattle.hv_policy.specs.Effect.{counted, with_vp}
use Rattle.hv_defs.specs.Flags.{pair_cmp}
use Rattle.hv_policy.specs.Met.{is_running}
use Rattle.hv_policy.specs.Flat.{ConnRow, Flat, MailRow, PortRow, VpRow}
use Rattle.hv_invariants.proofs.PortMessages.{AreMailed, mailed_of, port_left, port_more}
use Rattle.hv_invariants.proofs.OwnedRows.{added_owned, no_more, owned, removed_owned}
use Rattle.hv_invariants.specs.StateInvariant.{StateInvariant, IsPort}

module _ (pages : ℕ) (f : Flat) (l : StateInvariant pages f) where
  -- the state with other processors, ports, connections and messages, and as many served events or more
  module _ (vps : FinMap pair_cmp VpRow) (ports : FinMap pair_cmp PortRow) (conns : FinMap pair_cmp ConnRow) (mail : List MailRow) (served : ℕ) (later : f.served ≤ served)
      (mailed : AreMailed served ports mail) where
    abbrev changed : Flat
    changed = record f { vp = vps; port = ports; conn = conns; mail = mail; served = served }

    rowed : ((id : ℕ) → in_use changed id ≤ pooled_count f id) → ((id : ℕ) → is_running f id ≡ false → in_use changed id ≡ 0) → StateInvariant pages changed
    rowed within idle = record {
      below = l.below;
      above = l.above;
      within = within;
      idle = idle;
      masks = l.masks;
      paged = l.paged;
      owned = l.owned;
      few = let few = l.few in omega arith;
      ports = mailed.ports;
      placed = mailed.placed;
    }

    -- they use no more than those that were there
    pub less : ((id : ℕ) → in_use changed id ≤ in_use f id) → StateInvariant pages changed
    less fewer = rowed (λ id. (let uses = fewer id in let within = l.within id in omega arith)) (λ id still. (let uses = fewer id in let none = l.idle id still in omega arith))

    -- or one partition uses so much more, which is Active and can pay for it
    more : (id charge : ℕ) → is_running f id ≡ true → charge ≤ available f id → ((q : ℕ) → in_use changed q ≡ in_use f q + cond (id == q) charge 0) → StateInvariant pages changed
    more id charge active pays costs = rowed (λ q. within q (id == q) refl (costs q)) (λ q still. idle q (id == q) refl still (costs q))
      where
        within : (q : ℕ) (b : Bool) → id == q ≡ b → in_use changed q ≡ in_use f q + cond b charge 0 → in_use changed q ≤ pooled_count f q
        within q true here uses =
            let room : charge ≤ available f q = subst (λ n. charge ≤ available f n) (eqb-true id q here) pays in
            let fits = l.within q in
            omega arith
        within q false off uses = let fits = l.within q in omega arith

        idle : (q : ℕ) (b : Bool) → id == q ≡ b → is_running f q ≡ false → in_use changed q ≡ in_use f q + cond b charge 0 → in_use changed q ≡ 0
        idle q true here still uses = (let both = sym active ∙ ap (is_running f) (eqb-true id q here) ∙ still in cc)
        idle q false off still uses = let none = l.idle q still in omega arith

  -- one less
  pub vp_removed : (key : ℕ × ℕ) (mail : List MailRow) → AreMailed f.served f.port mail → StateInvariant pages (record f { vp = remove f.vp key; mail = mail })
  vp_removed key mail mailed = less (remove f.vp key) f.port f.conn mail f.served (omega arith) mailed (λ id. (let fewer = removed_owned f.vp key id in omega arith))

  pub port_removed : (key : ℕ × ℕ) → StateInvariant pages (record f { port = remove f.port key })
  port_removed key =
      less f.vp (remove f.port key) f.conn f.mail f.served (omega arith) (port_left f.served f.port key f.mail (mailed_of pages f l))
      (λ id. (let fewer = removed_owned f.port key id in omega arith))

  pub conn_removed : (key : ℕ × ℕ) → StateInvariant pages (record f { conn = remove f.conn key })
  conn_removed key = less f.vp f.port (remove f.conn key) f.mail f.served (omega arith) (mailed_of pages f l) (λ id. (let fewer = removed_owned f.conn key id in omega arith))

  -- other messages
  pub mail_changed : (mail : List MailRow) → AreMailed f.served f.port mail → StateInvariant pages (record f { mail = mail })
  mail_changed mail mailed = less f.vp f.port f.conn mail f.served (omega arith) mailed (λ id. omega arith)

  -- one processor changed, and the messages
  pub mailed_changed : (key : ℕ × ℕ) (change : VpRow → VpRow) (mail : List MailRow) → AreMailed f.served f.port mail → StateInvariant pages (record f { vp = with_vp f.vp key change; mail = mail })
  mailed_changed key change mail mailed = less (with_vp f.vp key change) f.port f.conn mail f.served (omega arith) mailed (λ id.
      let fewer = no_more f.vp (with_vp f.vp key change) (λ q h. by q (eq_by_cmp pair_cmp q key) refl (sym (ap is_some (get-with_vp f.vp key change q)) ∙ h)) id in
      omega arith)
    where
      one : (r : Option VpRow) → is_some (option_map change r) ≡ true → is_some r ≡ true
      one None h = h
      one (Some row) h = refl

      by : (q : ℕ × ℕ) (b : Bool) → eq_by_cmp pair_cmp q key ≡ b → is_some (cond b (option_map change (get f.vp key)) (get f.vp q)) ≡ true → is_some (get f.vp q) ≡ true
      by q true same h = ap (λ k. is_some (get f.vp k)) (pair_cmp_exact q key ((Equal-is (pair_cmp q key)).0 same)) ∙ one (get f.vp key) h
      by q false same h = h

  pub vp_changed : (key : ℕ × ℕ) (change : VpRow → VpRow) → StateInvariant pages (record f { vp = with_vp f.vp key change })
  vp_changed key change = mailed_changed key change f.mail (mailed_of pages f l)

  -- one more, of a partition that is Active and can pay for it
  module _ (id n : ℕ) (active : is_running f id ≡ true) where
    pub vp_added : (row : VpRow) → contains_key f.vp (id, n) ≡ false → 4 ≤ available f id → StateInvariant pages (record f { vp = insert f.vp (id, n) row })
    vp_added row free pays = more (insert f.vp (id, n) row) f.port f.conn f.mail f.served (omega arith) (mailed_of pages f l) id 4 active pays (λ q. by q (id == q) (added_owned f.vp id n row free q))
      where
        by : (q : ℕ) (b : Bool) → owned (insert f.vp (id, n) row) q ≡ owned f.vp q + cond b 1 0 → in_use (record f { vp = insert f.vp (id, n) row }) q ≡ in_use f q + cond b 4 0
        by q true more = omega arith
        by q false more = omega arith

    -- a port's birth is the event that makes it
    pub port_added : (row : PortRow) → row.born ≡ f.served + 1 → IsPort (f.served + 1) row → contains_key f.port (id, n) ≡ false → 1 ≤ available f id → StateInvariant pages
        (counted (record f { port = insert f.port (id, n) row }))
    port_added row born good free pays =
        more f.vp (insert f.port (id, n) row) f.conn f.mail (f.served + 1) (omega arith) (port_more f.served f.port (id, n) row born good f.mail (mailed_of pages f l))
        id 1 active pays (λ q. (let more = added_owned f.port id n row free q in omega arith))

    pub conn_added : (row : ConnRow) → contains_key f.conn (id, n) ≡ false → 1 ≤ available f id → StateInvariant pages (record f { conn = insert f.conn (id, n) row })
    conn_added row free pays = more f.vp f.port (insert f.conn (id, n) row) f.mail f.served (omega arith) (mailed_of pages f l) id 1 active pays
        (λ q. (let more = added_owned f.conn id n row free q in omega arith))
