-- Ports, connections, messages and flags that stand, once a history has one entry more.
use Rattle.std.proofs.Common.{◌≡◌, ℕ, ◌<◌, ◌≤◌, Bool, true, false, cond, List, [], ◌∷◌, ◌++◌, length, refl, sym, ap, subst, ◌∙◌, arith, filter}
use Rattle.hv_policy.specs.Flat.{ConnRow, Flat, MailRow, PortRow}
use Rattle.hv_policy.specs.Mail.{Place, as_shown, is_shown, mail_at, shown_next, stands_at, with_first_shown}
use Rattle.hv_security.specs.Operation.{Operation, Connects, DidAt, DeletesPort, Disconnects, DeletesVp, Finalizes, ClearsFlag, operation_at}
use Rattle.hv_security.specs.Justified.{HasWay, IsMaking, StoodAt, WasConnected, WasMade, WasPosted, WasSignalled, WerePosted}
use Rattle.hv_security.proofs.Operations.{did_still, did_within, last, more, not_since, not_still, not_to_last, one_birth, served_still}
use Rattle.std.specs.List.{list_any}

module _ (operations : List Operation) (e : Operation) where
  pub making_still : (at : ℕ) (key : ℕ × ℕ) (port : PortRow) → IsMaking operations at key port → IsMaking (more operations e) at key port
  making_still at key port making = record {
    base = making.base;
    count = making.count;
    first = making.first;
    number = making.number;
    made = did_still operations e _ _ making.made;
    birth = served_still operations e at (did_within operations _ _ making.made) ∙ making.birth;
  }

  pub made_still : (key : ℕ × ℕ) (port : PortRow) → (DeletesPort key.0 key.1 ≡ e → ⊥) → (Finalizes key.0 ≡ e → ⊥) → WasMade operations key port → WasMade (more operations e) key port
  made_still key port kept alive was = record {
    at = was.at;
    making = making_still was.at key port was.making;
    kept = not_since operations e _ _ kept was.kept;
    alive = not_since operations e _ _ alive was.alive;
  }

  -- a port stood at an earlier entry, and one that is there stands at the next
  abbrev stood_still : (k : ℕ) (key : ℕ × ℕ) (port : PortRow) → k ≤ length operations → StoodAt operations k key port → StoodAt (more operations e) k key port
  stood_still k key port within stood = record {
    from = stood.from;
    making = making_still stood.from key port stood.making;
    before = stood.before;
    kept = not_still operations e _ _ _ within stood.kept;
    alive = not_still operations e _ _ _ within stood.alive;
  }

  abbrev pub stands : (key : ℕ × ℕ) (port : PortRow) → WasMade operations key port → StoodAt (more operations e) (last operations e) key port
  stands key port was = record {
    from = was.at;
    making = making_still was.at key port was.making;
    before = let within = did_within operations _ _ was.making.made in omega arith;
    kept = not_to_last operations e _ _ was.kept;
    alive = not_to_last operations e _ _ was.alive;
  }

  pub connected_still : (key : ℕ × ℕ) (conn : ConnRow) → (Disconnects key.0 key.1 ≡ e → ⊥) → (Finalizes key.0 ≡ e → ⊥) → WasConnected operations key conn → WasConnected (more operations e) key conn
  connected_still key conn kept alive was = record {
    at = was.at;
    port = was.port;
    stood = stood_still was.at (conn.part, conn.port) was.port (did_within operations _ _ was.connected) was.stood;
    peer = was.peer;
    kind = was.kind;
    born = was.born;
    connected = did_still operations e _ _ was.connected;
    kept = not_since operations e _ _ kept was.kept;
    alive = not_since operations e _ _ alive was.alive;
  }

  way_still : (k : ℕ) (key : ℕ × ℕ) (port : PortRow) (sender connection : ℕ) → k ≤ length operations → HasWay operations k key port sender connection → HasWay (more operations e) k key port sender
      connection
  way_still k key port sender connection within way = record {
    stood = stood_still k key port within way.stood;
    peer = way.peer;
    at = way.at;
    connected = did_still operations e _ _ way.connected;
    after = way.after;
    before = way.before;
    conn_kept = not_still operations e _ _ _ within way.conn_kept;
    conn_alive = not_still operations e _ _ _ within way.conn_alive;
  }

  -- a port that is there and a connection that keeps its birth are a way for the next event
  pub way_of : (key : ℕ × ℕ) (conn : ConnRow) (port : PortRow) → WasMade operations (conn.part, conn.port) port → WasConnected operations key conn → port.born ≡ conn.born → port.peer ≡ key.0
      → HasWay (more operations e) (last operations e) (conn.part, conn.port) port key.0 key.1
  way_of key conn port made was same peer = record {
    stood = stands (conn.part, conn.port) port made;
    peer = peer;
    at = was.at;
    connected = subst (λ kind. DidAt (more operations e) was.at (Connects key.0 key.1 conn.part conn.port kind)) (sym was.kind ∙ sym kinds) (did_still operations e _ _ was.connected);
    after = subst (λ n. n < was.at) (sym one) was.stood.before;
    before = let within = did_within operations _ _ was.connected in omega arith;
    conn_kept = not_to_last operations e _ _ was.kept;
    conn_alive = not_to_last operations e _ _ was.alive;
  }
    where
      -- one entry made the port to which it was connected and the one that is there
      one : made.at ≡ was.stood.from
      one =
          one_birth operations made.at was.stood.from _ _ made.making.made was.stood.making.made refl refl
          (made.making.birth ∙ same ∙ sym was.born ∙ sym was.stood.making.birth)

      kinds : port.kind ≡ was.port.kind
      kinds = let both = sym made.making.made.is ∙ ap (operation_at operations) one ∙ was.stood.making.made.is in cc

  module _ (states : ℕ → Flat) where
    pub posted_still : (row : MailRow) (k : ℕ) → (DeletesVp row.part row.vp ≡ e → ⊥) → (Finalizes row.part ≡ e → ⊥) → WasPosted states operations row k → WasPosted states (more operations e) row k
    posted_still row k kept alive was = record {
      port = was.port;
      sender = was.sender;
      connection = was.connection;
      way = way_still _ _ _ _ _ (did_within operations _ _ was.posted) was.way;
      kind = was.kind;
      aimed = was.aimed;
      born = was.born;
      taken = was.taken;
      posted = did_still operations e _ _ was.posted;
      kept = not_since operations e _ _ kept was.kept;
      alive = not_since operations e _ _ alive was.alive;
    }

    pub signalled_still : (id vp sint flag : ℕ) → (DeletesVp id vp ≡ e → ⊥) → (Finalizes id ≡ e → ⊥) → (ClearsFlag id vp sint flag ≡ e → ⊥) → WasSignalled states operations id vp sint flag →
        WasSignalled states (more operations e) id vp sint flag
    signalled_still id vp sint flag kept alive set was = record {
      k = was.k;
      port_id = was.port_id;
      port = was.port;
      sender = was.sender;
      connection = was.connection;
      number = was.number;
      way = way_still _ _ _ _ _ (did_within operations _ _ was.signalled) was.way;
      kind = was.kind;
      aimed = was.aimed;
      within = was.within;
      is = was.is;
      taken = was.taken;
      signalled = did_still operations e _ _ was.signalled;
      kept = not_since operations e _ _ kept was.kept;
      alive = not_since operations e _ _ alive was.alive;
      set = not_since operations e _ _ set was.set;
    }

    -- the messages that are left, where the event ends none of them
    pub mail_left : (keep : MailRow → Bool) → ((row : MailRow) → keep row ≡ true → DeletesVp row.part row.vp ≡ e → ⊥) → ((row : MailRow) → keep row ≡ true → Finalizes row.part ≡ e → ⊥)
        → (mail : List MailRow) (n m : ℕ) → m ≤ n → WerePosted states operations n mail → WerePosted states (more operations e) m (filter keep mail)
    mail_left keep kept alive [] n m less were = tt
    mail_left keep kept alive (row ∷ mail) n m less were =
        let after = were.1 in
        elim (keep row) as (λ b. keep row ≡ b → WerePosted states (more operations e) m (cond b (row ∷ filter keep mail) (filter keep mail))) [
          | true ↦ λ is. (were.0, omega arith, posted_still row were.0 (kept row is) (alive row is) were.2, mail_left keep kept alive mail were.0 were.0 (omega arith) were.3)
          | false ↦ λ is. mail_left keep kept alive mail were.0 m (omega arith) were.3
        ] refl

    pub mail_still : ((row : MailRow) → DeletesVp row.part row.vp ≡ e → ⊥) → ((row : MailRow) → Finalizes row.part ≡ e → ⊥)
        → (mail : List MailRow) (n : ℕ) → WerePosted states operations n mail → WerePosted states (more operations e) n mail
    mail_still kept alive [] n were = tt
    mail_still kept alive (row ∷ mail) n were = (were.0, were.1, posted_still row were.0 (kept row) (alive row) were.2, mail_still kept alive mail were.0 were.3)

    -- and one more, which the event posts
    pub mail_more : ((row : MailRow) → DeletesVp row.part row.vp ≡ e → ⊥) → ((row : MailRow) → Finalizes row.part ≡ e → ⊥) → (new : MailRow) → WasPosted states (more operations e) new
        (last operations e)
        → (mail : List MailRow) (n : ℕ) → n ≤ length operations → WerePosted states operations n mail → WerePosted states (more operations e) n (mail ++ new ∷ [])
    mail_more kept alive new posted [] n within were = (last operations e, omega arith, posted, tt)
    mail_more kept alive new posted (row ∷ mail) n within were =
        (were.0, were.1, posted_still row were.0 (kept row) (alive row) were.2, mail_more kept alive new posted mail were.0 (did_within operations _ _ were.2.posted) were.3)

module _ (states : ℕ → Flat) (operations : List Operation) where
  -- Show moves none
  posted_shown : (row : MailRow) (k : ℕ) → WasPosted states operations row k → WasPosted states operations (as_shown row) k
  posted_shown row k was = record {
    port = was.port;
    sender = was.sender;
    connection = was.connection;
    way = was.way;
    kind = was.kind;
    aimed = was.aimed;
    born = was.born;
    taken = was.taken;
    posted = was.posted;
    kept = was.kept;
    alive = was.alive;
  }

  first_shown : (place : Place) (mail : List MailRow) (n : ℕ) → WerePosted states operations n mail → WerePosted states operations n (with_first_shown place mail)
  first_shown place [] n were = tt
  first_shown place (row ∷ mail) n were =
      elim (stands_at place row) as (λ b. WerePosted states operations n (cond b (as_shown row ∷ mail) (row ∷ with_first_shown place mail))) [
        | true ↦ (were.0, were.1, posted_shown row were.0 were.2, were.3)
        | false ↦ (were.0, were.1, were.2, first_shown place mail were.0 were.3)
      ]

  pub mail_shown : (place : Place) (mail : List MailRow) (n : ℕ) → WerePosted states operations n mail → WerePosted states operations n (shown_next place mail)
  mail_shown place mail n were = by (list_any is_shown (mail_at place mail))
    where
      by : (b : Bool) → WerePosted states operations n (cond b mail (with_first_shown place mail))
      by true = were
      by false = first_shown place mail n were

  -- the messages that pass a test
  pub mail_of : (keep : MailRow → Bool) (mail : List MailRow) (n m : ℕ) → m ≤ n → WerePosted states operations n mail → WerePosted states operations m (filter keep mail)
  mail_of keep [] n m less were = tt
  mail_of keep (row ∷ mail) n m less were =
      let after = were.1 in
      elim (keep row) as (λ b. WerePosted states operations m (cond b (row ∷ filter keep mail) (filter keep mail))) [
        | true ↦ (were.0, omega arith, were.2, mail_of keep mail were.0 were.0 (omega arith) were.3)
        | false ↦ mail_of keep mail were.0 m (omega arith) were.3
      ]
