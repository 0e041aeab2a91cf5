-- What a served call leaves of members is alike where what they had was.
use Rattle.std.proofs.Common.{◌≡◌, ℕ, zero, suc, ◌+◌, ◌≤◌, ◌==◌, ◌||◌, not, Bool, true, false, cond, List, [], map, Option, Some, None, is_some, refl, sym, ap, subst, ◌∙◌, eq-eqb, eqb-true}
use Rattle.std.proofs.Common.{option_and_then, option_map, nat_cmp}
use Rattle.std.specs.FinMap.{FinMap, contains_key, get, insert, remove}
use Rattle.std.specs.Option.{option_map_or}
use Rattle.std.specs.Ordering.{eq_by_cmp}
use Rattle.hv_calls.specs.declared.call.Call.TheVariants.{FinalizePartition, DeletePartition, CreatePort}
use Rattle.hv_defs.specs.Flags.{pair_cmp}
use Rattle.hv_defs.specs.declared.aim.Aim.{Aim}
use Rattle.hv_defs.specs.declared.port_kind.PortKind.{PortKind}
use Rattle.hv_policy.proofs.Places.{but_part_there, but_vp_there, is_vp}
use Rattle.hv_policy.proofs.Rows.{get-narrowed}
use Rattle.hv_policy.specs.Boot.{start_vp}
use Rattle.hv_policy.specs.Count.{is_parent, lowest_pooled, parent_of}
use Rattle.hv_policy.specs.Effect.{born_of, call_effect, counted, flags_of, given, narrowed, narrowed_row, narrows, property_set, rows_but, with_row, withdrawn}
use Rattle.hv_policy.specs.Flat.{ConnRow, Flat, MailRow, PageRow, PartRow, PortRow}
use Rattle.hv_policy.specs.Mail.{mail_at, mail_but_at, stands_at}
use Rattle.hv_policy.specs.Met.{is_child, test_row}
use Rattle.hv_policy.specs.Needs.{resolved_id}
use Rattle.hv_policy.specs.Subtree.{is_in_subtree, leads_within}
use Rattle.hv_policy.specs.declared.property.Property.{Property}
use Rattle.hv_privs.specs.Privileges.{of}
use Rattle.hv_security.proofs.PartitionReads.{lowest_alike}
use Rattle.hv_security.specs.Same.{held_by, place}
use Rattle.hv_security.specs.Alike.{AreLowEquivalent, AreClosed, ArePast, is_born, mark, marked, marked_conn, unborn}
use Rattle.hv_security.proofs.BirthMarks.{all_remarked, conns_remarked, deleted_born, ended_born, made_born, remarked, remarked_conn}
use Rattle.hv_security.proofs.AlikeRows.{gone_alike, new_owner_alike, inserted_alike, left_alike, page_alike, removed_alike, row_alike}
use Rattle.hv_security.proofs.AlikeMessages.{staff_changed}

-- who has a parent is a child of it
pub child_of : (h : Flat) (parent id : ℕ) → parent_of h id ≡ Some parent → is_child h parent id ≡ true
child_of h parent id is = by (get h.part id) is
  where
    up : (o : Option ℕ) → o ≡ Some parent → is_parent parent o ≡ true
    up None is = cc
    up (Some p) is = let same : p ≡ parent = cc in eq-eqb p parent same

    by : (r : Option PartRow) → option_and_then (λ row. row.parent) r ≡ Some parent → test_row (λ row. is_parent parent row.parent) r ≡ true
    by None is = cc
    by (Some row) is = up row.parent is

-- messages that are alike are so where they all go or stay
unless_gone : (f g : Flat) (gone : Bool) (rows others : List MailRow) → map (marked f) rows ≡ map (marked g) others → map (marked f) (cond gone [] rows) ≡ map (marked g) (cond gone [] others)
unless_gone f g true rows others same = refl
unless_gone f g false rows others same = same

module _ (members : ℕ → Bool) where
  -- above who is no member there is none
  module _ (h : Flat) (closed : AreClosed members h) (top : ℕ) (own_top : members top ≡ true) where
    not_top : (id : ℕ) → members id ≡ false → id == top ≡ false
    not_top id off = by (id == top) refl
      where
        by : (b : Bool) → id == top ≡ b → b ≡ false
        by true is = let clash = sym off ∙ ap members (eqb-true id top is) ∙ own_top in cc
        by false is = refl

    further : (id : ℕ) → members id ≡ false → (t : ℕ → Bool) → ((p : ℕ) → members p ≡ false → t p ≡ false) → (p : ℕ) → parent_of h id ≡ Some p → (b : Bool) → members p ≡ b → t p ≡ false
    further id off t rest p is true own = let clash = sym off ∙ closed p id own (child_of h p id is) in cc
    further id off t rest p is false away = rest p away

    above : (id : ℕ) → members id ≡ false → (t : ℕ → Bool) → ((p : ℕ) → members p ≡ false → t p ≡ false) → (o : Option ℕ) → parent_of h id ≡ o → option_map_or t o false ≡ false
    above id off t rest None is = refl
    above id off t rest (Some p) is = further id off t rest p is (members p) refl

    pub outside : (n id : ℕ) → members id ≡ false → leads_within n (parent_of h) top id ≡ false
    outside zero id off = not_top id off
    outside (suc n) id off =
        ap (λ b. b || option_map_or (leads_within n (parent_of h) top) (parent_of h id) false) (not_top id off)
        ∙ above id off (leads_within n (parent_of h) top) (outside n) (parent_of h id) refl

  module _ (f g : Flat) (a : AreLowEquivalent members f g) where
    -- the subtree of a member
    module _ (closed : AreClosed members f) (closed_too : AreClosed members g) (top : ℕ) (own_top : members top ≡ true) where
      same_parent : (id : ℕ) → members id ≡ true → parent_of f id ≡ parent_of g id
      same_parent id own = ap (option_and_then (λ row. row.parent)) (a id own).part

      -- two tests of a parent that agree on members, and fail elsewhere
      onward : (t u : ℕ → Bool) → ((p : ℕ) → members p ≡ true → t p ≡ u p) → ((p : ℕ) → members p ≡ false → t p ≡ false) → ((p : ℕ) → members p ≡ false → u p ≡ false) → (o : Option ℕ) → option_map_or
          t o false ≡ option_map_or u o false
      onward t u same off off_too None = refl
      onward t u same off off_too (Some p) = at (members p) refl
        where
          at : (b : Bool) → members p ≡ b → t p ≡ u p
          at true own = same p own
          at false away = off p away ∙ sym (off_too p away)

      within : (n id : ℕ) → members id ≡ true → leads_within n (parent_of f) top id ≡ leads_within n (parent_of g) top id
      within zero id own = refl
      within (suc n) id own =
          ap (λ b. (id == top) || b)
          (onward (leads_within n (parent_of f) top) (leads_within n (parent_of g) top) (within n) (outside f closed top own_top n) (outside g closed_too top own_top n) (parent_of f id)
          ∙ ap (λ o. option_map_or (leads_within n (parent_of g) top) o false) (same_parent id own))

      pub subtree_alike : (id : ℕ) → members id ≡ true → is_in_subtree f top id ≡ is_in_subtree g top id
      subtree_alike id own = within id id own

    -- partitions, pages and counts alone change
    pub parted : (part others : FinMap nat_cmp PartRow) (page pages : FinMap nat_cmp PageRow) (n m s t : ℕ) → ((id : ℕ) → members id ≡ true → get part id ≡ get others id)
        → ((id : ℕ) → members id ≡ true → (q : ℕ) → held_by id (get page q) ≡ held_by id (get pages q))
        → AreLowEquivalent members (record f { part = part; page = page; next = n; served = s }) (record g { part = others; page = pages; next = m; served = t })
    parted part others page pages n m s t same held id own = record {
      part = same id own;
      pages = held id own;
      vps = (a id own).vps;
      ports = (a id own).ports;
      conns = (a id own).conns;
      mail = (a id own).mail;
    }

    pub one_more : AreLowEquivalent members (counted f) (counted g)
    one_more = parted f.part g.part f.page g.page f.next g.next (f.served + 1) (g.served + 1) (λ id own. (a id own).part) (λ id own. (a id own).pages)

    pub rows_changed : (part others : FinMap nat_cmp PartRow) (n m : ℕ) → ((id : ℕ) → members id ≡ true → get part id ≡ get others id) → AreLowEquivalent members
        (record f { part = part; next = n }) (record g { part = others; next = m })
    rows_changed part others n m same = parted part others f.page g.page n m f.served g.served same (λ id own. (a id own).pages)

    paged : (pages others : FinMap nat_cmp PageRow) → ((id : ℕ) → members id ≡ true → (q : ℕ) → held_by id (get pages q) ≡ held_by id (get others q)) → AreLowEquivalent members
        (record f { page = pages }) (record g { page = others })
    paged pages others = parted f.part g.part pages others f.next g.next f.served g.served (λ id own. (a id own).part)

    -- a property is set, or masks are narrowed
    module _ (target : ℕ) (property : Option Property) (value : ℕ) (narrow : narrows property f target ≡ narrows property g target)
        (below : (id : ℕ) → members id ≡ true → is_in_subtree f target id ≡ is_in_subtree g target id) where
      set_row : (id : ℕ) → members id ≡ true → get (property_set f target property value) id ≡ get (property_set g target property value) id
      set_row id own =
          subst (λ b. get (property_set f target property value) id ≡ get (cond b (narrowed g target (of value)) (with_row g.part target (given property value))) id) narrow
          (by (narrows property f target))
        where
          by : (b : Bool) → get (cond b (narrowed f target (of value)) (with_row f.part target (given property value))) id ≡ get
              (cond b (narrowed g target (of value)) (with_row g.part target (given property value))) id
          by true =
              get-narrowed f target (of value) id ∙ (λ i. option_map (λ row. cond (below id own i) (narrowed_row (of value) row) row) ((a id own).part i))
              ∙ sym (get-narrowed g target (of value) id)
          by false = row_alike f.part g.part id (a id own).part target (given property value)

      pub set_alike : AreLowEquivalent members (record f { part = property_set f target property value }) (record g { part = property_set g target property value })
      set_alike = rows_changed (property_set f target property value) (property_set g target property value) f.next g.next set_row

    -- ports change, and with them the marks of all births
    module _ (past : ArePast f) (past_too : ArePast g) (ports others : FinMap pair_cmp PortRow) (change : ℕ × ℕ → Bool → Bool)
        (is : (key : ℕ × ℕ) (born : ℕ) → born ≤ f.served → is_born (record f { port = ports }) key born ≡ change key (is_born f key born))
        (is_too : (key : ℕ × ℕ) (born : ℕ) → born ≤ g.served → is_born (record g { port = others }) key born ≡ change key (is_born g key born)) where
      pub conns_after : (id connection : ℕ) → members id ≡ true → option_map (marked_conn members (record f { port = ports })) (get f.conn (id, connection)) ≡ option_map
          (marked_conn members (record g { port = others })) (get g.conn (id, connection))
      conns_after id connection own =
          conns_remarked f ports change is members (get f.conn (id, connection)) (past.conns (id, connection))
          ∙ ap (option_map (remarked_conn members change)) ((a id own).conns connection)
          ∙ sym (conns_remarked g others change is_too members (get g.conn (id, connection)) (past_too.conns (id, connection)))

      pub mail_after : (id vp sint : ℕ) → members id ≡ true → map (marked (record f { port = ports })) (mail_at (place id vp sint) f.mail) ≡ map (marked (record g { port = others }))
          (mail_at (place id vp sint) g.mail)
      mail_after id vp sint own =
          all_remarked f ports change is (stands_at (place id vp sint)) f.mail past.mail ∙ ap (map (remarked change)) ((a id own).mail vp sint)
          ∙ sym (all_remarked g others change is_too (stands_at (place id vp sint)) g.mail past_too.mail)

      pub ported : ((id port : ℕ) → members id ≡ true → option_map unborn (get ports (id, port)) ≡ option_map unborn (get others (id, port))) → AreLowEquivalent members (record f { port = ports })
          (record g { port = others })
      ported same id own = record {
        part = (a id own).part;
        pages = (a id own).pages;
        vps = (a id own).vps;
        ports = λ port. same id port own;
        conns = λ connection. conns_after id connection own;
        mail = λ vp sint. mail_after id vp sint own;
      }

    -- connections change
    pub connected : (conns others : FinMap pair_cmp ConnRow) → ((id connection : ℕ) → members id ≡ true → option_map (marked_conn members f) (get conns (id, connection)) ≡ option_map
        (marked_conn members g) (get others (id, connection))) → AreLowEquivalent members (record f { conn = conns }) (record g { conn = others })
    connected conns others same id own = record {
      part = (a id own).part;
      pages = (a id own).pages;
      vps = (a id own).vps;
      ports = (a id own).ports;
      conns = λ connection. same id connection own;
      mail = (a id own).mail;
    }

    -- a partition ends
    pub finalized : ArePast f → ArePast g → (partition caller target : ℕ) → AreLowEquivalent members (call_effect (FinalizePartition partition) f caller target)
        (call_effect (FinalizePartition partition) g caller target)
    finalized past past_too partition caller target id own = record {
      part = row_alike f.part g.part id (a id own).part target _;
      pages = (a id own).pages;
      vps = λ vp. left_alike (λ r. r) (λ r. r) f.vp g.vp (id, vp) ((a id own).vps vp) refl target;
      ports = λ port. left_alike (option_map unborn) (option_map unborn) f.port g.port (id, port) ((a id own).ports port) refl target;
      conns = λ connection. left_alike (option_map (marked_conn members now)) (option_map (marked_conn members now_too)) f.conn g.conn (id, connection)
          (conns_after past past_too (rows_but target f.port) (rows_but target g.port) change (ended_born f target) (ended_born g target) id connection own) refl target;
      mail = λ vp sint.
          ap (map (marked now)) (but_part_there target (place id vp sint) (id == target) refl f.mail)
          ∙ unless_gone now now_too (id == target) (mail_at (place id vp sint) f.mail) (mail_at (place id vp sint) g.mail)
          (mail_after past past_too (rows_but target f.port) (rows_but target g.port) change (ended_born f target) (ended_born g target) id vp sint own)
          ∙ sym (ap (map (marked now_too)) (but_part_there target (place id vp sint) (id == target) refl g.mail));
    }
      where
        change : ℕ × ℕ → Bool → Bool
        change key b = cond (not (key.0 == target)) b false

        now : Flat
        now = record f { port = rows_but target f.port }

        now_too : Flat
        now_too = record g { port = rows_but target g.port }

    -- one is deleted, whose pages go to the caller
    pub deleted : (partition caller target : ℕ) → members target ≡ true → AreLowEquivalent members (call_effect (DeletePartition partition) f caller target)
        (call_effect (DeletePartition partition) g caller target)
    deleted partition caller target own_target =
        parted _ _ _ _ f.next g.next f.served g.served (λ id own. gone_alike f.part g.part id (a id own).part target)
        (λ id own. new_owner_alike f.page g.page id (a id own).pages target caller (a target own_target).pages)

    -- pages go to a pool and from one
    pub deposited : (page target : ℕ) → AreLowEquivalent members (record f { page = insert f.page page (record { owner = target; pooled = true }) })
        (record g { page = insert g.page page (record { owner = target; pooled = true }) })
    deposited page target = paged _ _ (λ id own. page_alike f.page g.page id (a id own).pages page (record { owner = target; pooled = true }))

    pub withdrew : (caller target : ℕ) → members target ≡ true → AreLowEquivalent members (record f { page = withdrawn caller (lowest_pooled f target) f.page })
        (record g { page = withdrawn caller (lowest_pooled g target) g.page })
    withdrew caller target own_target =
        subst (λ page. AreLowEquivalent members (record f { page = withdrawn caller (lowest_pooled f target) f.page }) (record g { page = withdrawn caller page g.page }))
        (lowest_alike f g target (a target own_target).pages)
        (by (lowest_pooled f target))
      where
        by : (page : Option ℕ) → AreLowEquivalent members (record f { page = withdrawn caller page f.page }) (record g { page = withdrawn caller page g.page })
        by None = a
        by (Some page) = paged _ _ (λ id own. page_alike f.page g.page id (a id own).pages page (record { owner = caller; pooled = false }))

    -- processors come and go
    pub staffed : (target vp : ℕ) → AreLowEquivalent members (record f { vp = insert f.vp (target, vp) (start_vp vp) }) (record g { vp = insert g.vp (target, vp) (start_vp vp) })
    staffed target vp =
        staff_changed members f g a (insert f.vp (target, vp) (start_vp vp)) (insert g.vp (target, vp) (start_vp vp)) f.mail g.mail
        (λ id own n. inserted_alike (λ r. r) (λ r. r) f.vp g.vp (id, n) ((a id own).vps n) (target, vp) (start_vp vp) (start_vp vp) refl)
        (λ id own. (a id own).mail)

    pub dismissed : (target vp : ℕ) → AreLowEquivalent members (record f { vp = remove f.vp (target, vp); mail = mail_but_at target vp f.mail })
        (record g { vp = remove g.vp (target, vp); mail = mail_but_at target vp g.mail })
    dismissed target vp =
        staff_changed members f g a (remove f.vp (target, vp)) (remove g.vp (target, vp)) (mail_but_at target vp f.mail) (mail_but_at target vp g.mail)
        (λ id own n. removed_alike (λ r. r) (λ r. r) f.vp g.vp (id, n) ((a id own).vps n) refl (target, vp)) (λ id own n sint.
        ap (map (marked f)) (but_vp_there target vp (place id n sint) (is_vp target vp (place id n sint)) refl f.mail)
        ∙ unless_gone f g (is_vp target vp (place id n sint)) (mail_at (place id n sint) f.mail) (mail_at (place id n sint) g.mail) ((a id own).mail n sint)
        ∙ sym (ap (map (marked g)) (but_vp_there target vp (place id n sint) (is_vp target vp (place id n sint)) refl g.mail)))

    -- a port is made, or deleted
    pub port_made : ArePast f → ArePast g → (partition port peer : ℕ) (kind : PortKind) (sint : ℕ) (vp : Aim) (base count caller target : ℕ) → AreLowEquivalent members
        (call_effect (CreatePort partition port peer kind sint vp base count) f caller target) (call_effect (CreatePort partition port peer kind sint vp base count) g caller target)
    port_made past past_too partition port peer kind sint vp base count caller target =
        ported past past_too _ _ (λ key b. cond (eq_by_cmp pair_cmp key (target, port)) false b) (made_born f (target, port) row refl) (made_born g (target, port) row_too refl)
        (λ id n own. inserted_alike (option_map unborn) (option_map unborn) f.port g.port (id, n) ((a id own).ports n) (target, port) row row_too refl)
      where
        row : PortRow
        row = record {
          kind = kind;
          peer = resolved_id caller peer;
          sint = sint;
          vp = vp;
          base = flags_of kind base;
          count = flags_of kind count;
          born = f.served + 1;
        }

        row_too : PortRow
        row_too = record row { born = g.served + 1 }

    pub port_deleted : ArePast f → ArePast g → (target port : ℕ) → AreLowEquivalent members (record f { port = remove f.port (target, port) }) (record g { port = remove g.port (target, port) })
    port_deleted past past_too target port =
        ported past past_too _ _ (λ key b. cond (eq_by_cmp pair_cmp key (target, port)) false b) (deleted_born f (target, port)) (deleted_born g (target, port))
        (λ id n own. removed_alike (option_map unborn) (option_map unborn) f.port g.port (id, n) ((a id own).ports n) refl (target, port))

    -- a connection is made, to a port that is there, or deleted
    pub conn_made : (target connection : ℕ) (key : ℕ × ℕ) (kind : PortKind) → contains_key f.port key ≡ true → contains_key g.port key ≡ true
        → AreLowEquivalent members (record f { conn = insert f.conn (target, connection) (record { part = key.0; port = key.1; kind = kind; born = born_of (get f.port key) }) })
        (record g { conn = insert g.conn (target, connection) (record { part = key.0; port = key.1; kind = kind; born = born_of (get g.port key) }) })
    conn_made target connection key kind there there_too =
        connected _ _ (λ id n own.
        inserted_alike (option_map (marked_conn members f)) (option_map (marked_conn members g)) f.conn g.conn (id, n) ((a id own).conns n) (target, connection) (row f) (row g)
        (ap (λ b. Some (record { part = key.0; port = key.1; kind = kind; born = cond (members key.0) (mark b) 0 })) (born_is (get f.port key) there ∙ sym (born_is (get g.port key) there_too))))
      where
        row : Flat → ConnRow
        row h = record { part = key.0; port = key.1; kind = kind; born = born_of (get h.port key) }

        born_is : (r : Option PortRow) → is_some r ≡ true → option_map_or (λ (row : PortRow). row.born == born_of r) r false ≡ true
        born_is None is = cc
        born_is (Some row) is = eq-eqb row.born row.born refl

    pub conn_deleted : (target connection : ℕ) → AreLowEquivalent members (record f { conn = remove f.conn (target, connection) }) (record g { conn = remove g.conn (target, connection) })
    conn_deleted target connection =
        connected _ _ (λ id n own.
        removed_alike (option_map (marked_conn members f)) (option_map (marked_conn members g)) f.conn g.conn (id, n) ((a id own).conns n) refl (target, connection))
