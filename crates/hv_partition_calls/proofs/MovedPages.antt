-- Pages that come to a partition and go from it, one write after another: the rows are tied to what the model makes of them.
use Rattle.std.proofs.Common.{◌≡◌, ◌≢◌, ℕ, ◌==◌, Bool, true, false, cond, ◌&&◌, ◌||◌, not, Option, Some, None, is_some, refl, sym, ap, ◌∙◌, subst, eqb-true, eq-eqb, option_map, nat_cmp}
use Rattle.std.proofs.lemmas.Iterator.Adapters.{option_map_id}
use Rattle.std.specs.Cmp.{nat_cmp_total, unsigned_tied}
use Rattle.std.specs.FinMap.{FinMap, contains_key, get, insert, remove, nat_cmp-IsAntisymmetric, same_map}
use Rattle.std.specs.Option.{option_map_or}
use Rattle.std.specs.FinSet as set
use Rattle.hv_admit.proofs.PagesAndVps.{page_told}
use Rattle.hv_admit.specs.Effect.{Tells}
use Rattle.hv_admit.specs.declared.effect.Effect.TheVariants as variant
use Rattle.hv_defs.proofs.Maps.{get_at-insert, get_at-remove}
use Rattle.hv_pages.specs.PageSet.{Pages, PagesAndRoom}
use Rattle.hv_partition.specs.Partition.{PartitionState, pages_in, with_pages}
use Rattle.hv_partition.specs.declared.kind.PageKind.{PageKind}
use Rattle.hv_partition.specs.declared.kind.PageKind.TheVariants.{Loose, Pooled}
use Rattle.hv_policy.specs.Flat.{Flat, PageRow}
use Rattle.hv_tree.proofs.Laws.{get-change, change-of, same_rows}
use Rattle.hv_tree.specs.Rows.{Row, Rows, content, change}
use Rattle.hv_admit.proofs.PageHolders.{apart_sets, held_alone, held_by_owner}
use Rattle.hv_admit.specs.Room.{IsSameButRoom, bare}
use Rattle.hv_admit.specs.Tie.{Refines, PartitionRelation, holds, is_held, part_row}
use Rattle.hv_partition_calls.specs.PoolChange.{CanGain, CanHold, HasGained, HasLost, HasPages, MayMove, kind_of, moved_to, pages_at, with_pages_at}

-- a partition that was lent, and its pages of a kind changed
pub written : (rows : Rows PartitionState) (id : ℕ) (kind : PageKind) (p w : PartitionState) (How : PagesAndRoom → PagesAndRoom → Type 0) → Some p ≡ content rows id → w ≡ with_pages kind
    (pages_in kind w) p → How (pages_in kind p) (pages_in kind w) → HasPages rows (change rows id (λ _. w)) id kind How
written rows id kind p w How there rest how = record {
  before = pages_in kind p;
  at = ap (option_map (pages_in kind)) (sym there);
  after = pages_in kind w;
  how = how;
  rows = ap {A = PartitionState} (λ v. change rows id (λ _. v)) rest ∙ change-of rows id (with_pages kind (pages_in kind w)) p (sym there);
}

-- a row with other pages of a kind where the test holds
abbrev pages_if : Bool → PageKind → PagesAndRoom → Row PartitionState → Row PartitionState
pages_if b kind v r = (r.0, cond b (with_pages kind v r.1) r.1)

get-with_pages : (rows : Rows PartitionState) (id : ℕ) (kind : PageKind) (v : PagesAndRoom) (q : ℕ) → get (with_pages_at rows id kind v) q ≡ option_map (pages_if (q == id) kind v) (get rows q)
get-with_pages rows id kind v q = get-change rows id (with_pages kind v) q ∙ by (q == id) refl
  where
    by : (b : Bool) → q == id ≡ b → cond b (option_map (λ r. (r.0, with_pages kind v r.1)) (get rows id)) (get rows q) ≡ option_map (pages_if b kind v) (get rows q)
    by true is = ap (λ n. option_map (pages_if true kind v) (get rows n)) (sym (eqb-true q id is))
    by false is = sym (option_map_id (get rows q))

-- the pages that were written, and those of the other kind
pages_same : (rows : Rows PartitionState) (id : ℕ) (kind : PageKind) (v p : PagesAndRoom) → pages_at rows id kind ≡ Some p → pages_at (with_pages_at rows id kind v) id kind ≡ Some v
pages_same rows id kind v p at = ap (λ r. option_map (pages_in kind) (option_map (λ r. r.1) r)) (get-with_pages rows id kind v id) ∙ by (id == id) (eq-eqb id id refl) kind (get rows id) at
  where
    by : (b : Bool) → b ≡ true → (kind : PageKind) (r : Option (Row PartitionState)) → option_map (pages_in kind) (option_map (λ r. r.1) r) ≡ Some p → option_map (pages_in kind)
        (option_map (λ r. r.1) (option_map (pages_if b kind v) r)) ≡ Some v
    by false is kind r at = cc
    by true is kind None at = cc
    by true is Loose (Some r) at = refl
    by true is Pooled (Some r) at = refl

pages_apart : (rows : Rows PartitionState) (id : ℕ) (pooled : Bool) (v : PagesAndRoom) (q : ℕ) → pages_at (with_pages_at rows id (kind_of pooled) v) q (kind_of (not pooled)) ≡ pages_at rows q
    (kind_of (not pooled))
pages_apart rows id pooled v q = ap (λ r. option_map (pages_in (kind_of (not pooled))) (option_map (λ r. r.1) r)) (get-with_pages rows id (kind_of pooled) v q) ∙ by (q == id) pooled (get rows q)
  where
    by : (b pooled : Bool) (r : Option (Row PartitionState)) → option_map (pages_in (kind_of (not pooled))) (option_map (λ r. r.1) (option_map (pages_if b (kind_of pooled) v) r)) ≡ option_map
        (pages_in (kind_of (not pooled))) (option_map (λ r. r.1) r)
    by b pooled None = refl
    by false pooled (Some r) = refl
    by true false (Some r) = refl
    by true true (Some r) = refl

some_same : (o : Option PagesAndRoom) (a b : PagesAndRoom) → o ≡ Some a → o ≡ Some b → a ≡ b
some_same o a b e h = let both = sym e ∙ h in cc

-- the row of a partition whose pages are these
pages_row : (rows : Rows PartitionState) (id : ℕ) (kind : PageKind) (v : PagesAndRoom) → pages_at rows id kind ≡ Some v → (r : Row PartitionState) × (get rows id ≡ Some r) ×
    (pages_in kind r.1 ≡ v)
pages_row rows id kind v at = by (get rows id) refl at
  where
    by : (r : Option (Row PartitionState)) → get rows id ≡ r → option_map (pages_in kind) (option_map (λ r. r.1) r) ≡ Some v → (r : Row PartitionState) × (get rows id ≡ Some r) ×
        (pages_in kind r.1 ≡ v)
    by None is h = cc
    by (Some r) is h = (r, is, cc)

bare_with : (kind : PageKind) (v : PagesAndRoom) (r : Row PartitionState) → v.pages ≡ (pages_in kind r.1).pages → bare (r.0, with_pages kind v r.1) ≡ bare r
bare_with Loose v r same = ap {A = set.FinSet nat_cmp} (λ ps. bare (r.0, record r.1 { loose = record { pages = ps; room = 0 } })) same
bare_with Pooled v r same = ap {A = set.FinSet nat_cmp} (λ ps. bare (r.0, record r.1 { pooled = record { pages = ps; room = 0 } })) same

-- the pages are unchanged
abbrev HasSame : PagesAndRoom → PagesAndRoom → Type 0
HasSame before after = after.pages ≡ before.pages

-- then only room changed
same_alone : (old new : Rows PartitionState) (id : ℕ) (kind : PageKind) → HasPages old new id kind HasSame → IsSameButRoom old new
same_alone old new id kind same q = ap (λ rows. option_map bare (get rows q)) same.rows ∙ ap (option_map bare) (get-with_pages old id kind same.after q) ∙ by (q == id) (get old q) refl refl
  where
    by : (b : Bool) (r : Option (Row PartitionState)) → q == id ≡ b → get old q ≡ r → option_map bare (option_map (pages_if b kind same.after) r) ≡ option_map bare r
    by b None is at = refl
    by false (Some r) is at = refl
    by true (Some r) is at =
        let had : pages_in kind r.1 ≡ same.before = some_same (pages_at old q kind) (pages_in kind r.1) same.before (ap (λ r. option_map (pages_in kind) (option_map (λ r. r.1) r)) at)
        (ap (λ n. pages_at old n kind) (eqb-true q id is) ∙ same.at) in
        ap Some (bare_with kind same.after r (same.how ∙ ap {A = PagesAndRoom} (λ p. p.pages) (sym had)))

-- of two writes of a partition's pages of a kind the last one shows
twice : (rows : Rows PartitionState) (id : ℕ) (kind : PageKind) (v w : PagesAndRoom) → with_pages_at (with_pages_at rows id kind v) id kind w ≡ with_pages_at rows id kind w
twice rows id kind v w = same_rows _ _ (λ q.
    get-with_pages (with_pages_at rows id kind v) id kind w q ∙ ap (option_map (pages_if (q == id) kind w)) (get-with_pages rows id kind v q) ∙ by (q == id) kind (get rows q)
    ∙ sym (get-with_pages rows id kind w q))
  where
    by : (b : Bool) (kind : PageKind) (r : Option (Row PartitionState)) → option_map (pages_if b kind w) (option_map (pages_if b kind v) r) ≡ option_map (pages_if b kind w) r
    by b kind None = refl
    by false kind (Some r) = refl
    by true Loose (Some r) = refl
    by true Pooled (Some r) = refl

-- a page that is taken out and put in again
insert-remove : (s : Pages) (x : ℕ) → set.contains s x ≡ true → set.insert (set.remove s x) x ≡ s
insert-remove s x is = set.same_set nat_cmp_total nat_cmp-IsAntisymmetric (set.insert (set.remove s x) x) s (λ q.
    set.contains-insert nat_cmp_total (set.remove s x) x q ∙ ap (λ b. b || set.contains (set.remove s x) q) (unsigned_tied q x)
    ∙ ap (λ b. (q == x) || b) (set.contains-remove nat_cmp_total s x q ∙ ap (λ b. not b && set.contains s q) (unsigned_tied q x)) ∙ by q (q == x) refl)
  where
    by : (q : ℕ) (b : Bool) → q == x ≡ b → (b || (not b && set.contains s q)) ≡ set.contains s q
    by q true same = sym (ap (set.contains s) (eqb-true q x same) ∙ is)
    by q false same = refl

-- a partition's pages of one kind were written as other page rows have them, and nothing else changed
pages_tied : (rows : Rows PartitionState) (f : Flat) → Refines rows f → (id : ℕ) (pooled : Bool) (v : PagesAndRoom) (m : FinMap nat_cmp PageRow) → is_some (get rows id) ≡ true →
    ((x : ℕ) → is_held id pooled (get m x) ≡ set.contains v.pages x) →
    ((q : ℕ) (j : Bool) (x : ℕ) → ((q ≡ id) × (j ≡ pooled) → ⊥) → is_held q j (get m x) ≡ is_held q j (get f.page x)) → Refines (with_pages_at rows id (kind_of pooled) v) (record f { page = m })
pages_tied rows f flat id pooled v m there own others = record {
  rows = λ q. subst (PartitionRelation (record f { page = m }) q) (sym (get-with_pages rows id (kind_of pooled) v q)) (by q (q == id) refl pooled own (others q) (get rows q) refl (flat.rows q));
}
  where
    away : (q : ℕ) → q == id ≡ false → (pooled : Bool) → ((j : Bool) (x : ℕ) → ((q ≡ id) × (j ≡ pooled) → ⊥) → is_held q j (get m x) ≡ is_held q j (get f.page x)) →
        (r : Option (Row PartitionState)) → ((x : ℕ) (j : Bool) → is_held q j (get f.page x) ≡ holds j x r) → (x : ℕ) (j : Bool) → is_held q j (get m x) ≡ holds j x r
    away q off pooled others r was x j = others j x (λ e. let on = sym (eq-eqb q id e.0) ∙ off in cc) ∙ was x j

    by : (q : ℕ) (b : Bool) → q == id ≡ b → (pooled : Bool) → ((x : ℕ) → is_held id pooled (get m x) ≡ set.contains v.pages x) →
        ((j : Bool) (x : ℕ) → ((q ≡ id) × (j ≡ pooled) → ⊥) → is_held q j (get m x) ≡ is_held q j (get f.page x)) → (r : Option (Row PartitionState)) → get rows q ≡ r → PartitionRelation f q r →
        PartitionRelation (record f { page = m }) q (option_map (pages_if b (kind_of pooled) v) r)
    by q true is pooled own others None at old = let none = sym (ap (λ n. is_some (get rows n)) (eqb-true q id is)) ∙ ap is_some at in cc
    by q false is pooled own others None at old = record { part = old.part; page = away q is pooled others None old.page; vp = old.vp; port = old.port; conn = old.conn; mail = old.mail }
    by q false is pooled own others (Some r) at old = record { part = old.part; page = away q is pooled others (Some r) old.page; vp = old.vp; port = old.port; conn = old.conn; mail = old.mail }
    by q true is false own others (Some r) at old = record { part = old.part; page = page; vp = old.vp; port = old.port; conn = old.conn; mail = old.mail }
      where
        page : (x : ℕ) (j : Bool) → is_held q j (get m x) ≡ holds j x (Some (r.0, record r.1 { loose = v }))
        page x false = ap (λ n. is_held n false (get m x)) (eqb-true q id is) ∙ own x
        page x true = others true x (λ e. let no = e.1 in cc) ∙ old.page x true
    by q true is true own others (Some r) at old = record { part = old.part; page = page; vp = old.vp; port = old.port; conn = old.conn; mail = old.mail }
      where
        page : (x : ℕ) (j : Bool) → is_held q j (get m x) ≡ holds j x (Some (r.0, record r.1 { pooled = v }))
        page x true = ap (λ n. is_held n true (get m x)) (eqb-true q id is) ∙ own x
        page x false = others false x (λ e. let no = e.1 in cc) ∙ old.page x false

-- what the model holds of a partition's pages
told : (rows : Rows PartitionState) (f : Flat) → Refines rows f → (id : ℕ) (pooled : Bool) (p : PagesAndRoom) → pages_at rows id (kind_of pooled) ≡ Some p → (x : ℕ) → is_held id pooled
    (get f.page x) ≡ set.contains p.pages x
told rows f flat id true p at x = let (r, is, same) = pages_row rows id Pooled p at in (flat.rows id).page x true ∙ ap (holds true x) is ∙ ap {A = PagesAndRoom} (λ p. set.contains p.pages x) same
told rows f flat id false p at x = let (r, is, same) = pages_row rows id Loose p at in (flat.rows id).page x false ∙ ap (holds false x) is ∙ ap {A = PagesAndRoom} (λ p. set.contains p.pages x) same

there : (rows : Rows PartitionState) (id : ℕ) (kind : PageKind) (p : PagesAndRoom) → pages_at rows id kind ≡ Some p → is_some (get rows id) ≡ true
there rows id kind p at = let (r, is, same) = pages_row rows id kind p at in ap is_some is

-- a page that was lost, and one that came
module _ (rows new : Rows PartitionState) (f : Flat) (flat : Refines rows f) (id page : ℕ) (pooled : Bool) where
  lost_tied : HasPages rows new id (kind_of pooled) (HasLost page) → is_held id pooled (get f.page page) ≡ true → Refines new (record f { page = remove f.page page })
  lost_tied h one = subst (λ rows. Refines rows (record f { page = remove f.page page })) (sym h.rows)
      (pages_tied rows f flat id pooled h.after (remove f.page page) (there rows id (kind_of pooled) h.before h.at) own others)
    where
      own : (x : ℕ) → is_held id pooled (get (remove f.page page) x) ≡ set.contains h.after.pages x
      own x = ap (is_held id pooled) (get_at-remove f.page page x) ∙ by (x == page)
          ∙ sym (ap (λ s. set.contains s x) h.how.0 ∙ set.contains-remove nat_cmp_total h.before.pages page x ∙ ap (λ b. not b && set.contains h.before.pages x) (unsigned_tied x page))
        where
          by : (b : Bool) → is_held id pooled (cond b None (get f.page x)) ≡ (not b && set.contains h.before.pages x)
          by true = refl
          by false = told rows f flat id pooled h.before h.at x

      others : (q : ℕ) (j : Bool) (x : ℕ) → ((q ≡ id) × (j ≡ pooled) → ⊥) → is_held q j (get (remove f.page page) x) ≡ is_held q j (get f.page x)
      others q j x differ = ap (is_held q j) (get_at-remove f.page page x) ∙ by (x == page) refl
        where
          by : (b : Bool) → x == page ≡ b → is_held q j (cond b None (get f.page x)) ≡ is_held q j (get f.page x)
          by true is =
              sym (ap (λ n. is_held q j (get f.page n)) (eqb-true x page is) ∙ (flat.rows q).page page j
              ∙ apart_sets rows f flat id q pooled j (λ e. differ (sym e.0, sym e.1)) page (sym ((flat.rows id).page page pooled) ∙ one))
          by false is = refl

  abbrev row : PageRow
  row = record { owner = id; pooled = pooled }

  gained_tied : HasPages rows new id (kind_of pooled) (HasGained page) → get f.page page ≡ None → Refines new (record f { page = insert f.page page row })
  gained_tied h free = subst (λ rows. Refines rows (record f { page = insert f.page page row })) (sym h.rows)
      (pages_tied rows f flat id pooled h.after (insert f.page page row) (there rows id (kind_of pooled) h.before h.at) own others)
    where
      own : (x : ℕ) → is_held id pooled (get (insert f.page page row) x) ≡ set.contains h.after.pages x
      own x = ap (is_held id pooled) (get_at-insert f.page page row x) ∙ by (x == page)
          ∙ sym (ap (λ s. set.contains s x) h.how ∙ set.contains-insert nat_cmp_total h.before.pages page x ∙ ap (λ b. b || set.contains h.before.pages x) (unsigned_tied x page))
        where
          by : (b : Bool) → is_held id pooled (cond b (Some row) (get f.page x)) ≡ (b || set.contains h.before.pages x)
          by true = held_by_owner row
          by false = told rows f flat id pooled h.before h.at x

      others : (q : ℕ) (j : Bool) (x : ℕ) → ((q ≡ id) × (j ≡ pooled) → ⊥) → is_held q j (get (insert f.page page row) x) ≡ is_held q j (get f.page x)
      others q j x differ = ap (is_held q j) (get_at-insert f.page page row x) ∙ by (x == page) (is_held q j (Some row)) refl refl
        where
          by : (b h : Bool) → x == page ≡ b → is_held q j (Some row) ≡ h → is_held q j (cond b (Some row) (get f.page x)) ≡ is_held q j (get f.page x)
          by true true is held = absurd (differ (held_alone row q j held))
          by true false is held = held ∙ sym (ap (λ n. is_held q j (get f.page n)) (eqb-true x page is) ∙ ap (is_held q j) free)
          by false h is held = refl

-- of two writes of a page's row the last one shows
again : (m : FinMap nat_cmp PageRow) (k : ℕ) (v : PageRow) → insert (remove m k) k v ≡ insert m k v
again m k v = same_map nat_cmp_total nat_cmp-IsAntisymmetric (insert (remove m k) k v) (insert m k v) (λ q.
    get_at-insert (remove m k) k v q ∙ ap (cond (q == k) (Some v)) (get_at-remove m k q) ∙ by (q == k) (get m q) ∙ sym (get_at-insert m k v q))
  where
    by : (b : Bool) (o : Option PageRow) → cond b (Some v) (cond b None o) ≡ cond b (Some v) o
    by true o = refl
    by false o = refl

neither : (b : Bool) → (b && false) ≡ true → ⊥
neither true h = cc
neither false h = cc

-- a page that may move is not yet where it moves to
module _ (old : Rows PartitionState) (from to page : ℕ) (pooled : Bool) (may : MayMove old from to page pooled) (f : Flat) (flat : Refines old f) where
  held_from : is_held from pooled (get f.page page) ≡ true
  held_from = told old f flat from pooled may.source may.had page ∙ may.held

  apart : (pooled : Bool) → is_held from pooled (get f.page page) ≡ true → get f.page page ≢ Some (record { owner = to; pooled = not pooled })
  apart true held there = neither (to == from) (sym (ap (is_held from true) there) ∙ held)
  apart false held there = neither (to == from) (sym (ap (is_held from false) there) ∙ held)

  -- its owner is there
  owner_there : option_map_or (λ row. contains_key f.part row.owner) (get f.page page) false ≡ true
  owner_there = by (get f.page page) held_from
    where
      by : (row : Option PageRow) → is_held from pooled row ≡ true → option_map_or (λ row. contains_key f.part row.owner) row false ≡ true
      by None held = cc
      by (Some row) held =
          let (r, at, same) = pages_row old from (kind_of pooled) may.source may.had in
          ap (contains_key f.part) (sym (held_alone row from pooled held).0) ∙ ap is_some ((flat.rows from).part ∙ ap (option_map part_row) at)

  pub move_told : Tells (variant.Page page to (not pooled)) f (moved_to f page to (not pooled))
  move_told = page_told f page to (not pooled) owner_there (apart pooled held_from)

-- a page that moves from one kind of `from` to the other kind of `to`
module _ (old left : Rows PartitionState) (from to page : ℕ) (pooled : Bool) (may : MayMove old from to page pooled) (lost : HasPages old left from (kind_of pooled) (HasLost page)) where
  pub can_hold : CanHold page (pages_at left to (kind_of (not pooled)))
  can_hold = record {
    there = may.target;
    at = ap (λ rows. pages_at rows to (kind_of (not pooled))) lost.rows ∙ pages_apart old from pooled lost.after to ∙ may.there;
    new = may.new;
  }

  pub moved_tied : (new : Rows PartitionState) → HasPages left new to (kind_of (not pooled)) (HasGained page) → (f : Flat) → Refines old f → Refines new
      (moved_to f page to (not pooled))
  moved_tied new gained f flat =
      subst (λ (m : FinMap nat_cmp PageRow). Refines new (record f { page = m })) (again f.page page (record { owner = to; pooled = not pooled }))
      (gained_tied left new (record f { page = remove f.page page }) (lost_tied old left f flat from page pooled lost (told old f flat from pooled may.source may.had page ∙ may.held))
      to page (not pooled) gained (get_at-remove f.page page page ∙ ap (λ b. cond b None (get f.page page)) (eq-eqb page page refl)))

  -- or goes back, out of memory
  had_it : set.contains lost.before.pages page ≡ true
  had_it = ap {A = PagesAndRoom} (λ p. set.contains p.pages page) (some_same (pages_at old from (kind_of pooled)) lost.before may.source lost.at may.had) ∙ may.held

  at_left : pages_at left from (kind_of pooled) ≡ Some lost.after
  at_left = ap (λ rows. pages_at rows from (kind_of pooled)) lost.rows ∙ pages_same old from (kind_of pooled) lost.after lost.before lost.at

  pub can_gain : CanGain page (pages_at left from (kind_of pooled))
  can_gain = record {
    there = lost.after;
    at = at_left;
    room = lost.how.1;
    new = ap {A = Pages} (λ ps. set.contains ps page) lost.how.0 ∙ set.contains-remove nat_cmp_total lost.before.pages page page
        ∙ ap (λ b. not b && set.contains lost.before.pages page) (unsigned_tied page page ∙ eq-eqb page page refl);
  }

  pub went_back : (new : Rows PartitionState) → HasPages left new from (kind_of pooled) (HasGained page) → IsSameButRoom old new
  went_back new gained = same_alone old new from (kind_of pooled) (record {
    before = lost.before;
    at = lost.at;
    after = gained.after;
    how = gained.how ∙ ap {A = PagesAndRoom} (λ p. set.insert p.pages page) (some_same (pages_at left from (kind_of pooled)) gained.before lost.after gained.at at_left)
        ∙ ap {A = Pages} (λ s. set.insert s page) lost.how.0 ∙ insert-remove lost.before.pages page had_it;
    rows = gained.rows ∙ ap (λ rows. with_pages_at rows from (kind_of pooled) gained.after) lost.rows ∙ twice old from (kind_of pooled) lost.after gained.after;
  })
