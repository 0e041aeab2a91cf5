-- The state that boot gives is lawful.
use Rattle.std.proofs.Common.{◌≡◌, ℕ, zero, suc, ◌+◌, ◌*◌, ◌≤◌, ◌==◌, Bool, true, false, cond, ◌&&◌, ◌||◌, nat_lt, List, [], ◌∷◌, length, map, Some, None, is_some, refl, sym, ap, subst, ◌∙◌, arith}
use Rattle.std.proofs.Common.{eqb-true, lt-ltb, ltb-true, ltb-false, nat_cmp, is_eq, Ordering}
use Rattle.std.proofs.lemmas.Bool.{or_parts}
use Rattle.std.proofs.lemmas.List.FromFn.{length-range_with_len, length-map-range_with_len}
use Rattle.std.proofs.lemmas.List.Sums.{count_by-le-length}
use Rattle.std.specs.Cmp.{IsTotalOrder, nat_cmp_total, nat_eq_equiv, unsigned_tied, tied_then}
use Rattle.std.specs.FinMap.{get, empty, entries, from_entries, find, get-insert, get-empty, get-from_entries, len, len-entries, len-empty, len-insert, contains_key, nat_cmp-IsAntisymmetric}
use Rattle.std.specs.List.{AllByRecursion, IsDistinct, list_any, range_with_len}
use Rattle.std.specs.Ordering.{eq_by_cmp}
use Rattle.hv_defs.proofs.Counts.{passes, count_by-none}
use Rattle.hv_defs.proofs.Ranges.{beneath, listed_below, listed_range}
use Rattle.hv_defs.proofs.Tallies.{count-from_keys}
use Rattle.hv_defs.specs.declared.sizes.TheConstants.{MAX_PAGES, MAX_VPS, VP_CHARGE}
use Rattle.hv_policy.proofs.Pairs.{pair_cmp_total, pair_cmp_exact}
use Rattle.hv_policy.specs.BootFault.{boot_fault}
use Rattle.hv_policy.specs.declared.config.BootRefused.TheVariants.{Pages, Pool, Vps}
use Rattle.hv_policy.specs.Boot.{boot, boot_page, root_row, start_vp}
use Rattle.hv_policy.specs.Count.{child_count, conn_count, in_use, is_parent, pooled_count, port_count, vp_count}
use Rattle.hv_defs.specs.Flags.{pair_cmp}
use Rattle.hv_policy.specs.Flat.{PageRow, PartRow, PortRow, VpRow}
use Rattle.hv_policy.specs.Met.{is_active, test_row}
use Rattle.hv_policy.specs.declared.config.Config.{Config}
use Rattle.hv_invariants.proofs.PoolPages.{is_own}
use Rattle.hv_invariants.specs.StateInvariant.{StateInvariant}

three_tests : {X : Type 0} (a b c : Bool) (x y z : X) → cond a (Some x) (cond b (Some y) (cond c (Some z) None)) ≡ None → (a ≡ false) × (b ≡ false) × (c ≡ false)
three_tests true b c x y z e = cc
three_tests false true c x y z e = cc
three_tests false false true x y z e = cc
three_tests false false false x y z e = (refl, refl, refl)

tests_fail : (config : Config) → boot_fault config ≡ None → (((config.pages == 0) || nat_lt MAX_PAGES config.pages) ≡ false) × (nat_lt config.pages config.pool ≡ false) ×
    (((config.vps == 0) || nat_lt MAX_VPS config.vps || nat_lt config.pool (VP_CHARGE * config.vps)) ≡ false)
tests_fail config e =
    three_tests ((config.pages == 0) || nat_lt MAX_PAGES config.pages) (nat_lt config.pages config.pool)
    ((config.vps == 0) || nat_lt MAX_VPS config.vps || nat_lt config.pool (VP_CHARGE * config.vps)) Pages Pool Vps e

-- what a configuration without a fault fits
pub fits_most : (config : Config) → boot_fault config ≡ None → config.pages ≤ MAX_PAGES
fits_most config e = ltb-false MAX_PAGES config.pages (or_parts (config.pages == 0) (nat_lt MAX_PAGES config.pages) (tests_fail config e).0).1

pub fits_pages : (config : Config) → boot_fault config ≡ None → config.pool ≤ config.pages
fits_pages config e = ltb-false config.pages config.pool (tests_fail config e).1

pub fits_pool : (config : Config) → boot_fault config ≡ None → 4 * config.vps ≤ config.pool
fits_pool config e =
    ltb-false config.pool (4 * config.vps)
    (or_parts ((config.vps == 0) || nat_lt MAX_VPS config.vps) (nat_lt config.pool (VP_CHARGE * config.vps)) (tests_fail config e).2).1

found_at : {X : Type 0} (v : ℕ → X) (q : ℕ) (ks : List ℕ) → find nat_cmp q (map (λ k. (k, v k)) ks) ≡ cond (list_any (λ k. q == k) ks) (Some (v q)) None
found_at v q [] = refl
found_at v q (k ∷ ks) = ap (λ b. cond b (Some (v k)) (find nat_cmp q (map (λ k. (k, v k)) ks))) (unsigned_tied q k) ∙ by (q == k) refl (found_at v q ks)
  where
    by : (b : Bool) → q == k ≡ b → find nat_cmp q (map (λ k. (k, v k)) ks) ≡ cond (list_any (λ k. q == k) ks) (Some (v q)) None → cond b (Some (v k)) (find nat_cmp q (map (λ k. (k, v k)) ks)) ≡ cond
        (b || list_any (λ k. q == k) ks) (Some (v q)) None
    by true t rest = ap (λ n. Some (v n)) (sym (eqb-true q k t))
    by false t rest = rest

tied_pairs : (a i b j : ℕ) → eq_by_cmp pair_cmp (a, i) (b, j) ≡ (a == b) && (i == j)
tied_pairs a i b j = sym (tied_then (nat_cmp a b) (nat_cmp i j)) ∙ ap (λ t. t && is_eq (nat_cmp i j)) (unsigned_tied a b) ∙ ap (λ t. (a == b) && t) (unsigned_tied i j)

found_pair : {X : Type 0} (v : ℕ → X) (a b i : ℕ) (ks : List ℕ) → find pair_cmp (a, i) (map (λ k. ((b, k), v k)) ks) ≡ cond (a == b) (cond (list_any (λ k. i == k) ks) (Some (v i)) None) None
found_pair v a b i [] = by (a == b)
  where
    by : (t : Bool) → None ≡ cond t (cond false (Some (v i)) None) None
    by true = refl
    by false = refl
found_pair v a b i (k ∷ ks) = ap (λ t. cond t (Some (v k)) (find pair_cmp (a, i) (map (λ k. ((b, k), v k)) ks))) (tied_pairs a i b k) ∙ by (a == b) (i == k) refl (found_pair v a b i ks)
  where
    by : (s t : Bool) → i == k ≡ t → find pair_cmp (a, i) (map (λ k. ((b, k), v k)) ks) ≡ cond s (cond (list_any (λ k. i == k) ks) (Some (v i)) None) None → cond (s && t) (Some (v k))
        (find pair_cmp (a, i) (map (λ k. ((b, k), v k)) ks)) ≡ cond s (cond (t || list_any (λ k. i == k) ks) (Some (v i)) None) None
    by true true t rest = ap (λ n. Some (v n)) (sym (eqb-true i k t))
    by true false t rest = rest
    by false t e rest = rest

pub page_at : (config : Config) (page : ℕ) → get (boot config).page page ≡ cond (nat_lt page config.pages) (Some (boot_page config.pool page)) None
page_at config page =
    get-from_entries nat_cmp_total (map (λ page. (page, boot_page config.pool page)) (range_with_len 0 config.pages)) page
    ∙ found_at (boot_page config.pool) page (range_with_len 0 config.pages)
    ∙ ap (λ b. cond b (Some (boot_page config.pool page)) None) (listed_below config.pages page)

pub vp_at : (config : Config) (id index : ℕ) → get (boot config).vp (id, index) ≡ cond (id == 1) (cond (nat_lt index config.vps) (Some (start_vp index)) None) None
vp_at config id index =
    get-from_entries pair_cmp_total (map (λ i. ((1, i), start_vp i)) (range_with_len 0 config.vps)) (id, index)
    ∙ found_pair start_vp id 1 index (range_with_len 0 config.vps)
    ∙ ap (λ b. cond (id == 1) (cond b (Some (start_vp index)) None) None) (listed_below config.vps index)

pub part_at : (config : Config) (id : ℕ) → get (boot config).part id ≡ cond (id == 1) (Some (root_row config.mask)) None
part_at config id =
    get-insert nat_cmp_total (empty {R = nat_cmp}) 1 (root_row config.mask) id
    ∙ ap (λ b. cond b (Some (root_row config.mask)) (get (empty {R = nat_cmp}) id)) (unsigned_tied id 1)
    ∙ ap (cond (id == 1) (Some (root_row config.mask))) (get-empty nat_cmp id)

-- a map made of a list has no more rows than the list
len-made : {K X : Type 0} {R : K → K → Ordering} (o : IsTotalOrder R) (es : List (K × X)) → len (from_entries {R = R} es) ≤ length es
len-made {X = X} {R = R} o [] = let none = len-empty R X in omega arith
len-made {R = R} o (e ∷ es) = by (contains_key (from_entries {R = R} es) e.0) (len-insert o (from_entries es) e.0 e.1) (len-made o es)
  where
    by : (b : Bool) → len (from_entries {R = R} (e ∷ es)) ≡ cond b (len (from_entries {R = R} es)) (len (from_entries {R = R} es) + 1) → len (from_entries {R = R} es) ≤ length es → len
        (from_entries {R = R} (e ∷ es)) ≤ length (e ∷ es)
    by true is few = omega arith
    by false is few = omega arith

any_tied : (q : ℕ) (ks : List ℕ) → list_any (eq_by_cmp nat_cmp q) ks ≡ list_any (λ k. q == k) ks
any_tied q [] = refl
any_tied q (k ∷ ks) = ap (λ b. b || list_any (eq_by_cmp nat_cmp q) ks) (unsigned_tied q k) ∙ ap (λ b. (q == k) || b) (any_tied q ks)

none_tied : (q : ℕ) (ks : List ℕ) → list_any (λ k. q == k) ks ≡ false → AllByRecursion (λ k. eq_by_cmp nat_cmp q k ≡ false) ks
none_tied q [] h = tt
none_tied q (k ∷ ks) h = let parts = or_parts (q == k) (list_any (λ k. q == k) ks) h in (unsigned_tied q k ∙ parts.0, none_tied q ks parts.1)

distinct_range : (a n : ℕ) → IsDistinct (eq_by_cmp nat_cmp) (range_with_len a n)
unfolding IsDistinct
distinct_range a zero = tt
distinct_range a (suc n) = (none_tied a (range_with_len (a + 1) n) (listed_range (a + 1) n a ∙ beneath (a + 1) (a + 1 + n) a (omega arith)), distinct_range (a + 1) n)

module _ (config : Config) (sane : boot_fault config ≡ None) where
  root_only : (id : ℕ) (row : PartRow) → get (boot config).part id ≡ Some row → (id ≡ 1) × (root_row config.mask ≡ row)
  root_only id row is = by (id == 1) refl (sym (part_at config id) ∙ is)
    where
      by : (b : Bool) → id == 1 ≡ b → cond b (Some (root_row config.mask)) None ≡ Some row → (id ≡ 1) × (root_row config.mask ≡ row)
      by true here e = (eqb-true id 1 here, cc)
      by false off e = cc

  parentless : (id parent : ℕ) (row : PartRow) → get (boot config).part id ≡ Some row → row.parent ≡ Some parent → ⊥
  parentless id parent row is named = let (here, root) = root_only id row is in let both = ap {A = PartRow} (λ r. r.parent) root ∙ named in cc

  portless : (key : ℕ × ℕ) (port : PortRow) → get (boot config).port key ≡ Some port → ⊥
  portless key port is = let none = sym (get-empty {X = PortRow} pair_cmp key) ∙ is in cc

  no_children : (id : ℕ) → child_count (boot config) id ≡ 0
  no_children id = count_by-none nat_cmp nat_cmp_total nat_cmp-IsAntisymmetric (boot config).part (λ e. is_parent id e.1.parent)
      (λ q. ap (passes (λ (e : ℕ × PartRow). is_parent id e.1.parent) q) (part_at config q) ∙ by q (q == 1))
    where
      by : (q : ℕ) (b : Bool) → passes (λ (e : ℕ × PartRow). is_parent id e.1.parent) q (cond b (Some (root_row config.mask)) None) ≡ false
      by q true = refl
      by q false = refl

  no_ports : (id : ℕ) → port_count (boot config) id ≡ 0
  no_ports id = count_by-none pair_cmp pair_cmp_total pair_cmp_exact (boot config).port (λ e. e.0.0 == id) (λ q. ap (passes (λ e. e.0.0 == id) q) (get-empty pair_cmp q))

  no_conns : (id : ℕ) → conn_count (boot config) id ≡ 0
  no_conns id = count_by-none pair_cmp pair_cmp_total pair_cmp_exact (boot config).conn (λ e. e.0.0 == id) (λ q. ap (passes (λ e. e.0.0 == id) q) (get-empty pair_cmp q))

  abbrev made_vp : ℕ → (ℕ × ℕ) × VpRow
  made_vp index = ((1, index), start_vp index)

  all_vps : length (map {A = ℕ} {B = (ℕ × ℕ) × VpRow} made_vp (range_with_len 0 config.vps)) ≡ config.vps
  all_vps = length-map-range_with_len made_vp 0 config.vps

  few_vps : (id : ℕ) → vp_count (boot config) id ≤ config.vps
  few_vps id =
      let few = count_by-le-length (λ e. e.0.0 == id) (entries (boot config).vp) in
      let same = len-entries (boot config).vp in
      let made = len-made pair_cmp_total (map (λ index. ((1, index), start_vp index)) (range_with_len 0 config.vps)) in
      let all = all_vps in
      omega arith

  no_vps : (id : ℕ) → id == 1 ≡ false → vp_count (boot config) id ≡ 0
  no_vps id off = count_by-none pair_cmp pair_cmp_total pair_cmp_exact (boot config).vp (λ e. e.0.0 == id)
      (λ q. ap (passes (λ e. e.0.0 == id) q) (vp_at config q.0 q.1) ∙ by q (q.0 == 1) refl (nat_lt q.1 config.vps))
    where
      by : (q : ℕ × ℕ) (b : Bool) → q.0 == 1 ≡ b → (c : Bool) → passes (λ e. e.0.0 == id) q (cond b (cond c (Some (start_vp q.1)) None) None) ≡ false
      by q true is true = ap (λ n. n == id) (eqb-true q.0 1 is) ∙ nat_eq_equiv.symm 1 id ∙ off
      by q true is false = refl
      by q false is c = refl

  pool_is : config.pool ≤ pooled_count (boot config) 1
  pool_is =
      let all = count-from_keys nat_cmp_total nat_cmp-IsAntisymmetric (is_own 1) (boot config).page (range_with_len 0 config.pool) (distinct_range 0 config.pool) own in
      let many = length-range_with_len 0 config.pool in
      omega arith
    where
      own : (q : ℕ) → list_any (eq_by_cmp nat_cmp q) (range_with_len 0 config.pool) ≡ true → passes (is_own 1) q (get (boot config).page q) ≡ true
      own q h =
          let is : nat_lt q config.pool ≡ true = sym (listed_below config.pool q) ∙ sym (any_tied q (range_with_len 0 config.pool)) ∙ h in
          let lt = ltb-true q config.pool is in
          let le = fits_pages config sane in
          ap (passes (is_own 1) q) (page_at config q ∙ ap (λ b. cond b (Some (boot_page config.pool q)) None) (lt-ltb q config.pages (omega arith))) ∙ is

  uses : (id : ℕ) (b : Bool) → id == 1 ≡ b → in_use (boot config) id ≤ cond b config.pool 0
  uses id true is = let children = no_children id in let ports = no_ports id in let conns = no_conns id in let vps = few_vps id in let fits = fits_pool config sane in omega arith
  uses id false off = let children = no_children id in let ports = no_ports id in let conns = no_conns id in let vps = no_vps id off in omega arith

  pub lawful_boot : StateInvariant config.pages (boot config)
  lawful_boot = record {
    below = λ id row is. (let (here, root) = root_only id row is in omega arith);
    above = λ id parent row is named. absurd (parentless id parent row is named);
    within = λ id. within id (id == 1) refl (uses id (id == 1) refl);
    idle = λ id still. idle id (id == 1) (uses id (id == 1) refl) (sym (ap (test_row (λ row. is_active row.life)) (part_at config id)) ∙ still);
    masks = λ id parent child above is named there. absurd (parentless id parent child is named);
    paged = λ page. ap is_some (page_at config page) ∙ has (nat_lt page config.pages) (boot_page config.pool page);
    owned = λ page row is. owned page row (nat_lt page config.pages) (sym (page_at config page) ∙ is);
    few = omega arith;
    ports = λ key port is. absurd (portless key port is);
    placed = tt;
  }
    where
      within : (id : ℕ) (b : Bool) → id == 1 ≡ b → in_use (boot config) id ≤ cond b config.pool 0 → in_use (boot config) id ≤ pooled_count (boot config) id
      within id true is few = let pool = subst (λ n. config.pool ≤ pooled_count (boot config) n) (sym (eqb-true id 1 is)) pool_is in omega arith
      within id false off few = omega arith

      idle : (id : ℕ) (b : Bool) → in_use (boot config) id ≤ cond b config.pool 0 → test_row (λ row. is_active row.life) (cond b (Some (root_row config.mask)) None) ≡ false → in_use (boot config) id ≡
          0
      idle id true few e = cc
      idle id false few e = omega arith

      has : (b : Bool) (row : PageRow) → is_some (cond b (Some row) None) ≡ b
      has true row = refl
      has false row = refl

      owned : (page : ℕ) (row : PageRow) (b : Bool) → cond b (Some (boot_page config.pool page)) None ≡ Some row → contains_key (boot config).part row.owner ≡ true
      owned page row true e = (let same : boot_page config.pool page ≡ row = cc in subst (λ (r : PageRow). contains_key (boot config).part r.owner ≡ true) same (ap is_some (part_at config 1)))
      owned page row false e = cc
