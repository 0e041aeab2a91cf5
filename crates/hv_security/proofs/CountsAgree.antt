-- What two states count alike, and find alike, where rows agree key by key.
use Rattle.std.proofs.Common.{◌≡◌, ℕ, ◌≤◌, ◌==◌, ◌&&◌, Bool, true, false, cond, find, not, Option, Some, None, is_some, refl, sym, ap, ◌∙◌, arith, eqb-true, count_by, nat_cmp}
use Rattle.std.specs.Cmp.{nat_cmp_total}
use Rattle.std.specs.FinMap.{FinMap, get, entries, nat_cmp-IsAntisymmetric}
use Rattle.hv_defs.proofs.Counts.{passes}
use Rattle.hv_defs.proofs.Maps.{found_row, found_least}
use Rattle.hv_defs.proofs.Tallies.{count-alike}
use Rattle.hv_defs.specs.Flags.{pair_cmp}
use Rattle.hv_policy.proofs.Pairs.{pair_cmp_total, pair_cmp_exact}
use Rattle.hv_policy.specs.Count.{number_of}
use Rattle.hv_policy.specs.Flat.{PageRow, PartRow}
use Rattle.hv_policy.specs.Met.{is_loose, test_row}
use Rattle.hv_security.specs.Agreed.{lineage}
use Rattle.hv_security.specs.Same.{held_by}

-- a test of a row's parent
pub lineage_tested : (t : Option ℕ → Bool) (r s : Option PartRow) → lineage r ≡ lineage s → test_row (λ row. t row.parent) r ≡ test_row (λ row. t row.parent) s
lineage_tested t None None e = refl
lineage_tested t None (Some s) e = cc
lineage_tested t (Some r) None e = cc
lineage_tested t (Some r) (Some s) e = let same : r.parent ≡ s.parent = cc in ap t same

-- whether there is a row
pub lineage_there : (r s : Option PartRow) → lineage r ≡ lineage s → is_some r ≡ is_some s
lineage_there None None e = refl
lineage_there None (Some s) e = cc
lineage_there (Some r) None e = cc
lineage_there (Some r) (Some s) e = refl

-- a test of the page rows of one partition
pub held_passes : (t : PageRow → Bool) (id q : ℕ) (r : Option PageRow) → passes (λ (e : ℕ × PageRow). (e.1.owner == id) && t e.1) q r ≡ passes (λ (e : ℕ × PageRow). t e.1) q (held_by id r)
held_passes t id q None = refl
held_passes t id q (Some row) = by (row.owner == id)
  where
    by : (b : Bool) → b && t row ≡ passes (λ (e : ℕ × PageRow). t e.1) q (cond b (Some row) None)
    by true = refl
    by false = refl

pub held_loose : (id : ℕ) (r : Option PageRow) → is_loose id r ≡ passes (λ (e : ℕ × PageRow). not e.1.pooled) 0 (held_by id r)
held_loose id None = refl
held_loose id (Some row) = held_passes (λ row. not row.pooled) id 0 (Some row)

-- a test of the page row at each number finds as many, and the same first
module _ {X Y : Type 0} (p : ℕ × X → Bool) (r : ℕ × Y → Bool) (m : FinMap nat_cmp X) (n : FinMap nat_cmp Y) (h : (q : ℕ) → passes p q (get m q) ≡ passes r q (get n q)) where
  pub numbers-alike : count_by p (entries m) ≡ count_by r (entries n)
  numbers-alike = count-alike nat_cmp_total nat_cmp-IsAntisymmetric p r m n h

-- what is found first in one map has a row in the other that passes, so that the first there is no later
other_first : {X Y : Type 0} (p : ℕ × X → Bool) (r : ℕ × Y → Bool) (m : FinMap nat_cmp X) (n : FinMap nat_cmp Y) → ((q : ℕ) → passes p q (get m q) ≡ passes r q (get n q)) → (c : ℕ × X) → find p
    (entries m) ≡ Some c → (d : ℕ × Y) × (find r (entries n) ≡ Some d) × (d.0 ≤ c.0)
other_first {X = X} {Y = Y} p r m n h c is =
    let (there, own) = found_row p m c is in
    at (get n c.0) refl (sym (h c.0) ∙ ap (passes p c.0) there ∙ own)
  where
    at : (row : Option Y) → get n c.0 ≡ row → passes r c.0 (get n c.0) ≡ true → (d : ℕ × Y) × (find r (entries n) ≡ Some d) × (d.0 ≤ c.0)
    at None none e = let no = sym (ap (passes r c.0) none) ∙ e in cc
    at (Some row) there e = found_least r n c.0 row there (sym (ap (passes r c.0) there) ∙ e)

pub first-alike : {X Y : Type 0} (p : ℕ × X → Bool) (r : ℕ × Y → Bool) (m : FinMap nat_cmp X) (n : FinMap nat_cmp Y) → ((q : ℕ) → passes p q (get m q) ≡ passes r q (get n q)) → number_of
    (find p (entries m)) ≡ number_of (find r (entries n))
first-alike {X = X} {Y = Y} p r m n h = by (find p (entries m)) (find r (entries n)) refl refl
  where
    by : (c : Option (ℕ × X)) (d : Option (ℕ × Y)) → find p (entries m) ≡ c → find r (entries n) ≡ d → number_of c ≡ number_of d
    by None None e s = refl
    by None (Some d) e s = let (c, is, less) = other_first r p n m (λ q. sym (h q)) d s in let both = sym e ∙ is in cc
    by (Some c) None e s = let (d, is, less) = other_first p r m n h c e in let both = sym s ∙ is in cc
    by (Some c) (Some d) e s =
        let (d', is, less) = other_first p r m n h c e in
        let (c', was, more) = other_first r p n m (λ q. sym (h q)) d s in
        let one : d' ≡ d = (let both = sym is ∙ s in cc) in
        let two : c' ≡ c = (let both = sym was ∙ e in cc) in
        let a = ap (λ e. e.0) one in
        let b = ap (λ e. e.0) two in
        let same : c.0 ≡ d.0 = omega (arith, less, more, a, b) in
        ap Some same

-- the rows by (partition, number) of one partition, counted, where they are there alike
pub as_many : {X : Type 0} (id : ℕ) (m n : FinMap pair_cmp X) → ((i : ℕ) → is_some (get m (id, i)) ≡ is_some (get n (id, i))) → count_by (λ (e : (ℕ × ℕ) × X). e.0.0 == id) (entries m) ≡ count_by
    (λ (e : (ℕ × ℕ) × X). e.0.0 == id) (entries n)
as_many {X = X} id m n h = count-alike pair_cmp_total pair_cmp_exact own own m n (λ key. at key (key.0 == id) refl)
  where
    own : (ℕ × ℕ) × X → Bool
    own e = e.0.0 == id

    none : (key : ℕ × ℕ) → key.0 == id ≡ false → (r : Option X) → passes (λ (e : (ℕ × ℕ) × X). e.0.0 == id) key r ≡ false
    none key off None = refl
    none key off (Some x) = off

    some : (key : ℕ × ℕ) → key.0 == id ≡ true → (r : Option X) → passes (λ (e : (ℕ × ℕ) × X). e.0.0 == id) key r ≡ is_some r
    some key is None = refl
    some key is (Some x) = is

    at : (key : ℕ × ℕ) (b : Bool) → key.0 == id ≡ b → passes (λ (e : (ℕ × ℕ) × X). e.0.0 == id) key (get m key) ≡ passes (λ (e : (ℕ × ℕ) × X). e.0.0 == id) key (get n key)
    at key true is =
        let to = ap (λ k. (k, key.1)) (eqb-true key.0 id is) in
        some key is (get m key) ∙ ap is_some (ap (get m) to) ∙ h key.1 ∙ ap is_some (ap (get n) (sym to)) ∙ sym (some key is (get n key))
    at key false off = none key off (get m key) ∙ sym (none key off (get n key))
