-- What calls read of a partition of which two states have the same.
use Rattle.std.proofs.Common.{◌≡◌, ℕ, ◌+◌, ◌*◌, ◌-◌, ◌==◌, ◌&&◌, not, nat_lt, Option, Some, None, find, is_some, refl, sym, ap, ◌∙◌}
use Rattle.std.specs.FinMap.{contains_key, get, entries}
use Rattle.hv_defs.proofs.Counts.{passes}
use Rattle.hv_defs.specs.declared.registers.RegisterRow.{RegisterRow}
use Rattle.hv_defs.specs.declared.sizes.TheConstants.{PARTITION_CHARGE, VP_CHARGE, PORT_CHARGE, CONNECTION_CHARGE}
use Rattle.hv_policy.specs.Answer.{first_id, next_child}
use Rattle.hv_policy.specs.Count.{child_count, in_use, is_parent, lowest_pooled, number_of, pooled_count}
use Rattle.hv_policy.specs.Flat.{Flat, PageRow, PartRow}
use Rattle.hv_policy.specs.Met.{is_child, is_loose, may_access, may_give, test_row}
use Rattle.hv_policy.specs.declared.property.Property.{Property}
use Rattle.hv_policy.specs.declared.property.Property.TheVariants.{PrivilegeFlags, CpuReserve, CpuCap, CpuWeight}
use Rattle.hv_privs.specs.Privileges.{contains, of}
use Rattle.hv_security.proofs.CountsAgree.{as_many, first-alike, held_loose, held_passes, numbers-alike}
use Rattle.hv_security.proofs.SameReads.{ReadsAlike}
use Rattle.hv_security.specs.Same.{held_by}

module _ (f g : Flat) where
  -- what the mask of a partition allows
  module _ (id : ℕ) (part : get f.part id ≡ get g.part id) where
    give_alike : (property : Option Property) (value : ℕ) → may_give property value f id ≡ may_give property value g id
    give_alike None value = refl
    give_alike (Some PrivilegeFlags) value = ap (test_row (λ row. contains row.mask (of value))) part
    give_alike (Some CpuReserve) value = refl
    give_alike (Some CpuCap) value = refl
    give_alike (Some CpuWeight) value = refl

    pub access_alike : (row : Option RegisterRow) → may_access f id row ≡ may_access g id row
    access_alike None = refl
    access_alike (Some row) = ap (test_row (λ part. contains part.mask (of row.privilege))) part

  -- its pages
  module _ (id : ℕ) (pages : (q : ℕ) → held_by id (get f.page q) ≡ held_by id (get g.page q)) where
    loose_alike : (page : ℕ) → is_loose id (get f.page page) ≡ is_loose id (get g.page page)
    loose_alike page = held_loose id (get f.page page) ∙ ap (passes (λ (e : ℕ × PageRow). not e.1.pooled) 0) (pages page) ∙ sym (held_loose id (get g.page page))

    pool_passes : (q : ℕ) → passes (λ (e : ℕ × PageRow). (e.1.owner == id) && e.1.pooled) q (get f.page q) ≡ passes (λ (e : ℕ × PageRow). (e.1.owner == id) && e.1.pooled) q (get g.page q)
    pool_passes q =
        held_passes (λ row. row.pooled) id q (get f.page q) ∙ ap (passes (λ (e : ℕ × PageRow). e.1.pooled) q) (pages q) ∙ sym (held_passes (λ row. row.pooled) id q (get g.page q))

    pool_alike : pooled_count f id ≡ pooled_count g id
    pool_alike = numbers-alike (λ e. (e.1.owner == id) && e.1.pooled) (λ e. (e.1.owner == id) && e.1.pooled) f.page g.page pool_passes

    pub lowest_alike : lowest_pooled f id ≡ lowest_pooled g id
    lowest_alike = first-alike (λ e. (e.1.owner == id) && e.1.pooled) (λ e. (e.1.owner == id) && e.1.pooled) f.page g.page pool_passes

  -- its children
  module _ (id : ℕ) (child : (q : ℕ) → is_child f id q ≡ is_child g id q) where
    children_alike : child_count f id ≡ child_count g id
    children_alike =
        numbers-alike (λ e. is_parent id e.1.parent) (λ e. is_parent id e.1.parent) f.part g.part (λ q. one q (get f.part q) ∙ child q ∙ sym (one q (get g.part q)))
      where
        one : (q : ℕ) (r : Option PartRow) → passes (λ (e : ℕ × PartRow). is_parent id e.1.parent) q r ≡ test_row (λ row. is_parent id row.parent) r
        one q None = refl
        one q (Some row) = refl

    next_child_alike : (previous : ℕ) → next_child f id previous ≡ next_child g id previous
    next_child_alike previous =
        first_number (find (λ e. is_parent id e.1.parent && nat_lt previous e.0) (entries f.part)) (find (λ e. is_parent id e.1.parent && nat_lt previous e.0) (entries g.part))
        (first-alike (λ e. is_parent id e.1.parent && nat_lt previous e.0) (λ e. is_parent id e.1.parent && nat_lt previous e.0) f.part g.part
        (λ q. one q (get f.part q) ∙ ap (λ b. b && nat_lt previous q) (child q) ∙ sym (one q (get g.part q))))
      where
        one : (q : ℕ) (r : Option PartRow) → passes (λ (e : ℕ × PartRow). is_parent id e.1.parent && nat_lt previous e.0) q r ≡ test_row (λ row. is_parent id row.parent) r && nat_lt previous q
        one q None = refl
        one q (Some row) = refl

        first_number : (c d : Option (ℕ × PartRow)) → number_of c ≡ number_of d → first_id c ≡ first_id d
        first_number None None e = refl
        first_number None (Some d) e = cc
        first_number (Some c) None e = cc
        first_number (Some c) (Some d) e = cc

  -- all that a call reads of its caller and its target
  module _ (caller target : ℕ) (own : get f.part caller ≡ get g.part caller) (own_pages : (q : ℕ) → held_by caller (get f.page q) ≡ held_by caller (get g.page q))
      (part : get f.part target ≡ get g.part target) (pages : (q : ℕ) → held_by target (get f.page q) ≡ held_by target (get g.page q)) (vps : (n : ℕ) → get f.vp (target, n) ≡ get g.vp (target, n))
      (ports : (n : ℕ) → contains_key f.port (target, n) ≡ contains_key g.port (target, n)) (conns : (n : ℕ) → contains_key f.conn (target, n) ≡ contains_key g.conn (target, n))
      (child : (q : ℕ) → is_child f target q ≡ is_child g target q) where
    use_alike : in_use f target ≡ in_use g target
    use_alike = λ i.
        PARTITION_CHARGE * children_alike target child i + VP_CHARGE * as_many target f.vp g.vp (λ n. ap is_some (vps n)) i + PORT_CHARGE * as_many target f.port g.port ports i
        + CONNECTION_CHARGE * as_many target f.conn g.conn conns i

    pub reads_alike : ReadsAlike caller target f g
    reads_alike = record {
      part = part;
      vps = vps;
      ports = ports;
      conns = conns;
      children = children_alike target child;
      child = child;
      following = next_child_alike target child;
      unused = λ i. pool_alike target pages i - use_alike i;
      used = use_alike;
      lowest = lowest_alike target pages;
      loose = loose_alike caller own_pages;
      given = give_alike caller own;
      accessed = access_alike caller own;
    }
