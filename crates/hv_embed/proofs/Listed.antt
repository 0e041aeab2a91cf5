-- What a partition's row has is what the flat state has, in a state that a machine stands for.
use Rattle.std.proofs.Common.{◌≡◌, ℕ, ◌<◌, nat_lt, ◌&&◌, ◌||◌, Bool, true, false, Option, Some, None, is_some, refl, sym, ap, subst, ◌∙◌, arith, option_map}
use Rattle.std.specs.FinMap.{get}
use Rattle.hv_defs.specs.declared.sizes.TheConstants.{MAX_PAGES}
use Rattle.hv_partition.specs.Partition.{PartitionState}
use Rattle.hv_policy.specs.Flat.{Flat}
use Rattle.hv_admit.proofs.FoundRow.{content_row}
use Rattle.hv_admit.proofs.StateInvariant.{page_below}
use Rattle.hv_admit.specs.Served.{TreeInvariant}
use Rattle.hv_admit.specs.Tie.{Refines, conn_row, conn_row_of, holds as holds_in, port_row, port_row_of, vp_row, vp_row_of}
use Rattle.hv_tree.specs.Rows.{Row, Rows, content}
use Rattle.hv_embed.specs.Held.{has_id, has_vp, is_held_by, is_link, is_page, is_vp}
use Rattle.hv_embed.specs.Next.{IsNext, IsNextRun, is_after}
use Rattle.hv_embed.specs.declared.layout.HvPageRun.{HvPageRun}
use Rattle.hv_embed.specs.declared.layout.TheConstants.{FIRST}
use Rattle.hv_embed.specs.declared.next.Links.{Links}
use Rattle.hv_embed.specs.declared.next.Links.TheVariants.{Ports, Connections}

some_mapped : {X Y : Type 0} (g : X → Y) (o : Option X) → is_some o ≡ is_some (option_map g o)
some_mapped g None = refl
some_mapped g (Some x) = refl

-- nothing comes next where nothing passes
none_next : (test : ℕ → Bool) (previous : ℕ) → ((id : ℕ) → test id ≡ false) → IsNext test previous None
none_next test previous none id passes = let off = none id in absurd (cc)

module _ (rows : Rows PartitionState) (f : Flat) (flat : Refines rows f) (part : ℕ) where
  -- of a partition that isn't there
  module _ (gone : None ≡ content rows part) where
    no_row : get rows part ≡ None
    no_row = by (get rows part) gone
      where
        by : (r : Option (Row PartitionState)) → None ≡ option_map (λ r. r.1) r → r ≡ None
        by None gone = refl
        by (Some r) gone = absurd (cc)

    no_vp : (index : ℕ) → is_vp f part index ≡ false
    no_vp index = ap (λ b. nat_lt index FIRST && b) (ap is_some ((flat.rows part).vp index ∙ ap (vp_row index) no_row)) ∙ off (nat_lt index FIRST)
      where
        off : (b : Bool) → (b && false) ≡ false
        off true = refl
        off false = refl

    no_link : (links : Links) (id : ℕ) → is_link links f part id ≡ false
    no_link Ports id = ap is_some ((flat.rows part).port id ∙ ap (port_row id) no_row)
    no_link Connections id = ap is_some ((flat.rows part).conn id ∙ ap (conn_row id) no_row)

    pub no_next_vp : (previous : ℕ) → IsNext (is_vp f part) previous None
    no_next_vp previous = none_next (is_vp f part) previous no_vp

    pub no_next_link : (links : Links) (previous : ℕ) → IsNext (is_link links f part) previous None
    no_next_link links previous = none_next (is_link links f part) previous (no_link links)

    pub no_next_page : (previous : ℕ) → IsNextRun (is_page f part) previous None
    no_next_page previous page any = by (is_page f part true page) (is_page f part false page) (own true) (own false) any
      where
        own : (pooled : Bool) → is_page f part pooled page ≡ holds_in pooled page None
        own pooled = (flat.rows part).page page pooled ∙ ap (holds_in pooled page) no_row

        by : (a b : Bool) → a ≡ false → b ≡ false → (a || b) ≡ true → is_after previous page ≡ false
        by true b is at any = absurd (cc)
        by false true is at any = absurd (cc)
        by false false is at any = absurd (cc)

  -- of one that is
  module _ (p : PartitionState) (is : Some p ≡ content rows part) where
    found : (r : Row PartitionState) × (get rows part ≡ Some r) × (r.1 ≡ p)
    found = content_row rows part p is

    vp_alike : (index : ℕ) → has_vp p index ≡ is_vp f part index
    vp_alike index =
        let (r, there, same) = found in
        ap (λ b. nat_lt index FIRST && b) (some_mapped vp_row_of (get p.vps.vps index) ∙ ap {A = PartitionState} (λ p. is_some (option_map vp_row_of (get p.vps.vps index))) (sym same)
        ∙ sym (ap is_some ((flat.rows part).vp index ∙ ap (vp_row index) there)))

    link_alike : (links : Links) (id : ℕ) → has_id links p id ≡ is_link links f part id
    link_alike Ports id =
        let (r, there, same) = found in
        some_mapped port_row_of (get p.ports.rows id) ∙ ap {A = PartitionState} (λ p. is_some (option_map port_row_of (get p.ports.rows id))) (sym same)
        ∙ sym (ap is_some ((flat.rows part).port id ∙ ap (port_row id) there))
    link_alike Connections id =
        let (r, there, same) = found in
        some_mapped conn_row_of (get p.conns.rows id) ∙ ap {A = PartitionState} (λ p. is_some (option_map conn_row_of (get p.conns.rows id))) (sym same)
        ∙ sym (ap is_some ((flat.rows part).conn id ∙ ap (conn_row id) there))

    row_held : (pooled : Bool) (page : ℕ) → is_held_by p pooled page ≡ holds_in pooled page (get rows part)
    row_held true page = let (r, there, same) = found in ap {A = PartitionState} (λ p. is_held_by p true page) (sym same) ∙ sym (ap (holds_in true page) there)
    row_held false page = let (r, there, same) = found in ap {A = PartitionState} (λ p. is_held_by p false page) (sym same) ∙ sym (ap (holds_in false page) there)

    page_alike : (pooled : Bool) (page : ℕ) → is_held_by p pooled page ≡ is_page f part pooled page
    page_alike pooled page = row_held pooled page ∙ sym ((flat.rows part).page page pooled)

    pub next_vp_is : (previous : ℕ) (r : Option ℕ) → IsNext (has_vp p) previous r → IsNext (is_vp f part) previous r
    next_vp_is previous r next = subst (λ (test : ℕ → Bool). IsNext test previous r) (λ i index. vp_alike index i) next

    pub next_link_is : (links : Links) (previous : ℕ) (r : Option ℕ) → IsNext (has_id links p) previous r → IsNext (is_link links f part) previous r
    next_link_is links previous r next = subst (λ (test : ℕ → Bool). IsNext test previous r) (λ i id. link_alike links id i) next

    pub next_page_is : (previous : ℕ) (r : Option HvPageRun) → IsNextRun (is_held_by p) previous r → IsNextRun (is_page f part) previous r
    next_page_is previous r next = subst (λ (held : Bool → ℕ → Bool). IsNextRun held previous r) (λ i pooled page. page_alike pooled page i) next

    pub pages_below : TreeInvariant rows → (pooled : Bool) (page : ℕ) → is_held_by p pooled page ≡ true → page < MAX_PAGES
    pages_below law pooled page held =
        let below = page_below rows law.flat law.tied law.pages law.lawful part page pooled (sym (row_held pooled page) ∙ held) in
        let most = law.bounded in
        omega (arith, below, most)
