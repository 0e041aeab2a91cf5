-- What a change leaves of a partition that it isn't about.
use Rattle.std.proofs.Common.{◌≡◌, ℕ, zero, suc, ◌==◌, ◌&&◌, not, Bool, true, false, cond, List, Option, Some, None, find, map, refl, sym, ap, ◌∙◌, eq-eqb, eqb-true, filter, option_map, nat_cmp}
use Rattle.std.proofs.lemmas.Bool.{and_parts}
use Rattle.std.specs.FinMap.{FinMap, get, insert, remove, entries, from_entries, get-insert, get-remove}
use Rattle.std.specs.Ordering.{eq_by_cmp}
use Rattle.hv_defs.proofs.Maps.{found_row, get-mapped, get_at-insert, get_at-remove}
use Rattle.hv_defs.specs.Flags.{pair_cmp}
use Rattle.hv_defs.specs.declared.registers.TheConstants.{EOM}
use Rattle.hv_defs.specs.declared.sizes.TheConstants.{SINTS}
use Rattle.hv_policy.proofs.Filters.{filter_kept}
use Rattle.hv_policy.proofs.Pairs.{pair_cmp_total, tied_pairs}
use Rattle.hv_policy.proofs.Places.{next_apart}
use Rattle.hv_policy.proofs.Rows.{get-rows_but, get-with_row, get-with_vp}
use Rattle.hv_policy.specs.Aim.{is_ready_for_messages, on_vp}
use Rattle.hv_policy.specs.Count.{lowest_pooled, number_of}
use Rattle.hv_policy.specs.Effect.{counted, end_if, inherited, rows_but, row_raised, show, show_each, with_row, with_vp, write_msr, write_register, written}
use Rattle.hv_policy.specs.Flat.{Flat, MailRow, PageRow, PartRow, VpRow}
use Rattle.hv_policy.specs.Mail.{has_next, mail_at, stands_at}
use Rattle.hv_policy.specs.Met.{is_loose}
use Rattle.hv_security.specs.Same.{HasSame, held_by, place}

-- the same as before, and what two changes leave the same
pub nothing : (id : ℕ) (f : Flat) → HasSame id f f
nothing id f = record {
  part = refl;
  pages = λ _. refl;
  vps = λ _. refl;
  ports = λ _. refl;
  conns = λ _. refl;
  mail = λ _ _. refl;
}

pub both : (id : ℕ) (f g h : Flat) → HasSame id f g → HasSame id g h → HasSame id f h
both id f g h s t = record {
  part = s.part ∙ t.part;
  pages = λ page. s.pages page ∙ t.pages page;
  vps = λ vp. s.vps vp ∙ t.vps vp;
  ports = λ port. s.ports port ∙ t.ports port;
  conns = λ connection. s.conns connection ∙ t.conns connection;
  mail = λ vp sint. s.mail vp sint ∙ t.mail vp sint;
}

-- one more served event changes nothing more
pub once_counted : (id : ℕ) (f g : Flat) → HasSame id f g → HasSame id f (counted g)
once_counted id f g s = record {
  part = s.part;
  pages = s.pages;
  vps = s.vps;
  ports = s.ports;
  conns = s.conns;
  mail = s.mail;
}

-- a page's row that isn't of the partition
pub not_held : (id : ℕ) (row : PageRow) → id == row.owner ≡ false → held_by id (Some row) ≡ None
not_held id row off = by (row.owner == id) refl
  where
    by : (b : Bool) → row.owner == id ≡ b → cond b (Some row) None ≡ None
    by true is = let clash = sym (eq-eqb id row.owner (sym (eqb-true row.owner id is))) ∙ off in cc
    by false is = refl

module _ (id target : ℕ) (off : id == target ≡ false) where
  -- another row of a map by (partition, number) comes, goes, or changes
  untied : (m n : ℕ) → eq_by_cmp pair_cmp (id, m) (target, n) ≡ false
  untied m n = tied_pairs id m target n ∙ ap (λ b. b && eq_by_cmp nat_cmp m n) off

  pub insert_apart : {X : Type 0} (rows : FinMap pair_cmp X) (n : ℕ) (x : X) (m : ℕ) → get rows (id, m) ≡ get (insert rows (target, n) x) (id, m)
  insert_apart rows n x m = sym (get-insert pair_cmp_total rows (target, n) x (id, m) ∙ ap (λ b. cond b (Some x) (get rows (id, m))) (untied m n))

  pub remove_apart : {X : Type 0} (rows : FinMap pair_cmp X) (n m : ℕ) → get rows (id, m) ≡ get (remove rows (target, n)) (id, m)
  remove_apart rows n m = sym (get-remove pair_cmp_total rows (target, n) (id, m) ∙ ap (λ b. cond b None (get rows (id, m))) (untied m n))

  pub rows_apart : {X : Type 0} (rows : FinMap pair_cmp X) (m : ℕ) → get rows (id, m) ≡ get (rows_but target rows) (id, m)
  rows_apart rows m = sym (get-rows_but rows target (id, m) ∙ ap (λ b. cond (not b) (get rows (id, m)) None) off)

  pub vp_apart : (vps : FinMap pair_cmp VpRow) (n : ℕ) (h : VpRow → VpRow) (m : ℕ) → get vps (id, m) ≡ get (with_vp vps (target, n) h) (id, m)
  vp_apart vps n h m = sym (get-with_vp vps (target, n) h (id, m) ∙ ap (λ b. cond b (option_map h (get vps (target, n))) (get vps (id, m))) (untied m n))

  pub row_apart : (part : FinMap nat_cmp PartRow) (h : PartRow → PartRow) → get part id ≡ get (with_row part target h) id
  row_apart part h = sym (get-with_row part target h id ∙ ap (λ b. cond b (option_map h (get part target)) (get part id)) off)

  pub removed_apart : (part : FinMap nat_cmp PartRow) → get part id ≡ get (remove part target) id
  removed_apart part = sym (get_at-remove part target id ∙ ap (λ b. cond b None (get part id)) off)

  -- messages go that aren't its own
  pub mail_apart : (gone : MailRow → Bool) → ((row : MailRow) → gone row ≡ true → row.part == target ≡ true) → (mail : List MailRow) (vp sint : ℕ) → mail_at (place id vp sint) mail ≡ mail_at
      (place id vp sint) (filter (λ row. not (gone row)) mail)
  mail_apart gone own mail vp sint = sym (filter_kept (stands_at (place id vp sint)) (λ row. not (gone row)) kept mail)
    where
      kept : (row : MailRow) → stands_at (place id vp sint) row ≡ true → not (gone row) ≡ true
      kept row here = by (gone row) refl
        where
          by : (b : Bool) → gone row ≡ b → not b ≡ true
          by true is =
              let mine = eqb-true row.part id (and_parts (row.part == id) ((row.vp == vp) && (row.sint == sint)) here).0 in
              let clash = sym (ap (λ n. n == target) mine ∙ off) ∙ own row is in cc
          by false is = refl

  -- Show at another's places
  pub shown_apart : (vp sint : ℕ) (f : Flat) → HasSame id f (show (place target vp sint) f)
  shown_apart vp sint f = record {
    part = refl;
    pages = λ _. refl;
    vps = vp_apart f.vp vp (row_raised (has_next (place target vp sint) f.mail) sint);
    ports = λ _. refl;
    conns = λ _. refl;
    mail = λ m s. sym (next_apart (place id m s) (place target vp sint) (ap (λ b. b && ((m == vp) && (s == sint))) off) f.mail);
  }

  each_apart : (vp n : ℕ) (f : Flat) → HasSame id f (show_each target vp n f)
  unfolding show_each
  each_apart vp zero f = nothing id f
  each_apart vp (suc sint) f = both id f (show_each target vp sint f) (show_each target vp (suc sint) f) (each_apart vp sint f) (shown_apart vp sint (show_each target vp sint f))

  ended_apart : (is : Bool) (vp : ℕ) (f : Flat) → HasSame id f (end_if is target vp f)
  ended_apart false vp f = nothing id f
  ended_apart true vp f = by (on_vp f (target, vp) is_ready_for_messages)
    where
      by : (b : Bool) → HasSame id f (cond b (show_each target vp SINTS f) f)
      by true = each_apart vp SINTS f
      by false = nothing id f

  -- another's processor changes
  pub staff_apart : (f : Flat) (vp : ℕ) (h : VpRow → VpRow) → HasSame id f (record f { vp = with_vp f.vp (target, vp) h })
  staff_apart f vp h = record {
    part = refl;
    pages = λ _. refl;
    vps = vp_apart f.vp vp h;
    ports = λ _. refl;
    conns = λ _. refl;
    mail = λ _ _. refl;
  }

  pub register_apart : (vp name value : ℕ) (f : Flat) → HasSame id f (write_register target vp name value f)
  register_apart vp name value f =
      both id f (record f { vp = with_vp f.vp (target, vp) (written name value) }) (write_register target vp name value f)
      (staff_apart f vp (written name value)) (ended_apart (name == EOM) vp (record f { vp = with_vp f.vp (target, vp) (written name value) }))

  pub msr_apart : (vp : ℕ) (name : Option ℕ) (value : ℕ) (f : Flat) → HasSame id f (write_msr target vp name value f)
  msr_apart vp None value f = nothing id f
  msr_apart vp (Some name) value f = register_apart vp name value f

-- a page goes from one partition to another
pub page_apart : (id page : ℕ) (pages : FinMap nat_cmp PageRow) (old row : PageRow) → get pages page ≡ Some old → id == old.owner ≡ false → id == row.owner ≡ false → (q : ℕ) → held_by id (get pages q)
    ≡ held_by id (get (insert pages page row) q)
page_apart id page pages old row is was now q = by (q == page) refl ∙ sym (ap (held_by id) (get_at-insert pages page row q))
  where
    by : (b : Bool) → q == page ≡ b → held_by id (get pages q) ≡ held_by id (cond b (Some row) (get pages q))
    by true here = ap (held_by id) (ap (get pages) (eqb-true q page here) ∙ is) ∙ not_held id old was ∙ sym (not_held id row now)
    by false off = refl

-- pages that another inherits
pub new_owner_apart : (id target new_owner : ℕ) → id == target ≡ false → id == new_owner ≡ false → (pages : FinMap nat_cmp PageRow) (q : ℕ) → held_by id (get pages q) ≡ held_by id
    (get (from_entries {R = nat_cmp} (map (λ e. (e.0, inherited target new_owner e.1)) (entries pages))) q)
new_owner_apart id target new_owner was now pages q = by (get pages q) ∙ sym (ap (held_by id) (get-mapped (inherited target new_owner) pages q))
  where
    by : (r : Option PageRow) → held_by id r ≡ held_by id (option_map (inherited target new_owner) r)
    by None = refl
    by (Some row) = at (row.owner == target) refl
      where
        at : (b : Bool) → row.owner == target ≡ b → held_by id (Some row) ≡ held_by id (Some (cond b (record { owner = new_owner; pooled = false }) row))
        at true is = not_held id row (ap (λ n. id == n) (eqb-true row.owner target is) ∙ was) ∙ sym (not_held id (record { owner = new_owner; pooled = false }) now)
        at false is = refl

-- the page of a deposit, and of a withdrawal
pub loose_row : (id : ℕ) (r : Option PageRow) → is_loose id r ≡ true → (row : PageRow) × (r ≡ Some row) × (row.owner ≡ id)
loose_row id None h = cc
loose_row id (Some row) h = (row, refl, eqb-true row.owner id (and_parts (row.owner == id) (not row.pooled) h).0)

pub lowest_row : (f : Flat) (id page : ℕ) → lowest_pooled f id ≡ Some page → (row : PageRow) × (get f.page page ≡ Some row) × (row.owner ≡ id)
lowest_row f id page is = by (find (λ e. (e.1.owner == id) && e.1.pooled) (entries f.page)) refl is
  where
    by : (c : Option (ℕ × PageRow)) → find (λ e. (e.1.owner == id) && e.1.pooled) (entries f.page) ≡ c → number_of c ≡ Some page → (row : PageRow) × (get f.page page ≡ Some row) × (row.owner ≡ id)
    by None s e = cc
    by (Some c) s e =
        let (there, own) = found_row (λ e. (e.1.owner == id) && e.1.pooled) f.page c s in
        let same : c.0 ≡ page = cc in
        (c.1, ap (get f.page) (sym same) ∙ there, eqb-true c.1.owner id (and_parts (c.1.owner == id) c.1.pooled own).0)
