-- What calls tell that move pages, or make or end processors.
use Rattle.std.proofs.Common.{arith, ◌≡◌, ◌≢◌, ℕ, ◌==◌, ◌&&◌, not, is_some, Bool, true, false, cond, [], map, Option, Some, None, refl, sym, ap, subst, ◌∙◌, eq-eqb, eqb-true, option_map, nat_cmp}
use Rattle.std.specs.FinMap.{FinMap, contains_key, entries, from_entries, get, get-insert, get-remove, insert, remove}
use Rattle.std.specs.FinSet as set
use Rattle.hv_policy.specs.Mail.{place}
use Rattle.hv_policy.specs.Reading.{has_flag, has_vector}
use Rattle.std.specs.Option.{option_map_or}
use Rattle.hv_defs.specs.declared.life.Life.TheVariants.{Active, Finalized}
use Rattle.hv_defs.proofs.Maps.{get-mapped, get_at-insert}
use Rattle.hv_defs.specs.Flags.{pair_cmp}
use Rattle.hv_policy.proofs.Pairs.{pair_cmp_total}
use Rattle.hv_policy.proofs.Places.{but_part_there, but_vp_there}
use Rattle.hv_policy.proofs.Rows.{get-rows_but}
use Rattle.hv_policy.specs.Boot.{start_vp}
use Rattle.hv_policy.specs.Effect.{inherited, rows_but, with_vp, written}
use Rattle.hv_policy.specs.Flat.{Flat, PageRow, PartRow, PortRow, ConnRow, VpRow}
use Rattle.hv_policy.specs.Mail.{Place, mail_at, mail_but, mail_but_at}
use Rattle.hv_admit.proofs.ProcessorChange.{itself, pair_tied, row_told, rows_told, there}
use Rattle.hv_admit.specs.Effect.{HasNothing, HasPage, HasProcessor, Tells, life_of, was_of}
use Rattle.hv_admit.specs.declared.effect.Effect.TheVariants as variant

-- a processor without messages and without a row has nothing
left_without : (part vp : ℕ) (g : Flat) → ((sint : ℕ) → mail_at (place part vp sint) g.mail ≡ []) → get g.vp (part, vp) ≡ None → HasNothing part vp g
left_without part vp g no_mail gone =
    record { messages = no_mail; flags = λ sint flag. ap (λ r. has_flag r sint flag) gone; vectors = λ vector. ap (λ r. has_vector r vector) gone }

module _ (f : Flat) where
  -- where neither messages nor processors nor pages change
  pub untold : (g : Flat) → f.mail ≡ g.mail → f.vp ≡ g.vp → f.page ≡ g.page → Tells variant.Nothing f g
  untold g mail vps pages =
      rows_told variant.Nothing f g (λ at _. ap (λ m. mail_at at m) (sym mail)) (λ id index _. ap (λ m. get m (id, index)) (sym vps)) (λ page _. ap (λ m. get m page) (sym pages)) tt tt

  -- where a register is written, but for EOM
  pub register_untold : (part vp name value : ℕ) → Tells variant.Nothing f (record f { vp = with_vp f.vp (part, vp) (written name value) })
  register_untold part vp name value =
      row_told variant.Nothing part vp (written name value) f _ refl (there f.vp part vp (written name value)) (λ at _. refl) (λ v is sint flag _. refl) (λ v is vector _. refl) tt tt

  page_stays : (from to : ℕ) (r : Option PageRow) → was_of from r ≡ false → option_map (inherited from to) r ≡ r
  page_stays from to None off = refl
  page_stays from to (Some row) off = ap (λ b. Some (cond b (record { owner = to; pooled = false }) row)) off

  -- a page gets an owner, and its former one still exists
  pub page_told : (page owner : ℕ) (pooled : Bool) → option_map_or (λ row. contains_key f.part row.owner) (get f.page page) false ≡ true
      → get f.page page ≢ Some (record { owner = owner; pooled = pooled })
      → Tells (variant.Page page owner pooled) f (record f { page = insert f.page page (record { owner = owner; pooled = pooled }) })
  page_told page owner pooled kept apart =
      rows_told (variant.Page page owner pooled) f _ (λ at _. refl) (λ id index _. refl) (λ q off. get_at-insert f.page page row q ∙ ap (λ b. cond b (Some row) (get f.page q)) off)
      (record { now = get_at-insert f.page page row page ∙ ap (λ b. cond b (Some row) (get f.page page)) (eq-eqb page page refl); owner = kept }) apart
    where
      row : PageRow
      row = record { owner = owner; pooled = pooled }

  -- the pages of a partition that is gone, and where it has none
  abbrev pub passed_on : ℕ → ℕ → FinMap nat_cmp PartRow → Flat
  passed_on from to part = record f { part = part; page = from_entries (map (λ e. (e.0, inherited from to e.1)) (entries f.page)) }

  pub pages_told : (from to : ℕ) (part : FinMap nat_cmp PartRow) → contains_key part from ≡ false → HasPage from f → from ≢ to
      → Tells (variant.Pages from to) f (passed_on from to part)
  pages_told from to part gone some apart =
      rows_told (variant.Pages from to) f (passed_on from to part) (λ at _. refl) (λ id index _. refl)
      (λ q off. get-mapped (inherited from to) f.page q ∙ page_stays from to (get f.page q) off)
      (record { gone = gone; pages = λ q was. get-mapped (inherited from to) f.page q ∙ moved (get f.page q) was }) (some, apart)
    where
      moved : (r : Option PageRow) → was_of from r ≡ true → option_map (inherited from to) r ≡ Some (record { owner = to; pooled = false })
      moved None was = cc
      moved (Some row) was = ap (λ b. Some (cond b (record { owner = to; pooled = false }) row)) was

  pub no_pages_told : (from to : ℕ) (part : FinMap nat_cmp PartRow) → ((page : ℕ) → was_of from (get f.page page) ≡ false) → Tells variant.Nothing f (passed_on from to part)
  no_pages_told from to part none =
      rows_told variant.Nothing f (passed_on from to part) (λ at _. refl) (λ id index _. refl)
      (λ page _. get-mapped (inherited from to) f.page page ∙ page_stays from to (get f.page page) (none page)) tt tt

  module _ (part vp : ℕ) where
    -- a processor is made where none was
    abbrev made : Flat
    made = record f { vp = insert f.vp (part, vp) (start_vp vp) }

    made_row : (id index : ℕ) (b : Bool) → (id == part) && (index == vp) ≡ b → get made.vp (id, index) ≡ cond b (Some (start_vp vp)) (get f.vp (id, index))
    made_row id index b is = get-insert pair_cmp_total f.vp (part, vp) (start_vp vp) (id, index) ∙ ap (λ b. cond b (Some (start_vp vp)) (get f.vp (id, index))) (pair_tied id index part vp ∙ is)

    pub made_told : life_of f part ≡ Some Active → ((sint : ℕ) → mail_at (place part vp sint) f.mail ≡ [])
        → contains_key f.vp (part, vp) ≡ false → Tells (variant.Processor part vp) f made
    made_told active none free =
        rows_told (variant.Processor part vp) f made (λ at _. refl) (λ id index off. made_row id index false off) (λ page _. refl)
        (record { life = active; nothing = nothing }) (ap is_some new ∙ sym (ap not free))
      where
        new : get made.vp (part, vp) ≡ Some (start_vp vp)
        new = made_row part vp true (itself part vp)

        nothing : HasNothing part vp made
        nothing = record {
          messages = none;
          flags = λ sint flag. ap (λ r. has_flag r sint flag) new ∙ set.contains-empty pair_cmp (sint, flag);
          vectors = λ vector. ap (λ r. has_vector r vector) new ∙ set.contains-empty nat_cmp vector;
        }

    -- and deleted
    abbrev deleted : Flat
    deleted = record f { vp = remove f.vp (part, vp); mail = mail_but_at part vp f.mail }

    deleted_row : (id index : ℕ) (b : Bool) → (id == part) && (index == vp) ≡ b → get deleted.vp (id, index) ≡ cond b None (get f.vp (id, index))
    deleted_row id index b is = get-remove pair_cmp_total f.vp (part, vp) (id, index) ∙ ap (λ b. cond b None (get f.vp (id, index))) (pair_tied id index part vp ∙ is)

    pub deleted_told : life_of f part ≡ Some Active → contains_key f.vp (part, vp) ≡ true → Tells (variant.Processor part vp) f deleted
    deleted_told active there =
        rows_told (variant.Processor part vp) f deleted (λ at off. but_vp_there part vp at false off f.mail) (λ id index off. deleted_row id index false off) (λ page _. refl)
        (record { life = active; nothing = left_without part vp deleted (λ sint. but_vp_there part vp (place part vp sint) true (itself part vp) f.mail) gone })
        (ap is_some gone ∙ sym (ap not there))
      where
        gone : get deleted.vp (part, vp) ≡ None
        gone = deleted_row part vp true (itself part vp)

  -- a partition is finalized
  module _ (id : ℕ) (part : FinMap nat_cmp PartRow) (ports : FinMap pair_cmp PortRow) (conns : FinMap pair_cmp ConnRow) where
    abbrev ended : Flat
    ended = record f { part = part; vp = rows_but id f.vp; port = ports; conn = conns; mail = mail_but id f.mail }

    ended_row : (other index : ℕ) (b : Bool) → other == id ≡ b → get ended.vp (other, index) ≡ cond (not b) (get f.vp (other, index)) None
    ended_row other index b is = get-rows_but f.vp id (other, index) ∙ ap (λ b. cond (not b) (get f.vp (other, index)) None) is

    pub finalized_told : option_map (λ row. row.life) (get part id) ≡ Some Finalized → HasProcessor id f → Tells (variant.Partition id) f ended
    finalized_told life some =
        rows_told (variant.Partition id) f ended (λ at off. but_part_there id at false off f.mail) (λ other index off. ended_row other index false off) (λ page _. refl)
        (record {
          life = life;
          gone = λ vp. ap is_some (ended_row id vp true (eq-eqb id id refl));
          nothing = λ vp. left_without id vp ended
              (λ sint. but_part_there id (place id vp sint) true (eq-eqb id id refl) f.mail) (ended_row id vp true (eq-eqb id id refl));
        }) some

    -- and where it has no processor
    pub none_finalized : ((vp : ℕ) → contains_key f.vp (id, vp) ≡ false) → ((vp sint : ℕ) → mail_at (place id vp sint) f.mail ≡ []) → Tells variant.Nothing f ended
    none_finalized none no_mail = rows_told variant.Nothing f ended (λ at _. mail at (at.part == id) refl) (λ other index _. row other index) (λ page _. refl) tt tt
      where
        gone : (r : Option VpRow) → is_some r ≡ false → None ≡ r
        gone None free = refl
        gone (Some row) free = cc

        row : (other index : ℕ) → get ended.vp (other, index) ≡ get f.vp (other, index)
        row other index = get-rows_but f.vp id (other, index) ∙ grind (arith, gone (get f.vp (other, index)), none index)

        mail : (at : Place) (b : Bool) → at.part == id ≡ b → mail_at at ended.mail ≡ mail_at at f.mail
        mail at true here =
            let p = eqb-true at.part id here in
            but_part_there id at true here f.mail ∙ sym (subst (λ part. mail_at (place part at.vp at.sint) f.mail ≡ []) (sym p) (no_mail at.vp at.sint))
        mail at false off = but_part_there id at false off f.mail
