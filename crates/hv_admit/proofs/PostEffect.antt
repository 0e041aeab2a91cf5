-- What a post tells.
use Rattle.std.proofs.Common.{◌≡◌, ℕ, ◌==◌, ◌&&◌, ◌||◌, not, Bool, true, false, cond, List, [], ◌∷◌, ◌++◌, find}
use Rattle.std.proofs.Common.{Some, refl, sym, ap, subst, ◌∙◌, ◌<◌, eq-eqb, eqb-true, option_map, arith, is_some}
use Rattle.std.proofs.Math.Bool.{and-false}
use Rattle.std.specs.FinMap.{get}
use Rattle.std.specs.FinSet as set
use Rattle.std.specs.List.{list_any}
use Rattle.hv_policy.specs.Mail.{place}
use Rattle.hv_policy.specs.Reading.{has_vector}
use Rattle.hv_defs.specs.Vectors.{raised}
use Rattle.hv_defs.specs.declared.sizes.TheConstants.{SINTS}
use Rattle.hv_policy.proofs.Places.{head_shown, is_place_same, last_there, next_rows, posted_apart, posted_there}
use Rattle.hv_policy.specs.Effect.{post, row_raised}
use Rattle.hv_policy.specs.Flat.{Flat, MailRow, VpRow}
use Rattle.hv_policy.specs.Mail.{Place, has_next, is_shown, is_some_row, mail_at, place_of, shown_at}
use Rattle.hv_admit.proofs.ProcessorChange.{itself, no_bit, no_vectors, none_raised, raised_both, row_told, shown_of, some_bit, there, there_itself}
use Rattle.hv_admit.proofs.RaisedVectors.{none_rings, still_shown, vectors_one}
use Rattle.hv_admit.specs.Effect.{IsSynic, Tells, WaitsMore, has_bit, quiet, rings}
use Rattle.hv_admit.specs.Raised.{became_shown, registers_of, vectors_of}
use Rattle.hv_admit.specs.declared.effect.Effect.TheVariants as variant
use Rattle.hv_admit.specs.declared.effect.Synic.{Synic}

-- whether one of some rows is shown, once one comes last that isn't
any_last : (rows : List MailRow) (row : MailRow) → row.shown ≡ false → list_any is_shown (rows ++ row ∷ []) ≡ list_any is_shown rows
any_last [] row waits = ap (λ b. b || false) waits
any_last (first ∷ rows) row waits = ap (λ b. first.shown || b) (any_last rows row waits)

some_last : (rows : List MailRow) (row : MailRow) → is_some_row (rows ++ row ∷ []) ≡ true
some_last [] row = refl
some_last (first ∷ rows) row = refl

-- whether one is found, also once Show did its part
pub found : (rows : List MailRow) → is_some (find is_shown rows) ≡ list_any is_shown rows
found [] = refl
found (row ∷ rows) = grind (arith, found rows)

pub next_shows : (rows : List MailRow) → list_any is_shown (next_rows rows) ≡ is_some_row rows
next_shows [] = refl
next_shows (row ∷ rows) = grind arith

module _ (row : MailRow) (f : Flat) (waiting : row.shown ≡ false) where
  abbrev at_row : Place
  at_row = place_of row

  abbrev rows : List MailRow
  rows = mail_at at_row f.mail

  abbrev did : Bool
  did = has_next at_row (f.mail ++ row ∷ [])

  did_is : did ≡ not (list_any is_shown rows)
  did_is =
      ap (λ rows. not (list_any is_shown rows) && is_some_row rows) (last_there at_row f.mail row true (is_place_same at_row))
      ∙ grind (arith, any_last rows row waiting, some_last rows row)

  -- where one is shown, one more waits
  pub post_waits : list_any is_shown rows ≡ true → Tells (variant.Synic (record (quiet row.part row.vp) { waiting = Some row.sint })) f (post row f)
  post_waits some =
      row_told (variant.Synic s) row.part row.vp (row_raised did row.sint) f (post row f) refl (there f.vp row.part row.vp (row_raised did row.sint))
      (λ at off. posted_apart at row (grind arith) f.mail) (λ v at sint flag _. refl)
      (λ v at vector _. ap (λ b. set.contains (cond b (raised v.registers row.sint v.pending) v.pending) vector) (did_is ∙ ap not some)) named refl
    where
      s : Synic
      s = record (quiet row.part row.vp) { waiting = Some row.sint }

      -- no SINT shows a message that showed none
      none_new : (k : ℕ) (b : Bool) → k == row.sint ≡ b → became_shown row.part row.vp f (post row f) k ≡ false
      none_new k true here =
          subst (λ k. became_shown row.part row.vp f (post row f) k ≡ false) (sym (eqb-true k row.sint here))
          (ap (λ b. list_any is_shown (mail_at at_row (post row f).mail) && not b) some ∙ and-false (list_any is_shown (mail_at at_row (post row f).mail)))
      none_new k false off = still_shown row.part row.vp f (post row f) k (posted_apart (place row.part row.vp k) row (grind (arith, off)) f.mail)

      more : WaitsMore at_row f (post row f)
      more = record {
        behind = some;
        message = row;
        waits = waiting;
        last = posted_there row f.mail ∙ ap (λ b. cond b (rows ++ row ∷ []) (head_shown (rows ++ row ∷ []))) (any_last rows row waiting ∙ some);
      }

      named : IsSynic s f (post row f)
      named = record {
        shown = λ sint is. cc (no_bit sint);
        waiting = λ sint is. (let same : row.sint ≡ sint = cc in subst (λ sint. WaitsMore (place row.part row.vp sint) f (post row f)) same more);
        flag = λ change is. cc;
        raised = none_rings s f (post row f) refl (λ k. none_new k (k == row.sint) refl);
        pending = λ vector is. cc (none_raised vector);
        taken = λ vector is. cc;
        freed = λ port is. cc;
        left = λ sint message bit was gone. cc (no_bit sint);
      }

  -- and else the oldest is shown, and the SINT raises its vector
  module _ (low : row.sint < SINTS) (mask : ℕ) (bit : (sint : ℕ) → has_bit mask sint ≡ sint == row.sint) (v : VpRow) (is : get f.vp (row.part, row.vp) ≡ Some v) where
    abbrev told : Synic
    told = record (quiet row.part row.vp) { shown = mask; raised = raised v.registers row.sint no_vectors }

    pub post_shows : list_any is_shown rows ≡ false → Tells (variant.Synic told) f (post row f)
    post_shows none =
        row_told (variant.Synic told) row.part row.vp (row_raised did row.sint) f (post row f) refl (there f.vp row.part row.vp (row_raised did row.sint))
        (λ at off. posted_apart at row (grind (arith, bit at.sint)) f.mail) (λ w at sint flag _. refl)
        (λ w at vector off. (let same : v ≡ w = cc in grind (arith, vector_now vector, itself row.part row.vp))) named
        (ap (λ b. (b || false) || false) (some_bit mask row.sint (bit row.sint ∙ eq-eqb row.sint row.sint refl)))
      where
        vector_now : (vector : ℕ) → set.contains (row_raised did row.sint v).pending vector ≡ (set.contains told.raised vector || set.contains v.pending vector)
        vector_now vector =
            ap (λ b. set.contains (cond b (raised v.registers row.sint v.pending) v.pending) vector) (did_is ∙ ap not none)
            ∙ raised_both v.registers row.sint v.pending vector

        now : get (post row f).vp (row.part, row.vp) ≡ Some (row_raised did row.sint v)
        now = there_itself f.vp row.part row.vp (row_raised did row.sint) ∙ ap (option_map (row_raised did row.sint)) is

        shown_now : is_some (shown_at at_row (post row f).mail) ≡ true
        shown_now = found (mail_at at_row (post row f).mail) ∙ ap (list_any is_shown) (posted_there row f.mail) ∙ next_shows (rows ++ row ∷ []) ∙ some_last rows row

        -- the SINT shows a message and showed none, and no other one does
        rings_now : (k : ℕ) (b : Bool) → k == row.sint ≡ b → rings told f (post row f) k ≡ b
        rings_now k true here =
            subst (λ k. rings told f (post row f) k ≡ true) (sym (eqb-true k row.sint here))
            (ap (λ b. (b && not (list_any is_shown rows)) || false) (sym (found (mail_at at_row (post row f).mail)) ∙ shown_now) ∙ ap (λ b. not b || false) none)
        rings_now k false off = ap (λ b. b || false)
            (still_shown row.part row.vp f (post row f) k (posted_apart (place row.part row.vp k) row (grind (arith, off)) f.mail))

        named : IsSynic told f (post row f)
        named = record {
          shown = λ sint is same. (let clash : true ≡ false = sym shown_now
              ∙ ap is_some (sym (shown_of at_row mask bit (post row f).mail sint is) ∙ same ∙ shown_of at_row mask bit f.mail sint is) ∙ found rows ∙ none in cc);
          waiting = λ sint is. cc;
          flag = λ change is. cc;
          raised = vectors_one (rings told f (post row f)) v.registers row.sint SINTS low (λ k less. rings_now k (k == row.sint) refl)
              ∙ ap (λ r. vectors_of (rings told f (post row f)) (registers_of r) SINTS) (sym now);
          pending = λ vector there. ap (λ r. has_vector r vector) now ∙ vector_now vector ∙ ap (λ b. b || set.contains v.pending vector) there;
          taken = λ vector is. cc;
          freed = λ port is. cc;
          left = λ sint message is was gone. (let clash : true ≡ false = sym shown_now ∙ ap is_some (sym (shown_of at_row mask bit (post row f).mail sint is) ∙ gone) in cc);
        }
