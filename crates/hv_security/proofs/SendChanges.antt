-- What a post or a signal leaves as it was: all but what stands where it goes, of which nothing goes.
use Rattle.std.proofs.Common.{◌≡◌, ℕ, ◌+◌, ◌==◌, ◌&&◌, ◌||◌, not, Bool, true, false, cond, List, [], ◌∷◌, ◌++◌, Option, Some, None, inr, refl, sym, ap, subst, ◌∙◌, eqb-true, option_map, nat_cmp}
use Rattle.std.proofs.lemmas.Bool.{and_from, and_parts}
use Rattle.std.proofs.lemmas.List.Folds.{list_any-append}
use Rattle.std.specs.Cmp.{unsigned_tied}
use Rattle.std.specs.FinMap.{get}
use Rattle.std.specs.FinSet as set
use Rattle.std.specs.List.{list_any}
use Rattle.std.specs.Option.{option_map_or}
use Rattle.std.specs.Ordering.{eq_by_cmp}
use Rattle.hv_defs.specs.Flags.{pair_cmp}
use Rattle.hv_policy.proofs.Pairs.{pair_cmp_total, tied_pairs}
use Rattle.hv_policy.proofs.Places.{is_place_same, last_there, posted_apart, posted_there}
use Rattle.hv_policy.proofs.Rows.{get-with_vp}
use Rattle.hv_policy.specs.Aim.{ResolvedPort, flag_taker, is_same_birth, message_taker}
use Rattle.hv_policy.specs.Effect.{counted, post_at, post_to, row_raised, row_signalled, signal_at, signal_to, with_vp}
use Rattle.hv_policy.specs.Flat.{Flat, MailRow, VpRow}
use Rattle.hv_policy.specs.Mail.{Place, has_next, is_shown, is_some_row, mail_at, shown_next, stands_at}
use Rattle.hv_policy.specs.Met.{is_for_messages}
use Rattle.hv_policy.specs.Met as event
use Rattle.hv_security.proofs.OtherRows.{nothing, once_counted}
use Rattle.hv_security.proofs.SendsOnlyAdd.{flag_stays, flag_vectors, message_flags, message_vectors, other_flags}
use Rattle.hv_security.specs.Integrity.{IntegrityWithin, CallerAndChildren, AndPlace, aimed_message, aimed_place, reach_through, reach_to, takes_flag, takes_message}
use Rattle.hv_security.specs.Same.{Gain, GainsFlag, GainsMessage, HasSameBut, OneFlag, OneMessage, has_flag, is_at, is_place, place}

-- a change of the processor at a place, which leaves its registers and the flags of other SINTs
module _ (at : Place) (h : VpRow → VpRow) (registers : (row : VpRow) → row.registers ≡ (h row).registers)
    (flags : (row : VpRow) (sint flag : ℕ) → sint == at.sint ≡ false → set.contains row.flags (sint, flag) ≡ set.contains (h row).flags (sint, flag)) where
  tied_at : (id vp : ℕ) → eq_by_cmp pair_cmp (id, vp) (at.part, at.vp) ≡ is_at at id vp
  tied_at id vp = tied_pairs id vp at.part at.vp ∙ ap (λ b. (id == at.part) && b) (unsigned_tied vp at.vp)

  same_but : (f : Flat) (mail : List MailRow) (served id : ℕ) → ((vp sint : ℕ) → is_place at (place id vp sint) ≡ false → mail_at (place id vp sint) f.mail ≡ mail_at (place id vp sint) mail) →
      HasSameBut at id f (record f { vp = with_vp f.vp (at.part, at.vp) h; mail = mail; served = served })
  same_but f mail served id mails = record {
    part = refl;
    pages = λ _. refl;
    vps = λ vp off. sym (is vp ∙ ap (λ b. cond b (option_map h (get f.vp (at.part, at.vp))) (get f.vp (id, vp))) off);
    registers = λ vp. by_registers vp (is_at at id vp) refl ∙ sym (ap (option_map (λ row. row.registers)) (is vp));
    flags = λ vp sint flag off. by_flags vp sint flag off (is_at at id vp) refl ∙ sym (ap (λ row. has_flag row sint flag) (is vp));
    ports = λ _. refl;
    conns = λ _. refl;
    mail = mails;
  }
    where
      is : (vp : ℕ) → get (with_vp f.vp (at.part, at.vp) h) (id, vp) ≡ cond (is_at at id vp) (option_map h (get f.vp (at.part, at.vp))) (get f.vp (id, vp))
      is vp = get-with_vp f.vp (at.part, at.vp) h (id, vp) ∙ ap (λ b. cond b (option_map h (get f.vp (at.part, at.vp))) (get f.vp (id, vp))) (tied_at id vp)

      key_is : (vp : ℕ) → is_at at id vp ≡ true → get f.vp (id, vp) ≡ get f.vp (at.part, at.vp)
      key_is vp here =
          let parts = and_parts (id == at.part) (vp == at.vp) here in
          let p = eqb-true id at.part parts.0 in
          let v = eqb-true vp at.vp parts.1 in
          λ i. get f.vp (p i, v i)

      one_registers : (r : Option VpRow) → option_map (λ (row : VpRow). row.registers) r ≡ option_map (λ (row : VpRow). row.registers) (option_map h r)
      one_registers None = refl
      one_registers (Some row) = ap Some (registers row)

      by_registers : (vp : ℕ) (b : Bool) → is_at at id vp ≡ b → option_map (λ (row : VpRow). row.registers) (get f.vp (id, vp)) ≡ option_map (λ (row : VpRow). row.registers)
          (cond b (option_map h (get f.vp (at.part, at.vp))) (get f.vp (id, vp)))
      by_registers vp true here = ap (option_map (λ row. row.registers)) (key_is vp here) ∙ one_registers (get f.vp (at.part, at.vp))
      by_registers vp false off = refl

      one_flag : (sint flag : ℕ) → sint == at.sint ≡ false → (r : Option VpRow) → has_flag r sint flag ≡ has_flag (option_map h r) sint flag
      one_flag sint flag off None = refl
      one_flag sint flag off (Some row) = flags row sint flag off

      by_flags : (vp sint flag : ℕ) → is_place at (place id vp sint) ≡ false → (b : Bool) → is_at at id vp ≡ b → has_flag (get f.vp (id, vp)) sint flag ≡ has_flag
          (cond b (option_map h (get f.vp (at.part, at.vp))) (get f.vp (id, vp))) sint flag
      by_flags vp sint flag off true here =
          let parts = and_parts (id == at.part) (vp == at.vp) here in
          let other : sint == at.sint ≡ false = rw (parts.0, parts.1) at off in
          ap (λ row. has_flag row sint flag) (key_is vp here) ∙ one_flag sint flag other (get f.vp (at.part, at.vp))
      by_flags vp sint flag off false away = refl

-- what leads nowhere sends nothing
nothing_sent : (f : Flat) (caller : ℕ) → IntegrityWithin CallerAndChildren caller f (counted f)
nothing_sent f caller id apart = once_counted id f f (nothing id f)

-- a post raises where nothing was shown
unshown : (at : Place) (mail : List MailRow) (row : MailRow) → stands_at at row ≡ true → has_next at (mail ++ row ∷ []) ≡ true → list_any is_shown (mail_at at mail) ≡ false
unshown at mail row here next =
    none (list_any is_shown (mail_at at mail)) (list_any is_shown (row ∷ []))
    (ap not (sym (ap (list_any is_shown) (last_there at mail row true here) ∙ list_any-append is_shown (mail_at at mail) (row ∷ []))) ∙ (and_parts (not (list_any is_shown (mail_at at
    (mail ++ row ∷ [])))) (is_some_row (mail_at at (mail ++ row ∷ []))) next).0)
  where
    none : (a b : Bool) → not (a || b) ≡ true → a ≡ false
    none true b is = cc
    none false b is = refl

-- a message through a connection, at the processor that takes it
message_confined : (aim : ResolvedPort) (vp type : ℕ) (payload : List ℕ) (f : Flat) (caller : ℕ) → IntegrityWithin (AndPlace (aimed_place aim vp) (OneMessage (aimed_message type payload aim vp)))
    caller f (counted (post_at aim (Some vp) type payload f))
message_confined aim vp type payload f caller = (λ id apart. others id, gains)
  where
    at : Place
    at = aimed_place aim vp

    row : MailRow
    row = aimed_message type payload aim vp

    did : Bool
    did = has_next at (f.mail ++ row ∷ [])

    others : (id : ℕ) → HasSameBut at id f (counted (post_at aim (Some vp) type payload f))
    others id = same_but at (row_raised did at.sint) (λ _. refl) (λ _ _ _ _. refl) f (shown_next at (f.mail ++ row ∷ [])) (f.served + 1) id
        (λ vp sint off. sym (posted_apart (place id vp sint) row off f.mail))

    gains : GainsMessage at row f (counted (post_at aim (Some vp) type payload f))
    gains = record {
      mail = inr (posted_there row f.mail);
      flags = message_flags f (at.part, at.vp) at.sint did;
      vectors = message_vectors f (at.part, at.vp) at.sint did (list_any is_shown (mail_at at f.mail) ≡ false) (unshown at f.mail row (is_place_same at));
    }

pub posted_confined : (aim : Option ResolvedPort) (type : ℕ) (payload : List ℕ) (f : Flat) (caller : ℕ) → option_map_or is_same_birth aim false ≡ true → option_map_or is_for_messages aim false ≡ true
    → IntegrityWithin (reach_through takes_message (message_taker f) (λ aim vp. OneMessage (aimed_message type payload aim vp)) aim) caller f (counted (post_to aim type payload f))
posted_confined None type payload f caller born takes = cc
posted_confined (Some aim) type payload f caller born takes =
    subst (λ b. IntegrityWithin (cond b (reach_to gain aim (message_taker f aim)) CallerAndChildren) caller f (counted (post_to (Some aim) type payload f))) (sym (and_from _ _ born takes))
    (by (message_taker f aim))
  where
    gain : ℕ → Gain
    gain vp = OneMessage (aimed_message type payload aim vp)

    by : (vp : Option ℕ) → IntegrityWithin (reach_to gain aim vp) caller f (counted (post_at aim vp type payload f))
    by None = nothing_sent f caller
    by (Some vp) = message_confined aim vp type payload f caller

-- a flag through a connection, at the processor that takes it
flag_confined : (aim : ResolvedPort) (vp flag : ℕ) (f : Flat) (caller : ℕ) → IntegrityWithin (AndPlace (aimed_place aim vp) (OneFlag (aim.port.base + flag))) caller f
    (counted (signal_at aim (Some vp) flag f))
flag_confined aim vp flag f caller = (λ id apart. others id, gains)
  where
    signalled : ℕ
    signalled = aim.port.base + flag

    elsewhere : (row : VpRow) (sint n : ℕ) → sint == aim.port.sint ≡ false → set.contains row.flags (sint, n) ≡ set.contains (set.insert row.flags (aim.port.sint, signalled)) (sint, n)
    elsewhere row sint n off =
        sym (set.contains-insert pair_cmp_total row.flags (aim.port.sint, signalled) (sint, n)
        ∙ ap (λ b. b || set.contains row.flags (sint, n)) (tied_pairs sint n aim.port.sint signalled ∙ ap (λ b. b && eq_by_cmp nat_cmp n signalled) off))

    others : (id : ℕ) → HasSameBut (aimed_place aim vp) id f (counted (signal_at aim (Some vp) flag f))
    others id = same_but (aimed_place aim vp) (row_signalled aim.port.sint signalled) (λ _. refl) elsewhere f f.mail (f.served + 1) id (λ _ _ _. refl)

    gains : GainsFlag (aimed_place aim vp) signalled f (counted (signal_at aim (Some vp) flag f))
    gains = record {
      mail = refl;
      others = other_flags f (aim.conn.part, vp) aim.port.sint signalled;
      stays = flag_stays f (aim.conn.part, vp) aim.port.sint signalled;
      vectors = flag_vectors f (aim.conn.part, vp) aim.port.sint signalled;
    }

pub signalled_confined : (aim : Option ResolvedPort) (flag : ℕ) (f : Flat) (caller : ℕ) → option_map_or is_same_birth aim false ≡ true → option_map_or (event.has_flag flag) aim false ≡ true
    → IntegrityWithin (reach_through (takes_flag flag) (flag_taker f) (λ aim vp. OneFlag (aim.port.base + flag)) aim) caller f (counted (signal_to aim flag f))
signalled_confined None flag f caller born takes = cc
signalled_confined (Some aim) flag f caller born takes =
    subst (λ b. IntegrityWithin (cond b (reach_to gain aim (flag_taker f aim)) CallerAndChildren) caller f (counted (signal_to (Some aim) flag f))) (sym (and_from _ _ born takes))
    (by (flag_taker f aim))
  where
    gain : ℕ → Gain
    gain vp = OneFlag (aim.port.base + flag)

    by : (vp : Option ℕ) → IntegrityWithin (reach_to gain aim vp) caller f (counted (signal_at aim vp flag f))
    by None = nothing_sent f caller
    by (Some vp) = flag_confined aim vp flag f caller
