-- Confinement, carried over to any state with the same rows.
use Rattle.std.proofs.Common.{◌≡◌, ℕ, ◌==◌, ◌||◌, Option, inl, inr, sym, ap, subst, ◌∙◌, option_map}
use Rattle.std.specs.FinMap.{get}
use Rattle.hv_policy.specs.Count.{is_parent}
use Rattle.hv_policy.specs.Flat.{Flat, VpRow}
use Rattle.hv_policy.specs.Mail.{Place, mail_at}
use Rattle.hv_policy.specs.Met.{test_row}
use Rattle.hv_policy.specs.Step.{step}
use Rattle.hv_policy.specs.declared.event.Event.{Event}
use Rattle.hv_privs.specs.declared.Privileges.{Privileges}
use Rattle.hv_security.proofs.OtherRows.{both}
use Rattle.hv_security.proofs.Confining.{confined, unchanged}
use Rattle.hv_security.specs.Integrity.{Integrity, IntegrityWithin, IsNoRelative, Reach, CallerAndChildren, AndPlace, AndMasks, reach_of}
use Rattle.hv_security.specs.Same.{Gain, HasSame, HasSameBut, HasSameButMask, OneFlag, OneMessage, OnlyGains, RaisesOwn, has_flag, is_relative}

module _ (g h : Flat) (same : (id : ℕ) → HasSame id g h) where
  relative_same : (caller id : ℕ) → is_relative g caller id ≡ is_relative h caller id
  relative_same caller id = ap (λ row. (id == caller) || test_row (λ row. is_parent caller row.parent) row) (same id).part

  but_same : (at : Place) (id : ℕ) (f : Flat) → HasSameBut at id f g → HasSameBut at id f h
  but_same at id f s = record {
    part = s.part ∙ (same id).part;
    pages = λ page. s.pages page ∙ (same id).pages page;
    vps = λ vp off. s.vps vp off ∙ (same id).vps vp;
    registers = λ vp. s.registers vp ∙ ap (option_map (λ (row : VpRow). row.registers)) ((same id).vps vp);
    flags = λ vp sint flag off. s.flags vp sint flag off ∙ ap (λ row. has_flag row sint flag) ((same id).vps vp);
    ports = λ port. s.ports port ∙ (same id).ports port;
    conns = λ connection. s.conns connection ∙ (same id).conns connection;
    mail = λ vp sint off. s.mail vp sint off ∙ (same id).mail vp sint;
  }

  raises_same : (may_raise : Type 0) (sint : ℕ) (before : Option VpRow) (key : ℕ × ℕ) → RaisesOwn may_raise sint before (get g.vp key) → RaisesOwn may_raise sint before (get h.vp key)
  raises_same may_raise sint before key s = subst (RaisesOwn may_raise sint before) ((same key.0).vps key.1) s

  gains_same : (at : Place) (gain : Gain) (f : Flat) → OnlyGains at gain f g → OnlyGains at gain f h
  gains_same at (OneMessage message) f s = record {
    mail = elim s.mail [ inl is ↦ inl (mails ∙ is) | inr is ↦ inr (mails ∙ is) ];
    flags = λ sint flag. s.flags sint flag ∙ ap (λ row. has_flag row sint flag) ((same at.part).vps at.vp);
    vectors = raises_same _ at.sint (get f.vp (at.part, at.vp)) (at.part, at.vp) s.vectors;
  }
    where
      mails : mail_at at h.mail ≡ mail_at at g.mail
      mails = sym ((same at.part).mail at.vp at.sint)
  gains_same at (OneFlag flag) f s = record {
    mail = sym ((same at.part).mail at.vp at.sint) ∙ s.mail;
    others = λ sint other off. s.others sint other off ∙ ap (λ row. has_flag row sint other) ((same at.part).vps at.vp);
    stays = λ is. sym (ap (λ row. has_flag row at.sint flag) ((same at.part).vps at.vp)) ∙ s.stays is;
    vectors = raises_same _ at.sint (get f.vp (at.part, at.vp)) (at.part, at.vp) s.vectors;
  }

  mask_same : (value : Privileges) (id : ℕ) (f : Flat) → HasSameButMask value id f g → HasSameButMask value id f h
  mask_same value id f s = record {
    part = elim s.part [ inl is ↦ inl (is ∙ (same id).part) | inr is ↦ inr (is ∙ (same id).part) ];
    pages = λ page. s.pages page ∙ (same id).pages page;
    vps = λ vp. s.vps vp ∙ (same id).vps vp;
    ports = λ port. s.ports port ∙ (same id).ports port;
    conns = λ connection. s.conns connection ∙ (same id).conns connection;
    mail = λ vp sint. s.mail vp sint ∙ (same id).mail vp sint;
  }

  still_apart : (caller id : ℕ) (f : Flat) → IsNoRelative caller id f h → IsNoRelative caller id f g
  still_apart caller id f apart = record { before = apart.before; after = relative_same caller id ∙ apart.after }

  carried_to : (to : Reach) (caller : ℕ) (f : Flat) → IntegrityWithin to caller f g → IntegrityWithin to caller f h
  carried_to CallerAndChildren caller f s = λ id apart. both id f g h (s id (still_apart caller id f apart)) (same id)
  carried_to (AndPlace at gain) caller f s = (λ id apart. but_same at id f (s.0 id (still_apart caller id f apart)), gains_same at gain f s.1)
  carried_to (AndMasks top value) caller f s =
      (λ id apart outside. both id f g h (s.0 id (still_apart caller id f apart) outside) (same id), λ id apart. mask_same value id f (s.1 id (still_apart caller id f apart)))

-- what has the same rows as a step leaves
pub step_carried : {A : Type 0} (f h : Flat) (e : Event A) → ((id : ℕ) → HasSame id (step f e).0 h) → Integrity e f h
step_carried f h e same = carried_to (step f e).0 h same (reach_of f e.by.part e.what) e.by.part f (confined f e)

-- or as there were
pub nothing_carried : {A : Type 0} (f h : Flat) (e : Event A) → ((id : ℕ) → HasSame id f h) → Integrity e f h
nothing_carried f h e same = carried_to f h same (reach_of f e.by.part e.what) e.by.part f (unchanged (reach_of f e.by.part e.what) e.by.part f)
