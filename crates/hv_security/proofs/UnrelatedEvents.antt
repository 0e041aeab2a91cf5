-- What unrelated partitions do doesn't show.
use Rattle.std.proofs.Common.{◌≡◌, ℕ, ◌==◌, ◌&&◌, Bool, true, false, List, [], ◌∷◌, refl, sym, ap, ◌∙◌, eqb-true}
use Rattle.hv_policy.specs.Flat.{Flat}
use Rattle.hv_policy.specs.Mail.{Place}
use Rattle.hv_policy.specs.Step.{run_from, step}
use Rattle.hv_policy.specs.declared.event.Event.{Event}
use Rattle.hv_policy.specs.declared.need.Kin.TheVariants.{CallerOrChild}
use Rattle.hv_security.proofs.OtherRows.{both, nothing}
use Rattle.hv_security.proofs.AgreedReads.{kin_alike}
use Rattle.hv_security.proofs.Confining.{confined}
use Rattle.hv_security.proofs.Replies.{same_reply}
use Rattle.hv_security.specs.Agreed.{Agrees, AgreesOnAction}
use Rattle.hv_security.specs.Integrity.{IntegrityWithin, IsNoRelative, Reach, CallerAndChildren, AndPlace, AndMasks, reach_of}
use Rattle.hv_security.specs.Same.{HasSame, HasSameBut}
use Rattle.hv_security.specs.Unrelated.{AreUnrelated, IsUnrelated, ReachesPast}

-- what is the same but for a place of another partition is the same
same_elsewhere : (at : Place) (id : ℕ) (f g : Flat) → id == at.part ≡ false → HasSameBut at id f g → HasSame id f g
same_elsewhere at id f g off s = record {
  part = s.part;
  pages = s.pages;
  vps = λ vp. s.vps vp (ap (λ b. b && (vp == at.vp)) off);
  ports = s.ports;
  conns = s.conns;
  mail = λ vp sint. s.mail vp sint (ap (λ b. b && ((vp == at.vp) && (sint == at.sint))) off);
}

-- what is confined leaves a partition that is no relative, and that it doesn't reach
stays : (to : Reach) (caller id : ℕ) (f g : Flat) → IntegrityWithin to caller f g → IsNoRelative caller id f g → ReachesPast to id f → HasSame id f g
stays CallerAndChildren caller id f g c apart past = c id apart
stays (AndPlace at gain) caller id f g c apart past = same_elsewhere at id f g (by (id == at.part) refl) (c.0 id apart)
  where
    by : (b : Bool) → id == at.part ≡ b → b ≡ false
    by true is = absurd (past (eqb-true id at.part is))
    by false is = refl
stays (AndMasks top value) caller id f g c apart past = c.0 id apart past

module _ {A : Type 0} (f : Flat) (d : Event A) where
  agreed : (other : ℕ) → IsUnrelated d other f (step f d).0 → Agrees other f (step f d).0
  agreed other u = record {
    next = u.next;
    parents = u.parents;
    relatives = λ id own. stays (reach_of f d.by.part d.what) d.by.part id f (step f d).0 (confined f d) (u.apart id own) (u.past id own);
  }

-- what agrees with what agrees agrees
agreed_on : (other : ℕ) (f g h : Flat) → Agrees other f g → Agrees other g h → Agrees other f h
agreed_on other f g h a b = record {
  next = a.next ∙ b.next;
  parents = λ id. a.parents id ∙ b.parents id;
  relatives = λ id own.
      both id f g h (a.relatives id own) (b.relatives id (sym (kin_alike other f g a CallerOrChild id) ∙ own));
}

module _ {A : Type 0} (other : ℕ) where
  pub agreed_all : (events : List (Event A)) (f : Flat) → AreUnrelated events other f → Agrees other f (run_from f events).0
  agreed_all [] f u = record { next = refl; parents = λ id. refl; relatives = λ id own. nothing id f }
  agreed_all (d ∷ events) f u =
      agreed_on other f (step f d).0 (run_from (step f d).0 events).0 (agreed f d other u.0) (agreed_all events (step f d).0 u.1)

pub hidden : {A : Type 0} (f : Flat) (events : List (Event A)) (e : Event A) → AreUnrelated events e.by.part f → AgreesOnAction e.what e.by.part f (run_from f events).0
    → (step (run_from f events).0 e).1 ≡ (step f e).1
hidden f events e u n = sym (same_reply f (run_from f events).0 e (record { own = agreed_all e.by.part events f u; named = n }))
