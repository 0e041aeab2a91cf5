-- What a message that ends, or is posted, leaves: the partitions, the connections, the next id and the count of served events.
use Rattle.std.proofs.Common.{◌≡◌, ℕ, zero, suc, ◌==◌, Bool, true, false, List, Option, Some, None, refl}
use Rattle.hv_defs.specs.declared.registers.TheConstants.{EOM}
use Rattle.hv_defs.specs.declared.sizes.TheConstants.{SINTS}
use Rattle.hv_policy.specs.Aim.{ResolvedPort, flag_taker, is_ready_for_messages, message_taker, on_vp}
use Rattle.hv_policy.specs.Effect.{end_if, post_at, post_to, show_each, signal_at, signal_to, with_vp, write_msr, write_register, written}
use Rattle.hv_policy.specs.Flat.{Flat}

-- two states have the same of them
pub record AreCounted (f g : Flat) : Type 0 where
  pub part : g.part ≡ f.part
  pub conn : g.conn ≡ f.conn
  pub next : g.next ≡ f.next
  pub served : g.served ≡ f.served

shown_counted : (part vp n : ℕ) (f : Flat) → AreCounted f (show_each part vp n f)
unfolding show_each
shown_counted part vp zero f = record { part = refl; conn = refl; next = refl; served = refl }
shown_counted part vp (suc n) f = let rest = shown_counted part vp n f in record { part = rest.part; conn = rest.conn; next = rest.next; served = rest.served }

ended_counted : (is : Bool) (part vp : ℕ) (f : Flat) → AreCounted f (end_if is part vp f)
ended_counted false part vp f = record { part = refl; conn = refl; next = refl; served = refl }
ended_counted true part vp f = by (on_vp f (part, vp) is_ready_for_messages) refl
  where
    by : (b : Bool) → on_vp f (part, vp) is_ready_for_messages ≡ b → AreCounted f (end_if true part vp f)
    by true is = rw is (shown_counted part vp SINTS f)
    by false is = rw is (record { part = refl; conn = refl; next = refl; served = refl })

pub register_counted : (part vp name value : ℕ) (f : Flat) → AreCounted f (write_register part vp name value f)
register_counted part vp name value f =
    let after = ended_counted (name == EOM) part vp (record f { vp = with_vp f.vp (part, vp) (written name value) }) in
    record { part = after.part; conn = after.conn; next = after.next; served = after.served }

pub msr_counted : (part vp : ℕ) (name : Option ℕ) (value : ℕ) (f : Flat) → AreCounted f (write_msr part vp name value f)
msr_counted part vp None value f = record { part = refl; conn = refl; next = refl; served = refl }
msr_counted part vp (Some name) value f = register_counted part vp name value f

pub write_next_is : (part vp : ℕ) (name : Option ℕ) (value : ℕ) (f : Flat) → (write_msr part vp name value f).next ≡ f.next
write_next_is part vp name value f = (msr_counted part vp name value f).next

pub posted_counted : (aim : Option ResolvedPort) (type : ℕ) (payload : List ℕ) (f : Flat) → AreCounted f (post_to aim type payload f)
posted_counted None type payload f = record { part = refl; conn = refl; next = refl; served = refl }
posted_counted (Some aim) type payload f = by (message_taker f aim)
  where
    by : (vp : Option ℕ) → AreCounted f (post_at aim vp type payload f)
    by None = record { part = refl; conn = refl; next = refl; served = refl }
    by (Some vp) = record { part = refl; conn = refl; next = refl; served = refl }

pub signalled_counted : (aim : Option ResolvedPort) (flag : ℕ) (f : Flat) → AreCounted f (signal_to aim flag f)
signalled_counted None flag f = record { part = refl; conn = refl; next = refl; served = refl }
signalled_counted (Some aim) flag f = by (flag_taker f aim)
  where
    by : (vp : Option ℕ) → AreCounted f (signal_at aim vp flag f)
    by None = record { part = refl; conn = refl; next = refl; served = refl }
    by (Some vp) = record { part = refl; conn = refl; next = refl; served = refl }
