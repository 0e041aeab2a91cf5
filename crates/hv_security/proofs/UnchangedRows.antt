-- What messages and writes leave of the rows.
use Rattle.std.proofs.Common.{◌≡◌, ℕ, zero, suc, ◌==◌, Bool, true, false, cond, List, Option, Some, None, refl, sym, ap, ◌∙◌, option_map}
use Rattle.std.specs.Cmp.{Equal-is}
use Rattle.std.specs.FinMap.{FinMap, get}
use Rattle.std.specs.FinSet as set
use Rattle.std.specs.Option.{option_map_or}
use Rattle.std.specs.Ordering.{eq_by_cmp}
use Rattle.hv_defs.specs.Flags.{pair_cmp}
use Rattle.hv_defs.specs.declared.registers.TheConstants.{EOM}
use Rattle.hv_defs.specs.declared.sizes.TheConstants.{SINTS}
use Rattle.hv_policy.proofs.Pairs.{pair_cmp_exact}
use Rattle.hv_policy.proofs.Rows.{get-with_vp}
use Rattle.hv_policy.specs.Aim.{ResolvedPort, flag_taker, is_ready_for_messages, message_taker, on_vp}
use Rattle.hv_policy.specs.Effect.{end_if, post_at, post_to, row_raised, show_each, signal_at, signal_to, with_vp, write_msr, write_register, written}
use Rattle.hv_policy.specs.Flat.{Flat, VpRow}
use Rattle.hv_policy.specs.Mail.{has_next}
use Rattle.hv_security.specs.Operation.{Operation}
use Rattle.hv_security.specs.Justified.{WerePosted}
use Rattle.hv_security.proofs.RowsOneEntryLater.{mail_shown}

-- a test of a processor's row, which fails where there is none
abbrev pub test_vp : (VpRow → Bool) → Option VpRow → Bool
test_vp test row = option_map_or test row false

-- whether a flag of a SINT is set, of processors
abbrev pub set_in : FinMap pair_cmp VpRow → ℕ → ℕ → ℕ → ℕ → Bool
set_in vps id vp sint flag = test_vp (λ row. set.contains row.flags (sint, flag)) (get vps (id, vp))

-- the key of the same row
pub tied : (a b : ℕ × ℕ) → eq_by_cmp pair_cmp a b ≡ true → a ≡ b
tied a b h = pair_cmp_exact a b ((Equal-is (pair_cmp a b)).0 h)

-- a change of a processor that keeps its flags
pub set_kept : (vps : FinMap pair_cmp VpRow) (key : ℕ × ℕ) (g : VpRow → VpRow) → ((row : VpRow) → (g row).flags ≡ row.flags) → (id vp sint flag : ℕ) → set_in (with_vp vps key g) id vp sint flag ≡
    set_in vps id vp sint flag
set_kept vps key g keeps id vp sint flag = ap (test_vp (λ row. set.contains row.flags (sint, flag))) (get-with_vp vps key g (id, vp)) ∙ by (eq_by_cmp pair_cmp (id, vp) key) refl
  where
    same : (row : Option VpRow) → test_vp (λ row. set.contains row.flags (sint, flag)) (option_map g row) ≡ test_vp (λ row. set.contains row.flags (sint, flag)) row
    same None = refl
    same (Some row) = ap (λ flags. set.contains flags (sint, flag)) (keeps row)

    by : (b : Bool) → eq_by_cmp pair_cmp (id, vp) key ≡ b → test_vp (λ row. set.contains row.flags (sint, flag)) (cond b (option_map g (get vps key)) (get vps (id, vp))) ≡ set_in vps id vp sint flag
    by true is = same (get vps key) ∙ ap (λ k. test_vp (λ row. set.contains row.flags (sint, flag)) (get vps k)) (sym (tied (id, vp) key is))
    by false is = refl

-- what a state keeps where messages are shown, and registers written: its ports, connections and set flags, and of each
-- message where it came from
pub record Keeps (f g : Flat) : Type 0 where
  pub port : g.port ≡ f.port
  pub conn : g.conn ≡ f.conn
  pub flags : (id vp sint flag : ℕ) → set_in g.vp id vp sint flag ≡ set_in f.vp id vp sint flag
  pub mail : (states : ℕ → Flat) (operations : List Operation) (n : ℕ) → WerePosted states operations n f.mail → WerePosted states operations n g.mail

keeps_all : (f : Flat) → Keeps f f
keeps_all f = record { port = refl; conn = refl; flags = λ id vp sint flag. refl; mail = λ states operations n were. were }

shown_keeps : (part vp n : ℕ) (f : Flat) → Keeps f (show_each part vp n f)
unfolding show_each
shown_keeps part vp zero f = keeps_all f
shown_keeps part vp (suc n) f =
    let rest = shown_keeps part vp n f in
    let g : Flat = show_each part vp n f in
    record {
      port = rest.port;
      conn = rest.conn;
      flags = λ id index sint flag. (set_kept g.vp (part, vp) (row_raised (has_next (record { part = part; vp = vp; sint = n }) g.mail) n) (λ row. refl) id index sint flag ∙ rest.flags id index sint
          flag);
      mail = λ states operations from were. mail_shown states operations (record { part = part; vp = vp; sint = n }) g.mail from (rest.mail states operations from were);
    }

ended_keeps : (is : Bool) (part vp : ℕ) (f : Flat) → Keeps f (end_if is part vp f)
ended_keeps false part vp f = keeps_all f
ended_keeps true part vp f = by (on_vp f (part, vp) is_ready_for_messages)
  where
    by : (b : Bool) → Keeps f (cond b (show_each part vp SINTS f) f)
    by true = shown_keeps part vp SINTS f
    by false = keeps_all f

pub register_keeps : (part vp name value : ℕ) (f : Flat) → Keeps f (write_register part vp name value f)
register_keeps part vp name value f =
    let after = ended_keeps (name == EOM) part vp (record f { vp = with_vp f.vp (part, vp) (written name value) }) in
    record {
      port = after.port;
      conn = after.conn;
      flags = λ id index sint flag. (after.flags id index sint flag ∙ set_kept f.vp (part, vp) (written name value) (λ row. refl) id index sint flag);
      mail = after.mail;
    }

pub msr_keeps : (part vp : ℕ) (name : Option ℕ) (value : ℕ) (f : Flat) → Keeps f (write_msr part vp name value f)
msr_keeps part vp None value f = keeps_all f
msr_keeps part vp (Some name) value f = register_keeps part vp name value f

-- a post and a signal leave the ports and connections
pub post_port : (aim : Option ResolvedPort) (type : ℕ) (payload : List ℕ) (f : Flat) → (post_to aim type payload f).port ≡ f.port
post_port None type payload f = refl
post_port (Some aim) type payload f = by (message_taker f aim)
  where
    by : (vp : Option ℕ) → (post_at aim vp type payload f).port ≡ f.port
    by None = refl
    by (Some vp) = refl

pub post_conn : (aim : Option ResolvedPort) (type : ℕ) (payload : List ℕ) (f : Flat) → (post_to aim type payload f).conn ≡ f.conn
post_conn None type payload f = refl
post_conn (Some aim) type payload f = by (message_taker f aim)
  where
    by : (vp : Option ℕ) → (post_at aim vp type payload f).conn ≡ f.conn
    by None = refl
    by (Some vp) = refl

pub post_flags : (aim : Option ResolvedPort) (type : ℕ) (payload : List ℕ) (f : Flat) (id vp sint flag : ℕ) → set_in (post_to aim type payload f).vp id vp sint flag ≡ set_in f.vp id vp sint flag
post_flags None type payload f id vp sint flag = refl
post_flags (Some aim) type payload f id vp sint flag = by (message_taker f aim)
  where
    by : (at : Option ℕ) → set_in (post_at aim at type payload f).vp id vp sint flag ≡ set_in f.vp id vp sint flag
    by None = refl
    by (Some at) = set_kept f.vp _ (row_raised _ _) (λ row. refl) id vp sint flag

pub signal_port : (aim : Option ResolvedPort) (flag : ℕ) (f : Flat) → (signal_to aim flag f).port ≡ f.port
signal_port None flag f = refl
signal_port (Some aim) flag f = by (flag_taker f aim)
  where
    by : (vp : Option ℕ) → (signal_at aim vp flag f).port ≡ f.port
    by None = refl
    by (Some vp) = refl

pub signal_conn : (aim : Option ResolvedPort) (flag : ℕ) (f : Flat) → (signal_to aim flag f).conn ≡ f.conn
signal_conn None flag f = refl
signal_conn (Some aim) flag f = by (flag_taker f aim)
  where
    by : (vp : Option ℕ) → (signal_at aim vp flag f).conn ≡ f.conn
    by None = refl
    by (Some vp) = refl

pub signal_mail : (aim : Option ResolvedPort) (flag : ℕ) (f : Flat) → (signal_to aim flag f).mail ≡ f.mail
signal_mail None flag f = refl
signal_mail (Some aim) flag f = by (flag_taker f aim)
  where
    by : (vp : Option ℕ) → (signal_at aim vp flag f).mail ≡ f.mail
    by None = refl
    by (Some vp) = refl
