-- Messages that become shown at SINTs, and the write of EOM.
use Rattle.std.proofs.Common.{◌≡◌, ℕ, zero, suc, ◌+◌, ◌<◌, ◌≤◌, Bool, false, Result, Ok, Err, inl, inr, refl, sym, ap, ◌∙◌, arith, add-one, ne_eqb, OnErr, nat_cmp}
use Rattle.std.proofs.lemmas.Bool.{cases_eq}
use Rattle.std.specs.FinMap.{FinMap}
use Rattle.hv_defs.specs.Registers.{after_write, kept, row_of}
use Rattle.hv_defs.specs.declared.registers.RegFault.{RegFault}
use Rattle.hv_defs.specs.declared.registers.TheConstants.{EOM}
use Rattle.hv_mail.proofs.PartitionRelation.{at-all_next}
use Rattle.hv_mail.specs.Mail.{Mail, all_next, at, has_next, with_at, with_next}
use Rattle.hv_vp.specs.Registers.{answer}
use Rattle.hv_vp.specs.Vp.{VpState, raised_if, shown_each, written}

-- Show at the first SINTs shows in the mail what it shows there
pub mail-shown_each : (n : ℕ) (v : VpState) → (shown_each n v).mail ≡ all_next n v.mail
unfolding shown_each all_next
mail-shown_each zero v = refl
mail-shown_each (suc n) v = ap (λ m. with_at m n (with_next (at m n))) (mail-shown_each n v)

-- all messages are shown before any SINT raises its vector
none_raised : (v : VpState) (mail : Mail) → record v { mail = mail } ≡ record (shown_each 0 v) { mail = mail }
unfolding shown_each
none_raised v mail = refl

pub first_raised : (n : ℕ) (first before : VpState) (mail : Mail) → before ≡ first → mail ≡ all_next n before.mail → record before { mail = mail } ≡ record (shown_each 0 first)
    { mail = all_next n first.mail }
first_raised n first before mail is moved = rw (moved, is) (none_raised first (all_next n first.mail))

-- then the next one does, if a message became shown there
pub next_raised : (sint : ℕ) (first v : VpState) (mail : Mail) (did : Bool) → v ≡ record (shown_each sint first) { mail = mail } → did ≡ has_next (at first.mail sint)
    → raised_if did sint v ≡ record (shown_each (sint + 1) first) { mail = mail }
unfolding shown_each
next_raised sint first v mail did is same =
    let here : has_next (at first.mail sint) ≡ has_next (at (shown_each sint first).mail sint) =
    ap has_next (sym (at-all_next sint first.mail sint (omega arith)) ∙ ap (λ m. at m sint) (sym (mail-shown_each sint first))) in
    rw (is, same, here, add-one) refl

-- and those at which none became shown raise none
pub none_raised_from : (n sint : ℕ) (first v : VpState) (mail : Mail) → v ≡ record (shown_each sint first) { mail = mail }
    → ((k : ℕ) → sint ≤ k → k < sint + n → has_next (at first.mail k) ≡ false) → v ≡ record (shown_each (sint + n) first) { mail = mail }
none_raised_from zero sint first v mail is none = is ∙ ap (λ m. record (shown_each m first) { mail = mail }) (omega arith)
none_raised_from (suc n) sint first v mail is none =
    let next : v ≡ record (shown_each (sint + 1) first) { mail = mail } = next_raised sint first v mail false is (sym (none sint (omega arith) (omega arith))) in
    none_raised_from n (sint + 1) first v mail next (λ k from to. none k (omega arith) (omega arith))
    ∙ ap (λ m. record (shown_each m first) { mail = mail }) (omega arith)

-- and after the last it is Show at each
pub all_raised : (n : ℕ) (v : VpState) → record (shown_each n v) { mail = all_next n v.mail } ≡ shown_each n v
all_raised n v = ap (λ m. record (shown_each n v) { mail = m }) (sym (mail-shown_each n v))

-- EOM takes each value
eom-kept : (value : ℕ) → kept (row_of EOM) value ≡ Ok 0
unfolding row_of
eom-kept value = refl

-- so a write that isn't taken ends no message
pub written-refused : (name value : ℕ) (fault : RegFault) (v : VpState) → answer (kept (row_of name) value) ≡ Err fault
    → record v { registers = after_write v.registers name (kept (row_of name) value) } ≡ written name value v
written-refused name value fault v refused =
    elim (cases_eq name EOM) [
      | inl same ↦
          let taken : answer (kept (row_of EOM) value) ≡ Ok tt = ap answer (eom-kept value) in
          let not : answer (kept (row_of EOM) value) ≡ Err fault = ap (λ n. answer (kept (row_of n) value)) (sym same) ∙ refused in
          cc
      | inr apart ↦ rw (ne_eqb name EOM apart) refl
    ]

-- and changes nothing
kept_err : (registers : FinMap nat_cmp ℕ) (name : ℕ) (k : Result ℕ RegFault) (fault : RegFault) → answer k ≡ Err fault → after_write registers name k ≡ registers
kept_err registers name (Ok value) fault refused = cc
kept_err registers name (Err why) fault refused = refl

on_err : {T E P : Type 0} (r : Result T E) → P → OnErr r P
on_err (Ok x) p = tt
on_err (Err e) p = p

pub unchanged : (name value : ℕ) (fault : RegFault) (v : VpState) (r : Result (Unit {0}) RegFault) → answer (kept (row_of name) value) ≡ Err fault
    → OnErr r (record v { registers = after_write v.registers name (kept (row_of name) value) } ≡ v)
unchanged name value fault v r refused = on_err r (ap (λ registers. record v { registers = registers }) (kept_err v.registers name (kept (row_of name) value) fault refused))
