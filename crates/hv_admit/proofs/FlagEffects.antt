-- What a signal and a cleared flag tell.
use Rattle.std.proofs.Math.Bool.{and-false, and-true}
use Rattle.std.proofs.Common.{◌≡◌, ℕ, ◌<◌, ◌==◌, ◌&&◌, ◌||◌, not, Bool, true, false, cond, Some, refl, sym, ap, subst, ◌∙◌, option_map, arith}
use Rattle.std.specs.FinMap.{get}
use Rattle.std.specs.FinSet as set
use Rattle.hv_policy.specs.Reading.{has_flag, has_vector}
use Rattle.hv_defs.specs.Vectors.{VectorSet, raised}
use Rattle.hv_defs.specs.declared.sizes.TheConstants.{SINTS}
use Rattle.hv_policy.proofs.Pairs.{pair_cmp_total}
use Rattle.hv_policy.specs.Effect.{row_signalled, with_vp}
use Rattle.hv_policy.specs.Flat.{Flat, VpRow}
use Rattle.hv_admit.proofs.ProcessorChange.{itself, moved, no_bit, no_vectors, none_raised, pair_tied, raised_both, row_told, there, there_itself}
use Rattle.hv_admit.proofs.RaisedVectors.{still_shown, vectors_none, vectors_one, vectors_same}
use Rattle.hv_admit.specs.Effect.{IsSynic, IsTurned, Tells, quiet, rings}
use Rattle.hv_admit.specs.Raised.{registers_of, vectors_of}
use Rattle.hv_admit.specs.declared.effect.Effect.TheVariants as variant
use Rattle.hv_admit.specs.declared.effect.FlagChange.{FlagChange}
use Rattle.hv_admit.specs.declared.effect.Synic.{Synic}

module _ (part vp sint flag : ℕ) (f : Flat) (v : VpRow) (is : get f.vp (part, vp) ≡ Some v) where
  -- a change that gives the flag a value, raises vectors and leaves all else
  module _ (value : Bool) (vectors : VectorSet) (h : VpRow → VpRow)
      (flags_now : (s n : ℕ) → set.contains (h v).flags (s, n) ≡ cond ((s == sint) && (n == flag)) value (set.contains v.flags (s, n)))
      (vectors_now : (vector : ℕ) → set.contains (h v).pending vector ≡ (set.contains vectors vector || set.contains v.pending vector)) where
    abbrev change : FlagChange
    change = record { sint = sint; flag = flag; is_set = value }

    abbrev turning : Synic
    turning = record (quiet part vp) { flag = Some change; raised = vectors }

    abbrev changed : Flat
    changed = record f { vp = with_vp f.vp (part, vp) h }

    now : get changed.vp (part, vp) ≡ Some (h v)
    now = there_itself f.vp part vp h ∙ ap (option_map h) is

    again : set.contains v.flags (sint, flag) ≡ value → ((vector : ℕ) → set.contains vectors vector ≡ false) → Tells variant.Nothing f changed
    again already none =
        row_told variant.Nothing part vp h f changed refl (there f.vp part vp h) (λ at _. refl)
        (λ w at s n _. (let same : v ≡ w = cc in grind (arith, flags_now s n, moved (λ s n. set.contains v.flags (s, n)) s n sint flag)))
        (λ w at vector _. (let same : v ≡ w = cc in grind (arith, vectors_now vector, none vector))) tt tt

    turns : (h v).registers ≡ v.registers → vectors ≡ vectors_of (λ k. (k == sint) && value) v.registers SINTS → set.contains v.flags (sint, flag) ≡ not value
        → Tells (variant.Synic turning) f changed
    turns registers its other =
        row_told (variant.Synic turning) part vp h f changed refl (there f.vp part vp h) (λ at _. refl)
        (λ w at s n off. (let same : v ≡ w = cc in grind (arith, flags_now s n, itself part vp)))
        (λ w at vector off. (let same : v ≡ w = cc in grind (arith, vectors_now vector, itself part vp))) named refl
      where
        turned : IsTurned turning change f changed
        turned = record {
          before = ap (λ r. has_flag r sint flag) is ∙ other;
          now = ap (λ r. has_flag r sint flag) now ∙ flags_now sint flag ∙ ap (λ b. cond b value (set.contains v.flags (sint, flag))) (itself sint flag);
        }

        named : IsSynic turning f changed
        named = record {
          shown = λ s h. cc (no_bit s);
          waiting = λ s h. cc;
          flag = λ other h. (let same : change ≡ other = cc in subst (λ change. IsTurned turning change f changed) same turned);
          raised = its ∙ vectors_same (λ k. (k == sint) && value) (rings turning f changed) v.registers SINTS
              (λ k less. sym (ap (λ b. b || ((k == sint) && value)) (still_shown part vp f changed k refl)))
              ∙ ap (λ registers. vectors_of (rings turning f changed) registers SINTS) (sym (ap registers_of now ∙ registers));
          pending = λ vector h. ap (λ r. has_vector r vector) now ∙ vectors_now vector ∙ ap (λ b. b || set.contains v.pending vector) h;
          taken = λ vector h. cc;
          freed = λ port h. cc;
          left = λ s message h was gone. cc (no_bit s);
        }

  -- a signal sets the flag
  abbrev signalled : Flat
  signalled = record f { vp = with_vp f.vp (part, vp) (row_signalled sint flag) }

  signal_flags : (s n : ℕ) → set.contains (set.insert v.flags (sint, flag)) (s, n) ≡ cond ((s == sint) && (n == flag)) true (set.contains v.flags (s, n))
  signal_flags s n = grind (arith, set.contains-insert pair_cmp_total v.flags (sint, flag) (s, n), pair_tied s n sint flag)

  pub signal_again : set.contains v.flags (sint, flag) ≡ true → Tells variant.Nothing f signalled
  signal_again set_already =
      again true no_vectors (row_signalled sint flag) signal_flags
      (λ vector. ap (λ b. set.contains (cond (not b) (raised v.registers sint v.pending) v.pending) vector) set_already ∙ sym (ap (λ b. b || set.contains v.pending vector) (none_raised vector)))
      set_already none_raised

  -- and raises the SINT's vector where the flag was clear
  abbrev told : Synic
  told = record (quiet part vp) { flag = Some (record { sint = sint; flag = flag; is_set = true }); raised = raised v.registers sint no_vectors }

  pub signal_turns : sint < SINTS → set.contains v.flags (sint, flag) ≡ false → Tells (variant.Synic told) f signalled
  signal_turns low clear =
      turns true told.raised (row_signalled sint flag) signal_flags
      (λ vector. ap (λ b. set.contains (cond (not b) (raised v.registers sint v.pending) v.pending) vector) clear ∙ raised_both v.registers sint v.pending vector) refl
      (vectors_one (λ k. (k == sint) && true) v.registers sint SINTS low (λ k less. and-true (k == sint))) clear

  -- a flag is cleared that is clear, or that is set
  abbrev clear_it : VpRow → VpRow
  clear_it row = record row { flags = set.remove row.flags (sint, flag) }

  abbrev cleared : Flat
  cleared = record f { vp = with_vp f.vp (part, vp) clear_it }

  clear_flags : (s n : ℕ) → set.contains (set.remove v.flags (sint, flag)) (s, n) ≡ cond ((s == sint) && (n == flag)) false (set.contains v.flags (s, n))
  clear_flags s n = grind (arith, set.contains-remove pair_cmp_total v.flags (sint, flag) (s, n), pair_tied s n sint flag)

  clear_vectors : (vector : ℕ) → set.contains v.pending vector ≡ (set.contains no_vectors vector || set.contains v.pending vector)
  clear_vectors vector = sym (ap (λ b. b || set.contains v.pending vector) (none_raised vector))

  pub clear_again : set.contains v.flags (sint, flag) ≡ false → Tells variant.Nothing f cleared
  clear_again clear = again false no_vectors clear_it clear_flags clear_vectors clear none_raised

  abbrev told_clear : Synic
  told_clear = record (quiet part vp) { flag = Some (record { sint = sint; flag = flag; is_set = false }) }

  pub clear_turns : set.contains v.flags (sint, flag) ≡ true → Tells (variant.Synic told_clear) f cleared
  clear_turns set_there =
      turns false no_vectors clear_it clear_flags clear_vectors refl
      (vectors_none (λ k. (k == sint) && false) v.registers SINTS (λ k less. and-false (k == sint))) set_there
