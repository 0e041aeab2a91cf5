-- The map of a script's processors after a write.
use Rattle.std.proofs.Common.{◌≡◌, ℕ, List, [], ◌∷◌, sym, ap, ◌∙◌, subst, inl, inr, Option, Some, None, Contains}
use Rattle.std.proofs.lemmas.List.Elements.{All-cons, All-nil, All-weaker}
use Rattle.std.proofs.lemmas.Option.{same_Some}
use Rattle.hv_history.specs.declared.kept.HostRefused.{HostRefused}
use Rattle.hv_policy.specs.declared.event.Caller.{Caller}
use Rattle.hv_phases.specs.PassMap.{AreGoing, Each, HasBack, HasKey, HasPass, IsFresh, IsSame, RunnerMap, is_key, key_of, pass_at, pass_in, stop_at, stop_in}
use Rattle.hv_phases.specs.declared.pass_map.Runner.{Runner}
use Rattle.hv_phases.proofs.AskedOfProcessor.{either}
use Rattle.hv_phases.proofs.ListPlaces.{here_of, there_of}
use Rattle.hv_phases.proofs.ProcessorMaps.{other_written, own_written}
use Rattle.hv_shared.specs.PassValue.{PassValue}
use Rattle.indexmap.specs.IndexMap.{UpdatesBy, get, with_entries}

-- a pass and why its processor was stopped
abbrev pub Back : Type 0
Back = PassValue × Option HostRefused

-- who has a pass is in the map
key_in : {L : Type 0} → (o : Option (Runner L)) (pass : PassValue) → pass_in o ≡ Some pass → (runner : Runner L) × (o ≡ Some runner)
key_in None pass is = absurd (cc)
key_in (Some runner) pass is = (runner, λ i. Some runner)

module _ {L S : Type 0} where
  module _ (by : Caller) (key : ℕ × ℕ) (is : key ≡ key_of by) (old new : RunnerMap L S) (runner : Runner L) (did : UpdatesBy is_key (is_key key) old new
      (Some runner)) where
    pub pass_written : pass_at new by ≡ runner.pass
    pass_written = ap pass_in (own_written by key is old new (Some runner) did by (λ i. by))

    pub stop_written : stop_at new by ≡ runner.stop
    stop_written = ap stop_in (own_written by key is old new (Some runner) did by (λ i. by))

    pub pass_still : (c : Caller) → (c ≡ by → ⊥) → pass_at new c ≡ pass_at old c
    pass_still c other = ap pass_in (other_written by key is old new (Some runner) did c other)

    pub stop_still : (c : Caller) → (c ≡ by → ⊥) → stop_at new c ≡ stop_at old c
    stop_still c other = ap stop_in (other_written by key is old new (Some runner) did c other)

    pub same_still : (c : Caller) → (c ≡ by → ⊥) → IsSame old new c
    same_still c other = (pass_still c other, stop_still c other)

    pub key_still : (c : Caller) → HasKey old c → HasKey new c
    key_still c has = either by c (λ same. (runner, own_written by key is old new (Some runner) did c same))
        (λ other. (has.0, other_written by key is old new (Some runner) did c other ∙ has.1))

    -- stops are as before where this one is
    pub stops_still : runner.stop ≡ stop_at old by → (c : Caller) → stop_at new c ≡ stop_at old c
    stops_still same c = either by c (λ own. ap (stop_at new) own ∙ stop_written ∙ same ∙ ap (stop_at old) (sym own)) (λ other. stop_still c other)

  -- an empty map has none
  none_in : (runners : RunnerMap L S) → runners.entries ≡ [] → (c : Caller) → get is_key runners (key_of c) ≡ None
  none_in runners empty c = ap (λ (es : List ((ℕ × ℕ) × Runner L)). get is_key (with_entries runners es) (key_of c)) empty

  pub no_pass : (runners : RunnerMap L S) → runners.entries ≡ [] → (c : Caller) → pass_at runners c ≡ None
  no_pass runners empty c = ap pass_in (none_in runners empty c)

  pub no_stop : (runners : RunnerMap L S) → runners.entries ≡ [] → AreGoing runners
  no_stop runners empty c = ap stop_in (none_in runners empty c)

  pub key_of_pass : (runners : RunnerMap L S) (c : Caller) (pass : PassValue) → pass_at runners c ≡ Some pass → HasKey runners c
  key_of_pass runners c pass is = key_in (get is_key runners (key_of c)) pass is

  -- a fresh pass was added
  pub fresh_added : (pass : PassValue) (key : ℕ × ℕ) → key ≡ key_of pass.caller → (old new : RunnerMap L S)
      → UpdatesBy is_key (is_key key) old new (Some (record { pass = Some pass; stop = None }))
      → pass.receipts ≡ [] → pass.share ≡ 0 → Each IsFresh old → Each IsFresh new
  fresh_added pass key is old new did none share each c p at =
      let runner : Runner L = record { pass = Some pass; stop = None } in
      either pass.caller c
      (λ own.
      let p_is : pass ≡ p = same_Some pass p (sym (pass_written pass.caller key is old new runner did) ∙ ap (pass_at new) (sym own) ∙ at) in
      record {
        caller = ap (λ (x : PassValue). x.caller) (sym p_is) ∙ sym own;
        none = ap (λ (x : PassValue). x.receipts) (sym p_is) ∙ none;
        share = ap (λ (x : PassValue). x.share) (sym p_is) ∙ share;
        goes_on = ap (stop_at new) own ∙ stop_written pass.caller key is old new runner did;
      })
      (λ other.
      subst (λ (s : Option HostRefused). IsFresh s c p) (sym (stop_still pass.caller key is old new runner did c other))
      (each c p (sym (pass_still pass.caller key is old new runner did c other) ∙ at)))

  pub pass_stays : (pass : PassValue) (key : ℕ × ℕ) → key ≡ key_of pass.caller → (old new : RunnerMap L S)
      → UpdatesBy is_key (is_key key) old new (Some (record { pass = Some pass; stop = None }))
      → (c : Caller) → HasPass old c → HasPass new c
  pass_stays pass key is old new did c has =
      let runner : Runner L = record { pass = Some pass; stop = None } in
      either pass.caller c (λ own. (pass, ap (pass_at new) own ∙ pass_written pass.caller key is old new runner did))
      (λ other. (has.0, pass_still pass.caller key is old new runner did c other ∙ has.1))

  -- no pass went back
  pub back_none : (old : RunnerMap L S) → HasBack [] old old
  back_none old = record {
    from = λ by pass at. inl ((λ i. pass_at old by), (λ i. stop_at old by));
    stops = λ by. inl (λ i. stop_at old by);
    keys = λ by has. has;
    stayed = λ by has. has;
    there = All-nil (λ (b : Back). HasPass old b.0.caller);
  }

  -- one more went back
  pub back_more : (back : Back) (backs : List Back) (old mid new : RunnerMap L S) → HasBack backs old mid
      → (pass_at new back.0.caller ≡ Some back.0) × (stop_at new back.0.caller ≡ back.1)
      → ((c : Caller) → (c ≡ back.0.caller → ⊥) → IsSame mid new c) → ((c : Caller) → HasKey mid c → HasKey new c) → HasBack (back ∷ backs) old new
  back_more back backs old mid new so_far own others keys = record {
    from = λ by pass at.
        either back.0.caller by
        (λ same.
        let p : back.0 ≡ pass = same_Some back.0 pass (sym own.0 ∙ ap (pass_at new) (sym same) ∙ at) in
        let s : back.1 ≡ stop_at new by = sym own.1 ∙ ap (stop_at new) (sym same) in
        inr (subst (Contains (back ∷ backs)) (λ i. (p i, s i)) (here_of back backs), ap (λ (x : PassValue). x.caller) (sym p) ∙ sym same))
        (λ other.
        let like = others by other in
        elim (so_far.from by pass (sym like.0 ∙ at)) [
          | inl was ↦ inl (like.0 ∙ was.0, like.1 ∙ was.1)
          | inr there ↦ inr (
            subst (λ (s : Option HostRefused). Contains (back ∷ backs) (pass, s)) (sym like.1)
                (there_of back (pass, stop_at mid by) backs there.0),
            there.1,
          )
        ]);
    stops = λ by.
        either back.0.caller by
        (λ same. inr (
          back.0,
          subst (λ (s : Option HostRefused). Contains (back ∷ backs) (back.0, s)) (sym (ap (stop_at new) same ∙ own.1))
              (here_of back backs),
        ))
        (λ other.
        let like = others by other in
        elim (so_far.stops by) [
          | inl was ↦ inl (like.1 ∙ was)
          | inr there ↦ inr (
            there.0,
            subst (λ (s : Option HostRefused). Contains (back ∷ backs) (there.0, s)) (sym like.1)
                (there_of back (there.0, stop_at mid by) backs there.1),
          )
        ]);
    keys = λ by has. keys by (so_far.keys by has);
    stayed = λ by has. stays by (so_far.stayed by has);
    there = All-cons (λ (b : Back). HasPass new b.0.caller) back backs (back.0, own.0)
        (All-weaker (λ (b : Back). HasPass mid b.0.caller) (λ (b : Back). HasPass new b.0.caller) (λ b has. stays b.0.caller has) backs so_far.there);
  }
    where
      stays : (c : Caller) → HasPass mid c → HasPass new c
      stays c has = either back.0.caller c (λ same. (back.0, ap (pass_at new) same ∙ own.0)) (λ other. (has.0, (others c other).0 ∙ has.1))

  -- a map without the pass that was taken from where none is
  pub none_taken : (by : Caller) (old new : RunnerMap L S) → None ≡ pass_at old by → pass_at new by ≡ None
      → ((c : Caller) → (c ≡ by → ⊥) → pass_at new c ≡ pass_at old c)
      → ((c : Caller) → stop_at new c ≡ stop_at old c) → (c : Caller) → IsSame old new c
  none_taken by old new none out others stops c = (either by c (λ same. ap (pass_at new) same ∙ out ∙ none ∙ ap (pass_at old) (sym same)) (others c), stops c)

  -- no processor is stopped after one more
  pub going_added : (by : Caller) (key : ℕ × ℕ) → key ≡ key_of by → (old new : RunnerMap L S) (runner : Runner L)
      → UpdatesBy is_key (is_key key) old new (Some runner) → runner.stop ≡ None
      → AreGoing old → AreGoing new
  going_added by key is old new runner did none going c =
      either by c (λ same. ap (stop_at new) same ∙ stop_written by key is old new runner did ∙ none) (λ other. stop_still by key is old new runner did c other
      ∙ going c)
