-- What lines do to a booted machine and its phase.
use Rattle.std.proofs.Common.{◌≡◌, ◌==◌, ◌<◌, ◌≤◌, ℕ, ◌+◌, Bool, true, false, cond, List, [], ◌∷◌, length, refl, sym, ap, ◌∙◌, subst, arith, append-nil, Option, Some, None, Result, Ok, Err, inl, inr}
use Rattle.std.proofs.Common.{codes, MatchResult, is_some, Global}
use Rattle.std.proofs.lemmas.List.Elements.{All-nil, All-push}
use Rattle.hv_defs.specs.declared.sizes.TheConstants.{REPS_END}
use Rattle.hv_history.specs.Kept.{IsRun, Kept}
use Rattle.hv_history.specs.declared.entry.Entry.{Entry}
use Rattle.hv_history.specs.declared.kept.HostRefused.{HostRefused}
use Rattle.hv_policy.specs.BootFault.{IsBootRefusal}
use Rattle.hv_policy.specs.declared.config.BootRefused.{BootRefused}
use Rattle.hv_policy.specs.declared.config.BootRefused.TheVariants.{Pages, Pool, Vps, Memory}
use Rattle.hv_policy.specs.declared.event.Action.{Action}
use Rattle.hv_policy.specs.declared.event.Caller.{Caller}
use Rattle.hv_script.proofs.CallerLemmas.{no_callers, one_more_caller}
use Rattle.hv_script.specs.Callers.{callers_of, have_room, with_caller}
use Rattle.hv_script.specs.Line.{◌>>=◌, action_of, boot_of, processor_of}
use Rattle.hv_script.specs.Script.{SoFar, first_line, later_line, phase_line, processor_line, taken, with_line}
use Rattle.hv_script.specs.Words.{begins_with, word_at}
use Rattle.hv_script.specs.declared.boot.Boot.{Boot as BootLine}
use Rattle.hv_script.specs.declared.fault.FaultKind.{FaultKind}
use Rattle.hv_script.specs.declared.fault.FaultKind.TheVariants as kind
use Rattle.hv_script.specs.declared.line.Line.{Line}
use Rattle.hv_serve.proofs.Law.{done-nothing}
use Rattle.hv_serve.specs.Bench.{AsksFor, HasBecome, HasTaken, IsBench, IsOutcomeOf, StandsFor, reads}
use Rattle.hv_serve.specs.Meant.{Meant, Reads}
use Rattle.hv_serve.specs.Outcome.{outcome_of_boot}
use Rattle.hv_serve.specs.Session.{Becomes, HasCome, HasDone, HasStopped, Served, read_of}
use Rattle.hv_serve.specs.declared.bench.Bench.{Bench}
use Rattle.hv_serve.specs.declared.outcome.Outcome.{Outcome}
use Rattle.hv_serve.specs.declared.outcome.Outcome.TheVariants.{Done, Table, Peek, Explain, Help, Fault, Named, Boot, Host}
use Rattle.hv_shared.specs.ByCaller.{receipts_by}
use Rattle.hv_threads.specs.Acted.{AreUpTo, HasActed, WasStopped}
use Rattle.hv_threads.specs.Perform.{IsWhole}

come_nothing : (bench : Option Bench) (before : Option Served) → StandsFor bench before → HasCome before before
come_nothing None None stands = tt
come_nothing None (Some served) stands = absurd stands
come_nothing (Some bench) None stands = absurd stands
come_nothing (Some bench) (Some served) stands = done-nothing served stands.run

-- a line that changes nothing
pub took_nothing : (bench : Option Bench) (before : Option Served) (says : Result Meant FaultKind) → StandsFor bench before → says ≡ Ok (Reads (read_of before)) → HasTaken before says bench (Ok Done)
took_nothing bench before says stands is = record { after = before; stands = stands; becomes = (is, come_nothing bench before stands) }

pub is_booted : (bench : Option Bench) (before : Option Served) → StandsFor bench before → is_some bench ≡ is_some (read_of before)
is_booted None None stands = refl
is_booted None (Some served) stands = absurd stands
is_booted (Some bench) None stands = absurd stands
is_booted (Some bench) (Some served) stands = refl

-- a line that asks for something
asked_becomes : (before : Option Served) (says : Result Meant FaultKind) (outcome : Outcome) → AsksFor outcome says → Becomes before says outcome before
asked_becomes before says Done asks = absurd asks
asked_becomes before says Table asks = (asks, refl)
asked_becomes before says (Peek peek) asks = (asks, refl)
asked_becomes before says Explain asks = (asks, refl)
asked_becomes before says Help asks = (asks, refl)
asked_becomes before says (Fault kind) asks = absurd asks
asked_becomes before says (Named fault) asks = absurd asks
asked_becomes before says (Boot why) asks = absurd asks
asked_becomes before says (Host why) asks = absurd asks

pub took_asked : (bench : Option Bench) (before : Option Served) (says : Result Meant FaultKind) (result : Result Outcome FaultKind) → StandsFor bench before
    → MatchResult result (λ outcome. AsksFor outcome says) (λ kind. says ≡ Err kind) → HasTaken before says bench result
took_asked bench before says (Ok outcome) stands told = record { after = before; stands = stands; becomes = asked_becomes before says outcome told }
took_asked bench before says (Err kind) stands told = (stands, λ _. told)

-- the first line boots a machine
first_says : (words : List (List ℕ)) (r : Result BootLine FaultKind) → begins_with words (codes "boot") ≡ true → boot_of words ≡ r
    → reads (first_line words) ≡ reads (r >>= (λ boot. Ok (record { boot = boot; phase = 0; lines = [] })))
first_says words r begins boot =
    ap (λ (t : Bool). reads (cond t (boot_of words >>= (λ boot. Ok (record { boot = boot; phase = 0; lines = [] }))) (Err kind.NoBoot))) begins
    ∙ ap (λ (r : Result BootLine FaultKind). reads (r >>= (λ boot. Ok (record { boot = boot; phase = 0; lines = [] })))) boot

pub no_first : (words : List (List ℕ)) → begins_with words (codes "boot") ≡ false → reads (first_line words) ≡ Err kind.NoBoot
no_first words begins =
    ap (λ (t : Bool). reads (cond t (boot_of words >>= (λ boot. Ok (record { boot = boot; phase = 0; lines = [] }))) (Err kind.NoBoot))) begins

pub bad_first : (words : List (List ℕ)) (fault : FaultKind) → begins_with words (codes "boot") ≡ true → boot_of words ≡ Err fault → reads (first_line words) ≡ Err fault
bad_first words fault begins boot = first_says words (Err fault) begins boot

nobody : callers_of {A = Global} 0 [] ≡ []
unfolding callers_of
nobody = refl

pub booted : (words : List (List ℕ)) (boot : BootLine) (bench : Bench) → begins_with words (codes "boot") ≡ true → boot_of words ≡ Ok boot
    → bench.kept.config ≡ boot.config → bench.kept.limit ≡ boot.limit → bench.kept.history ≡ [] → IsRun bench.kept → bench.callers.items ≡ []
    → HasTaken None (reads (first_line words)) (Some bench) (Ok Done)
booted words boot bench begins is config limit none run callers =
    let read : SoFar Global = record { boot = boot; phase = 0; lines = [] } in
    record {
      after = Some (record { read = read; kept = bench.kept });
      stands = record {
        kept = refl;
        callers = callers ∙ sym nobody;
        phases = All-nil (λ (line : Line Global). line.phase ≤ 0);
        run = run;
      };
      becomes = (
        first_says words (Ok boot) begins is,
        record {
          config = config;
          limit = limit;
          lines = refl;
          history = none;
          run = run;
        },
      );
    }

refused_at : (read : SoFar Global) (says : Result Meant FaultKind) (why : BootRefused) → says ≡ Ok (Reads (Some read)) → IsBootRefusal read.boot.config why
    → HasTaken None says None (Ok (outcome_of_boot why))
refused_at read says Pages is refused = record { after = None; stands = tt; becomes = (record { read = read; none = refl; boots = is; refused = refused }, refl) }
refused_at read says Pool is refused = record { after = None; stands = tt; becomes = (record { read = read; none = refl; boots = is; refused = refused }, refl) }
refused_at read says Vps is refused = record { after = None; stands = tt; becomes = (record { read = read; none = refl; boots = is; refused = refused }, refl) }
refused_at read says Memory is refused = record { after = None; stands = tt; becomes = inl (refl, refl) }

-- or no machine boots with what it gives
pub not_booted : (words : List (List ℕ)) (boot : BootLine) (why : BootRefused) (outcome : Outcome) → begins_with words (codes "boot") ≡ true → boot_of words ≡ Ok boot → IsBootRefusal boot.config why
    → outcome ≡ outcome_of_boot why → HasTaken None (reads (first_line words)) None (Ok outcome)
not_booted words boot why outcome begins is refused same =
    let read : SoFar Global = record { boot = boot; phase = 0; lines = [] } in
    subst (λ (o : Outcome). HasBecome None (reads (first_line words)) o None) (sym same) (refused_at read (reads (first_line words)) why (first_says words (Ok boot) begins is) refused)

-- a later line, by its first word
later_at : (read : SoFar Global) (words : List (List ℕ)) (b p : Bool) → begins_with words (codes "boot") ≡ b → begins_with words (codes "phase") ≡ p
    → later_line read words ≡ cond b (Err kind.BootTwice) (cond p (phase_line read words) (processor_line read words))
unfolding later_line
later_at read words b p boot phase =
    ap (λ (t : Bool). cond t (Err kind.BootTwice) (cond (begins_with words (codes "phase")) (phase_line read words) (processor_line read words))) boot
    ∙ ap (λ (t : Bool). cond b (Err kind.BootTwice) (cond t (phase_line read words) (processor_line read words))) phase

pub boots_twice : (read : SoFar Global) (words : List (List ℕ)) → begins_with words (codes "boot") ≡ true → reads (later_line read words) ≡ Err kind.BootTwice
boots_twice read words boot = ap reads (later_at read words true (begins_with words (codes "phase")) boot refl)

pub is_phase : (read : SoFar Global) (words : List (List ℕ)) → begins_with words (codes "boot") ≡ false → begins_with words (codes "phase") ≡ true → reads (later_line read words) ≡ reads
    (phase_line read words)
is_phase read words boot phase = ap reads (later_at read words false true boot phase)

pub is_processor : (read : SoFar Global) (words : List (List ℕ)) → begins_with words (codes "boot") ≡ false → begins_with words (codes "phase") ≡ false → reads (later_line read words) ≡ reads
    (processor_line read words)
is_processor read words boot phase = ap reads (later_at read words false false boot phase)

-- a phase begins
phase_says : (read : SoFar Global) (words : List (List ℕ)) (t : Bool) → (length words == 1) ≡ t → reads (phase_line read words) ≡ reads
    (cond t (Ok (record read { phase = read.phase + 1 })) (Err kind.Count))
phase_says read words t is = ap (λ (t : Bool). reads (cond t (Ok (record read { phase = read.phase + 1 })) (Err kind.Count))) is

pub no_phase : (read : SoFar Global) (words : List (List ℕ)) → (length words == 1) ≡ false → reads (phase_line read words) ≡ Err kind.Count
no_phase read words is = phase_says read words false is

pub phased : (old new : Bench) (served : Served) (words : List (List ℕ)) → IsBench old served → (length words == 1) ≡ true → new.kept ≡ old.kept → new.callers.items ≡ []
    → HasTaken (Some served) (reads (phase_line served.read words)) (Some new) (Ok Done)
phased old new served words is one kept none =
    let read : SoFar Global = record served.read { phase = served.read.phase + 1 } in
    let after : Served = record { read = read; kept = served.kept } in
    let phases = is.phases in
    record {
      after = Some after;
      stands = record {
        kept = kept ∙ is.kept;
        callers = none ∙ sym (no_callers served.read.phase served.read.lines is.phases);
        phases = λ k d lt. (let before = phases k d lt in omega arith);
        run = is.run;
      };
      becomes = (
        phase_says served.read words true one,
        record {
          lines = [];
          own = [];
          read = sym (append-nil served.read.lines);
          history = sym (append-nil served.kept.history);
          order = refl;
          boot = refl;
          config = refl;
          limit = refl;
          run = is.run;
        },
      );
    }

-- the line of a processor, by its words
said_by : (read : SoFar Global) (words : List (List ℕ)) (by : Result Caller FaultKind) (what : Result (Action Global) FaultKind) → processor_of (word_at words 0) ≡ by → action_of words ≡ what
    → processor_line read words ≡ by >>= (λ by. what >>= (λ what. taken read by what))
unfolding processor_line
said_by read words by what named asked =
    ap (λ (by : Result Caller FaultKind). by >>= (λ by. action_of words >>= (λ what. taken read by what))) named
    ∙ ap (λ (what : Result (Action Global) FaultKind). by >>= (λ by. what >>= (λ what. taken read by what))) asked

pub bad_processor : (read : SoFar Global) (words : List (List ℕ)) (fault : FaultKind) → processor_of (word_at words 0) ≡ Err fault → reads (processor_line read words) ≡ Err fault
bad_processor read words fault named = ap reads (said_by read words (Err fault) (action_of words) named refl)

pub bad_action : (read : SoFar Global) (words : List (List ℕ)) (by : Caller) (fault : FaultKind) → processor_of (word_at words 0) ≡ Ok by → action_of {A = Global} words ≡ Err fault
    → reads (processor_line read words) ≡ Err fault
bad_action read words by fault named asked = ap reads (said_by read words (Ok by) (Err fault) named asked)

room_says : (read : SoFar Global) (words : List (List ℕ)) (by : Caller) (what : Action Global) (t : Bool) → processor_of (word_at words 0) ≡ Ok by → action_of words ≡ Ok what
    → have_room (callers_of read.phase read.lines) by ≡ t → reads (processor_line read words) ≡ reads (cond t (Ok (with_line read by what)) (Err kind.TooMany))
room_says read words by what t named asked room =
    ap reads (said_by read words (Ok by) (Ok what) named asked) ∙ ap (λ (t : Bool). reads (cond t (Ok (with_line read by what)) (Err kind.TooMany))) room

pub no_room : (bench : Bench) (served : Served) (words : List (List ℕ)) (by : Caller) (what : Action Global) → IsBench bench served → processor_of (word_at words 0) ≡ Ok by → action_of words ≡ Ok what
    → have_room bench.callers.items by ≡ false → reads (processor_line served.read words) ≡ Err kind.TooMany
no_room bench served words by what is named asked room =
    room_says served.read words by what false named asked (ap (λ (callers : List Caller). have_room callers by) (sym is.callers) ∙ room)

-- the same bench but for room
pub still : (old new : Bench) (served : Served) → IsBench old served → new.kept ≡ old.kept → new.callers.items ≡ old.callers.items → IsBench new served
still old new served is kept callers = record { kept = kept ∙ is.kept; callers = callers ∙ is.callers; phases = is.phases; run = is.run }

-- where more events may happen than a call has elements, an action that was done came to its end
to_its_end : (by : Caller) (what : Action Global) (most : ℕ) (own : List (Entry Global)) → REPS_END < most → length own ≤ REPS_END → AreUpTo by what most own → (n : ℕ)
    → IsWhole by what (receipts_by by n own)
to_its_end by what most own enough few (inl whole) n = whole n
to_its_end by what most own enough few (inr part) n = let all = part.0 in absurd (omega arith)

module _ (old new : Bench) (served : Served) (words : List (List ℕ)) (by : Caller) (what : Action Global) (is : IsBench old served) (named : processor_of (word_at words 0) ≡ Ok by)
    (asked : action_of words ≡ Ok what) (room : have_room old.callers.items by ≡ true) (callers : new.callers.items ≡ with_caller old.callers.items by) where
  abbrev line : Line Global
  line = record { phase = served.read.phase; by = by; action = what }

  abbrev after : Served
  after = record { read = with_line served.read by what; kept = new.kept }

  says : reads (processor_line served.read words) ≡ Ok (Reads (Some after.read))
  says = room_says served.read words by what true named asked (ap (λ (callers : List Caller). have_room callers by) (sym is.callers) ∙ room)

  stands : IsRun new.kept → IsBench new after
  stands run = record {
    kept = refl;
    callers = callers ∙ ap (λ (callers : List Caller). with_caller callers by) is.callers ∙ sym (one_more_caller served.read.phase served.read.lines line refl);
    phases = All-push (λ (l : Line Global). l.phase ≤ served.read.phase) served.read.lines line is.phases (omega arith);
    run = run;
  }

  done : (most : ℕ) → REPS_END < most → HasActed by what most served.kept new.kept → HasDone served after
  done most enough acted = record {
    lines = line ∷ [];
    own = acted.own;
    read = refl;
    history = acted.history;
    order = (acted.own, [], sym (append-nil acted.own), acted.by_it, to_its_end by what most acted.own enough acted.few acted.ended (length served.kept.history + 1), refl);
    boot = refl;
    config = acted.config;
    limit = acted.limit;
    run = acted.run;
  }

  stopped : (most : ℕ) (why : HostRefused) → WasStopped by what most why served.kept new.kept → HasStopped why served after
  stopped most why stop = record {
    line = line;
    own = stop.own;
    read = refl;
    history = stop.history;
    by = stop.by_it;
    part = stop.part (length served.kept.history + 1);
    full = stop.full;
    boot = refl;
    config = stop.config;
    limit = stop.limit;
    run = stop.run;
  }

  -- it was done, or the host stopped it
  pub performed : (most : ℕ) → REPS_END < most → (outcome : Outcome) → IsOutcomeOf by what most old.kept new.kept outcome
      → HasTaken (Some served) (reads (processor_line served.read words)) (Some new) (Ok outcome)
  performed most enough Done acted =
      let from : HasActed by what most served.kept new.kept = subst (λ (k : Kept Global). HasActed by what most k new.kept) is.kept acted in
      record { after = Some after; stands = stands acted.run; becomes = (says, done most enough from) }
  performed most enough Table acted = absurd acted
  performed most enough (Peek peek) acted = absurd acted
  performed most enough Explain acted = absurd acted
  performed most enough Help acted = absurd acted
  performed most enough (Fault kind) acted = absurd acted
  performed most enough (Named fault) acted = absurd acted
  performed most enough (Boot why) acted = absurd acted
  performed most enough (Host why) stop =
      let from : WasStopped by what most why served.kept new.kept = subst (λ (k : Kept Global). WasStopped by what most why k new.kept) is.kept stop in
      record { after = Some after; stands = stands stop.run; becomes = inr (says, stopped most why from) }
