-- A phase whose turns are handed to their processors, and that comes back.
use Rattle.std.proofs.Common.{◌≡◌, ℕ, ◌≤◌, Bool, List, [], ◌∷◌, ◌++◌, refl, sym, ap, ◌∙◌, subst, arith}
use Rattle.std.proofs.Common.{append-nil, reverse, inl, inr, ◌⊎◌, Option, Some, None, All, map, Global}
use Rattle.std.proofs.lemmas.List.{get_or-map, length-map}
use Rattle.std.proofs.lemmas.List.Elements.{All-cons, All-nil, All-push, All-weaker}
use Rattle.std.proofs.lemmas.Option.{none-some}
use Rattle.hv_policy.specs.declared.event.Caller.{Caller}
use Rattle.hv_phases.specs.PassMap.{AreGoing, Each, HasBack, HasBegunBy, HasDone, HasHanded, HasKey, HasPass, HasRunTo, HasRunWorks, HasWorkOf}
use Rattle.hv_phases.specs.PassMap.{IsAny, IsSame, IsWithin, RunnerMap}
use Rattle.hv_phases.specs.PassMap.{back_of_work, last_in, lines_in, pass_at, stop_at}
use Rattle.hv_phases.specs.Turns.{HasGiven, todo, todo_of}
use Rattle.hv_phases.specs.declared.turn.Turn.{Turn}
use Rattle.hv_phases.proofs.AskedOfProcessor.{Actions, Lines, either}
use Rattle.hv_phases.proofs.GroupsDone.{done_begun, done_idle, done_weaker, done_worked}
use Rattle.hv_phases.proofs.LinesTaken.{turned}
use Rattle.hv_phases.proofs.ListPlaces.{last_of, left_of, one_of_map}
use Rattle.hv_phases.proofs.RunnerMaps.{Back, key_of_pass}
use Rattle.hv_phases.proofs.TurnsLeft.{one_other, round_own, todo_of-append}
use Rattle.hv_script.specs.declared.line.Line.{Line}
use Rattle.hv_shared.specs.PassValue.{PassValue}
use Rattle.hv_shared.specs.declared.receipts.Receipt.{Receipt}
use Rattle.hv_threads.specs.declared.phase.Work.{Work}

-- what turns have left for a processor, once a turn of another comes behind them
still_todo : (c : Caller) (done : List Turn) (turn : Turn) → (turn.by ≡ c → ⊥) → todo_of c (done ++ turn ∷ []) ≡ todo_of c done
still_todo c done turn other =
    todo_of-append c done (turn ∷ []) ∙ ap (λ (l : Actions). todo_of c done ++ l) (one_other c turn other) ∙ append-nil (todo_of c done)

-- and once its first one does
first_todo : (c : Caller) (done : List Turn) (turn : Turn) → turn.by ≡ c → todo_of c done ≡ [] → todo_of c (done ++ turn ∷ []) ≡ todo turn
first_todo c done turn own none = round_own c done turn [] own ∙ (λ j. none j ++ append-nil (todo turn) j)

work_of_more : {L : Type 0} (works : List (Work L)) (work : Work L) (by : Caller) → HasWorkOf works by → HasWorkOf (works ++ work ∷ []) by
work_of_more works work by of = (of.0, left_of works (work ∷ []) of.0 of.1, of.2)

module _ {L S : Type 0} where
  -- the work is what these turns have for a processor, whose pass is out of the map
  abbrev pub IsOut : List Turn → RunnerMap L S → RunnerMap L S → Work L → Type 0
  IsOut done old now work =
      (pass_at old work.pass.caller ≡ Some work.pass) × (work.actions.items ≡ todo_of work.pass.caller done) × (pass_at now work.pass.caller ≡ None)

  -- these turns were handed out
  pub record AreOut (done : List Turn) (works : List (Work L)) (old now : RunnerMap L S) : Type 0 where
    pub idle : (by : Caller) (pass : PassValue) → pass_at now by ≡ Some pass → (pass_at old by ≡ Some pass) × (todo_of by done ≡ [])
    pub busy : All (IsOut done old now) works
    pub stops : (by : Caller) → stop_at now by ≡ stop_at old by
    pub keys : (by : Caller) → HasKey old by → HasKey now by
    pub all : (by : Caller) → HasPass old by → HasPass now by ⊎ HasWorkOf works by

  pub out_none : (works : List (Work L)) (old : RunnerMap L S) → works ≡ [] → AreOut [] works old old
  out_none works old none = record {
    idle = λ by pass at. (at, refl);
    busy = subst (All (IsOut [] old old)) (sym none) (All-nil (IsOut [] old old));
    stops = λ by. refl;
    keys = λ by has. has;
    all = λ by has. inl has;
  }

  -- one turn more
  pub out_more : (turn : Turn) (work : Work L) (done : List Turn) (works : List (Work L)) (old mid new : RunnerMap L S) → ((by : Caller) (pass : PassValue)
      → pass_at old by ≡ Some pass → pass.caller ≡ by)
      → AreOut done works old mid → Some work.pass ≡ pass_at mid turn.by → pass_at new turn.by ≡ None → ((c : Caller) → (c ≡ turn.by → ⊥)
      → pass_at new c ≡ pass_at mid c)
      → ((c : Caller) → stop_at new c ≡ stop_at mid c) → ((c : Caller) → HasKey mid c → HasKey new c) → work.actions.items ≡ todo turn
      → AreOut (done ++ turn ∷ []) (works ++ work ∷ []) old new
  out_more turn work done works old mid new callers so_far found out others stops keys asked =
      let own = so_far.idle turn.by work.pass (sym found) in
      let by_is : work.pass.caller ≡ turn.by = callers turn.by work.pass own.0 in
      record {
        idle = λ by pass at.
            either turn.by by (λ same. absurd (none-some pass (sym out ∙ ap (pass_at new) (sym same) ∙ at)))
            (λ other.
            let was = so_far.idle by pass (sym (others by other) ∙ at) in
            (was.0, still_todo by done turn (λ same. other (sym same)) ∙ was.1));
        busy = All-push (IsOut (done ++ turn ∷ []) old new) works work
            (All-weaker (IsOut done old mid) (IsOut (done ++ turn ∷ []) old new)
            (λ w was.
            let apart : w.pass.caller ≡ turn.by → ⊥ = λ same. none-some work.pass (sym was.2 ∙ ap (pass_at mid) same ∙ sym found) in
            (was.0, was.1 ∙ sym (still_todo w.pass.caller done turn (λ same. apart (sym same))), others w.pass.caller apart ∙ was.2)) works so_far.busy) (
              ap (pass_at old) by_is ∙ own.0,
              asked ∙ sym (first_todo work.pass.caller done turn (sym by_is) (ap (λ (c : Caller). todo_of c done) by_is
                  ∙ own.1)),
              ap (pass_at new) by_is ∙ out,
            );
        stops = λ by. stops by ∙ so_far.stops by;
        keys = λ by has. keys by (so_far.keys by has);
        all = λ by has.
            elim (so_far.all by has) [
              | inl here ↦ either turn.by by (λ same. inr (work, last_of works work, by_is ∙ sym same)) (λ other. inl (here.0, others by other ∙ here.1))
              | inr there ↦ inr (work_of_more works work by there)
            ];
      }

  -- nothing more was handed out
  pub out_as : (done : List Turn) (works : List (Work L)) (old mid new : RunnerMap L S) → AreOut done works old mid → ((by : Caller) → IsSame mid new by)
      → ((c : Caller) → HasKey mid c → HasKey new c)
      → AreOut done works old new
  out_as done works old mid new out same keys = record {
    idle = λ by pass at. out.idle by pass (sym (same by).0 ∙ at);
    busy = All-weaker (IsOut done old mid) (IsOut done old new) (λ w was. (was.0, was.1, (same w.pass.caller).0 ∙ was.2)) works out.busy;
    stops = λ by. (same by).1 ∙ out.stops by;
    keys = λ by has. keys by (out.keys by has);
    all = λ by has.
        elim (out.all by has) [
          | inl here ↦ inl (here.0, (same by).0 ∙ here.1)
          | inr there ↦ inr there
        ];
  }

  -- all of them
  pub out_all : (turns : List Turn) (works : List (Work L)) (old new : RunnerMap L S) → AreOut turns works old new → HasHanded turns works old new
  out_all turns works old new out = record {
    idle = out.idle;
    busy = All-weaker (IsOut turns old new) (λ (w : Work L). (pass_at old w.pass.caller ≡ Some w.pass) × (w.actions.items ≡ todo_of w.pass.caller turns))
        (λ w is. (is.0, is.1)) works out.busy;
    stops = out.stops;
    keys = out.keys;
    all = out.all;
  }

  -- they can go back
  pub out_keys : (done : List Turn) (works : List (Work L)) (old now : RunnerMap L S) → AreOut done works old now → All (λ w. HasKey now w.pass.caller) works
  out_keys done works old now out =
      All-weaker (IsOut done old now) (λ (w : Work L). HasKey now w.pass.caller) (λ w is. out.keys w.pass.caller (key_of_pass old w.pass.caller w.pass is.0))
      works out.busy

  -- and then all is as before
  pub back_as : (turns : List Turn) (works : List (Work L)) (old mid new : RunnerMap L S) → AreGoing old → ((by : Caller) (pass : PassValue)
      → pass_at old by ≡ Some pass → pass.caller ≡ by)
      → HasHanded turns works old mid → HasBack (map back_of_work works) mid new → (by : Caller) → IsSame old new by
  back_as turns works old mid new going callers out back by = (pass_is (pass_at new by) refl (pass_at old by) refl, stop_is)
    where
      from : (pass : PassValue) → pass_at new by ≡ Some pass → pass_at old by ≡ Some pass
      from pass at =
          elim (back.from by pass at) [
            | inl same ↦ (out.idle by pass (sym same.0 ∙ at)).0
            | inr there ↦
                let one = one_of_map back_of_work works (pass, stop_at new by) there.0 in
                let k = one.1 in
                let is : one.0.pass ≡ pass = ap (λ (b : Back). b.0) one.2 in
                let was : pass_at old one.0.pass.caller ≡ Some one.0.pass = subst (λ (w : Work L). pass_at old w.pass.caller ≡ Some w.pass) k.2
                (out.busy k.0 one.0 k.1).0 in
                ap (pass_at old) (sym there.1 ∙ ap (λ (p : PassValue). p.caller) (sym is)) ∙ was ∙ ap Some is
          ]

      stays : HasPass old by → HasPass new by
      stays has =
          elim (out.all by has) [
            | inl here ↦ back.stayed by here
            | inr there ↦
                let k = there.1 in
                let P : Back → Type 0 = λ (b : Back). HasPass new b.0.caller in
                let w : HasPass new there.0.pass.caller =
                subst (λ (x : Work L). HasPass new x.pass.caller) k.2
                (subst P (get_or-map back_of_work works k.0 there.0 (back_of_work there.0) k.1) (back.there k.0 (back_of_work there.0)
                (let less = k.1 in let many = length-map works back_of_work in omega (arith, less, many)))) in
                subst (HasPass new) there.2 w
          ]

      pass_is : (n : Option PassValue) → pass_at new by ≡ n → (o : Option PassValue) → pass_at old by ≡ o → pass_at new by ≡ pass_at old by
      pass_is (Some p) is o was = is ∙ sym (from p is)
      pass_is None is None was = is ∙ sym was
      pass_is None is (Some p) was = absurd (let has = stays (p, was) in none-some has.0 (sym is ∙ has.1))

      stop_is : stop_at new by ≡ stop_at old by
      stop_is =
          elim (back.stops by) [
            | inl same ↦ same ∙ out.stops by
            | inr there ↦
                let one = one_of_map back_of_work works (there.0, stop_at new by) there.1 in
                sym (ap (λ (b : Back). b.1) one.2) ∙ sym (going by)
          ]

module _ {L S : Type 0} (serial : Bool) (lines left after rest : Lines) (first : Line Global) (turns : List Turn) (works : List (Work L)) (last : ℕ)
    (now mid : RunnerMap L S)
    (run : HasRunTo serial lines [] (reverse left) last now) (is : left ≡ rest ++ first ∷ []) (given : HasGiven first (reverse rest) turns (reverse after))
    (handed : HasHanded turns works now mid) where
  abbrev taken : Lines
  taken = first ∷ given.more

  order : lines_in run.past ++ (taken ++ reverse after) ≡ lines
  order = ap (λ (ls : Lines). lines_in run.past ++ ls) (sym (turned left rest first is ∙ ap (λ (ls : Lines). first ∷ ls) given.all)) ∙ run.order

  -- what each has of the phase
  taken_by : (Q : Receipt → Type 0) (new : RunnerMap L S) → HasRunWorks Q works mid new → Each (HasDone Q run.past taken) new
  taken_by Q new ran by pass at =
      let P : Receipt → Type 0 = IsWithin (last_in run.past) last in
      elim (ran.from by pass at) [
        | inl same ↦
            let was = handed.idle by pass (sym same.0 ∙ at) in
            done_idle P Q run.past taken (stop_at now by) (stop_at new by) by pass (sym (given.asked by) ∙ was.1) (run.each by pass was.0)
        | inr worked ↦
            let work = worked.0 in
            let k = worked.1 in
            let busy : (pass_at now work.pass.caller ≡ Some work.pass) × (work.actions.items ≡ todo_of work.pass.caller turns) =
            subst (λ (w : Work L). (pass_at now w.pass.caller ≡ Some w.pass) × (w.actions.items ≡ todo_of w.pass.caller turns)) k.2
            (handed.busy k.0 work k.1) in
            subst (λ (c : Caller). HasDone Q run.past taken (stop_at new by) c pass) worked.2
            (done_worked P Q run.past taken (stop_at now work.pass.caller) (stop_at new by) work pass (busy.1 ∙ given.asked work.pass.caller)
            (run.each work.pass.caller work.pass busy.0) worked.3)
      ]

  -- the phase was run, up to its end
  pub phase_taken : (number : ℕ) (new : RunnerMap L S) → last ≤ number → HasRunWorks (IsWithin last number) works mid new
      → HasRunTo serial lines taken (reverse after) number new
  phase_taken number new up ran =
      let low = run.last_is in record {
        past = run.past;
        order = order;
        rises = run.rises;
        last_is = omega (arith, low, up);
        each = λ by pass at.
            done_weaker (IsWithin last number) (IsWithin (last_in run.past) number) (λ r w. (omega (arith, low, w.0), w.1)) run.past taken (stop_at new by) by
            pass
            (taken_by (IsWithin last number) new ran by pass at);
      }

  pub phase_begun : (new : RunnerMap L S) → HasRunWorks IsAny works mid new → Each (HasBegunBy lines) new
  phase_begun new ran by pass at = done_begun IsAny run.past taken (reverse after) lines (stop_at new by) by pass order (taken_by IsAny new ran by pass at)

  pub phase_one : All (λ line. line.phase ≡ first.phase) taken
  phase_one = All-cons (λ (l : Line Global). l.phase ≡ first.phase) first given.more refl given.one

  -- the works can go back
  pub handed_keys : All (λ w. HasKey mid w.pass.caller) works
  handed_keys =
      All-weaker (λ (w : Work L). (pass_at now w.pass.caller ≡ Some w.pass) × (w.actions.items ≡ todo_of w.pass.caller turns))
      (λ (w : Work L). HasKey mid w.pass.caller)
      (λ w b. handed.keys w.pass.caller (key_of_pass now w.pass.caller w.pass b.0)) works handed.busy

  pub phase_stayed : (new : RunnerMap L S) → ((by : Caller) → HasPass mid by ⊎ HasWorkOf works by → HasPass new by) → (by : Caller) → HasPass now by
      → HasPass new by
  phase_stayed new stayed by has = stayed by (handed.all by has)
