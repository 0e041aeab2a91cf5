-- What the processors of a script hold while its lines run. Only contracts of private functions cite these
-- words.
use Rattle.std.specs.Prelude.{ℕ, ◌≡◌, ◌⊎◌, ◌<◌, ◌≤◌, ◌==◌, ◌&&◌, ⊤, false, true, Bool, Option, None, Some}
use Rattle.std.specs.Prelude.{List, [], ◌∷◌, ◌++◌, All, drop, length, slice_index_or, Contains}
use Rattle.std.specs.declared.alloc.Global.{Global}
use Rattle.hv_history.specs.declared.kept.HostRefused.{HostRefused}
use Rattle.hv_policy.specs.declared.event.Action.{Action}
use Rattle.hv_policy.specs.declared.event.Caller.{Caller}
use Rattle.hv_script.specs.declared.line.Line.{Line}
use Rattle.hv_phases.specs.Begun.{AreBegun, HasBegun}
use Rattle.hv_phases.specs.Lines.{asked_by}
use Rattle.hv_phases.specs.Turns.{IsPast, todo_of}
use Rattle.hv_phases.specs.declared.pass_map.Runner.{Runner}
use Rattle.hv_phases.specs.declared.turn.Turn.{Turn}
use Rattle.hv_shared.specs.ByCaller.{AreDifferent}
use Rattle.hv_shared.specs.Pass.{HasReceipts}
use Rattle.hv_shared.specs.PassValue.{PassValue}
use Rattle.hv_shared.specs.declared.receipts.Receipt.{Receipt}
use Rattle.hv_threads.specs.Perform.{AreWhole, IsStopped, IsWhole}
use Rattle.hv_threads.specs.declared.phase.Done.{Done}
use Rattle.hv_threads.specs.declared.phase.End.{End}
use Rattle.hv_threads.specs.declared.phase.End.TheVariants.{Finished, Host}
use Rattle.hv_threads.specs.declared.phase.Work.{Work}
use Rattle.indexmap.specs.IndexMap.{IndexMap, UpdatesBy, get}

-- the callers all differ, and include each processor that a line names
pub record AreCallersOf (lines : List (Line Global)) (callers : List Caller) : Type 0 where
  pub different : AreDifferent callers
  pub named : All (λ line. Contains callers line.by) lines

-- the key of a processor, and whether two keys are equal
abbrev pub key_of : Caller → ℕ × ℕ
key_of by = (by.part, by.vp)

abbrev pub is_key : ℕ × ℕ → ℕ × ℕ → Bool
is_key one other = (one.0 == other.0) && (one.1 == other.1)

-- what runs as a group: a line with `serial`, and otherwise lines of one phase
abbrev pub IsGroup : Bool → List (Line Global) → Type 0
IsGroup true lines = (line : Line Global) × (lines ≡ line ∷ [])
IsGroup false lines = (phase : ℕ) × All (λ line. line.phase ≡ phase) lines

-- A group that has ended: its lines, and the highest receipt number at its end. A list of groups begins with
-- the last one.
pub record Past : Type 0 where
  pub lines : List (Line Global)
  pub last : ℕ

-- the lines of these groups
abbrev pub lines_in : List Past → List (Line Global)
lines_in [] = []
lines_in (group ∷ past) = lines_in past ++ group.lines

-- the highest receipt number at the end of these groups
abbrev pub last_in : List Past → ℕ
last_in [] = 0
last_in (group ∷ past) = group.last

-- these are groups, and the highest number never falls
abbrev pub ArePast : Bool → List Past → Type 0
ArePast serial [] = ⊤
ArePast serial (group ∷ past) = IsGroup serial group.lines × (last_in past ≤ group.last) × ArePast serial past

-- the receipt's number is above one and not above another
abbrev pub IsWithin : ℕ → ℕ → Receipt → Type 0
IsWithin low high r = (low < r.number) × (r.number ≤ high)

-- any receipt
abbrev pub IsAny : Receipt → Type 0
IsAny r = ⊤

-- a processor's receipts in these groups: in each, what its lines ask for, after the last receipt of the
-- groups before it
abbrev pub AreBehind : Caller → List Past → List Receipt → Type 0
AreBehind by [] receipts = receipts ≡ []
AreBehind by (group ∷ past) receipts =
    (before : List Receipt) × (own : List Receipt) × (receipts ≡ before ++ own) × AreBehind by past before
    × AreWhole by (asked_by by group.lines) own × All (IsWithin (last_in past) group.last) own

-- the receipts of all these actions, or of a first part if the host stopped the processor
abbrev pub Did : Option HostRefused → Caller → List (Action Global) → List Receipt → Type 0
Did None by actions own = AreWhole by actions own
Did (Some why) by actions own = AreBegun by actions own

-- The processor's pass has the receipts of these groups, and behind them those of these lines, or of a first
-- part if the host stopped it. The latter receipts have this property.
pub record HasDone (P : Receipt → Type 0) (past : List Past) (taken : List (Line Global))
    (stop : Option HostRefused) (by : Caller) (pass : PassValue) : Type 0 where
  pub caller : pass.caller ≡ by
  pub counted : pass.share ≡ length pass.receipts
  pub before : List Receipt
  pub own : List Receipt
  pub receipts : pass.receipts ≡ before ++ own
  pub behind : AreBehind by past before
  pub did : Did stop by (asked_by by taken) own
  pub held : All P own

-- the pass is the processor's and new, and the host didn't stop it
pub record IsFresh (stop : Option HostRefused) (by : Caller) (pass : PassValue) : Type 0 where
  pub caller : pass.caller ≡ by
  pub none : pass.receipts ≡ []
  pub share : pass.share ≡ 0
  pub goes_on : stop ≡ None

-- the pass is the processor's, and has the receipts of a first part of what the lines ask of it
pub record HasBegunBy (lines : List (Line Global)) (stop : Option HostRefused) (by : Caller)
    (pass : PassValue) : Type 0 where
  pub caller : pass.caller ≡ by
  pub counted : pass.share ≡ length pass.receipts
  pub begun : HasBegun lines pass

-- the pass has the receipts of these groups, and behind them those of a first part of these lines
pub record IsPartOf (past : List Past) (taken : List (Line Global)) (pass : PassValue) : Type 0 where
  pub before : List Receipt
  pub own : List Receipt
  pub receipts : pass.receipts ≡ before ++ own
  pub behind : AreBehind pass.caller past before
  pub begun : AreBegun pass.caller (asked_by pass.caller taken) own
  pub above : All (λ r. last_in past < r.number) own

-- the passes' processors have run the lines before these in groups, each group after the one before it, and
-- then a first part of these, before the rest
pub record HaveRun (serial : Bool) (lines taken rest : List (Line Global)) (passes : List PassValue) : Type 0
  where
    pub past : List Past
    pub order : lines_in past ++ (taken ++ rest) ≡ lines
    pub rises : ArePast serial past
    pub each : All (IsPartOf past taken) passes

-- they have begun the lines of a phase, up to its end
pub record HavePart (serial : Bool) (lines : List (Line Global)) (passes : List PassValue) : Type 0 where
  pub taken : List (Line Global)
  pub rest : List (Line Global)
  pub phase : ℕ
  pub one : All (λ line. line.phase ≡ phase) taken
  pub ends : IsPast phase rest
  pub run : HaveRun serial lines taken rest passes

-- the receipts that a processor gained of an action, where the host had stopped it or not, and has now
abbrev pub Took : Option HostRefused → Option HostRefused → Caller → Action Global → List Receipt → Type 0
Took (Some why) now by what more = (now ≡ Some why) × (more ≡ [])
Took None None by what more = IsWhole by what more
Took None (Some why) by what more = IsStopped by what more

-- the pass has gained the receipts of an action, which have this property
pub record HasTaken (P : Receipt → Type 0) (what : Action Global) (was now : Option HostRefused)
    (old new : PassValue) : Type 0 where
  pub more : List Receipt
  pub gained : HasReceipts more old new
  pub took : Took was now old.caller what more
  pub held : All P more

-- why the host stopped a thread
abbrev pub stop_of : End → Option HostRefused
stop_of Finished = None
stop_of (Host why) = Some why

-- the receipts beyond these counts have numbers above one and not above another
abbrev pub AreWithin : {L : Type 0} → ℕ → ℕ → List ℕ → List (Done L) → Type 0
AreWithin {L} low high counts dones = (k : ℕ) (d : Done L) → k < length dones → All (IsWithin low high) (drop
    (slice_index_or counts k 0) (slice_index_or dones k d).pass.receipts)

-- the processors of a script, by their keys
abbrev pub RunnerMap : Type 0 → Type 0 → Type 0
RunnerMap L S = IndexMap (ℕ × ℕ) (Runner L) S

module _ {L : Type 0} where
  abbrev pub pass_in : Option (Runner L) → Option PassValue
  pass_in None = None
  pass_in (Some runner) = runner.pass

  abbrev pub stop_in : Option (Runner L) → Option HostRefused
  stop_in None = None
  stop_in (Some runner) = runner.stop

  -- a processor with a new pass
  abbrev pub fresh_of : PassValue → Runner L
  fresh_of pass = record { pass = Some pass; stop = None }

  -- a work is this processor's
  abbrev pub HasWorkOf : List (Work L) → Caller → Type 0
  HasWorkOf works by = (work : Work L) × Contains works work × (work.pass.caller ≡ by)

  -- the pass and the stop of what a thread had or has done
  abbrev pub back_of_work : Work L → PassValue × Option HostRefused
  back_of_work work = (work.pass, None)

  abbrev pub back_of_done : Done L → PassValue × Option HostRefused
  back_of_done done = (done.pass, stop_of done.end)

  -- the pass has gained the receipts of a work, or of a first part if the host stopped it, which have this
  -- property
  pub record HasWorked (P : Receipt → Type 0) (work : Work L) (stop : Option HostRefused)
      (pass : PassValue) : Type 0 where
    pub more : List Receipt
    pub gained : HasReceipts more work.pass pass
    pub did : Did stop work.pass.caller work.actions.items more
    pub held : All P more

module _ {L S : Type 0} where
  -- a processor's pass, if the map has it, and why the host stopped it
  abbrev pub pass_at : RunnerMap L S → Caller → Option PassValue
  pass_at runners by = pass_in (get is_key runners (key_of by))

  abbrev pub stop_at : RunnerMap L S → Caller → Option HostRefused
  stop_at runners by = stop_in (get is_key runners (key_of by))

  -- the processor is in the map, and so is its pass
  abbrev pub HasKey : RunnerMap L S → Caller → Type 0
  HasKey runners by = (runner : Runner L) × (get is_key runners (key_of by) ≡ Some runner)

  abbrev pub HasPass : RunnerMap L S → Caller → Type 0
  HasPass runners by = (pass : PassValue) × (pass_at runners by ≡ Some pass)

  -- the pass was added for its processor
  abbrev pub HasAdded : PassValue → RunnerMap L S → RunnerMap L S → Type 0
  HasAdded pass old new = UpdatesBy is_key (is_key (key_of pass.caller)) old new (Some (fresh_of pass))

  -- each processor whose pass is in the map has this property
  abbrev pub Each : (Option HostRefused → Caller → PassValue → Type 0) → RunnerMap L S → Type 0
  Each P runners = (by : Caller) (pass : PassValue) → pass_at runners by ≡ Some pass → P
      (stop_at runners by) by pass

  -- the host stopped no processor
  abbrev pub AreGoing : RunnerMap L S → Type 0
  AreGoing runners = (by : Caller) → stop_at runners by ≡ None

  -- each processor that had its pass has one
  abbrev pub HaveStayed : RunnerMap L S → RunnerMap L S → Type 0
  HaveStayed old new = (by : Caller) → HasPass old by → HasPass new by

  -- the map has the same pass of this processor, and stopped it or not as before
  abbrev pub IsSame : RunnerMap L S → RunnerMap L S → Caller → Type 0
  IsSame old new by = (pass_at new by ≡ pass_at old by) × (stop_at new by ≡ stop_at old by)

  -- Lines were run in groups, each after the one before it, and then these lines of one phase, before those
  -- that are left. The highest receipt number is `last`.
  pub record HasRunTo (serial : Bool) (lines taken left : List (Line Global)) (last : ℕ)
      (runners : RunnerMap L S) : Type 0 where
    pub past : List Past
    pub order : lines_in past ++ (taken ++ left) ≡ lines
    pub rises : ArePast serial past
    pub last_is : last_in past ≤ last
    pub each : Each (HasDone (IsWithin (last_in past) last) past taken) runners

  -- all lines were run
  abbrev pub HasRunAll : Bool → List (Line Global) → RunnerMap L S → Type 0
  HasRunAll serial lines runners = (last : ℕ) × HasRunTo serial lines [] [] last runners

  -- the lines of a phase were run up to its end, but for those of processors that the host stopped
  pub record HasRunPart (serial : Bool) (lines : List (Line Global)) (runners : RunnerMap L S) : Type 0 where
    pub taken : List (Line Global)
    pub rest : List (Line Global)
    pub last : ℕ
    pub phase : ℕ
    pub one : All (λ line. line.phase ≡ phase) taken
    pub ends : IsPast phase rest
    pub run : HasRunTo serial lines taken rest last runners

  -- the processor of a line took it, or has no pass in the map, and others are as before
  pub record HasRunLine (P : Receipt → Type 0) (line : Line Global) (old new : RunnerMap L S) : Type 0 where
    pub own : (was pass : PassValue) → pass_at old line.by ≡ Some was → pass_at new line.by ≡ Some pass
        → HasTaken P line.action (stop_at old line.by) (stop_at new line.by) was pass
    pub others : (by : Caller) → (by ≡ line.by → ⊥) → IsSame old new by
    pub back : (by : Caller) → HasPass new by → HasPass old by
    pub stayed : HaveStayed old new

  -- the turns of a phase were handed to their processors, whose passes are out of the map
  pub record HasHanded (turns : List Turn) (works : List (Work L)) (old new : RunnerMap L S) : Type 0 where
    pub idle : (by : Caller) (pass : PassValue) → pass_at new by ≡ Some pass → (pass_at old by ≡ Some pass) ×
        (todo_of by turns ≡ [])
    pub busy : All (λ work. (pass_at old work.pass.caller ≡ Some work.pass) × (work.actions.items ≡ todo_of
        work.pass.caller turns)) works
    pub stops : (by : Caller) → stop_at new by ≡ stop_at old by
    pub keys : (by : Caller) → HasKey old by → HasKey new by
    pub all : (by : Caller) → HasPass old by → HasPass new by ⊎ HasWorkOf works by

  -- Passes went back into the map, each with why the host stopped its processor. Others are as before.
  pub record HasBack (backs : List (PassValue × Option HostRefused)) (old new : RunnerMap L S) : Type 0 where
    pub from : (by : Caller) (pass : PassValue) → pass_at new by ≡ Some pass → IsSame old new by ⊎
        (Contains backs (pass, stop_at new by) × (pass.caller ≡ by))
    pub stops : (by : Caller) → (stop_at new by ≡ stop_at old by) ⊎ ((pass : PassValue) × Contains backs
        (pass, stop_at new by))
    pub keys : (by : Caller) → HasKey old by → HasKey new by
    pub stayed : HaveStayed old new
    pub there : All (λ back. HasPass new back.0.caller) backs

  -- these works were done, and their passes are back in the map
  pub record HasRunWorks (P : Receipt → Type 0) (works : List (Work L)) (old new : RunnerMap L S) : Type 0
    where
      pub from : (by : Caller) (pass : PassValue) → pass_at new by ≡ Some pass → IsSame old new by ⊎
          ((work : Work L) × Contains works work × (work.pass.caller ≡ by) × HasWorked P work
          (stop_at new by) pass)

  -- these passes are those of these processors, in order, in the map
  pub record HaveLeft (runners : RunnerMap L S) (callers : List Caller) (passes : List PassValue) : Type 0
    where
      pub count : length passes ≡ length callers
      pub each : (k : ℕ) (by : Caller) (pass : PassValue) → k < length callers → pass_at runners
          (slice_index_or callers k by) ≡ Some (slice_index_or passes k pass)
