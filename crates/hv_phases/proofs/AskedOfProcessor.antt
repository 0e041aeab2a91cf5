-- What lines ask of a processor, and what receipts it has of them.
use Rattle.std.proofs.Common.{◌≡◌, ◌+◌, List, [], ◌∷◌, ◌++◌, refl, sym, ap, ◌∙◌, subst, append_assoc, Bool, cond, true, false, map, filter, All, Contains, Global}
use Rattle.std.specs.Bool.{Decides}
use Rattle.std.proofs.lemmas.Bool.{false≢true}
use Rattle.std.proofs.lemmas.List.{map-append}
use Rattle.std.proofs.lemmas.List.Elements.{filter-append, All-head, All-tail, All-append, All-cons, All-nil, All-push}
use Rattle.hv_abi.specs.declared.frame.Frame.{Frame}
use Rattle.hv_policy.specs.declared.event.Action.{Action}
use Rattle.hv_policy.specs.declared.event.Action.TheVariants.{Hypercall, ReadMsr, WriteMsr, ReadSlot, ClearSlot, ReadFlags, ClearFlag, TakeInterrupt}
use Rattle.hv_policy.specs.declared.event.Caller.{Caller}
use Rattle.hv_phases.specs.Lines.{asked_by}
use Rattle.hv_script.specs.declared.line.Line.{Line}
use Rattle.hv_shared.proofs.Callers.{is_another, is_itself, same_caller}
use Rattle.hv_shared.specs.ByCaller.{is_caller}
use Rattle.hv_history.specs.Run.{restart, start_of}
use Rattle.hv_shared.specs.Drive.{AreElements}
use Rattle.hv_threads.specs.Perform.{AreWhole, IsAccess, IsCall, IsWhole}
use Rattle.hv_shared.specs.declared.receipts.Receipt.{Receipt}

abbrev pub Lines : Type 0
Lines = List (Line Global)

abbrev pub Actions : Type 0
Actions = List (Action Global)

pub decides : (a b : Caller) → Decides (is_caller a b) (a ≡ b)
decides a b = ((λ is. sym (same_caller a b is)), (λ same. is_itself a b (sym same)))

-- two processors are one or not
pub either : {X : Type 0} (by c : Caller) → (c ≡ by → X) → ((c ≡ by → ⊥) → X) → X
either {X} by c same other = go (is_caller by c) refl
  where
    go : (t : Bool) → is_caller by c ≡ t → X
    go true is = same (same_caller by c is)
    go false is = other (λ e. false≢true (sym is ∙ is_itself by c e))

-- what holds of each of two lists together holds of each of one of them
pub All-second : {X : Type 0} (P : X → Type 0) (xs ys : List X) → All P (xs ++ ys) → All P ys
All-second P [] ys all = all
All-second P (x ∷ xs) ys all = All-second P xs ys (All-tail P x (xs ++ ys) all)

pub All-first : {X : Type 0} (P : X → Type 0) (xs ys : List X) → All P (xs ++ ys) → All P xs
All-first P [] ys all = All-nil P
All-first P (x ∷ xs) ys all = All-cons P x xs (All-head P x (xs ++ ys) all) (All-first P xs ys (All-tail P x (xs ++ ys) all))

pub asked_by-append : (by : Caller) (xs ys : List (Line Global)) → asked_by by (xs ++ ys) ≡ asked_by by xs ++ asked_by by ys
asked_by-append by xs ys =
    ap (map (λ (l : Line Global). l.action)) (filter-append (λ (l : Line Global). is_caller by l.by) xs ys)
    ∙ map-append (λ (l : Line Global). l.action) (filter (λ (l : Line Global). is_caller by l.by) xs) (filter (λ (l : Line Global). is_caller by l.by) ys)

-- a line of its own
pub asked_by_own : (by : Caller) (line : Line Global) → line.by ≡ by → asked_by by (line ∷ []) ≡ line.action ∷ []
asked_by_own by line own = ap (λ (b : Bool). map (λ (l : Line Global). l.action) (cond b (line ∷ []) [])) (is_itself by line.by own)

-- a line of another
pub asked_by_other : (by : Caller) (line : Line Global) → (line.by ≡ by → ⊥) → asked_by by (line ∷ []) ≡ []
asked_by_other by line other = ap (λ (b : Bool). map (λ (l : Line Global). l.action) (cond b (line ∷ []) [])) (is_another by line.by other)

-- the first line of a processor, and lines that ask nothing of any
pub asked_first : (c : Caller) (line : Line Global) (lines : Lines) → line.by ≡ c → asked_by c (line ∷ lines) ≡ line.action ∷ asked_by c lines
asked_first c line lines own = asked_by-append c (line ∷ []) lines ∙ ap (λ (l : Actions). l ++ asked_by c lines) (asked_by_own c line own)

pub none_asked : (block : Lines) → ((c : Caller) → asked_by c block ≡ []) → block ≡ []
none_asked [] none = refl
none_asked (l ∷ block) none = absurd (let same : l.action ∷ asked_by l.by block ≡ [] = sym (asked_first l.by l block refl) ∙ none l.by in cc)

-- no line names it
pub asked_by_none : (by : Caller) (callers : List Caller) (lines : List (Line Global)) → All (λ line. Contains callers line.by) lines → (Contains callers by → ⊥) → asked_by by lines ≡ []
asked_by_none by callers [] named none = refl
asked_by_none by callers (line ∷ lines) named none =
    let first : Contains callers line.by = All-head (λ (l : Line Global). Contains callers l.by) line lines named in
    let rest = asked_by_none by callers lines (All-tail (λ (l : Line Global). Contains callers l.by) line lines named) none in
    ap (λ (b : Bool). map (λ (l : Line Global). l.action) (cond b (line ∷ filter (λ (l : Line Global). is_caller by l.by) lines) (filter (λ (l : Line Global). is_caller by l.by) lines)))
    (is_another by line.by (λ same. none (subst (λ (c : Caller). Contains callers c) same first))) ∙ rest

pub whole-append : (by : Caller) (acts bs : List (Action Global)) (xs ys : List Receipt) → AreWhole by acts xs → AreWhole by bs ys → AreWhole by (acts ++ bs) (xs ++ ys)
whole-append by [] bs xs ys none more = subst (λ (l : List Receipt). AreWhole by bs (l ++ ys)) (sym none) more
whole-append by (a ∷ acts) bs xs ys some more =
    (some.0, some.1 ++ ys, ap (λ (l : List Receipt). l ++ ys) some.2 ∙ append_assoc some.0 some.1 ys, some.3, whole-append by acts bs some.1 ys some.4 more)

-- an action is a hypercall or an access
pub by_kind : (P : (List Receipt → Type 0) → Type 0) (by : Caller) → ((frame : Frame Global) → P (IsCall by frame)) → ((what : Action Global) → P (IsAccess by what)) → (what : Action Global)
    → P (IsWhole by what)
by_kind P by call access (Hypercall frame) = call frame
by_kind P by call access (ReadMsr msr) = access (ReadMsr msr)
by_kind P by call access (WriteMsr msr value) = access (WriteMsr msr value)
by_kind P by call access (ReadSlot sint) = access (ReadSlot sint)
by_kind P by call access (ClearSlot sint) = access (ClearSlot sint)
by_kind P by call access (ReadFlags sint) = access (ReadFlags sint)
by_kind P by call access (ClearFlag sint flag) = access (ClearFlag sint flag)
by_kind P by call access TakeInterrupt = access TakeInterrupt

abbrev pub IsBy : Caller → Receipt → Type 0
IsBy by r = r.event.by ≡ by

pub elements_by : (by : Caller) (frame : Frame Global) (list : List Receipt) (now : Frame Global) → AreElements by frame list now → All (IsBy by) list
elements_by by frame [] now elements = All-nil (IsBy by)
elements_by by frame (r ∷ rs) now elements =
    All-cons (IsBy by) r rs (ap (λ e. e.by) elements.0) (elements_by by (restart frame (start_of frame + 1)) rs now elements.2)

call_by : (by : Caller) (frame : Frame Global) (list : List Receipt) → IsCall by frame list → All (IsBy by) list
call_by by frame list call =
    let w = call.whole in
    subst (All (IsBy by)) (sym w.all) (All-push (IsBy by) w.before _ (elements_by by frame w.before call.last w.elements) refl)

access_by : (by : Caller) (what : Action Global) (list : List Receipt) → IsAccess by what list → All (IsBy by) list
access_by by what list access = subst (All (IsBy by)) (sym access.all) (All-push (IsBy by) [] _ (All-nil (IsBy by)) refl)

-- the receipts of a whole action are by its caller
pub one_by : (by : Caller) (what : Action Global) (list : List Receipt) → IsWhole by what list → All (IsBy by) list
one_by by what list is = by_kind (λ (W : List Receipt → Type 0). (list : List Receipt) → W list → All (IsBy by) list) by (call_by by) (access_by by) what list is

-- and so are those of whole actions
pub whole_by : (by : Caller) (actions : List (Action Global)) (list : List Receipt) → AreWhole by actions list → All (IsBy by) list
whole_by by [] list none = subst (All (IsBy by)) (sym none) (All-nil (IsBy by))
whole_by by (a ∷ actions) list some =
    subst (All (IsBy by)) (sym some.2)
    (All-append (IsBy by) some.0 some.1 (one_by by a some.0 some.3) (whole_by by actions some.1 some.4))
