-- Histories in which each group of lines stands behind the groups before it.
use Rattle.std.proofs.Common.{◌≡◌, ℕ, ◌+◌, ◌<◌, ◌≤◌, List, [], ◌∷◌, ◌++◌, length, take, drop, refl, sym, ap, ◌∙◌, subst, arith, append-nil, append_assoc, Bool}
use Rattle.std.proofs.Common.{true, false, inl, inr, ◌⊎◌, All, get_or}
use Rattle.std.proofs.Common.{if◌then◌else◌, Contains, length-append, length-drop, Global}
use Rattle.std.proofs.lemmas.List.{length-take, take-append-drop}
use Rattle.std.proofs.lemmas.List.Elements.{All-cons, All-head, All-nil, All-tail, All-weaker}
use Rattle.hv_history.specs.declared.entry.Entry.{Entry}
use Rattle.hv_policy.specs.declared.event.Action.{Action}
use Rattle.hv_policy.specs.declared.event.Caller.{Caller}
use Rattle.hv_phases.specs.Begun.{AreBegun, IsFirstPart}
use Rattle.hv_phases.specs.PassMap.{AreBehind, AreCallersOf, ArePast, IsWithin, Past, last_in, lines_in}
use Rattle.hv_phases.specs.Turns.{IsPast}
use Rattle.hv_phases.specs.Lines.{AreApart, AreInOrder, ArePhased, AreRun, HasCut, asked_by}
use Rattle.hv_phases.proofs.AskedOfProcessor.{All-first, All-second, asked_by-append, asked_by_other, asked_by_own, either, whole-append}
use Rattle.hv_phases.proofs.GroupsInOrder.{behind_within}
use Rattle.hv_phases.proofs.RenumberedReceipts.{whole_at}
use Rattle.hv_script.specs.declared.line.Line.{Line}
use Rattle.hv_shared.proofs.Callers.{is_another, is_itself}
use Rattle.hv_shared.specs.ByCaller.{is_caller, receipts_by}
use Rattle.hv_shared.specs.Pass.{receipt}
use Rattle.hv_shared.specs.declared.receipts.Receipt.{Receipt}
use Rattle.hv_threads.proofs.OwnReceipts.{IsBy, receipts-append}
use Rattle.hv_threads.specs.Perform.{AreWhole, IsWhole}

-- another's entries
receipts_of_other : (by other : Caller) → (other ≡ by → ⊥) → (n : ℕ) (es : List (Entry Global)) → All (IsBy other) es → receipts_by by n es ≡ []
receipts_of_other by other apart n [] all = refl
receipts_of_other by other apart n (e ∷ es) all =
    rw (is_another by e.event.by (λ same. apart (sym (All-head (IsBy other) e es all) ∙ same))) (receipts_of_other by other apart (n + 1) es
    (All-tail (IsBy other) e es all))

-- who has no receipt has no entry
none_by : (c : Caller) (n : ℕ) (es : List (Entry Global)) → receipts_by c n es ≡ [] → All (λ e. e.event.by ≡ c → ⊥) es
none_by c n [] none = All-nil (λ (e : Entry Global). e.event.by ≡ c → ⊥)
none_by c n (e ∷ es) none =
    either c e.event.by (λ same. let some = rw (is_itself c e.event.by same) at none in cc)
    (λ other. All-cons (λ (e : Entry Global). e.event.by ≡ c → ⊥) e es other (none_by c (n + 1) es (rw (is_another c e.event.by other) at none)))

no_entries : (n : ℕ) (es : List (Entry Global)) → ((c : Caller) → receipts_by c n es ≡ []) → es ≡ []
no_entries n [] none = refl
no_entries n (e ∷ es) none = absurd (none_by e.event.by n (e ∷ es) (none e.event.by) 0 e (omega arith) refl)

all_by : (by : Caller) (n : ℕ) (es : List (Entry Global)) → ((c : Caller) → (c ≡ by → ⊥) → receipts_by c n es ≡ []) → All (IsBy by) es
all_by by n es none k d less =
    let c = (get_or es k d).event.by in
    either by c (λ same. same) (λ other. absurd (none_by c n es (none c other) k d less refl))

-- the numbers of receipts are those of the entries
all_if : (P : Receipt → Type 0) (b : Bool) (r : Receipt) (rs : List Receipt) → P r → All P rs → All P (if b then r ∷ rs else rs)
all_if P true r rs p all = All-cons P r rs p all
all_if P false r rs p all = all

within : (c : Caller) (low high n : ℕ) (es : List (Entry Global)) → (0 < length es → low < n) → n + length es ≤ high + 1
    → All (IsWithin low high) (receipts_by c n es)
within c low high n [] above up_to = All-nil (IsWithin low high)
within c low high n (e ∷ es) above up_to =
    let here : low < n = above (omega arith) in
    all_if (IsWithin low high) (is_caller c e.event.by) (receipt n e.event e.reply) (receipts_by c (n + 1) es) (here, omega (arith, up_to))
    (within c low high (n + 1) es (λ _. omega (arith, here)) (omega (arith, up_to)))

-- a list is cut between these and those in one way
same_cut : {X : Type 0} (P Q : X → Type 0) → ((x : X) → P x → Q x → ⊥) → (xs ys zs ws : List X) → xs ++ ys ≡ zs ++ ws → All P xs → All Q ys → All P zs
    → All Q ws → (xs ≡ zs) × (ys ≡ ws)
same_cut P Q not_both [] ys [] ws is p q r s = (refl, is)
same_cut P Q not_both [] ys (z ∷ zs) ws is p q r s = absurd (not_both z (All-head P z zs r) (All-head Q z (zs ++ ws) (subst (All Q) is q)))
same_cut P Q not_both (x ∷ xs) ys [] ws is p q r s = absurd (not_both x (All-head P x xs p) (All-head Q x (xs ++ ys) (subst (All Q) (sym is) s)))
same_cut P Q not_both (x ∷ xs) ys (z ∷ zs) ws is p q r s =
    let one : x ≡ z = cc in
    let more = same_cut P Q not_both xs ys zs ws (cc) (All-tail P x xs p) q (All-tail P z zs r) s in
    ((λ i. one i ∷ more.0 i), more.1)

-- a first part of these lines
abbrev pub Begins : List (Line Global) → Caller → List Receipt → Type 0
Begins lines c list = AreBegun c (asked_by c lines) list

-- what a processor has: receipts of groups, and behind them some of which this holds
abbrev pub HasPart : List Past → (Caller → List Receipt → Type 0) → Caller → List Receipt → Type 0
HasPart past P c list = (before : List Receipt) × (own : List Receipt) × (list ≡ before ++ own) × AreBehind c past before × P c own × All
    (λ r. last_in past < r.number) own

-- the entries of these groups, and behind them those of which this holds for each processor
pub record IsCutOff (past : List Past) (P : Caller → List Receipt → Type 0) (es : List (Entry Global)) : Type 0 where
  pub own : List (Entry Global)
  pub rest : List (Entry Global)
  pub parts : es ≡ own ++ rest
  pub behind : (c : Caller) → AreBehind c past (receipts_by c 1 own)
  pub more : (c : Caller) → P c (receipts_by c (1 + length own) rest)

pub cut_off : (serial : Bool) (past : List Past) (P : Caller → List Receipt → Type 0) (es : List (Entry Global)) → ArePast serial past
    → ((c : Caller) → HasPart past P c (receipts_by c 1 es))
    → IsCutOff past P es
cut_off serial past P es are part =
    let last = last_in past in
    let before = take last es in
    let own = drop last es in
    let n = 1 + length before in
    let Low : Receipt → Type 0 = IsWithin 0 last in
    let High : Receipt → Type 0 = λ (r : Receipt). last < r.number in
    let same : (c : Caller) → (receipts_by c 1 before ≡ (part c).0) × (receipts_by c n own ≡ (part c).1) = λ c.
    let b = part c in
    same_cut Low High (λ r low high. omega (arith, low.1, high)) (receipts_by c 1 before) (receipts_by c n own) b.0 b.1
    (sym (receipts-append c 1 before own) ∙ ap (receipts_by c 1) (take-append-drop last es)
    ∙ b.2) (within c 0 last 1 before (λ _. omega arith) (omega (arith, length-take last es)))
    (All-weaker (IsWithin last (length es)) High (λ r is. is.0) (receipts_by c n own)
    (within c last (length es) n own (λ some. omega (arith, some, length-take last es, length-drop last es))
    (omega (arith, length-take last es, length-drop last es))))
    (behind_within serial c past b.0 are b.3) b.5 in
    record {
      own = before;
      rest = own;
      parts = sym (take-append-drop last es);
      behind = λ c. subst (AreBehind c past) (sym (same c).0) (part c).3;
      more = λ c. subst (P c) (sym (same c).1) (part c).4;
    }

-- the entries of these groups, each group behind the one before it
abbrev AreCut : List Past → List (Entry Global) → Type 0
AreCut [] es = es ≡ []
AreCut (group ∷ past) es = (before : List (Entry Global)) × (own : List (Entry Global)) × (es ≡ before ++ own) × AreCut past before × AreRun group.lines own

cut_of : (serial : Bool) (past : List Past) (es : List (Entry Global)) → ArePast serial past → ((c : Caller) → AreBehind c past (receipts_by c 1 es))
    → AreCut past es
cut_of serial [] es are behind = no_entries 1 es behind
cut_of serial (group ∷ past) es are behind =
    let off = cut_off serial past (λ (c : Caller) (own : List Receipt). AreWhole c (asked_by c group.lines) own) es are.2
    (λ c. let b = behind c in (
      b.0,
      b.1,
      b.2,
      b.3,
      b.4,
      All-weaker (IsWithin (last_in past) group.last) (λ (r : Receipt). last_in past < r.number)
          (λ r is. is.0) b.1 b.5,
    )) in (
      off.own,
      off.rest,
      off.parts,
      cut_of serial past off.own are.2 off.behind,
      λ c. whole_at (1 + length off.own) 1 c (asked_by c group.lines) off.rest
          (off.more c),
    )

-- a history of groups of these lines
pub record IsGrouped (serial : Bool) (lines : List (Line Global)) (history : List (Entry Global)) : Type 0 where
  pub past : List Past
  pub lines_are : lines_in past ≡ lines
  pub rises : ArePast serial past
  pub cut : AreCut past history

-- nothing is behind them where no line is left
pub cut_whole : (serial : Bool) (past : List Past) (es : List (Entry Global)) → ArePast serial past → IsCutOff past (Begins []) es
    → IsGrouped serial (lines_in past) es
cut_whole serial past es are off =
    let none : off.rest ≡ [] = no_entries (1 + length off.own) off.rest off.more in
    let all : es ≡ off.own = off.parts ∙ ap (λ (l : List (Entry Global)). off.own ++ l) none ∙ append-nil off.own in
    record { past = past; lines_are = refl; rises = are; cut = subst (AreCut past) (sym all) (cut_of serial past off.own are off.behind) }

run-append : (xs ys : List (Line Global)) (own rest : List (Entry Global)) → AreRun xs own → AreRun ys rest → AreRun (xs ++ ys) (own ++ rest)
run-append xs ys own rest did more c =
    let n = 1 + length own in
    subst (AreWhole c (asked_by c (xs ++ ys))) (sym (receipts-append c 1 own rest))
    (subst (λ (acts : List (Action Global)). AreWhole c acts (receipts_by c 1 own ++ receipts_by c n rest)) (sym (asked_by-append c xs ys))
    (whole-append c (asked_by c xs) (asked_by c ys) (receipts_by c 1 own) (receipts_by c n rest) (did c) (whole_at 1 n c (asked_by c ys) rest (more c))))

cut_run : (past : List Past) (es : List (Entry Global)) → AreCut past es → AreRun (lines_in past) es
cut_run [] es none = λ c. ap (receipts_by c 1) none
cut_run (group ∷ past) es cut = subst (AreRun (lines_in past ++ group.lines)) (sym cut.2) (run-append (lines_in past) group.lines cut.0 cut.1
    (cut_run past cut.0 cut.3) cut.4)

pub all_run : (serial : Bool) (lines : List (Line Global)) (history : List (Entry Global)) → IsGrouped serial lines history → AreRun lines history
all_run serial lines history are = subst (λ (ls : List (Line Global)). AreRun ls history) are.lines_are (cut_run are.past history are.cut)

-- two ways to cut a list: the first cut isn't behind the other, or it is
compare : {X : Type 0} (xs ys zs ws : List X) → xs ++ ys ≡ zs ++ ws
    → ((mid : List X) × (zs ≡ xs ++ mid) × (ys ≡ mid ++ ws)) ⊎ ((next : X) × (mid : List X) × (xs ≡ zs ++ next ∷ mid) × (ws ≡ next ∷ mid ++ ys))
compare [] ys zs ws is = inl (zs, refl, is)
compare (x ∷ xs) ys [] ws is = inr (x, xs, refl, sym is)
compare (x ∷ xs) ys (z ∷ zs) ws is =
    let one : x ≡ z = cc in
    elim (compare xs ys zs ws (cc)) [
      | inl c ↦ inl (c.0, λ i. (sym one) i ∷ c.1 i, c.2)
      | inr c ↦ inr (c.0, c.1, λ i. one i ∷ c.2 i, c.3)
    ]

-- a history of phases is cut between any two
phased : (past : List Past) (es : List (Entry Global)) (before after : List (Line Global)) → ArePast false past → AreCut past es
    → lines_in past ≡ before ++ after → AreApart before after
    → HasCut before after es
phased past es before [] are cut is apart =
    let run = subst (λ (ls : List (Line Global)). AreRun ls es) (is ∙ append-nil before) (cut_run past es cut) in
    record { own = es; rest = []; all = sym (append-nil es); before_run = run; after_run = λ c. refl }
phased [] es before (line ∷ after) are cut is apart = absurd (omega (arith, ap length is, length-append before (line ∷ after)))
phased (group ∷ past) es before (line ∷ after) are cut is apart =
    elim (compare before (line ∷ after) (lines_in past) group.lines (sym is)) [
      | inl c ↦
          let later = λ (k : ℕ) (d : Line Global) (less : k < length before).
          let P : Line Global → Type 0 = λ (next : Line Global). (get_or before k d).phase < next.phase in
          All-first P c.0 group.lines (subst (All P) c.2 (apart k d less)) in
          let first = phased past cut.0 before c.0 are.2 cut.3 c.1 later in
          record {
            own = first.own;
            rest = first.rest ++ cut.1;
            all = cut.2 ∙ ap (λ (l : List (Entry Global)). l ++ cut.1) first.all ∙ append_assoc first.own first.rest cut.1;
            before_run = first.before_run;
            after_run = subst (λ (ls : List (Line Global)). AreRun ls (first.rest ++ cut.1)) (sym c.2)
                (run-append c.0 group.lines first.rest cut.1 first.after_run cut.4);
          }
      | inr c ↦
          let next = c.0 in
          let P : Line Global → Type 0 = λ (l : Line Global). l.phase ≡ are.0.0 in
          let Q : Line Global → Type 0 = λ (l : Line Global). All (λ (n : Line Global). l.phase < n.phase) (line ∷ after) in
          let all = subst (All P) c.3 are.0.1 in
          let here : next.phase ≡ are.0.0 = All-head P next (c.1 ++ line ∷ after) all in
          let there : line.phase ≡ are.0.0 = All-head P line after (All-second P (next ∷ c.1) (line ∷ after) all) in
          let less : next.phase < line.phase = All-head Q next c.1 (All-second Q (lines_in past) (next ∷ c.1) (subst (All Q) c.2 apart)) 0 line (omega arith) in
          absurd (omega (arith, here, there, less))
    ]

one_whole : (by : Caller) (what : Action Global) (list : List Receipt) → AreWhole by (what ∷ []) list → IsWhole by what list
one_whole by what list some = subst (IsWhole by what) (sym (some.2 ∙ ap (λ (l : List Receipt). some.0 ++ l) some.4 ∙ append-nil some.0)) some.3

-- what was done for some lines, and then for others
pub order-append : (n : ℕ) (xs ys : List (Line Global)) (es fs : List (Entry Global)) → AreInOrder n xs es → AreInOrder (n + length es) ys fs
    → AreInOrder n (xs ++ ys) (es ++ fs)
order-append n [] ys es fs none more =
    let at : n + length es ≡ n = let e = ap length none in omega arith in
    subst (AreInOrder n ys) (sym (ap (λ (l : List (Entry Global)). l ++ fs) none)) (subst (λ (k : ℕ). AreInOrder k ys fs) at more)
order-append n (x ∷ xs) ys es fs some more =
    let at : n + length es ≡ (n + length some.0) + length some.1 = let e = ap length some.2 in omega (arith, length-append some.0 some.1) in (
      some.0,
      some.1 ++ fs,
      ap (λ (l : List (Entry Global)). l ++ fs) some.2 ∙ append_assoc some.0 some.1 fs,
      some.3,
      some.4,
      order-append (n + length some.0) xs ys some.1 fs some.5 (subst (λ (k : ℕ). AreInOrder k ys fs) at more),
    )

-- and for one line more
pub order-push : (n : ℕ) (lines : List (Line Global)) (es : List (Entry Global)) (line : Line Global) (own : List (Entry Global)) → AreInOrder n lines es
    → All (IsBy line.by) own
    → IsWhole line.by line.action (receipts_by line.by (n + length es) own) → AreInOrder n (lines ++ line ∷ []) (es ++ own)
order-push n lines es line own some all whole = order-append n lines (line ∷ []) es own some (own, [], sym (append-nil own), all, whole, refl)

-- groups of one line each are lines in order
in_order : (past : List Past) (es : List (Entry Global)) → ArePast true past → AreCut past es → AreInOrder 1 (lines_in past) es
in_order [] es are none = none
in_order (group ∷ past) es are cut =
    let line = are.0.0 in
    let own = cut.1 in
    let run : AreRun (line ∷ []) own = subst (λ (ls : List (Line Global)). AreRun ls own) are.0.1 cut.4 in
    let others = λ (c : Caller) (other : c ≡ line.by → ⊥). subst (λ (acts : List (Action Global)). AreWhole c acts (receipts_by c 1 own))
    (asked_by_other c line (λ same. other (sym same))) (run c) in
    let whole = subst (λ (acts : List (Action Global)). AreWhole line.by acts (receipts_by line.by 1 own)) (asked_by_own line.by line refl) (run line.by) in
    subst (AreInOrder 1 (lines_in past ++ group.lines)) (sym cut.2)
    (subst (λ (ls : List (Line Global)). AreInOrder 1 (lines_in past ++ ls) (cut.0 ++ own)) (sym are.0.1)
    (order-push 1 (lines_in past) cut.0 line own (in_order past cut.0 are.2 cut.3) (all_by line.by 1 own others)
    (let n = 1 + length cut.0 in one_whole line.by line.action (receipts_by line.by n own) (whole_at 1 n line.by (line.action ∷ []) own whole))))

pub all_in_order : (lines : List (Line Global)) (history : List (Entry Global)) → IsGrouped true lines history → AreInOrder 1 lines history
all_in_order lines history are = subst (λ (ls : List (Line Global)). AreInOrder 1 ls history) are.lines_are (in_order are.past history are.rises are.cut)

-- lines in order are cut between any two
line_run : (line : Line Global) (n : ℕ) (own : List (Entry Global)) → All (IsBy line.by) own → IsWhole line.by line.action (receipts_by line.by n own)
    → AreRun (line ∷ []) own
line_run line n own all whole c =
    either line.by c
    (λ same.
    subst (λ (acts : List (Action Global)). AreWhole c acts (receipts_by c 1 own)) (sym (asked_by_own c line (sym same)))
    (whole_at n 1 c (line.action ∷ []) own (
      receipts_by c n own,
      [],
      sym (append-nil (receipts_by c n own)),
      subst (λ (x : Caller). IsWhole x line.action (receipts_by x n own)) (sym same) whole,
      refl,
    )))
    (λ other.
    let apart : line.by ≡ c → ⊥ = λ same. other (sym same) in
    subst (λ (acts : List (Action Global)). AreWhole c acts (receipts_by c 1 own)) (sym (asked_by_other c line apart))
    (receipts_of_other c line.by apart 1 own all))

pub order_run : (n : ℕ) (lines : List (Line Global)) (es : List (Entry Global)) → AreInOrder n lines es → AreRun lines es
order_run n [] es none = λ c. ap (receipts_by c 1) none
order_run n (line ∷ lines) es some =
    subst (AreRun (line ∷ lines)) (sym some.2)
    (run-append (line ∷ []) lines some.0 some.1 (line_run line n some.0 some.3 some.4) (order_run (n + length some.0) lines some.1 some.5))

order_cut : (n : ℕ) (before after : List (Line Global)) (es : List (Entry Global)) → AreInOrder n (before ++ after) es → HasCut before after es
order_cut n [] after es order = record { own = []; rest = es; all = refl; before_run = λ c. refl; after_run = order_run n after es order }
order_cut n (line ∷ before) after es some =
    let more = order_cut (n + length some.0) before after some.1 some.5 in
    record {
      own = some.0 ++ more.own;
      rest = more.rest;
      all = some.2 ∙ ap (λ (l : List (Entry Global)). some.0 ++ l) more.all ∙ sym (append_assoc some.0 more.own more.rest);
      before_run = run-append (line ∷ []) before some.0 more.own (line_run line n some.0 some.3 some.4) more.before_run;
      after_run = more.after_run;
    }

pub in_order_phased : (lines : List (Line Global)) (history : List (Entry Global)) → AreInOrder 1 lines history → ArePhased lines history
in_order_phased lines history order before after is apart = order_cut 1 before after history (subst (λ (ls : List (Line Global)). AreInOrder 1 ls history) is
    order)

pub all_phased : (serial : Bool) (lines : List (Line Global)) (history : List (Entry Global)) → IsGrouped serial lines history → ArePhased lines history
all_phased true lines history are = in_order_phased lines history (all_in_order lines history are)
all_phased false lines history are = λ before after is apart. phased are.past history before after are.rises are.cut (are.lines_are ∙ is) apart

-- there is nothing where nobody is named
pub nothing : (lines : List (Line Global)) (callers : List Caller) (history : List (Entry Global)) → AreCallersOf lines callers → callers ≡ [] → history ≡ []
    → IsGrouped true lines history
nothing [] callers history of none empty = record { past = []; lines_are = refl; rises = tt; cut = empty }
nothing (line ∷ lines) callers history of none empty =
    let there : Contains callers line.by = All-head (λ (l : Line Global). Contains callers l.by) line lines of.named in
    let k = subst (λ (xs : List Caller). Contains xs line.by) none there in
    absurd (omega (arith, k.1))

-- so the history is a first part of the lines
pub first_part : (serial : Bool) (past : List Past) (taken rest lines : List (Line Global)) (history : List (Entry Global)) (phase : ℕ) → ArePast serial past
    → lines_in past ++ (taken ++ rest) ≡ lines
    → All (λ line. line.phase ≡ phase) taken → IsPast phase rest → IsCutOff past (Begins taken) history → IsFirstPart serial lines history
first_part serial past taken rest lines history phase are order one ends off =
    let own : IsGrouped serial (lines_in past) off.own = record {
      past = past;
      lines_are = refl;
      rises = are;
      cut = cut_of serial past off.own are off.behind;
    } in
    record {
      before = lines_in past;
      block = taken;
      after = rest;
      all = order;
      phase = phase;
      one = one;
      past = ends;
      own = off.own;
      rest = off.rest;
      parts = off.parts;
      run = all_run serial (lines_in past) off.own own;
      phased = all_phased serial (lines_in past) off.own own;
      in_order = λ is. all_in_order (lines_in past) off.own (subst (λ (s : Bool). IsGrouped s (lines_in past) off.own) is own);
      begun = off.more;
    }
