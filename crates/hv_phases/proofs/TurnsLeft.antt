-- What turns have left to do.
use Rattle.std.proofs.Common.{◌⊎◌, nat_le, ◌≡◌, ℕ, zero, suc, inl, inr, ◌+◌, ◌<◌, ◌≤◌, ◌≢◌, List, [], ◌∷◌, ◌++◌, refl, sym, ap, ◌∙◌, subst, arith, append_assoc, append-nil, add-one, length, get_or}
use Rattle.std.proofs.Common.{take, drop, Bool, true, false, cond, length-drop, length-take-le, take-append-drop, Global}
use Rattle.std.proofs.lemmas.Bool.{cases_lt, false≢true}
use Rattle.std.proofs.lemmas.Bool.Decides.{nat_tests}
use Rattle.std.proofs.Math.ListN.{set}
use Rattle.std.proofs.Math.Seq.{drop-cons, get_or-append_seam, set-append_seam, take-suc}
use Rattle.std.proofs.lemmas.List.{drop_all}
use Rattle.hv_phases.specs.Lines.{asked_by}
use Rattle.hv_phases.proofs.AskedOfProcessor.{Actions, asked_by_other, asked_by_own}
use Rattle.hv_policy.specs.declared.event.Action.{Action}
use Rattle.hv_policy.specs.declared.event.Action.TheVariants as action
use Rattle.hv_policy.specs.declared.event.Caller.{Caller}
use Rattle.hv_policy.specs.declared.reply.Reply.{Reply}
use Rattle.hv_policy.specs.declared.reply.Reply.TheVariants.{Served, More, Denied, Fault}
use Rattle.hv_script.specs.declared.line.Line.{Line}
use Rattle.hv_shared.proofs.Callers.{is_another, is_itself, same_caller}
use Rattle.hv_shared.specs.ByCaller.{is_caller}
use Rattle.hv_phases.specs.Schedule.{after_reply, first_of}
use Rattle.hv_phases.specs.Turns.{IsAt, IsLast, todo, todo_of}
use Rattle.hv_phases.specs.declared.turn.Turn.{Turn}

abbrev Turns : Type 0
Turns = List Turn

pub todo_of-append : (c : Caller) (xs ys : Turns) → todo_of c (xs ++ ys) ≡ todo_of c xs ++ todo_of c ys
todo_of-append c [] ys = refl
todo_of-append c (x ∷ xs) ys =
    ap (λ (l : Actions). cond (is_caller c x.by) (todo x) [] ++ l) (todo_of-append c xs ys) ∙ sym (append_assoc (cond (is_caller c x.by) (todo x) []) (todo_of c xs) (todo_of c ys))

todo_own : (c : Caller) (turn : Turn) (turns : Turns) → turn.by ≡ c → todo_of c (turn ∷ turns) ≡ todo turn ++ todo_of c turns
todo_own c turn turns own = ap (λ (b : Bool). cond b (todo turn) [] ++ todo_of c turns) (is_itself c turn.by own)

todo_other : (c : Caller) (turn : Turn) (turns : Turns) → (turn.by ≡ c → ⊥) → todo_of c (turn ∷ turns) ≡ todo_of c turns
todo_other c turn turns other = ap (λ (b : Bool). cond b (todo turn) [] ++ todo_of c turns) (is_another c turn.by other)

-- round a turn of the processor, and of another
pub round_own : (c : Caller) (before : Turns) (turn : Turn) (after : Turns) → turn.by ≡ c → todo_of c (before ++ turn ∷ after) ≡ todo_of c before ++ (todo turn ++ todo_of c after)
round_own c before turn after own = todo_of-append c before (turn ∷ after) ∙ ap (λ (l : Actions). todo_of c before ++ l) (todo_own c turn after own)

round_other : (c : Caller) (before : Turns) (turn : Turn) (after : Turns) → (turn.by ≡ c → ⊥) → todo_of c (before ++ turn ∷ after) ≡ todo_of c before ++ todo_of c after
round_other c before turn after other = todo_of-append c before (turn ∷ after) ∙ ap (λ (l : Actions). todo_of c before ++ l) (todo_other c turn after other)

-- the parts of a list at a place
pub parts_at : (turns : Turns) (i : ℕ) (turn : Turn) → i < length turns → turn ≡ get_or turns i turn → turns ≡ take i turns ++ turn ∷ drop (i + 1) turns
parts_at turns i turn less is =
    sym (take-append-drop i turns) ∙ ap (λ (l : Turns). take i turns ++ l) (drop-cons turns i turn less ∙ (λ j. sym is j ∷ drop (sym (add-one i) j) turns))

-- one turn more
pub take_one : (turns : Turns) (i : ℕ) (turn : Turn) → i < length turns → turn ≡ get_or turns i turn → take (i + 1) turns ≡ take i turns ++ turn ∷ []
take_one turns i turn less is = ap (λ (n : ℕ). take n turns) (add-one i) ∙ take-suc turns i turn less ∙ ap (λ (t : Turn). take i turns ++ t ∷ []) (sym is)

-- the first turn that has something left to do
pub is_at : (by : Caller) (turns : Turns) (i : ℕ) (turn : Turn) → i < length turns → turn ≡ get_or turns i turn → turn.by ≡ by → todo_of by (take i turns) ≡ [] → todo turn ≢ [] → IsAt by turns i
is_at by turns i turn less is own none some = record {
  before = take i turns;
  turn = turn;
  after = drop (i + 1) turns;
  all = parts_at turns i turn less is;
  place = length-take-le i turns (omega (arith, less));
  by_is = own;
  first = none;
  some = some;
}

pub none_more : (by : Caller) (turns : Turns) (i : ℕ) (turn : Turn) → i < length turns → turn ≡ get_or turns i turn → todo_of by (take i turns) ≡ [] → todo_of by (turn ∷ []) ≡ [] → todo_of by
    (take (i + 1) turns) ≡ []
none_more by turns i turn less is none one =
    ap (todo_of by) (take_one turns i turn less is) ∙ todo_of-append by (take i turns) (turn ∷ []) ∙ (λ j. none j ++ one j)

-- a turn of another, or one that is over
pub one_other : (by : Caller) (turn : Turn) → (turn.by ≡ by → ⊥) → todo_of by (turn ∷ []) ≡ []
one_other by turn other = todo_other by turn [] other

pub one_over : (by : Caller) (turn : Turn) → todo turn ≡ [] → todo_of by (turn ∷ []) ≡ []
one_over by turn over = at (is_caller by turn.by)
  where
    at : (b : Bool) → cond b (todo turn) [] ++ [] ≡ []
    at true = append-nil (todo turn) ∙ over
    at false = refl

pub is_last : (by : Caller) (turns : Turns) (i : ℕ) (turn : Turn) → i < length turns → turn ≡ get_or turns i turn → turn.by ≡ by → todo_of by (drop (i + 1) turns) ≡ [] → IsLast by turns i
is_last by turns i turn less is own none = record {
  before = take i turns;
  turn = turn;
  after = drop (i + 1) turns;
  all = parts_at turns i turn less is;
  place = length-take-le i turns (omega (arith, less));
  by_is = own;
  last = none;
}

pub none_behind : (by : Caller) (turns : Turns) (i : ℕ) (turn : Turn) → i < length turns → turn ≡ get_or turns i turn → (turn.by ≡ by → ⊥) → todo_of by (drop (i + 1) turns) ≡ [] → todo_of by
    (drop i turns) ≡ []
none_behind by turns i turn less is other none =
    ap (todo_of by) (drop-cons turns i turn less ∙ (λ j. sym is j ∷ drop (sym (add-one i) j) turns)) ∙ todo_other by turn (drop (i + 1) turns) other ∙ none

first_front : (acts more : Actions) → acts ≢ [] → first_of (acts ++ more) ≡ first_of acts
first_front [] more some = absurd (some refl)
first_front (a ∷ acts) more some = refl

after_front : (acts more : Actions) (reply : Reply) → acts ≢ [] → after_reply (acts ++ more) reply ≡ after_reply acts reply ++ more
after_front [] more reply some = absurd (some refl)
after_front (a ∷ acts) more (Served output) some = refl
after_front (a ∷ acts) more (More next output) some = refl
after_front (a ∷ acts) more (Denied rule status reps) some = refl
after_front (a ∷ acts) more (Fault rule) some = refl

module _ (by : Caller) (turns : Turns) (i : ℕ) (at : IsAt by turns i) where
  pub at_turn : (d : Turn) → get_or turns i d ≡ at.turn
  at_turn d = (λ j. get_or (at.all j) (sym at.place j) d) ∙ get_or-append_seam at.before at.turn at.after d

  at_todo : todo_of by turns ≡ todo at.turn ++ todo_of by at.after
  at_todo = ap (todo_of by) at.all ∙ round_own by at.before at.turn at.after at.by_is ∙ ap (λ (l : Actions). l ++ (todo at.turn ++ todo_of by at.after)) at.first

  -- what it is to do first
  pub at_first : first_of (todo_of by turns) ≡ first_of (todo at.turn)
  at_first = ap first_of at_todo ∙ first_front (todo at.turn) (todo_of by at.after) at.some

  module _ (turn : Turn) (same : turn.by ≡ at.turn.by) where
    at_set : set turns i turn ≡ at.before ++ turn ∷ at.after
    at_set = (λ j. set (at.all j) (sym at.place j) turn) ∙ set-append_seam at.before at.turn at.after turn

    -- what is left once that got a reply
    pub at_reply : (reply : Reply) → todo turn ≡ after_reply (todo at.turn) reply → todo_of by (set turns i turn) ≡ after_reply (todo_of by turns) reply
    at_reply reply is =
        ap (todo_of by) at_set ∙ round_own by at.before turn at.after (same ∙ at.by_is) ∙ (λ j. at.first j ++ (is j ++ todo_of by at.after))
        ∙ sym (after_front (todo at.turn) (todo_of by at.after) reply at.some) ∙ ap (λ (l : Actions). after_reply l reply) (sym at_todo)

    -- of others the same
    pub at_others : (c : Caller) → c ≢ by → todo_of c (set turns i turn) ≡ todo_of c turns
    at_others c other =
        ap (todo_of c) at_set ∙ round_other c at.before turn at.after (λ its. other (sym its ∙ same ∙ at.by_is))
        ∙ sym (ap (todo_of c) at.all ∙ round_other c at.before at.turn at.after (λ its. other (sym its ∙ at.by_is)))

-- a line more
abbrev IsMoreFor : Turns → Turns → Line Global → Type 0
IsMoreFor old new line = (c : Caller) → todo_of c new ≡ todo_of c old ++ asked_by c (line ∷ [])

by_case : (c : Caller) (line : Line Global) (old new : Turns) → (line.by ≡ c → todo_of c new ≡ todo_of c old ++ line.action ∷ []) → ((line.by ≡ c → ⊥) → todo_of c new ≡ todo_of c old) → todo_of c new
    ≡ todo_of c old ++ asked_by c (line ∷ [])
by_case c line old new own other = at (is_caller c line.by) refl
  where
    at : (t : Bool) → is_caller c line.by ≡ t → todo_of c new ≡ todo_of c old ++ asked_by c (line ∷ [])
    at true is = let same : line.by ≡ c = same_caller c line.by is in own same ∙ ap (λ (l : Actions). todo_of c old ++ l) (sym (asked_by_own c line same))
    at false is =
        let apart : line.by ≡ c → ⊥ = λ same. false≢true (sym is ∙ is_itself c line.by same) in
        other apart ∙ sym (append-nil (todo_of c old)) ∙ ap (λ (l : Actions). todo_of c old ++ l) (sym (asked_by_other c line apart))

-- which its last turn gets
pub last_more : (line : Line Global) (turns : Turns) (i : ℕ) (at : IsLast line.by turns i) (turn : Turn) → turn.by ≡ at.turn.by → todo turn ≡ todo at.turn ++ line.action ∷ [] → IsMoreFor turns
    (set turns i turn) line
last_more line turns i at turn same is c =
    by_case c line turns (set turns i turn)
    (λ own.
    let left : todo_of c at.after ≡ [] = subst (λ (d : Caller). todo_of d at.after ≡ []) own at.last in
    ap (todo_of c) is_set ∙ round_own c at.before turn at.after (same ∙ at.by_is ∙ own) ∙ (λ j. todo_of c at.before ++ (is j ++ left j))
    ∙ regroup (todo_of c at.before) (todo at.turn) (line.action ∷ [])
    ∙ ap (λ (l : Actions). l ++ line.action ∷ []) (sym (ap (todo_of c) at.all ∙ round_own c at.before at.turn at.after (at.by_is ∙ own) ∙ ap
    (λ (l : Actions). todo_of c at.before ++ (todo at.turn ++ l)) left)))
    (λ other.
    ap (todo_of c) is_set ∙ round_other c at.before turn at.after (λ its. other (sym (same ∙ at.by_is) ∙ its))
    ∙ sym (ap (todo_of c) at.all ∙ round_other c at.before at.turn at.after (λ its. other (sym at.by_is ∙ its))))
  where
    is_set : set turns i turn ≡ at.before ++ turn ∷ at.after
    is_set = (λ j. set (at.all j) (sym at.place j) turn) ∙ set-append_seam at.before at.turn at.after turn

    regroup : (x y z : Actions) → x ++ ((y ++ z) ++ []) ≡ (x ++ (y ++ [])) ++ z
    regroup x y z = simp (append_assoc, append-nil)

-- or a turn of its own
pub turn_more : (line : Line Global) (turns : Turns) (turn : Turn) → turn.by ≡ line.by → todo turn ≡ line.action ∷ [] → IsMoreFor turns (turns ++ turn ∷ []) line
turn_more line turns turn same is c =
    by_case c line turns (turns ++ turn ∷ [])
    (λ own. todo_of-append c turns (turn ∷ []) ∙ ap (λ (l : Actions). todo_of c turns ++ l) (todo_own c turn [] (same ∙ own) ∙ append-nil (todo turn) ∙ is))
    (λ other. todo_of-append c turns (turn ∷ []) ∙ ap (λ (l : Actions). todo_of c turns ++ l) (todo_other c turn [] (λ its. other (sym same ∙ its))) ∙ append-nil (todo_of c turns))

no_front : (xs ys : Actions) → xs ++ ys ≡ [] → xs ≡ []
no_front [] ys is = refl
no_front (x ∷ xs) ys is = absurd (cc)

no_back : (xs ys : Actions) → xs ++ ys ≡ [] → ys ≡ []
no_back [] ys is = is
no_back (x ∷ xs) ys is = absurd (cc)

-- a processor whose turn isn't over has something left to do
pub some_at : (turns : Turns) (i : ℕ) (turn : Turn) → i < length turns → turn ≡ get_or turns i turn → todo turn ≢ [] → todo_of turn.by turns ≢ []
some_at turns i turn less is some none =
    some
    (
    no_front (todo turn) (todo_of turn.by (drop (i + 1) turns))
    (
    no_back (todo_of turn.by (take i turns)) (todo turn ++ todo_of turn.by (drop (i + 1) turns))
    (sym (ap (todo_of turn.by) (parts_at turns i turn less is) ∙ round_own turn.by (take i turns) turn (drop (i + 1) turns) refl) ∙ none)
    )
    )

-- a turn is over where all its actions are done
pub over_todo : (items : Actions) (done : ℕ) → length items ≤ done → drop done items ≡ []
over_todo items done less = drop_all done items less

pub todo_over : (items : Actions) (done : ℕ) → drop done items ≡ [] → length items ≤ done
todo_over items done none = let n = ap length none in omega (arith, n, length-drop done items)

-- its next action, and the others
pub todo_parts : (items : Actions) (done : ℕ) (a : Action Global) → done < length items → a ≡ get_or items done a → drop done items ≡ a ∷ drop (done + 1) items
todo_parts items done a less is = drop-cons items done a less ∙ (λ j. sym is j ∷ drop (sym (add-one done) j) items)

-- what is left once it got a reply after which it doesn't continue
pub todo_done : (items : Actions) (done : ℕ) (reply : Reply) → done < length items → ((next : ℕ) (output : List ℕ) → reply ≡ More next output → ⊥) → drop (done + 1) items ≡ after_reply
    (drop done items) reply
todo_done items done reply less other =
    let first = get_or items done action.TakeInterrupt in
    let parts : drop done items ≡ first ∷ drop (done + 1) items = drop-cons items done action.TakeInterrupt less ∙ (λ j. first ∷ drop (sym (add-one done) j) items) in
    by reply other ∙ ap (λ (l : Actions). after_reply l reply) (sym parts)
  where
    by : (r : Reply) → ((next : ℕ) (output : List ℕ) → r ≡ More next output → ⊥) → drop (done + 1) items ≡ after_reply (get_or items done action.TakeInterrupt ∷ drop (done + 1) items) r
    by (Served output) other = refl
    by (More next output) other = absurd (other next output refl)
    by (Denied rule status reps) other = refl
    by (Fault rule) other = refl

pub same_at : (turns : Turns) (i : ℕ) (one other : Turn) → i < length turns → one ≡ get_or turns i one → other ≡ get_or turns i other → one ≡ other
same_at [] i one other less p q = absurd (omega (arith, less))
same_at (t ∷ turns) zero one other less p q = p ∙ sym q
same_at (t ∷ turns) (suc i) one other less p q = same_at turns i one other (omega (arith, less)) p q

pub last_turn : (by : Caller) (turns : Turns) (i : ℕ) (at : IsLast by turns i) (d : Turn) → get_or turns i d ≡ at.turn
last_turn by turns i at d = (λ j. get_or (at.all j) (sym at.place j) d) ∙ get_or-append_seam at.before at.turn at.after d

pub not_over : (items : Actions) (done : ℕ) → (drop done items ≡ [] → ⊥) → done < length items
not_over items done some = by (cases_lt done (length items))
  where
    by : (done < length items) ⊎ (length items ≤ done) → done < length items
    by (inl less) = less
    by (inr over) = absurd (some (over_todo items done over))

pub le_of_test : (a b : ℕ) → nat_le a b ≡ true → a ≤ b
le_of_test a b is = grind (arith, nat_tests)

pub test_of_le : (a b : ℕ) → a ≤ b → nat_le a b ≡ true
test_of_le a b is = grind (arith, nat_tests)
