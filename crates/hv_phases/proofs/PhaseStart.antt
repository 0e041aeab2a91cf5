-- A phase that begins, and a schedule that is new.
use Rattle.std.proofs.Common.{◌≡◌, ℕ, ◌<◌, ◌≤◌, ◌≢◌, List, [], ◌∷◌, ◌++◌, refl, sym, ap, ◌∙◌, subst, arith, All, reverse, Global}
use Rattle.std.proofs.lemmas.List.{reverse-append, reverse-reverse}
use Rattle.std.proofs.lemmas.List.Elements.{All-cons, All-head, All-nil, All-weaker}
use Rattle.hv_phases.specs.Lines.{asked_by}
use Rattle.hv_policy.specs.declared.event.Caller.{Caller}
use Rattle.hv_script.specs.declared.line.Line.{Line}
use Rattle.hv_phases.specs.Read.{AreRead, AreSorted}
use Rattle.hv_phases.specs.Schedule.{IsIdle, StandsFor, later_of}
use Rattle.hv_phases.specs.Turns.{HasGiven, IsPast, IsPastAtEnd, todo_of}
use Rattle.hv_phases.proofs.AskedOfProcessor.{Lines, asked_first, none_asked}
use Rattle.hv_phases.specs.declared.schedule.Schedule.{Schedule}
use Rattle.hv_phases.specs.declared.turn.Turn.{Turn}
use Rattle.hv_phases.proofs.LinesByPhase.{IsFrom, sorted_across, sorted_right}

-- nothing is handed out
pub stands_new : (schedule : Schedule) (lines : Lines) → schedule.turns.items ≡ [] → later_of schedule ≡ lines → AreRead lines → StandsFor schedule lines
stands_new schedule lines turns later read = record {
  block = [];
  all = sym later;
  phase = 0;
  one = All-nil (λ (l : Line Global). l.phase ≡ 0);
  apart = All-nil (λ (l : Line Global). All (λ n. l.phase < n.phase) (later_of schedule));
  asked = λ c. ap (todo_of c) turns;
  read = read;
}

-- the lines behind the last one of a phase are of later ones
past_all : (phase : ℕ) (lines : Lines) → AreSorted lines → All (IsFrom phase) lines → IsPast phase lines → All (λ n. phase < n.phase) lines
past_all phase [] sorted from past = All-nil (λ (n : Line Global). phase < n.phase)
past_all phase (l ∷ lines) sorted from past =
    let other : l.phase ≢ phase = past l lines refl in
    let first : phase ≤ l.phase = All-head (IsFrom phase) l lines from in
    let less : phase < l.phase = omega (arith, other, first) in
    All-cons (λ (n : Line Global). phase < n.phase) l lines less (All-weaker (IsFrom l.phase) (λ (n : Line Global). phase < n.phase) (λ n is. omega (arith, less, is)) lines sorted.0)

module _ (old new : Schedule) (first : Line Global) (older : Lines) (lines : Lines) (stands : StandsFor old lines) (idle : IsIdle old) (front : later_of old ≡ first ∷ older)
    (given : HasGiven first older new.turns.items (later_of new)) where
  lines_are : lines ≡ (first ∷ given.more) ++ later_of new
  lines_are =
      stands.all ∙ ap (λ (l : Lines). l ++ later_of old) (none_asked stands.block (λ c. sym (stands.asked c) ∙ idle c)) ∙ front ∙ ap (λ (l : Lines). first ∷ l) given.all

  sorted : AreSorted ((first ∷ given.more) ++ later_of new)
  sorted = subst AreSorted lines_are stands.read.sorted

  behind : All (λ n. first.phase < n.phase) (later_of new)
  behind =
      past_all first.phase (later_of new) (sorted_right (first ∷ given.more) (later_of new) sorted)
      (All-head (λ (x : Line Global). All (IsFrom x.phase) (later_of new)) first given.more (sorted_across (first ∷ given.more) (later_of new) sorted)) given.past

  one_phase : All (λ l. l.phase ≡ first.phase) (first ∷ given.more)
  one_phase = All-cons (λ (l : Line Global). l.phase ≡ first.phase) first given.more refl given.one

  pub stands_begun : StandsFor new lines
  stands_begun = record {
    block = first ∷ given.more;
    all = lines_are;
    phase = first.phase;
    one = one_phase;
    apart =
        All-weaker (λ (l : Line Global). l.phase ≡ first.phase) (λ (l : Line Global). All (λ n. l.phase < n.phase) (later_of new))
        (λ l same. subst (λ p. All (λ (n : Line Global). p < n.phase) (later_of new)) (sym same) behind) (first ∷ given.more) one_phase;
    asked = given.asked;
    read = stands.read;
  }

-- a phase that was begun isn't over
pub begun_given : (first : Line Global) (older : Lines) (turns : List Turn) (later : Lines) → HasGiven first older turns later → ((c : Caller) → todo_of c turns ≡ []) → ⊥
begun_given first older turns later given idle =
    let same : first.action ∷ asked_by first.by given.more ≡ [] = sym (asked_first first.by first given.more refl) ∙ sym (given.asked first.by) ∙ idle first.by in cc

-- the last of some lines is the first the other way round
pub reverse_last : (old rest : Lines) (line : Line Global) → old ≡ rest ++ line ∷ [] → reverse old ≡ line ∷ reverse rest
reverse_last old rest line is = ap reverse is ∙ reverse-append rest (line ∷ [])

pub past_reverse : (phase : ℕ) (items : Lines) → IsPastAtEnd phase items → IsPast phase (reverse items)
past_reverse phase items past line rest is =
    past line (reverse rest) (sym (reverse-reverse items) ∙ ap reverse is ∙ reverse-append (line ∷ []) rest)
