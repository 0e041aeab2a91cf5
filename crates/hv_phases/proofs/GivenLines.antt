-- Lines that were handed out so far.
use Rattle.std.proofs.Common.{◌≡◌, List, [], ◌∷◌, ◌++◌, refl, sym, ap, ◌∙◌, subst, append_assoc, All, reverse, Global}
use Rattle.std.proofs.lemmas.List.Elements.{All-nil, All-push}
use Rattle.hv_phases.specs.Lines.{asked_by}
use Rattle.hv_phases.proofs.AskedOfProcessor.{Actions, Lines, asked_by-append}
use Rattle.hv_policy.specs.declared.event.Caller.{Caller}
use Rattle.hv_script.specs.declared.line.Line.{Line}
use Rattle.hv_phases.specs.Turns.{AreNew, HasGiven, IsPastAtEnd, todo_of}
use Rattle.hv_phases.specs.declared.turn.Turn.{Turn}
use Rattle.hv_phases.proofs.PhaseStart.{past_reverse, reverse_last}

-- a line and the next ones of its phase were handed to their processors, and more may be
pub record IsHanded (first : Line Global) (old : Lines) (turns : List Turn) (new : Lines) : Type 0 where
  pub more : Lines
  pub all : old ≡ more ++ new
  pub one : All (λ line. line.phase ≡ first.phase) more
  pub asked : (by : Caller) → todo_of by turns ≡ asked_by by (first ∷ more)
  pub are_new : AreNew turns

-- the first of them
pub handed_first : (first : Line Global) (old : Lines) (before turns : List Turn) → before ≡ [] → ((by : Caller) → todo_of by turns ≡ todo_of by before ++ asked_by by (first ∷ []))
    → (AreNew before → AreNew turns) → IsHanded first old turns old
handed_first first old before turns none given new = record {
  more = [];
  all = refl;
  one = All-nil (λ (line : Line Global). line.phase ≡ first.phase);
  asked = λ by. given by ∙ ap (λ (l : List Turn). todo_of by l ++ asked_by by (first ∷ [])) none;
  are_new = new (subst AreNew (sym none) (All-nil (λ (turn : Turn). turn.done ≡ 0)));
}

-- one more
pub handed_more : (first line : Line Global) (old : Lines) (turns given : List Turn) (later rest : Lines) → IsHanded first old turns (reverse later) → later ≡ rest ++ line ∷ [] → line.phase ≡
    first.phase
    → ((by : Caller) → todo_of by given ≡ todo_of by turns ++ asked_by by (line ∷ [])) → (AreNew turns → AreNew given) → IsHanded first old given (reverse rest)
handed_more first line old turns given later rest is last phase more new = record {
  more = is.more ++ line ∷ [];
  all = is.all ∙ ap (λ (l : Lines). is.more ++ l) (reverse_last later rest line last) ∙ sym (append_assoc is.more (line ∷ []) (reverse rest));
  one = All-push (λ (l : Line Global). l.phase ≡ first.phase) is.more line is.one phase;
  asked = λ by. more by ∙ ap (λ (l : Actions). l ++ asked_by by (line ∷ [])) (is.asked by) ∙ sym (asked_by-append by (first ∷ is.more) (line ∷ []));
  are_new = new is.are_new;
}

-- all of them
pub handed_all : (first : Line Global) (old : Lines) (turns : List Turn) (later : Lines) → IsHanded first old turns (reverse later) → IsPastAtEnd first.phase later → HasGiven first old turns
    (reverse later)
handed_all first old turns later is past = record { more = is.more; all = is.all; one = is.one; asked = is.asked; past = past_reverse first.phase later past; are_new = is.are_new }
