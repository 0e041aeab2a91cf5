-- What an audit begins with.
use Rattle.std.proofs.Common.{
  ◌≡◌,
  ◌⊎◌,
  inl,
  inr,
  ℕ,
  ◌-◌,
  ◌<◌,
  ◌≤◌,
  List,
  [],
  ◌++◌,
  true,
  length,
  take,
  ap,
  ◌∙◌,
  sym,
  subst,
  arith,
  append_assoc,
  length-append,
  codes,
  decimal,
  Ok,
  Option,
  None,
  Some,
  Global,
}
use Rattle.std.specs.Borrow.{Bor}
use Rattle.std.proofs.lemmas.List.{take_at}
use Rattle.hv_check.specs.Legal.{IsEnd, IsLegal, IsLegalOf, end_text}
use Rattle.hv_history.specs.Kept.{IsRun, Kept}
use Rattle.hv_history.specs.declared.entry.Entry.{Entry}
use Rattle.hv_script.specs.Script.{Said, script_of}
use Rattle.hv_text.specs.Audit.{audit_text, entries_text}
use Rattle.hv_draw.specs.Drawn.{AreEvents, AreFirstOf, HasPicture, HasState, HasStateFrom, IsBeginning, IsLeft}
use Rattle.hv_draw.specs.declared.choice.Only.{Only}

-- an audit is the lines of its events and its last line
pub audit_split : (history : List (Entry Global)) → audit_text history ≡ entries_text 1 history ++ end_text (length history)
unfolding audit_text
audit_split history =
    let lines = entries_text 1 history in
    let number = decimal (length history) in
    ap (λ (l : List ℕ). l ++ codes "\n") (append_assoc lines (codes "events ") number) ∙ append_assoc lines (codes "events " ++ number) (codes "\n")

-- a text whose front is that of another one
pub behind_of : (whole end text front rest lines : List ℕ) (count : ℕ) → count ≡ length whole - length end → text ≡ front ++ rest → front ≡ take count whole → whole ≡ lines ++ end
    → text ≡ lines ++ rest
behind_of whole end text front rest lines count many split same is =
    let long = ap (length {A = ℕ}) is ∙ length-append lines end in
    split ∙ ap (λ (l : List ℕ). l ++ rest) (same ∙ ap (take count) is ∙ take_at lines end count (omega (arith, many, long)))

-- what the audit begins with, and what is left of it
pub beginning_of : (at : Option ℕ) (audit rest whole end : List ℕ) (history : List (Entry Global)) (events : ℕ) → events ≡ length history → end ≡ end_text events → whole ≡ audit_text history
    → ((lines : List ℕ) → whole ≡ lines ++ end → audit ≡ lines ++ rest) → (end ≡ end_text events → IsLeft at events rest) → IsBeginning at audit history
beginning_of at audit rest whole end history events many last all behind left =
    let lines = entries_text 1 history in
    record {
      rest = rest;
      begins = behind lines (all ∙ audit_split history ∙ ap (λ (l : List ℕ). lines ++ l) (sym (last ∙ ap end_text many)));
      left = subst (λ (n : ℕ). IsLeft at n rest) many (left last);
    }

-- the end of an audit
pub ended : (rest end : List ℕ) (events : ℕ) → (rest ≡ []) ⊎ (rest ≡ end) → end ≡ end_text events → IsEnd true events rest
ended rest end events (inl none) last = inl none
ended rest end events (inr same) last = inr (same ∙ last)

pub left_of_all : (at : Option ℕ) (events : ℕ) (rest : List ℕ) → at ≡ None → IsEnd true events rest → IsLeft at events rest
left_of_all at events rest is end = subst (λ (at : Option ℕ). IsLeft at events rest) (sym is) end

pub left_of_few : (at : Option ℕ) (most events : ℕ) (rest : List ℕ) → at ≡ Some most → events < most → IsEnd true events rest → IsLeft at events rest
left_of_few at most events rest is lt end =
    let le : events ≤ most = omega (arith, lt) in
    subst (λ (at : Option ℕ). IsLeft at events rest) (sym is) (inl (end, le))

-- the state after events that happened once more
pub state_of : (said : Said Global) (at : Option ℕ) (audit : List ℕ) (only : Option Only) (start kept : Kept Global) (old new : Option (List ℕ)) → start.config ≡ said.config
    → start.limit ≡ said.limit → kept.config ≡ start.config → kept.limit ≡ start.limit → IsRun kept → IsBeginning at audit kept.history → HasPicture only kept old new
    → HasState said (IsBeginning at audit) only old new
state_of said at audit only start kept old new config limit same_config same_limit run begins drawn = record {
  kept = kept;
  run = run;
  config = same_config ∙ config;
  limit = same_limit ∙ limit;
  these = begins;
  drawn = drawn;
}

-- the events of an audit are those that are asked for
pub of_audit : (script : List ℕ) (at : Option ℕ) (audit : Bor (List ℕ)) (only : Option Only) (old new : Option (List ℕ)) → HasStateFrom script (AreFirstOf at audit.now) only old new
    → HasStateFrom script (AreEvents at (Some audit)) only old new
of_audit script at audit only old new drawn = record {
  said = drawn.said;
  is = drawn.is;
  state = record {
    kept = drawn.state.kept;
    run = drawn.state.run;
    config = drawn.state.config;
    limit = drawn.state.limit;
    these = drawn.state.these;
    drawn = drawn.state.drawn;
  };
}

-- the state after the first events of a legal audit
pub first_of_legal : (script audit : List ℕ) (said : Said Global) (at : Option ℕ) (only : Option Only) (old new : Option (List ℕ)) → script_of script ≡ Ok said → IsLegalOf true true script audit
    → HasState said (IsBeginning at audit) only old new → HasStateFrom script (AreFirstOf at audit) only old new
first_of_legal script audit said at only old new is legal state =
    let one : script_of {A = Global} script ≡ Ok legal.said = legal.is in
    let two : script_of {A = Global} script ≡ Ok said = is in
    let same : legal.said ≡ said = cc in
    record {
      said = said;
      is = is;
      state = record {
        kept = state.kept;
        run = state.run;
        config = state.config;
        limit = state.limit;
        these = (subst (λ said. IsLegal true true said audit) same legal.legal, state.these);
        drawn = state.drawn;
      };
    }
