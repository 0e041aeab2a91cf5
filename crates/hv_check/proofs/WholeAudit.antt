-- An audit is legal where all of it is legal from the script's boot on.
use Rattle.std.proofs.Common.{◌≡◌, ℕ, ◌+◌, [], ◌++◌, refl, sym, ap, ◌∙◌, subst, length, zero-add, Bool, true, false, Global}
use Rattle.hv_history.specs.Kept.{Kept}
use Rattle.hv_script.specs.Script.{Said}
use Rattle.hv_text.specs.Audit.{entries_text}
use Rattle.hv_check.specs.From.{IsLegalFrom, IsLegalFromWith, IsOver}
use Rattle.hv_check.specs.Legal.{AreLines, AreTaken, IsAudit, IsLegal, IsLegalWith, end_text}
use Rattle.hv_phases.specs.Read.{AreRead}
use Rattle.hv_check.specs.Takes.{Takes}
use Rattle.hv_check.proofs.RemainingActions.{Entries}
use Rattle.hv_check.proofs.Phases.{AreInTurn, done_taken, taken_phased, taken_run}
use Rattle.hv_check.proofs.Runs.{in_turn}
use Rattle.hv_check.proofs.LineTexts.{Bytes, audit_parts, lines_text, text_lines}
use Rattle.hv_phases.proofs.AskedOfProcessor.{Lines}

taken_by : (prefix : Bool) (lines left : Lines) (es : Entries) → AreInTurn es → Takes lines es left → IsOver prefix left → AreTaken prefix lines es
taken_by false lines left es turn takes over =
    let all : Takes lines es [] = subst (Takes lines es) over takes in
    record { run = taken_run lines es turn all; phased = taken_phased lines es turn all }
taken_by true lines left es turn takes over = (left, takes)

record IsTakenTo (prefix : Bool) (lines : Lines) (es : Entries) : Type 0 where
  left : Lines
  takes : Takes lines es left
  over : IsOver prefix left

takes_to : (prefix : Bool) (lines : Lines) (es : Entries) → AreRead lines → AreTaken prefix lines es → IsTakenTo prefix lines es
takes_to false lines es read done = record { left = []; takes = done_taken lines es read.sorted done.run done.phased; over = refl }
takes_to true lines es read some = record { left = some.0; takes = some.1; over = tt }

lines_audit : (prefix rules : Bool) (es : Entries) (text : Bytes) → AreLines prefix rules 0 es text → IsAudit prefix rules es text
lines_audit false true es text is = lines_text 0 es text is ∙ ap (λ (n : ℕ). entries_text 1 es ++ end_text n) (zero-add (length es)) ∙ sym (audit_parts es)
lines_audit false false es text is = is
lines_audit true rules es text is = is

audit_lines : (prefix rules : Bool) (es : Entries) (text : Bytes) → IsAudit prefix rules es text → AreLines prefix rules 0 es text
audit_lines false true es text is = text_lines 0 es text (is ∙ audit_parts es ∙ ap (λ (n : ℕ). entries_text 1 es ++ end_text n) (sym (zero-add (length es))))
audit_lines false false es text is = is
audit_lines true rules es text is = is

module _ (prefix rules : Bool) (k : Kept Global) (said : Said Global) (text : Bytes) (none : k.history ≡ []) (config : k.config ≡ said.config) (limit : k.limit ≡ said.limit) where
  pub legal_of : IsLegalFrom prefix rules k said.lines text → IsLegal prefix rules said text
  legal_of is =
      let all : is.kept.history ≡ is.more = is.history ∙ ap (λ (l : Entries). l ++ is.more) none in
      record {
        kept = is.kept;
        run = is.run;
        config = is.config ∙ config;
        limit = is.limit ∙ limit;
        lines = taken_by prefix said.lines is.left is.kept.history (in_turn is.kept is.run) (subst (λ (l : Entries). Takes said.lines l is.left) (sym all) is.takes) is.over;
        told =
            lines_audit prefix rules is.kept.history text
            (
            subst (λ (l : Entries). AreLines prefix rules 0 l text) (sym all)
            (subst (λ (n : ℕ). AreLines prefix rules n is.more text) (ap length none) is.told)
            );
      }

  pub legal_with : (events : ℕ) → IsLegalFromWith prefix rules k said.lines text events → IsLegalWith prefix rules said text events
  unfolding legal_of
  legal_with events is = record { legal = legal_of is.legal; count = is.count }

  pub legal_from : AreRead said.lines → IsLegal prefix rules said text → IsLegalFrom prefix rules k said.lines text
  legal_from read is =
      let to = takes_to prefix said.lines is.kept.history read is.lines in
      record {
        kept = is.kept;
        run = is.run;
        config = is.config ∙ sym config;
        limit = is.limit ∙ sym limit;
        more = is.kept.history;
        history = sym (ap (λ (l : Entries). l ++ is.kept.history) none);
        left = to.left;
        takes = to.takes;
        over = to.over;
        told = subst (λ (n : ℕ). AreLines prefix rules n is.kept.history text) (sym (ap length none)) (audit_lines prefix rules is.kept.history text is.told);
      }
