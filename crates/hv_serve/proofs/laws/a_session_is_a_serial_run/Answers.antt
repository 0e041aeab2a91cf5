use Rattle.std.proofs.Common.{subst, length, ◌++◌, None, Option, false, true}
use Rattle.std.specs.Io.KnownBytes.{Appends}
use Rattle.hv_serve.specs.Session.{AreTurns, Served, answers_in, end_text, history_of, kept_of}
use Rattle.hv_serve.specs.declared.form.Form.TheVariants.{Text}
use Rattle.hv_serve.proofs.Law.{serial, whole}
use Rattle.hv_serve.proofs.Meaning.{script_of_session}
use Rattle.hv_serve.proofs.laws.a_session_is_a_serial_run.Goals as goal

pub returns-clause-done : goal.returns-clause-done
returns-clause-done c = serial

pub returns-clause-whole : goal.returns-clause-whole
returns-clause-whole c = λ text old new session now is all most.
    whole false text session.turns now (subst (AreTurns Text false 1 None session.turns) is session.served) all most session.whole old new
    (subst (λ (s : Option Served). Appends old new (answers_in session.turns ++ end_text (length (history_of (kept_of s))))) is session.told)

pub returns-clause-named : goal.returns-clause-named
returns-clause-named c = λ text script old new session now is all meant.
    let are = subst (AreTurns Text true 1 None session.turns) is session.served in
    let read = script_of_session Text text script session.turns now are session.whole meant in
    whole true script session.turns now are all read.0 read.1 old new
    (subst (λ (s : Option Served). Appends old new (answers_in session.turns ++ end_text (length (history_of (kept_of s))))) is session.told)
