-- The answer to a line, from its parts.
use Rattle.std.proofs.Common.{◌≡◌, ◌≢◌, ℕ, List, [], inl, refl, subst, Option, Some, Global}
use Rattle.std.specs.Io.KnownBytes.{Appends}
use Rattle.std.proofs.KnownBytes.{Keeps-refl}
use Rattle.std.proofs.lemmas.List.Elements.{All-nil}
use Rattle.hv_history.specs.Kept.{Kept}
use Rattle.hv_run.specs.Written.{HasPart}
use Rattle.hv_serve.specs.Bench.{HasAnswered, HasAnsweredPart, IsToldAs, Shows, kept_in}
use Rattle.hv_serve.specs.Session.{AreTraced, answer_of, answer_with}
use Rattle.hv_serve.specs.Traced.{IsTracedIn}
use Rattle.hv_serve.specs.declared.bench.Bench.{Bench}
use Rattle.hv_serve.specs.declared.form.Form.{Form}
use Rattle.hv_serve.specs.declared.form.Form.TheVariants.{Json}
use Rattle.hv_serve.specs.declared.outcome.Outcome.{Outcome}
use Rattle.hv_run.proofs.Parts.{part_none}
use Rattle.hv_serve.proofs.Tracing.{objects_by}
use Rattle.hv_serve.proofs.WrittenParts.{built}

-- the answer, with what is shown
pub answered : (form : Form) (number before : ℕ) (outcome told : Outcome) (now : Option (Kept Global)) (objects : List ℕ) (shown : Option (List ℕ)) (a b : Option (List ℕ)) → IsToldAs outcome told
    → Shows told now shown → (form ≡ Json → AreTraced before now objects) → Appends a b (answer_with form number before told now objects shown) → HasAnswered form number before outcome told now a b
answered form number before outcome told now objects shown a b told_as shows traced wrote = record {
  told_as = told_as;
  objects = objects;
  traced = traced;
  words = shows.words;
  plain = shows.plain;
  wrote = subst (λ (s : Option (List ℕ)). Appends a b (answer_with form number before told now objects s)) shows.is wrote;
}

-- the answer was built in a vector, and all of it went out, or a part
pub answered_out : (form : Form) (number before : ℕ) (outcome told : Outcome) (now : Option (Kept Global)) (start text : List ℕ) (a b : Option (List ℕ)) → start ≡ []
    → HasAnswered form number before outcome told now (Some start) (Some text) → Appends a b text → HasAnswered form number before outcome told now a b
answered_out form number before outcome told now start text a b none is wrote = record {
  told_as = is.told_as;
  objects = is.objects;
  traced = is.traced;
  words = is.words;
  plain = is.plain;
  wrote = subst (Appends a b) (built start text (answer_of form number before told now is.objects is.words) none is.wrote) wrote;
}

pub answered_part : (form : Form) (number before : ℕ) (outcome told : Outcome) (now : Option (Kept Global)) (start text : List ℕ) (a b : Option (List ℕ)) → start ≡ []
    → HasAnswered form number before outcome told now (Some start) (Some text) → HasPart text a b → HasAnsweredPart form number before outcome now a b
answered_part form number before outcome told now start text a b none is part = record {
  told = told;
  told_as = is.told_as;
  objects = is.objects;
  traced = is.traced;
  words = is.words;
  plain = is.plain;
  wrote = subst (λ (t : List ℕ). HasPart t a b) (built start text (answer_of form number before told now is.objects is.words) none is.wrote) part;
}

-- nothing of it went out
pub unanswered : (form : Form) (number before : ℕ) (outcome : Outcome) (bench : Option Bench) (a : Option (List ℕ)) → (form ≡ Json → IsTracedIn before bench)
    → HasAnsweredPart form number before outcome (kept_in bench) a a
unanswered form number before outcome bench a traced =
    let objects = objects_by form before bench traced in
    record {
      told = outcome;
      told_as = inl refl;
      objects = objects.0;
      traced = objects.1;
      words = [];
      plain = All-nil (λ byte. byte ≢ 10);
      wrote = part_none (answer_of form number before outcome (kept_in bench) objects.0 []) a a (Keeps-refl a);
    }
