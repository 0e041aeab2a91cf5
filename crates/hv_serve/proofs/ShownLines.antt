-- What a line shows.
use Rattle.std.proofs.Common.{◌≡◌, ◌≢◌, ℕ, ◌-◌, ◌<◌, List, [], ◌∷◌, ◌++◌, length, refl, sym, ap, ◌∙◌, arith, codes, Option, Some, None, IfSome, option_map, Global}
use Rattle.std.proofs.lemmas.List.Elements.{All-nil}
use Rattle.std.proofs.lemmas.Option.{slice_get-get_or}
use Rattle.hv_explain.specs.Written.{HasPut, IsExplanation, head_text, last_of}
use Rattle.hv_history.specs.Kept.{Kept}
use Rattle.hv_history.specs.declared.entry.Entry.{Entry}
use Rattle.hv_serve.specs.Bench.{Shows}
use Rattle.hv_serve.specs.Session.{shown_of}
use Rattle.hv_serve.specs.declared.outcome.Outcome.{Outcome}
use Rattle.hv_serve.specs.Outcome.{named_text}
use Rattle.hv_serve.specs.declared.outcome.Outcome.TheVariants.{Explain, Named}
use Rattle.hv_words.specs.Words.{IsPlain}
use Rattle.hv_asm.specs.declared.fault.AsmFault.{AsmFault}

-- what has no words
pub shows_plainly : (outcome : Outcome) (now : Option (Kept Global)) (shown : Option (List ℕ)) → shown ≡ shown_of outcome now [] → Shows outcome now shown
shows_plainly outcome now shown is = record { words = []; plain = All-nil (λ byte. byte ≢ 10); is = is }

-- where there are events, one is the last
some_last : (entries : List (Entry Global)) → 0 < length entries → last_of entries ≢ None
some_last [] some = absurd (omega arith)
some_last (e ∷ entries) some = λ none. let is = slice_get-get_or (e ∷ entries) (length (e ∷ entries) - 1) e (omega arith) in cc

-- the explanation of the last event, without its line feed
explained_as : (kept : Kept Global) (start line text : List ℕ) (found : Option (Entry Global)) → last_of kept.history ≡ found → found ≢ None → start ≡ []
    → IfSome found (λ last. HasPut (IsExplanation (length kept.history) last.event.by) (Some start) (Some line))
    → ((own : List ℕ) → line ≡ own ++ codes "\n" → text ≡ own) → Shows Explain (Some kept) (Some text)
explained_as kept start line text None is some none put ends = absurd (some refl)
explained_as kept start line text (Some last) is some none put ends =
    let words = put.kind.0 in
    let whole : line ≡ head_text (length kept.history) last.event.by ++ words ++ codes "\n" = put.wrote ∙ ap (λ (l : List ℕ). l ++ put.text) none ∙ put.kind.2 in
    record {
      words = words;
      plain = put.kind.1;
      is = ap Some (ends (head_text (length kept.history) last.event.by ++ words) whole)
          ∙ sym (ap (λ (o : Option (Entry Global)). option_map (λ e. head_text (length kept.history) e.event.by ++ words) o) is);
    }

pub explained : (kept : Kept Global) (start line text : List ℕ) → 0 < length kept.history → start ≡ []
    → IfSome (last_of kept.history) (λ last. HasPut (IsExplanation (length kept.history) last.event.by) (Some start) (Some line))
    → ((own : List ℕ) → line ≡ own ++ codes "\n" → text ≡ own) → Shows Explain (Some kept) (Some text)
explained kept start line text some none put ends = explained_as kept start line text (last_of kept.history) refl (some_last kept.history some) none put ends

-- the text of a fault by names, and a word behind it
pub named : (fault : AsmFault) (now : Option (Kept Global)) (start mid text hint : List ℕ) → start ≡ [] → mid ≡ start ++ named_text fault → text ≡ mid ++ hint → IsPlain hint
    → Shows (Named fault) now (Some text)
named fault now start mid text hint none first then plain = record {
  words = hint;
  plain = plain;
  is = ap Some (then ∙ ap (λ (l : List ℕ). l ++ hint) (first ∙ ap (λ (l : List ℕ). l ++ named_text fault) none));
}
