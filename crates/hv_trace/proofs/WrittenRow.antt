-- A row of a page that was written.
use Rattle.std.proofs.Common.{ℕ, List, ◌++◌, refl, codes, Option, Result, Ok, Err, OnOk, Global}
use Rattle.std.specs.Io.KnownBytes.{Appends}
use Rattle.std.proofs.KnownBytes.{Appends-trans}
use Rattle.hv_admit.specs.declared.effect.Effect.{Effect}
use Rattle.hv_explain.specs.Written.{HasPut}
use Rattle.hv_history.specs.declared.entry.Entry.{Entry}
use Rattle.hv_trace.proofs.NoTag.{row_apart}
use Rattle.hv_trace.specs.Report.{reports}
use Rattle.hv_trace.specs.Trace.{traces}
use Rattle.hv_words.specs.Words.{IsQuotable}

-- its words were written, a line feed, and then its object
pub row_put : {T E : Type 0} (r : Result T E) (u v w x : Option (List ℕ)) (number : ℕ) (e : Entry Global) (effect : Effect) (words : List ℕ)
    → IsQuotable words → Appends u v words → Appends v w (codes "\n") → OnOk r (HasPut (traces number e effect) w x) → OnOk r (HasPut (reports number e effect) u x)
row_put (Ok value) u v w x number e effect words quotable first second put = record {
  text = words ++ codes "\n" ++ put.text;
  kind = record {
    words = words;
    object = put.text;
    quotable = quotable;
    traced = put.kind;
    is = refl;
    inside = row_apart number e effect words put.text quotable put.kind;
  };
  wrote = Appends-trans u w x (words ++ codes "\n") put.text (Appends-trans u v w words (codes "\n") first second) put.wrote;
}
row_put (Err error) u v w x number e effect words quotable first second put = tt
