-- A run as a page: a file of HTML.
use Rattle.std.specs.Prelude.{ℕ, ◌≡◌, ◌≢◌, List, ◌++◌, All, Option, codes}
use Rattle.std.specs.Io.KnownBytes.{Appends}
use Rattle.std.specs.declared.alloc.Global.{Global}
use Rattle.hv_admit.specs.declared.effect.Effect.{Effect}
use Rattle.hv_explain.specs.Written.{Telling}
use Rattle.hv_history.specs.declared.entry.Entry.{Entry}
use Rattle.hv_trace.specs.Trace.{IsObject}
use Rattle.hv_trace.specs.declared.report.page.TheConstants.{HEAD, TAIL}
use Rattle.hv_words.specs.Words.{IsQuotable}

-- The text is that of an event in a page: words in a line, and the event's object in the next one. It has no
-- `<`, so that it ends no element and begins none
pub record IsRow (number : ℕ) (e : Entry Global) (effect : Effect) (text : List ℕ) : Type 0 where
  pub words : List ℕ
  pub object : List ℕ
  pub quotable : IsQuotable words
  pub traced : IsObject number e effect object
  pub is : text ≡ words ++ codes "\n" ++ object
  pub inside : All (λ byte. byte ≢ 60) text

-- what a page has of an event
abbrev pub reports : Telling
reports number e effect text = IsRow number e effect text

-- The writer gets a page: its head, the rows, and its tail. The head ends inside an element, which the tail
-- ends
pub record HasPage (Rows : Option (List ℕ) → Option (List ℕ) → Type 0) (before after : Option (List ℕ))
    : Type 0 where
  pub opened : Option (List ℕ)
  pub told : Option (List ℕ)
  pub opens : Appends before opened HEAD.now
  pub rows : Rows opened told
  pub closes : Appends told after TAIL.now
