-- The position of a reader in a text. Only contracts of private functions cite these words.
use Rattle.std.specs.Prelude.{ℕ, ◌≡◌, ◌+◌, ◌<◌, ◌≤◌, ◌==◌, ◌&&◌, ◌∷◌, nat_le, List, [], length, Bool, true}
use Rattle.std.specs.Prelude.{false, if◌then◌else◌, Option, Some, get_or, Result, Ok, Err}
use Rattle.std.specs.List.{before_first}
use Rattle.hv_script.specs.Script.{SoFar, read_lines, read_words}
use Rattle.hv_script.specs.Line.{◌>>=◌}
use Rattle.hv_script.specs.Words.{has_good_bytes, is_skipped, lines_of, words_of}
use Rattle.hv_script.specs.declared.fault.FaultKind.{FaultKind}
use Rattle.hv_script.specs.declared.fault.FaultKind.TheVariants.{Byte}

-- the first of the lines
abbrev pub line_of : List ℕ → List ℕ
line_of text = before_first (λ byte. byte == 10) text

-- the words of a line that are read: none of a skipped line
abbrev pub words_read : List ℕ → Result (List (List ℕ)) FaultKind
words_read line = if is_skipped (words_of line) then Ok [] else
    (if has_good_bytes line then Ok (words_of line) else Err Byte)

-- the state of the reading after a line that was cut
abbrev pub read_cut : {A : Type 0} → Option (SoFar A) → List (List ℕ) → Result (Option (SoFar A)) FaultKind
read_cut before words =
    if length words == 0 then Ok before
    else (do
      so_far ← read_words before words
      Ok (Some so_far))

-- a byte of a word, 0x21 to 0x7E
abbrev pub is_of_word : ℕ → Bool
is_of_word byte = nat_le 0x21 byte && nat_le byte 0x7E

-- the word of a run of word bytes, or none if the run is empty
abbrev pub word_in : List ℕ → List (List ℕ)
word_in [] = []
word_in (byte ∷ run) = (byte ∷ run) ∷ []

-- the bytes of a text from one place up to another pass a test, and the byte there, if there is one, doesn't
pub record Runs (test : ℕ → Bool) (text : List ℕ) (from to : ℕ) : Type 0 where
  pub order : from ≤ to
  pub inside : to ≤ length text
  pub pass : (k : ℕ) → from ≤ k → k < to → test (get_or text k 0) ≡ true
  pub stop : to < length text → test (get_or text to 0) ≡ false

-- reading this text from `before` on is reading `left` from `after` on, with line numbers one higher
abbrev pub ReadsTo : {A : Type 0} → List ℕ → Option (SoFar A) → List ℕ → Option (SoFar A) → Type 0
ReadsTo text before left after = (number : ℕ) → read_lines number before (lines_of text) ≡ read_lines
    (number + 1) after (lines_of left)

-- the first line of this text has this fault
abbrev pub FailsBy : {A : Type 0} → List ℕ → Option (SoFar A) → FaultKind → Type 0
FailsBy text before kind = (number : ℕ) → read_lines number before (lines_of text) ≡ Err
    (record { line = number; kind = kind })
