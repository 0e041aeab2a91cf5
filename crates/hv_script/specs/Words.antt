-- The lines of a text, and the words of a line.
use Rattle.std.specs.Prelude.{ℕ, ◌==◌, ◌&&◌, ◌||◌, not, nat_eq, nat_le, List, []}
use Rattle.std.specs.Prelude.{length, filter, codes, slice_index_or, Bool}
use Rattle.std.specs.List.{list_all, slice_split, starts_with}
use Rattle.std.specs.Str.{bytes_eq}

-- the lines, which end at a line feed or at the end of the text
abbrev pub lines_of : List ℕ → List (List ℕ)
lines_of text = slice_split (λ byte. byte == 10) text

-- the words between spaces
unfoldable pub words_of : List ℕ → List (List ℕ)
words_of line = filter (λ word. not (length word == 0)) (slice_split (λ byte. byte == 32) line)

-- the word at a place counted from 0, empty where there is none
abbrev pub word_at : List (List ℕ) → ℕ → List ℕ
word_at words place = slice_index_or words place []

-- the line's first word is this text
abbrev pub begins_with : List (List ℕ) → List ℕ → Bool
begins_with words text = bytes_eq (word_at words 0) text

-- the line is skipped: it has no words, or is a comment
abbrev pub is_skipped : List (List ℕ) → Bool
is_skipped words = (length words == 0) || starts_with nat_eq (word_at words 0) (codes "#")

-- every byte of the line is one that may stand in a script, 0x20 to 0x7E
abbrev pub has_good_bytes : List ℕ → Bool
has_good_bytes line = list_all (λ byte. nat_le 0x20 byte && nat_le byte 0x7E) line
