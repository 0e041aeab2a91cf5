-- Texts that stay within a line, or within quotes.
use Rattle.std.specs.Prelude.{ℕ, ◌≢◌, ◌≤◌, ◌<◌, List, All}

-- none of the bytes is a line feed
abbrev pub IsPlain : List ℕ → Type 0
IsPlain text = All (λ byte. byte ≢ 10) text

-- the byte stands for itself in a string of JSON, and in a text or an attribute of XML: it is printable
-- ASCII, but none of `"`, `&`, `<` and `\`
abbrev pub StandsForItself : ℕ → Type 0
StandsForItself byte = (32 ≤ byte) × (byte < 127) × (byte ≢ 34) × (byte ≢ 38) × (byte ≢ 60) × (byte ≢ 92)

-- each byte stands for itself, so that the text ends no string, text or attribute that it stands in
abbrev pub IsQuotable : List ℕ → Type 0
IsQuotable text = All StandsForItself text
