-- A look at a processor: the words of its line, and the bytes that it shows.
use Rattle.std.specs.Prelude.{ℕ, ◌+◌, ◌*◌, ◌==◌, List, [], ◌∷◌, length, map, codes, find, if◌then◌else◌}
use Rattle.std.specs.Prelude.{Option, option_map, Result, Ok, Err, ok_or}
use Rattle.std.specs.FinSet as set
use Rattle.std.specs.Int.{w64, to_le_bytes}
use Rattle.std.specs.List.{range_with_len}
use Rattle.std.specs.Str.{bytes_eq}
use Rattle.hv_defs.specs.Flags.{number_where}
use Rattle.hv_defs.specs.Vectors.{VectorSet}
use Rattle.hv_looks.specs.Look.{flags_seen, msr_seen, pending_seen, slot_seen}
use Rattle.hv_policy.specs.Flat.{Flat}
use Rattle.hv_policy.specs.declared.event.Caller.{Caller}
use Rattle.hv_script.specs.Line.{◌>>=◌, number_at, processor_of}
use Rattle.hv_script.specs.Words.{word_at}
use Rattle.hv_script.specs.declared.fault.FaultKind.{FaultKind}
use Rattle.hv_script.specs.declared.fault.FaultKind.TheVariants.{Count, Word}
use Rattle.hv_serve.specs.declared.peek.Look.{Look}
use Rattle.hv_serve.specs.declared.peek.Look.TheVariants as look
use Rattle.hv_serve.specs.declared.peek.LookKind.{LookKind}
use Rattle.hv_serve.specs.declared.peek.LookKind.TheVariants.{Slot, Flags, Msr, Pending}
use Rattle.hv_serve.specs.declared.peek.Peek.{Peek}

-- the word for what a look shows
abbrev pub word_of : LookKind → List ℕ
word_of Slot = codes "slot"
word_of Flags = codes "flags"
word_of Msr = codes "rdmsr"
word_of Pending = codes "pending"

-- what a look shows, by this word
abbrev pub kind_of : List ℕ → Option LookKind
kind_of word = find (λ kind. bytes_eq word (word_of kind)) (Slot ∷ Flags ∷ Msr ∷ Pending ∷ [])

-- the number of words of its line, with `peek` and the processor
abbrev pub count_of : LookKind → ℕ
count_of Slot = 4
count_of Flags = 4
count_of Msr = 4
count_of Pending = 3

-- the last word of the line: a SINT, or the number of a register
abbrev pub fields_of : LookKind → List (List ℕ) → Result Look FaultKind
fields_of Slot words = do
  sint ← number_at 8 words 3
  Ok (look.Slot sint)
fields_of Flags words = do
  sint ← number_at 8 words 3
  Ok (look.Flags sint)
fields_of Msr words = do
  msr ← number_at 32 words 3
  Ok (look.Msr msr)
fields_of Pending words = Ok look.Pending

-- what the words after the processor ask for
unfoldable pub look_of : List (List ℕ) → Result Look FaultKind
look_of words = do
  kind ← ok_or (kind_of (word_at words 2)) Word
  if length words == count_of kind then fields_of kind words else Err Count

-- what the words after `peek` ask for
abbrev pub peek_of : List (List ℕ) → Result Peek FaultKind
peek_of words = do
  of ← processor_of (word_at words 1)
  look ← look_of words
  Ok (record { of = of; look = look })

-- 32 bytes for a set of vectors: vector v is bit v % 8 of byte v / 8
unfoldable pub vector_bytes : VectorSet → List ℕ
vector_bytes vectors = map (λ i. number_where (λ j. set.contains vectors (i * 8 + j)) 8) (range_with_len 0 32)

-- the bytes that a look at this processor shows of a flat state
abbrev pub seen_at : Flat → Caller → Look → Option (List ℕ)
seen_at f of (look.Slot sint) = slot_seen f of sint
seen_at f of (look.Flags sint) = flags_seen f of sint
seen_at f of (look.Msr msr) = option_map (to_le_bytes w64) (msr_seen f of msr)
seen_at f of look.Pending = option_map vector_bytes (pending_seen f of)

abbrev pub seen_of : Flat → Peek → Option (List ℕ)
seen_of f peek = seen_at f peek.of peek.look
