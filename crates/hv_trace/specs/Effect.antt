-- The text of an effect, in JSON.
use Rattle.std.specs.Prelude.{ℕ, zero, suc, ◌∷◌, [], ◌++◌, if◌then◌else◌, Bool, List, Option, None, Some}
use Rattle.std.specs.Prelude.{codes, decimal}
use Rattle.std.specs.FinSet as set
use Rattle.hv_admit.specs.Effect.{has_bit}
use Rattle.hv_admit.specs.declared.effect.Effect.{Effect}
use Rattle.hv_admit.specs.declared.effect.Effect.TheVariants as effect
use Rattle.hv_admit.specs.declared.effect.FlagChange.{FlagChange}
use Rattle.hv_admit.specs.declared.effect.Synic.{Synic}

-- the numbers below an end that pass a test, rising
unfoldable pub picked : (ℕ → Bool) → ℕ → List ℕ
picked test zero = []
picked test (suc n) = if test n then picked test n ++ n ∷ [] else picked test n

-- numbers in decimal, with commas between
abbrev pub joined : List ℕ → List ℕ
joined [] = []
joined (n ∷ []) = decimal n
joined (n ∷ m ∷ ns) = decimal n ++ codes "," ++ joined (m ∷ ns)

-- an array of numbers
unfoldable pub array_text : List ℕ → List ℕ
array_text ns = codes "[" ++ joined ns ++ codes "]"

abbrev pub bool_text : Bool → List ℕ
bool_text is = if is then codes "true" else codes "false"

abbrev pub maybe_text : Option ℕ → List ℕ
maybe_text None = codes "null"
maybe_text (Some n) = decimal n

-- a processor: its partition, and its index there
unfoldable pub processor_text : ℕ → ℕ → List ℕ
processor_text part vp = codes "\"" ++ decimal part ++ codes "." ++ decimal vp ++ codes "\""

-- an event flag that changed, and whether it was set
abbrev pub change_text : FlagChange → List ℕ
change_text c =
    codes "{\"sint\":" ++ decimal c.sint ++ codes ",\"flag\":" ++ decimal c.flag ++ codes ",\"set\":" ++
    bool_text c.is_set ++ codes "}"

abbrev pub flag_text : Option FlagChange → List ℕ
flag_text None = codes "null"
flag_text (Some c) = change_text c

-- what changed at one processor of messages, flags and vectors that reach it: the SINTs whose slot shows
-- another message or none, the SINT at which one more message waits, the flag, and the vectors that were
-- raised
unfoldable pub gained_text : Synic → List ℕ
gained_text s =
    (codes ",\"shown\":" ++ array_text (picked (has_bit s.shown) 16)) ++
    (codes ",\"waiting\":" ++ maybe_text s.waiting) ++ (codes ",\"flag\":" ++ flag_text s.flag) ++
    (codes ",\"raised\":" ++ array_text (picked (set.contains s.raised) 256))

-- what it gave: the vector that it took, and the port of the message that left its slot
unfoldable pub lost_text : Synic → List ℕ
lost_text s = codes ",\"taken\":" ++ maybe_text s.taken ++ codes ",\"freed\":" ++ maybe_text s.freed ++
    codes "}"

abbrev pub synic_text : Synic → List ℕ
synic_text s = (codes "{\"kind\":\"synic\",\"vp\":" ++ processor_text s.part s.vp) ++ gained_text s ++
    lost_text s

-- an effect: its kind, and what it names
unfoldable pub effect_text : Effect → List ℕ
effect_text effect.Nothing = codes "{\"kind\":\"nothing\"}"
effect_text (effect.Synic s) = synic_text s
effect_text (effect.Page page owner pooled) =
    (codes "{\"kind\":\"page\",\"page\":" ++ decimal page) ++ (codes ",\"owner\":" ++ decimal owner) ++
    (codes ",\"pooled\":" ++ bool_text pooled) ++ codes "}"
effect_text (effect.Pages from to) =
    (codes "{\"kind\":\"pages\",\"from\":" ++ decimal from) ++ (codes ",\"to\":" ++ decimal to) ++ codes "}"
effect_text (effect.Processor part vp) =
    codes "{\"kind\":\"processor\",\"vp\":" ++ processor_text part vp ++ codes "}"
effect_text (effect.Partition part) =
    codes "{\"kind\":\"partition\",\"partition\":" ++ decimal part ++ codes "}"
