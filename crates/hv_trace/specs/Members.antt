-- The members of an object, in JSON.
use Rattle.std.specs.Prelude.{ℕ, ◌≡◌, ◌⊎◌, ◌++◌, List, [], ◌∷◌, All, codes, decimal}
use Rattle.hv_words.specs.Words.{IsQuotable}

-- a string: words between quotation marks, each byte of which stands for itself
abbrev pub IsString : List ℕ → Type 0
IsString text = (words : List ℕ) × IsQuotable words × (text ≡ codes "\"" ++ words ++ codes "\"")

-- a value: null, a number or a string
abbrev pub IsValue : List ℕ → Type 0
IsValue text = (text ≡ codes "null") ⊎ ((number : ℕ) × (text ≡ decimal number)) ⊎ IsString text

-- a member: a name in quotation marks, and a value
abbrev pub IsMember : List ℕ → Type 0
IsMember text = (name : List ℕ) × (value : List ℕ) × IsQuotable name × IsValue value
    × (text ≡ codes "\"" ++ name ++ codes "\":" ++ value)

-- texts with commas between them
abbrev pub with_commas : List (List ℕ) → List ℕ
with_commas [] = []
with_commas (text ∷ []) = text
with_commas (text ∷ next ∷ texts) = text ++ codes "," ++ with_commas (next ∷ texts)

-- the text is that of members, so that between braces it is an object of JSON
abbrev pub AreMembers : List ℕ → Type 0
AreMembers text = (members : List (List ℕ)) × All IsMember members × (text ≡ with_commas members)
