-- An answer in JSON is one line.
use Rattle.std.proofs.Common.{◌≡◌, ◌≢◌, ◌==◌, ◌%◌, ◌/◌, ℕ, zero, suc, ◌+◌, Bool, true, false, not, ◌&&◌, cond, List, [], ◌∷◌, ◌++◌, length, refl, sym, ap, ◌∙◌, subst, arith, append_assoc, codes}
use Rattle.std.proofs.Common.{decimal, drop, Option, Some, None, All, nat_lt}
use Rattle.std.proofs.Common.{◌-◌, Global, map, take}
use Rattle.std.specs.Fmt.{digit_glyph, digits, digits_onto}
use Rattle.std.specs.List.{list_all}
use Rattle.std.proofs.lemmas.Bool.{false≢true}
use Rattle.std.proofs.lemmas.Bool.Decides.{nat_tests}
use Rattle.std.proofs.lemmas.List.Elements.{All-cons, All-nil}
use Rattle.std.proofs.lemmas.List.Folds.{list_all-append}
use Rattle.hv_history.specs.declared.entry.Entry.{Entry}
use Rattle.hv_text.specs.Audit.{entry_text}
use Rattle.hv_serve.specs.Json.{IsOneLine, all_escaped, elements, escaped, events_value, fault_value, more_events, object_text, separated, shown_member, string_of, text_value}
use Rattle.hv_serve.specs.Outcome.{why_text}
use Rattle.hv_serve.specs.Session.{AreTurns, Served, Turn, history_of, kept_of, shown_of}
use Rattle.hv_serve.specs.declared.form.Form.TheVariants.{Json}
use Rattle.hv_serve.specs.declared.help.TheConstants.{HELP}
use Rattle.hv_serve.specs.declared.outcome.Outcome.{Outcome}
use Rattle.hv_serve.specs.declared.outcome.Outcome.TheVariants.{Done, Table, Peek, Explain, Help, Fault, Named, Boot, Host}

abbrev pub in_line : ℕ → Bool
in_line byte = not (byte == 10)

-- none of the bytes is a line feed
abbrev pub Fits : List ℕ → Type 0
Fits text = list_all in_line text ≡ true

pub both : (a b : Bool) → a ≡ true → b ≡ true → (a && b) ≡ true
both true b first second = second
both false b first second = absurd (false≢true first)

pub first_of : (a b : Bool) → (a && b) ≡ true → a ≡ true
first_of true b is = refl
first_of false b is = is

pub second_of : (a b : Bool) → (a && b) ≡ true → b ≡ true
second_of true b is = is
second_of false b is = absurd (false≢true is)

pub join : (a b : List ℕ) → Fits a → Fits b → Fits (a ++ b)
join a b first second = list_all-append in_line a b ∙ both (list_all in_line a) (list_all in_line b) first second

apart : (byte : ℕ) → in_line byte ≡ true → byte ≢ 10
apart byte is = λ same. let no : in_line byte ≡ false = ap in_line same in false≢true (sym no ∙ is)

pub all_apart : (text : List ℕ) → Fits text → All (λ byte. byte ≢ 10) text
all_apart [] fits = All-nil (λ byte. byte ≢ 10)
all_apart (byte ∷ text) fits =
    All-cons (λ byte. byte ≢ 10) byte text (apart byte (first_of (in_line byte) (list_all in_line text) fits)) (all_apart text (second_of (in_line byte) (list_all in_line text) fits))

-- numbers
glyph_fits : (t : Bool) (d : ℕ) → in_line (cond t (48 + d) (87 + d)) ≡ true
glyph_fits true d = grind (arith, nat_tests)
glyph_fits false d = grind (arith, nat_tests)

chosen : (t : Bool) (a b : List ℕ) → Fits a → Fits b → Fits (cond t a b)
chosen true a b first second = first
chosen false a b first second = second

digits_fit : (k base n : ℕ) (acc : List ℕ) → Fits acc → Fits (digits_onto k base false n acc)
digits_fit zero base n acc fits = fits
digits_fit (suc k) base n acc fits =
    let glyph : ℕ = digit_glyph false (n % base) in
    let more : Fits (glyph ∷ acc) = both (in_line glyph) (list_all in_line acc) (glyph_fits (nat_lt (n % base) 10) (n % base)) fits in
    chosen (n / base == 0) (glyph ∷ acc) (digits_onto k base false (n / base) (glyph ∷ acc)) more (digits_fit k base (n / base) (glyph ∷ acc) more)

pub decimal_fits : (n : ℕ) → Fits (decimal n)
unfolding digits
decimal_fits n = digits_fit 64 10 n [] refl

pub hex_fits : (n : ℕ) → Fits (digits 16 false n)
unfolding digits
hex_fits n = digits_fit 64 16 n [] refl

-- strings
escaped_fits : (byte : ℕ) → Fits (escaped byte)
escaped_fits byte = at (byte == 10) refl (byte == 34) (byte == 92)
  where
    at : (t : Bool) → (byte == 10) ≡ t → (u v : Bool) → Fits (cond t (codes "\\n") (cond u (codes "\\\"") (cond v (codes "\\\\") (byte ∷ []))))
    at true is u v = refl
    at false is true v = refl
    at false is false true = refl
    at false is false false = both (in_line byte) true (ap not is) refl

all_fit : (text : List ℕ) → Fits (all_escaped text)
all_fit [] = refl
all_fit (byte ∷ text) = join (escaped byte) (all_escaped text) (escaped_fits byte) (all_fit text)

string_fits : (text : List ℕ) → Fits (string_of text)
string_fits text = join (codes "\"" ++ all_escaped text) (codes "\"") (join (codes "\"") (all_escaped text) refl (all_fit text)) refl

more_fit : (number : ℕ) (es : List (Entry Global)) → Fits (more_events number es)
more_fit number [] = refl
more_fit number (e ∷ es) =
    let text : List ℕ = string_of (entry_text number e) in
    join (codes "," ++ text) (more_events (number + 1) es) (join (codes ",") text refl (string_fits (entry_text number e))) (more_fit (number + 1) es)

events_fit : (number : ℕ) (es : List (Entry Global)) → Fits (events_value number es)
events_fit number [] = refl
events_fit number (e ∷ es) = join (string_of (entry_text number e)) (more_events (number + 1) es) (string_fits (entry_text number e)) (more_fit (number + 1) es)

value_fits : (shown : Option (List ℕ)) → Fits (text_value shown)
value_fits None = refl
value_fits (Some text) = string_fits text

fault_fits : (outcome : Outcome) (shown : Option (List ℕ)) → Fits (fault_value outcome shown)
fault_fits Done shown = refl
fault_fits Table shown = refl
fault_fits (Peek peek) shown = refl
fault_fits Explain shown = refl
fault_fits Help shown = refl
fault_fits (Fault kind) shown = string_fits (why_text (Fault kind))
fault_fits (Named fault) shown = value_fits shown
fault_fits (Boot why) shown = string_fits (why_text (Boot why))
fault_fits (Host why) shown = string_fits (why_text (Host why))

member_fits : (outcome : Outcome) (shown : Option (List ℕ)) → Fits (shown_member outcome shown)
member_fits Done shown = refl
member_fits Table shown = join (codes ",\"table\":") (text_value shown) refl (value_fits shown)
member_fits (Peek peek) shown = join (codes ",\"peek\":") (text_value shown) refl (value_fits shown)
member_fits Explain shown = join (codes ",\"explain\":") (text_value shown) refl (value_fits shown)
member_fits Help shown = join (codes ",\"help\":") (string_of HELP.now) refl (string_fits HELP.now)
member_fits (Fault kind) shown = refl
member_fits (Named fault) shown = refl
member_fits (Boot why) shown = refl
member_fits (Host why) shown = refl

-- the elements of an array
separated_fits : (byte : ℕ) (t : Bool) → (byte == 10) ≡ t → in_line (cond t 44 byte) ≡ true
separated_fits byte true is = refl
separated_fits byte false is = ap not is

separated_fit : (text : List ℕ) → Fits (map separated text)
separated_fit [] = refl
separated_fit (byte ∷ text) = both (in_line (separated byte)) (list_all in_line (map separated text)) (separated_fits byte (byte == 10) refl) (separated_fit text)

object_one : (number : ℕ) (events objects : List ℕ) (outcome : Outcome) (shown : Option (List ℕ)) → Fits events → IsOneLine (object_text number events objects outcome shown)
unfolding object_text
object_one number events objects outcome shown fits =
    let a : List ℕ = codes "{\"line\":" ++ decimal number in
    let b : List ℕ = a ++ codes ",\"events\":[" in
    let c : List ℕ = b ++ events in
    let t : List ℕ = codes "],\"trace\":[" ++ elements objects in
    let o : List ℕ = c ++ t in
    let d : List ℕ = o ++ codes "],\"fault\":" in
    let e : List ℕ = d ++ fault_value outcome shown in
    let f : List ℕ = e ++ shown_member outcome shown in
    let a_fits : Fits a = join (codes "{\"line\":") (decimal number) refl (decimal_fits number) in
    let c_fits : Fits c = join b events (join a (codes ",\"events\":[") a_fits refl) fits in
    let t_fits : Fits t = join (codes "],\"trace\":[") (elements objects) refl (separated_fit (take (length objects - 1) objects)) in
    let o_fits : Fits o = join c t c_fits t_fits in
    let e_fits : Fits e = join d (fault_value outcome shown) (join o (codes "],\"fault\":") o_fits refl) (fault_fits outcome shown) in
    let f_fits : Fits f = join e (shown_member outcome shown) e_fits (member_fits outcome shown) in
    record {
      line = f ++ codes "}";
      is = sym (append_assoc f (codes "}") (codes "\n"));
      one = all_apart (f ++ codes "}") (join f (codes "}") f_fits refl);
    }

-- each answer in JSON is one line
pub answers_one : (names : Bool) (number : ℕ) (before : Option Served) (turns : List Turn) (now : Option Served) → AreTurns Json names number before turns now
    → All (λ turn. IsOneLine turn.answer) turns
answers_one names number before [] now none = All-nil (λ turn. IsOneLine turn.answer)
answers_one names number before (turn ∷ turns) now some =
    let after = kept_of some.0 in
    let count = length (history_of (kept_of before)) in
    let events : List (Entry Global) = drop count (history_of after) in
    All-cons (λ turn. IsOneLine turn.answer) turn turns
    (subst IsOneLine (sym some.1.answer) (object_one number (events_value (count + 1) events) turn.objects turn.outcome (shown_of turn.outcome after turn.words) (events_fit (count + 1) events)))
    (answers_one names (number + 1) some.0 turns now some.2)
