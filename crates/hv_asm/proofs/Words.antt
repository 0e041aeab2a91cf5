-- The words of a line: how they are cut, what they give, and which are elements.
use Rattle.std.proofs.Common.{◌≡◌, ℕ, ◌+◌, ◌<◌, ◌==◌, Bool, true, false, not, cond, Bor, List, [], ◌∷◌, ◌++◌, length, map, drop, filter, get_or, Option, Some, None, Result, Ok, Err, refl, sym}
use Rattle.std.proofs.Common.{ap, ◌∙◌, arith, append_assoc, append-nil, length-drop, take_all}
use Rattle.std.proofs.lemmas.Bool.{false≢true}
use Rattle.std.proofs.lemmas.Bool.Decides.{nat_tests}
use Rattle.std.proofs.lemmas.List.{at_drop_more, drop_all}
use Rattle.std.proofs.lemmas.List.Splits.{slice_split_first, slice_split_none}
use Rattle.std.proofs.lemmas.List.Sums.{fails_before_first}
use Rattle.std.specs.List.{after_first, before_first, position_or_len, slice_split}
use Rattle.std.specs.Prelude.{option_map}
use Rattle.std.specs.Str.{bytes_eq}
use Rattle.hv_abi.specs.declared.call_kind.CallKind.{CallKind}
use Rattle.hv_script.proofs.CutLemmas.{choose}
use Rattle.hv_script.specs.Cursor.{word_in}
use Rattle.hv_script.specs.Words.{words_of}
use Rattle.hv_asm.proofs.Lists.{one_added, one_fails, with_more}
use Rattle.hv_asm.specs.List.{all_bytes, elements_of, is_setting}
use Rattle.hv_asm.specs.Made.{IsMade}
use Rattle.hv_asm.specs.Values.{at_most_one, given, name_in, value_in}
use Rattle.hv_asm.specs.declared.fault.AsmFault.{AsmFault}
use Rattle.hv_asm.specs.declared.fault.AsmFault.TheVariants.{FieldTwice}

-- the words behind references
abbrev pub seen : List (Bor (List ℕ)) → List (List ℕ)
seen words = map (λ word. word.now) words

abbrev is_space : ℕ → Bool
is_space byte = byte == 32

abbrev is_full : List ℕ → Bool
is_full word = not (length word == 0)

one_run : (run : List ℕ) (rest : List (List ℕ)) → filter is_full (run ∷ rest) ≡ word_in run ++ filter is_full rest
one_run [] rest = refl
one_run (x ∷ run) rest = let full : (length (x ∷ run) == 0) ≡ false = grind (arith, nat_tests) in rw full refl

-- the words of a line are the one before its first space, if there is one, and those behind
pub words_next : (line : List ℕ) → words_of line ≡ word_in (before_first is_space line) ++ words_of (after_first is_space line)
unfolding words_of
words_next line =
    let at = position_or_len is_space line in
    let before = before_first is_space line in
    choose at (length line)
    (λ there. ap (filter is_full) (slice_split_first is_space line 0 there) ∙ one_run before (slice_split is_space (after_first is_space line)))
    (λ past.
    let whole : slice_split is_space line ≡ before ∷ [] =
    slice_split_none is_space line (λ k d lt. fails_before_first is_space line k d (omega (arith, lt, past))) ∙ ap (λ (l : List ℕ). l ∷ []) (sym (take_all at line past)) in
    let none : after_first is_space line ≡ [] = drop_all (at + 1) line (omega (arith, past)) in
    ap (filter is_full) whole ∙ one_run before [] ∙ ap (λ (l : List ℕ). word_in before ++ words_of l) (sym none))

-- what stands behind a byte is shorter
pub shorter : (text : List ℕ) (n : ℕ) → 0 < length text → length (drop (n + 1) text) < length text
shorter text n some = omega (arith, length-drop (n + 1) text, some)

-- a word more
pub word_added : (done more : List (Bor (List ℕ))) (line left : List ℕ) → seen done ++ words_of left ≡ words_of line → seen more ≡ seen done ++ word_in (before_first is_space left)
    → seen more ++ words_of (after_first is_space left) ≡ words_of line
word_added done more line left so_far is =
    let rest = words_of (after_first is_space left) in
    ap (λ (l : List (List ℕ)). l ++ rest) is ∙ append_assoc (seen done) (word_in (before_first is_space left)) rest
    ∙ ap (λ (l : List (List ℕ)). seen done ++ l) (sym (words_next left)) ∙ so_far

-- the words that a word was added to
pub word_pushed : (done more : List (Bor (List ℕ))) (word is : List ℕ) → IsMade (Ok (tt {0})) (λ _. seen more) (Ok (seen done ++ word_in word)) → word ≡ is → seen more ≡ seen done ++ word_in is
word_pushed done more word is pushed same = let both : seen done ++ word_in word ≡ seen more = cc in sym both ∙ ap (λ (w : List ℕ). seen done ++ word_in w) same

-- no word is left
pub all_words : (done : List (Bor (List ℕ))) (left line : List ℕ) → seen done ++ words_of left ≡ words_of line → (length left == 0) ≡ true → words_of line ≡ seen done
unfolding words_of
all_words done [] line so_far none = sym so_far ∙ append-nil (seen done)
all_words done (byte ∷ left) line so_far none = let no : (length (byte ∷ left) == 0) ≡ false = grind (arith, nat_tests) in absurd (false≢true (sym no ∙ none))

-- the value that was found, if one was
abbrev pub found_in : Option (Bor (List ℕ)) → List (List ℕ)
found_in None = []
found_in (Some value) = value.now ∷ []

pub all_found : (found : Option (Bor (List ℕ))) (values : List (List ℕ)) → values ≡ [] → at_most_one (found_in found ++ values) ≡ Ok (option_map (λ value. value.now) found)
all_found None values none = rw none refl
all_found (Some value) values none = rw none refl

pub found_twice : (value : Bor (List ℕ)) (more : List ℕ) (rest : List (List ℕ)) → at_most_one (found_in (Some value) ++ more ∷ rest) ≡ Err FieldTwice
found_twice value more rest = refl

-- whether the next word gives a value to the name
pub given_next : (name : List ℕ) (words : List (Bor (List ℕ))) (i : ℕ) (d : Bor (List ℕ)) → i < length words → bytes_eq (name_in (get_or words i d).now) name ≡ true
    → given name (seen (drop i words)) ≡ value_in (get_or words i d).now ∷ given name (seen (drop (i + 1) words))
given_next name words i d lt is =
    let word = (get_or words i d).now in
    let rest = seen (drop (i + 1) words) in
    at_drop_more (λ words. given name (seen words)) words i d lt
    ∙ ap (λ (b : Bool). map value_in (cond b (word ∷ filter (λ word. bytes_eq (name_in word) name) rest) (filter (λ word. bytes_eq (name_in word) name) rest))) is

pub not_given_next : (name : List ℕ) (words : List (Bor (List ℕ))) (i : ℕ) (d : Bor (List ℕ)) → i < length words → bytes_eq (name_in (get_or words i d).now) name ≡ false
    → given name (seen (drop i words)) ≡ given name (seen (drop (i + 1) words))
not_given_next name words i d lt is =
    let word = (get_or words i d).now in
    let rest = seen (drop (i + 1) words) in
    at_drop_more (λ words. given name (seen words)) words i d lt
    ∙ ap (λ (b : Bool). map value_in (cond b (word ∷ filter (λ word. bytes_eq (name_in word) name) rest) (filter (λ word. bytes_eq (name_in word) name) rest))) is

-- whether the next word is an element
pub element_next : (call : CallKind) (fast : Bool) (words : List (Bor (List ℕ))) (i : ℕ) (d : Bor (List ℕ)) → i < length words → is_setting call fast (get_or words i d).now ≡ false
    → elements_of call fast (seen (drop i words)) ≡ (get_or words i d).now ∷ elements_of call fast (seen (drop (i + 1) words))
element_next call fast words i d lt is =
    let word = (get_or words i d).now in
    let rest = elements_of call fast (seen (drop (i + 1) words)) in
    at_drop_more (λ words. elements_of call fast (seen words)) words i d lt ∙ ap (λ (b : Bool). cond (not b) (word ∷ rest) rest) is

pub setting_next : (call : CallKind) (fast : Bool) (words : List (Bor (List ℕ))) (i : ℕ) (d : Bor (List ℕ)) → i < length words → is_setting call fast (get_or words i d).now ≡ true
    → elements_of call fast (seen (drop i words)) ≡ elements_of call fast (seen (drop (i + 1) words))
setting_next call fast words i d lt is =
    let word = (get_or words i d).now in
    let rest = elements_of call fast (seen (drop (i + 1) words)) in
    at_drop_more (λ words. elements_of call fast (seen words)) words i d lt ∙ ap (λ (b : Bool). cond (not b) (word ∷ rest) rest) is

-- the next element is added, or fails
pub element_added : (call : CallKind) (fast : Bool) (bytes : List ℕ → Result (List ℕ) AsmFault) (words : List (Bor (List ℕ))) (i : ℕ) (d : Bor (List ℕ)) (all : Result (List ℕ) AsmFault)
    (old new : List ℕ)
    → i < length words → is_setting call fast (get_or words i d).now ≡ false → all ≡ with_more old (all_bytes bytes (elements_of call fast (seen (drop i words))))
    → with_more old (bytes (get_or words i d).now) ≡ Ok new → all ≡ with_more new (all_bytes bytes (elements_of call fast (seen (drop (i + 1) words))))
element_added call fast bytes words i d all old new lt is so_far added =
    so_far ∙ ap (λ (words : List (List ℕ)). with_more old (all_bytes bytes words)) (element_next call fast words i d lt is)
    ∙ one_added bytes (get_or words i d).now (elements_of call fast (seen (drop (i + 1) words))) old new added

pub element_fails : (call : CallKind) (fast : Bool) (bytes : List ℕ → Result (List ℕ) AsmFault) (words : List (Bor (List ℕ))) (i : ℕ) (d : Bor (List ℕ)) (all : Result (List ℕ) AsmFault)
    (old : List ℕ) (fault : AsmFault)
    → i < length words → is_setting call fast (get_or words i d).now ≡ false → all ≡ with_more old (all_bytes bytes (elements_of call fast (seen (drop i words))))
    → with_more old (bytes (get_or words i d).now) ≡ Err fault → all ≡ Err fault
element_fails call fast bytes words i d all old fault lt is so_far failed =
    so_far ∙ ap (λ (words : List (List ℕ)). with_more old (all_bytes bytes words)) (element_next call fast words i d lt is)
    ∙ one_fails bytes (get_or words i d).now (elements_of call fast (seen (drop (i + 1) words))) old fault failed
