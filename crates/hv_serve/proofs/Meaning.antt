-- The script that the lines of a session by names mean.
use Rattle.std.proofs.Common.{◌≡◌, ◌≤◌, ℕ, ◌+◌, ◌++◌, Bool, true, false, cond, List, [], ◌∷◌, length, map, refl, sym, ap, ◌∙◌, subst, arith, All, Option, None, Some, Result, Ok, Err, nat_lt, Global}
use Rattle.std.specs.List.{join_with_byte}
use Rattle.std.proofs.lemmas.Bool.Decides.{nat_tests}
use Rattle.std.proofs.lemmas.List.Elements.{All-cons, All-nil}
use Rattle.hv_asm.specs.Line.{line_of}
use Rattle.hv_asm.specs.Text.{at_line, if_read, lines_meant, script_meant, with_lines}
use Rattle.hv_asm.specs.declared.fault.AsmError.{AsmError}
use Rattle.hv_asm.specs.declared.fault.AsmFault.{AsmFault}
use Rattle.hv_asm.specs.declared.fault.AsmFault.TheVariants.{Script}
use Rattle.hv_script.specs.Line.{◌>>=◌}
use Rattle.hv_script.specs.Script.{read_lines, said_by, script_of}
use Rattle.hv_script.specs.Words.{lines_of}
use Rattle.hv_script.specs.declared.fault.FaultKind.TheVariants.{Long}
use Rattle.hv_script.specs.declared.fault.ScriptFault.{ScriptFault}
use Rattle.hv_script.specs.declared.script.TheConstants.{MOST_BYTES}
use Rattle.hv_serve.proofs.Lines.{IsOne, split_joined}
use Rattle.hv_serve.specs.Law.{plain_in}
use Rattle.hv_serve.specs.Meant.{if_meant, plain_of}
use Rattle.hv_serve.specs.Session.{AreTurns, Served, Turn, lines_in}
use Rattle.hv_serve.specs.declared.form.Form.{Form}

-- the lines that lines mean
lines_are : (number : ℕ) (lines plains : List (List ℕ)) → lines_meant number lines ≡ Ok plains → plains ≡ map (plain_of true) lines
lines_are number [] plains same = cc
lines_are number (line ∷ lines) plains same =
    at (line_of line) (lines_meant (number + 1) lines) (lines_are (number + 1) lines) same
  where
    at : (r : Result (List ℕ) AsmFault) (s : Result (List (List ℕ)) AsmError) → ((rest : List (List ℕ)) → s ≡ Ok rest → rest ≡ map (plain_of true) lines)
        → at_line number r >>= (λ first. s >>= (λ rest. Ok (first ∷ rest))) ≡ Ok plains → plains ≡ if_meant line r ∷ map (plain_of true) lines
    at (Ok first) (Ok rest) later same =
        let is : first ∷ rest ≡ plains = cc in
        sym is ∙ ap (λ (l : List (List ℕ)). first ∷ l) (later rest refl)
    at (Ok first) (Err error) later same = absurd (cc)
    at (Err fault) s later same = absurd (cc)

-- a script that is read is none that is too long
short : (n : ℕ) → nat_lt MOST_BYTES n ≡ false → n ≤ MOST_BYTES
short n is = grind (arith, nat_tests)

read_at : {T : Type 0} (script result : List ℕ) (t : Bool) (rest : Result T ScriptFault) → if_read script (cond t (Err (record { line = 0; kind = Long })) rest) ≡ Ok result
    → (t ≡ false) × (script ≡ result)
read_at script result true rest same = absurd (cc)
read_at script result false (Ok said) same = (refl, cc)
read_at script result false (Err fault) same = absurd (cc)

read_short : (script result : List ℕ) → if_read script (script_of {A = Global} script) ≡ Ok result → (length script ≤ MOST_BYTES) × (script ≡ result)
unfolding script_of
read_short script result same =
    let is = read_at script result (nat_lt MOST_BYTES (length script)) (read_lines 1 None (lines_of script) >>= (λ r. said_by r)) same in
    (short (length script) is.0, is.1)

meant_at : (t : Bool) (lines : List (List ℕ)) (meant : Result (List (List ℕ)) AsmError) (script : List ℕ) → lines_meant 1 lines ≡ meant
    → cond t (Err (record { line = 0; kind = Script Long })) ((meant >>= (λ lines. Ok ([] ++ join_with_byte 10 lines))) >>= (λ script. if_read script (script_of {A = Global} script))) ≡ Ok script
    → (length script ≤ MOST_BYTES) × (script ≡ join_with_byte 10 (map (plain_of true) lines))
meant_at true lines meant script is same = absurd (cc)
meant_at false lines (Err error) script is same = absurd (cc)
meant_at false lines (Ok plains) script is same =
    let text : List ℕ = join_with_byte 10 plains in
    let read = read_short text script same in
    (subst (λ (s : List ℕ). length s ≤ MOST_BYTES) read.1 read.0, sym read.1 ∙ ap (join_with_byte 10) (lines_are 1 lines plains is))

script_is : (text script : List ℕ) → script_meant text ≡ Ok script → (length script ≤ MOST_BYTES) × (script ≡ join_with_byte 10 (map (plain_of true) (lines_of text)))
unfolding script_meant
script_is text script same = meant_at (nat_lt MOST_BYTES (length text)) (lines_of text) (lines_meant 1 (lines_of text)) script refl same

-- the lines of a session are those of its text
all_ones : (form : Form) (names : Bool) (number : ℕ) (before : Option Served) (turns : List Turn) (after : Option Served) → AreTurns form names number before turns after → All IsOne (lines_in turns)
all_ones form names number before [] after none = All-nil IsOne
all_ones form names number before (turn ∷ turns) after some =
    All-cons IsOne turn.line (lines_in turns) some.1.one (all_ones form names (number + 1) some.0 turns after some.2)

plain_lines : (turns : List Turn) → map (plain_of true) (lines_in turns) ≡ plain_in true turns
plain_lines [] = refl
plain_lines (turn ∷ turns) = ap (λ (l : List (List ℕ)). plain_of true turn.line ∷ l) (plain_lines turns)

pub script_of_session : (form : Form) (text script : List ℕ) (turns : List Turn) (now : Served) → AreTurns form true 1 None turns (Some now) → text ≡ join_with_byte 10 (lines_in turns)
    → script_meant text ≡ Ok script → (length script ≤ MOST_BYTES) × (script ≡ join_with_byte 10 (plain_in true turns))
script_of_session form text script [] now are is same = absurd (cc)
script_of_session form text script (turn ∷ turns) now are is same =
    let cut : lines_of text ≡ lines_in (turn ∷ turns) = ap lines_of is ∙ split_joined turn.line (lines_in turns) (all_ones form true 1 None (turn ∷ turns) (Some now) are) in
    let read = script_is text script same in
    (read.0, read.1 ∙ ap (λ (ls : List (List ℕ)). join_with_byte 10 (map (plain_of true) ls)) cut ∙ ap (join_with_byte 10) (plain_lines (turn ∷ turns)))
