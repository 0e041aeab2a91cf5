-- What the clauses of clap give the program.
use Rattle.std.proofs.Common.{◌≡◌, ◌≢◌, ◌∙◌, Bool, true, false, List, [], ◌∷◌, Option, Some, None, refl, sym, ap, subst, codes, inl, inr, rules, option_and_then, option_map, Result}
use Rattle.std.proofs.Math.Bool.{or-true, and-false}
use Rattle.clap.specs.Words.{App, HasKind, IsAmong, Kinds, HasMatchesOf, FailsBy, Row, Text, fault_of, first_of, first_value, is_simple, is_simple_and_free, kind_of, rows_of, subcommand_of}
use Rattle.clap.specs.Words.{subcommand_rows_of}
use Rattle.clap.proofs.OnLiterals.{clap_on_literals}
use Rattle.clap.proofs.WalkLemmas.{first_value-rows}
use Rattle.clap.specs.declared.parser.matches.Found.{Found}
use Rattle.clap.specs.declared.error.Error.{Error}
use Rattle.clap.specs.declared.error.kind.ErrorKind.{ErrorKind}
use Rattle.clap.specs.declared.error.kind.ErrorKind.TheVariants.{OutOfMemory}
use Rattle.std.specs.List.{list_all, list_any}
use Rattle.clap.specs.declared.parser.matches.ArgMatches.{ArgMatches}
use Rattle.hv_options.specs.Options.{command_line, faults_of, is_given, is_request, is_request_alone, run_matches, said_by, said_by_matches, said_by_rows}

-- the command line is one of which clap's words give the matches and the faults
pub is_simple_line : is_simple_and_free command_line ≡ true
unfolding clap_on_literals
is_simple_line = refl

pub is_simple_command : is_simple command_line ≡ true
unfolding clap_on_literals
is_simple_command = refl

-- what the matches of the words say is what the words say
pub said_by_matches-words : (a : App) (words : List Text) (m : ArgMatches) → a ≡ command_line → HasMatchesOf a words m
    → said_by_matches m ≡ said_by words
unfolding run_matches
said_by_matches-words a words m line has =
    let rows = (has (ap is_simple line ∙ is_simple_command)).1 in
    let P : App → Type 0 = λ b. subcommand_rows_of m ≡ subcommand_of b words in
    ap (λ (o : Option (Text × List Row)). option_and_then said_by_rows (option_map (λ entered. entered.1) o)) (subst P line rows)

-- the kinds of clap's error are the faults of the words
pub fails_by_faults : {T : Type 0} (a : App) (words : List Text) (r : Result T Error) → a ≡ command_line
    → (is_simple_and_free a ≡ true → FailsBy (fault_of a words) r) → FailsBy (faults_of words) r
unfolding faults_of
fails_by_faults {T} a words r line fails =
    let P : App → Type 0 = λ b. FailsBy (fault_of b words) r in
    subst P line (fails (ap is_simple_and_free line ∙ is_simple_line))

-- what a getter reads of the matches is what it reads of their rows
pub read_of_rows : (f : Found) (name : Text) (o : Option Text) → o ≡ first_value f name → first_of name (rows_of f) ≡ o
read_of_rows f name o e = sym (e ∙ first_value-rows f name)

-- what matches say that entered a subcommand with these rows
pub said_of_rows : (m : ArgMatches) (rows : List Row) → Some rows ≡ option_map (λ entered. entered.1) (subcommand_rows_of m)
    → said_by_matches m ≡ said_by_rows rows
said_of_rows m rows e = ap (option_and_then said_by_rows) (sym e)

pub said_nothing : (rows : List Row) → first_of (codes "SCRIPT") rows ≡ None → said_by_rows rows ≡ None
said_nothing rows e =
    ap (option_map (λ (script : Text). (script, is_given (codes "serial") rows, is_given (codes "table") rows))) e

pub said_all : (rows : List Row) (script : Text) (serial table : Bool) → first_of (codes "SCRIPT") rows ≡ Some script
    → serial ≡ is_given (codes "serial") rows → table ≡ is_given (codes "table") rows
    → said_by_rows rows ≡ Some (script, serial, table)
said_all rows script serial table e s t =
    let said = ap (option_map (λ (script : Text). (script, is_given (codes "serial") rows, is_given (codes "table") rows))) e in
    rw (s, t) said

-- where the words have no fault, an error is one for memory
pub only_memory : (e : Error) → HasKind [] e → kind_of e ≡ OutOfMemory
only_memory e (inl memory) = memory
only_memory e (inr none) = absurd none

-- of kinds with a request among them, a request was made
is_asked : (k : ErrorKind) (kinds : Kinds) → IsAmong k kinds → is_request k ≡ true → list_any is_request kinds ≡ true
is_asked k [] none asked = absurd none
is_asked k (x ∷ xs) (inl e) asked = let same : is_request x ≡ true = rw (← e) asked in rw same refl
is_asked k (x ∷ xs) (inr more) asked = rw (is_asked k xs more asked) (or-true _)

-- of kinds with a mistake among them, not each is a request
is_mistaken : (k : ErrorKind) (kinds : Kinds) → IsAmong k kinds → is_request k ≡ false → list_all is_request kinds ≡ false
is_mistaken k [] none mistaken = absurd none
is_mistaken k (x ∷ xs) (inl e) mistaken = let same : is_request x ≡ false = rw (← e) mistaken in rw same refl
is_mistaken k (x ∷ xs) (inr more) mistaken = rw (is_mistaken k xs more mistaken) (and-false _)

not_alone : (k : ErrorKind) (kinds : Kinds) → IsAmong k kinds → is_request k ≡ false → is_request_alone kinds ≡ false
not_alone k [] none mistaken = refl
not_alone k (x ∷ xs) among mistaken = is_mistaken k (x ∷ xs) among mistaken

-- what an error that is a request says of the kinds, and what one that is a mistake says
pub explains_request : (e : Error) (kinds : Kinds) → HasKind kinds e → is_request (kind_of e) ≡ true
    → list_any is_request kinds ≡ true
explains_request e kinds (inl memory) asked = let bad : false ≡ true = ap is_request (sym memory) ∙ asked in absurd (search rules)
explains_request e kinds (inr among) asked = is_asked (kind_of e) kinds among asked

pub explains_mistake : (e : Error) (kinds : Kinds) → HasKind kinds e → kind_of e ≢ OutOfMemory
    → is_request (kind_of e) ≡ false → is_request_alone kinds ≡ false
explains_mistake e kinds (inl memory) other mistaken = absurd (other memory)
explains_mistake e kinds (inr among) other mistaken = not_alone (kind_of e) kinds among mistaken
