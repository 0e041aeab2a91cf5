-- The command line, and what its words say.
use Rattle.std.specs.Prelude.{◌≡◌, Bool, true, false, List, [], ◌∷◌, Option, Some, codes, option_and_then}
use Rattle.std.specs.Prelude.{option_map}
use Rattle.std.specs.List.{list_all, list_any}
use Rattle.std.specs.Option.{option_map_or}
use Rattle.std.specs.Str.{bytes_eq}
use Rattle.clap.specs.Words.{App, Kinds, Row, Rule, Text, fault_of, first_of, new_app, subcommand_rows_of}
use Rattle.clap.specs.Words.{new_rule, subcommand_of, with_rule, with_subcommand}
use Rattle.clap.specs.declared.parser.matches.ArgMatches.{ArgMatches}
use Rattle.clap.specs.Simple.{on_top}
use Rattle.clap.specs.declared.builder.action.ArgAction.TheVariants.{SetTrue}
use Rattle.clap.specs.declared.error.kind.ErrorKind.{ErrorKind}
use Rattle.clap.specs.declared.error.kind.ErrorKind.TheVariants.{DisplayHelp, DisplayVersion}
use Rattle.hv_options.specs.declared.usage.Usage.{Usage}
use Rattle.hv_options.specs.declared.usage.Usage.TheVariants.{Help, Words, Memory}

-- the argument SCRIPT, which is required
abbrev pub script_rule : Rule
script_rule = record (new_rule (codes "SCRIPT")) { required = true }

-- a flag `--name`, which takes no value
abbrev pub flag_rule : Text → Rule
flag_rule name = record (new_rule name) { long = Some name; action = Some SetTrue }

-- `run SCRIPT --serial --table`
abbrev pub run_line : App
run_line = with_rule (with_rule (with_rule (new_app (codes "run")) script_rule)
    (flag_rule (codes "serial"))) (flag_rule (codes "table"))

-- `hvpm` alone, which has a version and needs a subcommand
abbrev pub bare_line : App
bare_line = on_top (λ s. record s { has_version = true; subcommand_required = true }) (new_app (codes "hvpm"))

-- the whole command line
abbrev pub command_line : App
command_line = with_subcommand bare_line run_line.top

-- clap's matches of `run`, if the words enter it
unfoldable pub run_matches : List Text → Option (List Row)
run_matches words = option_map (λ entered. entered.1) (subcommand_of command_line words)

-- the value `true` of a flag says that it was given
abbrev pub is_given : Text → List Row → Bool
is_given name rows = option_map_or (λ value. bytes_eq value (codes "true")) (first_of name rows) false

-- what the words say: the script, and whether `--serial` and `--table` were given
abbrev pub said_by_rows : List Row → Option (Text × Bool × Bool)
said_by_rows rows = option_map (λ script. (
  script,
  is_given (codes "serial") rows,
  is_given (codes "table") rows,
)) (first_of (codes "SCRIPT") rows)

-- what clap's matches say
abbrev pub said_by_matches : ArgMatches → Option (Text × Bool × Bool)
said_by_matches m =
    option_and_then said_by_rows (option_map (λ entered. entered.1) (subcommand_rows_of m))

-- what the words say, by clap's matches of them
abbrev pub said_by : List Text → Option (Text × Bool × Bool)
said_by words = option_and_then said_by_rows (run_matches words)

-- the kinds of clap's error for the words, or none if it accepts them
unfoldable pub faults_of : List Text → Kinds
faults_of words = fault_of command_line words

-- the kind of error that is no mistake: help or the version is to be shown
abbrev pub is_request : ErrorKind → Bool
is_request DisplayHelp = true
is_request DisplayVersion = true
is_request _ = false

-- help or the version was asked for, and nothing else can have been wrong
abbrev pub is_request_alone : Kinds → Bool
is_request_alone [] = false
is_request_alone (kind ∷ more) = list_all is_request (kind ∷ more)

-- a refusal explains these kinds: `Help` if help or the version was asked for, `Words` if not only that
abbrev pub Explains : Kinds → Usage → Type 0
Explains kinds (Help text) = list_any is_request kinds ≡ true
Explains kinds (Words text) = is_request_alone kinds ≡ false
Explains kinds Memory = Unit {0}
