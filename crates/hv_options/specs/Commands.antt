-- The command line of the whole program, and what its words say.
use Rattle.std.specs.Prelude.{Bool, true, false, not, List, Option, Some, None, codes, if◌then◌else◌}
use Rattle.std.specs.Prelude.{option_and_then, option_map}
use Rattle.std.specs.Str.{bytes_eq}
use Rattle.clap.specs.Words.{App, Kinds, Row, Rule, Text, fault_of, first_of, new_app, new_rule}
use Rattle.clap.specs.Words.{subcommand_of, subcommand_rows_of, with_rule, with_subcommand}
use Rattle.clap.specs.declared.parser.matches.ArgMatches.{ArgMatches}
use Rattle.hv_options.specs.Options.{bare_line, flag_rule, is_given, run_line, script_rule}
use Rattle.hv_options.specs.declared.usage.Command.{Command}
use Rattle.hv_options.specs.declared.usage.Command.TheVariants as command

-- the argument AUDIT, which is required or may be left out
abbrev pub audit_rule : Bool → Rule
audit_rule required = record (new_rule (codes "AUDIT")) { required = required }

-- a command that takes a script or its lines, with the flag `--names`
abbrev pub with_names : App → App
with_names line = with_rule line (flag_rule (codes "names"))

-- `run SCRIPT --serial --table --names`
abbrev pub named_run_line : App
named_run_line = with_names run_line

-- `check SCRIPT AUDIT --prefix --no-rules`
abbrev pub comparing_line : App
comparing_line = with_rule (with_rule (with_rule (with_rule (new_app (codes "check")) script_rule)
    (audit_rule true)) (flag_rule (codes "prefix"))) (flag_rule (codes "no-rules"))

-- and with `--json --names`
abbrev pub check_line : App
check_line = with_names (with_rule comparing_line (flag_rule (codes "json")))

-- `explain SCRIPT AUDIT --names`
abbrev pub explain_line : App
explain_line = with_names (with_rule (with_rule (new_app (codes "explain")) script_rule) (audit_rule false))

-- `trace SCRIPT AUDIT --perfetto --names`
abbrev pub trace_line : App
trace_line = with_names (with_rule (with_rule (with_rule (new_app (codes "trace")) script_rule)
    (audit_rule false)) (flag_rule (codes "perfetto")))

-- `report SCRIPT AUDIT --names`
abbrev pub report_line : App
report_line = with_names (with_rule (with_rule (new_app (codes "report")) script_rule) (audit_rule false))

-- `serve --json --names`
abbrev pub serve_line : App
serve_line = with_names (with_rule (new_app (codes "serve")) (flag_rule (codes "json")))

-- an option `--name VALUE`
abbrev pub value_rule : Text → Rule
value_rule name = record (new_rule name) { long = Some name; value_names = 1 }

-- `draw SCRIPT AUDIT --sequence`
abbrev pub drawing_line : App
drawing_line = with_rule (with_rule (with_rule (new_app (codes "draw")) script_rule) (audit_rule false))
    (flag_rule (codes "sequence"))

-- and with `--to N --from N --only ID --names`
abbrev pub draw_line : App
draw_line = with_names (with_rule (with_rule (with_rule drawing_line (value_rule (codes "to")))
    (value_rule (codes "from"))) (value_rule (codes "only")))

-- the argument FILE, which is required
abbrev pub file_rule : Rule
file_rule = record (new_rule (codes "FILE")) { required = true }

-- `asm FILE`
abbrev pub asm_line : App
asm_line = with_rule (new_app (codes "asm")) file_rule

-- a command line, with the commands that read a script, or an audit beside it
abbrev pub with_audits : App → App
with_audits line = with_subcommand (with_subcommand (with_subcommand (with_subcommand (with_subcommand line
    named_run_line.top) check_line.top) explain_line.top) trace_line.top) report_line.top

-- and with the others
abbrev pub with_others : App → App
with_others line = with_subcommand (with_subcommand (with_subcommand line serve_line.top) draw_line.top)
    asm_line.top

-- the whole command line
abbrev pub program_line : App
program_line = with_others (with_audits bare_line)

-- a request: a command, with the names of its files and its flags
pub data Asked : Type 0 where
  Run : (script : Text) (serial table names : Bool) → Asked
  Check : (script audit : Text) (prefix rules json names : Bool) → Asked
  Explain : (script : Text) (audit : Option Text) (names : Bool) → Asked
  Trace : (script : Text) (audit : Option Text) (perfetto names : Bool) → Asked
  Report : (script : Text) (audit : Option Text) (names : Bool) → Asked
  Serve : (json names : Bool) → Asked
  Draw : (script : Text) (audit : Option Text) (sequence : Bool) (to from only : Option Text) (names : Bool)
      → Asked
  Asm : (file : Text) → Asked

-- the request of a command
abbrev pub asked_for : Command → Asked
asked_for (command.Run options names) = Run options.script.now options.serial options.table names
asked_for (command.Check script audit prefix rules json names) = Check script.now audit.now prefix rules json
    names
asked_for (command.Explain script audit names) = Explain script.now (option_map (λ name. name.now) audit)
    names
asked_for (command.Trace script audit perfetto names) = Trace script.now
    (option_map (λ name. name.now) audit) perfetto names
asked_for (command.Report script audit names) = Report script.now (option_map (λ name. name.now) audit) names
asked_for (command.Serve json names) = Serve json names
asked_for (command.Draw script audit sequence to from only names) = Draw script.now
    (option_map (λ name. name.now) audit) sequence (option_map (λ number. number.now) to)
    (option_map (λ number. number.now) from) (option_map (λ word. word.now) only) names
asked_for (command.Asm file) = Asm file.now

-- what the arguments of each command ask for. A flag that was given has the value `true`
abbrev pub script_in : List Row → Option Text
script_in rows = first_of (codes "SCRIPT") rows

abbrev pub audit_in : List Row → Option Text
audit_in rows = first_of (codes "AUDIT") rows

abbrev pub run_by : List Row → Option Asked
run_by rows = option_map (λ script. Run script (is_given (codes "serial") rows)
    (is_given (codes "table") rows) (is_given (codes "names") rows)) (script_in rows)

abbrev pub check_by : List Row → Option Asked
check_by rows = option_and_then (λ script. option_map (λ audit.
    Check script audit (is_given (codes "prefix") rows) (not (is_given (codes "no-rules") rows))
    (is_given (codes "json") rows) (is_given (codes "names") rows)) (audit_in rows)) (script_in rows)

abbrev pub explain_by : List Row → Option Asked
explain_by rows = option_map (λ script. Explain script (audit_in rows) (is_given (codes "names") rows))
    (script_in rows)

abbrev pub trace_by : List Row → Option Asked
trace_by rows = option_map (λ script. Trace script (audit_in rows) (is_given (codes "perfetto") rows)
    (is_given (codes "names") rows)) (script_in rows)

abbrev pub report_by : List Row → Option Asked
report_by rows = option_map (λ script. Report script (audit_in rows) (is_given (codes "names") rows))
    (script_in rows)

abbrev pub serve_by : List Row → Asked
serve_by rows = Serve (is_given (codes "json") rows) (is_given (codes "names") rows)

abbrev pub draw_by : List Row → Option Asked
draw_by rows = option_map (λ script. Draw script (audit_in rows) (is_given (codes "sequence") rows)
    (first_of (codes "to") rows) (first_of (codes "from") rows) (first_of (codes "only") rows)
    (is_given (codes "names") rows)) (script_in rows)

abbrev pub asm_by : List Row → Option Asked
asm_by rows = option_map (λ file. Asm file) (first_of (codes "FILE") rows)

-- what the subcommand of this name asks for with these arguments
abbrev pub asked_by_rows : Text → List Row → Option Asked
asked_by_rows name rows =
    if bytes_eq name (codes "run") then run_by rows
    else (if bytes_eq name (codes "check") then check_by rows
    else (if bytes_eq name (codes "explain") then explain_by rows
    else (if bytes_eq name (codes "trace") then trace_by rows
    else (if bytes_eq name (codes "report") then report_by rows
    else (if bytes_eq name (codes "serve") then Some (serve_by rows)
    else (if bytes_eq name (codes "draw") then draw_by rows
    else (if bytes_eq name (codes "asm") then asm_by rows else None)))))))

abbrev pub asked_by_entered : Option (Text × List Row) → Option Asked
asked_by_entered entered = option_and_then (λ e. asked_by_rows e.0 e.1) entered

-- what clap's matches ask for
abbrev pub asked_by_matches : ArgMatches → Option Asked
asked_by_matches m = asked_by_entered (subcommand_rows_of m)

-- the subcommand that the words enter, with clap's matches of it
unfoldable pub entered_by : List Text → Option (Text × List Row)
entered_by words = subcommand_of program_line words

-- what the words ask for, by clap's matches of them
abbrev pub asked_by : List Text → Option Asked
asked_by words = asked_by_entered (entered_by words)

-- the kinds of clap's error for the words, or none if it accepts them
unfoldable pub program_faults : List Text → Kinds
program_faults words = fault_of program_line words
