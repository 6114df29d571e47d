-- Defines the commands and their options, as a value of clap. For such a value and some arguments, clap's
-- `subcommand_of` gives the command, and `fault_of` the errors.
-- Source: the contracts of the crate clap.
-- Rules of this product: which commands and options exist.
use Rattle.std.specs.Prelude.{ℕ, true, Some, codes}
use Rattle.clap.specs.Words.{App, Rule, Text, new_app, new_rule, with_rule, with_subcommand}
use Rattle.clap.specs.declared.builder.ArgAction.TheVariants.{Set, SetTrue}
use Rattle.clap.specs.declared.builder.ValueParser.TheVariants.{Unsigned}

-- `value_option name` is the option `--name VALUE`, at most once.
abbrev pub value_option : Text → Rule
value_option name = record (new_rule name) { long = Some name; value_names = 1; action = Some Set }

-- `number_option name least most` is the option `--name NUMBER`, at most once, with a number from `least` to `most`.
abbrev pub number_option : Text → ℕ → ℕ → Rule
number_option name least most = record (value_option name) { parser = Some (Unsigned least most) }

-- `value_word name` is the argument `name`, which is given by its position, without an option's name.
abbrev pub value_word : Text → Rule
value_word name = record (new_rule name) { value_names = 1; action = Some Set }

-- `demanded rule` is `rule` for a required option or argument.
abbrev pub demanded : Rule → Rule
demanded rule = record rule { required = true }

-- `explain_flag` is `--explain`, which takes no value.
abbrev pub explain_flag : Rule
explain_flag = record (new_rule (codes "explain")) { long = Some (codes "explain"); action = Some SetTrue }

-- `check_app` is the command `check --schema FILE POLICIES [--explain]`.
abbrev pub check_app : App
check_app = with_rule (with_rule (with_rule (new_app (codes "check")) (demanded (value_option (codes "schema"))))
    (demanded (value_word (codes "policies")))) explain_flag

-- `decide_app` is the command `decide [--schema FILE] --policies FILE --entities FILE --request FILE [--explain]`. The
-- options of each command may be in any order.
abbrev pub decide_app : App
decide_app = with_rule (with_rule (with_rule (with_rule (with_rule (new_app (codes "decide"))
    (value_option (codes "schema"))) (demanded (value_option (codes "policies"))))
    (demanded (value_option (codes "entities")))) (demanded (value_option (codes "request")))) explain_flag

-- `site_option` is `--site NAME`; clap does not check the name.
abbrev pub site_option : Rule
site_option = demanded (value_option (codes "site"))

-- `serve_app` is this command, where NUMBER is below 2^32, MANY is from 1 to 1,024, and SECONDS is from 0 to 86,400 (a
-- day):
-- serve --schema FILE --site NAME --listen ADDRESS [--state FILE] [--connections NUMBER] [--clients MANY]
-- [--idle SECONDS] [--log FILE] [--explain]
abbrev pub serve_app : App
serve_app = with_rule (with_rule (with_rule (with_rule (with_rule (with_rule (with_rule (with_rule (with_rule
    (new_app (codes "serve")) (demanded (value_option (codes "schema")))) site_option)
    (demanded (value_option (codes "listen")))) (value_option (codes "state")))
    (number_option (codes "connections") 0 4294967295)) (number_option (codes "clients") 1 1024))
    (number_option (codes "idle") 0 86400))
    (value_option (codes "log"))) explain_flag

-- `pull_app` is the command `pull --schema FILE --site NAME --from ADDRESS --state FILE`.
abbrev pub pull_app : App
pull_app = with_rule (with_rule (with_rule (with_rule (new_app (codes "pull"))
    (demanded (value_option (codes "schema")))) site_option) (demanded (value_option (codes "from"))))
    (demanded (value_option (codes "state")))

-- `exchange_app` is the command `exchange --schema FILE --between ADDRESS --and ADDRESS`.
abbrev pub exchange_app : App
exchange_app = with_rule (with_rule (with_rule (new_app (codes "exchange"))
    (demanded (value_option (codes "schema")))) (demanded (value_option (codes "between"))))
    (demanded (value_option (codes "and")))

-- `merge_app` is the command `merge --schema FILE FIRST SECOND [--explain]`.
abbrev pub merge_app : App
merge_app = with_rule (with_rule (with_rule (with_rule (new_app (codes "merge"))
    (demanded (value_option (codes "schema")))) (demanded (value_word (codes "first"))))
    (demanded (value_word (codes "second")))) explain_flag

-- `drill_app` is the command `drill --schema FILE --sites NUMBER SCRIPT`, where NUMBER is from 1 to 64.
abbrev pub drill_app : App
drill_app = with_rule (with_rule (with_rule (new_app (codes "drill")) (demanded (value_option (codes "schema"))))
    (demanded (number_option (codes "sites") 1 64))) (demanded (value_word (codes "script")))

-- `explain_app` is the command `explain [--schema FILE] [--entities FILE] [--request FILE] WHAT`, where WHAT is a file
-- of policies or a code.
abbrev pub explain_app : App
explain_app = with_rule (with_rule (with_rule (with_rule (new_app (codes "explain")) (value_option (codes "schema")))
    (value_option (codes "entities"))) (value_option (codes "request"))) (demanded (value_word (codes "what")))

-- `load_app` is this command:
-- load --schema FILE --site NAME [--policies FILE] [--entities FILE] [--state FILE] [--explain]
abbrev pub load_app : App
load_app = with_rule (with_rule (with_rule (with_rule (with_rule (with_rule (new_app (codes "load"))
    (demanded (value_option (codes "schema")))) site_option) (value_option (codes "policies")))
    (value_option (codes "entities"))) (value_option (codes "state"))) explain_flag

-- `asks_for_command a` is `a` with a command required.
abbrev pub asks_for_command : App → App
asks_for_command a = record a { top = record a.top { subcommand_required = true } }

-- `with_version a` is `a` with the option `--version`.
abbrev pub with_version : App → App
with_version a = record a { top = record a.top { has_version = true } }

-- `site_app` is the program with all its commands.
abbrev pub site_app : App
site_app = with_subcommand (with_subcommand (with_subcommand (with_subcommand (with_subcommand (with_subcommand
    (with_subcommand (with_subcommand (with_subcommand (with_version (asks_for_command (new_app (codes "cedar_site"))))
    check_app.top) decide_app.top) load_app.top) serve_app.top) pull_app.top) exchange_app.top) merge_app.top)
    drill_app.top) explain_app.top
