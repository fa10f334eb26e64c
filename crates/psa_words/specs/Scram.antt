-- The command as the parser of words has it.
use Rattle.std.specs.Prelude.{true, [], ◌∷◌, ◌++◌, Some, codes, map, if◌then◌else◌}
use Rattle.clap.specs.Words.{App, Rule, Text, new_rule}
use Rattle.clap.specs.Simple.{Shape, new_shape}
use Rattle.clap.specs.declared.builder.action.ArgAction.TheVariants.{Append, Set, SetTrue}
use Rattle.psa_words.specs.Options.{Setting, limit_order, letter_l, name_of, takes_value, every_setting}

-- a flag, an option whose value is kept as text, the order limit, and the files, of which each word is a use of its own
abbrev pub flag_rule : Text → Rule
flag_rule name = record (new_rule name) { long = Some name; action = Some SetTrue }

abbrev pub valued_rule : Text → Rule
valued_rule name = record (new_rule name) { long = Some name; action = Some Set }

abbrev pub limit_rule : Rule
limit_rule = record (valued_rule (name_of limit_order)) { short = Some letter_l }

abbrev pub file_rule : Rule
file_rule = record (new_rule (codes "file")) { action = Some Append }

abbrev pub option_rule : Setting → Rule
option_rule limit_order = limit_rule
option_rule setting = if takes_value setting then valued_rule (name_of setting) else flag_rule (name_of setting)

-- the command with these arguments, without flags for help and the version
abbrev pub blank_shape : Shape
blank_shape = record (new_shape (codes "scram")) { no_binary_name = true; disable_help_flag = true; disable_version_flag = true }

abbrev pub scram_shape : Shape
scram_shape = record blank_shape { rules = map option_rule every_setting ++ file_rule ∷ [] }

unfoldable pub scram : App
scram = record { top = scram_shape; subs = [] }
